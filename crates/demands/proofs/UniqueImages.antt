-- Why two lists never give one image: an image reads as one list only. Rests on no axiom.
use Rattle.images.proofs.Claims.{images}
use Rattle.demands.specs.UniqueImages.{UniqueImages}
use Rattle.demands.proofs.ListLaws.{listed}

pub unique_images : UniqueImages
unique_images =
    record {
      never_one_image = λ us ws a b apart same. apart (images.one_list us ws (listed a).bytes (listed b).bytes same);
      laws = images;
    }
