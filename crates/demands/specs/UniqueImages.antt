-- Request (v), demand 3 on images: unique reading speaks of images as well. No lemmas here.
use Rattle.std.specs.Prelude.{ℕ, ◌≡◌, List}
use Rattle.images.specs.Image.{image_of}
use Rattle.images.specs.Claims.{Images}
use Rattle.demands.specs.Streams.{AcceptedList}

pub record UniqueImages : Type 0 where
  -- two different lists of data and mark bytes never give one image
  pub never_one_image
      : (us ws : List ℕ) → AcceptedList us → AcceptedList ws → (us ≡ ws → ⊥) → image_of us ≡ image_of ws → ⊥
  -- and the laws of images, which need no profile
  pub laws : Images
