-- The claim on bit images: each of its sentences is a law of words, distances or images, at a list that starts after
-- data bit 0. Rests on no axiom.
use Prim.Native.Nat.{ℕ, ◌≤◌}
use mathlib.Core.Path.{◌≡◌, refl, sym, ap, ◌∙◌}
use mathlib.Core.Bool.{true}
use mathlib.Core.List.{List}
use lib.ListN.{length}
use Rattle.lists.specs.Place.{everywhere}
use Rattle.refusal.specs.Answer.{Answer}
use Rattle.items.specs.Item.{is_byte}
use Rattle.items.specs.Written.{written}
use Rattle.items.specs.Rule.{list_rule}
use Rattle.items.proofs.ItemLaws.{bytes_have_no_check}
use Rattle.items.proofs.RuleLaws.{listed, bytes_are_listed}
use Rattle.items.proofs.WrittenLaws.{written_are_bytes, written_of_no_check, length_of_written}
use Rattle.symbols.specs.Bits.{O, written_bits}
use Rattle.words.specs.Words.{last_bit}
use Rattle.images.specs.Image.{image_of, unruly_in, bytes_in, bytes_from}
use Rattle.images.specs.Rules.{make_rule, read_image_rule, words_rule}
use Rattle.images.specs.Claims.{ReadsAs, Images}
use Rattle.images.proofs.DistanceLaws.{distances_are_cells}
use Rattle.images.proofs.ImageLaws.{length_of_image, length_of_bytes, ruly_is_read, read_of_made}
use Rattle.images.proofs.RuleLaws.{front_of_made, words_of_accepted, accepted_of_words, accepted_in_room}
use Rattle.images.proofs.RuleLaws.{reads_as_its_bytes}
use Rattle.images.proofs.WordLaws.{word_is_kept, last_bit_is_data, all_kept}
use Rattle.images.proofs.CountLaws.{ones_of_word, cells_count}

-- the image of at most 6,400 bytes reads as them
image_reads_back : (ws output : List ℕ) → everywhere is_byte ws ≡ true → length ws ≤ 6400 → length ws ≤ length output
    → ReadsAs (image_of ws) output ws
unfolding image_of unruly_in bytes_in
image_reads_back ws output bytes few room =
    let count : length (image_of ws) ≡ length ws = length_of_image O ws in
    let (ruly, read) = read_of_made (all_kept O ws refl bytes) in
    reads_as_its_bytes (image_of ws) output ws
    (accepted_of_words (image_of ws) (rw count few) ruly) (rw count room) (sym count)
    read

pub images : Images
unfolding image_of unruly_in bytes_in make_rule read_image_rule
images =
    record {
      ones_are_transitions = λ before w byte.
          let kept = word_is_kept (last_bit before) w (last_bit_is_data before) byte in
          ones_of_word (last_bit before) w kept
          ∙ cells_count (last_bit before) (written_bits w) kept.letters_are_sound;
      distances_are_cells = distances_are_cells;
      made_reads_back = λ items made output h room.
          let list = listed items (accepted_in_room (list_rule items) _ _ h).0 in
          rw (front_of_made items made h)
          (image_reads_back (written items) output (written_are_bytes items list.none_foreign)
          (rw (length_of_written items) list.few_bytes) room);
      read_is_made = λ words output h.
          let (ruly, room) = accepted_in_room (words_rule words) _ _ h in
          let (few, none) = words_of_accepted words ruly in
          let read = ruly_is_read O words refl none in
          let ws = bytes_in words in
          let count : length ws ≡ length words = length_of_bytes O words in (
            ws,
            read.bytes,
            ap (λ (a : Answer). a.number) (bytes_are_listed ws read.bytes (rw count few)),
            reads_as_its_bytes words output ws ruly room count refl,
            ap image_of (written_of_no_check ws (bytes_have_no_check ws read.bytes)) ∙ read.image,
          );
      one_list = λ us ws bytes_us bytes_ws e.
          sym (read_of_made (all_kept O us refl bytes_us)).1
          ∙ ap (bytes_from O) e
          ∙ (read_of_made (all_kept O ws refl bytes_ws)).1;
    }
