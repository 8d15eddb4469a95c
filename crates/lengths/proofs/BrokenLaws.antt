-- Why one moved interval breaks a stream: those before it have their classes, so that it is classed after the same kind,
-- and its class is another one; so the stream's classes are other ones, though no interval is moved by more than n and
-- all still fit 16 bits.
use Prim.Native.Nat.{ℕ}
use native.Mathlib.Omega.{arith}
use native.Mathlib.Nat.{le_refl}
use mathlib.Core.Path.{◌≡◌, sym, ap, ap₂, ◌∙◌}
use mathlib.Core.List.{List, [], ◌∷◌}
use lib.ListN.{get_or, set, take}
use lib.Seq.{get_or-set_same, lt-length-set, take-set-le}
use Rattle.timing.specs.Class.{cursor_of, at_start, class_in, cursor_after, class_of, classes_of}
use Rattle.timing.specs.declared.Profile.{Profile}
use Rattle.timing.specs.declared.Class.{Class}
use Rattle.timing.specs.declared.Class.TheVariants.{Narrow}
use Rattle.timing.specs.declared.cursor.Cursor.{Cursor}
use Rattle.timing.proofs.ProfileLaws.{Kept}
use Rattle.timing.proofs.ClassLaws.{class_at}
use Rattle.symbols.specs.Cells.{written_cells}
use Rattle.lengths.specs.Stream.{byte_stream}
use Rattle.lengths.specs.Margin.{after_two, margin_of}
use Rattle.lengths.proofs.NearLaws.{Near, near_itself, near_with_one_moved}
use Rattle.lengths.proofs.WindowLaws.{near_stream_is_passed}
use Rattle.lengths.proofs.MarginLaws.{margin_leaves_room}
use Rattle.lengths.proofs.WitnessLaws.{Broken}

module _ {p : Profile} {n : ℕ} (x : Broken p n) where
  abbrev stream : List ℕ
  stream = byte_stream p (x.byte ∷ [])

  -- the stream with that one interval moved
  abbrev pub broken_stream : List ℕ
  broken_stream = set stream x.place x.moved

  pub broken_stream_is_near : Near n broken_stream stream
  broken_stream_is_near = near_with_one_moved n stream x.place x.moved x.not_longer x.not_shorter

  module _ (k : Kept p) where
    -- where the classing stands before it
    passed
        : cursor_after (at_start p) (take x.place stream)
        ≡ cursor_of p (after_two (written_cells (x.byte ∷ [])) x.place)
    passed =
        let inside = x.in_stream in
        near_stream_is_passed (margin_leaves_room k) k (x.byte ∷ []) stream (near_itself (margin_of p) stream)
        x.place (omega arith)

    same_front : take x.place broken_stream ≡ take x.place stream
    same_front = take-set-le x.place stream x.place x.moved (le_refl x.place)

    pub broken_stream_has_other_classes : classes_of p broken_stream ≡ classes_of p stream → ⊥
    unfolding classes_of class_of
    broken_stream_has_other_classes same =
        let moved = class_at (at_start p) broken_stream x.place
        (lt-length-set stream x.place x.moved x.in_stream) in
        let unmoved = class_at (at_start p) stream x.place x.in_stream in
        let there = get_or-set_same stream x.place x.moved 0 x.in_stream in
        let stands = ap (cursor_after (at_start p)) same_front ∙ passed in
        x.other_class
        (sym (ap₂ class_in stands there)
        ∙ sym moved
        ∙ ap (λ (cs : List Class). get_or cs x.place Narrow) same
        ∙ unmoved
        ∙ ap (λ (c : Cursor). class_in c (get_or stream x.place 0)) passed)
