-- A part of a buffer that is filled with one number is that number stored so many times. Rests on no axiom.
use Prim.Native.Nat.{ℕ, ◌+◌, ◌-◌, ◌≤◌}
use mathlib.Core.Path.{◌≡◌, refl, sym, ap, ◌∙◌}
use mathlib.Core.List.{List, ◌++◌}
use native.Mathlib.Omega.{arith}
use lib.ListN.{length, take, drop, replicate, length-replicate, length-drop}
use lib.Seq.{sets-eq, length-take-le, take-length}
use borrow.Rule.Slice.PartMut.{put_mid}
use Rattle.std.proofs.lemmas.Slice.{put_mid-paste}
use Rattle.lists.specs.Filled.{stored_at}

-- a part of a list is as long as it is cut
part_length
    : (at count : ℕ) (old : List ℕ)
    → at + count ≤ length old
    → length (take (at + count - at) (drop at old)) ≡ count
part_length at count old room =
    length-take-le (at + count - at) (drop at old) (rw length-drop (omega arith)) ∙ omega arith

pub filled_part_is_stored
    : (at count item : ℕ) (old new : List ℕ)
    → at + count ≤ length old
    → new ≡ replicate (length (take (at + count - at) (drop at old))) item
    → put_mid at (at + count - at) old new ≡ stored_at old at (replicate count item)
unfolding stored_at
filled_part_is_stored at count item old new room e =
    let run = replicate count item in
    let size : length run ≡ count = length-replicate count item in
    let same : new ≡ run = e ∙ ap (λ (n : ℕ). replicate n item) (part_length at count old room) in
    put_mid-paste at (at + count - at) old new run (length run) same (omega (arith, size)) refl
    ∙ ap (λ (xs : List ℕ). take at old ++ xs ++ drop (at + length run) old) (take-length run)
    ∙ sym (sets-eq run old at (omega (arith, size)))
