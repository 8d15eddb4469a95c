-- Why a stream that is read from its middle on is in step behind the first interval that is not read as class 2: a cell
-- of class 2 is one after either kind; one of class 3 after a longer cell is below the bound to class 4 of both kinds,
-- and one of class 4 below Rpt. Rests on no axiom.
use Prim.Native.Nat.{ℕ, zero, suc, ◌+◌, ◌≤◌}
use mathlib.Core.Path.{◌≡◌, refl, ap, ◌∙◌}
use mathlib.Core.Bool.{Bool, true, false}
use mathlib.Core.List.{List, [], ◌∷◌, map}
use native.Mathlib.Omega.{arith}
use native.Mathlib.Decide.{dec_lt}
use lib.Dec.{eqb}
use lib.ListN.{drop}
use Rattle.timing.specs.Class.{cursor_of, at_start, is_two, class_number, classes_from, class_of, classes_of}
use Rattle.timing.specs.declared.Profile.{Profile}
use Rattle.timing.specs.declared.Class.{Class}
use Rattle.timing.specs.declared.Class.TheVariants.{Two, Three, Four}
use Rattle.timing.proofs.ProfileLaws.{Kept}
use Rattle.timing.proofs.ClassLaws.{class_below_b23_is_two, class_below_b34_is_three, class_below_rpt_is_four}
use Rattle.timing.proofs.ClassLaws.{classes_none, classes_of-cons}
use Rattle.timing.proofs.MiddleLaws.{Behind, in_step, missed, misread}
use Rattle.symbols.specs.Cells.{written_cells}
use Rattle.lengths.specs.Stream.{byte_stream}
use Rattle.lengths.specs.Units.{class_of_units}
use Rattle.lengths.proofs.NearLaws.{Near}
use Rattle.lengths.proofs.KindLaws.{CellLength, two_long, three_long, four_long, CellLengths, stream_has_cells}
use Rattle.lengths.proofs.WindowLaws.{Spare, near_lengths_have_classes}

three_is_not_two : Three ≡ Two → ⊥
three_is_not_two e = let z : ◌≡◌ {A = ℕ} 3 2 = ap class_number e in omega arith

four_is_not_two : Four ≡ Two → ⊥
four_is_not_two e = let z : ◌≡◌ {A = ℕ} 4 2 = ap class_number e in omega arith

module _ {p : Profile} {m : ℕ} (s : Spare p m) where
  -- the first interval, by its class after class 2
  module _ (d : ℕ) (ds : List ℕ) where
    as_class
        : (x : Class)
        → class_of p true d ≡ x
        → classes_from (cursor_of p true) (d ∷ ds) ≡ x ∷ classes_from (cursor_of p (is_two x)) ds
    as_class x e =
        classes_of-cons p true d ds ∙ ap (λ (y : Class). y ∷ classes_from (cursor_of p (is_two y)) ds) e

    -- one that is no more than m from a length that is written after a longer cell
    first_read
        : {l u : ℕ} (us : List ℕ)
        → CellLength p l false u
        → d ≤ l + m
        → l ≤ d + m
        → ((two : Bool) → two ≡ eqb u 2 → classes_from (cursor_of p two) ds ≡ map class_of_units us)
        → (eqb u 2 ≡ false → Behind (classes_from (cursor_of p true) ds) (map class_of_units us))
        → Behind (classes_from (cursor_of p true) (d ∷ ds)) (class_of_units u ∷ map class_of_units us)
    unfolding class_of_units
    first_read us (two_long low high) above below then again =
        in_step (as_class Two (class_below_b23_is_two p true d (omega arith) (omega arith))
        ∙ ap (λ (cs : List Class). Two ∷ cs) (then true refl))
    first_read us (three_long low high) above below then again =
        elim (dec_lt d p.short.b23.0) [
          | yes short ↦
              rw (as_class Two (class_below_b23_is_two p true d (omega arith) short))
              (missed three_is_not_two (again refl))
          | no long ↦
              in_step (as_class Three (class_below_b34_is_three p true d (omega arith) (omega arith) (omega arith))
              ∙ ap (λ (cs : List Class). Three ∷ cs) (then false refl))
        ]
    first_read us (four_long low high) above below then again =
        elim (dec_lt d p.short.b23.0) [
          | yes short ↦
              rw (as_class Two (class_below_b23_is_two p true d (omega arith) short))
              (missed four_is_not_two (again refl))
          | no long ↦
              elim (dec_lt d p.short.b34.0) [
                | yes shorter ↦
                    rw (
                      as_class Three (class_below_b34_is_three p true d (omega arith) (omega arith) shorter),
                      then false refl,
                    )
                    misread
                | no longer ↦
                    in_step
                    (as_class Four
                    (class_below_rpt_is_four p true d (omega arith) (omega arith) (omega arith) (omega arith))
                    ∙ ap (λ (cs : List Class). Four ∷ cs) (then false refl))
              ]
        ]

  -- a stream from a place on, whatever cell stands before it
  pub read_from_middle
      : (us ls ds : List ℕ) (two : Bool)
      → CellLengths p two us ls
      → Near m ds ls
      → Behind (classes_from (cursor_of p true) ds) (map class_of_units us)
  unfolding CellLengths Near
  read_from_middle us ls ds true w n = in_step (near_lengths_have_classes s us ls ds true w n)
  read_from_middle [] [] [] false w n = in_step (classes_none (cursor_of p true))
  read_from_middle [] [] (d ∷ ds) false w n = absurd n
  read_from_middle [] (l ∷ ls) ds false w n = absurd w
  read_from_middle (u ∷ us) [] ds false w n = absurd w
  read_from_middle (u ∷ us) (l ∷ ls) [] false w n = absurd n
  read_from_middle (u ∷ us) (l ∷ ls) (d ∷ ds) false w n =
      first_read d ds us w.0 n.0 n.1
      (λ two e. near_lengths_have_classes s us ls ds two (rw e w.1) n.2)
      (λ e. read_from_middle us ls ds false (rw e at w.1) n.2)

-- ---- from a place on

cell_lengths_drop
    : (p : Profile) (us ls : List ℕ) (k : ℕ) (two : Bool)
    → CellLengths p two us ls
    → (before : Bool) × CellLengths p before (drop k us) (drop k ls)
unfolding CellLengths
cell_lengths_drop p us ls zero two w = (two, w)
cell_lengths_drop p [] [] (suc k) two w = (two, w)
cell_lengths_drop p [] (l ∷ ls) (suc k) two w = absurd w
cell_lengths_drop p (u ∷ us) [] (suc k) two w = absurd w
cell_lengths_drop p (u ∷ us) (l ∷ ls) (suc k) two w = cell_lengths_drop p us ls k (eqb u 2) w.1

near_drop : (m : ℕ) (ds ls : List ℕ) (k : ℕ) → Near m ds ls → Near m (drop k ds) (drop k ls)
unfolding Near
near_drop m ds ls zero n = n
near_drop m [] [] (suc k) n = n
near_drop m [] (l ∷ ls) (suc k) n = absurd n
near_drop m (d ∷ ds) [] (suc k) n = absurd n
near_drop m (d ∷ ds) (l ∷ ls) (suc k) n = near_drop m ds ls k n.2

map_drop : (k : ℕ) (us : List ℕ) → map class_of_units (drop k us) ≡ drop k (map class_of_units us)
map_drop zero us = refl
map_drop (suc k) [] = refl
map_drop (suc k) (u ∷ us) = map_drop k us

-- a search from any start has the stream's classes behind the first that it does not read as class 2
pub search_is_behind
    : {p : Profile} {m : ℕ}
    → Spare p m
    → Kept p
    → (ws ds : List ℕ)
    → Near m ds (byte_stream p ws)
    → (start : ℕ)
    → Behind (classes_of p (drop start ds)) (drop start (map class_of_units (written_cells ws)))
unfolding classes_of at_start
search_is_behind {p} {m} s k ws ds n start =
    let (before, w) = cell_lengths_drop p (written_cells ws) (byte_stream p ws) start true (stream_has_cells k ws) in
    rw (← map_drop start (written_cells ws))
    (read_from_middle s (drop start (written_cells ws)) (drop start (byte_stream p ws)) (drop start ds) before w
    (near_drop m ds (byte_stream p ws) start n))
