-- Why a field does not read of which an interval at the front is no cell: a cell gives two bits at most, so that a
-- field of n bytes uses more than 4 n intervals, and it stops at one that is no cell. Rests on no axiom.
use Prim.Native.Nat.{ℕ, zero, suc, ◌+◌, ◌*◌, ◌≤◌}
use mathlib.Core.Path.{◌≡◌, refl, sym, ◌∙◌}
use mathlib.Core.Bool.{true, false, true≢false}
use mathlib.Core.List.{List, ◌∷◌}
use mathlib.Mathlib.Data.Bool.Basic.{eq-false_of_not-eq-true}
use native.Mathlib.Omega.{arith}
use lib.ListN.{take}
use Rattle.lists.specs.Place.{everywhere}
use Rattle.lists.proofs.BoolLaws.{both}
use Rattle.timing.specs.Class.{is_cell, classes_of}
use Rattle.timing.specs.declared.Profile.{Profile}
use Rattle.timing.specs.declared.Class.{Class}
use Rattle.timing.proofs.ClassLaws.{classes_of-take}
use Rattle.symbols.specs.Bits.{Bit, O}
use Rattle.symbols.specs.Reading.{last_after}
use Rattle.symbols.specs.declared.Cell.{Cell}
use Rattle.symbols.proofs.CellLaws.{given_at_most_two}
use Rattle.intervals.proofs.CellLaws.{ReadAs, as_short, as_medium, as_long}
use Rattle.fields.specs.Field.{wanted_after, stop_from, field_stop, bits_wanted}
use Rattle.fields.proofs.TakenLaws.{by_taking, stop_one_more}
use Rattle.fields.proofs.RuleLaws.{gather_stops_nowhere, gather_accepts}
use Rattle.entries.specs.machine.Steps.{opens}
use Rattle.entries.proofs.OpeningLaws.{reading_is_accepted}

-- ---- the front of a field

read_is_cell : {c : Class} {x : Cell} → ReadAs c x → is_cell c ≡ true
read_is_cell as_short = refl
read_is_cell as_medium = refl
read_is_cell as_long = refl

-- so many intervals are used at least, and a field stops at one that is no cell
abbrev SoundFront : List Class → ℕ → Bit → Type 0
SoundFront cs want b =
    (k m : ℕ) → 2 * m ≤ want + 1 → (stop_from cs k want b).number ≡ 0 → everywhere is_cell (take m cs) ≡ true

none_wanted : (cs : List Class) (m : ℕ) → 2 * m ≤ 1 → everywhere is_cell (take m cs) ≡ true
unfolding everywhere
none_wanted cs zero few = refl
none_wanted cs (suc m) few = absurd (omega arith)

one_more
    : (c : Class) (x : Cell)
    → ReadAs c x
    → (cs : List Class) (want : ℕ) (b : Bit)
    → SoundFront cs (wanted_after (suc want) b x) (last_after b x)
    → SoundFront (c ∷ cs) (suc want) b
unfolding everywhere
one_more c x read cs want b rest k zero few e = refl
one_more c x read cs want b rest k (suc m) few e =
    let more = rw (stop_one_more read cs want b k) at e in
    cc (read_is_cell read, rest (suc k) m (omega (arith, given_at_most_two b x, few)) more)

front_is_cells : (cs : List Class) (want : ℕ) (b : Bit) → SoundFront cs want b
front_is_cells =
    by_taking SoundFront (λ cs want b none fair k m few e. none_wanted cs m (omega (arith, fair k e, few))) one_more

module _ (p : Profile) (ds : List ℕ) (n kind : ℕ) where
  sound_front : (m : ℕ) → m ≤ 4 * n → opens p ds n kind ≡ true → everywhere is_cell (classes_of p (take m ds)) ≡ true
  unfolding opens field_stop
  sound_front m few e =
      let does = (both _ _ e).0 in
      let accepts = gather_accepts p ds n n (reading_is_accepted p ds n does) in
      rw (classes_of-take p m ds)
      (front_is_cells (classes_of p ds) (bits_wanted n) O 0 m (omega arith)
      (gather_stops_nowhere (classes_of p ds) n accepts))

  pub harmed_opens_nothing
      : (m : ℕ) → m ≤ 4 * n → everywhere is_cell (classes_of p (take m ds)) ≡ false → opens p ds n kind ≡ false
  harmed_opens_nothing m few none = eq-false_of_not-eq-true (λ e. true≢false (sym (sound_front m few e) ∙ none))
