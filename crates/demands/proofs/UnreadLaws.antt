-- The first interval that is narrow or wide: the strip reader and the field reader stop at it, the field reader only
-- where the intervals before it give fewer bits than are wanted. By induction on the classes. Rests on no axiom.
use Prim.Native.Nat.{ℕ, zero, suc, ◌+◌, ◌≤◌, ◌<◌}
use mathlib.Core.Path.{◌≡◌, refl, ap, ◌∙◌}
use mathlib.Core.Bool.{true, false}
use mathlib.Core.List.{List, [], ◌∷◌}
use native.Mathlib.Omega.{arith}
use lib.ListN.{length, get_or, take, length-append}
use Rattle.lists.specs.Place.{anywhere, lowest}
use Rattle.refusal.specs.Answer.{Answer, accepted, refused, first_refusal}
use Rattle.timing.specs.declared.Class.{Class}
use Rattle.timing.specs.declared.Class.TheVariants.{Narrow, Two, Three, Four, Wide}
use Rattle.symbols.specs.Bits.{Bit}
use Rattle.symbols.specs.Reading.{given, last_after, read_from}
use Rattle.symbols.specs.declared.Cell.{Cell}
use Rattle.symbols.specs.declared.Cell.TheVariants.{Short, Medium, Long}
use Rattle.intervals.specs.Cells.{edge_rule_from, cells_of_classes}
use Rattle.intervals.proofs.CellLaws.{ReadAs, as_short, as_medium, as_long}
use Rattle.fields.specs.Field.{wanted_after, stop_from}
use Rattle.demands.specs.Causes.{is_unread}

-- ---- the first of a list, and of a list with a cell before it

-- some interval is narrow or wide, and the first that is has class d
abbrev pub IsFirst : Class → List Class → Type 0
IsFirst d cs = (anywhere is_unread cs ≡ true) × (get_or cs (lowest is_unread cs) Two ≡ d)

-- the bits of the intervals before it, the last bit known being b
abbrev pub front_bits : Bit → List Class → ℕ
front_bits b cs = length (read_from b (cells_of_classes (take (lowest is_unread cs) cs)))

record OneMore (c : Class) (x : Cell) (cs : List Class) : Type 0 where
  read : anywhere is_unread (c ∷ cs) ≡ anywhere is_unread cs
  place : lowest is_unread (c ∷ cs) ≡ suc (lowest is_unread cs)
  bits : (b : Bit) → front_bits b (c ∷ cs) ≡ length (given b x) + front_bits (last_after b x) cs
  edges : (k : ℕ) → edge_rule_from k (c ∷ cs) ≡ edge_rule_from (suc k) cs

one_more : {c : Class} {x : Cell} → ReadAs c x → (cs : List Class) → OneMore c x cs
unfolding anywhere lowest cells_of_classes read_from edge_rule_from
one_more as_short cs =
    record { read = refl; place = refl; bits = λ b. length-append (given b Short) _; edges = λ k. refl }
one_more as_medium cs =
    record { read = refl; place = refl; bits = λ b. length-append (given b Medium) _; edges = λ k. refl }
one_more as_long cs =
    record { read = refl; place = refl; bits = λ b. length-append (given b Long) _; edges = λ k. refl }

-- ---- what the strip reader meets, from place k on

pub data Met (cs : List Class) (k : ℕ) (a : Answer) : Type 0 where
  all_read : anywhere is_unread cs ≡ false → a ≡ accepted 0 → Met cs k a
  met_narrow : IsFirst Narrow cs → a ≡ refused 5 (k + lowest is_unread cs) → Met cs k a
  met_wide : IsFirst Wide cs → a ≡ refused 6 (k + lowest is_unread cs) → Met cs k a

module _ {c : Class} {x : Cell} (cs : List Class) (k : ℕ) (m : OneMore c x cs) where
  first_of_one_more : {d : Class} → IsFirst d cs → IsFirst d (c ∷ cs)
  first_of_one_more f = (cc, cc (m.place, f.1))

  place_of_one_more
      : (n : ℕ) {a : Answer} → a ≡ refused n (suc k + lowest is_unread cs) → a ≡ refused n (k + lowest is_unread (c ∷ cs))
  place_of_one_more n e = e ∙ ap (refused n) (omega arith)

  met_of_one_more : {a : Answer} → Met cs (suc k) a → Met (c ∷ cs) k a
  met_of_one_more (all_read none e) = all_read (m.read ∙ none) e
  met_of_one_more (met_narrow f e) = met_narrow (first_of_one_more f) (place_of_one_more 5 e)
  met_of_one_more (met_wide f e) = met_wide (first_of_one_more f) (place_of_one_more 6 e)

pub edges_met : (cs : List Class) (k : ℕ) → Met cs k (edge_rule_from k cs)
unfolding edge_rule_from anywhere lowest
edges_met [] k = all_read refl refl
edges_met (Narrow ∷ cs) k = met_narrow (refl, refl) (ap (refused 5) (omega arith))
edges_met (Two ∷ cs) k = met_of_one_more cs k (one_more as_short cs) (edges_met cs (suc k))
edges_met (Three ∷ cs) k = met_of_one_more cs k (one_more as_medium cs) (edges_met cs (suc k))
edges_met (Four ∷ cs) k = met_of_one_more cs k (one_more as_long cs) (edges_met cs (suc k))
edges_met (Wide ∷ cs) k = met_wide (refl, refl) (ap (refused 6) (omega arith))

-- ---- what the field reader meets: the same, or the list's end, where the bits before it are too few

pub data Stops (cs : List Class) (k want : ℕ) (b : Bit) (a : Answer) : Type 0 where
  enough : want ≤ front_bits b cs → a ≡ accepted 0 → Stops cs k want b a
  fewer : front_bits b cs < want → a ≡ first_refusal (edge_rule_from k cs) (refused 11 0) → Stops cs k want b a

stops_of_one_more
    : {c : Class} {x : Cell} {cs : List Class} {k want : ℕ} {b : Bit} {a : Answer}
    → OneMore c x cs
    → Stops cs (suc k) (wanted_after (suc want) b x) (last_after b x) a
    → Stops (c ∷ cs) k (suc want) b a
stops_of_one_more {b = b} m (enough h e) = let n = m.bits b in enough (omega arith) e
stops_of_one_more {k = k} {b = b} m (fewer h e) = let n = m.bits b in fewer (omega arith) (rw (m.edges k) e)

pub field_stops : (cs : List Class) (k want : ℕ) (b : Bit) → Stops cs k want b (stop_from cs k want b)
unfolding stop_from edge_rule_from lowest cells_of_classes read_from
field_stops [] k zero b = enough (omega arith) refl
field_stops [] k (suc want) b = fewer (omega arith) refl
field_stops (c ∷ cs) k zero b = enough (omega arith) refl
field_stops (Narrow ∷ cs) k (suc want) b = fewer (omega arith) refl
field_stops (Two ∷ cs) k (suc want) b = stops_of_one_more (one_more as_short cs) (field_stops cs (suc k) _ _)
field_stops (Three ∷ cs) k (suc want) b = stops_of_one_more (one_more as_medium cs) (field_stops cs (suc k) _ _)
field_stops (Four ∷ cs) k (suc want) b = stops_of_one_more (one_more as_long cs) (field_stops cs (suc k) _ _)
field_stops (Wide ∷ cs) k (suc want) b = fewer (omega arith) refl
