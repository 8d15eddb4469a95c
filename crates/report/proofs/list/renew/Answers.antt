-- Why `list::renew` answers the report with one row renewed: each arm puts the row of its class at its number less one,
-- and an interval by itself has the row of 1 and three times itself. Rests on no axiom.
use mathlib.Core.Path.{◌≡◌, refl}
use mathlib.Core.List.{[], ◌∷◌}
use native.Mathlib.Omega.{arith}
use lib.ListN.{length, set}
use Rattle.report.specs.Row.{Row}
use Rattle.report.specs.Report.{Report, row_at}
use Rattle.report.proofs.RowLaws.{row_of_one}
use borrow.Author.Rules.{rules}
use Rattle.report.proofs.list.renew.Goals as goal

-- what holds of any five rows holds of a report
of_five : (Holds : Report → Type 0)
    → ((a b c d e : Row) → Holds (a ∷ b ∷ c ∷ d ∷ e ∷ []))
    → (rows : Report)
    → length rows ≡ 5
    → Holds rows
of_five Holds each [] h = absurd (omega arith)
of_five Holds each (a ∷ []) h = absurd (omega arith)
of_five Holds each (a ∷ b ∷ []) h = absurd (omega arith)
of_five Holds each (a ∷ b ∷ c ∷ []) h = absurd (omega arith)
of_five Holds each (a ∷ b ∷ c ∷ d ∷ []) h = absurd (omega arith)
of_five Holds each (a ∷ b ∷ c ∷ d ∷ e ∷ []) h = each a b c d e
of_five Holds each (a ∷ b ∷ c ∷ d ∷ e ∷ f ∷ rows) h = absurd (omega arith)

module _ (rows : Report) (long : length rows ≡ 5) (row : Row) where
  first : row ∷ row_at rows 1 ∷ row_at rows 2 ∷ row_at rows 3 ∷ row_at rows 4 ∷ [] ≡ set rows 0 row
  first =
      of_five (λ rs. row ∷ row_at rs 1 ∷ row_at rs 2 ∷ row_at rs 3 ∷ row_at rs 4 ∷ [] ≡ set rs 0 row)
      (λ a b c d e. refl) rows long

  second : row_at rows 0 ∷ row ∷ row_at rows 2 ∷ row_at rows 3 ∷ row_at rows 4 ∷ [] ≡ set rows 1 row
  second =
      of_five (λ rs. row_at rs 0 ∷ row ∷ row_at rs 2 ∷ row_at rs 3 ∷ row_at rs 4 ∷ [] ≡ set rs 1 row)
      (λ a b c d e. refl) rows long

  third : row_at rows 0 ∷ row_at rows 1 ∷ row ∷ row_at rows 3 ∷ row_at rows 4 ∷ [] ≡ set rows 2 row
  third =
      of_five (λ rs. row_at rs 0 ∷ row_at rs 1 ∷ row ∷ row_at rs 3 ∷ row_at rs 4 ∷ [] ≡ set rs 2 row)
      (λ a b c d e. refl) rows long

  fourth : row_at rows 0 ∷ row_at rows 1 ∷ row_at rows 2 ∷ row ∷ row_at rows 4 ∷ [] ≡ set rows 3 row
  fourth =
      of_five (λ rs. row_at rs 0 ∷ row_at rs 1 ∷ row_at rs 2 ∷ row ∷ row_at rs 4 ∷ [] ≡ set rs 3 row)
      (λ a b c d e. refl) rows long

  fifth : row_at rows 0 ∷ row_at rows 1 ∷ row_at rows 2 ∷ row_at rows 3 ∷ row ∷ [] ≡ set rows 4 row
  fifth =
      of_five (λ rs. row_at rs 0 ∷ row_at rs 1 ∷ row_at rs 2 ∷ row_at rs 3 ∷ row ∷ [] ≡ set rs 4 row)
      (λ a b c d e. refl) rows long

pub add-requires : goal.add-requires
add-requires c = rw (← row_of_one c.args.interval) (rw c.in-Narrow.is at c.requires)

pub add-requires-in-Two : goal.add-requires-in-Two
add-requires-in-Two c = rw (← row_of_one c.args.interval) (rw c.in-Two.is at c.requires)

pub add-requires-in-Three : goal.add-requires-in-Three
add-requires-in-Three c = rw (← row_of_one c.args.interval) (rw c.in-Three.is at c.requires)

pub add-requires-in-Four : goal.add-requires-in-Four
add-requires-in-Four c = rw (← row_of_one c.args.interval) (rw c.in-Four.is at c.requires)

pub add-requires-in-Wide : goal.add-requires-in-Wide
add-requires-in-Wide c = rw (← row_of_one c.args.interval) (rw c.in-Wide.is at c.requires)

pub returns-in-Narrow : goal.returns-in-Narrow
returns-in-Narrow c =
    let args = c.args in
    let long : length args.rows ≡ 5 = search rules in
    rw (c.in-Narrow.is, c.add.ensures, row_of_one args.interval)
    (first args.rows long _)

pub returns-in-Two : goal.returns-in-Two
returns-in-Two c =
    let args = c.args in
    let long : length args.rows ≡ 5 = search rules in
    rw (c.in-Two.is, c.add-in-Two.ensures, row_of_one args.interval)
    (second args.rows long _)

pub returns-in-Three : goal.returns-in-Three
returns-in-Three c =
    let args = c.args in
    let long : length args.rows ≡ 5 = search rules in
    rw (c.in-Three.is, c.add-in-Three.ensures, row_of_one args.interval)
    (third args.rows long _)

pub returns-in-Four : goal.returns-in-Four
returns-in-Four c =
    let args = c.args in
    let long : length args.rows ≡ 5 = search rules in
    rw (c.in-Four.is, c.add-in-Four.ensures, row_of_one args.interval)
    (fourth args.rows long _)

pub returns-in-Wide : goal.returns-in-Wide
returns-in-Wide c =
    let args = c.args in
    let long : length args.rows ≡ 5 = search rules in
    rw (c.in-Wide.is, c.add-in-Wide.ensures, row_of_one args.interval)
    (fifth args.rows long _)
