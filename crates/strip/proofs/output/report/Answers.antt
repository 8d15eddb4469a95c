-- Why `strip::report` prints the report: its three parts go one after the other, and at most 4,098 cells leave room
-- for them. Rests on no axiom.
use Prim.Native.Nat.{ℕ, ◌^◌, ◌≤◌, ◌<◌}
use mathlib.Core.List.{List}
use native.Mathlib.Omega.{arith}
use lib.ListN.{length, get_or}
use Rattle.timing.specs.declared.Profile.{Profile}
use Rattle.strip.specs.machine.Room.{output_length}
use Rattle.strip.proofs.OutputLaws.{report_size, printed_at_front, report_fits, report_length, report_stored}
use Rattle.strip.proofs.output.report.Goals as goal

-- the output has room for the three parts
room
    : (p : Profile) (margin : ℕ) (stream out : List ℕ)
    → margin < 2 ^ 64
    → (length stream ≤ 4098) × (output_length ≤ length out)
    → ((i : ℕ) → get_or stream i 0 < 65536)
    → report_size p margin stream ≤ length out
room p margin stream out h k fits = omega (arith, report_fits p margin stream h k.0 fits, k.1)

pub append_line-cells-requires : goal.append_line-cells-requires
append_line-cells-requires c =
    let a = c.args in
    omega (
      arith,
      room a.profile a.margin a.stream.now a.out.now (omega arith) c.requires
          (λ i. omega (arith, c.type_inv.stream i)),
    )

pub append_cells-end-requires : goal.append_cells-end-requires
append_cells-end-requires c =
    let a = c.args in
    omega (
      arith,
      room a.profile a.margin a.stream.now a.out.now (omega arith) c.requires
          (λ i. omega (arith, c.type_inv.stream i)),
    )

pub append_line-requires : goal.append_line-requires
append_line-requires c =
    let a = c.args in
    omega (
      arith,
      room a.profile a.margin a.stream.now a.out.now (omega arith) c.requires
          (λ i. omega (arith, c.type_inv.stream i)),
    )

pub returns : goal.returns
returns c =
    let a = c.args in
    let margin = c.append_line-cells.ensures in
    let cells = c.append_cells-end.ensures in
    let end = c.append_line.ensures in
    let size = report_length a.profile a.margin a.stream.now in
    printed_at_front _ a.out.now _ _ (omega (arith, size, end.value, cells.value, margin.value))
    (rw (end.out_after, cells.out_after, margin.out_after)
    (report_stored a.profile a.margin a.stream.now a.out.now _ _ margin.value cells.value))
    (omega (
      arith,
      size,
      room a.profile a.margin a.stream.now a.out.now (omega arith) c.requires
          (λ i. omega (arith, c.type_inv.stream i)),
    ))
