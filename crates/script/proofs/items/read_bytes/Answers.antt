-- Why `script::read_bytes` stores the bytes of a line: the fields that are left are bytes where those from the first
-- on are, and storing them after those before comes out as storing all. Rests on no axiom.
use mathlib.Core.Path.{refl, sym, ◌∙◌}
use native.Mathlib.Omega.{arith}
use Rattle.lists.specs.Place.{everywhere}
use Rattle.lists.proofs.PlaceLaws.{everywhere_of_none, everywhere_of_passing}
use Rattle.text.specs.Hex.{is_hex_byte}
use Rattle.text.proofs.HexLaws.{malformed_is_no_byte, value_is_byte}
use Rattle.script.specs.Line.{are_bytes, raised}
use Rattle.script.proofs.FieldLaws.{field_ends_in_line, fields_next, fields_at_the_end}
use Rattle.script.proofs.ByteLaws.{bytes_from_tab, few_bytes}
use Rattle.script.proofs.BufferLaws.{all_is_left, rest_is_left, nothing_is_left, faulty_read}
use Rattle.script.proofs.BufferLaws.{items_read}
use Rattle.script.proofs.items.read_bytes.Goals as goal

pub returns-then-line-from : goal.returns-then-line-from
unfolding are_bytes
returns-then-line-from c = faulty_read (rw (fields_at_the_end _ _ c.if-line-from.true))

pub loop-at-init : goal.loop-at-init
loop-at-init c = (omega arith, refl, bytes_from_tab _ _ c.if-line-from.false, all_is_left)

pub slice_bounds-parse_byte-count : goal.slice_bounds-parse_byte-count
slice_bounds-parse_byte-count c = omega (arith, c.find-end.ensures)

pub slice_bounds-parse_byte-start : goal.slice_bounds-parse_byte-start
slice_bounds-parse_byte-start c = omega (arith, c.find-end.ensures)

pub slice_bounds-parse_byte-end : goal.slice_bounds-parse_byte-end
slice_bounds-parse_byte-end c = field_ends_in_line _ _ _ c.loop-at-test.true c.find-end.ensures

pub returns-in_err-b : goal.returns-in_err-b
unfolding everywhere
returns-in_err-b c =
    let no_byte = malformed_is_no_byte _ (sym c.parse_byte.ensures ∙ c.in_err-b.was) in
    rw c.from_residual.ensures
    (faulty_read (sym c.loop-at.invariant.2 ∙ rw (fields_next _ _ _ c.loop-at-test.true c.find-end.ensures, no_byte)))

pub put-n-requires : goal.put-n-requires
put-n-requires c =
    let args = c.args in
    omega (
      arith,
      c.loop-at.invariant.3.size,
      few_bytes args.line.now args.from args.base,
      c.requires.1,
    )

pub loop-at-smaller : goal.loop-at-smaller
loop-at-smaller c = omega (arith, c.find-end.ensures, c.loop-at-test.true)

pub loop-at-preserved : goal.loop-at-preserved
unfolding raised
loop-at-preserved c =
    let put = c.put-n in
    let next = fields_next _ _ _ c.loop-at-test.true c.find-end.ensures in
    let byte = value_is_byte _ _ (sym c.parse_byte.ensures ∙ c.in_ok-b.was) in (
      field_ends_in_line _ _ _ c.loop-at-test.true c.find-end.ensures,
      put.auto.out ∙ c.loop-at.invariant.1,
      sym (everywhere_of_passing is_hex_byte _ _ byte.0) ∙ (rw next at c.loop-at.invariant.2),
      rest_is_left record { size = put.ensures.next; output = put.ensures.output }
          (rw (next, byte.1) at c.loop-at.invariant.3),
    )

pub returns : goal.returns
unfolding raised
returns c =
    let none = fields_at_the_end c.args.line.now _ c.loop-at-test.false in
    items_read (sym c.loop-at.invariant.2 ∙ rw none (everywhere_of_none is_hex_byte))
    (nothing_is_left (rw none at c.loop-at.invariant.3))
