-- Why `sets::index::index_set` makes the set's index and answers its span: each turn enters the sector at its place,
-- and its number into the span. Rests on no axiom.
use Prim.Native.Nat.{◌+◌, ◌<◌}
use mathlib.Core.Path.{◌≡◌, ap, ◌∙◌}
use native.Mathlib.Omega.{arith}
use lib.ListN.{length, get_or, length-set}
use Rattle.sectors.specs.Sector.{sector_size}
use Rattle.sets.specs.Set.{is_misfit_set}
use Rattle.sets.proofs.IndexLaws.{fresh_indexes, end_indexes, whole_here, sector_indexes, rest_here}
use Rattle.sets.proofs.SpanLaws.{fresh_spans, wider_spans, entry_spans}
use Rattle.sets.proofs.index.index_set.Goals as goal

pub loop-start-init : goal.loop-start-init
unfolding is_misfit_set
loop-start-init c =
    let fresh = c.requires.2 in
    let set = c.args.set.now in (
      omega arith,
      c.requires.0,
      ap length fresh,
      rw fresh (fresh_indexes set),
      rw fresh fresh_spans,
    )

pub bounds-set-code : goal.bounds-set-code
bounds-set-code c = omega (arith, (whole_here _ _ c.loop-start-test.true c.loop-start.invariant.1).ends)

pub overflow_add-start-in-loop-start : goal.overflow_add-start-in-loop-start
overflow_add-start-in-loop-start c =
    omega (arith, (whole_here _ _ c.loop-start-test.true c.loop-start.invariant.1).ends, c.sector_size.ensures)

pub loop-start-preserved : goal.loop-start-preserved
loop-start-preserved c =
    let set = c.args.set.now in
    let start = c.loop-start.start in
    let index = c.loop-start.index in
    let inside = c.loop-start-test.true in
    let fits = c.loop-start.invariant.1 in
    let size = c.loop-start.invariant.2 in
    let number = get_or set start 0 in
    let byte : number < 256 = omega (arith, c.type_inv.set start) in
    let spans = c.loop-start.invariant.4 in
    let end : start + 1 + 2 + c.sector_size.result ≡ start + 3 + sector_size (get_or set (start + 1) 0) =
    omega (arith, c.sector_size.ensures) in
    rw (end, c.join-span.ensures, c.entry.ensures) (
      (whole_here set start inside fits).ends,
      (rest_here set start inside fits).0,
      length-set index _ _ ∙ size,
      sector_indexes set start inside fits index size c.requires.1
          c.loop-start.invariant.3
          byte,
      entry_spans _ index
          (wider_spans _ index spans _ (omega arith) (omega arith) (omega (arith, byte, spans.high_ends)))
          number _
          (omega arith)
          (omega arith),
    )

pub returns : goal.returns
returns c =
    let loop = c.loop-start in
    record {
      indexed = end_indexes _ loop.index loop.start c.loop-start-test.false loop.invariant.3;
      spanned = loop.invariant.4;
    }
