-- `count::count_bytes` is a fold: the tally so far, and then the bytes from k on, make the whole. Rests on no axiom.
use Prim.Native.Nat.{ℕ, ◌+◌, ◌<◌}
use mathlib.Core.Path.{◌≡◌, sym, ap, ◌∙◌}
use mathlib.Core.List.{List}
use native.Mathlib.Omega.{arith}
use lib.ListN.{length, get_or, drop, drop_of_length-le}
use Rattle.images.specs.machine.Tally.{tallied, tallied_byte}
use Rattle.images.specs.declared.count.Tally.{Tally}
use Rattle.images.proofs.TallyLaws.{tallied_from, tallied_none, tally_at_least}
use Rattle.images.proofs.count.count_bytes.Goals as goal

-- no tally on the way is larger than that of the whole
small_on_the_way : (start tally : Tally) (bytes : List ℕ) (k : ℕ)
    → k < length bytes
    → tallied tally (drop k bytes) ≡ tallied start bytes
    → (tallied start bytes).cells < 65536
    → (tallied_byte tally (get_or bytes k 0)).cells < 65536
small_on_the_way start tally bytes k h whole small =
    let next = tallied_byte tally (get_or bytes k 0) in
    let least = tally_at_least next (drop (k + 1) bytes) in
    let same : (tallied next (drop (k + 1) bytes)).cells ≡ (tallied start bytes).cells =
    ap (λ (t : Tally). t.cells) (sym (tallied_from tally bytes k h) ∙ whole) in
    omega arith

pub count_byte-tally-requires : goal.count_byte-tally-requires
count_byte-tally-requires c =
    let head = c.loop-byte in
    small_on_the_way c.args.start head.tally c.args.bytes.now head.byte-index c.loop-byte-test.true
    head.invariant c.requires

pub loop-byte-preserved : goal.loop-byte-preserved
loop-byte-preserved c =
    let head = c.loop-byte in
    let bytes = c.args.bytes.now in
    ap (λ (t : Tally). tallied t (drop (head.byte-index + 1) bytes)) c.count_byte-tally.ensures
    ∙ sym (tallied_from head.tally bytes head.byte-index c.loop-byte-test.true)
    ∙ head.invariant

pub returns : goal.returns
returns c =
    let head = c.loop-byte in
    let bytes = c.args.bytes.now in
    rw (drop_of_length-le bytes c.loop-byte-test.false, tallied_none head.tally) at head.invariant
