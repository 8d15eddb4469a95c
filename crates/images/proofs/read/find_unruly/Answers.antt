-- `read::find_unruly` answers the lowest unruly word: whether there is one among the words from k on, and k and the
-- lowest place there, say the same of the whole. Rests on no axiom.
use Prim.Native.Nat.{ℕ, suc, ◌+◌, ◌≤◌, ◌<◌}
use mathlib.Core.Path.{◌≡◌, refl, sym, ap, ◌∙◌}
use mathlib.Core.Bool.{true, false}
use mathlib.Core.List.{List}
use native.Mathlib.Nat.{zero-add, add-zero}
use native.Mathlib.Omega.{arith}
use native.Mathlib.Numerals.{add-one}
use borrow.Author.Tests.{eq-eqb, ne_eqb}
use lib.ListN.{length, get_or, drop, drop_of_length-le}
use lib.Seq.{drop-cons}
use Rattle.lists.specs.Place.{anywhere}
use Rattle.half_cells.specs.machine.Candidate.{candidate}
use Rattle.words.specs.Words.{word_of, last_bit}
use Rattle.images.specs.Image.{unruly_from, unruly_in}
use Rattle.images.proofs.WordLaws.{last_bit_is_data}
use Rattle.images.proofs.ImageLaws.{lowest_after_ruly, some_after_ruly, lowest_is_unruly, some_is_unruly}
use Rattle.images.proofs.read.find_unruly.Invariants.{some_from, lowest_from}
use Rattle.images.proofs.read.find_unruly.Goals as goal

module _ (words : List ℕ) (previous k byte made : ℕ) (h : k < length words)
    (is_candidate : byte ≡ candidate (get_or words k 0)) (is_made : made ≡ word_of (last_bit previous) byte) where
  word_is_made : made ≡ word_of (last_bit previous) (candidate (get_or words k 0))
  word_is_made = is_made ∙ ap (word_of (last_bit previous)) is_candidate

  after_ruly : made ≡ get_or words k 0
      → (some_from words byte (k + 1) ≡ some_from words previous k)
      × (lowest_from words byte (k + 1) ≡ lowest_from words previous k)
  after_ruly e =
      let word = get_or words k 0 in
      let data_bit = last_bit_is_data previous in
      let has = eq-eqb (word_of (last_bit previous) (candidate word)) word (sym word_is_made ∙ e) in
      let some = some_after_ruly (last_bit previous) data_bit word (drop (suc k) words) has in
      let next = lowest_after_ruly (last_bit previous) data_bit word (drop (suc k) words) has in (
        rw (add-one, drop-cons words k 0, some, is_candidate),
        rw (add-one, drop-cons words k 0, next, is_candidate) (omega arith),
      )

  at_unruly : (made ≡ get_or words k 0 → ⊥) → (some_from words previous k ≡ true) × (lowest_from words previous k ≡ k)
  at_unruly e =
      let word = get_or words k 0 in
      let data_bit = last_bit_is_data previous in
      let lacks = ne_eqb (word_of (last_bit previous) (candidate word)) word (λ q. e (word_is_made ∙ q)) in
      let some = some_is_unruly (last_bit previous) data_bit word (drop (suc k) words) lacks in
      let here = lowest_is_unruly (last_bit previous) data_bit word (drop (suc k) words) lacks in (
        rw (drop-cons words k 0, some),
        rw (drop-cons words k 0, here) (add-zero k),
      )

none_at_end : (words : List ℕ) (previous k : ℕ) → length words ≤ k → some_from words previous k ≡ false
unfolding unruly_from anywhere
none_at_end words previous k h = rw (drop_of_length-le words h)

pub loop-k-init : goal.loop-k-init
unfolding unruly_in last_bit
loop-k-init c = (refl, zero-add _)

pub returns-then-word_of-word : goal.returns-then-word_of-word
returns-then-word_of-word c =
    let head = c.loop-k in
    let here = at_unruly c.args.words.now head.previous head.k _ _
    c.loop-k-test.true c.byte_of-byte.ensures c.word_of.ensures c.if-word_of-word.true in
    rw (sym head.invariant.0 ∙ here.0, sym head.invariant.1 ∙ here.1)

pub loop-k-preserved : goal.loop-k-preserved
loop-k-preserved c =
    let head = c.loop-k in
    let next = after_ruly c.args.words.now head.previous head.k _ _
    c.loop-k-test.true c.byte_of-byte.ensures c.word_of.ensures c.if-word_of-word.false in
    (next.0 ∙ head.invariant.0, next.1 ∙ head.invariant.1)

pub returns : goal.returns
returns c =
    let head = c.loop-k in
    let none = none_at_end c.args.words.now head.previous head.k c.loop-k-test.false in
    rw (sym head.invariant.0 ∙ none)
