-- `read::check_words` answers `words_rule`: it makes the rule's tests in the rule's order. Rests on no axiom.
use Prim.Native.Nat.{ℕ}
use mathlib.Core.Path.{◌≡◌, sym, ap, ◌∙◌}
use mathlib.Core.Bool.{Bool, true, cond}
use native.Mathlib.Omega.{arith}
use borrow.Author.Tests.{not-true, not-false}
use Rattle.std.specs.Prelude.{Option, Some, None, length, unwrap_or}
use Rattle.lists.specs.Place.{anywhere, lowest, passed}
use Rattle.images.specs.Image.{unruly_in}
use Rattle.images.proofs.RuleLaws.{rule_of_too_many, rule_of_unruly, rule_of_ruly, place_is_inside}
use Rattle.images.proofs.read.check_words.Goals as goal

some_unruly
    : (c : goal.After-unwrap_or-k)
    → anywhere passed (unruly_in c.args.words.now) ≡ true
some_unruly c = not-false _ (sym c.all_ruly.ensures ∙ c.if-all_ruly.false)

-- the place that was found, since there is one
place
    : (some : Bool) (lowest other k : ℕ) (found : Option ℕ)
    → some ≡ true
    → found ≡ cond some (Some lowest) None
    → k ≡ unwrap_or found other
    → k ≡ lowest
place some lowest other k found there answer is =
    is ∙ ap (λ (o : Option ℕ). unwrap_or o other) (answer ∙ ap (λ (t : Bool). cond t (Some lowest) None) there)

found
    : (c : goal.After-unwrap_or-k)
    → c.unwrap_or-k.result ≡ lowest passed (unruly_in c.args.words.now)
found c = place _ _ _ _ _ (some_unruly c) c.find_unruly.ensures c.unwrap_or-k.ensures

pub returns-then-words-gt-MAX_WORDS : goal.returns-then-words-gt-MAX_WORDS
returns-then-words-gt-MAX_WORDS c = rule_of_too_many _ c.if-words-gt-MAX_WORDS.true

pub returns-then-all_ruly : goal.returns-then-all_ruly
returns-then-all_ruly c =
    rule_of_ruly _ c.if-words-gt-MAX_WORDS.false (not-true _ (sym c.all_ruly.ensures ∙ c.if-all_ruly.true))

pub overflow_cast-result : goal.overflow_cast-result
overflow_cast-result c =
    omega (arith, found c, place_is_inside _ (some_unruly c), c.if-words-gt-MAX_WORDS.false)

pub returns : goal.returns
returns c = rule_of_unruly _ _ c.if-words-gt-MAX_WORDS.false (some_unruly c) (found c)
