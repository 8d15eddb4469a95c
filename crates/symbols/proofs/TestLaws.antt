-- Laws of tests: what follows from two tests joined, and the other way round.
use Rattle.std.proofs.Common.{◌≡◌, ℕ, Bool, true, false, not, ◌&&◌, ◌||◌, T, eqb, sym, refl, ◌∙◌, true≢false, eq-eqb, ne_eqb}
use native.Mathlib.Decide.{ℕ_discrete}
use borrow.Author.Tests.{not-true}

pub both : (a b : Bool) → T a → T b → T (a && b)
both true b s t = t
both false b s t = s

pub left_of : (a b : Bool) → T (a && b) → T a
left_of true b t = tt
left_of false b t = t

pub right_of : (a b : Bool) → T (a && b) → T b
right_of true b t = t
right_of false b t = absurd t

-- each of several tests joined
pub ruleset parts = (left_of, right_of)

pub either_of : {C : Type 0} (a b : Bool) → T (a || b) → (T a → C) → (T b → C) → C
either_of true b t f g = f t
either_of false b t f g = g t

pub holds : (a : Bool) → a ≡ true → T a
holds a h = rw h tt

pub held : (a : Bool) → T a → a ≡ true
held true t = refl
held false t = absurd t

pub fails : (a : Bool) → T (not a) → a ≡ false
fails a t = not-true a (held (not a) t)

pub neither : (a b : Bool) → (a || b) ≡ false → (a ≡ false) × (b ≡ false)
neither true b h = absurd (true≢false h)
neither false b h = (refl, h)

-- two tests of numbers that hold together
pub same_test : (a b c d : ℕ) → (a ≡ b → c ≡ d) → (c ≡ d → a ≡ b) → eqb a b ≡ eqb c d
same_test a b c d to from =
    elim (ℕ_discrete a b) [
      | yes e ↦ eq-eqb a b e ∙ sym (eq-eqb c d (to e))
      | no n ↦ ne_eqb a b n ∙ sym (ne_eqb c d (λ e. n (from e)))
    ]
