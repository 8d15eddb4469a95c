-- Why `units::mark_kinds` stores the mask of each: what is left to store stays the same from turn to turn. Rests on no
-- axiom.
use Rattle.std.proofs.Common.{◌≡◌, ℕ, suc, ◌+◌, List, [], ◌∷◌, map, length, set, sym, refl, ap, ◌∙◌, add-one, arith, length-set, drop_of_length-le, drop-cons}
use lib.ListN.{length-map}
use Rattle.lists.specs.Filled.{stored_at}
use Rattle.lists.proofs.StoreLaws.{stored_none, stored_one, stored_next, stored_over_all}
use Rattle.intervals.specs.machine.Either.{mask_of, kind_mask}
use Rattle.intervals.proofs.units.mark_kinds.Goals as goal

-- behind the first place
stored_behind : (x : ℕ) (xs vs : List ℕ) (i : ℕ) → stored_at (x ∷ xs) (suc i) vs ≡ x ∷ stored_at xs i vs
unfolding stored_at
stored_behind x xs [] i = refl
stored_behind x xs (v ∷ vs) i = stored_behind x (set xs i v) vs (suc i)

stored_all_behind : (l vs : List ℕ) (x : ℕ) → length l ≡ length vs + 1 → stored_at (set l 0 x) 1 vs ≡ x ∷ vs
stored_all_behind [] vs x e = absurd (omega arith)
stored_all_behind (y ∷ l) vs x e = stored_behind x l vs 0 ∙ ap (◌∷◌ x) (stored_over_all vs l (omega arith))

pub loop-k-preserved : goal.loop-k-preserved
unfolding kind_mask
loop-k-preserved c =
    let inv = c.loop-k.invariant in
    let more = c.loop-k-test.true in
    let args = c.args in
    rw (c.mask_of.ensures ∙ ap mask_of c.is_two.ensures, add-one) (
      length-set {A = ℕ} c.loop-k.kinds (suc c.loop-k.k) _ ∙ inv.0,
      stored_next _ _ _ _ _ _ (sym (stored_one _ _ _)) (sym (add-one _))
          ∙ rw (drop-cons args.intervals.now c.loop-k.k 0 more) at inv.1,
    )

pub returns : goal.returns
returns c =
    let (same, stored) = c.loop-k.invariant in
    let ds = c.args.intervals.now in
    let none = drop_of_length-le ds {i = c.loop-k.k} c.loop-k-test.false in
    sym (stored_none _ _)
    ∙ rw none at stored
    ∙ stored_all_behind c.args.kinds.now (map (kind_mask c.args.c) ds) 0
    (c.requires ∙ ap (λ (n : ℕ). n + 1) (sym (length-map ds (kind_mask c.args.c))))
