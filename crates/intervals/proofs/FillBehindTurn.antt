-- Why `units::fill_behind` stores the units behind another: the mask of an interval is its kind, which chooses for the
-- next one, and what is left to store stays the same from turn to turn. Rests on no axiom.
use Rattle.std.proofs.Common.{◌≡◌, ℕ, suc, ◌<◌, ◌≤◌, Bool, true, false, List, [], ◌∷◌, map, length, get_or, drop, set, sym, refl, ap, ◌∙◌, add-one, arith, length-set, drop-cons}
use lib.ListN.{length-map}
use Rattle.lists.specs.Filled.{stored_at}
use Rattle.lists.specs.Place.{everywhere}
use Rattle.lists.proofs.BoolLaws.{both}
use Rattle.lists.proofs.StoreLaws.{stored_one, stored_next}
use Rattle.timing.specs.Class.{class_in, is_two, behind}
use Rattle.timing.specs.machine.Edges.{units_from}
use Rattle.timing.specs.declared.cursor.Cursor.{Cursor}
use Rattle.timing.proofs.UnitsLaws.{units_here}
use Rattle.intervals.specs.machine.Either.{units_by, is_sure, mask_of, kind_mask}
use Rattle.intervals.proofs.EitherLaws.{past_is_behind, upper_chosen, sure_units, sure_past}

module _ (c : Cursor) (ds kinds us₀ : List ℕ) where
  abbrev pub Sure : ℕ → Bool
  Sure d = is_sure c.short c.long d

  -- the kind before the next interval, and what is left
  pub record Filling (us : List ℕ) (k : ℕ) : Type 0 where
    pub within : k ≤ length ds
    pub size : length us ≡ length us₀
    pub two : Bool
    pub mask : drop k kinds ≡ mask_of two ∷ map (kind_mask c) (drop k ds)
    pub sure : everywhere Sure (drop k ds) ≡ true
    pub stored : stored_at us k (units_from (behind c two) (drop k ds)) ≡ stored_at us₀ 0 (units_from (behind c false) ds)

  pub begins : everywhere Sure ds ≡ true → kinds ≡ 0 ∷ map (kind_mask c) ds → Filling us₀ 0
  unfolding mask_of
  begins h marked =
      record { within = omega arith; size = refl; two = false; mask = marked; sure = h; stored = refl }

  module _ (long : length kinds ≡ suc (length ds)) (us : List ℕ) (k : ℕ) (f : Filling us k) (more : k < length ds)
    where
      abbrev pub d : ℕ
      d = get_or ds k 0

      pub heads : get_or kinds k 0 ∷ drop (suc k) kinds ≡ mask_of f.two ∷ map (kind_mask c) (drop k ds)
      heads = sym (drop-cons kinds k 0 (omega arith)) ∙ f.mask

      pub mask_here : get_or kinds k 0 ≡ mask_of f.two
      mask_here = cc heads

      pub both_sure : (Sure d ≡ true) × (everywhere Sure (drop (suc k) ds) ≡ true)
      unfolding everywhere
      both_sure = both (Sure d) (everywhere Sure (drop (suc k) ds)) (rw (drop-cons ds k 0 more) at f.sure)

      abbrev pub next : Bool
      next = is_two (class_in (behind c true) d)

      pub mask_next : drop (suc k) kinds ≡ mask_of next ∷ map (kind_mask c) (drop (suc k) ds)
      unfolding kind_mask
      mask_next =
          let rest : drop (suc k) kinds ≡ map (kind_mask c) (drop k ds) = cc heads in
          rest ∙ ap (map (kind_mask c)) (drop-cons ds k 0 more)

      pub left
          : units_from (behind c f.two) (drop k ds)
          ≡ units_by (upper_chosen c f.two) d ∷ units_from (behind c next) (drop (suc k) ds)
      left =
          units_here (behind c f.two) ds k more
          ∙ rw (
            sure_units c d both_sure.0 f.two,
            sure_past c d both_sure.0 f.two,
            past_is_behind c true d,
          )

      pub goes_on : (u : ℕ) → u ≡ units_by (upper_chosen c f.two) d → Filling (set us k u) (suc k)
      goes_on u e =
          record {
            within = more;
            size = length-set us k u ∙ f.size;
            two = next;
            mask = mask_next;
            sure = both_sure.1;
            stored =
                stored_next (u ∷ []) (units_from (behind c next) (drop (suc k) ds)) us (set us k u) k (suc k)
                (sym (stored_one us k u)) (sym (add-one k))
                ∙ ap (λ (v : ℕ). stored_at us k (v ∷ units_from (behind c next) (drop (suc k) ds))) e
                ∙ ap (stored_at us k) (sym left)
                ∙ f.stored;
          }

pub long_enough : (c : Cursor) (ds kinds : List ℕ) → kinds ≡ 0 ∷ map (kind_mask c) ds → length kinds ≡ suc (length ds)
long_enough c ds kinds e = ap length e ∙ ap suc (length-map ds (kind_mask c))
