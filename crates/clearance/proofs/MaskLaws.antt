-- Why masks tell the extremes: the mask of an interval is all ones where it is of class 2, and so chooses the bounds
-- that stand behind it; and where no interval lies between the two B23, each mask is told by the interval alone. Rests
-- on no axiom.
use Rattle.std.proofs.Common.{◌≡◌, ℕ, zero, suc, ◌-◌, ◌<◌, ◌≤◌, Bool, true, false, cond, ◌&&◌, ltb, leb, List, [], ◌∷◌, map, length, get_or, drop, set, sym, refl, ap, ◌∙◌, ap₂, true≢false, arith, drop-cons, le-ltb, lt-ltb, le-leb}
use native.Mathlib.Decide.{dec_lt}
use borrow.Author.Tests.{lt-leb}
use Rattle.lists.specs.Place.{everywhere}
use Rattle.lists.proofs.BoolLaws.{both}
use Rattle.timing.specs.Class.{class_in, is_two, behind, cursor_past, cursor_after}
use Rattle.timing.specs.declared.cursor.Cursor.{Cursor}
use Rattle.timing.proofs.EdgeLaws.{two_by_edges}
use Rattle.intervals.specs.machine.Either.{one_side, is_sure}
use Rattle.clearance.specs.machine.Nearest.{met_with}
use Rattle.clearance.specs.machine.Seen.{seen_past, seen_from}
use Rattle.clearance.specs.machine.Masks.{mask_of, is_ones, IsMask, AreMasks, mask_in, masks_from, masked_from}
use Rattle.clearance.specs.declared.extremes.Extremes.{Extremes}
use Rattle.clearance.specs.declared.seen.Seen.{Seen}
use Rattle.clearance.proofs.SeenLaws.{seen_at, cursor_seen}

-- ---- a mask says whether it is that of class 2

says : (two : Bool) → is_ones (mask_of two) ≡ two
says true = refl
says false = refl

pub mask_is_mask : (two : Bool) → IsMask (mask_of two)
mask_is_mask two = ap mask_of (says two)

pub mask_in_is_mask : (c : Cursor) (d : ℕ) → IsMask (mask_in c d)
unfolding mask_in
mask_in_is_mask c d = mask_is_mask (is_two (class_in c d))

pub behind_mask : (c : Cursor) (d : ℕ) → behind c (is_ones (mask_in c d)) ≡ cursor_past c d
unfolding mask_in cursor_past
behind_mask c d = ap (behind c) (says (is_two (class_in c d)))

-- ---- the masks of a list

pub masks_none : (c : Cursor) → masks_from c [] ≡ []
unfolding masks_from
masks_none c = refl

pub masks_count : (c : Cursor) (ds : List ℕ) → length (masks_from c ds) ≡ length ds
unfolding masks_from
masks_count c [] = refl
masks_count c (d ∷ ds) = ap suc (masks_count (cursor_past c d) ds)

pub masks_here
    : (c : Cursor) (ds : List ℕ) (k : ℕ)
    → k < length ds
    → masks_from c (drop k ds) ≡ mask_in c (get_or ds k 0) ∷ masks_from (cursor_past c (get_or ds k 0)) (drop (suc k) ds)
unfolding masks_from
masks_here c ds k inside = rw (drop-cons ds k 0 inside)

each_is_mask : (c : Cursor) (ds : List ℕ) (k : ℕ) → k < length ds → IsMask (get_or (masks_from c ds) k 0)
unfolding masks_from
each_is_mask c [] k h = absurd (omega arith)
each_is_mask c (d ∷ ds) zero h = mask_in_is_mask c d
each_is_mask c (d ∷ ds) (suc k) h = each_is_mask (cursor_past c d) ds k (omega arith)

pub are_masks : (c : Cursor) (ds : List ℕ) → AreMasks (masks_from c ds)
are_masks c ds = record { each = λ k h. each_is_mask c ds k (rw (masks_count c ds) at h) }

-- the last tells where the classing stands behind the list
last_mask
    : (c : Cursor) (d : ℕ) (ds : List ℕ)
    → behind c (is_ones (get_or (masks_from c (d ∷ ds)) (length ds) 0)) ≡ cursor_after c (d ∷ ds)
unfolding masks_from cursor_after behind cursor_past
last_mask c d [] = behind_mask c d
last_mask c d (e ∷ ds) = last_mask (cursor_past c d) e ds

-- ---- where no interval lies between the two B23

module _ (c : Cursor) where
  abbrev Sure : List ℕ → Type 0
  Sure ds = everywhere (is_sure c.short c.long) ds ≡ true

  -- both are above it, or none is
  sure_below : (a b d : ℕ) → one_side a b d ≡ true → ltb d b ≡ ltb d a
  sure_below a b d sure =
      elim (dec_lt d a) [
        | yes under ↦
            elim (dec_lt d b) [
              | yes below ↦ lt-ltb d b below ∙ sym (lt-ltb d a under)
              | no over ↦ absurd (true≢false (sym sure ∙ rw (lt-leb a d under, le-leb b d (omega arith)) refl))
            ]
        | no above ↦
            elim (dec_lt d b) [
              | yes below ↦ absurd (true≢false (sym sure ∙ rw (le-leb a d (omega arith), lt-leb b d below) refl))
              | no over ↦ le-ltb d b (omega arith) ∙ sym (le-ltb d a (omega arith))
            ]
      ]

  alone_is_two
      : (two : Bool) (d : ℕ)
      → is_sure c.short c.long d ≡ true
      → is_two (class_in (behind c two) d) ≡ is_two (class_in (behind c true) d)
  unfolding is_sure behind
  alone_is_two true d sure = refl
  alone_is_two false d sure =
      sym (two_by_edges (behind c false) d)
      ∙ ap (λ (t : Bool). leb c.min.0 d && t) (sure_below c.short.b23.0 c.long.b23.0 d sure)
      ∙ two_by_edges (behind c true) d

  masks_alone
      : (two : Bool) (ds : List ℕ) → Sure ds → masks_from (behind c two) ds ≡ map (mask_in (behind c true)) ds
  unfolding everywhere masks_from mask_in cursor_past behind
  masks_alone two [] sure = refl
  masks_alone two (d ∷ ds) sure =
      let (here, rest) = both (is_sure c.short c.long d) _ sure in
      ap₂ ◌∷◌ (ap mask_of (alone_is_two two d here)) (masks_alone (is_two (class_in (behind c two) d)) ds rest)

  -- as a block has it: the first goes by the cursor
  pub masks_of_block
      : (ds : List ℕ)
      → 1 ≤ length ds
      → Sure ds
      → set (map (mask_in (behind c true)) ds) 0 (mask_in c (get_or ds 0 0)) ≡ masks_from c ds
  unfolding everywhere masks_from cursor_past
  masks_of_block [] some sure = absurd (omega arith)
  masks_of_block (d ∷ ds) some sure =
      let rest = (both (is_sure c.short c.long d) _ sure).1 in
      ap (λ (xs : List ℕ). mask_in c d ∷ xs) (sym (masks_alone (is_two (class_in c d)) ds rest))

-- ---- what is seen

-- each interval but the first stands between the bounds for the mask of the one before it
masked_is_seen
    : (c : Cursor) (m : Extremes) (e : ℕ) (ds : List ℕ)
    → masked_from m c.short c.long ds (masks_from c (e ∷ ds))
    ≡ (seen_from (seen_at m (cursor_past c e)) ds).extremes
unfolding masked_from masks_from mask_in seen_from seen_past cursor_past behind
masked_is_seen c m e [] = refl
masked_is_seen c m e (d ∷ ds) =
    ap (λ (two : Bool). masked_from (met_with m (cond two c.short c.long) d) c.short c.long ds
    (masks_from (cursor_past c e) (d ∷ ds))) (says (is_two (class_in c e)))
    ∙ masked_is_seen (cursor_past c e) (met_with m (cursor_past c e).bounds d) d ds

pub block_is_seen
    : (s : Seen) (ds : List ℕ)
    → 1 ≤ length ds
    → seen_at
    (masked_from (seen_past s (get_or ds 0 0)).extremes s.cursor.short s.cursor.long (drop 1 ds)
    (masks_from s.cursor ds))
    (behind s.cursor (is_ones (get_or (masks_from s.cursor ds) (length (masks_from s.cursor ds) - 1) 0)))
    ≡ seen_from s ds
unfolding seen_past seen_from
block_is_seen s [] some = absurd (omega arith)
block_is_seen s (d ∷ ds) some =
    let c = s.cursor in
    let m = (seen_past s d).extremes in
    let last : length (masks_from c (d ∷ ds)) - 1 ≡ length ds = omega (arith, masks_count c (d ∷ ds)) in
    ap₂ seen_at (masked_is_seen c m d ds)
    (ap (λ (k : ℕ). behind c (is_ones (get_or (masks_from c (d ∷ ds)) k 0))) last
    ∙ last_mask c d ds
    ∙ sym (cursor_seen s (d ∷ ds)))
