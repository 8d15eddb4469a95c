-- Runs of stores one after the other are one run of stores: by induction on the first. Rests on no axiom.
use Prim.Native.Nat.{ℕ, zero, suc, ◌+◌, ◌≤◌, ◌<◌}
use mathlib.Core.Path.{◌≡◌, refl, sym, ap, ◌∙◌}
use mathlib.Core.List.{List, [], ◌∷◌, ◌++◌, map}
use native.Mathlib.Nat.{add-zero, zero-add, add-suc, suc-add, le_of_lt}
use native.Mathlib.Numerals.{add-one}
use native.Mathlib.Omega.{arith}
use lib.ListN.{length, set, take, drop, get_or, replicate, length-replicate, replicate-append-replicate, length-map}
use lib.ListN.{take-append-drop}
use lib.Seq.{sets, sets-eq, length-sets, set_out, take-suc, drop-cons, take_all, length-take-le, take-append_seam}
use lib.Seq.{drop-append_seam}
use Rattle.lists.specs.Filled.{filled, stored_at}

module _ {A : Type 0} where
  pub stored_none : (l : List A) (i : ℕ) → stored_at l i [] ≡ l
  unfolding stored_at
  stored_none l i = refl

  pub stored_one : (l : List A) (i : ℕ) (a : A) → stored_at l i (a ∷ []) ≡ set l i a
  unfolding stored_at
  stored_one l i a = refl

  -- where there is no room nothing changes
  pub stored_past_end : (l : List A) (i : ℕ) (vs : List A) → length l ≤ i → stored_at l i vs ≡ l
  unfolding stored_at
  stored_past_end l i [] h = refl
  stored_past_end l i (v ∷ vs) h =
      ap (λ (k : List A). sets k (suc i) vs) (set_out l i v h) ∙ stored_past_end l (suc i) vs (omega arith)

  pub stored_length : (l : List A) (i : ℕ) (vs : List A) → length (stored_at l i vs) ≡ length l
  unfolding stored_at
  stored_length l i vs = length-sets l i vs

  -- ---- one run after another

  pub stored_after_stored
      : (vs ws l : List A) (i j : ℕ) → j ≡ i + length vs → stored_at (stored_at l i vs) j ws ≡ stored_at l i (vs ++ ws)
  unfolding stored_at
  stored_after_stored [] ws l i j e = ap (λ (k : ℕ). sets l k ws) (e ∙ add-zero i)
  stored_after_stored (v ∷ vs) ws l i j e =
      stored_after_stored vs ws (set l i v) (suc i) j (e ∙ add-suc i (length vs) ∙ sym (suc-add i (length vs)))

  -- where the run before is known by what it left
  pub stored_next
      : (vs ws l m : List A) (i j : ℕ)
      → m ≡ stored_at l i vs
      → j ≡ i + length vs
      → stored_at m j ws ≡ stored_at l i (vs ++ ws)
  stored_next vs ws l m i j e h = ap (λ (k : List A). stored_at k j ws) e ∙ stored_after_stored vs ws l i j h

  -- one store after a run
  pub stored_one_more
      : (vs l : List A) (i j : ℕ) (a : A) → j ≡ i + length vs → set (stored_at l i vs) j a
      ≡ stored_at l i (vs ++ (a ∷ []))
  stored_one_more vs l i j a e = sym (stored_one (stored_at l i vs) j a) ∙ stored_after_stored vs (a ∷ []) l i j e

  -- one store of a list, and then the rest of it
  pub stored_rest
      : (l s : List A) (at i : ℕ) (d : A)
      → i < length s
      → stored_at (set l (at + i) (get_or s i d)) (at + suc i) (drop (suc i) s) ≡ stored_at l (at + i) (drop i s)
  unfolding stored_at
  stored_rest l s at i d h = rw (add-suc at i, drop-cons s i d h)

  pub stored_repeats
      : (n : ℕ) (a : A) (i : ℕ) (l : List A)
      → set (stored_at l i (replicate n a)) (i + n) a ≡ stored_at l i (replicate (n + 1) a)
  stored_repeats n a i l =
      stored_one_more (replicate n a) l i (i + n) a (rw length-replicate)
      ∙ ap (stored_at l i) (replicate-append-replicate n 1 a)

  pub stored_copies
      : (n i : ℕ) (s l : List A) (d : A)
      → n < length s
      → set (stored_at l i (take n s)) (i + n) (get_or s n d) ≡ stored_at l i (take (n + 1) s)
  stored_copies n i s l d h =
      stored_one_more (take n s) l i (i + n) (get_or s n d) (rw (length-take-le n s (le_of_lt h)))
      ∙ ap (stored_at l i) (sym (take-suc s n d h) ∙ ap (λ (k : ℕ). take k s) (sym (add-one n)))

  -- ---- at the front

  -- where there is room, a list fills it
  pub stored_at_front_fills : (vs l : List A) → length vs ≤ length l → stored_at l 0 vs ≡ filled vs l
  unfolding filled stored_at
  stored_at_front_fills vs l h = sets-eq vs l 0 (rw zero-add h) ∙ ap (λ (k : ℕ). vs ++ drop k l) (zero-add (length vs))

  -- and is read back from it
  pub front_of_filled : (vs l : List A) → take (length vs) (filled vs l) ≡ vs
  unfolding filled
  front_of_filled vs l = take-append_seam vs (drop (length vs) l)

  pub front_of_stored : (vs l : List A) (n : ℕ) → length vs ≡ n → n ≤ length l → take n (stored_at l 0 vs) ≡ vs
  front_of_stored vs l n e h =
      ap (λ (k : ℕ). take k (stored_at l 0 vs)) (sym e)
      ∙ ap (take (length vs)) (stored_at_front_fills vs l (rw e h))
      ∙ front_of_filled vs l

  -- and over the whole of it
  pub stored_over_all : (vs l : List A) → length vs ≡ length l → stored_at l 0 vs ≡ vs
  stored_over_all vs l same =
      sym (take_all (length l) (stored_at l 0 vs) (omega (arith, stored_length l 0 vs)))
      ∙ front_of_stored vs l (length l) same (omega arith)

  -- where there is too little room, its front does
  pub front_fills : (vs l : List A) → length l ≤ length vs → stored_at l 0 vs ≡ take (length l) vs
  front_fills vs l h =
      let n = length l in
      let count : length (take n vs) ≡ n = length-take-le n vs h in
      ap (stored_at l 0) (sym (take-append-drop n vs))
      ∙ sym (stored_after_stored (take n vs) (drop n vs) l 0 n (omega arith))
      ∙ stored_past_end (stored_at l 0 (take n vs)) n (drop n vs) (omega (arith, stored_length l 0 (take n vs)))
      ∙ stored_over_all (take n vs) l count

  -- and replaced, element by element, where it stands
  pub mapped_at_front
      : (f : A → A) (vs l : List A) (n : ℕ)
      → length vs ≡ n
      → n ≤ length l
      → map f (take n (stored_at l 0 vs)) ++ drop n (stored_at l 0 vs) ≡ stored_at l 0 (map f vs)
  unfolding filled
  mapped_at_front f vs l n e h =
      let same : length (map f vs) ≡ length vs = length-map vs f in
      rw (
        ← e,
        stored_at_front_fills vs l (rw e h),
        stored_at_front_fills (map f vs) l (rw (same, e) h),
        take-append_seam,
        drop-append_seam,
        same,
      )

-- a store into a list of values is the store into the list that they are the values of
pub map_of_set
    : {A B : Type 0} (f : A → B) (l : List A) (i : ℕ) (a : A) → map f (set l i a) ≡ set (map f l) i (f a)
map_of_set f [] i a = refl
map_of_set f (x ∷ xs) zero a = refl
map_of_set f (x ∷ xs) (suc i) a = rw (map_of_set f xs i a)
