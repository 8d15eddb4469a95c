-- Why the search finds the lowest list and the first interval in it: a stream that was written is classed as it was
-- written, so each interval is asked after its own kind, and the first that crosses ends the search. Rests on no axiom.
use Rattle.std.specs.Prelude.{Option, Some, None}
use Prim.Native.Nat.{ℕ, zero, suc, ◌+◌, ◌≤◌, ◌<◌}
use mathlib.Core.Path.{◌≡◌, refl, sym, ap, ◌∙◌}
use mathlib.Core.Bool.{Bool, true, false, cond, false≢true}
use mathlib.Core.List.{List, [], ◌∷◌}
use native.Mathlib.Decide.{dec_le}
use native.Mathlib.Omega.{arith}
use lib.Dec.{eqb}
use lib.ListN.{length, get_or}
use Rattle.timing.specs.Class.{is_two, class_of}
use Rattle.timing.specs.declared.Profile.{Profile}
use Rattle.timing.proofs.ProfileLaws.{Kept}
use Rattle.symbols.specs.Cells.{written_cells}
use Rattle.lengths.specs.Stream.{byte_stream}
use Rattle.lengths.proofs.KindLaws.{CellLength, CellLengths, stream_has_cells}
use Rattle.lengths.proofs.WindowLaws.{kept_leaves_room, near_length_has_class, two_by_units}
use Rattle.lengths.proofs.PapersMargin.{written_one, one_byte_is_written}
use Rattle.limits.specs.Sides.{crosses}
use Rattle.limits.specs.Limits.{one_more, CrossesAt}
use Rattle.limits.specs.machine.Search.{shown_at, seen_from, seen_in, or_later, searched_from, searched}
use Rattle.limits.specs.declared.side.Side.{Side}
use Rattle.limits.specs.declared.search.Evidence.{Evidence}

module _ {p : Profile} (k : Kept p) (s : Side) where
  abbrev n : ℕ
  n = one_more p

  -- behind a written length the next is asked after the kind that was written
  asked_as_written : {l u : ℕ} {two : Bool} → CellLength p l two u → is_two (class_of p two l) ≡ eqb u 2
  asked_as_written w =
      ap is_two (near_length_has_class (kept_leaves_room k) _ w (omega arith) (omega arith)) ∙ two_by_units w

  -- ---- one list

  -- whether the length at a place crosses
  abbrev Crossing : ℕ → List ℕ → List ℕ → ℕ → Bool
  Crossing before us ls j = crosses p s n (eqb (get_or (before ∷ us) j 2) 2) (get_or ls j 0)

  -- what a scan sees of some lengths, the first of them at a place
  data Scanned (item from before : ℕ) (us ls : List ℕ) : Option Evidence → Type 0 where
    at
        : (j place : ℕ)
        → place ≡ from + j
        → j < length ls
        → Crossing before us ls j ≡ true
        → ((i : ℕ) → i < length ls → Crossing before us ls i ≡ true → j ≤ i)
        → Scanned item from before us ls (shown_at item place)
    nowhere
        : ((i : ℕ) → i < length ls → Crossing before us ls i ≡ true → ⊥)
        → Scanned item from before us ls None

  module _ (item from before u l : ℕ) (us ls : List ℕ) where
    scanned_first
        : crosses p s n (eqb before 2) l ≡ true → Scanned item from before (u ∷ us) (l ∷ ls) (shown_at item from)
    scanned_first e = at 0 from (omega arith) (omega arith) e (λ i h c. omega arith)

    later_only
        : crosses p s n (eqb before 2) l ≡ false
        → (P : ℕ → Type 0)
        → ((i : ℕ) → i < length ls → Crossing u us ls i ≡ true → P (suc i))
        → (i : ℕ)
        → i < suc (length ls)
        → Crossing before (u ∷ us) (l ∷ ls) i ≡ true
        → P i
    later_only e P later zero h c = absurd (false≢true (sym e ∙ c))
    later_only e P later (suc i) h c = later i (omega arith) c

    scanned_later
        : (q : Option Evidence)
        → crosses p s n (eqb before 2) l ≡ false
        → Scanned item (from + 1) u us ls q
        → Scanned item from before (u ∷ us) (l ∷ ls) q
    scanned_later q e (at j place same h c first) =
        at (suc j) place (omega arith) (omega arith) c
        (later_only e (λ i. suc j ≤ i) (λ i g d. let least = first i g d in omega (arith, least)))
    scanned_later q e (nowhere none) = nowhere (later_only e (λ i. ⊥) none)

    scanned_by
        : (t : Bool)
        → crosses p s n (eqb before 2) l ≡ t
        → (q : Option Evidence)
        → Scanned item (from + 1) u us ls q
        → Scanned item from before (u ∷ us) (l ∷ ls) (cond t (shown_at item from) q)
    scanned_by true e q later = scanned_first e
    scanned_by false e q later = scanned_later q e later

  scans
      : (item from before : ℕ) (us ls : List ℕ)
      → CellLengths p (eqb before 2) us ls
      → Scanned item from before us ls (seen_from p s n item (eqb before 2) from ls)
  unfolding seen_from CellLengths
  scans item from before [] [] w = nowhere (λ i h c. absurd (omega (arith, h)))
  scans item from before [] (l ∷ ls) w = absurd w
  scans item from before (u ∷ us) [] w = absurd w
  scans item from before (u ∷ us) (l ∷ ls) w =
      scanned_by item from before u l us ls (crosses p s n (eqb before 2) l) refl _
      (rw (asked_as_written w.0) (scans item (from + 1) u us ls w.1))

  -- in the paper's words, for the stream of a one-byte list
  data OneList (item : ℕ) : Option Evidence → Type 0 where
    at
        : (place : ℕ)
        → CrossesAt p s (item ∷ []) place
        → ((j : ℕ) → CrossesAt p s (item ∷ []) j → place ≤ j)
        → OneList item (shown_at item place)
    nowhere : ((j : ℕ) → CrossesAt p s (item ∷ []) j → ⊥) → OneList item None

  module _ (item : ℕ) (byte : item < 256) where
    abbrev cells : List ℕ
    cells = written_cells (item ∷ [])

    abbrev stream : List ℕ
    stream = byte_stream p (item ∷ [])

    crosses_there : (j : ℕ) → j < length stream → Crossing 2 cells stream j ≡ true → CrossesAt p s (item ∷ []) j
    crosses_there j h c =
        let same = one_byte_is_written p item byte in
        record { in_stream = rw same h; crosses_edge = rw (same, written_one item byte) c }

    there_crosses : (j : ℕ) → CrossesAt p s (item ∷ []) j → (j < length stream) × (Crossing 2 cells stream j ≡ true)
    there_crosses j c =
        let same = one_byte_is_written p item byte in
        (rw same at c.in_stream, rw (same, written_one item byte) at c.crosses_edge)

    in_words : (q : Option Evidence) → Scanned item 0 2 cells stream q → OneList item q
    in_words q (at j place same h c first) =
        let here : place ≡ j = omega arith in
        at place (rw here (crosses_there j h c))
        (λ i d. let (g, e) = there_crosses i d in let least = first i g e in omega (arith, here, least))
    in_words q (nowhere none) = nowhere (λ i d. let (g, e) = there_crosses i d in none i g e)

    one_list : OneList item (seen_in p s n item)
    one_list =
        rw (one_byte_is_written p item byte)
        (in_words _ (scans item 0 2 cells stream (stream_has_cells k (item ∷ []))))

  -- ---- all lists

  -- what a search sees of the lists from one on
  pub data Found (from left : ℕ) : Option Evidence → Type 0 where
    at
        : (item place : ℕ)
        → item < from + left
        → CrossesAt p s (item ∷ []) place
        → ((j : ℕ) → CrossesAt p s (item ∷ []) j → place ≤ j)
        → ((i j : ℕ) → from ≤ i → CrossesAt p s (i ∷ []) j → item ≤ i)
        → Found from left (shown_at item place)
    nowhere
        : ((i j : ℕ) → from ≤ i → i < from + left → CrossesAt p s (i ∷ []) j → ⊥) → Found from left None

  module _ (from left : ℕ) where
    -- a list that is not the first is a later one
    not_first
        : (P : ℕ → Type 0)
        → ((j : ℕ) → CrossesAt p s (from ∷ []) j → ⊥)
        → ((i j : ℕ) → from + 1 ≤ i → CrossesAt p s (i ∷ []) j → P i)
        → (i j : ℕ)
        → from ≤ i
        → CrossesAt p s (i ∷ []) j
        → P i
    not_first P none later i j h c =
        elim (dec_le (from + 1) i) [
          | yes more ↦ later i j more c
          | no less ↦ let same : i ≡ from = omega arith in absurd (none j (rw same at c))
        ]

    found_with
        : (q r : Option Evidence) → OneList from q → Found (from + 1) left r → Found from (suc left) (or_later q r)
    found_with q r (at place c first) later = at from place (omega arith) c first (λ i j h d. h)
    found_with q r (nowhere none) (at item place h c first lowest) =
        at item place (omega arith) c first (not_first (λ i. item ≤ i) none lowest)
    found_with q r (nowhere none) (nowhere never) =
        nowhere (λ i j h g c.
        not_first (λ i. i < from + suc left → ⊥) none
        (λ i j more d below. never i j more (omega (arith, below)) d) i j h c g)

  searches : (left from : ℕ) → from + left ≤ 256 → Found from left (searched_from p s n left from)
  unfolding searched_from
  searches zero from h = nowhere (λ i j more less c. absurd (omega (arith, more, less)))
  searches (suc left) from h =
      found_with from left _ _ (one_list from (omega (arith, h))) (searches left (from + 1) (omega (arith, h)))

  pub search_finds : Found 0 28 (searched p s n)
  unfolding searched
  search_finds = searches 28 0 (omega arith)
