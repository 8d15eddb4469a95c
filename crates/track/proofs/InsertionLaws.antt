-- How an entry is put among entries that are handed back, in order: it slides past those that it goes before, and these
-- are all that stand behind the first of them. Rests on no axiom.
use Prim.Native.Nat.{ℕ, zero, suc, ◌-◌, ◌≤◌, ◌<◌}
use mathlib.Core.Path.{◌≡◌, refl, sym, ap, ◌∙◌}
use mathlib.Core.Bool.{true, false, cond}
use mathlib.Core.List.{List, [], ◌∷◌, ◌++◌, map, map-append}
use native.Mathlib.Numerals.{add-one}
use native.Mathlib.Omega.{arith}
use lib.ListN.{length, get_or, set, take, drop, replicate, length-set, length-map, length-append}
use lib.Seq.{take-suc, append_snoc, take-set-le, drop-set-lt, drop-cons, get_or-set_same, take_at, drop-append-add}
use Rattle.lists.specs.Place.{everywhere}
use Rattle.lists.proofs.BoolLaws.{both}
use Rattle.lists.proofs.PlaceLaws.{everywhere_of_none, everywhere_of_passing, everywhere_passes_at_first}
use Rattle.lists.proofs.PlaceLaws.{everywhere_in_rest, everywhere-append}
use Rattle.entries.specs.declared.Entry.{Entry}
use Rattle.track.specs.Order.{is_before, put_among, in_order, Ascending}
use Rattle.track.specs.Index.{no_entry, padded}
use Rattle.track.specs.HandedBack.{index_entry_of}
use Rattle.track.specs.machine.Insertion.{handed_before, blank, slid_in}
use Rattle.track.specs.declared.index.IndexEntry.{IndexEntry}
use Rattle.track.proofs.OrderLaws.{all_behind}

-- ---- one that it does not go before stays

slid_behind
    : (x : IndexEntry) (xs : List IndexEntry) (n : ℕ) (e : IndexEntry)
    → handed_before e x ≡ false
    → slid_in (x ∷ xs) (suc n) e ≡ x ∷ slid_in xs n e
unfolding slid_in
slid_behind x xs zero e h = rw h
slid_behind x xs (suc k) e h =
    elim (handed_before e (get_or xs k blank)) as (λ t.
    cond t (slid_in (x ∷ set xs (suc k) (get_or xs k blank)) (suc k) e) (x ∷ set xs (suc k) e)
    ≡ x ∷ cond t (slid_in (set xs (suc k) (get_or xs k blank)) k e) (set xs (suc k) e)) [
      | true ↦ slid_behind x (set xs (suc k) (get_or xs k blank)) k e h
      | false ↦ refl
    ]

-- ---- those that it goes before move up

slid_to_front
    : (n : ℕ) (xs : List IndexEntry) (e : IndexEntry)
    → n < length xs
    → everywhere (handed_before e) (take n xs) ≡ true
    → slid_in xs n e ≡ e ∷ (take n xs ++ drop (suc n) xs)
unfolding slid_in
slid_to_front zero [] e h all = absurd (omega arith)
slid_to_front zero (x ∷ xs) e h all = refl
slid_to_front (suc k) xs e h all =
    let last = get_or xs k blank in
    let moved = set xs (suc k) last in
    let front = take-suc xs k blank (omega arith) in
    let (before, here) =
    both (everywhere (handed_before e) (take k xs)) (everywhere (handed_before e) (last ∷ []))
    (sym (everywhere-append (handed_before e) (take k xs) (last ∷ [])) ∙ rw front at all) in
    let same : take k moved ≡ take k xs = take-set-le k xs (suc k) last (omega arith) in
    let within : suc k < length moved = omega (arith, length-set xs (suc k) last) in
    let behind : drop (suc k) moved ≡ last ∷ drop (suc (suc k)) xs =
    drop-cons moved (suc k) blank within
    ∙ rw (get_or-set_same xs (suc k) last blank (omega arith), drop-set-lt (suc (suc k)) xs (suc k) last (omega arith)) in
    rw (everywhere_passes_at_first (handed_before e) last [] here)
    (slid_to_front k moved e (omega arith) (rw same before)
    ∙ ap (λ (ys : List IndexEntry). e ∷ ys) (rw (same, behind, front) (sym (append_snoc (take k xs) last _))))

slid_under
    : (xs : List IndexEntry) (n : ℕ) (b : IndexEntry) (rest : List IndexEntry) (e : IndexEntry)
    → length xs ≡ n
    → everywhere (handed_before e) xs ≡ true
    → slid_in (xs ++ (b ∷ rest)) n e ≡ e ∷ (xs ++ rest)
slid_under xs n b rest e count all =
    let front : take n (xs ++ (b ∷ rest)) ≡ xs = take_at xs (b ∷ rest) n count in
    let back : drop (suc n) (xs ++ (b ∷ rest)) ≡ rest =
    rw (← count, ← add-one (length xs)) (drop-append-add xs (b ∷ rest) 1) in
    slid_to_front n (xs ++ (b ∷ rest)) e (omega (arith, length-append xs (b ∷ rest))) (rw front all) ∙ rw (front, back)

-- ---- among entries in order

all_handed : (e : Entry) (xs : List Entry) → everywhere (is_before e) xs ≡ true
    → everywhere (handed_before (index_entry_of e)) (map index_entry_of xs) ≡ true
unfolding is_before
all_handed e [] all = everywhere_of_none (handed_before (index_entry_of e))
all_handed e (x ∷ xs) all =
    everywhere_of_passing (handed_before (index_entry_of e)) (index_entry_of x) (map index_entry_of xs)
    (everywhere_passes_at_first (is_before e) x xs all)
    ∙ all_handed e xs (everywhere_in_rest (is_before e) x xs all)

not_handed_before
    : (e x : Entry) → is_before e x ≡ false → handed_before (index_entry_of e) (index_entry_of x) ≡ false
unfolding is_before
not_handed_before e x h = h

slid_among
    : (e : Entry) (xs : List Entry) (b : IndexEntry) (rest : List IndexEntry)
    → Ascending xs
    → slid_in (map index_entry_of xs ++ (b ∷ rest)) (length xs) (index_entry_of e)
    ≡ map index_entry_of (put_among e xs) ++ rest
unfolding put_among
slid_among e [] b rest asc = slid_to_front 0 (b ∷ rest) (index_entry_of e) (omega arith) (everywhere_of_none _)
slid_among e (x ∷ xs) b rest (first, asc) =
    elim (is_before e x) as (λ t.
    is_before e x ≡ t
    → slid_in (map index_entry_of (x ∷ xs) ++ (b ∷ rest)) (suc (length xs)) (index_entry_of e)
    ≡ map index_entry_of (cond t (e ∷ x ∷ xs) (x ∷ put_among e xs)) ++ rest) [
      | true ↦ λ q.
          let all : everywhere (is_before e) (x ∷ xs) ≡ true =
          everywhere_of_passing (is_before e) x xs q ∙ all_behind e x xs q first in
          slid_under (map index_entry_of (x ∷ xs)) (suc (length xs)) b rest (index_entry_of e)
          (length-map (x ∷ xs) index_entry_of) (all_handed e (x ∷ xs) all)
      | false ↦ λ q.
          slid_behind (index_entry_of x) (map index_entry_of xs ++ (b ∷ rest)) (length xs) (index_entry_of e)
          (not_handed_before e x q)
          ∙ ap (λ (ys : List IndexEntry). index_entry_of x ∷ ys) (slid_among e xs b rest asc)
    ]
    refl

-- ---- in the array that is handed back

pub put_is_longer : (e : Entry) (xs : List Entry) → length (put_among e xs) ≡ suc (length xs)
unfolding put_among
put_is_longer e [] = refl
put_is_longer e (x ∷ xs) =
    elim (is_before e x) as (λ t. length (cond t (e ∷ x ∷ xs) (x ∷ put_among e xs)) ≡ suc (suc (length xs))) [
      | true ↦ refl
      | false ↦ ap suc (put_is_longer e xs)
    ]

pub ordered_length : (es : List Entry) → length (in_order es) ≡ length es
unfolding in_order
ordered_length [] = refl
ordered_length (e ∷ es) = put_is_longer e (in_order es) ∙ ap suc (ordered_length es)

-- one more entry takes the place of a blank one
pub slid_into_blank
    : (e : Entry) (xs : List Entry)
    → Ascending xs
    → length xs < 32
    → slid_in (map index_entry_of (padded xs)) (length xs) (index_entry_of e) ≡ map index_entry_of (padded (put_among e xs))
unfolding padded
slid_into_blank e xs asc h =
    let m = 32 - length xs - 1 in
    let some : 32 - length xs ≡ suc m = omega arith in
    let longer = put_is_longer e xs in
    let left : m ≡ 32 - length (put_among e xs) = omega arith in
    rw (map-append, some)
    (slid_among e xs blank (map index_entry_of (replicate m no_entry)) asc
    ∙ sym (map-append index_entry_of (put_among e xs) (replicate m no_entry))
    ∙ ap (λ (n : ℕ). map index_entry_of (put_among e xs ++ replicate n no_entry)) left)

-- ---- turn by turn

module _ (entries : List IndexEntry) (k : ℕ) (e : IndexEntry) where
  slides_by
      : (at : ℕ)
      → at ≡ suc k
      → handed_before e (get_or entries k blank) ≡ true
      → slid_in (set entries at (get_or entries k blank)) k e ≡ slid_in entries at e
  unfolding slid_in
  slides_by at is h = rw (is, h)

  stays_by : (at : ℕ) → at ≡ suc k → handed_before e (get_or entries k blank) ≡ false → set entries at e ≡ slid_in entries at e
  unfolding slid_in
  stays_by at is h = rw (is, h)

module _ (entries : List IndexEntry) (at : ℕ) (e : IndexEntry) where
  abbrev last : IndexEntry
  last = get_or entries (at - 1) blank

  pub slides : 0 < at → handed_before e last ≡ true → slid_in (set entries at last) (at - 1) e ≡ slid_in entries at e
  slides some h = slides_by entries (at - 1) e at (omega arith) h

  pub stays : 0 < at → handed_before e last ≡ false → set entries at e ≡ slid_in entries at e
  stays some h = stays_by entries (at - 1) e at (omega arith) h

  pub stays_in_front : at ≤ 0 → set entries at e ≡ slid_in entries at e
  unfolding slid_in
  stays_in_front h =
      let is : at ≡ 0 = omega arith in rw is
