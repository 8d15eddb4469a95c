-- Entries put in order: they go by sector number and then by ID place, each as often as it was found, and no other list
-- of them does. By induction on the entries found. Rests on no axiom.
use Prim.Native.Nat.{ℕ, ◌<◌}
use mathlib.Core.Path.{◌≡◌, refl, sym, ap, ◌∙◌}
use mathlib.Core.Bool.{Bool, true, false, cond, true≢false}
use mathlib.Core.List.{List, [], ◌∷◌, ◌++◌}
use mathlib.Mathlib.Data.Bool.Basic.{eq-false_of_not-eq-true}
use native.Mathlib.Omega.{arith}
use borrow.Author.Tests.{ltb-true, ne_eqb}
use lib.Dec.{ltb}
use Rattle.lists.specs.Place.{everywhere}
use Rattle.lists.proofs.PlaceLaws.{everywhere_of_none, everywhere_of_passing, everywhere_passes_at_first}
use Rattle.lists.proofs.PlaceLaws.{everywhere_in_rest}
use Rattle.entries.specs.declared.Entry.{Entry}
use Rattle.track.specs.Order.{is_before, put_among, in_order, Rearranged, none, one, Ascending}
use Rattle.track.proofs.OrderLaws.{before_is_not_behind, before_one_behind, one_is_before, apart_from}
use Rattle.track.proofs.OrderLaws.{put_everywhere, beside, put_ascends}

-- ---- entries put in order

pub ordered_everywhere
    : (f : Entry → Bool) (es : List Entry) → everywhere f es ≡ true → everywhere f (in_order es) ≡ true
unfolding in_order
ordered_everywhere f [] all = all
ordered_everywhere f (e ∷ es) all =
    put_everywhere f e (in_order es) (everywhere_passes_at_first f e es all)
    (ordered_everywhere f es (everywhere_in_rest f e es all))

-- each entry's ID stands before those of the entries behind it
unfoldable pub is_later : ℕ → Entry → Bool
is_later k e = ltb k e.place

abbrev pub PlacesAscend : List Entry → Type 0
PlacesAscend [] = Unit {0}
PlacesAscend (e ∷ es) = (everywhere (is_later e.place) es ≡ true) × PlacesAscend es

later_is_apart
    : (e : Entry) (xs : List Entry) → everywhere (is_later e.place) xs ≡ true → everywhere (apart_from e) xs ≡ true
unfolding is_later apart_from
later_is_apart e [] all = everywhere_of_none (apart_from e)
later_is_apart e (x ∷ xs) all =
    let later = ltb-true e.place x.place (everywhere_passes_at_first (is_later e.place) x xs all) in
    everywhere_of_passing (apart_from e) x xs (rw (ne_eqb e.place x.place (λ same. omega arith)))
    ∙ later_is_apart e xs (everywhere_in_rest (is_later e.place) x xs all)

pub ordered_ascends : (es : List Entry) → PlacesAscend es → Ascending (in_order es)
unfolding in_order
ordered_ascends [] places = tt
ordered_ascends (e ∷ es) (later, places) =
    put_ascends e (in_order es) (ordered_ascends es places)
    (ordered_everywhere (apart_from e) es (later_is_apart e es later))

-- ---- each as often as it was found

record Put (e : Entry) (xs : List Entry) : Type 0 where
  pub before : List Entry
  pub after : List Entry
  pub among : xs ≡ before ++ after
  pub there : put_among e xs ≡ before ++ (e ∷ after)

put_there : (e : Entry) (xs : List Entry) → Put e xs
unfolding put_among
put_there e [] = record { before = []; after = []; among = refl; there = refl }
put_there e (x ∷ xs) =
    elim (is_before e x) as (λ t. is_before e x ≡ t → Put e (x ∷ xs)) [
      | true ↦ λ q. record { before = []; after = x ∷ xs; among = refl; there = rw q refl }
      | false ↦ λ q.
          let put = put_there e xs in
          record {
            before = x ∷ put.before;
            after = put.after;
            among = ap (λ (ys : List Entry). x ∷ ys) put.among;
            there = rw q (ap (λ (ys : List Entry). x ∷ ys) put.there);
          }
    ]
    refl

pub ordered_has_each : (es : List Entry) → Rearranged es (in_order es)
unfolding in_order
ordered_has_each [] = none
ordered_has_each (e ∷ es) =
    let put = put_there e (in_order es) in
    one {found = es} put.before put.after put.there (rw (← put.among) (ordered_has_each es))

-- ---- no other list

without : (before : List Entry) (e : Entry) (after : List Entry) → Ascending (before ++ (e ∷ after))
    → Ascending (before ++ after)
without [] e after (first, rest) = rest
without (b ∷ before) e after (first, rest) =
    ((beside (is_before b) e before after first).1, without before e after rest)

put_where_it_stood
    : (before : List Entry) (e : Entry) (after : List Entry)
    → Ascending (before ++ (e ∷ after))
    → before ++ (e ∷ after) ≡ put_among e (before ++ after)
unfolding put_among
put_where_it_stood [] e [] asc = refl
put_where_it_stood [] e (x ∷ xs) (first, rest) = rw (everywhere_passes_at_first (is_before e) x xs first)
put_where_it_stood (b ∷ before) e after (first, rest) =
    rw (before_is_not_behind b e (beside (is_before b) e before after first).0)
    (ap (λ (ys : List Entry). b ∷ ys) (put_where_it_stood before e after rest))

pub only_in_order : {found list : List Entry} → Rearranged found list → Ascending list → list ≡ in_order found
unfolding in_order
only_in_order none asc = refl
only_in_order (one {e = e} before after is rest) asc =
    let stood : Ascending (before ++ (e ∷ after)) = rw (sym is) asc in
    is ∙ put_where_it_stood before e after stood ∙ ap (put_among e) (only_in_order rest (without before e after stood))

-- entries that are in order stay as they stand
has_each_of_itself : (es : List Entry) → Rearranged es es
has_each_of_itself [] = none
has_each_of_itself (e ∷ es) = one {found = es} [] es refl (has_each_of_itself es)

pub in_order_stays : (es : List Entry) → Ascending es → es ≡ in_order es
in_order_stays es asc = only_in_order (has_each_of_itself es) asc

-- ---- one entry more

not_before : (b a x : Entry) → is_before a x ≡ true → is_before b x ≡ false → is_before b a ≡ false
not_before b a x e f = eq-false_of_not-eq-true (λ q. true≢false (sym (before_one_behind b a x q e) ∙ f))

put_by
    : (t u : Bool) (a b x : Entry) (xs : List Entry)
    → is_before a x ≡ t
    → is_before b x ≡ u
    → (a.place ≡ b.place → ⊥)
    → put_among a (put_among b xs) ≡ put_among b (put_among a xs)
    → put_among a (cond u (b ∷ x ∷ xs) (x ∷ put_among b xs)) ≡ put_among b (cond t (a ∷ x ∷ xs) (x ∷ put_among a xs))
unfolding put_among
put_by true true a b x xs e f other again =
    elim (is_before a b) as (λ t.
    is_before a b ≡ t
    → cond t (a ∷ b ∷ x ∷ xs) (b ∷ put_among a (x ∷ xs)) ≡ cond (is_before b a) (b ∷ a ∷ x ∷ xs) (a ∷ put_among b (x ∷ xs))) [
      | true ↦ λ q. rw (before_is_not_behind a b q, f)
      | false ↦ λ q. rw (one_is_before a b other q, e)
    ]
    refl
put_by true false a b x xs e f other again = rw (e, not_before b a x e f, f)
put_by false true a b x xs e f other again = rw (f, not_before a b x f e, e)
put_by false false a b x xs e f other again = rw (e, f) (ap (λ (ys : List Entry). x ∷ ys) again)

-- it does not matter which of two is put first
put_put
    : (a b : Entry) (xs : List Entry)
    → (a.place ≡ b.place → ⊥)
    → put_among a (put_among b xs) ≡ put_among b (put_among a xs)
unfolding put_among
put_put a b [] other =
    elim (is_before a b) as (λ t.
    is_before a b ≡ t → cond t (a ∷ b ∷ []) (b ∷ a ∷ []) ≡ cond (is_before b a) (b ∷ a ∷ []) (a ∷ b ∷ [])) [
      | true ↦ λ q. rw (before_is_not_behind a b q)
      | false ↦ λ q. rw (one_is_before a b other q)
    ]
    refl
put_put a b (x ∷ xs) other = put_by (is_before a x) (is_before b x) a b x xs refl refl other (put_put a b xs other)

-- the last one found is put among those before it
pub ordered_with_last
    : (es : List Entry) (e : Entry) → PlacesAscend (es ++ (e ∷ [])) → in_order (es ++ (e ∷ [])) ≡ put_among e (in_order es)
unfolding in_order is_later
ordered_with_last [] e places = refl
ordered_with_last (d ∷ es) e (later, places) =
    let behind : d.place < e.place =
    ltb-true _ _ (beside (is_later d.place) e es [] later).0 in
    ap (put_among d) (ordered_with_last es e places) ∙ put_put d e (in_order es) (λ same. omega arith)
