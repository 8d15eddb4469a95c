-- Laws of dots counted in columns: a stretch of cells has the dots of its parts, and a column that grows makes the sum
-- grow by as much. Rests on no axiom.
use Prim.Native.Nat.{ℕ, zero, suc, ◌+◌, ◌*◌, ◌≤◌, ◌<◌}
use mathlib.Core.Path.{◌≡◌, refl, sym, ap, ◌∙◌}
use mathlib.Core.Bool.{Bool, true, false}
use mathlib.Core.List.{List, [], ◌∷◌, ◌++◌, map, map-append}
use native.Mathlib.Nat.{add-zero}
use native.Mathlib.Omega.{arith}
use borrow.Author.Tests.{eqb-true, eqb-false}
use lib.Dec.{eqb}
use lib.ListN.{length, get_or, set, take, drop, replicate, length-drop, length-set}
use lib.Seq.{take-suc, take-add, take_all, get_or-drop, get_or-set_same, get_or-set_other}
use Rattle.lists.specs.Sum.{sum_of}
use Rattle.lists.proofs.SumLaws.{sum_of-append}
use Rattle.page.specs.Page.{dots_of_cell, dots_of}
use Rattle.page.proofs.CellLaws.{dots_are_few, dots_of_three_are_few}

-- ---- dots of stretches

pub dots_of-append : (xs ys : List ℕ) → dots_of (xs ++ ys) ≡ dots_of xs + dots_of ys
unfolding dots_of
dots_of-append xs ys = ap sum_of (map-append dots_of_cell xs ys) ∙ sum_of-append (map dots_of_cell xs) (map dots_of_cell ys)

dots_of_one : (cell : ℕ) → dots_of (cell ∷ []) ≡ dots_of_cell cell
unfolding dots_of sum_of
dots_of_one cell = add-zero (dots_of_cell cell)

pub dots_of_none : dots_of [] ≡ 0
unfolding dots_of sum_of
dots_of_none = refl

pub dots_of_next
    : (cells : List ℕ) (k : ℕ)
    → k < length cells
    → dots_of (take (suc k) cells) ≡ dots_of (take k cells) + dots_of_cell (get_or cells k 0)
dots_of_next cells k h =
    ap dots_of (take-suc cells k 0 h)
    ∙ dots_of-append (take k cells) (get_or cells k 0 ∷ [])
    ∙ ap (λ (n : ℕ). dots_of (take k cells) + n) (dots_of_one (get_or cells k 0))

pub dots_of_stretch
    : (a b : ℕ) (cells : List ℕ) → dots_of (take (a + b) cells) ≡ dots_of (take a cells) + dots_of (take b (drop a cells))
dots_of_stretch a b cells = ap dots_of (take-add a b cells) ∙ dots_of-append (take a cells) (take b (drop a cells))

-- three rows of 32
pub dots_of_rows
    : (rows : List ℕ)
    → length rows ≡ 96
    → dots_of (take 32 rows) + dots_of (take 32 (drop 32 rows)) + dots_of (take 32 (drop 64 rows)) ≡ dots_of rows
dots_of_rows rows e =
    let two = dots_of_stretch 32 32 rows in
    let three = dots_of_stretch 64 32 rows in
    let all = ap dots_of (take_all 96 rows (omega arith)) in
    omega (arith, two, three, all)

-- ---- columns

pub sum_with_more
    : (columns : List ℕ) (k more : ℕ)
    → k < length columns
    → sum_of (set columns k (get_or columns k 0 + more)) ≡ sum_of columns + more
unfolding sum_of
sum_with_more [] k more h = absurd (omega arith)
sum_with_more (x ∷ xs) zero more h = omega arith
sum_with_more (x ∷ xs) (suc k) more h =
    let rest = sum_with_more xs k more (omega arith) in omega (arith, rest)

pub sum_of_next
    : (columns : List ℕ) (k : ℕ)
    → k < length columns
    → sum_of (take (suc k) columns) ≡ sum_of (take k columns) + get_or columns k 0
unfolding sum_of
sum_of_next columns k h =
    ap sum_of (take-suc columns k 0 h)
    ∙ sum_of-append (take k columns) (get_or columns k 0 ∷ [])
    ∙ ap (λ (n : ℕ). sum_of (take k columns) + n) (add-zero (get_or columns k 0))

pub no_sum : sum_of [] ≡ 0
unfolding sum_of
no_sum = refl

pub no_columns : sum_of (replicate 32 0) ≡ 0
unfolding sum_of
no_columns = refl

pub zero_column : (n j : ℕ) → ◌≡◌ {A = ℕ} (get_or (replicate n 0) j 0) 0
zero_column zero j = refl
zero_column (suc n) zero = refl
zero_column (suc n) (suc j) = zero_column n j

-- eight dots to a cell at most
pub dots_at_most : (cells : List ℕ) → ((j : ℕ) → get_or cells j 0 < 256) → dots_of cells ≤ 8 * length cells
unfolding dots_of sum_of
dots_at_most [] bytes = omega arith
dots_at_most (cell ∷ cells) bytes =
    let rest = dots_at_most cells (λ j. bytes (suc j)) in
    let first = dots_are_few cell (bytes 0) in
    omega (arith, rest, first)

-- the page of ten times three rows and a line
pub dots_of_page
    : (page : List ℕ)
    → length page ≡ 1000
    → dots_of (take 960 page) + dots_of (take 40 (drop 960 page)) ≡ dots_of page
dots_of_page page size =
    sym (dots_of_stretch 960 40 page) ∙ ap dots_of (take_all 1000 page (omega (arith, size)))

-- ---- columns while three rows are added, the first k of them having grown

pub record Grown (rows old new : List ℕ) (k : ℕ) : Type 0 where
  pub count : length new ≡ 32
  pub sum
      : sum_of new
      ≡ sum_of old + (dots_of (take k rows) + dots_of (take k (drop 32 rows)) + dots_of (take k (drop 64 rows)))
  pub rest : (j : ℕ) → k ≤ j → get_or new j 0 ≡ get_or old j 0
  pub each : (j : ℕ) → get_or new j 0 ≤ get_or old j 0 + 24

pub none_grown : (rows old : List ℕ) → length old ≡ 32 → Grown rows old old 0
none_grown rows old size =
    record { count = size; sum = omega (arith, dots_of_none); rest = λ j h. refl; each = λ j. omega arith }

pub all_grown : (rows old new : List ℕ) → length rows ≡ 96 → Grown rows old new 32 → sum_of new ≡ sum_of old + dots_of rows
all_grown rows old new size g = g.sum ∙ ap (λ (n : ℕ). sum_of old + n) (dots_of_rows rows size)

module _
    (rows old new : List ℕ) (k : ℕ) (size : length rows ≡ 96) (bytes : (j : ℕ) → get_or rows j 0 < 256)
    (inside : k < 32) (g : Grown rows old new k)
  where
    abbrev more : ℕ
    more = dots_of_cell (get_or rows k 0) + dots_of_cell (get_or rows (32 + k) 0) + dots_of_cell (get_or rows (64 + k) 0)

    abbrev next : List ℕ
    next = set new k (get_or new k 0 + more)

    -- row i of the three
    row_grows
        : (i : ℕ)
        → i + k < 96
        → dots_of (take (suc k) (drop i rows)) ≡ dots_of (take k (drop i rows)) + dots_of_cell (get_or rows (i + k) 0)
    row_grows i h =
        dots_of_next (drop i rows) k (rw length-drop (omega arith))
        ∙ ap (λ (cell : ℕ). dots_of (take k (drop i rows)) + dots_of_cell cell) (get_or-drop i rows k 0)

    grows
        : (a b c a1 b1 c1 a2 b2 c2 n o m : ℕ)
        → n ≡ o + (a + b + c)
        → m ≡ n + (a1 + b1 + c1)
        → a2 ≡ a + a1
        → b2 ≡ b + b1
        → c2 ≡ c + c1
        → m ≡ o + (a2 + b2 + c2)
    grows a b c a1 b1 c1 a2 b2 c2 n o m e f g h i = omega arith

    pub grown_on : Grown rows old next (suc k)
    grown_on =
        record {
          count = length-set new k (get_or new k 0 + more) ∙ g.count;
          sum =
              grows _ _ _ _ _ _ _ _ _ _ _ _ g.sum (sum_with_more new k more (omega (arith, g.count)))
              (dots_of_next rows k (omega arith)) (row_grows 32 (omega arith)) (row_grows 64 (omega arith));
          rest = λ j h.
              get_or-set_other new k j (get_or new k 0 + more) 0 (λ e. omega arith) ∙ g.rest j (omega arith);
          each = λ j. by j (eqb j k) refl;
        }
      where
        few : more ≤ 24
        few = dots_of_three_are_few _ _ _ (bytes k) (bytes (32 + k)) (bytes (64 + k))

        by : (j : ℕ) (t : Bool) → eqb j k ≡ t → get_or next j 0 ≤ get_or old j 0 + 24
        by j true e =
            rw (eqb-true j k e, get_or-set_same new k (get_or new k 0 + more) 0 (omega (arith, g.count)), g.rest k (omega arith))
            (omega (arith, few))
        by j false e = rw (get_or-set_other new k j (get_or new k 0 + more) 0 (eqb-false j k e)) (g.each j)
