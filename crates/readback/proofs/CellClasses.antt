-- The classes of cells: of a sync, of a mark A1, and of the gap between the fields, in which no run of 64 stands. They
-- are the cells of those bytes, one class for each. Rests on no axiom.
use Prim.Native.Nat.{ℕ, zero, suc, ◌+◌, ◌<◌, ◌-◌}
use mathlib.Core.Path.{◌≡◌, refl, sym, ap, ◌∙◌}
use mathlib.Core.Bool.{true, false}
use mathlib.Core.List.{List, ◌∷◌, ◌++◌, map, map-append, append_assoc, []}
use native.Mathlib.Omega.{arith}
use borrow.Author.Tests.{lt-ltb}
use lib.ListN.{length, get_or, drop, replicate, length-append, length-map, length-replicate, get_or-replicate}
use lib.ListN.{get_or-append, length-drop}
use lib.Seq.{drop_at, drop-drop, get_or-append-add}
use Rattle.timing.specs.Class.{classes_of}
use Rattle.timing.specs.declared.Profile.{Profile}
use Rattle.timing.specs.declared.Class.{Class}
use Rattle.timing.specs.declared.Class.TheVariants.{Narrow, Two, Three, Four}
use Rattle.timing.proofs.ClassLaws.{classes_length, classes_after_two}
use Rattle.timing.proofs.MiddleLaws.{Behind, in_step, missed, misread, in_step_behind_other}
use Rattle.symbols.specs.Bits.{Bit, O, I, G, all_bits}
use Rattle.symbols.specs.Cells.{written_cells}
use Rattle.symbols.specs.Reading.{units, read_from, read_bits}
use Rattle.symbols.specs.Bytes.{is_gap}
use Rattle.symbols.specs.declared.Cell.{Cell}
use Rattle.symbols.proofs.RoundTripLaws.{cells_are_read, read_of_write}
use Rattle.symbols.proofs.MiddleLaws.{cells_before, cells_after_byte}
use Rattle.symbols.proofs.FormatLaws.{cells_of_zero_bytes, cells_of_mark_a1, filler_cells, filler_after, filler_is_read}
use Rattle.lengths.specs.Units.{class_of_units}
use Rattle.intervals.proofs.CellLaws.{class_of_cell}
use Rattle.locks.proofs.FillerLaws.{mark_a1, passes}
use Rattle.demands.proofs.ClassCells.{classes_of_cells}
use Rattle.readback.specs.SectorReads.{place_after}
use Rattle.readback.proofs.WrittenSector.{A1}

-- ---- the cells of written bytes, as they are read

pub cells : List ℕ → List Cell
cells ws = (cells_are_read ws).0

cells_units : (ws : List ℕ) → map units (cells ws) ≡ written_cells ws
unfolding cells
cells_units ws = (cells_are_read ws).1

pub cells_bits : (ws : List ℕ) → read_bits (cells ws) ≡ O ∷ all_bits ws ++ (O ∷ [])
cells_bits ws = read_of_write ws (cells ws) (cells_units ws)

-- and their classes
abbrev pub classes_for : List ℕ → List Class
classes_for ws = map class_of_units (written_cells ws)

pub cells_classes : (ws : List ℕ) → classes_for ws ≡ map class_of_cell (cells ws)
cells_classes ws = cc (cells_units ws, (classes_of_cells (cells ws)).0)

-- ---- sync, mark and gap

classes_after : (us ws : List ℕ) → map class_of_units (us ++ written_cells ws) ≡ map class_of_units us ++ classes_for ws
classes_after us ws = map-append class_of_units us (written_cells ws)

pub sync_classes : (ws : List ℕ) → classes_for (replicate 12 0x00 ++ ws) ≡ replicate 96 Two ++ classes_for ws
unfolding class_of_units
sync_classes ws = cc (cells_of_zero_bytes 12 ws)

pub mark_classes : (ws : List ℕ) → (cs : List Class) × (classes_for (A1 ∷ ws) ≡ mark_a1 cs)
unfolding class_of_units
mark_classes ws = let (us, mark) = cells_of_mark_a1 ws in (map class_of_units us, cc mark)

-- a gap of n + 1 bytes 4E after a bit, up to the first minimum interval of the sync
abbrev pub filler_classes : Bit → ℕ → List Class
filler_classes b n = map class_of_units (filler_after b n)

no_run_between : (n : ℕ) → passes 2 (map class_of_units (filler_cells n)) ≡ true
unfolding passes class_of_units filler_cells
no_run_between zero = refl
no_run_between (suc n) = no_run_between n

pub no_run_of_none : passes 0 [] ≡ true
unfolding passes
no_run_of_none = refl

pub no_run_in_filler : (b : Bit) (n : ℕ) → passes 0 (filler_classes b n) ≡ true
unfolding passes class_of_units filler_after
no_run_in_filler O n = no_run_between n
no_run_in_filler I n = no_run_between n
no_run_in_filler G n = no_run_between n

pub filler_classes_lem
    : (b : Bit) (n : ℕ) (ws : List ℕ) (xs : List Cell)
    → is_gap b ≡ false
    → read_from b xs ≡ all_bits (replicate (suc n) 0x4e ++ (replicate 12 0x00 ++ ws)) ++ (O ∷ [])
    → map class_of_cell xs ≡ filler_classes b n ++ (replicate 95 Two ++ classes_for ws)
unfolding class_of_units
filler_classes_lem b n ws xs no_gap h =
    sym (classes_of_cells xs).0
    ∙ ap (map class_of_units) (filler_is_read b n (replicate 11 0x00 ++ ws) xs no_gap h
    ∙ ap (λ (us : List ℕ). filler_after b n ++ (replicate 7 2 ++ us)) (cells_of_zero_bytes 11 ws))
    ∙ map-append class_of_units (filler_after b n) _
    ∙ ap (λ (cs : List Class). filler_classes b n ++ cs) (classes_after (replicate 95 2) ws)

-- ---- a list that is read from its middle on

-- a search from any start is behind the whole list
abbrev pub ReadBehind : Profile → List ℕ → Type 0
ReadBehind p ds = (start : ℕ) → Behind (classes_of p (drop start ds)) (drop start (classes_of p ds))

-- so many intervals behind one that is not of class 2, the two are in step
pub in_step_later
    : {cs ws : List Class}
    → Behind cs ws
    → (k : ℕ)
    → (get_or cs k Two ≡ Two → ⊥)
    → (u : ℕ)
    → 0 < u
    → drop u (drop k ws) ≡ drop u (drop k cs)
in_step_later b k other zero some = absurd (omega arith)
in_step_later {cs} {ws} b k other (suc v) some =
    let same : k + suc v ≡ suc k + v = omega arith in
    drop-drop (suc v) k ws
    ∙ ap (λ (n : ℕ). drop n ws) same
    ∙ sym (drop-drop v (suc k) ws)
    ∙ ap (drop v) (sym (in_step_behind_other b k other))
    ∙ drop-drop v (suc k) cs
    ∙ ap (λ (n : ℕ). drop n cs) (sym same)
    ∙ sym (drop-drop (suc v) k cs)

-- ---- a gap that is read from its first interval on

-- what is left of a gap of n + 1 bytes, after its first two ones
abbrev gap_classes : ℕ → List Class
gap_classes n = map class_of_units (filler_cells n)

-- its first cell is of class 3
run_ends_in_gap : (n run : ℕ) → passes run (gap_classes n) ≡ true
unfolding passes class_of_units filler_cells
run_ends_in_gap zero run = refl
run_ends_in_gap (suc n) run = no_run_between n

-- classes without a run of 64, and what follows them
pub record Gap (cs tail : List Class) (run : ℕ) : Type 0 where
  pub filler : List Class
  pub no_run : passes run filler ≡ true
  pub classes : cs ≡ filler ++ tail

gap_more : {cs tail : List Class} {run : ℕ} → run < 63 → Gap cs tail (suc run) → Gap (Two ∷ cs) tail run
unfolding passes
gap_more {run = run} few g =
    record {
      filler = Two ∷ g.filler;
      no_run = rw (lt-ltb run 63 few) g.no_run;
      classes = ap (λ (cs : List Class). Two ∷ cs) g.classes;
    }

module _ (n : ℕ) (tail : List Class) where
  -- at the two ones the reading is in step
  at_ones : (run : ℕ) {cs : List Class} → run < 60 → Behind cs (Two ∷ Two ∷ gap_classes n ++ tail) → Gap cs tail run
  unfolding passes
  at_ones run few (in_step e) =
      record {
        filler = Two ∷ Two ∷ gap_classes n;
        no_run = rw (lt-ltb run 63 (omega arith), lt-ltb (suc run) 63 (omega arith)) (run_ends_in_gap n (suc (suc run)));
        classes = e;
      }
  at_ones run few (missed other rest) = absurd (other refl)

  before_ones
      : (run : ℕ) {cs : List Class} → run < 50 → Behind cs (Three ∷ Two ∷ Two ∷ gap_classes n ++ tail)
      → Gap cs tail run
  unfolding passes
  before_ones run few (in_step e) =
      record { filler = Three ∷ Two ∷ Two ∷ gap_classes n; no_run = run_ends_in_gap n 2; classes = e }
  before_ones run few (missed other rest) = gap_more (omega arith) (at_ones (suc run) (omega arith) rest)

  two_before
      : (run : ℕ) {cs : List Class} → run < 40 → Behind cs (Three ∷ Three ∷ Two ∷ Two ∷ gap_classes n ++ tail)
      → Gap cs tail run
  unfolding passes
  two_before run few (in_step e) =
      record { filler = Three ∷ Three ∷ Two ∷ Two ∷ gap_classes n; no_run = run_ends_in_gap n 2; classes = e }
  two_before run few (missed other rest) = gap_more (omega arith) (before_ones (suc run) (omega arith) rest)

  pub gap_is_passed : (b : Bit) {cs : List Class} → Behind cs (filler_classes b n ++ tail) → Gap cs tail 0
  unfolding passes class_of_units filler_after
  gap_is_passed O (in_step e) = record { filler = filler_classes O n; no_run = no_run_in_filler O n; classes = e }
  gap_is_passed O (missed other rest) = gap_more (omega arith) (two_before 1 (omega arith) rest)
  gap_is_passed G (in_step e) = record { filler = filler_classes G n; no_run = no_run_in_filler G n; classes = e }
  gap_is_passed G (missed other rest) = gap_more (omega arith) (two_before 1 (omega arith) rest)
  gap_is_passed I (in_step e) = record { filler = filler_classes I n; no_run = no_run_in_filler I n; classes = e }
  gap_is_passed I (missed other rest) = gap_more (omega arith) (two_before 1 (omega arith) rest)
  gap_is_passed I misread =
      record { filler = Three ∷ Three ∷ Three ∷ Two ∷ Two ∷ gap_classes n; no_run = run_ends_in_gap n 2; classes = refl }

-- ---- places

-- the classes after a run of class 2, where a list is classed as from its start on
pub classes_after_run
    : (p : Profile) (ds : List ℕ) (front rest : List Class) (n : ℕ)
    → 0 < n
    → classes_of p ds ≡ front ++ (replicate n Two ++ rest)
    → classes_of p (drop (length front + n) ds) ≡ rest
classes_after_run p ds front rest n some h =
    let run : List Class = front ++ replicate n Two in
    let last : ℕ = length front + (n - 1) in
    let next : length front + n ≡ suc last = omega arith in
    let whole : classes_of p ds ≡ run ++ rest = h ∙ sym (append_assoc front _ rest) in
    let long : length run ≡ suc last = simp (length-append, length-replicate) next in
    let all = sym (classes_length p ds) ∙ ap length whole ∙ length-append run rest in
    let two : get_or (classes_of p ds) last Narrow ≡ Two =
    rw whole
    (get_or-append run rest Narrow last (omega arith)
    ∙ get_or-append-add front (replicate n Two) (n - 1) Narrow
    ∙ get_or-replicate n (n - 1) Two Narrow (omega arith)) in
    cc (classes_after_two p ds last (omega arith) two, drop_at run rest (suc last) long)

-- the place from which on the intervals are those of bytes behind a byte 00: so many cells stand before them
pub place_is
    : (p : Profile) (changed before us ws : List ℕ) (k : ℕ)
    → classes_of p changed ≡ classes_for (before ++ (us ++ (0x00 ∷ ws)))
    → classes_of p (drop k changed) ≡ classes_for ws
    → k < length changed
    → place_after (before ++ (us ++ (0x00 ∷ []))) ≡ k
unfolding cells_before
place_is p changed before us ws k whole there within =
    let split = ap length (simp append_assoc at (cells_after_byte (before ++ us) ws 0x00 (omega arith) refl)) in
    let bytes : List ℕ = before ++ (us ++ (0x00 ∷ ws)) in
    let all = sym (classes_length p changed) ∙ ap length whole ∙ length-map (written_cells bytes) class_of_units in
    let left = sym (classes_length p (drop k changed)) ∙ ap length there ∙ length-map (written_cells ws) class_of_units in
    omega (arith, length-append (cells_before (before ++ (us ++ (0x00 ∷ [])))) (written_cells ws), length-drop k changed)
