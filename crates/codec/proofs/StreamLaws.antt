-- Why the bytes of a list, closed, leave its stream: each window adds the lengths of its cells, behind those stored so
-- far and before one more that the next window is stored over. Rests on no axiom.
use Prim.Native.Nat.{ℕ, ◌+◌, ◌*◌, ◌/◌, ◌%◌, ◌≤◌, ◌<◌}
use mathlib.Core.Path.{◌≡◌, refl, sym, ap, ap₂, ◌∙◌}
use mathlib.Core.Bool.{Bool, true, false, cond}
use mathlib.Core.List.{List, [], ◌∷◌, ◌++◌, append_assoc, append-nil}
use mathlib.Core.Logic.{⊎_elim}
use native.Mathlib.Nat.{zero-add}
use native.Mathlib.Omega.{arith}
use borrow.Author.Tests.{eqb-true, eqb-false, ltb-true, ltb-false, lt-ltb}
use lib.Dec.{eqb, ltb}
use lib.ListN.{length, get_or, drop, set, length-append, length-drop}
use lib.Seq.{set-set, set-get_or, drop-append-le}
use Rattle.lists.specs.Filled.{stored_at}
use Rattle.lists.specs.Place.{everywhere}
use Rattle.lists.proofs.PlaceLaws.{everywhere_of_passing}
use Rattle.lists.proofs.PlaceLaws.{everywhere_passes_at_first, everywhere_in_rest}
use Rattle.lists.proofs.StoreLaws.{stored_none, stored_one_more}
use Rattle.lists.proofs.TableLaws.{entry_is_rule}
use Rattle.timing.specs.declared.Profile.{Profile}
use Rattle.items.specs.Item.{is_byte}
use Rattle.symbols.specs.Bits.{Bit, O, written_bits, all_bits}
use Rattle.lengths.specs.Stream.{byte_stream}
use Rattle.codec.specs.machine.Windows.{first_length, last_length, ends, bit_at, by_bits, cells_in, entry_at, window_table}
use Rattle.codec.specs.machine.Pen.{Drawing, drawing, Writing, writing, fresh_pen, laid, entered, laid_all}
use Rattle.codec.specs.machine.Pen.{first_window, second_window, drawing_of, begun, windows_left, finished, last_bits}
use Rattle.codec.specs.machine.Pen.{wrote_byte, wrote, closed}
use Rattle.codec.proofs.PenLaws.{entered_moves_on, byte_moves_on}
use Rattle.codec.proofs.WindowLaws.{both, one_or_two, window_lengths, windows_lengths, lengths_on, windows_after}
use Rattle.codec.proofs.WindowLaws.{of_byte, of_closing, stream_behind_lead}

-- ---- what is stored

-- the lengths c but the first, which is the lead's, stand at the front, and behind them stands one more
pub record Drawn (old c : List ℕ) (d : Drawing) : Type 0 where
  pub more : ℕ
  pub counts : d.cells ≡ length (drop 1 c)
  pub stores : d.out ≡ set (stored_at old 0 (drop 1 c)) d.cells more

module _ {old c : List ℕ} {d : Drawing} (drawn : Drawn old c d) where
  abbrev front : List ℕ
  front = drop 1 c

  -- a length over the one more
  stored_over : (a : ℕ) → set d.out d.cells a ≡ stored_at old 0 (front ++ (a ∷ []))
  stored_over a =
      ap (λ (o : List ℕ). set o d.cells a) drawn.stores
      ∙ set-set (stored_at old 0 front) d.cells drawn.more a
      ∙ stored_one_more front old 0 d.cells a (drawn.counts ∙ sym (zero-add (length front)))

  module _ (begins : 1 ≤ length c) where
    dropped : (ls : List ℕ) → drop 1 (c ++ ls) ≡ front ++ ls
    dropped ls = drop-append-le 1 c ls begins

    after_one
        : (a b : ℕ)
        → Drawn old (c ++ (a ∷ [])) (drawing (d.cells + 1) (set (set d.out d.cells a) (d.cells + 1) b))
    after_one a b =
        record {
          more = b;
          counts = rw (dropped (a ∷ []), length-append) (omega (arith, drawn.counts));
          stores =
              ap (λ (o : List ℕ). set o (d.cells + 1) b)
              (stored_over a ∙ ap (stored_at old 0) (sym (dropped (a ∷ []))));
        }

    after_two
        : (a b : ℕ)
        → Drawn old (c ++ (a ∷ b ∷ [])) (drawing (d.cells + 2) (set (set d.out d.cells a) (d.cells + 1) b))
    after_two a b =
        let place : d.cells + 1 ≡ 0 + length (front ++ (a ∷ [])) =
        rw length-append (omega (arith, drawn.counts)) in
        record {
          more = get_or (stored_at old 0 (drop 1 (c ++ (a ∷ b ∷ [])))) (d.cells + 2) 0;
          counts = rw (dropped (a ∷ b ∷ []), length-append) (omega (arith, drawn.counts));
          stores =
              ap (λ (o : List ℕ). set o (d.cells + 1) b) (stored_over a)
              ∙ stored_one_more (front ++ (a ∷ [])) old 0 (d.cells + 1) b place
              ∙ ap (stored_at old 0)
              (append_assoc front (a ∷ []) (b ∷ []) ∙ sym (dropped (a ∷ b ∷ [])))
              ∙ sym (set-get_or _ (d.cells + 2) 0);
        }

-- ---- a window

module _ (p : Profile) (table : List ℕ) (tables : table ≡ window_table p) (old : List ℕ) where
  first_entry : (w : ℕ) → w < 64 → get_or table (2 * w) 0 ≡ by_bits (first_length p) w
  unfolding window_table entry_at
  first_entry w small =
      let even : 2 * w % 2 ≡ 0 = omega arith in
      let half : 2 * w / 2 ≡ w = omega arith in
      rw tables (entry_is_rule (entry_at p) 128 (2 * w) 0 (omega arith) ∙ rw (even, half))

  last_entry : (w : ℕ) → w < 64 → get_or table (2 * w + 1) 0 ≡ by_bits (last_length p) w
  unfolding window_table entry_at
  last_entry w small =
      let odd : (2 * w + 1) % 2 ≡ 1 = omega arith in
      let half : (2 * w + 1) / 2 ≡ w = omega arith in
      rw tables (entry_is_rule (entry_at p) 128 (2 * w + 1) 0 (omega arith) ∙ rw (odd, half))

  laid_draws
      : (c : List ℕ) (d : Drawing) (w : ℕ)
      → w < 64
      → 1 ≤ length c
      → Drawn old c d
      → Drawn old (c ++ window_lengths p w) (laid table d w)
  unfolding laid window_lengths cells_in
  laid_draws c d w small begins drawn =
      rw (first_entry w small, last_entry w small)
      (⊎_elim (λ two. rw (two.0, two.1) (after_two drawn begins _ _))
      (λ one. rw (one.0, one.1) (after_one drawn begins _ _))
      (one_or_two p (bit_at w 32) (bit_at w 16) (bit_at w 8) (bit_at w 4) (bit_at w 2) (bit_at w 1)))

  -- in the first of a list two cells end, the lead's and the next
  two_at_front
      : (w : ℕ) → w < 4 → window_lengths p w ≡ by_bits (first_length p) w ∷ by_bits (last_length p) w ∷ []
  unfolding window_lengths both first_length last_length ends
  two_at_front w low =
      let e3 : w / 8 % 2 ≡ 0 = omega arith in
      let e2 : w / 4 % 2 ≡ 0 = omega arith in
      rw (e3, e2)

  at_front
      : (d : Drawing) (w : ℕ)
      → w < 4
      → d.cells ≡ 0
      → Drawn old [] d
      → Drawn old (window_lengths p w) (drawing 1 (set d.out 0 (get_or table (2 * w + 1) 0)))
  at_front d w low none drawn =
      let last = by_bits (last_length p) w in
      let one : set d.out 0 last ≡ stored_at old 0 (last ∷ []) =
      ap (λ (n : ℕ). set d.out n last) (sym none) ∙ stored_over drawn last in
      rw (last_entry w (omega arith), two_at_front w low)
      (record {
        more = get_or (stored_at old 0 (last ∷ [])) 1 0;
        counts = refl;
        stores = one ∙ sym (set-get_or (stored_at old 0 (last ∷ [])) 1 0);
      })

  entered_draws
      : (c : List ℕ) (d : Drawing) (w : ℕ)
      → w < 64
      → (d.cells ≡ 0 → (c ≡ []) × (w < 4))
      → Drawn old c d
      → Drawn old (c ++ window_lengths p w) (entered table d w)
  unfolding entered
  entered_draws c d w small fresh drawn =
      (elim (eqb d.cells 0) as (λ t.
      eqb d.cells 0 ≡ t
      → Drawn old (c ++ window_lengths p w)
      (cond t (drawing 1 (set d.out 0 (get_or table (2 * w + 1) 0))) (laid table d w))) [
        | true ↦
            λ e.
            let none = eqb-true d.cells 0 e in
            let start = fresh none in
            rw start.0 (at_front d w start.1 none (rw start.0 at drawn))
        | false ↦
            λ e.
            let some = eqb-false d.cells 0 e in
            laid_draws c d w small (longer c d.cells some drawn.counts) drawn
      ]) refl
    where
      longer : (c : List ℕ) (n : ℕ) → (n ≡ 0 → ⊥) → n ≡ length (drop 1 c) → 1 ≤ length c
      longer [] n some e = absurd (some e)
      longer (x ∷ xs) n some e = omega arith

  -- ---- windows

  abbrev small : ℕ → Bool
  small w = ltb w 64

  all_draw
      : (ws c : List ℕ) (d : Drawing)
      → everywhere small ws ≡ true
      → 1 ≤ length c
      → Drawn old c d
      → Drawn old (c ++ windows_lengths p ws) (laid_all table d ws)
  unfolding laid_all windows_lengths
  all_draw [] c d smalls begins drawn = rw (append-nil c) drawn
  all_draw (w ∷ ws) c d smalls begins drawn =
      let more = window_lengths p w in
      rw (sym (append_assoc c more (windows_lengths p ws)))
      (all_draw ws (c ++ more) (laid table d w) (everywhere_in_rest small w ws smalls)
      (omega (arith, length-append c more))
      (laid_draws c d w (ltb-true w 64 (everywhere_passes_at_first small w ws smalls)) begins drawn))

  all_small : (w : ℕ) → everywhere small (windows_left w) ≡ true
  unfolding windows_left everywhere
  all_small w =
      (elim (ltb 255 w) as (λ t.
      ltb 255 w ≡ t
      → everywhere small (cond t (cond (eqb w 0x1a1) (41 ∷ 20 ∷ []) (57 ∷ 20 ∷ 41 ∷ [])) (w / 4 ∷ w % 64 ∷ []))
      ≡ true) [
        | true ↦
            λ e. elim (eqb w 0x1a1) as (λ t.
            everywhere small (cond t (41 ∷ 20 ∷ []) (57 ∷ 20 ∷ 41 ∷ [])) ≡ true) [ true ↦ refl | false ↦ refl ]
        | false ↦
            λ e.
            let byte = ltb-false 255 w e in
            rw (lt-ltb (w / 4) 64 (omega arith), lt-ltb (w % 64) 64 (omega arith))
      ]) refl

  -- ---- bytes

  -- what is drawn, and what the letters to come give, are the whole
  pub record Going (all : List ℕ) (s : Writing) (rest : List Bit) : Type 0 where
    pub c : List ℕ
    pub drawn : Drawn old c (drawing_of s)
    pub fresh : s.pen.cells ≡ 0 → (c ≡ []) × (s.pen.previous ≡ 0)
    pub whole : c ++ lengths_on p s.pen.previous rest ≡ all

  starts : (rest : List Bit) → Going (lengths_on p 0 rest) (writing fresh_pen old) rest
  starts rest =
      record {
        c = [];
        drawn =
            record {
              more = get_or old 0 0;
              counts = refl;
              stores = sym (ap (λ (o : List ℕ). set o 0 (get_or old 0 0)) (stored_none old 0) ∙ set-get_or old 0 0);
            };
        fresh = λ e. (refl, refl);
        whole = refl;
      }

  module _ (all : List ℕ) (s : Writing) (byte : ℕ) (rest : List Bit) (low : byte < 256) (g : Going all s rest) where
    abbrev q : ℕ
    q = s.pen.previous

    begins_byte
        : Drawn old (g.c ++ window_lengths p (first_window q byte))
        (entered table (drawing_of s) (first_window q byte))
    begins_byte =
        entered_draws g.c (drawing_of s) (first_window q byte) (omega arith)
        (λ none. ((g.fresh none).0, front (g.fresh none).1)) g.drawn
      where
        front : q ≡ 0 → first_window q byte < 4
        front e = omega arith

    begins_some : 1 ≤ length (g.c ++ window_lengths p (first_window q byte))
    begins_some =
        omega (
          arith,
          begins_byte.counts,
          entered_moves_on table (drawing_of s) (first_window q byte),
          length-drop 1 (g.c ++ window_lengths p (first_window q byte)),
        )

  a_byte_more
      : (all : List ℕ) (s : Writing) (w : ℕ) (rest : List Bit)
      → is_byte w ≡ true
      → Going all s (written_bits w ++ rest)
      → Going all (wrote_byte table s w) rest
  unfolding wrote_byte finished begun laid_all
  a_byte_more all s w rest byte g =
      let q = s.pen.previous in
      let first = window_lengths p (first_window q (w % 256)) in
      let others = windows_lengths p (windows_after q w) in
      let low : w % 256 < 256 = omega arith in
      let smalls : everywhere small (windows_after q w) ≡ true =
      everywhere_of_passing small (second_window q (w % 256)) (windows_left w)
      (lt-ltb (second_window q (w % 256)) 64 (omega arith))
      ∙ all_small w in
      record {
        c = (g.c ++ first) ++ others;
        drawn =
            all_draw (windows_after q w) (g.c ++ first) _ smalls (begins_some all s (w % 256) _ low g)
            (begins_byte all s (w % 256) _ low g);
        fresh = λ none. absurd (let on = byte_moves_on table s w in omega arith);
        whole =
            append_assoc (g.c ++ first) others (lengths_on p (last_bits w) rest)
            ∙ append_assoc g.c first (others ++ lengths_on p (last_bits w) rest)
            ∙ ap (◌++◌ g.c) (sym (of_byte p q w byte rest))
            ∙ g.whole;
      }

  bytes_more
      : (all : List ℕ) (s : Writing) (ws : List ℕ) (rest : List Bit)
      → everywhere is_byte ws ≡ true
      → Going all s (all_bits ws ++ rest)
      → Going all (wrote table s ws) rest
  unfolding wrote all_bits
  bytes_more all s [] rest bytes g = g
  bytes_more all s (w ∷ ws) rest bytes g =
      bytes_more all (wrote_byte table s w) ws rest (everywhere_in_rest is_byte w ws bytes)
      (a_byte_more all s w (all_bits ws ++ rest) (everywhere_passes_at_first is_byte w ws bytes)
      (rw (append_assoc (written_bits w) (all_bits ws) rest) at g))

  -- ---- the end

  closes
      : (all : List ℕ) (s : Writing)
      → Going all s (O ∷ O ∷ [])
      → closed table s ≡ drawing (length (drop 1 all)) (stored_at old 0 (drop 1 all))
  unfolding closed
  closes all s g =
      let q = s.pen.previous in
      let c = g.c ++ window_lengths p (first_window q 0) in
      let last = by_bits (first_length p) (second_window q 0) in
      let begun = begins_byte all s 0 _ (omega arith) g in
      let some = begins_some all s 0 _ (omega arith) g in
      let place : q % 4 * 32 ≡ 2 * second_window q 0 = omega arith in
      let entry : get_or table (q % 4 * 32) 0 ≡ last =
      ap (λ (k : ℕ). get_or table k 0) place ∙ first_entry (second_window q 0) (omega arith) in
      let ends_so : drop 1 all ≡ drop 1 c ++ (last ∷ []) =
      ap (drop 1)
      (sym g.whole ∙ ap (◌++◌ g.c) (of_closing p q) ∙ sym (append_assoc g.c _ (last ∷ [])))
      ∙ dropped begun some (last ∷ []) in
      let count : (entered table (drawing_of s) (first_window q 0)).cells + 1 ≡ length (drop 1 c ++ (last ∷ [])) =
      rw length-append (omega (arith, begun.counts)) in
      rw (ends_so, entry) (ap₂ drawing count (stored_over begun last))

  pub stream_is_closed
      : (ws : List ℕ)
      → everywhere is_byte ws ≡ true
      → closed table (wrote table (writing fresh_pen old) ws)
      ≡ drawing (length (byte_stream p ws)) (stored_at old 0 (byte_stream p ws))
  stream_is_closed ws bytes =
      closes _ _ (bytes_more _ _ ws (O ∷ O ∷ []) bytes (starts (all_bits ws ++ (O ∷ O ∷ []))))
      ∙ ap (λ (l : List ℕ). drawing (length l) (stored_at old 0 l)) (stream_behind_lead p ws)
