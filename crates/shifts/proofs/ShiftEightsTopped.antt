-- The half cells at the top are those of a register that goes on eight after eight; at the end they and the last
-- sixteen cells give it. Rests on no axiom.
use Rattle.std.proofs.Common.{◌≡◌, ℕ, ◌+◌, ◌-◌, ◌*◌, ◌/◌, ◌%◌, ◌^◌, ◌<◌, ◌≤◌, Bool, ltb, List, length, take, drop, set, sym, refl, ap, ◌∙◌, mod-lt, arith, length-drop, length-take-le, take_all, pow_pos}
use Rattle.symbols.specs.machine.Step.{AllCells, shifted_all, empty_reading, is_whole, eased}
use Rattle.symbols.specs.declared.Reading.{Reading}
use Rattle.shifts.specs.machine.Fours.{fours_from, Tops, added_all, past_word}
use Rattle.shifts.specs.declared.top.Top.{Top}
use Rattle.shifts.proofs.FoursLaws.{cells_in_parts}
use Rattle.shifts.proofs.TopLaws.{top_whole, top_word}
use Rattle.shifts.proofs.EightLaws.{first, second, eight, ends_low, ends_words}
use Rattle.shifts.proofs.SixteenLaws.{fours_leave, last_sixteen}
use mir.Val.{bool_byte}
use Rattle.shifts.proofs.ShiftEightsTurn.{Shifting, begins, ends, goes_on}

wraps_twice
    : (s c a b k : ℕ) → a + b ≡ k → (((s + c) % 2 ^ 32 + a) % 2 ^ 32 + b) % 2 ^ 32 ≡ (s + (c + k)) % 2 ^ 32
wraps_twice s c a b k e = omega arith

module _ (n : ℕ) (start : Reading) (us : List ℕ) where
  pub record Topping (words : List ℕ) (t : Top) (count i : ℕ) : Type 0 where
    pub m : Reading
    pub so_far : Shifting n start us words m count i
    pub top : Tops t m
    pub some : 1 ≤ m.held
    pub low : m.held ≤ 16
    pub counted : m.words ≡ (start.words + count) % 2 ^ 32

  pub top_begins_with
      : (words : List ℕ) (t : Top)
      → length words ≡ 2 * n
      → (1 ≤ start.held) × (start.held ≤ 16)
      → start.words < 2 ^ 32
      → Tops t start
      → Topping words t 0 0
  top_begins_with words t size held small top =
      record {
        m = start;
        so_far = begins n start us words size;
        top = top;
        some = held.0;
        low = held.1;
        counted = omega arith;
      }

  module _
      (words : List ℕ) (t : Top) (count i : ℕ) (o : Topping words t count i) (inside : i < n)
      (cells : AllCells us × (length us ≡ 8 * n))
    where
      abbrev four_at : ℕ → List ℕ
      four_at k = take 4 (drop k us)

      four_is : (k : ℕ) → k + 4 ≤ 8 * n → AllCells (four_at k) × (length (four_at k) ≡ 4)
      four_is k room = (
        (cells_in_parts 4 (drop k us) (cells_in_parts k us cells.0).1).0,
        length-take-le 4 (drop k us) (rw (length-drop k us) (omega (arith, cells.1))),
      )

      pub top_goes_on
          : (half e past next : Top) (x y : ℕ) (w : Bool)
          → half ≡ added_all t (four_at (8 * i))
          → e ≡ added_all half (four_at (8 * i + 4))
          → past ≡ past_word e
          → x ≡ e.cells / 2 ^ 47
          → y ≡ past.cells / 2 ^ 47
          → w ≡ ltb past.free 48
          → ((m : Reading) → Tops past m → Tops next (eased m))
          → Topping (set (set words count x) (count + 1) y) next (count + (1 + bool_byte w)) (i + 1)
      top_goes_on half e past next x y w begun ended leaves stored later told eases =
          let m = o.m in
          let front = four_is (8 * i) (omega arith) in
          let back = four_is (8 * i + 4) (omega arith) in
          let counted = o.counted in
          let small : m.words < 2 ^ 32 = rw counted (mod-lt (start.words + count) (pow_pos 32)) in
          let both = eight m (four_at (8 * i)) (four_at (8 * i + 4)) t o.top o.some o.low small front back in
          let held = ends_low m (four_at (8 * i)) (four_at (8 * i + 4)) t o.top o.some o.low small front back in
          let words_end =
          ends_words m (four_at (8 * i)) (four_at (8 * i + 4)) t o.top o.some o.low small front back in
          let two = added_all (added_all t (four_at (8 * i))) (four_at (8 * i + 4)) in
          let a = bool_byte (is_whole (first m (four_at (8 * i)) (four_at (8 * i + 4)))) in
          let b = bool_byte (is_whole (second m (four_at (8 * i)) (four_at (8 * i + 4)))) in
          let added : e ≡ two = ended ∙ ap (λ (r : Top). added_all r (four_at (8 * i + 4))) begun in
          let past_is : past ≡ past_word two = leaves ∙ ap past_word added in
          let whole =
          told ∙ ap (λ (r : Top). ltb r.free 48) past_is ∙ top_whole (past_word two) both.left both.top in
          record {
            m = eased (second m (four_at (8 * i)) (four_at (8 * i + 4)));
            so_far =
                goes_on n start us o.so_far inside both x y w (stored ∙ ap (λ (r : Top). r.cells / 2 ^ 47) added)
                whole
                (λ h. later
                ∙ ap (λ (r : Top). r.cells / 2 ^ 47) past_is
                ∙ top_word (past_word two) both.left both.top h);
            top = rw (← both.same_end) (eases both.left (rw past_is both.top));
            some = held.0;
            low = held.1;
            counted =
                words_end
                ∙ ap (λ (k : ℕ). ((k + a) % 2 ^ 32 + b) % 2 ^ 32) counted
                ∙ wraps_twice start.words count a b (1 + bool_byte w)
                (both.count ∙ ap (λ (b : Bool). 1 + bool_byte b) (sym whole));
          }

  same_reading
      : (r : Reading) (bits held words place : ℕ) (stray : Bool)
      → bits ≡ r.bits
      → held ≡ r.held
      → words ≡ r.words
      → place ≡ r.place
      → stray ≡ r.stray
      → record { bits = bits; held = held; words = words; place = place; stray = stray } ≡ r
  same_reading r bits held words place stray b h w p s = rw (b, h, w, p, s) refl

  module _
      (words : List ℕ) (t : Top) (count i : ℕ) (o : Topping words t count i) (over : n ≤ i)
      (cells : AllCells us × (length us ≡ 8 * n)) (some : 2 ≤ n)
    where
      pub top_ends
          : (bits held more : ℕ)
          → bits ≡ (shifted_all empty_reading (take 16 (drop (length us - 16) us))).bits
          → held ≡ 64 - t.free
          → more ≡ (start.words + count % 4294967296) % 2 ^ 32
          → (record { bits = bits; held = held; words = more; place = start.place; stray = start.stray }
          ≡ (fours_from (2 * n) start us).reading)
          × ((count ≤ 2 * n) × (take count words ≡ (fours_from (2 * n) start us).words))
      top_ends bits held more last left counts =
          let (end, rest) = ends n start us o.so_far over in
          let leaves = fours_leave (2 * n) start us (cells.1 ∙ omega arith) in
          let free = o.top.free in
          let size = cells.1 in
          let sixteen : take 16 (drop (length us - 16) us) ≡ drop (length us - 16) us =
          take_all 16 (drop (length us - 16) us) (rw (length-drop (length us - 16) us) (omega arith)) in
          let held_is : held ≡ o.m.held = omega arith in
          let words_are : more ≡ o.m.words = counts ∙ omega arith ∙ sym o.counted in
          let from_m : (r : Reading) → o.m ≡ r → (held ≡ r.held) × (more ≡ r.words) =
          λ r e. (held_is ∙ ap (λ (q : Reading). q.held) e, words_are ∙ ap (λ (q : Reading). q.words) e) in
          let (held_end, words_end) = from_m (fours_from (2 * n) start us).reading end in (
            same_reading (fours_from (2 * n) start us).reading bits held more start.place start.stray
                (last
                ∙ ap (λ (l : List ℕ). (shifted_all empty_reading l).bits) sixteen
                ∙ sym (leaves.bits ∙ last_sixteen us start cells.0 (omega arith))) held_end words_end
                (sym leaves.place) (sym leaves.stray),
            rest,
          )
