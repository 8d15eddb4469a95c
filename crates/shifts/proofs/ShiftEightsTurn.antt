-- One eight: the words that it makes whole are kept at the end of the words, and what is left to read stays what it
-- was. Rests on no axiom.
use Rattle.std.proofs.Common.{◌≡◌, ℕ, suc, ◌+◌, ◌-◌, ◌*◌, ◌/◌, ◌^◌, ◌<◌, ◌≤◌, Bool, true, false, List, [], ◌∷◌, ◌++◌, length, take, drop, set, sym, refl, ap, ◌∙◌, append_assoc, append-nil, add-zero, add-one, arith, length-set, drop-drop, take-suc-set, leb-true}
use lib.Seq.{take-set-le}
use Rattle.lists.specs.Filled.{if_given}
use Rattle.lists.proofs.BoolLaws.{one_at_most}
use Rattle.symbols.specs.machine.Step.{is_whole, word_of, eased}
use Rattle.symbols.specs.declared.Reading.{Reading}
use Rattle.shifts.specs.machine.Fours.{Fours, fours_from}
use Rattle.shifts.specs.declared.top.Top.{Top}
use Rattle.shifts.proofs.EightLaws.{first, second, Eight, eight}
use mir.Val.{bool_byte}

-- kept, if a byte is whole, or to be stored over
kept
    : (t : Bool) (words : List ℕ) (count x y : ℕ)
    → count < length words
    → (t ≡ true → x ≡ y)
    → take (count + bool_byte t) (set words count x) ≡ take count words ++ if_given t y
kept true words count x y room e =
    rw (add-one count) (take-suc-set words count x room) ∙ ap (λ (z : ℕ). take count words ++ (z ∷ [])) (e refl)
kept false words count x y room e =
    rw (add-zero count, append-nil (take count words)) (take-set-le count words count x (omega arith))

-- a word for sure, and the next if it is whole
kept_two
    : (t : Bool) (words : List ℕ) (count x y z : ℕ)
    → count + 1 < length words
    → (t ≡ true → y ≡ z)
    → take (count + (1 + bool_byte t)) (set (set words count x) (count + 1) y) ≡ take count words ++ (x ∷ if_given t z)
kept_two t words count x y z room e =
    let one = set words count x in
    let place : count + (1 + bool_byte t) ≡ count + 1 + bool_byte t = omega arith in
    let first : take (count + 1) one ≡ take count words ++ (x ∷ []) =
    rw (add-one count) (take-suc-set words count x (omega arith)) in
    rw place (kept t one (count + 1) y z (rw (length-set {A = ℕ} words count x) room) e)
    ∙ ap (λ (l : List ℕ). l ++ if_given t z) first
    ∙ append_assoc (take count words) (x ∷ []) (if_given t z)

module _ (n : ℕ) (start : Reading) (us : List ℕ) where
  -- what is left, after so many eights
  abbrev rest : Reading → ℕ → Fours
  rest m i = fours_from (2 * (n - i)) m (drop (8 * i) us)

  abbrev whole : Fours
  whole = fours_from (2 * n) start us

  pub record Shifting (words : List ℕ) (m : Reading) (count i : ℕ) : Type 0 where
    pub within : i ≤ n
    pub few : count ≤ 2 * i
    pub size : length words ≡ 2 * n
    pub same_end : (rest m i).reading ≡ whole.reading
    pub same_words : take count words ++ (rest m i).words ≡ whole.words

  pub begins : (words : List ℕ) → length words ≡ 2 * n → Shifting words start 0 0
  begins words size =
      let all : n - 0 ≡ n = omega arith in
      record {
        within = omega arith;
        few = omega arith;
        size = size;
        same_end = rw all refl;
        same_words = rw all refl;
      }

  module _ {words : List ℕ} {m : Reading} {count i : ℕ} (so_far : Shifting words m count i) where
    pub ends : n ≤ i → (m ≡ whole.reading) × ((count ≤ 2 * n) × (take count words ≡ whole.words))
    unfolding fours_from
    ends h =
        let few = so_far.few in
        let within = so_far.within in
        let done : 2 * (n - i) ≡ 0 = omega arith in (
          rw done at so_far.same_end,
          (omega arith, sym (append-nil (take count words)) ∙ rw done at so_far.same_words),
        )

    module _ (inside : i < n) where
      abbrev front : List ℕ
      front = take 4 (drop (8 * i) us)

      abbrev back : List ℕ
      back = take 4 (drop (8 * i + 4) us)

      abbrev one : Reading
      one = first m front back

      abbrev two : Reading
      two = second m front back

      left : rest m i
          ≡ record {
            reading = (rest (eased two) (i + 1)).reading;
            words =
                if_given (is_whole one) (word_of one)
                ++ (if_given (is_whole two) (word_of two) ++ (rest (eased two) (i + 1)).words);
          }
      unfolding fours_from
      left =
          let more : 2 * (n - i) ≡ suc (suc (2 * (n - (i + 1)))) = omega arith in
          let place : 8 * i + 4 + 4 ≡ 8 * (i + 1) = omega arith in
          rw (more, drop-drop 4 (8 * i) us, drop-drop 4 (8 * i + 4) us, place)

      pub goes_on
          : {e : Top} (eight : Eight m front back e) (x y : ℕ) (t : Bool)
          → x ≡ e.cells / 2 ^ 47
          → t ≡ is_whole eight.left
          → (17 ≤ eight.left.held → y ≡ word_of eight.left)
          → Shifting (set (set words count x) (count + 1) y) (eased two) (count + (1 + bool_byte t)) (i + 1)
      goes_on eight x y t stored told next =
          let few = so_far.few in
          let size = so_far.size in
          let bit = one_at_most t in
          let rest₂ = (rest (eased two) (i + 1)).words in
          let row = kept_two t words count x y (word_of eight.left) (omega arith)
          (λ h. next (leb-true 17 eight.left.held (sym told ∙ h))) in
          let same : (x ∷ if_given t (word_of eight.left))
          ≡ if_given (is_whole one) (word_of one) ++ if_given (is_whole two) (word_of two) =
          rw (stored, told) (sym eight.words) in
          record {
            within = omega arith;
            few = omega arith;
            size = simp length-set size;
            same_end = rw (← ap (λ (f : Fours). f.reading) left) so_far.same_end;
            same_words =
                ap (λ (l : List ℕ). l ++ rest₂) (row ∙ ap (λ (l : List ℕ). take count words ++ l) same)
                ∙ append_assoc (take count words) _ rest₂
                ∙ ap (λ (l : List ℕ). take count words ++ l)
                (append_assoc (if_given (is_whole one) (word_of one)) (if_given (is_whole two) (word_of two)) rest₂
                ∙ sym (ap (λ (f : Fours). f.words) left))
                ∙ so_far.same_words;
          }
