-- Another pass over sectors of different numbers: what it has of a number is nothing, a good copy of the sector, or one
-- whose sum fails; so the merge takes the sector, whichever pass came first. Rests on no axiom.
use Prim.Native.Nat.{ℕ, zero, suc, ◌+◌, ◌≤◌, ◌<◌}
use mathlib.Core.Path.{◌≡◌, refl, sym, ap, ap₂, ◌∙◌, subst}
use mathlib.Core.Bool.{Bool, true, false, cond, not, ◌&&◌, ◌||◌, true≢false}
use mathlib.Core.List.{List, [], ◌∷◌, map}
use native.Mathlib.Omega.{arith}
use borrow.Author.Tests.{eqb-true, eq-eqb, lt-ltb}
use lib.Dec.{eqb}
use lib.ListN.{length}
use Rattle.lists.specs.Place.{anywhere, everywhere}
use Rattle.lists.proofs.BoolLaws.{both}
use Rattle.lists.proofs.PlaceLaws.{everywhere_passes_at_first, everywhere_in_rest}
use Rattle.sets.specs.Set.{Sector as SetSector}
use Rattle.sets.specs.Held.{Held, Nothing, One, Twice, with_copy, held_of, is_twice}
use Rattle.merge.specs.Merge.{better, taken, is_there, same_bytes}
use Rattle.merge.specs.Merge.{disagree, at_odds}
use Rattle.readback.specs.TrackIndexed.{Sector}
use Rattle.readback.specs.TrackRead.{DifferentNumbers, as_read, of_number, is_same}
use Rattle.readback.proofs.SetOrder.{first_alone, rest_once, other_than_first, only_first}
use Rattle.readback.proofs.TrackSet.{none_of_number}

-- ---- a sector that passes a test

pub record Member (test : Sector → Bool) (ss : List Sector) : Type 0 where
  pub sector : Sector
  pub passes : test sector ≡ true
  pub held : held_of sector.sector (map as_read ss) ≡ One (as_read sector)

one_is_there : (s : SetSector) → One s ≡ Nothing → ⊥
one_is_there s e = true≢false (ap is_there e)

pub member : (test : Sector → Bool) (ss : List Sector) → DifferentNumbers ss → anywhere test ss ≡ true → Member test ss
unfolding anywhere
member test [] different e = absurd (true≢false (sym e))
member test (s ∷ ss) (others, different) e =
    elim (test s) as (λ t. test s ≡ t → (t || anywhere test ss) ≡ true → Member test (s ∷ ss)) [
      | true ↦ λ is any.
          record {
            sector = s;
            passes = is;
            held = only_first (as_read s) (map as_read ss) (none_of_number s ss others);
          }
      | false ↦ λ is any.
          let m = member test ss different any in
          let apart : s.sector ≡ m.sector.sector → ⊥ = λ same.
          one_is_there (as_read m.sector)
          (sym m.held ∙ ap (λ (n : ℕ). held_of n (map as_read ss)) (sym same) ∙ none_of_number s ss others) in
          record {
            sector = m.sector;
            passes = m.passes;
            held = other_than_first (as_read s) (map as_read ss) m.sector.sector apart ∙ m.held;
          }
    ]
    refl e

same_lists : (bs cs : List ℕ) → same_bytes bs cs ≡ true → bs ≡ cs
unfolding same_bytes
same_lists [] [] e = refl
same_lists [] (c ∷ cs) e = absurd (true≢false (sym e))
same_lists (b ∷ bs) [] e = absurd (true≢false (sym e))
same_lists (b ∷ bs) (c ∷ cs) e =
    let (first, rest) = both (eqb b c) (same_bytes bs cs) e in ap₂ ◌∷◌ (eqb-true b c first) (same_lists bs cs rest)

equal_sectors
    : (a b : SetSector)
    → a.number ≡ b.number
    → a.code ≡ b.code
    → a.holds ≡ b.holds
    → a.bytes ≡ b.bytes
    → a ≡ b
equal_sectors a b number code holds bytes =
    λ i. record { number = number i; code = code i; holds = holds i; bytes = bytes i }

same_as_itself : (bs : List ℕ) → same_bytes bs bs ≡ true
unfolding same_bytes
same_as_itself [] = refl
same_as_itself (b ∷ bs) = rw (eq-eqb b b refl, same_as_itself bs)

-- ---- what both have of a number

-- nothing, or a copy that is the sector itself where its sum holds
abbrev pub Suits : Held → Held → Type 0
Suits x Nothing = Unit {0}
Suits Nothing (One o) = ⊥
Suits (One s) (One o) = (s.holds ≡ true) × (o.holds ≡ true → o ≡ s)
Suits Twice (One o) = ⊥
Suits x Twice = ⊥

module _ (ss : List Sector) (different : DifferentNumbers ss) where
  abbrev Among : SetSector → Bool
  Among o = anywhere (of_number o) ss

  abbrev Alike : SetSector → Bool
  Alike o = not o.holds || anywhere (is_same o) ss

  one_suits
      : (o : SetSector) (holds : Bool)
      → o.holds ≡ holds
      → Among o ≡ true
      → (not holds || anywhere (is_same o) ss) ≡ true
      → Suits (held_of o.number (map as_read ss)) (One o)
  unfolding of_number is_same
  one_suits o true is among alike =
      let m = member (is_same o) ss different alike in
      let s = m.sector in
      let (number, same) = both (of_number o s) (eqb o.code s.code && same_bytes o.bytes s.bytes) m.passes in
      let (code, bytes) = both (eqb o.code s.code) (same_bytes o.bytes s.bytes) same in
      let number_is : s.sector ≡ o.number = eqb-true s.sector o.number number in
      let copy : o ≡ as_read s =
      equal_sectors o (as_read s) (sym number_is) (eqb-true o.code s.code code) is
      (same_lists o.bytes s.bytes bytes) in
      subst (λ (h : Held). Suits h (One o)) (sym (ap (λ (n : ℕ). held_of n (map as_read ss)) (sym number_is) ∙ m.held))
      (refl, λ good. copy)
  one_suits o false is among alike =
      let m = member (of_number o) ss different among in
      let number_is : m.sector.sector ≡ o.number = eqb-true m.sector.sector o.number m.passes in
      subst (λ (h : Held). Suits h (One o)) (sym (ap (λ (n : ℕ). held_of n (map as_read ss)) (sym number_is) ∙ m.held))
      (refl, λ good. absurd (true≢false (sym good ∙ is)))

  pub passes_suit
      : (os : List SetSector)
      → everywhere Among os ≡ true
      → everywhere Alike os ≡ true
      → ((n : ℕ) → is_twice (held_of n os) ≡ false)
      → (n : ℕ)
      → Suits (held_of n (map as_read ss)) (held_of n os)
  unfolding held_of
  passes_suit [] among alike once n = tt
  passes_suit (o ∷ os) among alike once n =
      elim (eqb o.number n) as (λ t.
      eqb o.number n ≡ t
      → Suits (held_of n (map as_read ss)) (cond t (with_copy o (held_of n os)) (held_of n os))) [
        | true ↦ λ is.
            let here : o.number ≡ n = eqb-true o.number n is in
            let alone : held_of n os ≡ Nothing =
            ap (λ (m : ℕ). held_of m os) (sym here) ∙ first_alone o os (once o.number) in
            subst (λ (h : Held). Suits (held_of n (map as_read ss)) (with_copy o h)) (sym alone)
            (subst (λ (m : ℕ). Suits (held_of m (map as_read ss)) (One o)) here
            (one_suits o o.holds refl (everywhere_passes_at_first Among o os among)
            (everywhere_passes_at_first Alike o os alike)))
        | false ↦ λ other.
            passes_suit os (everywhere_in_rest Among o os among) (everywhere_in_rest Alike o os alike)
            (λ m. rest_once o os m (once m)) n
      ]
      refl

-- ---- so the sector is taken

agrees : (s : SetSector) → disagree s s ≡ false
unfolding disagree
agrees s = rw (eq-eqb s.code s.code refl, same_as_itself s.bytes) (none_of (s.holds && s.holds))
  where
    none_of : (t : Bool) → (t && false) ≡ false
    none_of true = refl
    none_of false = refl

at_peace
    : (s o : SetSector) (holds : Bool)
    → o.holds ≡ holds
    → (o.holds ≡ true → o ≡ s)
    → (disagree s o ≡ false) × (disagree o s ≡ false)
unfolding disagree
at_peace s o true is same = rw (same is) (agrees s, agrees s)
at_peace s o false is same = rw is (none_first s.holds, refl)
  where
    none_first : (t : Bool) → ((t && false) && not (eqb s.code o.code && same_bytes s.bytes o.bytes)) ≡ false
    none_first true = refl
    none_first false = refl

taken_second : (s o : SetSector) (holds : Bool) → s.holds ≡ true → o.holds ≡ holds → (o.holds ≡ true → o ≡ s) → better o s ≡ s
unfolding better
taken_second s o true good is same = ap (λ (t : Bool). cond t o (cond s.holds s o)) is ∙ same is
taken_second s o false good is same =
    ap (λ (t : Bool). cond t o (cond s.holds s o)) is ∙ ap (λ (t : Bool). cond t s o) good

pub record Takes (x y : Held) : Type 0 where
  pub there_first : (is_there x || is_there y) ≡ is_there x
  pub there_second : (is_there y || is_there x) ≡ is_there x
  pub taken_first : taken x y ≡ x
  pub taken_second : taken y x ≡ x
  pub peace_first : at_odds x y ≡ false
  pub peace_second : at_odds y x ≡ false

pub suits_takes : (x y : Held) → is_twice x ≡ false → Suits x y → Takes x y
unfolding taken at_odds better
suits_takes Nothing Nothing once suits =
    record {
      there_first = refl;
      there_second = refl;
      taken_first = refl;
      taken_second = refl;
      peace_first = refl;
      peace_second = refl;
    }
suits_takes (One s) Nothing once suits =
    record {
      there_first = refl;
      there_second = refl;
      taken_first = refl;
      taken_second = refl;
      peace_first = refl;
      peace_second = refl;
    }
suits_takes Twice Nothing once suits = absurd (true≢false once)
suits_takes Nothing (One o) once suits = absurd suits
suits_takes (One s) (One o) once (good, same) =
    let peace = at_peace s o o.holds refl same in
    record {
      there_first = refl;
      there_second = refl;
      taken_first = ap One (ap (λ (t : Bool). cond t s (cond o.holds o s)) good);
      taken_second = ap One (taken_second s o o.holds good refl same);
      peace_first = peace.0;
      peace_second = peace.1;
    }
suits_takes Twice (One o) once suits = absurd suits
suits_takes Nothing Twice once suits = absurd suits
suits_takes (One s) Twice once suits = absurd suits
suits_takes Twice Twice once suits = absurd suits
