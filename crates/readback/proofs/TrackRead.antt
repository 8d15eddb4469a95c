-- Why a track of made sectors is read as a set, and merges with any other pass to its sectors: the set is these sectors by
-- number, and of each number the merge takes the sector. Rests on no axiom.
use Prim.Native.Nat.{ℕ, ◌≤◌, ◌<◌}
use mathlib.Core.Path.{◌≡◌, refl, sym, ap, ap₂, ◌∙◌, fun_ext}
use mathlib.Core.Bool.{Bool, true, false, ◌||◌, true≢false}
use mathlib.Core.List.{List, [], ◌∷◌, map, flat_map}
use mathlib.Core.Option.{some}
use native.Mathlib.Omega.{arith}
use borrow.Author.Tests.{le-ltb, eqb-true, le-leb, eq-eqb, lt-ltb, ltb-false}
use lib.Dec.{eqb, ltb, leb}
use lib.ListN.{length}
use Rattle.lists.specs.Place.{anywhere, everywhere}
use Rattle.lists.proofs.PlaceLaws.{everywhere_of_none, everywhere_of_passing, everywhere_passes_at_first}
use Rattle.lists.proofs.PlaceLaws.{everywhere_in_rest}
use Rattle.refusal.specs.Answer.{accepted}
use Rattle.timing.specs.declared.Profile.{Profile}
use Rattle.sectors.specs.Sector.{sector_size, is_misfit}
use Rattle.sectors.proofs.SectorCounts.{size_of_code}
use Rattle.sets.specs.Set.{Sector as SetSector, set_bytes, set_of, is_misfit_set, is_none, or_empty, sectors_in}
use Rattle.sets.specs.Held.{Held, held_of, is_twice, how_many, numbers}
use Rattle.sets.specs.Claims.{is_sector}
use Rattle.sets.proofs.FormLaws.{print_then_read}
use Rattle.sets.proofs.NumberLaws.{nowhere_if_never, counts_agree, lists_agree}
use Rattle.sets.proofs.SetRuleLaws.{Fits}
use Rattle.merge.specs.Merge.{as_list, taken, taken_at, merged, is_there, in_either}
use Rattle.merge.specs.Merge.{at_odds_at}
use Rattle.merge.specs.Rule.{merge_rule, merge_output, result}
use Rattle.merge.proofs.MergedLaws.{merged_count, merged_is_sectors}
use Rattle.merge.proofs.OnceLaws.{with_nothing}
use Rattle.merge.proofs.AcceptLaws.{Accepts, accepts_takes}
use Rattle.track.specs.Index.{index_rule}
use Rattle.track_set.specs.TrackSectors.{sectors_found, track_rule, track_output}
use Rattle.demands.specs.Streams.{AcceptedProfile}
use Rattle.readback.specs.TrackIndexed.{Sector, Makes, AllMade}
use Rattle.readback.specs.TrackRead.{DifferentNumbers, as_read, by_number, of_number, is_same, OtherPass, MergesTo}
use Rattle.readback.specs.TrackRead.{MadeTracksAreRead}
use Rattle.readback.proofs.SectorIndexed.{code_is_small}
use Rattle.readback.proofs.TrackFound.{track_found}
use Rattle.readback.proofs.TrackIndexed.{made_tracks_are_indexed}
use Rattle.readback.proofs.TrackSet.{none_twice, set_is_by_number, set_has_all, set_held}
use Rattle.readback.proofs.PassLaws.{Member, member, Takes, passes_suit, suits_takes}
use Rattle.readback.proofs.CountOnce.{no_fewer, is_number, there_in, few_once}

-- ---- these sectors are sectors of a set

made_sectors : (ss : List Sector) → AllMade ss → everywhere is_sector (map as_read ss) ≡ true
unfolding is_sector
made_sectors [] made = everywhere_of_none is_sector
made_sectors (s ∷ ss) (makes, made) =
    let size = size_of_code s.track s.side s.sector s.code s.bytes makes.fits in
    everywhere_of_passing is_sector (as_read s) (map as_read ss)
    (rw (le-leb s.code 3 (code_is_small s makes), eq-eqb (length s.bytes) (sector_size s.code) size))
    ∙ made_sectors ss made

small_number : (o : SetSector) (ss : List Sector) → AllMade ss → anywhere (of_number o) ss ≡ true → o.number < 256
unfolding anywhere of_number
small_number o [] made e = absurd (true≢false (sym e))
small_number o (s ∷ ss) (makes, made) e =
    elim (eqb s.sector o.number) as (λ t.
    eqb s.sector o.number ≡ t → (t || anywhere (of_number o) ss) ≡ true → o.number < 256) [
      | true ↦ λ is any. omega (arith, eqb-true s.sector o.number is, makes.sector)
      | false ↦ λ other any. small_number o ss made any
    ]
    refl e

small_numbers
    : (ss : List Sector)
    → AllMade ss
    → (os : List SetSector)
    → everywhere (λ o. anywhere (of_number o) ss) os ≡ true
    → everywhere is_number os ≡ true
unfolding is_number
small_numbers ss made [] among = everywhere_of_none is_number
small_numbers ss made (o ∷ os) among =
    let test : SetSector → Bool = λ o. anywhere (of_number o) ss in
    everywhere_of_passing is_number o os
    (lt-ltb o.number 256 (small_number o ss made (everywhere_passes_at_first test o os among)))
    ∙ small_numbers ss made os (everywhere_in_rest test o os among)

of_both : (a b : Bool) → (a || b) ≡ a → b ≡ true → a ≡ true
of_both true b e h = refl
of_both false b e h = sym e ∙ h

-- ---- what merges to them

module _
    (ss : List Sector) (few : length ss ≤ 32) (made : AllMade ss) (different : DifferentNumbers ss)
    (all : length (by_number ss) ≡ length ss)
    (held : (n : ℕ) → held_of n (by_number ss) ≡ held_of n (map as_read ss))
  where
    abbrev these : List SetSector
    these = map as_read ss

    alone : merged these [] ≡ by_number ss
    unfolding merged taken_at by_number held_of
    alone = ap (λ (f : ℕ → List SetSector). flat_map f numbers)
        (fun_ext (λ n. ap as_list (with_nothing (held_of n these)).1))

    by_number_sectors : everywhere is_sector (by_number ss) ≡ true
    by_number_sectors =
        rw (← alone) (merged_is_sectors these [] (made_sectors ss made) (everywhere_of_none is_sector))

    -- as many numbers as sectors
    numbers_of_these : how_many (there_in these) numbers ≡ length ss
    unfolding in_either held_of at_odds_at
    numbers_of_these =
        let peace : anywhere (at_odds_at these []) numbers ≡ false =
        nowhere_if_never (at_odds_at these []) (λ n h. (with_nothing (held_of n these)).2 (none_twice ss different n)) in
        counts_agree (there_in these) (in_either these []) (λ n h. sym (with_nothing (held_of n these)).0)
        ∙ sym (merged_count these [] peace) ∙ ap length alone ∙ all

    reads_back : set_of (set_bytes (by_number ss)) ≡ some (by_number ss)
    reads_back = print_then_read (by_number ss) by_number_sectors

    these_in : sectors_in (set_bytes (by_number ss)) ≡ by_number ss
    unfolding sectors_in
    these_in = ap or_empty reads_back

    these_fit : Fits (set_bytes (by_number ss))
    unfolding is_misfit_set
    these_fit = record { whole = ap is_none reads_back; few = omega (arith, ap length these_in, all, few) }

    module _ (other : List ℕ) (pass : OtherPass ss other) where
      abbrev os : List SetSector
      os = pass.sectors

      others_in : sectors_in other ≡ os
      unfolding sectors_in
      others_in = ap or_empty pass.parses

      takes : (n : ℕ) → Takes (held_of n these) (held_of n os)
      takes n =
          suits_takes (held_of n these) (held_of n os) (none_twice ss different n)
          (passes_suit ss different os pass.among pass.good_are_same pass.once n)

      others_few : length os ≤ 32
      others_few =
          let once = few_once os (small_numbers ss made os pass.among) pass.once in
          let fewer = no_fewer (there_in os) (there_in these) (λ n h there.
          of_both (there_in these n) (there_in os n) (takes n).there_first there) in
          omega (arith, once, fewer, numbers_of_these, few)

      others_fit : Fits other
      unfolding is_misfit_set
      others_fit = record { whole = ap is_none pass.parses; few = rw others_in others_few }

      -- ---- as the first, and as the second

      same_first : merged (by_number ss) os ≡ by_number ss
      unfolding merged taken_at by_number
      same_first =
          lists_agree (taken_at (by_number ss) os) (λ n. as_list (held_of n these)) (λ n h.
          ap as_list (ap (λ (h : Held). taken h (held_of n os)) (held n) ∙ (takes n).taken_first))

      same_second : merged os (by_number ss) ≡ by_number ss
      unfolding merged taken_at by_number
      same_second =
          lists_agree (taken_at os (by_number ss)) (λ n. as_list (held_of n these)) (λ n h.
          ap as_list (ap (λ (h : Held). taken (held_of n os) h) (held n) ∙ (takes n).taken_second))

      accept_first : Accepts (set_bytes (by_number ss)) other
      unfolding in_either at_odds_at
      accept_first =
          record {
            first_fits = these_fit;
            second_fits = others_fit;
            different =
                rw (these_in, others_in)
                (omega (
                  arith,
                  few,
                  numbers_of_these,
                  counts_agree (in_either (by_number ss) os) (there_in these) (λ n h. rw (held n) (takes n).there_first),
                ));
            peace =
                rw (these_in, others_in)
                (nowhere_if_never (at_odds_at (by_number ss) os) (λ n h. rw (held n) (takes n).peace_first));
          }

      accept_second : Accepts other (set_bytes (by_number ss))
      unfolding in_either at_odds_at
      accept_second =
          record {
            first_fits = others_fit;
            second_fits = these_fit;
            different =
                rw (these_in, others_in)
                (omega (
                  arith,
                  few,
                  numbers_of_these,
                  counts_agree (in_either os (by_number ss)) (there_in these) (λ n h. rw (held n) (takes n).there_second),
                ));
            peace =
                rw (these_in, others_in)
                (nowhere_if_never (at_odds_at os (by_number ss)) (λ n h. rw (held n) (takes n).peace_second));
          }

      merges_by
          : (first second : List ℕ)
          → Accepts first second
          → merged (sectors_in first) (sectors_in second) ≡ by_number ss
          → MergesTo ss first second
      unfolding merge_output
      merges_by first second accepts same old room =
          let rule : merge_rule first second (length old) ≡ accepted (length ss) =
          accepts_takes first second accepts (length old) (rw same room) ∙ ap accepted (ap length same ∙ all) in
          (rule, rw (rule, same))

      pub merges_first : MergesTo ss (set_bytes (by_number ss)) other
      merges_first =
          merges_by (set_bytes (by_number ss)) other accept_first (ap₂ merged these_in others_in ∙ same_first)

      pub merges_second : MergesTo ss other (set_bytes (by_number ss))
      merges_second =
          merges_by other (set_bytes (by_number ss)) accept_second (ap₂ merged others_in these_in ∙ same_second)

pub made_tracks_are_read : MadeTracksAreRead
unfolding track_rule track_output
made_tracks_are_read ss few made bytes different p accepts changed moved =
    let (entries, given) = track_found ss made p accepts changed moved in
    let found = set_is_by_number p changed ss made bytes different entries given in
    let all = set_has_all p changed ss made bytes different entries given in
    let held = set_held p changed ss made bytes different entries given in
    let index = (made_tracks_are_indexed ss few made p accepts changed moved).answer in
    record {
      found = found;
      set_read = λ old room.
          let rule : track_rule p changed (length old) ≡ accepted (length ss) =
          rw (index, found, le-ltb (length old) (length (set_bytes (by_number ss))) room, all) in
          (rule, rw (rule, found));
      merged_first = λ other pass. rw found (merges_first ss few made different all held other pass);
      merged_second = λ other pass. rw found (merges_second ss few made different all held other pass);
    }
