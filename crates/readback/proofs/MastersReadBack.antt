-- Why pages written on tracks are read as the same pages: the set of each track is exactly the page maker's sectors,
-- merged they are the set of all, and that reads as the pages. Rests on no axiom.
use Prim.Native.Nat.{ℕ, zero, suc, ◌+◌, ◌*◌, ◌≤◌, ◌<◌}
use mathlib.Core.Path.{◌≡◌, refl, sym, ap, ap₂, ◌∙◌}
use mathlib.Core.Bool.{true, false, not}
use mathlib.Core.List.{List, [], ◌∷◌, ◌++◌, map, flat_map}
use native.Mathlib.Omega.{arith}
use borrow.Author.Tests.{ne_eqb, le-ltb}
use lib.Dec.{eqb}
use lib.ListN.{length, replicate, length-replicate}
use Rattle.lists.specs.Place.{everywhere}
use Rattle.lists.specs.Sum.{sum_of}
use Rattle.lists.specs.Table.{tabulated}
use Rattle.lists.proofs.PlaceLaws.{everywhere_of_none, everywhere_of_passing}
use Rattle.refusal.specs.Answer.{accepted}
use Rattle.timing.specs.declared.Profile.{Profile}
use Rattle.sets.specs.Set.{set_bytes}
use Rattle.merge.specs.Claims.{Takes}
use Rattle.track_set.specs.TrackSectors.{sectors_found, track_rule}
use Rattle.page.specs.Making.{page_of, sector_of_page, made_set, stretch_set, make_rule}
use Rattle.page.specs.Claims.{merged_all, AllTaken, stretch_sets}
use Rattle.page.proofs.BackLaws.{made, numbered, made_says}
use Rattle.page.proofs.Claims.{page_laws}
use Rattle.page.proofs.ShareLaws.{all_of_them}
use Rattle.page.proofs.StretchLaws.{in_order}
use Rattle.demands.specs.Streams.{AcceptedProfile, Moved}
use Rattle.readback.specs.TrackIndexed.{Sector}
use Rattle.readback.specs.TrackRead.{other_number, DifferentNumbers, is_data_byte, AllData, as_read, by_number}
use Rattle.readback.specs.MastersReadBack.{is_cell, master_sector, masters, MasterTrack, share_of, StandOn, set_read}
use Rattle.readback.specs.MastersReadBack.{AllRead, ReadAsPages, MastersReadBack}
use Rattle.readback.proofs.TrackFound.{track_found}
use Rattle.readback.proofs.TrackIndexed.{made_tracks_are_indexed}
use Rattle.readback.proofs.TrackSet.{set_is_by_number, set_has_all}
use Rattle.readback.proofs.Masters.{data_is_cells, masters_are_made, masters_count}

module _ (p : Profile) (accepts : AcceptedProfile p) where
  module _
      (cells : List ℕ) (pages : ℕ) (few : pages ≤ 16) (size : length cells ≡ 1000 * pages)
      (bytes : everywhere is_cell cells ≡ true)
    where
      -- ---- one track

      others : (track side n k m : ℕ) → n ≤ k
          → everywhere (other_number (master_sector track side cells n)) (masters track side cells k m) ≡ true
      unfolding masters tabulated other_number
      others track side n k zero h = everywhere_of_none _
      others track side n k (suc m) h =
          everywhere_of_passing (other_number (master_sector track side cells n)) (master_sector track side cells (suc k))
          (masters track side cells (suc k) m) (rw (ne_eqb n (suc k) (λ e. omega arith)))
          ∙ others track side n (suc k) m (omega arith)

      different : (track side k m : ℕ) → DifferentNumbers (masters track side cells k m)
      unfolding masters tabulated
      different track side k zero = tt
      different track side k (suc m) =
          (others track side (suc k) (suc k) m (omega arith), different track side (suc k) m)

      module _ (t : MasterTrack) (low_track : t.number < 256) (low_side : t.side < 256) where
        abbrev these : ℕ → List Sector
        these k = masters t.number t.side cells k t.share

        all_data : (k m : ℕ) → AllData (masters t.number t.side cells k m)
        unfolding masters tabulated is_data_byte is_cell
        all_data k zero = tt
        all_data k (suc m) =
            (data_is_cells cells pages few size bytes t.number t.side low_track low_side (suc k), all_data (suc k) m)

        as_made : (k m : ℕ) → map as_read (masters t.number t.side cells k m) ≡ map (made cells) (tabulated suc k m)
        unfolding masters tabulated sector_of_page
        as_made k zero = refl
        as_made k (suc m) = ap₂ ◌∷◌ refl (as_made (suc k) m)

        by_number_is
            : (k : ℕ) → k + t.share ≤ pages → by_number (these k) ≡ map (made cells) (tabulated suc k t.share)
        unfolding by_number
        by_number_is k inside =
            rw (as_made k t.share) (in_order (made cells) (numbered cells) k t.share (omega (arith, few)))

      track_read
          : (t : MasterTrack) (k : ℕ)
          → k + t.share ≤ pages
          → StandOn p cells k (t ∷ [])
          → (set_read p t ≡ stretch_set cells k t.share)
          × ((room : ℕ) → length (set_read p t) ≤ room → track_rule p t.intervals room ≡ accepted t.share)
      unfolding set_read stretch_set track_rule
      track_read t k inside stands =
          let low_track = stands.0 in
          let low_side = stands.1 in
          let ss = masters t.number t.side cells k t.share in
          let count = masters_count cells pages few size bytes t.number t.side low_track low_side k t.share in
          let all_made =
          masters_are_made cells pages few size bytes t.number t.side low_track low_side k t.share inside in
          let datas = all_data t low_track low_side k t.share in
          let others = different t.number t.side k t.share in
          let (entries, given) = track_found ss all_made p accepts t.intervals stands.2 in
          let found = set_is_by_number p t.intervals ss all_made datas others entries given in
          let as_many = ap length found ∙ set_has_all p t.intervals ss all_made datas others entries given ∙ count in
          let indexed =
          (made_tracks_are_indexed ss (omega (arith, count, few, inside)) all_made p accepts t.intervals stands.2
          ).answer in (
            ap set_bytes (found ∙ by_number_is t low_track low_side k inside),
            λ room h. rw (indexed, le-ltb room (length (set_bytes (sectors_found p t.intervals))) h, as_many),
          )

      -- ---- several

      tracks_are
          : (ts : List MasterTrack) (k : ℕ)
          → k + sum_of (map share_of ts) ≤ pages
          → StandOn p cells k ts
          → (map (set_read p) ts ≡ stretch_sets cells k (map share_of ts)) × AllRead p ts
      unfolding sum_of stretch_sets
      tracks_are [] k h stands = (refl, tt)
      tracks_are (t ∷ ts) k h stands =
          let here = track_read t k (omega arith) (stands.0, stands.1, stands.2, tt) in
          let rest = tracks_are ts (k + t.share) (omega arith) stands.3 in
          (ap₂ ◌∷◌ here.0 rest.0, (here.1, rest.1))

-- ---- the made set reads as the pages

made_reads
    : (cells : List ℕ) (pages room : ℕ)
    → (make_rule cells pages room).number ≡ 0
    → ReadAsPages (made_set cells pages) cells pages
made_reads cells pages room e =
    record {
      answer = λ most h.
          let old : List ℕ = replicate most 0 in
          let long : length old ≡ most = length-replicate {A = ℕ} most 0 in
          rw long at (page_laws.there_and_back cells old pages room e (rw long h)).0;
      output = λ old h. (page_laws.there_and_back cells old pages room e h).1;
    }

pub masters_read_back : MastersReadBack
masters_read_back =
    record {
      on_one_track = λ cells pages room e bytes p accepts t all stands.
          let says = made_says cells pages room e in
          let read = track_read p accepts cells pages says.1 says.2 bytes t 0 (omega (arith, all)) stands in
          let same = read.0 ∙ ap (stretch_set cells 0) all ∙ all_of_them cells pages says.1 says.2 in
          ((read.1, tt), rw same (made_reads cells pages room e));
      on_several_tracks = λ cells pages room e bytes p accepts ts sum stands.
          let says = made_says cells pages room e in
          let read =
          tracks_are p accepts cells pages says.1 says.2 bytes ts 0 (omega (arith, sum)) stands in
          let shared = page_laws.over_several_sets cells (map share_of ts) pages room e sum in (
            read.1,
            rw read.0 shared.0,
            rw (read.0, shared.1) (made_reads cells pages room e),
          );
    }
