-- What an accepted list is: at most 6,400 bytes, each a data or a mark byte, and written as it stands. Rests on no
-- axiom.
use Prim.Native.Nat.{ℕ, ◌≤◌, ◌<◌}
use mathlib.Core.Path.{◌≡◌, ◌∙◌}
use mathlib.Core.Bool.{true}
use mathlib.Core.List.{List, [], ◌∷◌}
use native.Mathlib.Omega.{arith}
use lib.ListN.{length}
use Rattle.lists.specs.Place.{everywhere}
use Rattle.lists.proofs.PlaceLaws.{everywhere_of_none, everywhere_of_passing}
use Rattle.items.specs.Item.{is_byte}
use Rattle.items.specs.Written.{written}
use Rattle.items.proofs.ItemLaws.{data_is_byte, bytes_have_no_check, items_but_no_check_are_bytes}
use Rattle.items.proofs.WrittenLaws.{written_of_no_check, length_of_written, written_are_bytes}
use Rattle.items.proofs.RuleLaws.{listed as list_passes, bytes_are_listed}
use Rattle.items.specs.Rule.{list_rule}
use Rattle.timing.specs.declared.Profile.{Profile}
use Rattle.lengths.specs.Stream.{stream_of}
use Rattle.demands.specs.Streams.{AcceptedList}

pub record Listed (ws : List ℕ) : Type 0 where
  pub bytes : everywhere is_byte ws ≡ true
  pub few : length ws ≤ 6400
  pub as_written : written ws ≡ ws

pub listed : {ws : List ℕ} → AcceptedList ws → Listed ws
listed {ws} a =
    let passes = list_passes ws a.passes in
    record {
      bytes = items_but_no_check_are_bytes ws passes.none_foreign a.no_check_orders;
      few = passes.few_items;
      as_written = written_of_no_check ws a.no_check_orders;
    }

-- and every list of at most 6,400 data and mark bytes is accepted
pub bytes_are_accepted : (ws : List ℕ) → everywhere is_byte ws ≡ true → length ws ≤ 6400 → AcceptedList ws
bytes_are_accepted ws bytes few =
    record { passes = cc (bytes_are_listed ws bytes few); no_check_orders = bytes_have_no_check ws bytes }

pub one_byte_is_listed : (b : ℕ) → b < 256 → AcceptedList (b ∷ [])
one_byte_is_listed b h =
    bytes_are_accepted (b ∷ []) (everywhere_of_passing is_byte b [] (data_is_byte b h) ∙ everywhere_of_none is_byte)
    (omega arith)

-- ---- a list with its check orders turned into bytes

pub written_is_listed : (items : List ℕ) → (list_rule items).number ≡ 0 → AcceptedList (written items)
written_is_listed items h =
    let l = list_passes items h in
    bytes_are_accepted (written items) (written_are_bytes items l.none_foreign)
    (rw (length_of_written items) l.few_bytes)

pub stream_of_written
    : (p : Profile) (items : List ℕ) → (list_rule items).number ≡ 0 → stream_of p (written items) ≡ stream_of p items
unfolding stream_of
stream_of_written p items h = cc (listed (written_is_listed items h)).as_written
