-- Document 01, "Turned-away numbers": the causes of the table, and "Order.", the causes of each operation in their turn.
-- No lemmas here.
use Rattle.std.specs.Prelude.{ℕ, suc, ◌+◌, ◌<◌, ◌≤◌, ◌≡◌, Bool, true, false, List, ◌⊎◌, length, get_or, take, drop}
use Rattle.lists.specs.Place.{anywhere, lowest, passed}
use Rattle.items.specs.Item.{is_foreign, written_bytes}
use Rattle.timing.specs.Profile.{unset, is_true}
use Rattle.timing.specs.Class.{classes_of}
use Rattle.timing.specs.declared.Profile.{Profile}
use Rattle.timing.specs.declared.Class.{Class}
use Rattle.timing.specs.declared.Class.TheVariants.{Narrow, Two, Three, Four, Wide}
use Rattle.symbols.specs.Reading.{read_bits}
use Rattle.symbols.specs.Strip.{is_ragged, bytes_read, is_stray, stray_place}
use Rattle.lengths.specs.Stream.{stream_of}
use Rattle.intervals.specs.Cells.{cells_of_classes, cells_read}
use Rattle.codec.specs.Reader.{items_of_stream}
use Rattle.locks.specs.Lock.{lock_at}
use Rattle.fields.specs.Field.{bits_wanted, field_stray, field_stray_place}
use Rattle.sectors.specs.Sector.{is_misfit, sector_items}
use Rattle.demands.specs.Order.{Order, accept, turn, at0}

-- 1, unset: a profile number is out of range; which, 1 to 11, the lowest
abbrev pub Unset : Profile → ℕ → Type 0
Unset p place = (anywhere passed (unset p) ≡ true) × (place ≡ suc (lowest passed (unset p)))

-- margin and class: 1, 2, crossed: the profile is not true
abbrev pub profile_order : Profile → Order → Order
profile_order p later = turn 1 (Unset p) (turn 2 (at0 (is_true p ≡ false)) later)

-- 3, foreign: not an item; the lowest
abbrev pub Foreign : List ℕ → ℕ → Type 0
Foreign items place = (anywhere is_foreign items ≡ true) × (place ≡ lowest is_foreign items)

-- writer: 1, 2, 4 (over 6,400 items or written bytes), 3, 9 (the output is shorter than the stream)
abbrev pub writer_order : Profile → List ℕ → ℕ → Order
writer_order p items room =
    profile_order p
    (turn 4 (at0 ((6400 < length items) ⊎ (6400 < written_bytes items)))
    (turn 3 (Foreign items)
    (turn 9 (at0 (room < length (stream_of p items)))
    accept)))

-- an interval that is no cell
abbrev pub is_unread : Class → Bool
is_unread Narrow = true
is_unread Two = false
is_unread Three = false
is_unread Four = false
is_unread Wide = true

-- 5, narrow, or 6, wide: the first interval that is either, and it is this one
abbrev pub FirstUnread : Class → List Class → ℕ → Type 0
FirstUnread c cs place = (anywhere is_unread cs ≡ true) × (place ≡ lowest is_unread cs) × (get_or cs place Two ≡ c)

-- strip reader: 1, 2, 4 (over 51,202 intervals), the first of 5 or 6, 7 (the bits are not 8n + 2, or the last is 1),
-- 4 (over 6,400 bytes read), 8 (a mark's gap is out of place; the lowest interval), 9
abbrev pub strip_order : Profile → List ℕ → ℕ → Order
strip_order p ds room =
    profile_order p
    (turn 4 (at0 (51202 < length ds))
    (turn 5 (FirstUnread Narrow (classes_of p ds))
    (turn 6 (FirstUnread Wide (classes_of p ds))
    (turn 7 (at0 (is_ragged (read_bits (cells_read p ds)) ≡ true))
    (turn 4 (at0 (6400 < bytes_read (read_bits (cells_read p ds))))
    (turn 8 (λ place. (is_stray (read_bits (cells_read p ds)) ≡ true) × (place ≡ stray_place (cells_read p ds)))
    (turn 9 (at0 (room < length (items_of_stream p ds)))
    accept)))))))

-- 10, adrift: no lock stands at any place of a list
abbrev pub Adrift : List Class → Type 0
Adrift cs = (k : ℕ) → lock_at cs k ≡ true → ⊥

-- finder: 1, 2, 10 (of the list from the start on)
abbrev pub finder_order : Profile → List ℕ → ℕ → Order
finder_order p ds start =
    profile_order p
    (turn 10 (at0 (Adrift (classes_of p (drop start ds))))
    accept)

-- the intervals of some classes, none narrow or wide, give fewer bits than the lead and n bytes
abbrev pub Fewer : List Class → ℕ → Type 0
Fewer cs n = length (read_bits (cells_of_classes cs)) < bits_wanted n

-- 12, then 5, 6 (met while bits are wanted) or 11 (the list ends while they are), 8, 9
abbrev pub counted_field_order : List Class → ℕ → ℕ → Order
counted_field_order cs n room =
    turn 12 (at0 ((n < 1) ⊎ (1030 < n)))
    (turn 5 (λ place. FirstUnread Narrow cs place × Fewer (take place cs) n)
    (turn 6 (λ place. FirstUnread Wide cs place × Fewer (take place cs) n)
    (turn 11 (at0 ((anywhere is_unread cs ≡ false) × Fewer cs n))
    (turn 8 (λ place. (field_stray cs n ≡ true) × (place ≡ field_stray_place cs n))
    (turn 9 (at0 (room < n))
    accept)))))

-- field: 1, 2, then these
abbrev pub field_order : Profile → List ℕ → ℕ → ℕ → Order
field_order p ds n room = profile_order p (counted_field_order (classes_of p ds) n room)

-- maker: 13 (the length code is 0, which document 02, (xiii), adds, or above 3, or the data not that long), 9
abbrev pub maker_order : ℕ → ℕ → ℕ → ℕ → List ℕ → ℕ → Order
maker_order track side sector code bytes room =
    turn 13 (at0 ((code ≡ 0) ⊎ (is_misfit code bytes ≡ true)))
    (turn 9 (at0 (room < length (sector_items track side sector code bytes)))
    accept)
