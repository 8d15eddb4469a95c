-- Document 02, (iii): an ID field and a data field at the front of intervals, over what the field reader of `fields`
-- promises. No lemmas here.
use Rattle.std.specs.Prelude.{ℕ, ◌+◌, Bool, ◌&&◌, List, eqb, leb, ltb, get_or, replicate}
use Rattle.timing.specs.declared.Profile.{Profile}
use Rattle.fields.specs.FieldRule.{FieldAnswer, field_reading, field_output}
use Rattle.sectors.specs.Sector.{sector_size}

-- what the field reader answers of n bytes there, given room for these
unfoldable pub field_of : Profile → List ℕ → ℕ → FieldAnswer
field_of p ds n = field_reading p ds n n

-- the items that it gives, where it reads
unfoldable pub items_of : Profile → List ℕ → ℕ → List ℕ
items_of p ds n = field_output p ds n (replicate n 0)

unfoldable pub reads : Profile → List ℕ → ℕ → Bool
reads p ds n = eqb (field_of p ds n).answer.number 0

-- three A1 marks, then FE or FB, a data byte
unfoldable pub opens_with : ℕ → List ℕ → Bool
opens_with kind us =
    eqb (get_or us 0 0) (256 + 0xa1)
    && eqb (get_or us 1 0) (256 + 0xa1)
    && eqb (get_or us 2 0) (256 + 0xa1)
    && eqb (get_or us 3 0) kind

-- then four data bytes, the last a length code of 0 to 3
unfoldable pub identifies : List ℕ → Bool
identifies us =
    opens_with 0xfe us
    && ltb (get_or us 4 0) 256
    && ltb (get_or us 5 0) 256
    && ltb (get_or us 6 0) 256
    && leb (get_or us 7 0) 3

-- an ID: a ten-byte field reads, has these, and a sum that holds
unfoldable pub is_id : Profile → List ℕ → Bool
is_id p ds = reads p ds 10 && identifies (items_of p ds 10) && (field_of p ds 10).holds

-- the data of a length code: a field reads at n = that code's size + 6 with three A1 marks and FB. Its sum may fail,
-- and mark bytes may stand in it
unfoldable pub data_bytes : ℕ → ℕ
data_bytes code = sector_size code + 6

unfoldable pub is_data : Profile → List ℕ → ℕ → Bool
is_data p ds code = reads p ds (data_bytes code) && opens_with 0xfb (items_of p ds (data_bytes code))
