-- Document 01: what is claimed of the margin operation and of the lengths of every stream. `proofs/` inhabits it.
use Rattle.std.specs.Prelude.{ℕ, suc, ◌+◌, ◌*◌, ◌≤◌, ◌<◌, ◌≡◌, Bool, true, false, List, [], ◌∷◌, ℤ, pos, ◌+ℤ◌, ◌-ℤ◌}
use Rattle.refusal.specs.Answer.{accepted}
use Rattle.items.specs.Written.{written}
use Rattle.symbols.specs.Cells.{written_symbols, written_cells}
use Rattle.timing.specs.Profile.{InRange, is_true, profile_rule}
use Rattle.timing.specs.EqualPairs.{Nine, paired, nine_class, nine_rule}
use Rattle.timing.specs.declared.Profile.{Profile}
use Rattle.lengths.specs.Lengths.{point, symbol_after}
use Rattle.items.specs.Rule.{list_rule}
use Rattle.lengths.specs.Neighbours.{lengths_between}
use Rattle.lengths.specs.Stream.{byte_stream, stream_of}
use Rattle.lengths.specs.Margin.{EachLength, TrueProfile, IsMargin, margin_of, margin_rule}

-- "Profile": under every accepted profile the number that the operation gives is the paper's margin
abbrev pub MarginIsThePapers : Type 0
MarginIsThePapers = (p : Profile) → (profile_rule p).number ≡ 0 → IsMargin p (margin_of p)

-- document 02, (ix): the profile operation's tests are that each length that can be written is in its window
abbrev pub TrueByLengths : Type 0
TrueByLengths =
    (p : Profile) → InRange p → (is_true p ≡ true → TrueProfile p) × (TrueProfile p → is_true p ≡ true)

-- document 01's margin over nine numbers: all lengths that any accepted list can have, made longer or shorter by up to
-- m, keep their class, and m is the largest such number
abbrev pub NineKeeps : Nine → ℕ → Type 0
NineKeeps n m =
    EachLength (paired n) (λ two cell l. (d : ℕ) → d ≤ l + m → l ≤ d + m → nine_class n d ≡ nine_class n l)

pub record IsNineMargin (n : Nine) (m : ℕ) : Type 0 where
  pub keeps : NineKeeps n m
  pub largest : (k : ℕ) → NineKeeps n k → k ≤ m

-- document 02, (ix): equal pairs have it
abbrev pub EqualPairsKeepTheMargin : Type 0
EqualPairsKeepTheMargin = (n : Nine) → (nine_rule n).number ≡ 0 → IsNineMargin n (margin_of (paired n))

-- the worked drive with any bounds
abbrev pub drive : ℕ → ℕ → ℕ → ℕ → Profile
drive b23_short b23_long b34_short b34_long =
    record {
      t1 = record { 0 = 58 };
      t0 = record { 0 = 29 };
      early = record { 0 = 8 };
      normal = record { 0 = 10 };
      late = record { 0 = 12 };
      min = record { 0 = 36 };
      short = record { b23 = record { 0 = b23_short }; b34 = record { 0 = b34_short } };
      long = record { b23 = record { 0 = b23_long }; b34 = record { 0 = b34_long } };
      rpt = record { 0 = 139 };
    }

-- what pairs are for: bounds that differ by the cell before can have a larger margin than any that do not
pub record PairsWidenTheMargin : Type 0 where
  pub unequal : margin_rule (drive 75 71 108 104) ≡ accepted 12
  pub equal : margin_rule (drive 73 73 106 106) ≡ accepted 10
  pub equal_at_most
      : (b23 b34 : ℕ) → (profile_rule (drive b23 b23 b34 b34)).number ≡ 0 → margin_of (drive b23 b23 b34 b34) ≤ 10

-- T1 + (zeros × T0) + 2 × (compare point at its end − compare point at its start), where the shift can be below zero
unfoldable pub signed_length : Profile → ℕ → ℕ → ℕ → ℤ
signed_length p zeros start end = pos (p.t1.0 + zeros * p.t0.0) +ℤ (pos (2 * end) -ℤ pos (2 * start))

-- each length is positive and is that whole number, with nothing cut off: the lengths of the cells that end in the
-- symbols given, cell by cell as `lengths_from` takes them
unfoldable pub SignedLengths : Profile → ℕ → ℕ → Bool → List Bool → List ℕ → Type 0
SignedLengths p start zero_count before [] [] = Unit
SignedLengths p start zero_count before [] (l ∷ ls) = ⊥
SignedLengths p start zero_count before (false ∷ ss) ls = SignedLengths p start (suc zero_count) false ss ls
SignedLengths p start zero_count before (true ∷ ss) [] = ⊥
SignedLengths p start zero_count before (true ∷ ss) (l ∷ ls) =
    (0 < l)
    × (pos l ≡ signed_length p zero_count start (point p before (symbol_after ss)))
    × SignedLengths p (point p before (symbol_after ss)) 0 true ss ls

-- "The form to use in each place": the lengths of every accepted list are proved positive under every accepted profile
abbrev pub LengthsArePositive : Type 0
LengthsArePositive =
    (p : Profile)
    → (profile_rule p).number ≡ 0
    → (items : List ℕ)
    → (list_rule items).number ≡ 0
    → SignedLengths p (point p true (symbol_after (written_symbols (written items)))) 0 true
    (written_symbols (written items))
    (stream_of p items)

-- a length depends on the cell and its two neighbours alone
abbrev pub LengthsByNeighbours : Type 0
LengthsByNeighbours = (p : Profile) (ws : List ℕ) → byte_stream p ws ≡ lengths_between p 2 (written_cells ws)
