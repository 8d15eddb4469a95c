-- Why `codec::windows::window_table` makes the table: each entry is the length of the cell that its window ends, which
-- antt computes over all. Rests on no axiom.
use Prim.Native.Nat.{ℕ}
use mathlib.Core.Path.{◌≡◌, refl}
use mathlib.Core.List.{List, [], ◌∷◌}
use Rattle.lists.specs.Table.{tabulated}
use Rattle.timing.specs.declared.Profile.{Profile}
use Rattle.lengths.specs.Neighbours.{between}
use Rattle.codec.specs.machine.Windows.{ends, units_at, units_before, units_after, length_at, first_length, last_length}
use Rattle.codec.specs.machine.Windows.{entry_at, window_table}
use Rattle.codec.proofs.windows.window_table.Goals as goal

-- the table of twelve lengths, as the code has it
listed : (s2s s2l s3s s3l s4s s4l l2s l2l l3s l3l l4s l4l : ℕ) → List ℕ
listed s2s s2l s3s s3l s4s s4l l2s l2l l3s l3l l4s l4l =
    s2s ∷ s2s ∷ s2s ∷ s2l ∷ s2l ∷ s3l ∷ s2l ∷ s3s ∷ s3l ∷ s3l ∷ s3l ∷ s3l ∷ s3s ∷ l2l ∷ s3s ∷ l2s ∷
    l3s ∷ l3s ∷ l3l ∷ l3l ∷ l4l ∷ l4l ∷ l4s ∷ l4s ∷ l2l ∷ l2l ∷ l2l ∷ l2l ∷ l2s ∷ s2l ∷ l2s ∷ s2s ∷
    l3s ∷ l2s ∷ l3s ∷ l2l ∷ l3l ∷ l3l ∷ l3l ∷ l3s ∷ l4l ∷ l4l ∷ l4l ∷ l4l ∷ l4s ∷ l2l ∷ l4s ∷ l2s ∷
    s3s ∷ s3s ∷ s3l ∷ s3l ∷ s4l ∷ s4l ∷ s4s ∷ s4s ∷ s2l ∷ s2l ∷ s2l ∷ s2l ∷ s2s ∷ s2l ∷ s2s ∷ s2s ∷
    l2s ∷ s2s ∷ l2s ∷ s2l ∷ l2l ∷ s3l ∷ l2l ∷ s3s ∷ l3l ∷ l3l ∷ l3l ∷ l3l ∷ l3s ∷ l2l ∷ l3s ∷ l2s ∷
    l3s ∷ l3s ∷ l3l ∷ l3l ∷ l4l ∷ l4l ∷ l4s ∷ l4s ∷ l2l ∷ l2l ∷ l2l ∷ l2l ∷ l2s ∷ s2l ∷ l2s ∷ s2s ∷
    s3s ∷ l2s ∷ s3s ∷ l2l ∷ s3l ∷ l3l ∷ s3l ∷ l3s ∷ s4l ∷ s4l ∷ s4l ∷ s4l ∷ s4s ∷ l2l ∷ s4s ∷ l2s ∷
    s3s ∷ s3s ∷ s3l ∷ s3l ∷ s4l ∷ s4l ∷ s4s ∷ s4s ∷ s2l ∷ s2l ∷ s2l ∷ s2l ∷ s2s ∷ s2l ∷ s2s ∷ s2s ∷
    []

module _ (p : Profile) where
  all_are_listed
      : listed (between p 2 2 2) (between p 2 2 3) (between p 2 3 2) (between p 2 3 3) (between p 2 4 2) (between p 2 4 3)
      (between p 3 2 2) (between p 3 2 3) (between p 3 3 2) (between p 3 3 3) (between p 3 4 2) (between p 3 4 3)
      ≡ window_table p
  unfolding listed window_table tabulated entry_at first_length last_length length_at ends units_before units_at units_after
  all_are_listed = refl

  made
      : (s2s s2l s3s s3l s4s s4l l2s l2l l3s l3l l4s l4l : ℕ)
      → s2s ≡ between p 2 2 2
      → s2l ≡ between p 2 2 3
      → s3s ≡ between p 2 3 2
      → s3l ≡ between p 2 3 3
      → s4s ≡ between p 2 4 2
      → s4l ≡ between p 2 4 3
      → l2s ≡ between p 3 2 2
      → l2l ≡ between p 3 2 3
      → l3s ≡ between p 3 3 2
      → l3l ≡ between p 3 3 3
      → l4s ≡ between p 3 4 2
      → l4l ≡ between p 3 4 3
      → listed s2s s2l s3s s3l s4s s4l l2s l2l l3s l3l l4s l4l ≡ window_table p
  made s2s s2l s3s s3l s4s s4l l2s l2l l3s l3l l4s l4l e0 e1 e2 e3 e4 e5 e6 e7 e8 e9 e10 e11 =
      rw (e0, e1, e2, e3, e4, e5, e6, e7, e8, e9, e10, e11) all_are_listed

pub returns : goal.returns
unfolding listed
returns c =
    made _ _ _ _ _ _ _ _ _ _ _ _ _
    c.length_between-s2s.ensures
    c.length_between-s2l.ensures
    c.length_between-s3s.ensures
    c.length_between-s3l.ensures
    c.length_between-s4s.ensures
    c.length_between-s4l.ensures
    c.length_between-l2s.ensures
    c.length_between-l2l.ensures
    c.length_between-l3s.ensures
    c.length_between-l3l.ensures
    c.length_between-l4s.ensures
    c.length_between-l4l.ensures
