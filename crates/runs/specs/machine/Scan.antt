-- Machine, not meaning: laws tie it to Lock of `locks` (`locks/proofs/FinderLaws`). No lemmas here.
use Rattle.std.specs.Prelude.{ℕ, ◌<◌, ◌≤◌, ◌≡◌, Bool, true, false, List, length, get_or}
use Rattle.timing.specs.Class.{cursor_of, class_in, is_two, classes_of}
use Rattle.timing.specs.declared.Profile.{Profile}
use Rattle.timing.specs.declared.Class.{Class}
use Rattle.timing.specs.declared.Class.TheVariants.{Narrow, Two}
use Rattle.timing.specs.declared.cursor.Cursor.{Cursor}

-- the intervals from a place up to another are of class 2
abbrev pub Twos : List Class → ℕ → ℕ → Type 0
Twos cs low high = (j : ℕ) → low ≤ j → j < high → get_or cs j Narrow ≡ Two

-- each of them is of class 2 if it comes after one of class 2
pub record Following (short : Cursor) (ds : List ℕ) (low high : ℕ) : Type 0 where
  pub each : (j : ℕ) → low ≤ j → j < high → is_two (class_in short (get_or ds j 0)) ≡ true

-- a run passed over up to a place
pub record PassesTo (short : Cursor) (ds : List ℕ) (from end : ℕ) : Type 0 where
  pub low : from ≤ end
  pub high : end ≤ length ds
  pub follow : Following short ds from end

-- and up to its end: the interval there is not of class 2 after class 2, or none stands there
pub record PassesRun (short : Cursor) (ds : List ℕ) (from end : ℕ) : Type 0 where
  pub passes : PassesTo short ds from end
  pub ends : end < length ds → is_two (class_in short (get_or ds end 0)) ≡ false

-- a place at or before another whose interval is of class 2, or is not, after either kind; or the first of all
pub record IsSure (short long : Cursor) (ds : List ℕ) (from at : ℕ) : Type 0 where
  pub low : at ≤ from
  pub sure : 0 < at → is_two (class_in short (get_or ds at 0)) ≡ is_two (class_in long (get_or ds at 0))

-- the classing stands as after one kind, and tells of the next interval whether it is of class 2
pub record Known (p : Profile) (ds : List ℕ) (cursor : Cursor) (i : ℕ) : Type 0 where
  pub two : Bool
  pub is : cursor ≡ cursor_of p two
  pub tells : is_two (class_in cursor (get_or ds i 0)) ≡ is_two (get_or (classes_of p ds) i Narrow)

-- the intervals from a place up to another are of other classes
pub record NoTwos (cs : List Class) (low high : ℕ) : Type 0 where
  pub each : (j : ℕ) → low ≤ j → j < high → is_two (get_or cs j Narrow) ≡ false

-- the first place from another on that is of class 2; the length of the list where there is none
pub record NextTwo (p : Profile) (ds : List ℕ) (from at : ℕ) : Type 0 where
  pub low : from ≤ at
  pub high : at ≤ length ds
  pub none : NoTwos (classes_of p ds) from at
  pub here : at < length ds → is_two (get_or (classes_of p ds) at Narrow) ≡ true
