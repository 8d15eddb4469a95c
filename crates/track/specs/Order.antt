-- Document 02, (x): entries go by sector number, then by ID place. No lemmas here.
use Rattle.std.specs.Prelude.{ℕ, ◌≡◌, Bool, true, cond, ◌&&◌, ◌||◌, List, [], ◌∷◌, ◌++◌, eqb, ltb}
use Rattle.lists.specs.Place.{everywhere}
use Rattle.entries.specs.declared.Entry.{Entry}

-- whether the first of two sector numbers, each with an ID place, goes before the second
unfoldable pub lower_keys : ℕ → ℕ → ℕ → ℕ → Bool
lower_keys number place number₂ place₂ = ltb number number₂ || (eqb number number₂ && ltb place place₂)

unfoldable pub is_before : Entry → Entry → Bool
is_before a b = lower_keys a.sector a.place b.sector b.place

-- an entry put before the first one that it goes before
unfoldable pub put_among : Entry → List Entry → List Entry
put_among e [] = e ∷ []
put_among e (x ∷ xs) = cond (is_before e x) (e ∷ x ∷ xs) (x ∷ put_among e xs)

-- entries put in order
unfoldable pub in_order : List Entry → List Entry
in_order [] = []
in_order (e ∷ es) = put_among e (in_order es)

-- ---- what it means to be in order

-- a list has the entries of another, each exactly as often: taken out of it one after the other, they leave nothing
pub data Rearranged : List Entry → List Entry → Type 0 where
  none : Rearranged [] []
  one
      : {e : Entry} {found list : List Entry} (before after : List Entry)
      → list ≡ before ++ (e ∷ after)
      → Rearranged found (before ++ after)
      → Rearranged (e ∷ found) list

-- each entry goes before all that stand behind it
abbrev pub Ascending : List Entry → Type 0
Ascending [] = Unit {0}
Ascending (e ∷ es) = (everywhere (is_before e) es ≡ true) × Ascending es

pub record Orders (found index : List Entry) : Type 0 where
  pub same_entries : Rearranged found index
  pub ascends : Ascending index
