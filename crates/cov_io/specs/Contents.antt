-- What files hold by their names, before and after.
use Rattle.std.specs.Prelude.{◌≡◌, ◌≢◌, ℕ, List, ◌++◌, take, Option, Some, ◌⊎◌}

-- what the file of each name holds
abbrev pub Contents : Type 0
Contents = List ℕ → Option (List ℕ)

-- every file is as it was
abbrev pub SameFiles : Contents → Contents → Type 0
SameFiles old new = (name : List ℕ) → new name ≡ old name

-- the file of this name holds these bytes now, and every other file is as it was
pub record HoldsNow (name bytes : List ℕ) (old new : Contents) : Type 0 where
  pub here : new name ≡ Some bytes
  pub others : (other : List ℕ) → other ≢ name → new other ≡ old other

-- the file of this name holds what it held, then these bytes, and every other file is as it was
pub record Appends (name bytes : List ℕ) (old new : Contents) : Type 0 where
  pub here : (held : List ℕ) → old name ≡ Some held → new name ≡ Some (held ++ bytes)
  pub others : (other : List ℕ) → other ≢ name → new other ≡ old other

-- every file is as it was, or the file of this name holds the first bytes of these
abbrev pub HoldsPrefix : List ℕ → List ℕ → Contents → Contents → Type 0
HoldsPrefix name bytes old new = SameFiles old new ⊎ ((n : ℕ) × HoldsNow name (take n bytes) old new)
