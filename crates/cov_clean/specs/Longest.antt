-- Which member has the greatest length, and lists of lengths by member.
use Rattle.std.specs.Prelude.{◌≡◌, ℕ, ◌<◌, ◌≤◌, List, length, slice_index, Option, Some, None}
use Rattle.owner_label.specs.declared.owned_side.OwnedSide.{OwnedSide}

-- the member with the greatest length, of several the least, and none where no member has a length
abbrev pub IsLongest : (ℕ → ℕ) → Option ℕ → Type 0
IsLongest lengths None = (i : ℕ) → lengths i ≡ 0
IsLongest lengths (Some m) = (0 < lengths m) × ((i : ℕ) → lengths i ≤ lengths m) × ((i : ℕ) → lengths i ≡ lengths m → m ≤ i)

-- the list has the length of each member that it has a place for
abbrev pub AreLengths : (ℕ → ℕ) → List ℕ → Type 0
AreLengths lengths list = (i : ℕ) → i < length list → slice_index list i ≡ lengths i

-- no member has a length
abbrev pub AreClear : List ℕ → Type 0
AreClear list = AreLengths (λ _. 0) list

-- the first is as long as the second, and of two as long it has the lesser member
pub record IsNoShorter (a b : OwnedSide) : Type 0 where
  pub long : b.length ≤ a.length
  pub tie : b.length ≡ a.length → a.member ≤ b.member
