-- Ascending lists of members, and the members that are odd for an edge.
use Rattle.std.specs.Prelude.{◌≡◌, ℕ, suc, ◌≤◌, ◌==◌, Bool, true, false, not, List, [], ◌∷◌, ◌++◌, map, filter, ⊤, Option, Some, None, slice_get, slice_set}
use Rattle.std.specs.List.{list_any}
use Rattle.arrangement.specs.declared.odd_use.OddUse.{OddUse}

-- whether the list has the member
abbrev pub has : List ℕ → ℕ → Bool
has members member = list_any (λ m. m == member) members

-- the members ascend, and are not below n
abbrev pub IsFrom : ℕ → List ℕ → Type 0
IsFrom n [] = ⊤
IsFrom n (m ∷ members) = (n ≤ m) × IsFrom (suc m) members

-- just one of the two is true
abbrev pub differs : Bool → Bool → Bool
differs true b = not b
differs false b = b

-- the label after these members are toggled: it has those that just one of the two lists has
pub record IsToggled (label members after : List ℕ) : Type 0 where
  pub ascending : IsFrom 0 after
  pub exact : (member : ℕ) → has after member ≡ differs (has label member) (has members member)

-- the members for which edge k is odd
abbrev pub members_of : List OddUse → ℕ → List ℕ
members_of odd k = map (λ o. o.member) (filter (λ o. o.edge == k) odd)

-- the edge of each odd pair
abbrev pub pair_edges : List OddUse → List ℕ
pair_edges odd = map (λ o. o.edge) odd

-- the member of an odd pair, if there is one
abbrev pub member_of : Option OddUse → ℕ
member_of None = 0
member_of (Some o) = o.member

-- the members of the odd pairs at these places
abbrev pub members_at : List OddUse → List ℕ → List ℕ
members_at odd places = map (λ n. member_of (slice_get odd n)) places

-- a label was put behind a list: the given one with these members toggled
pub record IsToggledOnto (before label members after : List ℕ) : Type 0 where
  pub added : List ℕ
  pub put : after ≡ before ++ added
  pub toggled : IsToggled label members added

-- a label was written at the number: the given one with these members toggled
pub record IsToggledFrom (before : List (List ℕ)) (number : ℕ) (label members : List ℕ) (after : List (List ℕ)) : Type 0 where
  pub written : List ℕ
  pub put : after ≡ slice_set before number written
  pub toggled : IsToggled label members written
