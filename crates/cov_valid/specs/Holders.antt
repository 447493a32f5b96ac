-- Which members hold a point.
use Rattle.std.specs.Prelude.{◌≡◌, ℕ, ◌<◌, ◌≤◌, ◌↔◌, true, List, Contains, All, AllPairs}
use Rattle.cov_types.specs.declared.edge_use.EdgeUse.{EdgeUse}
use Rattle.plane.specs.Parity.{member_holds}
use Rattle.plane.specs.Point.{Point}

-- the list has exactly the members that hold the point, ascending
pub record AreHolders (uses : List EdgeUse) (p : Point) (holders : List ℕ) : Type 0 where
  pub ascending : AllPairs (λ i j. i < j) holders
  pub exact : (member : ℕ) → Contains holders member ↔ (member_holds uses member p ≡ true)

-- the ascending list up to a member has this one where the other had not, and not where it had; all others stay
pub record IsMemberToggled (old : List ℕ) (member : ℕ) (new : List ℕ) : Type 0 where
  pub ascending : AllPairs (λ i j. i < j) new
  pub at_most : All (λ m. m ≤ member) new
  pub turned : Contains new member ↔ ¬ Contains old member
  pub others : (other : ℕ) → ¬ (other ≡ member) → Contains new other ↔ Contains old other
