-- The polygons of the first parts, by their owners.
use Rattle.std.specs.Prelude.{◌≡◌, ℕ, ◌<◌, List, length, flat_map, AllPairs, Contains, Option, Some, slice_get}
use Rattle.std.specs.List.Sorted.{IsPermutation, IsSortedBy}
use Rattle.std.specs.Ordering.{is_lt}
use Rattle.std.specs.Global.{Vec}
use Rattle.cov_types.specs.declared.coord.Coord.{Coord}
use Rattle.cov_types.specs.Coord.{points_cmp}
use Rattle.cov_types.specs.Coverage.{Members}
use Rattle.cov_types.specs.Uses.{sides}
use Rattle.sound_polygons.specs.Cleaned.{shell_of}
use Rattle.cov_build.specs.declared.boundary.BoundaryEdge.{BoundaryEdge}
use Rattle.cov_build.specs.Rings.{IsBoundaryPolygon}
use Rattle.cov_build.specs.Owners.{owner_in}

-- the boundary of the part p of the member, which has an edge
pub record IsMemberPart (lists : List (Vec BoundaryEdge)) (owners : List (Option ℕ)) (i p : ℕ) (boundary : List BoundaryEdge) : Type 0 where
  pub vec : Vec BoundaryEdge
  pub at : slice_get lists p ≡ Some vec
  pub is : vec.items ≡ boundary
  pub some : 0 < length boundary
  pub owned : owner_in owners p ≡ Some i

-- no side of a ring of the one is one of the other
abbrev pub AreApart : List (List Coord) → List (List Coord) → Type 0
AreApart a b = (way : Coord × Coord) → Contains (flat_map sides a) way → Contains (flat_map sides b) way → ⊥

-- two lists of boundaries have no way round in common
abbrev pub AreListsApart : List (Vec BoundaryEdge) → Type 0
AreListsApart lists = (p q : ℕ) (v w : Vec BoundaryEdge) → slice_get lists p ≡ Some v → slice_get lists q ≡ Some w → ¬ (p ≡ q)
    → (a b : BoundaryEdge) → Contains v.items a → Contains w.items b → ¬ (a ≡ b)

-- the polygon is that of one of the first parts of the member
pub record IsPartPolygon (lists : List (Vec BoundaryEdge)) (owners : List (Option ℕ)) (first i : ℕ) (rings : List (List Coord)) : Type 0 where
  pub place : ℕ
  pub boundary : List BoundaryEdge
  pub before : place < first
  pub member_part : IsMemberPart lists owners i place boundary
  pub polygon : IsBoundaryPolygon boundary rings

-- the polygons are those of the first parts of the member, one each
pub record ArePartPolygons (lists : List (Vec BoundaryEdge)) (owners : List (Option ℕ)) (first i : ℕ) (polys : List (List (List Coord))) : Type 0 where
  pub each : (rings : List (List Coord)) → Contains polys rings → IsPartPolygon lists owners first i rings
  pub every : (p : ℕ) (boundary : List BoundaryEdge) → p < first → IsMemberPart lists owners i p boundary → (rings : List (List Coord)) × (Contains polys rings × IsBoundaryPolygon boundary rings)
  pub apart : AllPairs AreApart polys

-- so for each of so many members
pub record AreAllPartPolygons (lists : List (Vec BoundaryEdge)) (owners : List (Option ℕ)) (first members : ℕ) (out : Members) : Type 0 where
  pub count : length out ≡ members
  pub each : (i : ℕ) (polys : List (List (List Coord))) → slice_get out i ≡ Some polys → ArePartPolygons lists owners first i polys

-- the polygons ascend by their shells
abbrev pub AreShellsSorted : List (List (List Coord)) → Type 0
AreShellsSorted polys = IsSortedBy (λ a b. is_lt (points_cmp (shell_of a) (shell_of b))) polys

-- each member has its polygons in order
pub record AreSortedMembers (before after : Members) : Type 0 where
  pub count : length after ≡ length before
  pub each : (i : ℕ) (a b : List (List (List Coord))) → slice_get before i ≡ Some a → slice_get after i ≡ Some b → IsPermutation a b × AreShellsSorted b
