-- The laws that make the definitions of the plane believable.
use Rattle.std.specs.Prelude.{◌≡◌, ℕ, ◌+◌, ◌*◌, ◌<◌, ◌≤◌, List, pos, ◌*ℤ◌, ◌<ℤ◌, ◌≤ℤ◌, IsTrue, ◌↔◌}
use Rattle.cov_types.specs.declared.coord.Coord.{Coord}
use Rattle.cov_types.specs.declared.seg.Seg.{Seg}
use Rattle.cov_types.specs.declared.edge_use.EdgeUse.{EdgeUse}
use Rattle.cov_types.specs.Coord.{is_before}
use Rattle.cov_types.specs.Range.{IsInRange, IsSegInRange}
use Rattle.plane.specs.declared.contact.Contact.{Contact}
use Rattle.plane.specs.Point.{Point, at_coord, SamePoint}
use Rattle.plane.specs.Segment.{IsOn, side}
use Rattle.plane.specs.Ray.{sweep, Rises, is_over, MeetsRay}
use Rattle.plane.specs.Parity.{holds, member_holds}
use Rattle.plane.specs.Contact.{IsContact}
use Rattle.plane.specs.Length.{root}

-- in range the sweep value orders grid points as they are ordered
abbrev pub SweepLaw : Type 0
SweepLaw = (a b : Coord) → IsInRange a → IsInRange b → IsTrue (is_before a b) ↔ (sweep (at_coord a) <ℤ sweep (at_coord b))

-- a segment in range rises
abbrev pub RisesLaw : Type 0
RisesLaw = (s : Seg) → IsSegInRange s → Rises s

-- an edge that rises is over a point exactly where the ray from the point meets it
abbrev pub OverLaw : Type 0
OverLaw = (e : Seg) (p : Point) → Rises e → IsTrue (is_over e p) ↔ MeetsRay e p

-- the points of a segment that rises are those of its line whose sweep value is between those of its ends
abbrev pub OnLaw : Type 0
OnLaw = (s : Seg) (p : Point) → Rises s
    → IsOn s p ↔ ((side s p ≡ pos 0) × ((sweep (at_coord s.lo) *ℤ pos p.d) ≤ℤ sweep p) × (sweep p ≤ℤ (sweep (at_coord s.hi) *ℤ pos p.d)))

-- two segments meet in one way at most
abbrev pub ContactLaw : Type 0
ContactLaw = (s t : Seg) (c k : Contact) → IsContact s t c → IsContact s t k → c ≡ k

-- of one point as two fractions p and q the same holds
pub record AreAlike (p q : Point) : Type 0 where
  pub on_right : (s : Seg) → (side s p <ℤ pos 0) ↔ (side s q <ℤ pos 0)
  pub on_line : (s : Seg) → (side s p ≡ pos 0) ↔ (side s q ≡ pos 0)
  pub on : (s : Seg) → IsOn s p ↔ IsOn s q
  pub over : (e : Seg) → is_over e p ≡ is_over e q
  pub held : (edges : List Seg) → holds edges p ≡ holds edges q
  pub held_by_member : (uses : List EdgeUse) (member : ℕ) → member_holds uses member p ≡ member_holds uses member q

-- the definitions speak of points and not of the fractions that write them
abbrev pub SamePointLaw : Type 0
SamePointLaw = (p q : Point) → SamePoint p q → AreAlike p q

-- r is the whole part of the square root of n
pub record IsRoot (n r : ℕ) : Type 0 where
  pub at_most : r * r ≤ n
  pub next_more : n < (r + 1) * (r + 1)

-- the root is the one number that is
abbrev pub RootLaw : Type 0
RootLaw = (n r : ℕ) → (root n ≡ r) ↔ IsRoot n r
