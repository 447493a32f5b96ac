-- The laws that make the definitions of parts and polygons believable.
use Rattle.std.specs.Prelude.{◌≡◌, ℕ, Bool, List, Option, Some}
use Rattle.cov_types.specs.declared.coord.Coord.{Coord}
use Rattle.cov_types.specs.declared.seg.Seg.{Seg}
use Rattle.cov_types.specs.Coverage.{Members, AllInRange}
use Rattle.plane.specs.Region.{AreRegions}
use Rattle.sector_laws.specs.Sector.{HalfEdge, target, is_in_sector, Leaves, IsPlanar}
use Rattle.arrangement.specs.Overlay.{Overlay, IsRegion}
use Rattle.region_owners.specs.Owner.{Rule}
use Rattle.sound_polygons.specs.Cleaned.{IsPolyCanonical, IsBuilt, IsCleaned}
use Rattle.sound_polygons.specs.Parts.{InOnePart, IsPartOf, IsSound, is_in_angle}

-- ---- parts

-- to be in one part is an equivalence on the regions of an owner
pub record IsPartEquivalence (o : Overlay) (owners : ℕ → Option ℕ) (i : ℕ) : Type 0 where
  pub itself : (r : ℕ) → owners r ≡ Some i → InOnePart o owners i r r
  pub back : (r s : ℕ) → InOnePart o owners i r s → InOnePart o owners i s r
  pub on : (r s t : ℕ) → InOnePart o owners i r s → InOnePart o owners i s t → InOnePart o owners i r t

-- and it is so for every owner of every overlay
abbrev pub SamePartLaw : Type 0
SamePartLaw = (o : Overlay) (owners : ℕ → Option ℕ) (i : ℕ) → IsPartEquivalence o owners i

-- each region that a member owns is in a part, whose regions a test tells
abbrev pub PartExistsLaw : Type 0
PartExistsLaw = (o : Overlay) (owners : ℕ → Option ℕ) (i r : ℕ) → owners r ≡ Some i → (inside : ℕ → Bool) × IsPartOf o owners i r inside

-- ---- angles

-- at half-edges that leave a vertex, the angle between two of them is the sector between them
abbrev pub AngleLaw : Type 0
AngleLaw = (edges : List Seg) → IsPlanar edges → (v : Coord) (g h k : HalfEdge) → Leaves edges v g → Leaves edges v h → Leaves edges v k
    → is_in_angle v (target g) (target h) (target k) ≡ is_in_sector g h k

-- ---- polygons

-- a part has one sound polygon in canonical order
abbrev pub PolygonLaw : Type 0
PolygonLaw = (o : Overlay) → IsPlanar o.edges → (inside : ℕ → Bool) (rings others : List (List Coord)) → IsSound o inside rings → IsSound o inside others
    → IsPolyCanonical rings → IsPolyCanonical others → rings ≡ others

-- two choices of owners are one on the regions
abbrev pub AgreeOnRegions : Overlay → (ℕ → Option ℕ) → (ℕ → Option ℕ) → Type 0
AgreeOnRegions o owners others = (r : ℕ) → IsRegion o.edges r → owners r ≡ others r

-- what is built of owners is one coverage
abbrev pub BuiltLaw : Type 0
BuiltLaw = (o : Overlay) → IsPlanar o.edges → AreRegions o.edges o.numbers → (owners others : ℕ → Option ℕ) → AgreeOnRegions o owners others
    → (members : ℕ) (out other : Members) → IsBuilt o owners members out → IsBuilt o others members other → out ≡ other

-- at most one coverage is a given one, cleaned by a rule from a state at a gap width
abbrev pub CleanedLaw : (State : Type 0) → Type 0
CleanedLaw State = (members : Members) → AllInRange members → (rule : Rule State) (state : State) (w : ℕ) (out other : Members)
    → IsCleaned members rule state w out → IsCleaned members rule state w other → out ≡ other
