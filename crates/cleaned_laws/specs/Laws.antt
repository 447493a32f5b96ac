-- The laws of what is built of owners, and of the cleaned coverage.
use Rattle.std.specs.Prelude.{ℕ, List, length, Option}
use Rattle.cov_types.specs.declared.seg.Seg.{Seg}
use Rattle.cov_types.specs.Coverage.{Members, AllInRange}
use Rattle.cov_types.specs.Uses.{uses_of}
use Rattle.plane.specs.Joined.{IsOff}
use Rattle.plane.specs.Label.{label_at}
use Rattle.plane.specs.Point.{Point}
use Rattle.plane.specs.Validity.{IsValid}
use Rattle.arrangement.specs.declared.odd_use.OddUse.{OddUse}
use Rattle.arrangement.specs.Noding.{IsNoded}
use Rattle.arrangement.specs.Overlay.{Overlay, IsOverlayOf}
use Rattle.region_owners.specs.Owner.{Rule, IsLawful}
use Rattle.sound_polygons.specs.Cleaned.{IsBuilt, IsCleaned}
use Rattle.sound_polygons.specs.Holding.{HoldsByOwner, IsUnionOf}
use Rattle.cleaned_laws.specs.HeldByLabel.{IsHeldByLabel}
use Rattle.cleaned_laws.specs.Owning.{AreMemberOwners, AreUnionOwners}

-- what is built of owners: each point off the edges is held by the owner of its region and by no other member, and by none where it has no owner or no region
abbrev pub BuiltHoldsLaw : Type 0
BuiltHoldsLaw = (o : Overlay) (owners : ℕ → Option ℕ) (members : ℕ) → AreMemberOwners o owners members → (out : Members) → IsBuilt o owners members out → HoldsByOwner o.edges o owners out

-- and it is valid
abbrev pub BuiltValidLaw : Type 0
BuiltValidLaw = (o : Overlay) (owners : ℕ → Option ℕ) (members : ℕ) → AreMemberOwners o owners members → (out : Members) → IsBuilt o owners members out → IsValid (uses_of out)

-- the owners of a cleaning are such owners
abbrev pub CleanedOwnersLaw : (State : Type 0) → Type 0
CleanedOwnersLaw State = (members : Members) → AllInRange members → (rule : Rule State) (state : State) (w : ℕ) (out : Members)
    → (cleaned : IsCleaned members rule state w out) → AreMemberOwners cleaned.overlay cleaned.owners (length members)

-- so the cleaned coverage is valid
abbrev pub CleanedValidLaw : (State : Type 0) → Type 0
CleanedValidLaw State = (members : Members) → AllInRange members → (rule : Rule State) (state : State) (w : ℕ) (out : Members) → IsCleaned members rule state w out → IsValid (uses_of out)

-- each point off the noded edges is held by the owner of its region and by no other member, and by none where it has no owner or no region
abbrev pub CleanedHoldsLaw : (State : Type 0) → Type 0
CleanedHoldsLaw State = (members : Members) → AllInRange members → (rule : Rule State) (state : State) (w : ℕ) (out : Members) → (cleaned : IsCleaned members rule state w out)
    → (edges : List Seg) (odd : List OddUse) → IsNoded (uses_of members) edges odd → HoldsByOwner edges cleaned.overlay cleaned.owners out

-- and as its label tells, the members that hold it after snapping: by the one of them, by the pick of several, in a narrow gap by the neighbour, and elsewhere by none
abbrev pub CleanedHeldLaw : (State : Type 0) → Type 0
CleanedHeldLaw State = (members : Members) → AllInRange members → (rule : Rule State) → IsLawful rule → (state : State) (w : ℕ) (out : Members) → (cleaned : IsCleaned members rule state w out)
    → (edges : List Seg) (odd : List OddUse) → (noded : IsNoded (uses_of members) edges odd)
    → (p : Point) → IsOff edges p → IsHeldByLabel rule state cleaned.overlay w out (label_at noded.snapped (length members) p) p

-- what is built of a valid coverage's overlay for one owner of all regions with a label holds the points that some member holds
abbrev pub UnionHoldsLaw : Type 0
UnionHoldsLaw = (members : Members) → AllInRange members → IsValid (uses_of members) → (o : Overlay) → IsOverlayOf (uses_of members) (length members) o
    → (owners : ℕ → Option ℕ) → AreUnionOwners o owners → (out : Members) → IsBuilt o owners 1 out → IsUnionOf members out

-- and it is valid
abbrev pub UnionValidLaw : Type 0
UnionValidLaw = (members : Members) → AllInRange members → IsValid (uses_of members) → (o : Overlay) → IsOverlayOf (uses_of members) (length members) o
    → (owners : ℕ → Option ℕ) → AreUnionOwners o owners → (out : Members) → IsBuilt o owners 1 out → IsValid (uses_of out)
