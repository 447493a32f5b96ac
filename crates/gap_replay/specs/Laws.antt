-- The laws of gaps by rule, and of the coverage that is cleaned so.
use Rattle.std.specs.Prelude.{◌≡◌, ℕ, ◌<◌, ◌↔◌, List, length, All, AllPairs, Option, Some}
use Rattle.cov_types.specs.declared.seg.Seg.{Seg}
use Rattle.cov_types.specs.Coverage.{Members, AllInRange}
use Rattle.cov_types.specs.Uses.{uses_of}
use Rattle.plane.specs.Joined.{IsOff}
use Rattle.plane.specs.Label.{label_at}
use Rattle.plane.specs.Point.{Point}
use Rattle.plane.specs.Validity.{IsValid}
use Rattle.arrangement.specs.declared.odd_use.OddUse.{OddUse}
use Rattle.arrangement.specs.Live.{IsLiveOverlay}
use Rattle.arrangement.specs.Measure.{owned_border}
use Rattle.arrangement.specs.Noding.{IsNoded}
use Rattle.arrangement.specs.Overlay.{Overlay}
use Rattle.region_owners.specs.Gap.{IsGap}
use Rattle.region_owners.specs.Owner.{Rule, rule_by, IsLawful, longest_border, last_state, label_owner}
use Rattle.sound_polygons.specs.Cleaned.{IsCleaned}
use Rattle.sound_polygons.specs.Holding.{HoldsByOwner}
use Rattle.cleaned_laws.specs.Owning.{AreMemberOwners}
use Rattle.gap_replay.specs.Cleaned.{IsCleanedWithGaps}
use Rattle.gap_replay.specs.HeldByReplay.{IsHeldByReplay}
use Rattle.gap_replay.specs.Replay.{AreNarrowGaps, gap_candidates, last_state_over, picked_filler, IsOwnerByReplay}

-- ---- gaps

-- the candidates for a gap ascend by member, and each has an owned border with it
pub record AreGapCandidates (o : Overlay) (owners : ℕ → Option ℕ) (r : ℕ) : Type 0 where
  pub ascending : AllPairs (λ c d. c.member < d.member) (gap_candidates o owners r)
  pub below : All (λ c. c.member < o.members) (gap_candidates o owners r)
  pub border : All (λ c. 0 < c.border) (gap_candidates o owners r)

-- and it is so for every region of every overlay
abbrev pub GapCandidateLaw : Type 0
GapCandidateLaw = (o : Overlay) (owners : ℕ → Option ℕ) (r : ℕ) → AreGapCandidates o owners r

-- an overlay has one list of the gaps that are narrow at a width
abbrev pub OneGapsLaw : Type 0
OneGapsLaw = (o : Overlay) (w : ℕ) (gaps others : List ℕ) → AreNarrowGaps o w gaps → AreNarrowGaps o w others → gaps ≡ others

-- the member is picked for the gap, with a border that is not 0
pub record IsFiller {State : Type 0} (rule : Rule State) (state : State) (o : Overlay) (gaps : List ℕ) (r i : ℕ) : Type 0 where
  pub picked : picked_filler rule state o gaps r ≡ Some i
  pub below : i < o.members
  pub border : 0 < owned_border o (label_owner rule state o) r i

-- a gap has a candidate, so a lawful rule picks one
abbrev pub FillerLaw : (State : Type 0) → Type 0
FillerLaw State = (rule : Rule State) (state : State) (o : Overlay) (gaps : List ℕ) (r : ℕ) → IsLiveOverlay o → IsLawful rule → IsGap o r
    → (i : ℕ) × IsFiller rule state o gaps r i

-- a region has one owner at most
abbrev pub ReplayOwnerLaw : (State : Type 0) → Type 0
ReplayOwnerLaw State = (rule : Rule State) (state : State) (o : Overlay) (gaps : List ℕ) (r : ℕ) (a b : Option ℕ)
    → IsOwnerByReplay rule state o gaps r a → IsOwnerByReplay rule state o gaps r b → a ≡ b

-- ---- the cleaned coverage

-- the owners of a cleaning with gaps are members, and nobody has the outer region
abbrev pub ReplayOwnersLaw : (State : Type 0) → Type 0
ReplayOwnersLaw State = (members : Members) → AllInRange members → (rule : Rule State) (state : State) (w : ℕ) (out : Members)
    → (cleaned : IsCleanedWithGaps members rule state w out) → AreMemberOwners cleaned.overlay cleaned.owners (length members)

-- so the coverage that is cleaned with gaps is valid
abbrev pub ReplayValidLaw : (State : Type 0) → Type 0
ReplayValidLaw State = (members : Members) → AllInRange members → (rule : Rule State) (state : State) (w : ℕ) (out : Members)
    → IsCleanedWithGaps members rule state w out → IsValid (uses_of out)

-- each point off the noded edges is held by the owner of its region and by no other member, and by none where it has no owner or no region
abbrev pub ReplayHoldsLaw : (State : Type 0) → Type 0
ReplayHoldsLaw State = (members : Members) → AllInRange members → (rule : Rule State) (state : State) (w : ℕ) (out : Members) → (cleaned : IsCleanedWithGaps members rule state w out)
    → (edges : List Seg) (odd : List OddUse) → IsNoded (uses_of members) edges odd → HoldsByOwner edges cleaned.overlay cleaned.owners out

-- and as its label tells, the members that hold it after snapping: by the one of them, by the pick of several, in a narrow gap by the pick for it, and elsewhere by none
abbrev pub ReplayHeldLaw : (State : Type 0) → Type 0
ReplayHeldLaw State = (members : Members) → AllInRange members → (rule : Rule State) → IsLawful rule → (state : State) (w : ℕ) (out : Members) → (cleaned : IsCleanedWithGaps members rule state w out)
    → (edges : List Seg) (odd : List OddUse) → (noded : IsNoded (uses_of members) edges odd)
    → (p : Point) → IsOff edges p → IsHeldByReplay rule state cleaned.overlay w cleaned.gaps out (label_at noded.snapped (length members) p) p

-- at most one coverage is a given one, cleaned with gaps by a rule from a state at a gap width
abbrev pub OneReplayLaw : (State : Type 0) → Type 0
OneReplayLaw State = (members : Members) → AllInRange members → (rule : Rule State) (state : State) (w : ℕ) (out other : Members)
    → IsCleanedWithGaps members rule state w out → IsCleanedWithGaps members rule state w other → out ≡ other

-- ---- the longest border

-- by the longest border the coverage that is cleaned with gaps is the one that is cleaned without asking for them
abbrev pub LongestReplayLaw : (State : Type 0) → Type 0
LongestReplayLaw State = (members : Members) → AllInRange members → (state : State) (w : ℕ) (out : Members)
    → IsCleanedWithGaps members (rule_by longest_border) state w out ↔ IsCleaned members (rule_by longest_border) state w out

-- and the state is as it was
abbrev pub LongestStateLaw : (State : Type 0) → Type 0
LongestStateLaw State = (state : State) (o : Overlay) (gaps : List ℕ) → last_state_over (rule_by longest_border) state o gaps ≡ last_state (rule_by longest_border) state o
