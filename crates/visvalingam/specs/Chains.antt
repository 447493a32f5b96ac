-- The links of a line's points in a state.
use Rattle.std.specs.Prelude.{◌≡◌, ◌⊎◌, ℕ, ◌+◌, ◌<◌, ◌==◌, cond, true, false, is_some, sum_by, count_by, List, length, Option, Some, None, option_map, slice_get, Vec}
use Rattle.std.specs.Global.{Global}
use Rattle.cov_types.specs.declared.coord.Coord.{Coord}
use Rattle.cov_types.specs.Range.{IsInRange}
use Rattle.greedy_run.specs.Run.{is_removed, IsLastBefore, IsFirstAfter}
use Rattle.visvalingam.specs.declared.corner.Corner.{Corner}
use Rattle.visvalingam.specs.declared.chains.Links.{Links}

-- what is before the place: its last neighbour there, or at the first place itself
abbrev pub IsBeforeLink : List Coord → List Coord → ℕ → ℕ → Type 0
IsBeforeLink removed points place k = ((a : Coord) × IsLastBefore removed points place k a) ⊎ ((place ≡ 0) × (k ≡ place))

-- and what is after it
abbrev pub IsAfterLink : List Coord → List Coord → ℕ → ℕ → Type 0
IsAfterLink removed points place k = ((c : Coord) × IsFirstAfter removed points place k c) ⊎ ((place + 1 ≡ length points) × (k ≡ place))

-- the links of a point that is left; a removed one has none
abbrev pub IsLinkedAt : List Coord → List Coord → ℕ → Coord → Option Links → Type 0
IsLinkedAt removed points place p None = is_removed removed p ≡ true
IsLinkedAt removed points place p (Some l) = (is_removed removed p ≡ false) × (IsBeforeLink removed points place l.before × IsAfterLink removed points place l.after)

-- the links of all points of a line
pub record AreLinked (removed points : List Coord) (links : List (Option Links)) : Type 0 where
  pub count : length links ≡ length points
  pub each : (k : ℕ) (p : Coord) (o : Option Links) → slice_get points k ≡ Some p → slice_get links k ≡ Some o → IsLinkedAt removed points k p o

-- the corner is the point at the place between its neighbours
pub record IsCornerAt (removed points : List Coord) (place : ℕ) (corner : Corner) : Type 0 where
  pub here : slice_get points place ≡ Some corner.b
  pub there : is_removed removed corner.b ≡ false
  pub before : IsLastBefore removed points place corner.before corner.a
  pub after : IsFirstAfter removed points place corner.after corner.c

-- the answer is the corner at the place, and none where there is none
abbrev pub IsCornerAnswer : List Coord → List Coord → ℕ → Option Corner → Type 0
IsCornerAnswer removed points place (Some corner) = IsCornerAt removed points place corner
IsCornerAnswer removed points place None = (corner : Corner) → ¬ IsCornerAt removed points place corner

-- the links of each line
abbrev pub AreAllLinked : List Coord → List (Vec Coord Global) → List (Vec (Option Links) Global) → Type 0
AreAllLinked removed lines links = (length links ≡ length lines) × ((i : ℕ) (points : Vec Coord Global) (own : Vec (Option Links) Global) → slice_get lines i ≡ Some points → slice_get links i ≡ Some own → AreLinked removed points.items own.items)

-- its three points are in range
pub record IsCornerInRange (corner : Corner) : Type 0 where
  pub a : IsInRange corner.a
  pub b : IsInRange corner.b
  pub c : IsInRange corner.c

-- its places are those of links that are there
pub record IsStanding (links : List (Option Links)) (place : ℕ) (corner : Corner) : Type 0 where
  pub own : Links
  pub here : slice_get links place ≡ Some (Some own)
  pub before : corner.before < place
  pub after : place < corner.after
  pub within : corner.after < length links

-- and so in the links of all lines
pub record IsStandingIn (links : List (Vec (Option Links) Global)) (line place : ℕ) (corner : Corner) : Type 0 where
  pub own : Vec (Option Links) Global
  pub at : slice_get links line ≡ Some own
  pub standing : IsStanding own.items place corner

-- the answer is that of the line
abbrev pub IsAnswerIn : List Coord → List (Vec Coord Global) → ℕ → ℕ → Option Corner → Type 0
IsAnswerIn removed lines line place answer = (points : Vec Coord Global) → slice_get lines line ≡ Some points → IsCornerAnswer removed points.items place answer

-- the links with another neighbour after
abbrev pub with_after : ℕ → ℕ → ℕ → Option Links → Option Links
with_after place after k o = cond (k == place) (option_map (λ l. record { before = l.before; after = after }) o) o

-- the links with another neighbour before
abbrev pub with_before : ℕ → ℕ → ℕ → Option Links → Option Links
with_before place before k o = cond (k == place) (option_map (λ l. record { before = before; after = l.after }) o) o

-- each link of the new list is that of the old one, changed so by its place
abbrev pub AreChanged : (ℕ → Option Links → Option Links) → List (Option Links) → List (Option Links) → Type 0
AreChanged change old new = (k : ℕ) → slice_get new k ≡ option_map (change k) (slice_get old k)

-- the point at the place goes, and its neighbours are joined
abbrev pub unlinked : ℕ → ℕ → ℕ → ℕ → Option Links → Option Links
unlinked place before after k o = with_before after before k (with_after before after k (cond (k == place) None o))

-- the links at a place of so many, of which none has gone
pub record IsFirstLinks (count place : ℕ) (l : Links) : Type 0 where
  pub before : ((l.before + 1 ≡ place) ⊎ ((place ≡ 0) × (l.before ≡ place)))
  pub after : ((l.after ≡ place + 1) × (place + 1 < count)) ⊎ ((place + 1 ≡ count) × (l.after ≡ place))

-- how many points are left
abbrev pub count_left : List (Vec (Option Links) Global) → ℕ
count_left links = sum_by (λ own. count_by is_some own.items) links

-- a place with a neighbour on each side
abbrev pub IsInnerPlace : Links → ℕ → ℕ → Type 0
IsInnerPlace l place count = (l.before < place) × ((place < l.after) × (l.after < count))
