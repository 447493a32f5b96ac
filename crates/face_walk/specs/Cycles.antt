-- Boundary cycles: the half-edges that one comes to along next, and those that leave the least vertices.
use Rattle.std.specs.Prelude.{◌≡◌, ◌⊎◌, ℕ, ◌*◌, ◌<◌, ◌≤◌, List, [], ◌∷◌, length, AllPairs, Some, slice_get, slice_index, IsTrue}
use Rattle.cov_types.specs.declared.coord.Coord.{Coord}
use Rattle.cov_types.specs.declared.seg.Seg.{Seg}
use Rattle.cov_types.specs.Coord.{is_before}
use Rattle.sector_laws.specs.Sector.{IsNextNumber}
use Rattle.region_laws.specs.Linked.{IsNumberFrom}
use Rattle.face_walk.specs.declared.cycle.Cycle.{Cycle}

-- the half-edges lead on from n to m: each follows the one before
abbrev pub LeadsRound : List Seg → ℕ → List ℕ → ℕ → Type 0
LeadsRound edges n [] m = n ≡ m
LeadsRound edges n (k ∷ way) m = IsNextNumber edges n k × LeadsRound edges k way m

-- m is on the boundary cycle of n
abbrev pub IsOnCycle : List Seg → ℕ → ℕ → Type 0
IsOnCycle edges n m = (way : List ℕ) × LeadsRound edges n way m

-- the half-edge m does not leave an earlier vertex than k
abbrev pub IsNoEarlier : List Seg → ℕ → ℕ → Type 0
IsNoEarlier edges m k = (v w : Coord) → IsNumberFrom edges m v → IsNumberFrom edges k w → IsTrue (is_before v w) → ⊥

-- ---- marks: for each half-edge the number of its cycle, or the number of all half-edges where it has none yet

-- the marks are the same along next
abbrev pub AreAlong : List Seg → List ℕ → Type 0
AreAlong edges marks = (n m : ℕ) → IsNextNumber edges n m → slice_index marks n ≡ slice_index marks m

-- marks that are the same along next, and none at the start
pub record IsBeforeMarks (edges : List Seg) (start : ℕ) (marks : List ℕ) : Type 0 where
  pub count : length marks ≡ 2 * length edges
  pub along : AreAlong edges marks
  pub within : start < 2 * length edges
  pub free : slice_index marks start ≡ 2 * length edges

-- the half-edge n has got the mark: it is on the cycle of the start, and does not leave an earlier vertex than first
pub record HasGot (edges : List Seg) (start mark first : ℕ) (before after : List ℕ) (n : ℕ) : Type 0 where
  pub free : slice_index before n ≡ 2 * length edges
  pub given : slice_index after n ≡ mark
  pub on_cycle : IsOnCycle edges start n
  pub no_earlier : IsNoEarlier edges n first

-- the half-edges of the cycle of the start have got the mark, first among them, and all marks are the same along next
pub record IsMarkedRound (edges : List Seg) (start mark first : ℕ) (before after : List ℕ) : Type 0 where
  pub count : length after ≡ 2 * length edges
  pub along : AreAlong edges after
  pub own : slice_index after start ≡ mark
  pub found : (first < 2 * length edges) × (slice_index after first ≡ mark)
  pub each : (n : ℕ) → (slice_index after n ≡ slice_index before n) ⊎ HasGot edges start mark first before after n

-- ---- all cycles

-- the half-edge n is on the cycle, at or past its least side, and its first half-edge leaves no later vertex
pub record IsCycleOf (edges : List Seg) (n : ℕ) (c : Cycle) : Type 0 where
  pub on_cycle : IsOnCycle edges c.least n
  pub least : c.least ≤ n
  pub no_earlier : IsNoEarlier edges n c.first

-- the two half-edges that a cycle has are on it: they have its place
pub record IsCycleAt (edges : List Seg) (of : List ℕ) (place : ℕ) (c : Cycle) : Type 0 where
  pub least_within : c.least < 2 * length edges
  pub least : slice_index of c.least ≡ place
  pub first_within : c.first < 2 * length edges
  pub first : slice_index of c.first ≡ place

-- the boundary cycles, ascending by their least sides, and for each half-edge the place of its cycle, which is the same along next
pub record AreCycles (edges : List Seg) (of : List ℕ) (list : List Cycle) : Type 0 where
  pub count : length of ≡ 2 * length edges
  pub along : AreAlong edges of
  pub within : (n : ℕ) → n < 2 * length edges → slice_index of n < length list
  pub each : (n : ℕ) (c : Cycle) → n < 2 * length edges → slice_get list (slice_index of n) ≡ Some c → IsCycleOf edges n c
  pub ends : (k : ℕ) (c : Cycle) → slice_get list k ≡ Some c → IsCycleAt edges of k c
  pub ascending : AllPairs (λ c d. c.least < d.least) list
