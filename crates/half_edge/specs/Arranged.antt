-- Lists of edges that an arena can be built of.
use Rattle.std.specs.Prelude.{ℕ, ◌<◌, ◌≤◌, List, All, AllPairs, IsTrue, slice_index_or}
use Rattle.cov_types.specs.Seg.{is_seg_before}
use Rattle.cov_types.specs.declared.seg.Seg.{Seg}
use Rattle.plane.specs.Noded.{MeetInEnds}
use Rattle.sector_laws.specs.Sector.{IsPlanar}

-- each edge comes before those after it
abbrev pub AreAscending : List Seg → Type 0
AreAscending edges = AllPairs (λ s t. IsTrue (is_seg_before s t)) edges

-- the edges are in range, meet in ends alone and ascend strictly
pub record IsArranged (edges : List Seg) : Type 0 where
  pub planar : IsPlanar edges
  pub ascending : AreAscending edges

-- the edge meets those at the places in ends alone
abbrev pub MeetInEndsAt : Seg → List Seg → List ℕ → Type 0
MeetInEndsAt e edges places = All (λ k. (d : Seg) → MeetInEnds e (slice_index_or edges k d)) places

-- each edge at a place from first to before past meets all edges in ends alone
abbrev pub AreNodedFrom : List Seg → ℕ → ℕ → Type 0
AreNodedFrom edges first past = (k : ℕ) (d : Seg) → first ≤ k → k < past → All (MeetInEnds (slice_index_or edges k d)) edges
