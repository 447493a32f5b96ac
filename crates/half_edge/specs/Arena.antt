-- What an arena knows of its edges.
use Rattle.std.specs.Prelude.{◌≡◌, ℕ, ◌*◌, List, length, Some, slice_get}
use Rattle.cov_types.specs.declared.seg.Seg.{Seg}
use Rattle.half_edge.specs.declared.side.Side.{Side}
use Rattle.sector_laws.specs.Sector.{IsNextNumber, IsPlanar, AreDistinct}

-- the table says of each half-edge which one follows it
pub record IsNextTable (edges : List Seg) (table : List Side) : Type 0 where
  pub count : length table ≡ 2 * length edges
  pub each : (n : ℕ) (id : Side) → slice_get table n ≡ Some id → IsNextNumber edges n id.number

-- distinct edges that meet in ends alone, and the table of their half-edges
pub record IsArena (edges : List Seg) (table : List Side) : Type 0 where
  pub planar : IsPlanar edges
  pub distinct : AreDistinct edges
  pub next : IsNextTable edges table
