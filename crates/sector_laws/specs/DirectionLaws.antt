-- The laws of the order of directions.
use Rattle.std.specs.Prelude.{◌≡◌, List}
use Rattle.std.specs.Cmp.{IsTotalOrder}
use Rattle.std.specs.Ordering.{is_lt}
use Rattle.std.specs.declared.cmp.Ordering.TheVariants.{Equal}
use Rattle.cov_types.specs.declared.coord.Coord.{Coord}
use Rattle.cov_types.specs.declared.seg.Seg.{Seg}
use Rattle.sector_laws.specs.Direction.{direction_cmp}
use Rattle.sector_laws.specs.Sector.{HalfEdge, origin, is_before_by_angle, Leaves, IsPlanar}

-- the order is total: of any two half-edges one is less, or they lead in one direction
abbrev pub TotalLaw : Type 0
TotalLaw = IsTotalOrder direction_cmp

-- at one vertex what is less comes before by angle
abbrev pub AtVertexLaw : Type 0
AtVertexLaw = (h g : HalfEdge) → origin h ≡ origin g → is_before_by_angle h g ≡ is_lt (direction_cmp h g)

-- two that leave one vertex of planar edges in one direction are one half-edge
abbrev pub OneLaw : Type 0
OneLaw = (edges : List Seg) → IsPlanar edges → (v : Coord) (h g : HalfEdge) → Leaves edges v h → Leaves edges v g → direction_cmp h g ≡ Equal → h ≡ g
