-- A chain of a segment in range: its segment rises, and its centres are in range.
use Rattle.std.proofs.Common.{List}
use Rattle.std.specs.Prelude.{Contains}
use Rattle.std.proofs.lemmas.List.Elements.{All-contains}
use Rattle.cov_types.specs.declared.coord.Coord.{Coord}
use Rattle.cov_types.specs.declared.seg.Seg.{Seg}
use Rattle.cov_types.specs.Range.{IsInRange, IsSegInRange}
use Rattle.plane.specs.Ray.{Rises}
use Rattle.plane.proofs.Sweeps.{rises-in_range}
use Rattle.rounding_laws.specs.Laws.{IsChainInRange}
use Rattle.rounding_laws.proofs.Edges.{centre_in_range}

module _ (segs : List Seg) (s : Seg) (c : List Coord) (h : IsChainInRange segs s c) where
  pub in_range_of : IsSegInRange s
  in_range_of = All-contains IsSegInRange segs s h.in_range h.listed

  pub rises_of : Rises s
  rises_of = rises-in_range s in_range_of

  pub centres_in_range : (r : Coord) → Contains c r → IsInRange r
  centres_in_range r has = centre_in_range s r in_range_of ((h.chain.members r).0 has).1
