use Rattle.std.proofs.Common.{◌≡◌, ◌↔◌, true, take, flat_map, Vec, Global}
use Rattle.std.specs.Prelude.{Contains}
use Rattle.cov_types.specs.declared.coord.Coord.{Coord}
use Rattle.cov_types.specs.declared.seg.Seg.{Seg}
use Rattle.plane.specs.Snapping.{chain_edges}
use Rattle.visvalingam.specs.Segments.{is_among}
use Rattle.visvalingam.proofs.begin.first_segments.Given as goal

abbrev pub invariant-loop-line : goal.invariant-loop-line
invariant-loop-line l = (e : Seg) → (is_among l.segments.ends e ≡ true) ↔ Contains (flat_map (λ (v : Vec Coord Global). chain_edges v.items) (take l.line-index l.lines)) e
