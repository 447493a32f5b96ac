use mathlib.Core.List.{[]}
use Rattle.std.proofs.Common.{◌≡◌, ℕ, length, Option, Some, Vec, Global, slice_get}
use Rattle.cov_types.specs.declared.coord.Coord.{Coord}
use Rattle.visvalingam.specs.Chains.{AreLinked}
use Rattle.visvalingam.specs.declared.chains.Links.{Links}
use Rattle.visvalingam.proofs.begin.first_links.Given as goal

abbrev pub invariant-loop-line : goal.invariant-loop-line
invariant-loop-line l = record {
  count : length l.links.items ≡ l.line-index;
  each : (i : ℕ) (points : Vec Coord Global) (own : Vec (Option Links) Global) → slice_get l.lines i ≡ Some points → slice_get l.links.items i ≡ Some own → AreLinked [] points.items own.items;
}
