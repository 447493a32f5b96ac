use Rattle.std.proofs.Common.{◌≡◌, ◌++◌}
use Rattle.std.specs.Prelude.{flat_map}
use Rattle.fault_map.proofs.polygons.append_polygons.Given as goal

abbrev pub invariant-loop-member : goal.invariant-loop-member
invariant-loop-member l = record {
  all : l.found.items ≡ l.initial.found.items ++ flat_map (λ polys. polys) l.yielded;
  left : l.yielded ++ l.member-iterator.rest.items ≡ l.initial.member-iterator.rest.items;
}
