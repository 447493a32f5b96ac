use Rattle.std.proofs.Common.{take, length, All, ◌≡◌, ◌<◌}
use Rattle.std.specs.Prelude.{IfSome}
use Rattle.cov_build.specs.Owners.{owner_in}
use Rattle.fault_map.specs.Polygon.{AreOwnersByPlace}
use Rattle.fault_map.proofs.polygons.owners_by_place.Given as goal

abbrev pub invariant-loop-place : goal.invariant-loop-place
invariant-loop-place l = record {
  long : length l.owners.items ≡ l.count;
  below : All (λ o. IfSome o (λ i. i < length l.regions)) l.owners.items;
  owners : AreOwnersByPlace (take l.place l.regions) (owner_in l.owners.items);
}
