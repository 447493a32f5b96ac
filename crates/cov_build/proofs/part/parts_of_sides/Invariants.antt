use Rattle.std.proofs.Common.{◌≡◌, ◌*◌, length}
use Rattle.plane.specs.Region.{AreRegions}
use Rattle.arrangement.specs.Overlay.{Overlay}
use Rattle.cov_build.specs.Parted.{AreBelow}
use Rattle.cov_build.specs.Owners.{owner_in}
use Rattle.cov_build.proofs.OwnerLinks.{ArePartsTo}
use Rattle.cov_build.proofs.part.parts_of_sides.Given as goal

abbrev pub invariant-loop-side : goal.invariant-loop-side
invariant-loop-side l = record {
  parts : (o : Overlay) → o.edges ≡ l.r → AreRegions o.edges o.numbers → ArePartsTo o (owner_in l.owners) l.side l.parts.items;
  count : length l.parts.items ≡ l.side;
  below : AreBelow l.parts.items (2 * l.edges);
}
