use Rattle.std.proofs.Common.{◌≡◌, ◌*◌}
use Rattle.plane.specs.Region.{AreRegions}
use Rattle.arrangement.specs.Overlay.{Overlay}
use Rattle.components.specs.Connected.{AreLinksWithin}
use Rattle.cov_build.specs.Parted.{AreOwnerLinks}
use Rattle.cov_build.specs.Owners.{owner_in}
use Rattle.cov_build.proofs.part.links_within_owners.Given as goal

abbrev pub invariant-loop-edge : goal.invariant-loop-edge
invariant-loop-edge l = record {
  links : (o : Overlay) → o.edges ≡ l.r → AreRegions o.edges o.numbers → AreOwnerLinks o (owner_in l.owners) l.edge l.links.items;
  within : AreLinksWithin (2 * l.edges) l.links.items;
}
