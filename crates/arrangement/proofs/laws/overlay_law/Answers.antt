use Rattle.arrangement.proofs.OneOverlay.{one_overlay, one_snapped_overlay}
use Rattle.arrangement.proofs.SnappedPlanar.{snapped_planar}
use Rattle.arrangement.proofs.laws.overlay_law.Goals as goal

pub returns-clause-one : goal.returns-clause-one
returns-clause-one c = one_overlay

pub returns-clause-snapped : goal.returns-clause-snapped
returns-clause-snapped c = one_snapped_overlay

pub returns-clause-planar : goal.returns-clause-planar
returns-clause-planar c = snapped_planar
