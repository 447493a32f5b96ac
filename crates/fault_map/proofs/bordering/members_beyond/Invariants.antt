use Rattle.std.proofs.Common.{take}
use Rattle.arrangement.specs.Overlay.{Overlay}
use Rattle.owner_label.specs.Labelled.{IsOverlay}
use Rattle.fault_map.specs.Beyond.{AreHeldBeyond}
use Rattle.fault_map.proofs.bordering.members_beyond.Given as goal

abbrev pub invariant-loop-side : goal.invariant-loop-side
invariant-loop-side l = (o : Overlay) → IsOverlay l.labels o → AreHeldBeyond o (take l.side-index l.sides) l.members.items
