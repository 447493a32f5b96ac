use Rattle.owner_label.proofs.Spreading.{edges_below}
use Rattle.owner_label.proofs.spread.pairs_by_edge.Goals as goal

pub build-requires : goal.build-requires
build-requires c = record { below = rw (c.deref.ensures.value, c.in_ok-keys.ensures) (edges_below c.args.odd.now c.args.edges c.requires.places) }
