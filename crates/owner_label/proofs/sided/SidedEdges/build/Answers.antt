use Rattle.owner_label.proofs.Building.{built_from}
use Rattle.owner_label.proofs.sided.SidedEdges.build.Goals as goal

pub invariant_of-result : goal.invariant_of-result
invariant_of-result c =
    rw (c.deref.ensures.value, c.deref-2.ensures.value)
    (built_from c.args.l.now.edges.items c.args.r.now c.args.l.now.odd.items c.numbers.result.now
    c.requires.regions c.numbers.ensures.planar c.numbers.ensures.distinct c.args.l.now.odd_ascending c.args.l.now.places c.args.l.now.used c.requires.even c.numbers.ensures.regions)
