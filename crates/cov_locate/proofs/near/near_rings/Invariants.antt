use Rattle.cov_locate.proofs.NearRings.{IsListedTo}
use Rattle.cov_locate.proofs.near.near_rings.Given as goal

abbrev pub invariant-loop-number : goal.invariant-loop-number
invariant-loop-number l = IsListedTo l.index.outline.uses.items l.index.outline.rings.items l.round l.number-items l.number-index l.near.items
