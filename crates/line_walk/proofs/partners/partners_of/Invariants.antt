use Rattle.line_walk.proofs.PartnerTable.{ArePartnersTo}
use Rattle.line_walk.proofs.partners.partners_of.Given as goal

abbrev pub invariant-loop-i : goal.invariant-loop-i
invariant-loop-i l = ArePartnersTo l.edges l.end-items l.i l.partners.items
