use Rattle.std.proofs.Common.{take}
use Rattle.cov_types.specs.Rings.{member_rings, Adds}
use Rattle.cov_types.proofs.outline.add_member.Given as goal

abbrev pub invariant-loop-poly : goal.invariant-loop-poly
invariant-loop-poly l = Adds l.fn.outline l.outline (member_rings (l.number, take l.poly-index l.member))
