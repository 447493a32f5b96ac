use Rattle.std.proofs.Common.{◌≡◌, ◌++◌, map, take}
use Rattle.cov_rules.specs.Chain.{kept_by}
use Rattle.cov_rules.specs.Parts.{state_of}
use Rattle.cov_rules.proofs.chain.tally_parts.Given as goal

abbrev pub invariant-loop-part : goal.invariant-loop-part
invariant-loop-part l = l.out.items ≡ l.initial.out.items ++ kept_by (map state_of (take l.part-index l.parts))
