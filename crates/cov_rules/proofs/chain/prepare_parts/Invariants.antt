use Rattle.std.proofs.Common.{◌≡◌, map}
use Rattle.cov_rules.specs.Parts.{state_of}
use Rattle.cov_rules.proofs.Chains.{changed_first, prepared}
use Rattle.cov_rules.proofs.chain.prepare_parts.Given as goal

abbrev pub invariant-loop-part : goal.invariant-loop-part
invariant-loop-part l = map state_of l.parts ≡ changed_first (prepared l.members) l.part-index (map state_of l.initial.parts)
