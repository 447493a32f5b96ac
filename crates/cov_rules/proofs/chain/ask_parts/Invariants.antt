use Rattle.std.proofs.Common.{◌≡◌, map, take, None}
use Rattle.cov_rules.specs.Chain.{first_pick}
use Rattle.cov_rules.specs.Parts.{state_of}
use Rattle.cov_rules.proofs.Chains.{changed_first, asked}
use Rattle.cov_rules.proofs.chain.ask_parts.Given as goal

abbrev pub invariant-loop-part : goal.invariant-loop-part
invariant-loop-part l = record {
  states : map state_of l.parts ≡ changed_first (asked l.facts) l.part-index (map state_of l.initial.parts);
  none : first_pick (take l.part-index (map state_of l.initial.parts)) l.facts ≡ None;
}
