use Rattle.std.proofs.Common.{◌≡◌, length, ap, arith, rules}
use Rattle.region_owners.proofs.Picks.{picks}
use Rattle.merge_rule.proofs.Best.{longer_ranks, is_pick}
use Rattle.merge_rule.proofs.by_border.LongestBorderMergeRule.choose.Goals as goal

pub returns-clause-picked : goal.returns-clause-picked
returns-clause-picked c =
    let same : c.as_slice-candidates.result.now ≡ c.args.facts.now.candidates = search rules in
    is_pick longer_ranks c.args.facts.now.candidates c.as_slice-candidates.result.now c.loop-i.i c.loop-i.best _ same
    (omega (arith, ap length same)) c.loop-i.invariant (picks c.args.facts.now.candidates c.requires.some).longest
