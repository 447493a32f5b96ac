use Rattle.std.proofs.Common.{◌-◌, sym, subst, arith}
use Rattle.cov_valid.proofs.CornerFaults.{first_more, group_unmet}
use Rattle.cov_valid.proofs.corners.are_first_faultless.Goals as goal
use Rattle.cov_valid.specs.Groups.{IsGroup}

pub is_last_or_faultless-requires-clause-unmet : goal.is_last_or_faultless-requires-clause-unmet
is_last_or_faultless-requires-clause-unmet c =
    let g = c.index-groups-k.result in
    let is : IsGroup c.args.entries.now g = subst (IsGroup c.args.entries.now) (sym c.index-groups-k.is) (c.requires.grouped.each (c.loop-k.k - 1) g (omega (arith, c.loop-k.auto.k, c.loop-k-test.true))) in
    group_unmet c.args.outline.now.uses.items c.args.entries.now g c.requires.sorted.entries_are is c.requires.unmet

pub loop-k-preserved : goal.loop-k-preserved
loop-k-preserved c =
    first_more c.args.outline.now.uses.items c.args.groups.now c.loop-k.k c.index-groups-k.result c.index-groups-k-in-loop-k.result c.loop-k.auto.k c.loop-k-test.true c.index-groups-k.is c.index-groups-k-in-loop-k.is
    (c.in_ok-is_last_or_faultless.ensures.faultless c.if-not-branch.false) c.loop-k.invariant
