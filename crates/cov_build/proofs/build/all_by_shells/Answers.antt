use Rattle.cov_build.proofs.MemberLists.{sorted_none, sorted_more}
use Rattle.cov_build.proofs.build.all_by_shells.Goals as goal

pub loop-member-init : goal.loop-member-init
loop-member-init c = sorted_none c.new-sorted.result.items c.new-sorted.ensures.items

pub loop-member-preserved : goal.loop-member-preserved
loop-member-preserved c = sorted_more _ _ _ _ _ c.in_ok-by_shells.ensures.same c.in_ok-by_shells.ensures.sorted c.in_ok-push.ensures.items c.loop-member.invariant
