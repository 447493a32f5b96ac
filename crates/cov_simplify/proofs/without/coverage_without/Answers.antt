use Rattle.std.proofs.Common.{◌≡◌, ◌∙◌, ap, ◌++◌, map, length, arith}
use Rattle.cov_simplify.specs.Without.{member_without}
use Rattle.cov_simplify.proofs.Withouts.{mapped_more, moved_on, all_yielded}
use Rattle.cov_simplify.proofs.without.coverage_without.Goals as goal

pub loop-member-preserved : goal.loop-member-preserved
loop-member-preserved c = record {
  done = λ removed gone. mapped_more (member_without removed) c.loop-member.yielded c.in-Some.member c.loop-member.members.items _ c.in_ok-member_without.field-0 c.in_ok-push.ensures.items (c.loop-member.invariant.done removed gone) (c.in_ok-member_without.ensures removed gone);
  left = moved_on c.loop-member.yielded _ c.loop-member.member-iterator.rest.items c.args.c c.in-Some.member c.loop-member.invariant.left c.in-Some.ensures.steps.0;
}

pub returns : goal.returns
returns c =
    c.loop-member.invariant.done c.args.removed.now c.in_ok-gone.ensures
    ∙ ap (map (member_without c.args.removed.now)) (all_yielded c.loop-member.yielded c.loop-member.member-iterator.rest.items c.args.c c.loop-member.invariant.left (omega (arith, c.in-None.ensures.steps.0, c.loop-member.member-iterator.rest.ok.0)))
