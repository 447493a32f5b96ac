use Rattle.std.proofs.Common.{◌≡◌, ◌<◌, sym, ◌∙◌, subst, List, length, append-nil, rules, arith}
use Rattle.std.specs.Prelude.{All}
use Rattle.cov_types.specs.Uses.{uses_of}
use Rattle.cov_types.specs.declared.edge_use.EdgeUse.{EdgeUse}
use Rattle.cov_overlay.proofs.JointUses.{member_below, joint_more, joint_all}
use Rattle.cov_overlay.proofs.joint.joint_uses.Goals as goal

pub loop-u-init : goal.loop-u-init
loop-u-init c = c.in_ok-joint.ensures.exact ∙ sym (append-nil (uses_of c.args.a.now))

pub overflow_add-count : goal.overflow_add-count
overflow_add-count c =
    let second : List EdgeUse = c.deref-u-items.result.now in
    let count : c.len-count.result ≡ length c.args.a.now = search rules in
    let members = subst (λ (us : List EdgeUse). All (λ u. u.member < length c.args.b.now) us) (sym c.deref-u-items.ensures.value) c.in_ok-second.ensures.members in
    let below = member_below second (length c.args.b.now) c.loop-u.u-index c.u-item.result members c.loop-u-test.true c.u-item.is in
    omega (arith, count, below, c.requires.few)

pub loop-u-preserved : goal.loop-u-preserved
loop-u-preserved c =
    joint_more c.len-count.result c.loop-u.u-index (uses_of c.args.a.now) c.deref-u-items.result.now c.loop-u.joint.items c.push.new.self.items c.u-item.result c.loop-u-test.true c.u-item.is c.loop-u.invariant c.in_ok-push.ensures.items

pub returns : goal.returns
returns c =
    let count : c.len-count.result ≡ length c.args.a.now = search rules in
    joint_all c.args.a.now c.args.b.now c.len-count.result c.loop-u.u-index c.loop-u.joint.items c.deref-u-items.result.now count (c.deref-u-items.ensures.value ∙ c.in_ok-second.ensures.exact) (omega (arith, c.loop-u-test.false)) c.loop-u.invariant
