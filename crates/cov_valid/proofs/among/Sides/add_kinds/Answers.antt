use Rattle.std.proofs.Common.{◌↔◌, Bool, IsTrue, true, false, List, sym, ◌∙◌, subst}
use Rattle.cov_valid.proofs.Peers.{adds_more, guest_is}
use Rattle.cov_valid.proofs.among.Sides.add_kinds.Goals as goal
use Rattle.cov_valid.specs.Among.{AreFaults, ArePresent, AreTwo, HasGuest}
use Rattle.cov_valid.specs.declared.among.Faults.{Faults}

pub loop-k-preserved : goal.loop-k-preserved
loop-k-preserved c =
    let users = c.args.users.now in
    let holders = c.args.holders.now in
    let held = c.deref-in-loop-k.result.now in
    let inner : IsTrue c.has_two.result ↔ AreTwo users held true = subst (λ (bs : List Bool). IsTrue c.has_two.result ↔ AreTwo users bs true) (c.deref.ensures.value ∙ sym c.deref-in-loop-k.ensures.value) c.has_two.ensures in
    let outer : IsTrue c.has_two-2.result ↔ AreTwo users held false = subst (λ (bs : List Bool). IsTrue c.has_two-2.result ↔ AreTwo users bs false) (c.deref-2.ensures.value ∙ sym c.deref-in-loop-k.ensures.value) c.has_two-2.ensures in
    let used : ArePresent holders users c.deref-3.result.now = subst (ArePresent holders users) (sym c.deref-3.ensures.value) c.in_ok-present_into-2.ensures in
    let guest : IsTrue c.has_absent.result ↔ HasGuest users holders = guest_is users holders c.deref-3.result.now c.has_absent.result used c.has_absent.ensures in
    let told : ArePresent users holders held = subst (ArePresent users holders) (sym c.deref-in-loop-k.ensures.value) c.in_ok-present_into.ensures in
    let faults : Faults = record { inner = c.has_two.result; outer = c.has_two-2.result; guest = c.has_absent.result } in
    let faults_are : AreFaults users holders held faults = record { inner = inner; outer = outer; guest = guest } in
    adds_more users holders c.args.kinds.now.items c.loop-k.kinds.items c.push.new.self.items c.loop-k.k c.kind_at.result c.in_ok-push.ensures.items
    (λ m. c.kind_at.ensures holders m told faults_are)
    c.loop-k.invariant
