use Rattle.std.proofs.Common.{inl, inr}
use Rattle.std.proofs.lemmas.Bool.{iff_false}
use Rattle.cov_valid.proofs.Peers.{IsShared, shared_is}
use Rattle.cov_valid.proofs.among.kind_at.Goals as goal
use Rattle.cov_valid.proofs.among.kind_at.Goals.{then-held-k, else-held-k}

pub returns-then-shared : goal.returns-then-shared
returns-then-shared c = λ holders m are faults.
    let side : IsShared c.args.held.now c.args.faults c.args.k c.if-held-k.shared = elim c.if-held-k.branch [ then-held-k w ↦ inl (w.if-held-k.true, w.shared-is) | else-held-k w ↦ inr (w.if-held-k.false, w.shared-is) ] in
    let peer = shared_is c.args.users.now holders c.args.held.now c.args.faults c.args.k m c.if-held-k.shared are faults c.requires.within side in
    (iff_false (c.is_twice.ensures m) c.if-is_twice.false, peer.0 c.if-shared.true)

pub returns-then-faults : goal.returns-then-faults
returns-then-faults c = λ holders m are faults.
    let side : IsShared c.args.held.now c.args.faults c.args.k c.if-held-k.shared = elim c.if-held-k.branch [ then-held-k w ↦ inl (w.if-held-k.true, w.shared-is) | else-held-k w ↦ inr (w.if-held-k.false, w.shared-is) ] in
    let peer = shared_is c.args.users.now holders c.args.held.now c.args.faults c.args.k m c.if-held-k.shared are faults c.requires.within side in
    (iff_false (c.is_twice.ensures m) c.if-is_twice.false, iff_false peer c.if-shared.false, faults.guest.0 c.if-faults.true)

pub returns : goal.returns
returns c = λ holders m are faults.
    let side : IsShared c.args.held.now c.args.faults c.args.k c.if-held-k.shared = elim c.if-held-k.branch [ then-held-k w ↦ inl (w.if-held-k.true, w.shared-is) | else-held-k w ↦ inr (w.if-held-k.false, w.shared-is) ] in
    let peer = shared_is c.args.users.now holders c.args.held.now c.args.faults c.args.k m c.if-held-k.shared are faults c.requires.within side in
    (iff_false (c.is_twice.ensures m) c.if-is_twice.false, iff_false peer c.if-shared.false, iff_false faults.guest c.if-faults.false)
