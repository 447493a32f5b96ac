-- The overlay of two coverages is valid, and holds each point by its pair.
use Rattle.std.proofs.Common.{◌≡◌, subst, length, rules, arith}
use Rattle.std.specs.Prelude.{IfOk}
use Rattle.std.proofs.lemmas.Result.{IfOk-weaker}
use Rattle.cov_types.specs.Coverage.{Members}
use Rattle.overlaid_laws.specs.Overlaid.{IsOverlaid}
use Rattle.overlaid_laws.proofs.Held.{overlaid_valid, overlaid_holds}
use Rattle.overlaid_laws.proofs.Joint.{joint_in_range}
use Rattle.cov_overlay.specs.declared.overlay_of.Overlaid.{Overlaid}
use Rattle.cov_overlay.proofs.overlay_of.overlay.Goals as goal

pub returns-clause-valid : goal.returns-clause-valid
returns-clause-valid c =
    let a : Members = c.args.a.now in
    let b : Members = c.args.b.now in
    let r = c.paired_regions.result in
    let first : c.len.result ≡ length a = search rules in
    let second : c.len-2.result ≡ length b = search rules in
    let in_range = joint_in_range a b c.coverage-first.ensures.formed.in_range c.coverage-second.ensures.formed.in_range (omega (arith, first, second, c.in_ok-checked_count.ensures.few.1)) in
    let overlaid = subst (λ (x : Members). IfOk r (λ out. IsOverlaid x b out.pairs.items out.coverage)) c.coverage-first.ensures.coverage
    (subst (λ (y : Members). IfOk r (λ out. IsOverlaid c.coverage-first.result.now y out.pairs.items out.coverage)) c.coverage-second.ensures.coverage c.paired_regions.ensures.overlaid) in
    IfOk-weaker r _ _ (λ (out : Overlaid) h. overlaid_valid a b in_range out.pairs.items out.coverage h) overlaid

pub returns-clause-holds : goal.returns-clause-holds
returns-clause-holds c =
    let a : Members = c.args.a.now in
    let b : Members = c.args.b.now in
    let r = c.paired_regions.result in
    let first : c.len.result ≡ length a = search rules in
    let second : c.len-2.result ≡ length b = search rules in
    let in_range = joint_in_range a b c.coverage-first.ensures.formed.in_range c.coverage-second.ensures.formed.in_range (omega (arith, first, second, c.in_ok-checked_count.ensures.few.1)) in
    let overlaid = subst (λ (x : Members). IfOk r (λ out. IsOverlaid x b out.pairs.items out.coverage)) c.coverage-first.ensures.coverage
    (subst (λ (y : Members). IfOk r (λ out. IsOverlaid c.coverage-first.result.now y out.pairs.items out.coverage)) c.coverage-second.ensures.coverage c.paired_regions.ensures.overlaid) in
    IfOk-weaker r _ _ (λ (out : Overlaid) h. overlaid_holds a b in_range out.pairs.items out.coverage h) overlaid
