use Rattle.std.proofs.Common.{◌≡◌, ◌∙◌, sym, ap, subst, ◌+◌, ◌<◌, ℕ, false, length, get_or}
use Rattle.cov_types.specs.Coord.{is_before}
use Rattle.cov_build.specs.Walks.{target_of}
use Rattle.cov_build.proofs.Walking.{leads_within}
use Rattle.cov_build.proofs.LeastEnds.{least_stays, least_moves, before_is, least_all}
use Rattle.cov_build.proofs.ring.least_end.Goals.{then-lt, else-lt}
use Rattle.cov_build.proofs.ring.least_end.Goals as goal

pub target-requires : goal.target-requires
target-requires c = leads_within c.args.a.now c.args.way.now _ c.requires.round.leads c.loop-i.i 0 c.loop-i-test.true

pub target-requires-in-loop-i : goal.target-requires-in-loop-i
target-requires-in-loop-i c = leads_within c.args.a.now c.args.way.now _ c.requires.round.leads c.loop-i.least 0 c.loop-i.invariant.within

pub loop-i-preserved : goal.loop-i-preserved
loop-i-preserved c =
    let a = c.args.a.now in
    let way = c.args.way.now in
    let less : c.lt.result ≡ is_before (target_of a (get_or way c.loop-i.i 0)) (target_of a (get_or way c.loop-i.least 0)) =
    c.lt.ensures ∙ before_is c.target.result c.target-in-loop-i.result ∙ ap (λ p. is_before p c.target-in-loop-i.result) c.target.ensures ∙ ap (is_before (target_of a (get_or way c.loop-i.i 0))) c.target-in-loop-i.ensures in
    elim c.if-lt.branch [
      | then-lt w ↦ record {
        within = subst (λ n. n < length way) (sym w.least-is) c.loop-i-test.true;
        least = subst (λ n. (k : ℕ) → k < c.loop-i.i + 1 → is_before (target_of a (get_or way k 0)) (target_of a (get_or way n 0)) ≡ false) (sym w.least-is)
            (least_moves (λ k. target_of a (get_or way k 0)) c.loop-i.i c.loop-i.least (sym less ∙ w.if-lt.true) c.loop-i.invariant.least);
      }
      | else-lt w ↦ record {
        within = subst (λ n. n < length way) (sym w.least-is) c.loop-i.invariant.within;
        least = subst (λ n. (k : ℕ) → k < c.loop-i.i + 1 → is_before (target_of a (get_or way k 0)) (target_of a (get_or way n 0)) ≡ false) (sym w.least-is)
            (least_stays (λ k. target_of a (get_or way k 0)) c.loop-i.i c.loop-i.least (sym less ∙ w.if-lt.false) c.loop-i.invariant.least);
      }
    ]

pub returns-clause-least : goal.returns-clause-least
returns-clause-least c = least_all (target_of c.args.a.now) c.args.way.now c.loop-i.i c.loop-i.least c.loop-i-test.false c.loop-i.invariant.least
