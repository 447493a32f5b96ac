use Rattle.std.proofs.Common.{◌∙◌, ◌+◌, ◌<◌, ◌^◌, ap, sym, refl, subst, arith}
use Rattle.integer_laws.proofs.Bound.{IsWithin, within_sum, within_more}
use Rattle.clearance_laws.specs.Inside.{half_point}
use Rattle.gap_width.proofs.Steps.{sum_over, sum_not_over, weight_more}
use Rattle.gap_width.proofs.own.weight_over.Goals as goal
use Rattle.gap_width.proofs.own.weight_over.Goals.{then-over_half, else-over_half}

pub loop-o-preserved : goal.loop-o-preserved
loop-o-preserved c =
    let p = half_point c.args.c in
    let over = c.over_half.ensures p refl refl refl in
    let o = c.o-item.result in
    let i = c.loop-o.o-index in
    let so_far = c.loop-o.invariant in
    let small : i + 1 < 2 ^ 63 = omega arith in
    elim c.if-over_half.branch [
      | then-over_half w ↦ (
          let weight = (subst (λ e. IsWithin 1 e) (ap (λ x. x.weight) (sym c.o-item.is)) (c.requires.edges i o c.loop-o-test.true).weight) in
          let more = w.weight-is ∙ weight_more _ o.weight i small so_far.small weight in
          record {
            sum = sum_over c.args.own.now i o p c.loop-o-test.true c.o-item.is _ _ (sym over ∙ w.if-over_half.true) so_far.sum more;
            small = subst (IsWithin (i + 1)) (sym more) (within_sum so_far.small weight);
          }
          )
      | else-over_half w ↦ record {
        sum = sum_not_over c.args.own.now i o p c.loop-o-test.true c.o-item.is _ _ (sym over ∙ w.if-over_half.false) so_far.sum w.weight-is;
        small = subst (IsWithin (i + 1)) (sym w.weight-is) (within_more (omega arith) so_far.small);
      }
    ]
