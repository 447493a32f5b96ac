use mir.Syntax.{w64, w128}
use Rattle.std.proofs.Common.{◌≡◌, ◌∙◌, ◌^◌, pos, ◌+ℤ◌, ◌*ℤ◌, ◌<ℤ◌, subst, to_z, of_z, lit<, arith}
use Rattle.std.proofs.lemmas.Int.{ints}
use Rattle.integer_laws.proofs.Compare.{int_lt_is}
use Rattle.integer_laws.proofs.Ring.{lin}
use Rattle.grid_pred.proofs.Small.{read_within, plus_is}
use Rattle.gap_width.specs.Depth.{depths_of}
use Rattle.gap_width.proofs.depth.Pair.is_between.Goals as goal

pub weighted-sum-requires-clause-x_small : goal.weighted-sum-requires-clause-x_small
weighted-sum-requires-clause-x_small c = (let small = c.depth-first.ensures.small in record { low = omega (arith, ints, lin); high = omega (arith, ints, lin) })

pub weighted-sum-requires-clause-y_small : goal.weighted-sum-requires-clause-y_small
weighted-sum-requires-clause-y_small c = (let small = c.depth-second.ensures.small in record { low = omega (arith, ints, lin); high = omega (arith, ints, lin) })

pub returns-then-sum-second-gt0 : goal.returns-then-sum-second-gt0
returns-then-sum-second-gt0 c = λ t.
    let p = c.requires.pair in
    let sum = c.weighted-sum.result in
    let j = c.depth-first.result in
    let i = c.depth-second.result in
    let first_small = c.depth-first.ensures.small in
    let second_small = c.depth-second.ensures.small in
    let small = c.weighted-sum.ensures.small in
    let read_sum = read_within w128 sum (2 ^ 102) (lit< tt) small in
    let read_first = read_within w64 j (2 ^ 61) (lit< tt) first_small in
    let read_second = read_within w64 i (2 ^ 61) (lit< tt) second_small in
    let is : sum ≡ depths_of c.args.self c.args.c =
    c.weighted-sum.ensures.exact
    ∙ (λ k. (((read_within w64 c.args.self.second_length (2 ^ 39) (lit< tt) p.second_within ∙ p.second_length) k) *ℤ ((read_first ∙ c.depth-first.ensures.exact) k))
    +ℤ (((read_within w64 c.args.self.first_length (2 ^ 39) (lit< tt) p.first_within ∙ p.first_length) k) *ℤ ((read_second ∙ c.depth-second.ensures.exact) k))) in
    let last = (int_lt_is (pos 0) (to_z w128 (of_z w128 (to_z w128 (of_z w128 sum) +ℤ to_z w128 (of_z w128 (to_z w64 (of_z w64 j))))))).0 t in
    let front = (int_lt_is (pos 0) (to_z w128 (of_z w128 (to_z w128 (of_z w128 sum) +ℤ to_z w128 (of_z w128 (to_z w64 (of_z w64 i))))))).0 c.if-sum-second-gt0.true in
    let total_first = (λ k. to_z w128 (of_z w128 (to_z w128 (of_z w128 sum) +ℤ to_z w128 (of_z w128 (read_first k))))) ∙ plus_is w128 sum j (2 ^ 102) (2 ^ 61) (lit< tt) (lit< tt) small first_small (lit< tt) in
    let total_second = (λ k. to_z w128 (of_z w128 (to_z w128 (of_z w128 sum) +ℤ to_z w128 (of_z w128 (read_second k))))) ∙ plus_is w128 sum i (2 ^ 102) (2 ^ 61) (lit< tt) (lit< tt) small second_small (lit< tt) in
    record {
      close = omega (arith, ints, lin);
      over_first = subst (λ z. pos 0 <ℤ z) (total_second ∙ (λ k. is k +ℤ c.depth-second.ensures.exact k)) front;
      over_second = subst (λ z. pos 0 <ℤ z) (total_first ∙ (λ k. is k +ℤ c.depth-first.ensures.exact k)) last;
    }
