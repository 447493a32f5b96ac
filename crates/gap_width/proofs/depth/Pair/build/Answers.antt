use mir.Syntax.{w64, w128}
use Rattle.std.proofs.Common.{refl, ◌∙◌, sym, subst, ◌^◌, ◌+ℤ◌, ◌*ℤ◌, lit<}
use Rattle.integer_laws.proofs.Bound.{IsWithin}
use Rattle.grid_pred.proofs.Small.{read_within}
use Rattle.gap_width.proofs.depth.Pair.build.Goals as goal

pub returns : goal.returns
returns c =
    let first = c.length_of-first_length in
    let second = c.length_of-second_length in
    let near = c.least_depth-first_depth in
    let other = c.least_depth-second_depth in
    let read_first = read_within w64 first.result (2 ^ 39) (lit< tt) first.ensures.small in
    let read_second = read_within w64 second.result (2 ^ 39) (lit< tt) second.ensures.small in
    record {
      pair = record {
        first = c.requires.first;
        second = c.requires.second;
        first_length = read_first ∙ first.ensures.exact;
        second_length = read_second ∙ second.ensures.exact;
        first_within = subst (IsWithin (2 ^ 39)) (sym read_first) first.ensures.small;
        second_within = subst (IsWithin (2 ^ 39)) (sym read_second) second.ensures.small;
      };
      first_is = refl;
      second_is = refl;
      first_depth = near.result;
      second_depth = other.result;
      first_least = near.ensures.least;
      second_least = other.ensures.least;
      least =
          read_within w128 c.weighted.result (2 ^ 102) (lit< tt) c.weighted.ensures.small ∙ c.weighted.ensures.exact
          ∙ (λ i. (((read_second ∙ second.ensures.exact) i) *ℤ (read_within w64 near.result (2 ^ 62) (lit< tt) near.ensures.small i))
          +ℤ (((read_first ∙ first.ensures.exact) i) *ℤ (read_within w64 other.result (2 ^ 62) (lit< tt) other.ensures.small i)));
    }
