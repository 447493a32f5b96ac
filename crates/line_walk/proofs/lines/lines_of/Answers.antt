use Rattle.std.proofs.Common.{rules, Vec, Global}
use Rattle.std.specs.Ordering.{is_lt}
use Rattle.std.proofs.lemmas.List.Sorted.{answers_always}
use Rattle.cov_types.specs.declared.coord.Coord.{Coord}
use Rattle.cov_types.specs.Coord.{points_cmp}
use Rattle.line_walk.proofs.Gathering.{lists_weak, lines_sorted}
use Rattle.line_walk.proofs.lines.lines_of.Goals as goal

pub returns : goal.returns
returns c =
    lines_sorted c.args.edges.now c.in_ok-lines.lines.items c.sort_by.new.self.items c.in_ok-lines.ensures c.in_ok-sort_by.ensures.permutation
    (c.in_ok-sort_by.ensures.sorted (λ (a b : Vec Coord Global). is_lt (points_cmp a.items b.items)) lists_weak (answers_always _ _ _ (λ f a r g h. search rules)))
