use Rattle.std.proofs.Common.{get_or, pos, arith}
use Rattle.std.proofs.lemmas.Option.{slice_get-get_or}
use Rattle.line_walk.specs.declared.edge_end.EdgeEnd.{EdgeEnd}
use Rattle.line_walk.proofs.EndCounts.{after_within, after_named, before_named, none_named}
use Rattle.line_walk.proofs.edge_end.other_of_two.Goals.{else-i-gt0-via-then-i-gt0+else-is_pair-2, else-i-gt0-via-else-i-gt0}
use Rattle.line_walk.proofs.edge_end.other_of_two.Goals as goal

some_end : EdgeEnd
some_end = record { vertex = record { x = pos 0; y = pos 0 }; edge = 0 }

pub bounds-ends-i : goal.bounds-ends-i
bounds-ends-i c =
    let ends = c.args.ends.now in
    after_within ends c.requires.together c.args.i (get_or ends c.args.i some_end) (slice_get-get_or ends c.args.i some_end c.requires.within) c.is_pair.result c.is_pair.ensures c.if-is_pair.true

pub returns-then-is_pair : goal.returns-then-is_pair
returns-then-is_pair c = λ d at. after_named c.args.ends.now c.requires.together c.args.i d at c.is_pair.result c.is_pair.ensures c.if-is_pair.true _

pub returns-then-is_pair-2 : goal.returns-then-is_pair-2
returns-then-is_pair-2 c = λ d at. before_named c.args.ends.now c.requires.together c.args.i d at c.if-i-gt0.true c.is_pair-then-i-gt0.result c.is_pair-then-i-gt0.ensures c.if-is_pair-2.true _

pub returns-else-i-gt0 : goal.returns-else-i-gt0
returns-else-i-gt0 c = λ d at. none_named c.args.ends.now c.requires.together c.args.i d at c.is_pair.result c.is_pair.ensures c.if-is_pair.false (λ some. elim c.else-i-gt0.branch [
  | else-i-gt0-via-then-i-gt0+else-is_pair-2 w ↦ (w.is_pair-then-i-gt0.result, (w.is_pair-then-i-gt0.ensures, w.if-is_pair-2.false))
  | else-i-gt0-via-else-i-gt0 w ↦ absurd (omega (arith, some, w.if-i-gt0.false))
])
