use Rattle.std.proofs.Common.{sym, ◌∙◌, ap, subst, List, Option, Some, map, IsPermutation}
use Rattle.std.proofs.lemmas.List.Sorted.{All-permutation}
use Rattle.cov_types.specs.declared.coord.Coord.{Coord}
use Rattle.cov_types.specs.Range.{IsInRange}
use Rattle.box_tree.specs.Rect.{box_of_point}
use Rattle.box_tree.specs.declared.rect.Rect.{Rect}
use Rattle.cov_cells.specs.Slots.{living, AreCells}
use Rattle.cov_cells.proofs.Living.{all_living, cells_of}
use Rattle.cov_cells.proofs.cells.Cells.build.Goals as goal

pub invariant_of-result : goal.invariant_of-result
invariant_of-result c =
    let along = c.in_ok-along.along.items in
    let slots = c.in_ok-slots.ensures ∙ ap (map Some) c.as_slice.ensures.value in
    let boxes = c.in_ok-tree.ensures ∙ c.in_ok-boxes.ensures ∙ ap (map box_of_point) c.as_slice-2.ensures.value in
    let made = cells_of along (All-permutation IsInRange c.args.points.now along c.in_ok-along.ensures c.requires) in
    subst (λ (ss : List (Option Coord)). AreCells ss c.in_ok-tree.tree) (sym slots) (subst (λ (bs : List Rect). AreCells (map Some along) bs) (sym boxes) made)

pub returns : goal.returns
returns c =
    let slots = c.in_ok-slots.ensures ∙ ap (map Some) c.as_slice.ensures.value in
    subst (λ (ps : List Coord). IsPermutation c.args.points.now ps) (sym (ap living slots ∙ all_living c.in_ok-along.along.items)) c.in_ok-along.ensures
