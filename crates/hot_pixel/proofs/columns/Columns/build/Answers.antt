use Rattle.std.proofs.Common.{List, ap, map, sym, subst, ◌∙◌}
use Rattle.std.specs.Prelude.{All}
use Rattle.box_tree.specs.Rect.{box_of_segment}
use Rattle.cov_types.specs.Range.{IsSegInRange}
use Rattle.cov_types.specs.declared.edge_use.EdgeUse.{EdgeUse}
use Rattle.hot_pixel.proofs.columns.Columns.build.Goals as goal

pub invariant_of-result : goal.invariant_of-result
invariant_of-result c = (
  subst (All (λ u. IsSegInRange u.seg)) (sym c.in_ok-list.ensures.items) c.requires,
  c.in_ok-tree.ensures ∙ c.in_ok-boxes_of.ensures ∙ ap (map (λ (u : EdgeUse). box_of_segment u.seg)) (sym c.in_ok-list.ensures.items),
)
