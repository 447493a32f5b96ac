use Rattle.std.proofs.Common.{List, ap, map, subst, sym, ◌∙◌}
use Rattle.std.specs.Prelude.{All}
use Rattle.std.proofs.lemmas.List.Elements.{All-map}
use Rattle.box_tree.specs.Rect.{box_of_point}
use Rattle.cov_types.specs.Range.{IsSegInRange}
use Rattle.cov_types.specs.declared.edge_use.EdgeUse.{EdgeUse}
use Rattle.cov_types.specs.declared.seg.Seg.{Seg}
use Rattle.hot_pixel.specs.Centres.{AreHotCentres}
use Rattle.hot_pixel.proofs.hot_set.HotSet.build.Goals as goal

pub hot_centres-requires : goal.hot_centres-requires
hot_centres-requires c = subst (All IsSegInRange) (sym (c.as_slice.ensures.value ∙ c.in_ok-segs.ensures)) (All-map IsSegInRange (λ (u : EdgeUse). u.seg) c.args.list.now c.requires)

pub invariant_of-result : goal.invariant_of-result
invariant_of-result c = (
  subst (λ (segs : List Seg). AreHotCentres segs c.in_ok-centres.centres.items) c.as_slice.ensures.value c.in_ok-centres.ensures,
  c.in_ok-tree.ensures ∙ c.in_ok-boxes_of.ensures ∙ ap (map box_of_point) c.as_slice-2.ensures.value,
  c.in_ok-near.ensures,
)
