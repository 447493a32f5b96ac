use Rattle.std.proofs.Common.{List, ap, map, sym, subst, ◌∙◌}
use Rattle.box_tree.specs.Rect.{box_of_point}
use Rattle.cov_types.specs.declared.seg.Seg.{Seg}
use Rattle.plane.specs.Snapping.{IsChain}
use Rattle.hot_pixel.proofs.MetPixels.{chain_is}
use Rattle.hot_pixel.proofs.hot_set.HotSet.chain.Goals as goal

pub all_met-requires : goal.all_met-requires
all_met-requires c = record {
  in_range = c.requires;
  boxed = c.self.invariant.1 ∙ ap (map box_of_point) (sym c.as_slice.ensures.value);
  near = c.as_slice-2.ensures.value ∙ c.self.invariant.2;
}

pub returns : goal.returns
returns c =
    subst (λ (segs : List Seg). IsChain segs c.args.s c.sort_along.new.centres.items) c.self.view_is
    (chain_is c.self.inside.segs.items c.args.s c.self.inside.centres.items c.as_slice.result.now c.in_ok-chain.chain.items c.sort_along.new.centres.items c.requires c.self.invariant.0 c.as_slice.ensures.value c.in_ok-chain.ensures
    c.sort_along.ensures.same c.sort_along.ensures.order)
