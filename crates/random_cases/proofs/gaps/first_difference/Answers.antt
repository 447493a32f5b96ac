-- The search is in the regions' own edges.
use Rattle.std.proofs.Common.{sym, subst, List}
use Rattle.cov_types.specs.declared.seg.Seg.{Seg}
use Rattle.plane.specs.Region.{IsOuterRegion}
use Rattle.arrangement.specs.Overlay.{IsRegion}
use Rattle.random_cases.proofs.gaps.first_difference.Goals as goal

pub region_difference-requires-clause-region : goal.region_difference-requires-clause-region
region_difference-requires-clause-region c = subst (λ (es : List Seg). IsRegion es c.loop-side.side) (sym c.requires.search) (c.is_inner_region.ensures.region c.if-is_inner_region.true)

pub region_difference-requires-clause-not_outer : goal.region_difference-requires-clause-not_outer
region_difference-requires-clause-not_outer c = subst (λ (es : List Seg). ¬ IsOuterRegion es c.loop-side.side) (sym c.requires.search) (c.is_inner_region.ensures.not_outer c.if-is_inner_region.true)
