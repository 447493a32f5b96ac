use Rattle.std.proofs.Common.{refl, ap, ℕ, List, length, arith}
use Rattle.cov_types.specs.declared.coord.Coord.{Coord}
use Rattle.fault_map.specs.FaultMap.{IsOverlapFeature}
use Rattle.fault_map.proofs.Appended.{appended_none, appended_more, appended_all}
use Rattle.fault_map.proofs.Yielded.{moved_on, all_yielded, next_within, polygon_at, one_longer}
use Rattle.fault_map.proofs.features.append_each_overlap.Goals as goal

pub loop-polygon-init : goal.loop-polygon-init
loop-polygon-init c = record {
  place = refl;
  appended = λ o is. appended_none (IsOverlapFeature o) c.args.listed.now c.args.features.now.items;
  left = c.into_iter-polygon-iterator.ensures.into_iter_gives.0;
}

pub overlap_feature-requires : goal.overlap_feature-requires
overlap_feature-requires c =
    let less = next_within c.loop-polygon.yielded _ c.loop-polygon.polygon-iterator.rest.items c.args.polygons.items c.in-Some.polygon c.loop-polygon.invariant.left c.in-Some.ensures.steps.0 in
    record { region = (c.requires.inner c.loop-polygon.place 0 (omega (arith, less, c.loop-polygon.invariant.place, c.requires.polygons.count))).region }

pub loop-polygon-preserved : goal.loop-polygon-preserved
loop-polygon-preserved c =
    let its = c.loop-polygon in
    let listed : List ℕ = c.args.listed.now in
    let less = next_within its.yielded _ its.polygon-iterator.rest.items c.args.polygons.items c.in-Some.polygon its.invariant.left c.in-Some.ensures.steps.0 in
    record {
      place = one_longer its.yielded c.in-Some.polygon its.place its.invariant.place;
      appended = λ o is. appended_more (IsOverlapFeature o) listed c.args.features.now.items its.place 0 c.in_ok-overlap_feature.field-0 its.features.items c.push.new.self.items
          (omega (arith, less, its.invariant.place, c.requires.polygons.count))
          (c.in_ok-overlap_feature.ensures o is (polygon_at o listed its.yielded _ its.polygon-iterator.rest.items c.args.polygons.items c.in-Some.polygon its.place its.invariant.place (c.requires.polygons.each o is.edges is.numbered) its.invariant.left c.in-Some.ensures.steps.0))
          c.in_ok-push.ensures.items (its.invariant.appended o is);
      left = moved_on its.yielded _ its.polygon-iterator.rest.items c.args.polygons.items c.in-Some.polygon its.invariant.left c.in-Some.ensures.steps.0;
    }

pub returns : goal.returns
returns c = λ o is.
    let its = c.loop-polygon in
    let done = ap (λ (ps : List (List (List Coord))). length ps) (all_yielded its.yielded its.polygon-iterator.rest.items c.args.polygons.items its.invariant.left (omega (arith, c.in-None.ensures.steps.0, its.polygon-iterator.rest.ok.0))) in
    appended_all (IsOverlapFeature o) c.args.listed.now c.args.features.now.items its.place its.features.items (omega (arith, done, its.invariant.place, c.requires.polygons.count)) (its.invariant.appended o is)
