use Rattle.std.proofs.Common.{ap, ◌∙◌, ◌&&◌, int_eq, List, ℕ}
use Rattle.std.proofs.lemmas.List.Filters.{dedup_is}
use Rattle.cov_types.specs.declared.coord.Coord.{Coord}
use Rattle.cov_types.proofs.Equal.{Decides-same_coords}
use Rattle.hot_pixel.proofs.Keyed.{items, keyed_read, keyed_all, sorted_same}
use Rattle.hot_pixel.proofs.along_curve.points_along_curve.Goals as goal

pub loop-p-init : goal.loop-p-init
loop-p-init c = ap items c.in_ok-keyed.ensures.items

pub loop-p-preserved : goal.loop-p-preserved
loop-p-preserved c = keyed_read c.args.points.now c.loop-p.keyed.items c.push.new.self.items c.loop-p.p-index _ _ c.loop-p-test.true c.loop-p.invariant c.in_ok-push.ensures.items

pub returns : goal.returns
returns c =
    sorted_same (λ (a b : Coord). int_eq a.x b.x && int_eq a.y b.y) Decides-same_coords c.args.points.now c.loop-p.keyed.items c.sort_unstable.new.self.items c.in_ok-along.along.items c.dedup.new.self.items
    (keyed_all c.args.points.now c.loop-p.keyed.items c.loop-p.p-index c.loop-p-test.false c.loop-p.invariant) c.sort_unstable.ensures.permutation (c.in_ok-along.ensures ∙ ap items c.as_slice.ensures.value)
    (dedup_is _ _ _ c.dedup.ensures.filtered)
