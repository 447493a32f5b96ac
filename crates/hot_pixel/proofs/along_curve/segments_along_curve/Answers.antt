use Rattle.std.proofs.Common.{ap, ◌∙◌, ◌&&◌, int_eq, List, ℕ}
use Rattle.std.proofs.lemmas.List.Filters.{dedup_is}
use Rattle.cov_types.specs.declared.seg.Seg.{Seg}
use Rattle.cov_types.proofs.Equal.{Decides-same_segs}
use Rattle.hot_pixel.proofs.Keyed.{items, keyed_more, keyed_all, sorted_same}
use Rattle.hot_pixel.proofs.along_curve.segments_along_curve.Goals as goal

pub loop-s-init : goal.loop-s-init
loop-s-init c = ap items c.in_ok-keyed.ensures.items

pub loop-s-preserved : goal.loop-s-preserved
loop-s-preserved c = keyed_more c.args.segs.now c.loop-s.keyed.items c.push.new.self.items c.loop-s.s-index _ c.s-item.result c.loop-s-test.true c.s-item.is c.loop-s.invariant c.in_ok-push.ensures.items

pub returns : goal.returns
returns c =
    sorted_same (λ (s t : Seg). (int_eq s.lo.x t.lo.x && int_eq s.lo.y t.lo.y) && (int_eq s.hi.x t.hi.x && int_eq s.hi.y t.hi.y)) Decides-same_segs c.args.segs.now c.loop-s.keyed.items c.sort_unstable.new.self.items c.in_ok-along.along.items c.dedup.new.self.items
    (keyed_all c.args.segs.now c.loop-s.keyed.items c.loop-s.s-index c.loop-s-test.false c.loop-s.invariant) c.sort_unstable.ensures.permutation (c.in_ok-along.ensures ∙ ap items c.as_slice.ensures.value)
    (dedup_is _ _ _ c.dedup.ensures.filtered)
