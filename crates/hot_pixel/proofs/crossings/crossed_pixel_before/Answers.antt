use Rattle.hot_pixel.proofs.Crossed.{found_at, none_apart, none_before}
use Rattle.hot_pixel.proofs.crossings.crossed_pixel_before.Goals as goal
use Rattle.hot_pixel.proofs.crossings.crossed_pixel_before.Goals.{else-k-i-via-then-k-i+else-touches, else-k-i-via-else-k-i}

pub returns-then-touches : goal.returns-then-touches
returns-then-touches c =
    found_at c.args.segs.now c.args.i c.args.k c.index-segs-i.result c.index-segs-k.result c.if-k-i.true c.requires.i_within c.index-segs-i.is c.index-segs-k.is c.crossed_pixel.result c.crossed_pixel.ensures

pub returns-else-k-i : goal.returns-else-k-i
returns-else-k-i c =
    elim c.else-k-i.branch [
      | else-k-i-via-then-k-i+else-touches w ↦ none_apart c.args.segs.now c.args.boxes.now c.args.i c.args.k w.index-boxes-i.result w.index-boxes-k.result w.touches.result c.requires.boxes w.index-boxes-i.is w.index-boxes-k.is
          w.touches.ensures w.if-touches.false
      | else-k-i-via-else-k-i w ↦ none_before c.args.segs.now c.args.i c.args.k w.if-k-i.false
    ]
