use Rattle.grid_pred.specs.Crossing.{at_cross}
use Rattle.hot_pixel.proofs.Crossed.{no_crossing_in, crossing_in_pixel}
use Rattle.hot_pixel.proofs.crossings.crossed_pixel.Goals as goal

pub returns-in_err-point : goal.returns-in_err-point
returns-in_err-point c = no_crossing_in c.args.s c.args.t c.from_residual.result c.from_residual.ensures c.in_err-point.ensures.crosses

pub returns : goal.returns
returns c = crossing_in_pixel c.args.s c.args.t (at_cross c.in_ok-point.point) c.pixel_of.result c.in_ok-point.ensures.point c.pixel_of.ensures.exact
