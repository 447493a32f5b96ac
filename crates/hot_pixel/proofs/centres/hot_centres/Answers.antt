use Rattle.std.proofs.Common.{List, subst, sym}
use Rattle.std.specs.Prelude.{All}
use Rattle.std.proofs.lemmas.Result.{IfOk-weaker}
use Rattle.cov_types.specs.Range.{IsSegInRange}
use Rattle.hot_pixel.proofs.Hot.{hot_centres_are, in_range_too}
use Rattle.hot_pixel.proofs.centres.hot_centres.Goals as goal

pub add_crossings-requires : goal.add_crossings-requires
add_crossings-requires c = subst (All IsSegInRange) (sym c.as_slice-along.ensures.value) (in_range_too c.args.segs.now c.in_ok-distinct.distinct.items c.requires c.in_ok-distinct.ensures)

pub returns : goal.returns
returns c =
    IfOk-weaker c.points_along_curve.result _ _
    (λ centres moved. hot_centres_are c.args.segs.now c.in_ok-distinct.distinct.items c.as_slice-along.result.now c.new-centres.result.items c.add_ends.new.centres.items c.add_crossings.new.centres.items c.as_slice.result.now
    centres.items c.requires c.in_ok-distinct.ensures c.as_slice-along.ensures.value c.new-centres.ensures.items c.in_ok-add_ends.ensures c.in_ok-add_crossings.ensures c.as_slice.ensures.value moved) c.points_along_curve.ensures
