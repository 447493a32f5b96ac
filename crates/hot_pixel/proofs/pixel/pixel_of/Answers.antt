use Rattle.std.proofs.Common.{FitsSigned, subst, rules}
use Rattle.std.proofs.lemmas.Int.{to_z-of_z}
use mir.Syntax.{w32, w128}
use Rattle.integer_laws.proofs.Cast.{positive_natural}
use Rattle.grid_pred.specs.Crossing.{at_cross}
use Rattle.hot_pixel.specs.Pixel.{RoundsTo}
use Rattle.hot_pixel.proofs.Rounded.{pixel_is}
use Rattle.hot_pixel.proofs.pixel.pixel_of.Goals as goal

pub returns-clause-exact : goal.returns-clause-exact
returns-clause-exact c =
    let point = c.args.c.now in
    let f1 : FitsSigned w128 point.num_x = search rules in
    let f2 : FitsSigned w128 point.num_y = search rules in
    let f3 : FitsSigned w128 point.den = search rules in
    let f4 : FitsSigned w32 c.rounded.result = search rules in
    let f5 : FitsSigned w32 c.rounded-2.result = search rules in
    let x : RoundsTo point.num_x point.den c.rounded.result = simp to_z-of_z at c.rounded.ensures.exact in
    let y : RoundsTo point.num_y point.den c.rounded-2.result = simp to_z-of_z at c.rounded-2.ensures.exact in
    let den = (positive_natural point.den point.positive).2 in
    let p = at_cross point in
    simp to_z-of_z
    (pixel_is p (record { x = c.rounded.result; y = c.rounded-2.result }) (subst (λ d. RoundsTo point.num_x d c.rounded.result) den x) (subst (λ d. RoundsTo point.num_y d c.rounded-2.result) den y))
