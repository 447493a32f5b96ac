use Rattle.std.proofs.Common.{FitsSigned, arith, rules}
use Rattle.std.proofs.lemmas.Int.{ints, to_z-of_z}
use mir.Syntax.{w32, w128}
use Rattle.hot_pixel.specs.Pixel.{RoundsTo}
use Rattle.hot_pixel.proofs.Rounded.{rounds_in_bits, rounded_fits}
use Rattle.hot_pixel.proofs.pixel.rounded.Goals as goal

rounds : (c : goal.After-div_euclid) → RoundsTo c.args.n c.args.d c.div_euclid.result
rounds c = rounds_in_bits c.args.n c.args.d c.requires.positive c.requires.small c.requires.low c.requires.high c.div_euclid.result c.div_euclid.ensures

pub overflow_cast-result : goal.overflow_cast-result
overflow_cast-result c = let bounds = rounded_fits c.args.n c.args.d c.div_euclid.result c.requires.positive c.requires.low c.requires.high (rounds c) in omega (arith, ints)

pub returns-clause-exact : goal.returns-clause-exact
returns-clause-exact c =
    let bounds = rounded_fits c.args.n c.args.d c.div_euclid.result c.requires.positive c.requires.low c.requires.high (rounds c) in
    let fits : FitsSigned w128 c.div_euclid.result = search rules in
    let narrow : FitsSigned w32 c.div_euclid.result = omega (arith, ints) in
    simp to_z-of_z (rounds c)

pub returns-clause-low : goal.returns-clause-low
returns-clause-low c = let bounds = rounded_fits c.args.n c.args.d c.div_euclid.result c.requires.positive c.requires.low c.requires.high (rounds c) in omega (arith, ints)

pub returns-clause-high : goal.returns-clause-high
returns-clause-high c = let bounds = rounded_fits c.args.n c.args.d c.div_euclid.result c.requires.positive c.requires.low c.requires.high (rounds c) in omega (arith, ints)
