use Rattle.plane.proofs.Sweeps.{rises-in_range}
use Rattle.rounding_laws.proofs.First.{passes-is}
use Rattle.hot_pixel.proofs.passing.before.Goals as goal

pub returns : goal.returns
returns c =
    let order = passes-is c.args.s c.args.a c.args.b (rises-in_range c.args.s c.requires.in_range) c.requires.meets_a c.requires.meets_b in
    (λ h. order.1 (c.comes_first.ensures.0 h), λ h. c.comes_first.ensures.1 (order.0 h))
