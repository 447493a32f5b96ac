use Rattle.std.proofs.Common.{◌≡◌, ◌≤◌, ◌<◌, ◌^◌, ℕ, subst, ap, ◌∙◌, arith}
use Rattle.std.proofs.Math.Nat.{pow-le-pow_right}
use Rattle.geo_text.specs.Number.{IsShort}
use Rattle.geo_text.proofs.fraction.Fraction.unit.Goals as goal

bounded : (left power : ℕ) → left ≤ 7 → power ≡ 10 ^ left → power ≤ 10000000
bounded left power h e =
    let some : 0 < 10 = omega arith in
    let most : 10 ^ left ≤ 10 ^ 7 = pow-le-pow_right some h in
    omega (arith, e, most)

pub returns-in-Scaled-clause-bound : goal.returns-in-Scaled-clause-bound
returns-in-Scaled-clause-bound c = bounded c.in-Scaled.left c.pow.result (subst IsShort c.in-Scaled.is c.requires) (c.pow.ensures ∙ ap (λ n. 10 ^ n) c.from.ensures)
