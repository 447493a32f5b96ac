use Rattle.std.proofs.Common.{◌≡◌, ◌∙◌, ap, ◌*◌, ◌^◌, ◌%◌, bit_or, to_z, of_z, w32, rules}
use Rattle.box_tree.specs.Curve.{above_least, spread, curve_of}
use Rattle.box_tree.proofs.morton.curve.Goals as goal

pub returns : goal.returns
unfolding curve_of
returns c =
    let x : to_z w32 (of_z w32 c.args.p.x) ≡ c.args.p.x = search rules in
    let y : to_z w32 (of_z w32 c.args.p.y) ≡ c.args.p.y = search rules in
    let first : c.spread.result ≡ spread (above_least c.args.p.x) = c.spread.ensures ∙ ap spread (c.above_least.ensures ∙ ap above_least x) in
    let second : c.spread-2.result ≡ spread (above_least c.args.p.y) = c.spread-2.ensures ∙ ap spread (c.above_least-2.ensures ∙ ap above_least y) in
    λ i. bit_or (first i) (second i * 2 % 2 ^ 64)
