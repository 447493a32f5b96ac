use Rattle.std.proofs.Common.{◌∙◌, ◌&&◌, ◌||◌}
use Rattle.grid_pred.proofs.Order.{le_is}
use Rattle.cov_cells.proofs.triangle.is_amid.Goals as goal

pub returns : goal.returns
returns c =
    let a = c.args.a in
    let b = c.args.b in
    let d = c.args.c in
    let p = c.args.p in
    let ap = c.le.ensures ∙ le_is a p in
    let bp = c.le-2.ensures ∙ le_is b p in
    let dp = c.le-3.ensures ∙ le_is d p in
    let pa = c.le-4.ensures ∙ le_is p a in
    let pb = c.le-5.ensures ∙ le_is p b in
    let pd = c.le-6.ensures ∙ le_is p d in
    λ i. (ap i || bp i || dp i) && (pa i || pb i || pd i)
