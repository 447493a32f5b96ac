use Rattle.cov_valid.proofs.Numbers.{sum_is}
use Rattle.cov_valid.proofs.placed.twice_middle.Goals as goal

pub returns : goal.returns
returns c =
    let s = c.args.s in
    let h = c.requires in
    let x = sum_is s.lo.x s.hi.x h.lo.left h.lo.right h.hi.left h.hi.right in
    let y = sum_is s.lo.y s.hi.y h.lo.bottom h.lo.top h.hi.bottom h.hi.top in
    λ i. record { x = x i; y = y i }
