use Rattle.std.proofs.Common.{sym, subst, arith}
use Rattle.visvalingam.specs.Chains.{IsFirstLinks}
use Rattle.visvalingam.proofs.Chained.{first_linked}
use Rattle.visvalingam.proofs.chains.Links.first.Goals as goal

pub returns : goal.returns
returns c points long =
    let past = c.loop-place-test.false in
    let end = c.loop-place.auto.place-end in
    let count = c.loop-place.invariant.count in
    first_linked points c.loop-place.links.items (omega arith)
    (λ k o at. (let own = c.loop-place.invariant.each k o at in (own.0, (own.1.0, subst (λ n. IsFirstLinks n k own.0) (sym long) own.1.1))))
