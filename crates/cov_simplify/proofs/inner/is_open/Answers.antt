use Rattle.std.proofs.Common.{◌≡◌, true, rules}
use Rattle.cov_simplify.proofs.inner.is_open.Goals as goal

pub returns-else-not-inner_only : goal.returns-else-not-inner_only
returns-else-not-inner_only c = λ uses odd counted.
    let only : c.args.inner_only ≡ true = search rules in
    let by = c.is_inner.ensures uses odd counted in
    (λ is only. by.0 is, λ inner. by.1 (inner only))
