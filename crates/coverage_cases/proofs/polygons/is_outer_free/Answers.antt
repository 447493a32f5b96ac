use Rattle.std.proofs.Common.{◌≡◌, ◌∙◌, ap, subst, ℕ, Option, List, le_antisymm}
use Rattle.std.specs.Prelude.{IfSome}
use Rattle.cov_types.specs.declared.seg.Seg.{Seg}
use Rattle.plane.specs.Region.{IsOuterRegion}
use Rattle.cov_build.specs.Owners.{owner_in}
use Rattle.cov_build.proofs.OwnerLinks.{owner_is}
use Rattle.coverage_cases.proofs.polygons.is_outer_free.Goals as goal

one_outer : (edges : List Seg) (r n : ℕ) → IsOuterRegion edges r → IsOuterRegion edges n → r ≡ n
one_outer edges r n first second = le_antisymm (first.least n second.outer) (second.least r first.outer)

pub returns-then-outer-owners : goal.returns-then-outer-owners
returns-then-outer-owners c = λ free n is.
    let outer = c.in-Some.outer in
    let is_outer : IsOuterRegion c.args.r.now outer = subst (λ (q : Option ℕ). IfSome q (λ r. IsOuterRegion c.args.r.now r)) c.in-Some.is c.outer.ensures.outer in
    ap (owner_in c.args.owners.now) (one_outer c.args.r.now n outer is is_outer) ∙ owner_is c.args.owners.now outer ∙ c.is_free.ensures free
