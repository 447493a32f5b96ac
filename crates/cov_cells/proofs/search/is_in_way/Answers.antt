use Rattle.std.proofs.Common.{sym, ◌∙◌, ◌||◌}
use Rattle.cov_cells.proofs.Looking.{corner_out, way_of}
use Rattle.cov_cells.proofs.search.is_in_way.Goals as goal

pub returns-then-eq : goal.returns-then-eq
returns-then-eq c =
    (λ h. absurd (cc), λ way. absurd (corner_out (record { a = c.args.a; b = c.args.b; c = c.args.c }) c.args.p ((λ i. sym c.eq.ensures i || sym c.eq-2.ensures i || sym c.eq-3.ensures i) ∙ c.if-eq.true) way))

pub returns : goal.returns
returns c = (
  λ h. way_of (record { a = c.args.a; b = c.args.b; c = c.args.c }) c.args.p ((λ i. sym c.eq.ensures i || sym c.eq-2.ensures i || sym c.eq-3.ensures i) ∙ c.if-eq.false) (c.is_in_triangle.ensures.0 h),
  λ way. c.is_in_triangle.ensures.1 way.inside,
)
