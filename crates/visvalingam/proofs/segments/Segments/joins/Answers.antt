use Rattle.std.proofs.Common.{refl, sym, ◌∙◌, ap, subst}
use Rattle.cov_types.specs.declared.coord.Coord.{Coord}
use Rattle.cov_types.specs.Seg.{IsSegBetween}
use Rattle.greedy_run.proofs.Threads.{one_seg, no_loop}
use Rattle.visvalingam.specs.Segments.{is_among}
use Rattle.visvalingam.proofs.segments.Segments.joins.Goals as goal

pub returns-in-Some : goal.returns-in-Some
returns-in-Some c = (
  λ h. (c.in-Some.e, (sym c.contains.ensures ∙ h, c.in-Some.ensures.ends)),
  λ k. c.contains.ensures ∙ ap (is_among c.args.self.now.ends) (one_seg c.args.a c.args.b c.in-Some.e k.0 c.in-Some.ensures.ends k.1.1) ∙ k.1.0,
)

pub returns-in-None : goal.returns-in-None
returns-in-None c = (λ h. absurd (cc), λ k. absurd (no_loop c.args.b k.0 (subst (λ (q : Coord). IsSegBetween q c.args.b k.0) (c.in-None.ensures.same.0 refl) k.1.1)))
