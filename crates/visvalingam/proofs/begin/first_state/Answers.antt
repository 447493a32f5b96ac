use mathlib.Core.List.{[]}
use Rattle.std.proofs.Common.{sym, ◌∙◌, subst, List, All, Option, Vec, Global, IsPermutation}
use Rattle.cov_types.specs.declared.coord.Coord.{Coord}
use Rattle.cov_types.specs.Range.{IsInRange}
use Rattle.visvalingam.specs.Chains.{AreAllLinked}
use Rattle.visvalingam.specs.declared.chains.Links.{Links}
use Rattle.visvalingam.proofs.Begun.{begins, all_in_range}
use Rattle.visvalingam.proofs.begin.first_state.Goals as goal

pub build-requires : goal.build-requires
build-requires c = subst (All IsInRange) (sym (c.as_slice-2.ensures.value ∙ c.in_ok-points.ensures)) (all_in_range c.args.task.now.lines.now c.requires.points)

pub returns : goal.returns
returns c s asked =
    begins s c.args.task.now asked
    (record { links = c.in_ok-links.links; cells = c.in_ok-build.field-0; segments = c.in_ok-first_segments.field-0; queue = c.in_ok-queue.queue; waiting = c.new.result; removed = c.new-2.result })
    c.in_ok-points.points.items c.new-2.ensures.items c.in_ok-links.ensures c.in_ok-points.ensures
    (subst (λ (ps : List Coord). IsPermutation ps c.in_ok-build.field-0) c.as_slice-2.ensures.value c.in_ok-build.ensures) c.in_ok-first_segments.ensures
    (λ q h. c.in_ok-queue.ensures s q asked (subst (λ (ls : List (Vec (Option Links) Global)). AreAllLinked [] c.args.task.now.lines.now ls) (sym c.as_slice.ensures.value) c.in_ok-links.ensures) h)
