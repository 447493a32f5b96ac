-- One candidate more, and after the last.
use mir.Syntax.{w128}
use Rattle.std.proofs.Common.{sym, ◌∙◌, ap, List, [], ◌∷◌, ◌++◌, map, take, get_or, pos, FitsSigned, rules, ℤ}
use Rattle.std.proofs.lemmas.Int.{to_z-of_z}
use Rattle.std.proofs.lemmas.List.{map-append, take_more, take_all}
use Rattle.owner_label.specs.declared.owned_side.OwnedSide.{OwnedSide}
use Rattle.cov_clean.specs.Runs.{run_candidate}
use Rattle.cov_clean.proofs.gap_facts.candidates_of_runs.Goals as goal

abbrev none : OwnedSide
none = record { member = 0; length = 0 }

pub loop-run-preserved : goal.loop-run-preserved
loop-run-preserved c =
    let runs : List OwnedSide = c.args.runs.now in
    let areas : List ℤ = c.args.areas.now in
    let k = c.loop-run.run-index in
    let run = get_or runs k none in
    let fits : FitsSigned w128 (get_or areas run.member (pos 0)) = search rules in
    let area = to_z-of_z w128 (get_or areas run.member (pos 0)) fits in
    c.in_ok-push.ensures.items
    ∙ (λ j. c.loop-run.invariant j ++ record { member = run.member; area2 = area j; border = run.length } ∷ [])
    ∙ sym (map-append (run_candidate areas) (take k runs) (run ∷ []))
    ∙ ap (map (run_candidate areas)) (sym (take_more runs k none c.loop-run-test.true))

pub returns : goal.returns
returns c = c.loop-run.invariant ∙ ap (map (run_candidate c.args.areas.now)) (take_all c.loop-run.run-index c.args.runs.now c.loop-run-test.false)
