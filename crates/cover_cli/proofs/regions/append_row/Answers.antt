-- A region that is not that of the outer points has its label, its area and, where no member holds it, its clearance in its row.
use Rattle.std.proofs.Common.{sym, ◌∙◌, subst, FitsSigned, rules, List}
use mir.Syntax.{w128}
use Rattle.std.proofs.lemmas.Int.{to_z-of_z}
use Rattle.cov_types.specs.declared.seg.Seg.{Seg}
use Rattle.plane.specs.Region.{IsOuterRegion}
use Rattle.cover_cli.proofs.RegionRows.{not_outer, inner_appended}
use Rattle.cover_cli.proofs.regions.append_row.Goals as goal

pub clearance_told-requires-clause-inner : goal.clearance_told-requires-clause-inner
clearance_told-requires-clause-inner c =
    let inner = not_outer c.args.regions.now c.outer.result c.args.region c.outer.ensures.none c.outer.ensures.region (sym c.eq.ensures ∙ c.if-eq.false) c.requires.region in
    λ outer. inner (subst (λ (es : List Seg). IsOuterRegion es c.args.region) c.requires.gaps outer)

pub returns-in_ok-clearance : goal.returns-in_ok-clearance
returns-in_ok-clearance c =
    let fits : FitsSigned w128 c.region_area2.result = search rules in
    let inner = not_outer c.args.regions.now c.outer.result c.args.region c.outer.ensures.none c.outer.ensures.region (sym c.eq.ensures ∙ c.if-eq.false) c.requires.region in
    inner_appended c.append_inner_row.result c.args.labels.now c.args.regions.now c.args.region c.label-label.result.now _ c.in_ok-clearance.clearance c.args.text.now.items _ c.requires.labels inner
    c.label-label.ensures.label (λ o is_overlay. to_z-of_z w128 c.region_area2.result fits ∙ c.region_area2.ensures o is_overlay)
    (λ o is_overlay. c.in_ok-clearance.ensures o (is_overlay.edges ∙ c.requires.labels ∙ sym c.requires.gaps) (c.label-label.ensures.label o is_overlay)) c.append_inner_row.ensures
