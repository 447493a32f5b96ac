use Rattle.std.proofs.Common.{◌∙◌, sym, subst, rules, List}
use Rattle.cov_types.specs.Uses.{uses_of}
use Rattle.cov_types.specs.declared.edge_use.EdgeUse.{EdgeUse}
use Rattle.plane.specs.Noded.{IsNodedFully}
use Rattle.arrangement.specs.Noding.{AreEdges, segments}
use Rattle.cov_admit.proofs.Segments.{noded_by_uses}
use Rattle.cov_simplify.proofs.EdgePlaces.{all_used}
use Rattle.cov_simplify.proofs.edges.edges_of_valid.Goals as goal

pub plain-requires-clause-noded : goal.plain-requires-clause-noded
plain-requires-clause-noded c =
    let list : List EdgeUse = uses_of c.args.c.now in
    subst (λ (us : List EdgeUse). IsNodedFully (segments us)) (sym (c.deref.ensures.value ∙ c.in_ok-uses.ensures.exact)) (noded_by_uses list c.requires.valid.ends)

pub invariant_of-result : goal.invariant_of-result
invariant_of-result c =
    let n = c.in_ok-edges.field-0 in
    let are : AreEdges (uses_of c.args.c.now) n.edges.items n.odd.items = subst (λ (us : List EdgeUse). AreEdges us n.edges.items n.odd.items) (c.deref.ensures.value ∙ c.in_ok-uses.ensures.exact) c.in_ok-edges.ensures.exact in
    record { ascending = n.ascending; odd_ascending = n.odd_ascending; places = n.places; used = all_used (uses_of c.args.c.now) c.requires.valid n.edges.items n.odd.items are }
