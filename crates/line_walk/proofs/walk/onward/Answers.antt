use Rattle.std.proofs.Common.{◌≡◌, ◌≢◌, ◌∙◌, sym, subst, refl, length, arith, Option, Some, None, ℕ, inr, List, slice_get}
use Rattle.std.proofs.lemmas.Bool.{false≢true}
use Rattle.std.proofs.lemmas.Option.{slice_get_read, slice_get_within, slice_get-get_or, same_Some}
use Rattle.cov_types.specs.declared.coord.Coord.{Coord}
use Rattle.cov_types.specs.declared.seg.Seg.{Seg}
use Rattle.cov_types.proofs.Equal.{Decides-same_coords}
use Rattle.line_walk.specs.Partners.{IsAtVertex, IsPartnerOrNone}
use Rattle.line_walk.specs.Walk.{IsOnwardFrom}
use Rattle.line_walk.proofs.walk.onward.Goals as goal

goes_on : (edges : List Seg) (from to : Coord) (last : ℕ) (next : Option ℕ) → to ≢ from → IsPartnerOrNone edges to last next → IsOnwardFrom edges from to last next
goes_on edges from to last None apart h = inr h
goes_on edges from to last (Some next) apart h = (apart, h)

pub returns-else-eq : goal.returns-else-eq
returns-else-eq c =
    let edges = c.args.edges.now in
    let partners = c.args.partners.now in
    let (e, has) = c.requires.end in
    let within = slice_get_within edges c.args.last e has.0 in
    let size = c.requires.partners.size in
    let read : slice_get edges c.args.last ≡ Some c.index-edges-last.result = slice_get_read edges (length edges) c.args.last c.index-edges-last.result refl within c.index-edges-last.is in
    let end : IsAtVertex c.index-edges-last.result c.args.to = subst (λ s. IsAtVertex s c.args.to) (same_Some e c.index-edges-last.result (sym has.0 ∙ read)) has.1 in
    let at = slice_get-get_or partners c.args.last _ (omega (arith, within, size)) in
    let apart : c.args.to ≢ c.args.from = λ same. false≢true (sym c.if-eq.false ∙ c.eq.ensures ∙ (Decides-same_coords c.args.to c.args.from).1 same) in
    goes_on edges c.args.from c.args.to c.args.last c.at.result apart
    (subst (IsPartnerOrNone edges c.args.to c.args.last) (sym c.at.ensures) (c.requires.partners.each c.args.last c.index-edges-last.result _ c.args.to read at end))
