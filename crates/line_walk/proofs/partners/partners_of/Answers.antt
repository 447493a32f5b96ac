use Rattle.std.proofs.Common.{◌≡◌, ◌∙◌, sym, subst, refl, length, get_or, set, arith, rules, pos, ◌+◌, ◌<◌, Some, slice_get, List, IsPermutation}
use Rattle.std.proofs.lemmas.Option.{slice_get_read, slice_get-get_or}
use Rattle.line_walk.specs.declared.edge_end.EdgeEnd.{EdgeEnd}
use Rattle.line_walk.specs.declared.partners.Partners.{Partners}
use Rattle.line_walk.specs.Ends.{ends_from, IsOtherOfTwo}
use Rattle.line_walk.proofs.PartnerTable.{ArePartnersTo, partners_none, partners_more, partners_all, its_within}
use Rattle.line_walk.proofs.partners.partners_of.Goals as goal

abbrev some_end : EdgeEnd
some_end = record { vertex = record { x = pos 0; y = pos 0 }; edge = 0 }

pub loop-i-init : goal.loop-i-init
loop-i-init c = partners_none c.args.edges.now c.deref-end-items.result.now c.in_ok-partners.partners.items (omega (arith, c.in_ok-partners.ensures.len, c.in_ok-partners.partners.ok.0))

pub index-requires : goal.index-requires
index-requires c =
    let moved : IsPermutation (ends_from 0 c.args.edges.now) c.deref-end-items.result.now = subst (λ xs. IsPermutation (ends_from 0 c.args.edges.now) xs) (sym c.deref-end-items.ensures.value) c.in_ok-ends.ensures.all in
    omega (arith, its_within c.args.edges.now c.deref-end-items.result.now moved c.loop-i.i some_end c.loop-i-test.true, c.loop-i.invariant.size, c.loop-i.partners.ok.0)

pub index_mut-requires : goal.index_mut-requires
index_mut-requires c =
    let moved : IsPermutation (ends_from 0 c.args.edges.now) c.deref-end-items.result.now = subst (λ xs. IsPermutation (ends_from 0 c.args.edges.now) xs) (sym c.deref-end-items.ensures.value) c.in_ok-ends.ensures.all in
    omega (arith, its_within c.args.edges.now c.deref-end-items.result.now moved c.loop-i.i some_end c.loop-i-test.true, c.loop-i.invariant.size, c.loop-i.partners.ok.0)

pub bounds-edges-end : goal.bounds-edges-end
bounds-edges-end c =
    let moved : IsPermutation (ends_from 0 c.args.edges.now) c.deref-end-items.result.now = subst (λ xs. IsPermutation (ends_from 0 c.args.edges.now) xs) (sym c.deref-end-items.ensures.value) c.in_ok-ends.ensures.all in
    its_within c.args.edges.now c.deref-end-items.result.now moved c.loop-i.i some_end c.loop-i-test.true

pub offset_bounds-edges-end : goal.offset_bounds-edges-end
offset_bounds-edges-end c =
    let below : (get_or c.deref-end-items.result.now c.loop-i.i some_end).edge < length c.args.edges.now = bounds-edges-end c in
    search rules

pub loop-i-preserved : goal.loop-i-preserved
loop-i-preserved c =
    let edges = c.args.edges.now in
    let ends = c.deref-end-items.result.now in
    let moved : IsPermutation (ends_from 0 edges) ends = subst (λ xs. IsPermutation (ends_from 0 edges) xs) (sym c.deref-end-items.ensures.value) c.in_ok-ends.ensures.all in
    let i = c.loop-i.i in
    let d = get_or ends i some_end in
    let at = slice_get-get_or ends i some_end c.loop-i-test.true in
    let within = its_within edges ends moved i some_end c.loop-i-test.true in
    let e = c.index-edges-end.result in
    let is : slice_get edges d.edge ≡ Some e = slice_get_read edges (length edges) d.edge e refl within c.index-edges-end.is in
    let partners = c.loop-i.partners.items in
    let old : slice_get partners d.edge ≡ Some c.index.result.now = slice_get_read partners (length partners) d.edge c.index.result.now refl (omega (arith, within, c.loop-i.invariant.size)) c.index.ensures in
    let there = subst (λ (xs : List EdgeEnd). IsOtherOfTwo xs i c.other_of_two-other.result) (c.deref.ensures.value ∙ sym c.deref-end-items.ensures.value) c.other_of_two-other.ensures in
    subst (λ (w : Partners). ArePartnersTo edges ends (i + 1) (set partners d.edge w)) (sym c.with.ensures)
    (partners_more edges ends moved partners i d at c.loop-i.invariant e is c.index.result.now c.other_of_two-other.result old (there d at))

pub returns : goal.returns
returns c =
    let moved : IsPermutation (ends_from 0 c.args.edges.now) c.deref-end-items.result.now = subst (λ xs. IsPermutation (ends_from 0 c.args.edges.now) xs) (sym c.deref-end-items.ensures.value) c.in_ok-ends.ensures.all in
    partners_all c.args.edges.now c.deref-end-items.result.now moved c.loop-i.partners.items c.loop-i.i c.loop-i-test.false c.loop-i.invariant
