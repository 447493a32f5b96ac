use Rattle.std.proofs.Common.{length, sym, subst, List, ◌∙◌, ◌*◌, ◌<◌, ◌≡◌}
use Rattle.cov_types.specs.declared.seg.Seg.{Seg}
use Rattle.half_edge.proofs.Counts.{next_within}
use Rattle.half_edge.proofs.Opening.{opens}
use Rattle.half_edge.proofs.Reading.{next_at, planar_of}
use Rattle.half_edge.specs.Directed.{half_edge_of}
use Rattle.sector_laws.specs.Sector.{IsHalfEdge}
use Rattle.half_edge.proofs.arena.Arena.opens_down.Goals as goal

pub directed-requires : goal.directed-requires
directed-requires c =
    let shown : c.deref.result.now ≡ c.args.self.now = c.deref.ensures.value ∙ c.self.view_is in
    let next = next_at c.self.inside.edges.items c.args.self.now c.self.inside.next.items c.args.h c.index.result.now c.self.invariant c.self.view_is c.requires.within c.index.ensures in
    record { within = subst (λ (es : List Seg). c.index.result.now.number < 2 * length es) (sym shown) (next_within c.args.self.now c.args.h c.index.result.now.number next) }

pub directed-requires-2 : goal.directed-requires-2
directed-requires-2 c =
    let shown : c.deref-2.result.now ≡ c.args.self.now = c.deref-2.ensures.value ∙ c.self.view_is in
    record { within = subst (λ (es : List Seg). c.twin.result.number < 2 * length es) (sym shown) (c.twin.ensures.within (length c.args.self.now) (subst (λ n. n < 2 * length c.args.self.now) (sym c.of_number.ensures) c.requires.within)) }

pub returns : goal.returns
returns c =
    let next = next_at c.self.inside.edges.items c.args.self.now c.self.inside.next.items c.args.h c.index.result.now c.self.invariant c.self.view_is c.requires.within c.index.ensures in
    let planar = planar_of c.self.inside.edges.items c.args.self.now c.self.inside.next.items c.self.invariant c.self.view_is in
    let first : c.deref.result.now ≡ c.args.self.now = c.deref.ensures.value ∙ c.self.view_is in
    let second : c.deref-2.result.now ≡ c.args.self.now = c.deref-2.ensures.value ∙ c.self.view_is in
    λ f g at_f follows.
    c.ge.ensures
    ∙ opens c.args.self.now planar c.args.h c.index.result.now.number c.twin.result.number (half_edge_of c.directed.result) (half_edge_of c.directed-2.result) next
    (subst (λ (es : List Seg). IsHalfEdge es c.index.result.now.number (half_edge_of c.directed.result)) first c.directed.ensures.numbered)
    (λ k at. c.twin.ensures.opposite c.args.self.now k (subst (λ n. IsHalfEdge c.args.self.now n k) (sym c.of_number.ensures) at))
    (subst (λ (es : List Seg). IsHalfEdge es c.twin.result.number (half_edge_of c.directed-2.result)) second c.directed-2.ensures.numbered)
    f g at_f follows
