use Rattle.std.proofs.Common.{◌≡◌, refl, sym, ◌∙◌, ap, subst, ◌/◌, length, get_or, arith}
use Rattle.std.proofs.lemmas.Option.{slice_get_read}
use Rattle.sector_laws.specs.Sector.{IsHalfEdge}
use Rattle.sector_laws.proofs.Numbers.{half_edge_at}
use Rattle.half_edge.proofs.directed.directed.Goals as goal

pub returns : goal.returns
returns c =
    let edges = c.args.edges.now in
    let n = c.args.h.number in
    let e = c.index-edges-edge.result in
    let below = c.requires.within in
    let read : e ≡ get_or edges (n / 2) e = c.index-edges-edge.is ∙ ap (λ k. get_or edges k e) c.edge.ensures in
    let at = half_edge_at edges n e (slice_get_read edges (length edges) (n / 2) e refl (omega (arith, below)) read) in
    record { numbered = subst (λ b. IsHalfEdge edges n (record { edge = e; forwards = b })) (sym c.is_upper.ensures) at }
