use Rattle.std.proofs.Common.{refl, sym, ◌∙◌, subst, length, true≢false, IsTrue}
use Rattle.std.proofs.lemmas.Option.{slice_get_read, slice_get_within}
use Rattle.cov_types.specs.declared.seg.Seg.{Seg}
use Rattle.plane.specs.Point.{at_coord}
use Rattle.region_laws.specs.Below.{is_under}
use Rattle.face_walk.specs.Nearest.{IsCandidate, IsSettled}
use Rattle.face_walk.proofs.Settling.{one_at, settled_not_under, settled_itself, settled_farther, kept_first, kept_nearer}
use Rattle.face_walk.proofs.below.nearest_with.Goals as goal

pub returns-then-not-is_under-clause-settled : goal.returns-then-not-is_under-clause-settled
returns-then-not-is_under-clause-settled c =
    let edges = c.args.edges.now in
    let at_k = slice_get_read edges (length edges) c.args.k c.index-edges-k.result refl c.requires.within c.index-edges-k.is in
    settled_not_under edges (at_coord c.args.p) c.args.k c.index-edges-k.result at_k (sym c.is_under.ensures ∙ c.if-not-is_under.true) c.args.nearest

pub bounds-edges-i : goal.bounds-edges-i
bounds-edges-i c =
    let edges = c.args.edges.now in
    let (e, (at, under)) = subst (λ n. IsCandidate edges (at_coord c.args.p) n) c.in-Some.is c.requires.candidate in
    slice_get_within edges c.in-Some.i e at

pub returns-then-is_nearer-clause-settled : goal.returns-then-is_nearer-clause-settled
returns-then-is_nearer-clause-settled c =
    let edges = c.args.edges.now in
    let p = at_coord c.args.p in
    let (e, (at, under)) = subst (λ n. IsCandidate edges p n) c.in-Some.is c.requires.candidate in
    let at_k = slice_get_read edges (length edges) c.args.k c.index-edges-k-in-Some.result refl c.requires.within c.index-edges-k-in-Some.is in
    let at_i = slice_get_read edges (length edges) c.in-Some.i c.index-edges-i.result refl (slice_get_within edges c.in-Some.i e at) c.index-edges-i.is in
    settled_farther edges p c.args.k c.index-edges-k-in-Some.result at_k c.in-Some.i c.index-edges-i.result at_i (c.is_nearer.ensures.0 c.if-is_nearer.true)

pub returns-then-is_nearer-clause-kept : goal.returns-then-is_nearer-clause-kept
returns-then-is_nearer-clause-kept c = λ i settled. subst (λ n. IsSettled c.args.edges.now (at_coord c.args.p) n i) c.in-Some.is settled

pub returns-else-is_nearer-clause-candidate : goal.returns-else-is_nearer-clause-candidate
returns-else-is_nearer-clause-candidate c =
    let edges = c.args.edges.now in
    let at_k = slice_get_read edges (length edges) c.args.k c.index-edges-k.result refl c.requires.within c.index-edges-k.is in
    (c.index-edges-k.result, (at_k, sym c.is_under.ensures ∙ c.if-not-is_under.false))

pub returns-else-is_nearer-clause-settled : goal.returns-else-is_nearer-clause-settled
returns-else-is_nearer-clause-settled c =
    let edges = c.args.edges.now in
    let at_k = slice_get_read edges (length edges) c.args.k c.index-edges-k.result refl c.requires.within c.index-edges-k.is in
    settled_itself edges (at_coord c.args.p) c.args.k c.index-edges-k.result at_k

pub returns-else-is_nearer-clause-kept : goal.returns-else-is_nearer-clause-kept
returns-else-is_nearer-clause-kept c =
    let edges = c.args.edges.now in
    let p = at_coord c.args.p in
    let k = c.args.k in
    let (e, (at, under)) = subst (λ n. IsCandidate edges p n) c.in-Some.is c.requires.candidate in
    let at_k = slice_get_read edges (length edges) k c.index-edges-k.result refl c.requires.within c.index-edges-k.is in
    let at_again = slice_get_read edges (length edges) k c.index-edges-k-in-Some.result refl c.requires.within c.index-edges-k-in-Some.is in
    let same = one_at edges k c.index-edges-k.result c.index-edges-k-in-Some.result at_k at_again in
    let at_i = slice_get_read edges (length edges) c.in-Some.i c.index-edges-i.result refl (slice_get_within edges c.in-Some.i e at) c.index-edges-i.is in
    λ i settled.
    kept_nearer edges p k c.index-edges-k-in-Some.result at_again c.in-Some.i c.index-edges-i.result at_i c.requires.planar
    (subst (λ (d : Seg). IsTrue (is_under d p)) (one_at edges c.in-Some.i e c.index-edges-i.result at at_i) under)
    (subst (λ (d : Seg). IsTrue (is_under d p)) same (sym c.is_under.ensures ∙ c.if-not-is_under.false))
    (λ nearer. true≢false (sym (c.is_nearer.ensures.1 nearer) ∙ c.if-is_nearer.false))
    i (subst (λ n. IsSettled edges p n i) c.in-Some.is settled)

pub returns-in-None-clause-candidate : goal.returns-in-None-clause-candidate
returns-in-None-clause-candidate c =
    let edges = c.args.edges.now in
    let at_k = slice_get_read edges (length edges) c.args.k c.index-edges-k.result refl c.requires.within c.index-edges-k.is in
    (c.index-edges-k.result, (at_k, sym c.is_under.ensures ∙ c.if-not-is_under.false))

pub returns-in-None-clause-settled : goal.returns-in-None-clause-settled
returns-in-None-clause-settled c =
    let edges = c.args.edges.now in
    let at_k = slice_get_read edges (length edges) c.args.k c.index-edges-k.result refl c.requires.within c.index-edges-k.is in
    settled_itself edges (at_coord c.args.p) c.args.k c.index-edges-k.result at_k

pub returns-in-None-clause-kept : goal.returns-in-None-clause-kept
returns-in-None-clause-kept c =
    let edges = c.args.edges.now in
    let at_k = slice_get_read edges (length edges) c.args.k c.index-edges-k.result refl c.requires.within c.index-edges-k.is in
    λ i settled.
    kept_first edges (at_coord c.args.p) c.args.k c.index-edges-k.result at_k i (subst (λ n. IsSettled edges (at_coord c.args.p) n i) c.in-None.is settled)
