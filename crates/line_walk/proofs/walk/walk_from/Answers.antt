use Rattle.std.proofs.Common.{◌≡◌, ◌≢◌, ◌⊎◌, ◌∙◌, ap, sym, subst, refl, length, arith, rules, Option, Some, None, ℕ, List, ◌∷◌, ◌++◌, [], ◌<◌, slice_get}
use Rattle.std.proofs.lemmas.List.{length-append}
use Rattle.std.proofs.lemmas.Option.{slice_get_read, slice_get_within, same_Some}
use Rattle.cov_types.specs.declared.coord.Coord.{Coord}
use Rattle.cov_types.specs.declared.seg.Seg.{Seg}
use Rattle.greedy_run.specs.Lines.{degree}
use Rattle.line_walk.specs.Partners.{IsAtVertex, HasEndAt}
use Rattle.line_walk.specs.Walk.{IsOnwardFrom}
use Rattle.line_walk.proofs.Walking.{IsWalking, walk_one, walk_more, walk_bound, walk_ended, ends_at_to}
use Rattle.line_walk.proofs.walk.walk_from.Goals as goal

-- the edge that is read has the end
end_read : (edges : List Seg) (k : ℕ) (v : Coord) → HasEndAt edges k v → (e : Seg) → slice_get edges k ≡ Some e → IsAtVertex e v
end_read edges k v (f, has) e at = subst (λ s. IsAtVertex s v) (same_Some f e (sym has.0 ∙ at)) has.1

place_within : (edges : List Seg) (k : ℕ) (v : Coord) → HasEndAt edges k v → k < length edges
place_within edges k v (e, has) = slice_get_within edges k e has.0

ended : (edges : List Seg) (from to : Coord) (last : ℕ) (next : Option ℕ) → IsOnwardFrom edges from to last next → ((k : ℕ) → next ≡ Some k → ⊥) → (to ≡ from) ⊎ (degree edges to ≢ 2)
ended edges from to last None h none = h
ended edges from to last (Some k) h none = absurd (none k refl)

pub other_end-to-requires : goal.other_end-to-requires
other_end-to-requires c =
    let within = place_within c.args.edges.now c.args.first c.args.from c.requires.begins in
    end_read c.args.edges.now c.args.first c.args.from c.requires.begins c.index-edges-first.result (slice_get_read c.args.edges.now (length c.args.edges.now) c.args.first c.index-edges-first.result refl within c.index-edges-first.is)

pub walk-init : goal.walk-init
walk-init c =
    let edges = c.args.edges.now in
    let within = place_within edges c.args.first c.args.from c.requires.begins in
    let at = slice_get_read edges (length edges) c.args.first c.index-edges-first.result refl within c.index-edges-first.is in
    let points : c.push-2.new.self.items ≡ c.args.from ∷ c.other_end-to.result ∷ [] = c.in_ok-push-2.ensures.items ∙ ap (λ ps. ps ++ c.other_end-to.result ∷ []) (c.in_ok-push.ensures.items ∙ ap (λ ps. ps ++ c.args.from ∷ []) c.new-points.ensures.items) in
    let places : c.push-3.new.self.items ≡ c.args.first ∷ [] = c.in_ok-push-3.ensures.items ∙ ap (λ ks. ks ++ c.args.first ∷ []) c.new-passed.ensures.items in
    subst (λ (ps : List Coord). IsWalking edges c.args.from c.args.first ps c.push-3.new.self.items c.other_end-to.result c.args.first) (sym points)
    (subst (λ (ks : List ℕ). IsWalking edges c.args.from c.args.first (c.args.from ∷ c.other_end-to.result ∷ []) ks c.other_end-to.result c.args.first) (sym places)
    (walk_one edges c.requires.ascending c.args.from c.args.first c.index-edges-first.result c.other_end-to.result at c.other_end-to.ensures))

pub onward-requires-clause-end : goal.onward-requires-clause-end
onward-requires-clause-end c = ends_at_to c.args.edges.now c.requires.ascending c.args.from c.args.first c.walk.points.items c.walk.passed.items c.walk.to c.walk.last c.walk.invariant

pub bounds-edges-next : goal.bounds-edges-next
bounds-edges-next c = place_within c.args.edges.now c.in-Some.next c.walk.to c.in-Some.ensures.1.ends

pub offset_bounds-edges-next : goal.offset_bounds-edges-next
offset_bounds-edges-next c =
    let below : c.in-Some.next < length c.args.edges.now = bounds-edges-next c in
    search rules

pub other_end-to-requires-in-Some : goal.other_end-to-requires-in-Some
other_end-to-requires-in-Some c =
    let edges = c.args.edges.now in
    let ends = c.in-Some.ensures.1.ends in
    let within = place_within edges c.in-Some.next c.walk.to ends in
    end_read edges c.in-Some.next c.walk.to ends c.index-edges-next.result (slice_get_read edges (length edges) c.in-Some.next c.index-edges-next.result refl within c.index-edges-next.is)

pub walk-preserved : goal.walk-preserved
walk-preserved c =
    let edges = c.args.edges.now in
    let next = c.in-Some.next in
    let within = place_within edges next c.walk.to c.in-Some.ensures.1.ends in
    let at = slice_get_read edges (length edges) next c.index-edges-next.result refl within c.index-edges-next.is in
    let to = c.other_end-to-in-Some.result in
    subst (λ (ps : List Coord). IsWalking edges c.args.from c.args.first ps c.push-in-Some-2.new.self.items to next) (sym c.in_ok-push-4.ensures.items)
    (subst (λ (ks : List ℕ). IsWalking edges c.args.from c.args.first (c.walk.points.items ++ to ∷ []) ks to next) (sym c.in_ok-push-5.ensures.items)
    (walk_more edges c.requires.ascending c.args.from c.args.first c.walk.points.items c.walk.passed.items c.walk.to c.walk.last c.walk.invariant next c.in-Some.ensures.1 c.in-Some.ensures.0 c.index-edges-next.result at to
    c.other_end-to-in-Some.ensures))

pub walk-smaller : goal.walk-smaller
walk-smaller c =
    let bound = walk_bound c.args.edges.now c.requires.ascending c.args.from c.args.first c.push-in-Some.new.self.items c.push-in-Some-2.new.self.items c.other_end-to-in-Some.result c.in-Some.next (walk-preserved c) in
    let more = ap length c.in_ok-push-5.ensures.items in
    omega (arith, bound, simp length-append at more)

pub returns : goal.returns
returns c =
    walk_ended c.args.edges.now c.requires.ascending c.args.from c.args.first (record { points = c.walk.points; edges = c.walk.passed; to = c.walk.to; last = c.walk.last }) c.walk.invariant
    (ended c.args.edges.now c.args.from c.walk.to c.walk.last c.onward.result c.onward.ensures c.in_default.not-Some)
