-- Each edge stands in a line: a walk from it ends at nodes or comes back. And a walk that comes back has seen all points of its loop.
use mathlib.Core.List.{[], ◌∷◌}
use Rattle.std.proofs.Common.{◌≡◌, ◌⊎◌, refl, sym, ◌∙◌, ap, subst, ℕ, suc, ◌+◌, ◌-◌, ◌<◌, ◌≤◌, ◌||◌, ◌↔◌, false, List, length, get_or, inl, inr, ◌≢◌, arith}
use Rattle.std.specs.Prelude.{All, AllPairs, Contains, Some, slice_get, unwrap_or}
use Rattle.std.proofs.lemmas.Bool.{true≢false, or_cases, cases_lt}
use Rattle.std.proofs.lemmas.List.{get_or_default}
use Rattle.std.proofs.lemmas.List.Elements.{All-contains}
use Rattle.std.proofs.lemmas.Option.{slice_get_within, get_or_from_slice_get}
use Rattle.cov_types.specs.declared.coord.Coord.{Coord}
use Rattle.cov_types.specs.declared.seg.Seg.{Seg}
use Rattle.cov_types.specs.Coord.{is_before, is_same_coord}
use Rattle.cov_types.specs.Seg.{IsSegBetween, is_seg_before}
use Rattle.cov_types.proofs.Equal.{Decides-same_coords}
use Rattle.cov_types.proofs.Order.{same_from_neither}
use Rattle.cov_types.proofs.SegOrder.{is_seg_before-irrefl}
use Rattle.plane.specs.Snapping.{chain_edges}
use Rattle.arrangement.specs.Noding.{IsAscending}
use Rattle.greedy_run.specs.Laws.{IsOnlyLine, IsOnlyPlace}
use Rattle.greedy_run.specs.Lines.{degree, IsPathAlong, IsLeastOfLoop, IsNode, IsLine, IsTrail, EndsAt, IsLoop, IsWalked}
use Rattle.greedy_run.proofs.Ended.{back_to_node}
use Rattle.greedy_run.proofs.Listed.{from_place, length-from_place, at_whole, walk, point_is, distinct, edge_there, line_of}
use Rattle.greedy_run.proofs.Loops.{least_at, IsLoopBy, least_is, reaches_least, loop_thread, has_first}
use Rattle.greedy_run.proofs.OneLine.{common_edge, one_place, step_of, IsStepOf, at, along, edge_at}
use Rattle.greedy_run.proofs.Trails.{IsTrailBy, IsWalkEnd, walk_at, walk_ends, trail_bound, some_passes}

some_is : {X : Type 0} (a b : X) → Some a ≡ Some b → a ≡ b
some_is a b h = ap (λ o. unwrap_or o a) h

ascending_distinct : (edges : List Seg) → IsAscending edges → AllPairs (λ e f. ¬ (e ≡ f)) edges
ascending_distinct edges up i j d before within same =
    true≢false (sym (up i j d before within) ∙ ap (λ (s : Seg). is_seg_before s (get_or edges j d)) same ∙ is_seg_before-irrefl (get_or edges j d))

-- ---- lines

module _ (edges : List Seg) (ascending : IsAscending edges) where
  abbrev apart : AllPairs (λ e f. ¬ (e ≡ f)) edges
  apart = ascending_distinct edges ascending

  HasLine : Seg → Type 0
  HasLine e = (points : List Coord) × (IsLine edges points × Contains (chain_edges points) e)

  module _ (e : Seg) (has : Contains edges e) where
    abbrev f : ℕ → Coord
    f k = walk_at edges e.lo e.hi k

    end : (m : ℕ) × IsWalkEnd edges 1 f m
    end = walk_ends edges apart e.lo e.hi e has (inl (refl, refl))

    by_end : (m : ℕ) → IsWalkEnd edges 1 f m → (degree edges (f m) ≢ 2) ⊎ ((degree edges (f m) ≡ 2) × (f m ≡ f 0)) → HasLine e
    unfolding HasLine
    by_end m w (inl other) =
        let b = back_to_node edges apart m f w.trail other in
        let line = line_of edges b.0 (λ k. walk_at edges (f m) (f (m - 1)) k) b.1.thread in
        let far = b.1.further in
        let some = w.further in
        (line.0, (line.1.line, line.1.has (m - 1) e (omega arith) (inr (sym b.1.next, sym b.1.here))))
    by_end m w (inr back) =
        let loop : IsLoopBy edges m f = record { trail = w.trail; back = back.1; two = subst (λ q. degree edges q ≡ 2) back.1 back.0 } in
        let least = least_at m f w.further in
        let first = has_first edges m f loop least.0 least.1 in
        let line = line_of edges m _ (loop_thread edges m f loop least.0 least.1) in
        (line.0, (line.1.line, line.1.has first.k e first.within (inl (sym first.here, sym first.next))))

    has_line : HasLine e
    has_line = by_end end.0 end.1 end.1.ends

  pub edge_line : (e : Seg) → Contains edges e → (points : List Coord) × IsOnlyLine edges e points
  unfolding HasLine
  edge_line e has =
      let it = has_line e has in
      (it.0, record { line = it.1.0; among = it.1.1; only = λ others line among. common_edge edges it.0 others it.1.0 line e it.1.1 among })

  -- ---- vertices

  on_line : (v : Coord) (e : Seg) → ((v ≡ e.lo) ⊎ (v ≡ e.hi)) → Contains edges e → (points : List Coord) × ((i : ℕ) × (IsLine edges points × (slice_get points i ≡ Some v)))
  on_line v e is has =
      let it = edge_line e has in
      let line = it.1.line in
      let step = step_of edges it.0 line.walk e it.1.among in
      by it.0 line step step.between is
    where
      by : (points : List Coord) → IsLine edges points → (s : IsStepOf edges points e) → IsSegBetween s.p s.q e → ((v ≡ e.lo) ⊎ (v ≡ e.hi)) → (ps : List Coord) × ((i : ℕ) × (IsLine edges ps × (slice_get ps i ≡ Some v)))
      by points line s (inl b) (inl lo) = (points, (s.k, (line, s.at_p ∙ ap Some (sym b.0 ∙ sym lo))))
      by points line s (inl b) (inr hi) = (points, (suc s.k, (line, s.at_q ∙ ap Some (sym b.1 ∙ sym hi))))
      by points line s (inr b) (inl lo) = (points, (suc s.k, (line, s.at_q ∙ ap Some (sym b.0 ∙ sym lo))))
      by points line s (inr b) (inr hi) = (points, (s.k, (line, s.at_p ∙ ap Some (sym b.1 ∙ sym hi))))

  pub vertex_line : (v : Coord) → 1 ≤ degree edges v → ¬ IsNode edges v → (points : List Coord) × ((i : ℕ) × IsOnlyPlace edges v points i)
  vertex_line v some no_node =
      let found = some_passes (λ e. is_same_coord e.lo v || is_same_coord e.hi v) edges some in
      let is : (v ≡ found.0.lo) ⊎ (v ≡ found.0.hi) = elim (or_cases _ _ found.1.1) [
        | inl lo ↦ inl (sym ((Decides-same_coords found.0.lo v).0 lo))
        | inr hi ↦ inr (sym ((Decides-same_coords found.0.hi v).0 hi))
      ] in
      let it = on_line v found.0 is found.1.0 in
      (it.0, (it.1.0, record { line = it.1.1.0; at = it.1.1.1; only = λ others j line at. one_place edges it.0 others it.1.1.0 line v no_node it.1.0 j it.1.1.1 at }))

  -- ---- walks

  pub trail_in : (n : ℕ) (f : ℕ → Coord) → IsTrailBy edges n f → IsTrail edges (from_place f 0 n)
  trail_in n f h =
      let count = length-from_place f 0 n in
      record {
        long = (let some = h.some in omega arith);
        walk = walk edges n f h.step h.distinct;
        distinct = distinct edges n f h.step h.distinct;
        between = λ k p some less at. subst (λ q. degree edges q ≡ 2) (point_is edges n f h.step h.distinct k p at).1 (h.between k some (omega (arith, count)));
      }

  pub walk_done : (e : Seg) → Contains edges e → (points : List Coord) × IsWalked edges e points
  walk_done e has = by (end e has).0 (end e has).1 (end e has).1.ends
    where
      g : ℕ → Coord
      g k = walk_at edges e.lo e.hi k

      ends_at_last : (m : ℕ) (q : Coord) → EndsAt (from_place g 0 m) q → g m ≡ q
      ends_at_last m q at =
          let count = length-from_place g 0 m in
          some_is (g m) q (sym (at_whole g m m (omega arith)) ∙ (let z : m ≡ length (from_place g 0 m) - 1 = omega (arith, count) in ap (slice_get (from_place g 0 m)) z) ∙ at)

      ends_there : (m : ℕ) → EndsAt (from_place g 0 m) (g m)
      ends_there m =
          let count = length-from_place g 0 m in
          (let z : length (from_place g 0 m) - 1 ≡ m = omega (arith, count) in ap (slice_get (from_place g 0 m)) z) ∙ at_whole g m m (omega arith)

      by : (m : ℕ) (w : IsWalkEnd edges 1 g m) → (degree edges (g m) ≢ 2) ⊎ ((degree edges (g m) ≡ 2) × (g m ≡ g 0)) → (points : List Coord) × IsWalked edges e points
      by m w ends = (
        from_place g 0 m,
        record {
          trail = trail_in m g w.trail;
          first = edge_there edges m g w.trail.step w.trail.distinct 0 e w.further (inl (refl, refl));
          done = elim ends [
            | inl other ↦ inr (λ q at two. other (subst (λ p. degree edges p ≡ 2) (sym (ends_at_last m q at)) two))
            | inr back ↦ inl (record {
              trail = trail_in m g w.trail;
              at = g 0;
              first = refl;
              last = ends_there m ∙ ap Some back.1;
              two = subst (λ q. degree edges q ≡ 2) back.1 back.0;
            })
          ];
        },
      )

-- ---- trails and loops as lists

module _ (edges : List Seg) (points : List Coord) where
  pub trail_by : (h : IsTrail edges points) (d : Coord) → IsTrailBy edges (length points - 1) (λ k. get_or points k d)
  trail_by h d = record {
    some = (let long = h.long in omega arith);
    step = along edges points h.walk d;
    distinct = λ j k e less within s t. (
        let at_j = edge_at edges points h.walk d j e (omega arith) s in
        let at_k = edge_at edges points h.walk d k e within t in
        h.distinct j k e less (slice_get_within (chain_edges points) k e at_k) (get_or_from_slice_get (chain_edges points) j e e at_j ∙ sym (get_or_from_slice_get (chain_edges points) k e e at_k)));
    between = λ k some less. h.between k (get_or points k d) some (omega arith) (at edges points h.walk d k (omega arith));
  }

  -- any point, for reading the list
  some_point : IsTrail edges points → Coord
  some_point h = by points h.long
    where
      by : (ps : List Coord) → 2 ≤ length ps → Coord
      by [] long = absurd (omega arith)
      by (p ∷ ps) long = p

  pub bound : IsTrail edges points → length points ≤ length edges + 1
  bound h = let n = trail_bound edges (length points - 1) (λ k. get_or points k (some_point h)) (trail_by h (some_point h)) in omega arith

  module _ (h : IsLoop edges points) where
    abbrev place : ℕ → Coord
    place k = get_or points k h.at

    pub loop_by : IsLoopBy edges (length points - 1) place
    loop_by = record {
      trail = trail_by h.trail h.at;
      back = get_or_from_slice_get points (length points - 1) h.at h.at h.last ∙ sym (get_or_from_slice_get points 0 h.at h.at h.first);
      two = subst (λ q. degree edges q ≡ 2) (sym (get_or_from_slice_get points 0 h.at h.at h.first)) h.two;
    }

    -- each point of the list is at a place before the last
    place_of : (q : Coord) → Contains points q → (k : ℕ) × ((k < length points - 1) × (place k ≡ q))
    place_of q (k, within, is) =
        let long = h.trail.long in
        let here = get_or_default points k h.at q within ∙ is in
        elim (cases_lt k (length points - 1)) [
          | inl less ↦ (k, (less, here))
          | inr last ↦ (0, (omega arith, sym loop_by.back ∙ (let z : length points - 1 ≡ k = omega arith in ap place z) ∙ here))
        ]

    its : (k : ℕ) → k < length points - 1 → Contains points (place k)
    its k less = (k, omega arith, get_or_default points k (place k) h.at (omega arith))

    none_before : (p : Coord) → (i : ℕ) → i < length points - 1 → place i ≡ p → IsLeastOfLoop edges p → (q : Coord) → Contains points q → is_before q p ≡ false
    none_before p i less here loop q has =
        let long = h.trail.long in
        let n = length points - 1 in
        let least = least_at n place (omega arith) in
        let seen : is_before (place least.0) p ≡ false = reaches_least edges n place loop_by least.0 least.1 i less (λ r. is_before r p ≡ false)
        (λ walk path r in_walk. (All-contains (λ s. (degree edges s ≡ 2) × (is_before s p ≡ false)) (p ∷ walk) r (loop walk (subst (λ s. IsPathAlong edges (s ∷ walk)) here path)) (subst (λ s. Contains (s ∷ walk) r) here in_walk)).1) in
        let same : place least.0 ≡ p = same_from_neither (place least.0) p seen (subst (λ s. is_before s (place least.0) ≡ false) here (least.1.least i less)) in
        let there = place_of q has in
        subst (λ s. is_before q s ≡ false) same (subst (λ s. is_before s (place least.0) ≡ false) there.1.1 (least.1.least there.0 there.1.0))

    pub least_of_loop : (p : Coord) → Contains points p → IsLeastOfLoop edges p ↔ All (λ q. is_before q p ≡ false) points
    least_of_loop p has =
        let at_p = place_of p has in (
          λ loop. (λ k d within. none_before p at_p.0 at_p.1.0 at_p.1.1 loop (get_or points k d) (k, within, get_or_default points k (get_or points k d) d within)),
          λ none. subst (IsLeastOfLoop edges) at_p.1.1 (least_is edges (length points - 1) place loop_by at_p.0 (record {
            within = at_p.1.0;
            least = λ j less. subst (λ s. is_before (place j) s ≡ false) (sym at_p.1.1) (All-contains (λ q. is_before q p ≡ false) points (place j) none (its j less));
          })),
        )
