-- Walks along whole lines.
use Rattle.std.proofs.Common.{◌≡◌, ◌≢◌, ◌⊎◌, refl, sym, ◌∙◌, ap, subst, ℕ, suc, ◌+◌, ◌-◌, ◌<◌, ◌≤◌, ◌↔◌, false, List, length, get_or, IsTrue, Some, inl, inr, arith}
use Rattle.std.specs.Prelude.{All, Contains, reverse, slice_get}
use Rattle.std.specs.Ordering.{is_le}
use Rattle.std.proofs.lemmas.Bool.{cases_order, true≢false, false_from_ne_true}
use Rattle.std.proofs.lemmas.List.{same_lists}
use Rattle.std.proofs.lemmas.Option.{slice_get_within, slice_get-get_or, get_or_from_slice_get, same_Some}
use Rattle.cov_types.specs.declared.coord.Coord.{Coord}
use Rattle.cov_types.specs.declared.seg.Seg.{Seg}
use Rattle.cov_types.specs.Coord.{is_before, points_cmp}
use Rattle.cov_types.specs.Seg.{IsSegBetween, is_seg_before}
use Rattle.cov_types.proofs.Order.{is_before-irrefl, is_before-trans, is_before-asymm}
use Rattle.cov_types.proofs.SegOrder.{cases_seg_before}
use Rattle.plane.specs.Snapping.{chain_edges}
use Rattle.arrangement.specs.Noding.{IsAscending}
use Rattle.greedy_run.specs.Lines.{degree, IsNode, IsLine}
use Rattle.greedy_run.proofs.Ended.{open_thread, back_to_node}
use Rattle.greedy_run.proofs.Listed.{from_place, length-from_place, at_whole, walk, point_is, has_edge, line_in, turned, line_of}
use Rattle.greedy_run.proofs.Loops.{IsLeastAt, least_at, IsLoopBy, loop_thread, has_step, g_low}
use Rattle.greedy_run.proofs.OneLine.{IsStepOf, step_of, common_edge, along, edge_at}
use Rattle.greedy_run.proofs.Threads.{IsThread, turned_thread, seg_turned}
use Rattle.greedy_run.proofs.Trails.{IsTrailBy}
use Rattle.greedy_run.proofs.Walks.{trail_by}
use Rattle.line_walk.specs.declared.walk.Walk.{Walk}
use Rattle.line_walk.specs.Line.{IsFirstOfLine, IsLesserWay, IsWholeWalk}
use Rattle.line_walk.specs.Walk.{IsEdgeWalk, IsAtPlaces}
use Rattle.line_walk.proofs.LesserWays.{some_lesser}
use Rattle.line_walk.proofs.Pushed.{slice_get_among}
use Rattle.line_walk.proofs.Walking.{edges_apart, places_apart}

-- ---- a list as points by places

pub listed : (points : List Coord) (d : Coord) → 1 ≤ length points → from_place (λ k. get_or points k d) 0 (length points - 1) ≡ points
listed points d some =
    let count = length-from_place (λ k. get_or points k d) 0 (length points - 1) in
    same_lists (from_place (λ k. get_or points k d) 0 (length points - 1)) points (omega (arith, count)) (λ k x within. (
    let inside : k < length points = omega (arith, within, count) in
    get_or_from_slice_get (from_place (λ k. get_or points k d) 0 (length points - 1)) k (get_or points k d) x (at_whole (λ k. get_or points k d) (length points - 1) k (omega (arith, inside)))
    ∙ sym (get_or_from_slice_get points k (get_or points k d) x (slice_get-get_or points k d inside))))

pub between_same : (a b c d : Coord) (e : Seg) → c ≡ a → d ≡ b → IsSegBetween a b e → IsSegBetween c d e
between_same a b c d e p q s = subst (λ x. IsSegBetween x d e) (sym p) (subst (λ y. IsSegBetween a y e) (sym q) s)

-- ---- the edges of a thread, in either direction

module _ (edges : List Seg) where
  -- the edge stands between two neighbours
  IsStep : (n : ℕ) (f : ℕ → Coord) → Seg → Type 0
  IsStep n f e = (k : ℕ) × ((k < n) × IsSegBetween (f k) (f (suc k)) e)

  module _ (n : ℕ) (f : ℕ → Coord) (h : IsThread edges n f) where
    step_is : (e : Seg) → Contains (chain_edges (from_place f 0 n)) e → IsStep n f e
    unfolding IsStep
    step_is e has = by (step_of edges (from_place f 0 n) (walk edges n f h.step h.distinct) e has)
      where
        by : IsStepOf edges (from_place f 0 n) e → (k : ℕ) × ((k < n) × IsSegBetween (f k) (f (suc k)) e)
        by s =
            let here = point_is edges n f h.step h.distinct s.k s.p s.at_p in
            let next = point_is edges n f h.step h.distinct (suc s.k) s.q s.at_q in
            let inside = next.0 in
            (s.k, (omega arith, subst (λ a. IsSegBetween a (f (suc s.k)) e) (sym here.1) (subst (λ b. IsSegBetween s.p b e) (sym next.1) s.between)))

    has_step_edge : (e : Seg) → IsStep n f e → Contains (chain_edges (from_place f 0 n)) e
    unfolding IsStep
    has_step_edge e (k, it) = has_edge edges n f h.step h.distinct k e it.0 it.1

  -- from the end to the beginning
  turned_step : (n : ℕ) (f : ℕ → Coord) (e : Seg) → IsStep n (λ k. f (n - k)) e → IsStep n f e
  unfolding IsStep
  turned_step n f e (k, it) =
      let less = it.0 in
      let z : n - k ≡ suc (n - suc k) = omega arith in
      (n - suc k, (omega arith, subst (λ i. IsSegBetween (f (n - suc k)) (f i) e) z (seg_turned (f (n - k)) (f (n - suc k)) e it.1)))

  turned_back : (n : ℕ) (f : ℕ → Coord) (e : Seg) → IsStep n f e → IsStep n (λ k. f (n - k)) e
  unfolding IsStep
  turned_back n f e (k, it) =
      let less = it.0 in
      let here : suc k ≡ n - (n - suc k) = omega arith in
      let next : k ≡ n - suc (n - suc k) = omega arith in
      (n - suc k, (omega arith, subst (λ i. IsSegBetween (f i) (f (n - suc (n - suc k))) e) here (subst (λ i. IsSegBetween (f (suc k)) (f i) e) next (seg_turned (f k) (f (suc k)) e it.1))))

  -- ---- the lesser of the two directions is a line with the same edges

  module _ (n : ℕ) (f : ℕ → Coord) (h : IsThread edges n f) where
    abbrev ps : List Coord
    ps = from_place f 0 n

    pub record IsLineOver (lesser : List Coord) : Type 0 where
      pub line : IsLine edges lesser
      pub chain : (e : Seg) → Contains (chain_edges lesser) e ↔ Contains (chain_edges ps) e

    turned_line : IsTrue (is_le (points_cmp (reverse ps) (reverse (reverse ps)))) → IsLineOver (reverse ps)
    turned_line direction =
        let back = turned_thread edges n f h in
        subst IsLineOver (turned edges n f h) (record {
          line = line_in edges n (λ k. f (n - k)) back (subst (λ qs. IsTrue (is_le (points_cmp qs (reverse qs)))) (sym (turned edges n f h)) direction);
          chain = λ e. (λ has. has_step_edge n f h e (turned_step n f e (step_is n (λ k. f (n - k)) back e has)), λ has. has_step_edge n (λ k. f (n - k)) back e (turned_back n f e (step_is n f h e has)));
        })

    pub line_over : (lesser : List Coord) → IsLesserWay ps lesser → IsLineOver lesser
    line_over lesser way = by way.either
      where
        by : (lesser ≡ ps) ⊎ (lesser ≡ reverse ps) → IsLineOver lesser
        by (inl is) = subst IsLineOver (sym is) (record { line = line_in edges n f h (subst (λ qs. IsTrue (is_le (points_cmp qs (reverse qs)))) is way.direction); chain = λ e. (λ has. has, λ has. has) })
        by (inr is) = subst IsLineOver (sym is) (turned_line (subst (λ qs. IsTrue (is_le (points_cmp qs (reverse qs)))) is way.direction))

    -- so a walk along it is one along a whole line
    pub whole_by : (points : List Coord) → ps ≡ points → (places : List ℕ) → ((e : Seg) → Contains (chain_edges points) e ↔ IsAtPlaces edges places e) → All (λ k. k < length edges) places → (first : ℕ) → Contains places first → IsWholeWalk edges first points places
    whole_by points is places passed within first has lesser way =
        let over = line_over lesser (subst (λ qs. IsLesserWay qs lesser) (sym is) way) in
        record {
          line = over.line;
          passed = λ e. (λ among. (passed e).0 (subst (λ qs. Contains (chain_edges qs) e) is ((over.chain e).0 among)), λ placed. (over.chain e).1 (subst (λ qs. Contains (chain_edges qs) e) (sym is) ((passed e).1 placed)));
          within = within;
          has_first = has;
        }

  -- the same points by places
  thread_same : (n : ℕ) (f g : ℕ → Coord) → ((k : ℕ) → k ≤ n → g k ≡ f k) → IsThread edges n g → IsThread edges n f
  thread_same n f g same h = record {
    some = h.some;
    step = λ k less. (let s = h.step k less in (s.0, (s.1.0, subst (λ a. IsSegBetween a (f (suc k)) s.0) (same k (omega arith)) (subst (λ b. IsSegBetween (g k) b s.0) (same (suc k) (omega arith)) s.1.1))));
    distinct = λ j k e less within s t. h.distinct j k e less within (at j (omega arith) e s) (at k within e t);
    from = subst (IsNode edges) (same 0 (omega arith)) h.from;
    to = subst (IsNode edges) (same n (omega arith)) h.to;
    between = λ k some less node. h.between k some less (subst (IsNode edges) (sym (same k (omega arith))) node);
  }
    where
      at : (k : ℕ) → k < n → (e : Seg) → IsSegBetween (f k) (f (suc k)) e → IsSegBetween (g k) (g (suc k)) e
      at k less e s = subst (λ a. IsSegBetween a (g (suc k)) e) (sym (same k (omega arith))) (subst (λ b. IsSegBetween (f k) b e) (sym (same (suc k) (omega arith))) s)

-- ---- a walk that is back

module _ (edges : List Seg) (ascending : IsAscending edges) (first : ℕ) (e : Seg) (at_first : slice_get edges first ≡ Some e) where
  -- the edges from the first one on have no end before its lesser end
  not_before : (k : ℕ) (g : Seg) → slice_get edges k ≡ Some g → first ≤ k → is_before g.lo e.lo ≡ false
  not_before k g at from = elim (cases_order first k) [
    | inl same ↦ subst (λ (s : Seg). is_before s.lo e.lo ≡ false) (same_Some e g (sym at_first ∙ ap (slice_get edges) same ∙ at)) (is_before-irrefl e.lo)
    | inr rest ↦ elim rest [
      | inl less ↦ (
          let inside = slice_get_within edges k g at in
          let before : IsTrue (is_seg_before e g) = subst (λ (s : Seg). IsTrue (is_seg_before e s)) (get_or_from_slice_get edges k g e at) (subst (λ (s : Seg). IsTrue (is_seg_before s (get_or edges k e))) (get_or_from_slice_get edges first e e at_first) (ascending first k e less inside)) in
          elim (cases_seg_before e g before) [
            | inl lower ↦ is_before-asymm e.lo g.lo lower
            | inr tied ↦ subst (λ p. is_before p e.lo ≡ false) tied.0 (is_before-irrefl e.lo)
          ])
      | inr more ↦ absurd (omega arith)
    ]
  ]

  end_not_before : (g : Seg) (a b : Coord) → IsSegBetween a b g → is_before g.lo e.lo ≡ false → is_before a e.lo ≡ false
  end_not_before g a b (inl s) h = subst (λ p. is_before p e.lo ≡ false) s.0 h
  end_not_before g a b (inr s) h =
      subst (λ p. is_before p e.lo ≡ false) s.1 (false_from_ne_true (is_before g.hi e.lo) (λ t. true≢false (sym (is_before-trans g.lo g.hi e.lo g.ordered t) ∙ h)))

  module _ (is_first : IsFirstOfLine edges first) (n : ℕ) (f : ℕ → Coord) (loop : IsLoopBy edges n f) (begins : IsSegBetween (f 0) (f 1) e) (lo : f 0 ≡ e.lo) where
    some : 1 ≤ n
    some = loop.trail.some

    least_before : (l : ℕ) → IsLeastAt n f l → (j : ℕ) → j < n → is_before (f j) (f 0) ≡ false
    least_before l is j less =
        let thread = loop_thread edges n f loop l is in
        let line = line_of edges n _ thread in
        let zeroth = has_step edges n f loop l is 0 (omega (arith, some)) in
        let there = has_step edges n f loop l is j less in
        let step = loop.trail.step j less in
        let has_e = line.1.has zeroth.k e zeroth.within (between_same (f 0) (f 1) _ _ e zeroth.here zeroth.next begins) in
        let has_g = line.1.has there.k step.0 there.within (between_same (f j) (f (suc j)) _ _ step.0 there.here there.next step.1.1) in
        let (k, inside, at) = step.1.0 in
        let at_k : slice_get edges k ≡ Some step.0 = slice_get-get_or edges k step.0 inside ∙ ap Some at in
        let from : first ≤ k = elim (cases_order first k) [
          | inl same ↦ omega arith
          | inr apart ↦ elim apart [ inl low ↦ omega arith | inr high ↦ absurd (is_first line.0 e step.0 k line.1.line at_first at_k high has_e has_g) ]
        ] in
        subst (λ q. is_before (f j) q ≡ false) (sym lo) (end_not_before step.0 (f j) (f (suc j)) step.1.1 (not_before k step.0 at_k from))

    is_least : IsLeastAt n f 0
    is_least = let l = least_at n f some in record { within = some; least = least_before l.0 l.1 }

    pub loop_from_least : IsThread edges n f
    loop_from_least = thread_same edges n f _ (λ k within. g_low edges n f loop 0 is_least k (omega arith) ∙ (let z : 0 + k ≡ k = omega arith in ap f z)) (loop_thread edges n f loop 0 is_least)

-- ---- what a walk says by places

module _ (edges : List Seg) (ascending : IsAscending edges) (from : Coord) (first : ℕ) (w : Walk) (h : IsEdgeWalk edges from first w) where
  abbrev points : List Coord
  points = w.points.items

  abbrev n : ℕ
  n = length points - 1

  abbrev f : ℕ → Coord
  f k = get_or points k from

  pub trail_here : IsTrailBy edges n f
  trail_here = trail_by edges points h.trail from

  first_is : f 0 ≡ from
  first_is = get_or_from_slice_get points 0 from from h.begins

  last_is : f n ≡ w.to
  last_is = get_or_from_slice_get points n w.to from h.ends

  -- the edge at a place of the chain
  edge_by : (k : ℕ) (e : Seg) → k < n → slice_get (chain_edges points) k ≡ Some e → IsSegBetween (f k) (f (suc k)) e
  edge_by k e less at =
      let it = along edges points h.trail.walk from k less in
      subst (IsSegBetween (f k) (f (suc k))) (same_Some it.0 e (sym (edge_at edges points h.trail.walk from k it.0 less it.1.1) ∙ at)) it.1.1

  pub points_listed : from_place f 0 n ≡ points
  points_listed = let long = h.trail.long in listed points from (omega arith)

  -- a place of its edges has the edge
  placed_at : (k : ℕ) (e : Seg) → slice_get edges k ≡ Some e → Contains (chain_edges points) e → Contains w.edges.items k
  placed_at k e at has = by ((h.passed e).0 has)
    where
      by : IsAtPlaces edges w.edges.items e → Contains w.edges.items k
      by (j, it) = elim (cases_order j k) [
        | inl same ↦ subst (Contains w.edges.items) same it.0
        | inr apart ↦ absurd (places_apart edges ascending j k e e it.1 at (λ same. elim apart [ inl low ↦ omega (arith, same, low) | inr high ↦ omega (arith, same, high) ]) refl)
      ]

  -- a walk that is back at the lesser end of the first edge of its line
  pub whole_back : w.to ≡ from → IsFirstOfLine edges first → (e : Seg) → slice_get edges first ≡ Some e → from ≡ e.lo → IsWholeWalk edges first points w.edges.items
  whole_back back is_first e at lo = whole_by edges n f thread points points_listed w.edges.items h.passed h.within first (placed_at first e at (slice_get_among (chain_edges points) 0 e along_it))
    where
      along_it : slice_get (chain_edges points) 0 ≡ Some e
      along_it = h.along_first e at

      some : 1 ≤ n
      some = trail_here.some

      f_back : f n ≡ f 0
      f_back = last_is ∙ back ∙ sym first_is

      thread : IsThread edges n f
      thread = elim (cases_order (degree edges (f 0)) 2) [
        | inl two ↦ loop_from_least edges ascending first e at is_first n f (record { trail = trail_here; back = f_back; two = two }) (edge_by 0 e some along_it) (first_is ∙ lo)
        | inr apart ↦ (
            let other : degree edges (f 0) ≢ 2 = λ two. elim apart [ inl low ↦ omega (arith, two, low) | inr high ↦ omega (arith, two, high) ] in
            open_thread edges n f trail_here other (subst (λ q. degree edges q ≢ 2) (sym f_back) other))
      ]

  pub ended_other : w.to ≢ from → degree edges w.to ≢ 2
  ended_other apart = elim h.done [ inl back ↦ absurd (apart back) | inr other ↦ other ]

-- ---- there, and back to the other end

module _ (edges : List Seg) (ascending : IsAscending edges) (from : Coord) (first : ℕ) (there : Walk) (h : IsEdgeWalk edges from first there) (apart : there.to ≢ from)
    (back : Walk) (t : IsEdgeWalk edges there.to there.last back) (e : Seg) (at_first : slice_get edges first ≡ Some e)
  where
    abbrev m : ℕ
    m = length back.points.items - 1

    abbrev r : ℕ → Coord
    r k = get_or back.points.items k there.to

    other : degree edges there.to ≢ 2
    other = ended_other edges ascending from first there h apart

    back_other : degree edges back.to ≢ 2
    back_other = elim t.done [ inl same ↦ subst (λ q. degree edges q ≢ 2) (sym same) other | inr it ↦ it ]

    thread_back : IsThread edges m r
    thread_back =
        open_thread edges m r (trail_here edges ascending there.to there.last back t) (subst (λ q. degree edges q ≢ 2) (sym (first_is edges ascending there.to there.last back t)) other)
        (subst (λ q. degree edges q ≢ 2) (sym (last_is edges ascending there.to there.last back t)) back_other)

    back_trail : IsTrailBy edges m r
    back_trail = trail_here edges ascending there.to there.last back t

    -- the line of the walk back has the first edge
    first_on : Contains (chain_edges back.points.items) e
    first_on =
        let k = length there.points.items - 1 in
        let q = λ (i : ℕ). get_or there.points.items i from in
        let trail = trail_here edges ascending from first there h in
        let some = trail.some in
        let end = back_to_node edges (edges_apart edges ascending) k q trail (subst (λ p. degree edges p ≢ 2) (sym (last_is edges ascending from first there h)) other) in
        let line = line_of edges end.0 _ end.1.thread in
        let far = end.1.further in
        let (last, has_last) = h.last in
        let place : length there.points.items - 2 ≡ k - 1 = omega arith in
        let next : suc (k - 1) ≡ k = omega arith in
        let last_step : IsSegBetween (q (k - 1)) (q k) last = subst (λ i. IsSegBetween (q (k - 1)) (q i) last) next
        (edge_by edges ascending from first there h (k - 1) last (omega arith) (subst (λ i. slice_get (chain_edges there.points.items) i ≡ Some last) place (h.along_last last has_last.0))) in
        let first_step : IsSegBetween (q 0) (q 1) e = edge_by edges ascending from first there h 0 e (omega arith) (h.along_first e at_first) in
        let has_e = line.1.has (k - 1) e (omega arith) (between_same (q 1) (q 0) _ _ e end.1.here end.1.next (seg_turned (q 0) (q 1) e first_step)) in
        let has_it = line.1.has 0 last (omega arith) (seg_turned (q (k - 1)) (q k) last last_step) in
        let lesser = some_lesser (from_place r 0 m) in
        let over = line_over edges m r thread_back lesser.0 lesser.1 in
        let of_back = back_trail.some in
        let begins : IsSegBetween (r 0) (r 1) last = edge_by edges ascending there.to there.last back t 0 last (omega arith) (t.along_first last has_last.0) in
        let same = common_edge edges line.0 lesser.0 line.1.line over.line last has_it ((over.chain last).1 (has_edge edges m r thread_back.step thread_back.distinct 0 last (omega arith) begins)) in
        subst (λ qs. Contains (chain_edges qs) e) (points_listed edges ascending there.to there.last back t) ((over.chain e).0 (subst (λ qs. Contains (chain_edges qs) e) same has_e))

    pub whole_there_and_back : IsWholeWalk edges first back.points.items back.edges.items
    whole_there_and_back =
        whole_by edges m r thread_back back.points.items (points_listed edges ascending there.to there.last back t) back.edges.items t.passed t.within first
        (placed_at edges ascending there.to there.last back t first e at_first first_on)
