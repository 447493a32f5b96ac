-- A trail that ends at points at which other than two edges meet is a path from node to node.
use mathlib.Core.List.{◌∷◌}
use Rattle.std.proofs.Common.{◌≡◌, refl, sym, ◌∙◌, ap, subst, ℕ, zero, suc, ◌+◌, ◌-◌, ◌<◌, ◌≤◌, ◌||◌, false, List, inl, inr, ◌≢◌, arith}
use Rattle.std.specs.Prelude.{AllPairs, Contains}
use Rattle.std.proofs.lemmas.Bool.{cases_lt}
use Rattle.std.proofs.lemmas.List.Elements.{All-contains}
use Rattle.cov_types.specs.declared.coord.Coord.{Coord}
use Rattle.cov_types.specs.declared.seg.Seg.{Seg}
use Rattle.cov_types.specs.Coord.{is_before, is_same_coord}
use Rattle.cov_types.specs.Seg.{IsSegBetween}
use Rattle.greedy_run.specs.Lines.{degree, IsNode}
use Rattle.greedy_run.proofs.Listed.{passed_on}
use Rattle.greedy_run.proofs.Threads.{IsThread, some_counted, three_counted, seg_turned, other_end, ends_at}
use Rattle.greedy_run.proofs.Trails.{IsTrailBy, IsWalkEnd, walk_at, walk_ends, coord_or}

module _ (edges : List Seg) where
  -- an end of an edge at which other than two meet is a node
  pub end_node : (q c : Coord) (e : Seg) → Contains edges e → IsSegBetween q c e → degree edges q ≢ 2 → IsNode edges q
  end_node q c e has s other = record { vertex = some_counted (λ f. is_same_coord f.lo q || is_same_coord f.hi q) edges e has (ends_at q c e s); node = inl other }

  -- a point at which two edges meet goes on in one way
  pub one_way_on : (p q c d : Coord) (e f g : Seg) → degree edges q ≡ 2 → Contains edges e → Contains edges f → Contains edges g → IsSegBetween p q e → IsSegBetween q c f → IsSegBetween q d g
      → e ≢ f → e ≢ g → c ≡ d
  one_way_on p q c d e f g two has_e has_f has_g s t u ef eg = elim (coord_or c d) [
    | inl same ↦ same
    | inr differ ↦ (
        let apart : f ≢ g = λ same. differ (other_end q c d g (subst (λ h. IsSegBetween q c h) same t) u) in
        let three = three_counted (λ e. is_same_coord e.lo q || is_same_coord e.hi q) edges e f g has_e has_f has_g (ends_at q p e (seg_turned p q e s)) (ends_at q c f t) (ends_at q d g u) ef eg apart in
        absurd (omega arith))
  ]

  -- no node: two edges meet there, and a trail leads on to a point at which other than two do
  pub inner_no_node : (n : ℕ) (f : ℕ → Coord) → IsTrailBy edges n f → degree edges (f n) ≢ 2 → (k : ℕ) → 0 < k → k < n → ¬ IsNode edges (f k)
  inner_no_node n f h other k some less node = elim node.node [
    | inl not_two ↦ not_two (h.between k some less)
    | inr loop ↦ (
        let place : k + (n - k) ≡ n = omega arith in
        let two : degree edges (f (k + (n - k))) ≡ 2 = passed_on edges n f h.step (λ q. degree edges q ≡ 2) k (n - k) (omega arith)
        (λ walk path q has. (All-contains (λ r. (degree edges r ≡ 2) × (is_before r (f k) ≡ false)) (f k ∷ walk) q (loop walk path) has).0) in
        other (subst (λ i. degree edges (f i) ≡ 2) place two))
  ]

  -- a trail between two such points
  pub open_thread : (n : ℕ) (f : ℕ → Coord) → IsTrailBy edges n f → degree edges (f 0) ≢ 2 → degree edges (f n) ≢ 2 → IsThread edges n f
  open_thread n f h first last = record {
    some = h.some;
    step = h.step;
    distinct = h.distinct;
    from = (let some = h.some in let step = h.step 0 (omega arith) in end_node (f 0) (f 1) step.0 step.1.0 step.1.1 first);
    to = (
        let some = h.some in
        let step = h.step (n - 1) (omega arith) in
        let place : suc (n - 1) ≡ n = omega arith in
        end_node (f n) (f (n - 1)) step.0 step.1.0 (seg_turned (f (n - 1)) (f n) step.0 (subst (λ i. IsSegBetween (f (n - 1)) (f i) step.0) place step.1.1)) last);
    between = inner_no_node n f h last;
  }

-- ---- there and back

module _ (edges : List Seg) (distinct : AllPairs (λ e f. ¬ (e ≡ f)) edges) (n : ℕ) (f : ℕ → Coord) (h : IsTrailBy edges n f) (other : degree edges (f n) ≢ 2) where
  -- the walk back from the end of the trail
  abbrev g : ℕ → Coord
  g k = walk_at edges (f n) (f (n - 1)) k

  record IsRetraced (k : ℕ) : Type 0 where
    here : g k ≡ f (n - k)
    next : g (suc k) ≡ f (n - suc k)

  module _ (m : ℕ) (t : IsTrailBy edges m g) where
    retraced : (k : ℕ) → suc k ≤ n → suc k ≤ m → IsRetraced k
    retraced zero less within = record { here = (let z : n ≡ n - 0 = omega arith in ap f z); next = refl }
    retraced (suc k) less within =
        let before = retraced k (omega arith) (omega arith) in
        let there = before.next in
        let a = t.step k (omega arith) in
        let b = t.step (suc k) (omega arith) in
        let i = n - suc (suc k) in
        let c = h.step i (omega arith) in
        let two : degree edges (g (suc k)) ≡ 2 = t.between (suc k) (omega arith) (omega arith) in
        let place : suc i ≡ n - suc k = omega arith in
        let up : suc (n - suc k) ≡ n - k = omega arith in
        let from_c : IsSegBetween (g (suc k)) (f i) c.0 = seg_turned (f i) (g (suc k)) c.0 (subst (λ q. IsSegBetween (f i) q c.0) (ap f place ∙ sym there) c.1.1) in
        let a_is : IsSegBetween (f (n - suc k)) (f (suc (n - suc k))) a.0 = subst (λ q. IsSegBetween (f (n - suc k)) q a.0) (before.here ∙ sym (ap f up)) (subst (λ q. IsSegBetween q (g k) a.0) there (seg_turned (g k) (g (suc k)) a.0 a.1.1)) in
        record {
          here = there;
          next = one_way_on edges (g k) (g (suc k)) (g (suc (suc k))) (f i) a.0 b.0 c.0 two a.1.0 b.1.0 c.1.0 a.1.1 b.1.1 from_c
              (λ same. t.distinct k (suc k) a.0 (omega arith) (omega arith) a.1.1 (subst (IsSegBetween (g (suc k)) (g (suc (suc k)))) (sym same) b.1.1))
              (λ same. h.distinct i (n - suc k) a.0 (omega arith) (omega arith) (subst (IsSegBetween (f i) (f (suc i))) (sym same) c.1.1) a_is);
        }

  -- the walk back goes all the way and on to a point at which other than two edges meet
  pub record IsBack (m : ℕ) : Type 0 where
    pub thread : IsThread edges m g
    pub further : n ≤ m
    pub here : g (n - 1) ≡ f 1
    pub next : g (suc (n - 1)) ≡ f 0

  goes_back : (m : ℕ) → IsWalkEnd edges 1 g m → IsBack m
  goes_back m w = record {
    thread = open_thread edges m g w.trail other last;
    further = far;
    here = (let some = h.some in let z : n - (n - 1) ≡ 1 = omega arith in (retraced m w.trail (n - 1) (omega arith) (omega (arith, far))).here ∙ ap f z);
    next = (let some = h.some in let z : n - suc (n - 1) ≡ 0 = omega arith in (retraced m w.trail (n - 1) (omega arith) (omega (arith, far))).next ∙ ap f z);
  }
    where
      last : degree edges (g m) ≢ 2
      last = elim w.ends [
        | inl it ↦ it
        | inr back ↦ (λ two. other (subst (λ q. degree edges q ≡ 2) back.1 back.0))
      ]

      far : n ≤ m
      far = elim (cases_lt m n) [
        | inr enough ↦ enough
        | inl short ↦ (
            let some = w.further in
            let it = retraced m w.trail (m - 1) (omega arith) (omega arith) in
            let place : suc (m - 1) ≡ m = omega arith in
            let down : n - suc (m - 1) ≡ n - m = omega arith in
            let is : g m ≡ f (n - m) = ap g (sym place) ∙ it.next ∙ ap f down in
            absurd (last (subst (λ q. degree edges q ≡ 2) (sym is) (h.between (n - m) (omega arith) (omega arith)))))
      ]

  pub back_to_node : (m : ℕ) × IsBack m
  back_to_node =
      let some = h.some in
      let step = h.step (n - 1) (omega arith) in
      let place : suc (n - 1) ≡ n = omega arith in
      let end = walk_ends edges distinct (f n) (f (n - 1)) step.0 step.1.0 (seg_turned (f (n - 1)) (f n) step.0 (subst (λ i. IsSegBetween (f (n - 1)) (f i) step.0) place step.1.1)) in
      (end.0, goes_back end.0 end.1)
