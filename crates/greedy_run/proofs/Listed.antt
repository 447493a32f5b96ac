-- Points by places as a list: their path, and the line of a path from node to node.
use mathlib.Core.List.{[], ◌∷◌}
use Rattle.std.proofs.Common.{◌≡◌, ◌⊎◌, refl, sym, ◌∙◌, ap, subst, ℕ, zero, suc, ◌+◌, ◌-◌, ◌<◌, ◌≤◌, List, length, get_or, IsTrue, Ordering, inl, inr, ◌≢◌, arith}
use Rattle.std.specs.Prelude.{AllPairs, Contains, reverse, Some, slice_get, unwrap_or}
use Rattle.std.specs.declared.cmp.Ordering.TheVariants.{Less, Equal, Greater}
use Rattle.std.specs.Ordering.{is_le, ordering_reverse}
use Rattle.std.proofs.lemmas.List.{length-reverse, get_or-reverse, reverse-reverse, same_lists}
use Rattle.std.proofs.lemmas.List.Elements.{All-nil, All-cons}
use Rattle.std.proofs.lemmas.Option.{slice_get_within, slice_get-get_or, get_or_from_slice_get}
use Rattle.cov_types.specs.declared.coord.Coord.{Coord}
use Rattle.cov_types.specs.declared.seg.Seg.{Seg}
use Rattle.cov_types.specs.Coord.{points_cmp}
use Rattle.cov_types.specs.Seg.{IsSegBetween}
use Rattle.plane.specs.Snapping.{chain_edges}
use Rattle.arrangement.proofs.PointOrders.{points_total}
use Rattle.greedy_run.specs.Lines.{steps, IsAlongEdge, IsPathAlong, IsNode, IsLine}
use Rattle.greedy_run.proofs.OneLine.{chain_first, chain_at}
use Rattle.greedy_run.proofs.Threads.{IsThread, turned_thread, seg_turned}

some_is : {X : Type 0} (a b : X) → Some a ≡ Some b → a ≡ b
some_is a b h = ap (λ o. unwrap_or o a) h

-- the next so many points after place k
abbrev pub after : (ℕ → Coord) → ℕ → ℕ → List Coord
after f k zero = []
after f k (suc i) = f (suc k) ∷ after f (suc k) i

-- the points from place k on
abbrev pub from_place : (ℕ → Coord) → ℕ → ℕ → List Coord
from_place f k i = f k ∷ after f k i

pub length-from_place : (f : ℕ → Coord) (k i : ℕ) → length (from_place f k i) ≡ suc i
length-from_place f k zero = refl
length-from_place f k (suc i) = ap suc (length-from_place f (suc k) i)

pub at_place : (f : ℕ → Coord) (k i j : ℕ) → j ≤ i → slice_get (from_place f k i) j ≡ Some (f (k + j))
at_place f k i zero less = (let z : k ≡ k + 0 = omega arith in ap (λ n. Some (f n)) z)
at_place f k zero (suc j) less = absurd (omega arith)
at_place f k (suc i) (suc j) less = at_place f (suc k) i j (omega arith) ∙ (let z : suc k + j ≡ k + suc j = omega arith in ap (λ n. Some (f n)) z)

pub at_whole : (f : ℕ → Coord) (n j : ℕ) → j ≤ n → slice_get (from_place f 0 n) j ≡ Some (f j)
at_whole f n j less = at_place f 0 n j less ∙ (let z : 0 + j ≡ j = omega arith in ap (λ i. Some (f i)) z)

pub has_place : (f : ℕ → Coord) (k i j : ℕ) → j ≤ i → Contains (from_place f k i) (f (k + j))
has_place f k i j less = let at = at_place f k i j less in (j, slice_get_within (from_place f k i) j (f (k + j)) at, get_or_from_slice_get (from_place f k i) j (f (k + j)) (f (k + j)) at)

module _ (edges : List Seg) (n : ℕ) (f : ℕ → Coord) (along : (k : ℕ) → k < n → IsAlongEdge edges (f k, f (suc k))) where
  pub path_from : (k i : ℕ) → k + i ≤ n → IsPathAlong edges (from_place f k i)
  path_from k zero within = All-nil (IsAlongEdge edges)
  path_from k (suc i) within = All-cons (IsAlongEdge edges) (f k, f (suc k)) (steps (from_place f (suc k) i)) (along k (omega arith)) (path_from (suc k) i (omega arith))

  -- what all points of walks from a point of it pass, the later ones pass
  pub passed_on : (P : Coord → Type 0) (k j : ℕ) → k + j ≤ n → ((walk : List Coord) → IsPathAlong edges (f k ∷ walk) → (q : Coord) → Contains (f k ∷ walk) q → P q) → P (f (k + j))
  passed_on P k j within all = all (after f k j) (path_from k j within) (f (k + j)) (has_place f k j j (omega arith))

-- ---- the path of points by places

module _ (edges : List Seg) (n : ℕ) (f : ℕ → Coord) (along : (k : ℕ) → k < n → (e : Seg) × (Contains edges e × IsSegBetween (f k) (f (suc k)) e))
    (apart : (j k : ℕ) (e : Seg) → j < k → k < n → IsSegBetween (f j) (f (suc j)) e → IsSegBetween (f k) (f (suc k)) e → ⊥)
  where
    abbrev points : List Coord
    points = from_place f 0 n

    pub walk : IsPathAlong edges points
    walk = path_from edges n f along 0 n (omega arith)

    abbrev count : length points ≡ suc n
    count = length-from_place f 0 n

    pub edge_there : (k : ℕ) (e : Seg) → k < n → IsSegBetween (f k) (f (suc k)) e → slice_get (chain_edges points) k ≡ Some e
    edge_there k e less s = chain_at edges points walk k (f k) (f (suc k)) e (at_whole f n k (omega arith)) (at_whole f n (suc k) (omega arith)) s

    pub has_edge : (k : ℕ) (e : Seg) → k < n → IsSegBetween (f k) (f (suc k)) e → Contains (chain_edges points) e
    has_edge k e less s = let at = edge_there k e less s in (k, slice_get_within (chain_edges points) k e at, get_or_from_slice_get (chain_edges points) k e e at)

    -- the points by a place of the list
    pub point_is : (k : ℕ) (p : Coord) → slice_get points k ≡ Some p → (k < suc n) × (f k ≡ p)
    point_is k p at =
        let within = slice_get_within points k p at in
        let less : k < suc n = omega (arith, count) in
        (less, some_is (f k) p (sym (at_whole f n k (omega arith)) ∙ at))

    -- an edge at a place of the chain is that of the step there
    edge_is : (k : ℕ) (e : Seg) → slice_get (chain_edges points) k ≡ Some e → k < n → IsSegBetween (f k) (f (suc k)) e
    edge_is k e at less =
        let step = along k less in
        subst (IsSegBetween (f k) (f (suc k))) (some_is step.0 e (sym (edge_there k step.0 less step.1.1) ∙ at)) step.1.1

    chain_count : (k i : ℕ) → k + i ≤ n → length (chain_edges (from_place f k i)) ≡ i
    chain_count k zero within = refl
    chain_count k (suc i) within =
        let step = along k (omega arith) in
        ap length (chain_first (f k) (f (suc k)) (after f (suc k) i) step.0 step.1.1) ∙ ap suc (chain_count (suc k) i (omega arith))

    chain_within : (k : ℕ) (e : Seg) → slice_get (chain_edges points) k ≡ Some e → k < n
    chain_within k e at = let within = slice_get_within (chain_edges points) k e at in omega (arith, chain_count 0 n (omega arith))

    pub distinct : AllPairs (λ e g. e ≢ g) (chain_edges points)
    distinct i j d less within same =
        let at_i = slice_get-get_or (chain_edges points) i d (omega arith) in
        let at_j = slice_get-get_or (chain_edges points) j d within in
        let j_less = chain_within j (get_or (chain_edges points) j d) at_j in
        apart i j (get_or (chain_edges points) i d) less j_less (edge_is i (get_or (chain_edges points) i d) at_i (omega arith))
        (edge_is j (get_or (chain_edges points) i d) (at_j ∙ ap Some (sym same)) j_less)

-- ---- the line of a thread

module _ (edges : List Seg) (n : ℕ) (f : ℕ → Coord) (h : IsThread edges n f) where
  pub line_in : IsTrue (is_le (points_cmp (from_place f 0 n) (reverse (from_place f 0 n)))) → IsLine edges (from_place f 0 n)
  line_in direction =
      let count = length-from_place f 0 n in
      let place = point_is edges n f h.step h.distinct in
      record {
        long = (let some = h.some in omega arith);
        walk = walk edges n f h.step h.distinct;
        distinct = distinct edges n f h.step h.distinct;
        from = λ p at. subst (IsNode edges) (place 0 p at).1 h.from;
        to = λ p at. subst (IsNode edges) ((let z : n ≡ length (from_place f 0 n) - 1 = omega (arith, count) in ap f z) ∙ (place (length (from_place f 0 n) - 1) p at).1) h.to;
        between = λ k p some less at node. h.between k some (omega (arith, count)) (subst (IsNode edges) (sym (place k p at).1) node);
        direction = direction;
      }

le_or_back : (a : Ordering) → IsTrue (is_le a) ⊎ IsTrue (is_le (ordering_reverse a))
le_or_back Less = inl refl
le_or_back Equal = inl refl
le_or_back Greater = inr refl

-- the line has the edges of the thread
pub record IsLineOf (edges : List Seg) (n : ℕ) (f : ℕ → Coord) (points : List Coord) : Type 0 where
  pub line : IsLine edges points
  pub has : (k : ℕ) (e : Seg) → k < n → IsSegBetween (f k) (f (suc k)) e → Contains (chain_edges points) e

module _ (edges : List Seg) (n : ℕ) (f : ℕ → Coord) (h : IsThread edges n f) where
  abbrev back : ℕ → Coord
  back k = f (n - k)

  pub turned : from_place back 0 n ≡ reverse (from_place f 0 n)
  turned =
      let count = length-from_place f 0 n in
      let count_back = length-from_place back 0 n in
      let count_reverse = length-reverse (from_place f 0 n) in
      same_lists (from_place back 0 n) (reverse (from_place f 0 n)) (omega (arith, count, count_back, count_reverse)) (λ k d within.
      get_or_from_slice_get (from_place back 0 n) k (back k) d (at_whole back n k (omega (arith, count_back)))
      ∙ (let z : n - k ≡ (length (from_place f 0 n) - 1) - k = omega (arith, count) in ap f z)
      ∙ sym (get_or_from_slice_get (from_place f 0 n) ((length (from_place f 0 n) - 1) - k) (f ((length (from_place f 0 n) - 1) - k)) d (at_whole f n ((length (from_place f 0 n) - 1) - k) (omega (arith, count))))
      ∙ sym (get_or-reverse (from_place f 0 n) k d (omega (arith, count, count_back))))

  -- a thread in one of its two directions is a line
  pub line_of : (points : List Coord) × IsLineOf edges n f points
  line_of = elim (le_or_back (points_cmp (from_place f 0 n) (reverse (from_place f 0 n)))) [
    | inl lesser ↦ (from_place f 0 n, record { line = line_in edges n f h lesser; has = has_edge edges n f h.step h.distinct })
    | inr greater ↦ (
        let ps = from_place f 0 n in
        let other = turned_thread edges n f h in
        let lesser : IsTrue (is_le (points_cmp (reverse ps) ps)) = subst (λ r. IsTrue (is_le r)) (sym (points_total.antisymm (reverse ps) ps)) greater in
        let direction : IsTrue (is_le (points_cmp (from_place back 0 n) (reverse (from_place back 0 n)))) =
        subst (λ qs. IsTrue (is_le (points_cmp qs (reverse qs)))) (sym turned) (subst (λ qs. IsTrue (is_le (points_cmp (reverse ps) qs))) (sym (reverse-reverse ps)) lesser) in (
          from_place back 0 n,
          record {
            line = line_in edges n back other direction;
            has = λ k e less s. has_edge edges n back other.step other.distinct (n - suc k) e (omega arith) (
                let next : n - suc (n - suc k) ≡ k = omega arith in
                let here : n - (n - suc k) ≡ suc k = omega arith in
                subst (λ i. IsSegBetween (f i) (f (n - suc (n - suc k))) e) (sym here) (subst (λ i. IsSegBetween (f (suc k)) (f i) e) (sym next) (seg_turned (f k) (f (suc k)) e s)));
          },
        ))
  ]
