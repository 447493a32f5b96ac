-- Two lines with a common edge are one line, so lines that have each edge are all lines.
use mathlib.Core.List.{[], ◌∷◌}
use Rattle.std.proofs.Common.{◌≡◌, refl, sym, ◌∙◌, ap, subst, ℕ, zero, suc, ◌+◌, ◌-◌, ◌<◌, ◌||◌, List, ◌++◌, get_or, IsTrue, inl, inr, ◌≢◌, arith}
use Rattle.std.specs.Prelude.{Contains, length, reverse, drop, Some, slice_get, option_to_list, unwrap_or}
use Rattle.std.specs.Ordering.{is_le}
use Rattle.std.proofs.lemmas.Bool.{cases_order}
use Rattle.std.proofs.lemmas.List.{get_or-drop, length-drop, length-reverse, get_or-reverse, reverse-reverse, same_lists, get_or_default}
use Rattle.std.proofs.lemmas.List.Elements.{All-head, All-tail, All-contains}
use Rattle.std.proofs.lemmas.Option.{none-some, slice_get_within, slice_get-get_or, get_or_from_slice_get}
use Rattle.std.proofs.lemmas.Slice.Zip.{length-zip, get_or-zip}
use Rattle.cov_types.specs.declared.coord.Coord.{Coord}
use Rattle.cov_types.specs.declared.seg.Seg.{Seg}
use Rattle.cov_types.specs.Coord.{is_same_coord, points_cmp}
use Rattle.cov_types.specs.Seg.{IsSegBetween}
use Rattle.cov_types.specs.Uses.{seg_between}
use Rattle.cov_types.proofs.Between.{seg_between-ordered, seg_between-reversed}
use Rattle.plane.specs.Snapping.{chain_edges}
use Rattle.greedy_run.specs.Laws.{AreCovering, IsOnePlace}
use Rattle.greedy_run.specs.Lines.{steps, IsAlongEdge, IsPathAlong, IsNode, IsLine, AreLines}
use Rattle.arrangement.proofs.PointOrders.{points_same}
use Rattle.greedy_run.proofs.Trails.{seg_or}
use Rattle.greedy_run.proofs.Threads.{IsThread, AreOne, are_one, turned_thread, three_counted, two_edges, ends_at, seg_turned}

some_is : {X : Type 0} (a b : X) → Some a ≡ Some b → a ≡ b
some_is a b h = ap (λ o. unwrap_or o a) h

-- ---- the edges of a path, by places

pub is_between : (p q : Coord) (e : Seg) → IsSegBetween p q e → seg_between p q ≡ Some e
is_between p q e (inl h) = seg_between-ordered p q e h.0 h.1
is_between p q e (inr h) = seg_between-reversed p q e h.0 h.1

first_edge : (edges : List Seg) (x y : Coord) (rest : List Coord) → IsPathAlong edges (x ∷ y ∷ rest) → (e : Seg) × (Contains edges e × IsSegBetween x y e)
first_edge edges x y rest walk = All-head (IsAlongEdge edges) (x, y) (steps (y ∷ rest)) walk

rest_path : (edges : List Seg) (x y : Coord) (rest : List Coord) → IsPathAlong edges (x ∷ y ∷ rest) → IsPathAlong edges (y ∷ rest)
rest_path edges x y rest walk = All-tail (IsAlongEdge edges) (x, y) (steps (y ∷ rest)) walk

-- the chain of a path begins with its first edge
pub chain_first : (x y : Coord) (rest : List Coord) (e : Seg) → IsSegBetween x y e → chain_edges (x ∷ y ∷ rest) ≡ e ∷ chain_edges (y ∷ rest)
chain_first x y rest e s = ap (λ o. option_to_list o ++ chain_edges (y ∷ rest)) (is_between x y e s)

module _ (edges : List Seg) where
  pub chain_at : (points : List Coord) → IsPathAlong edges points → (k : ℕ) (p q : Coord) (e : Seg) → slice_get points k ≡ Some p → slice_get points (suc k) ≡ Some q → IsSegBetween p q e
      → slice_get (chain_edges points) k ≡ Some e
  chain_at [] walk k p q e at_p at_q s = absurd (none-some p at_p)
  chain_at (x ∷ []) walk k p q e at_p at_q s = absurd (none-some q at_q)
  chain_at (x ∷ y ∷ rest) walk zero p q e at_p at_q s =
      ap (λ es. slice_get es 0) (chain_first x y rest e (subst (λ a. IsSegBetween a y e) (sym (some_is x p at_p)) (subst (λ b. IsSegBetween p b e) (sym (some_is y q at_q)) s)))
  chain_at (x ∷ y ∷ rest) walk (suc k) p q e at_p at_q s =
      let first = first_edge edges x y rest walk in
      ap (λ es. slice_get es (suc k)) (chain_first x y rest first.0 first.1.1) ∙ chain_at (y ∷ rest) (rest_path edges x y rest walk) k p q e at_p at_q s

  -- an edge of the chain stands between two places
  pub record IsStepOf (points : List Coord) (e : Seg) : Type 0 where
    pub k : ℕ
    pub p : Coord
    pub q : Coord
    pub at_p : slice_get points k ≡ Some p
    pub at_q : slice_get points (suc k) ≡ Some q
    pub between : IsSegBetween p q e

  pub step_of : (points : List Coord) → IsPathAlong edges points → (e : Seg) → Contains (chain_edges points) e → IsStepOf points e
  step_of [] walk e (k, inside, is) = absurd (omega arith)
  step_of (x ∷ []) walk e (k, inside, is) = absurd (omega arith)
  step_of (x ∷ y ∷ rest) walk e has =
      let first = first_edge edges x y rest walk in
      by (step_of (y ∷ rest) (rest_path edges x y rest walk) e) first.0 first.1.1 (subst (λ es. Contains es e) (chain_first x y rest first.0 first.1.1) has)
    where
      next : IsStepOf (y ∷ rest) e → IsStepOf (x ∷ y ∷ rest) e
      next s = record { k = suc s.k; p = s.p; q = s.q; at_p = s.at_p; at_q = s.at_q; between = s.between }

      by : (Contains (chain_edges (y ∷ rest)) e → IsStepOf (y ∷ rest) e) → (f : Seg) → IsSegBetween x y f → Contains (f ∷ chain_edges (y ∷ rest)) e → IsStepOf (x ∷ y ∷ rest) e
      by later f s (zero, inside, is) = record { k = 0; p = x; q = y; at_p = refl; at_q = refl; between = subst (IsSegBetween x y) is s }
      by later f s (suc k, inside, is) = next (later (k, omega arith, is))

  -- ---- a path by places, and a line

  module _ (points : List Coord) (walk : IsPathAlong edges points) (d : Coord) where
    abbrev pub point : ℕ → Coord
    point k = get_or points k d

    pub at : (k : ℕ) → k < length points → slice_get points k ≡ Some (point k)
    at k within = slice_get-get_or points k d within

    pub along : (k : ℕ) → k < length points - 1 → (e : Seg) × (Contains edges e × IsSegBetween (point k) (point (suc k)) e)
    along k less =
        let shorter = length-drop 1 points in
        let inside : k < length (drop 1 points) = omega arith in
        let within : k < length (steps points) = omega (arith, length-zip points (drop 1 points)) in
        let next : get_or (drop 1 points) k d ≡ point (suc k) = get_or-drop 1 points k d ∙ (let z : 1 + k ≡ suc k = omega arith in ap (λ n. get_or points n d) z) in
        let is : get_or (steps points) k (d, d) ≡ (point k, point (suc k)) = get_or-zip points (drop 1 points) k (d, d) (omega arith) inside ∙ (λ i. (point k, next i)) in
        subst (IsAlongEdge edges) is (walk k (d, d) within)

    pub edge_at : (k : ℕ) (e : Seg) → k < length points - 1 → IsSegBetween (point k) (point (suc k)) e → slice_get (chain_edges points) k ≡ Some e
    edge_at k e less s = chain_at points walk k (point k) (point (suc k)) e (at k (omega arith)) (at (suc k) (omega arith)) s

  module _ (points : List Coord) (line : IsLine edges points) (d : Coord) where
    pub thread : IsThread edges (length points - 1) (point points line.walk d)
    thread = record {
      some = (let long = line.long in omega arith);
      step = along points line.walk d;
      distinct = λ j k e less within s t. (
          let at_j = edge_at points line.walk d j e (omega arith) s in
          let at_k = edge_at points line.walk d k e within t in
          line.distinct j k e less (slice_get_within (chain_edges points) k e at_k) (get_or_from_slice_get (chain_edges points) j e e at_j ∙ sym (get_or_from_slice_get (chain_edges points) k e e at_k)));
      from = (let long = line.long in line.from (point points line.walk d 0) (at points line.walk d 0 (omega arith)));
      to = (let long = line.long in line.to (point points line.walk d (length points - 1)) (at points line.walk d (length points - 1) (omega arith)));
      between = λ k some less. line.between k (point points line.walk d k) some (omega arith) (at points line.walk d k (omega arith));
    }

  -- ---- lines with a common edge

  module _ (points others : List Coord) (l : IsLine edges points) (m : IsLine edges others) (d : Coord) where
    same_way : AreOne edges (length points - 1) (length others - 1) (point points l.walk d) (point others m.walk d) → points ≡ others
    same_way one =
        let long = l.long in
        let long_too = m.long in
        let same = one.same_length in
        same_lists points others (omega arith) (λ k c within. get_or_default points k c d within ∙ one.same_points k (omega arith) ∙ get_or_default others k d c (omega arith))

    back_way : AreOne edges (length points - 1) (length others - 1) (point points l.walk d) (λ k. point others m.walk d ((length others - 1) - k)) → points ≡ reverse others
    back_way one =
        let long = l.long in
        let long_too = m.long in
        let same = one.same_length in
        let turned = length-reverse others in
        same_lists points (reverse others) (omega (arith, turned)) (λ k c within.
        get_or_default points k c d within ∙ one.same_points k (omega arith) ∙ sym (get_or-reverse others k d (omega arith)) ∙ get_or_default (reverse others) k d c (omega (arith, turned)))

    in_one_direction : points ≡ reverse others → points ≡ others
    in_one_direction turned =
        let back : reverse points ≡ others = ap reverse turned ∙ reverse-reverse others in
        points_same points others
        (subst (λ ps. IsTrue (is_le (points_cmp points ps))) back l.direction)
        (subst (λ ps. IsTrue (is_le (points_cmp others ps))) (sym turned) m.direction)

    shared : (e : Seg) → IsStepOf points e → IsStepOf others e → points ≡ others
    shared e s t = by s.between t.between
      where
        i_within : s.k < length points - 1
        i_within = let w = slice_get_within points (suc s.k) s.q s.at_q in omega arith

        j_within : t.k < length others - 1
        j_within = let w = slice_get_within others (suc t.k) t.q t.at_q in omega arith

        p_is : point points l.walk d s.k ≡ s.p
        p_is = get_or_from_slice_get points s.k s.p d s.at_p

        q_is : point points l.walk d (suc s.k) ≡ s.q
        q_is = get_or_from_slice_get points (suc s.k) s.q d s.at_q

        u_is : point others m.walk d t.k ≡ t.p
        u_is = get_or_from_slice_get others t.k t.p d t.at_p

        v_is : point others m.walk d (suc t.k) ≡ t.q
        v_is = get_or_from_slice_get others (suc t.k) t.q d t.at_q

        along_it : s.p ≡ t.p → s.q ≡ t.q → points ≡ others
        along_it p q = same_way (are_one edges (length points - 1) (length others - 1) (point points l.walk d) (point others m.walk d) (thread points l d) (thread others m d) s.k t.k i_within j_within (p_is ∙ p ∙ sym u_is) (q_is ∙ q ∙ sym v_is))

        against_it : s.p ≡ t.q → s.q ≡ t.p → points ≡ others
        against_it p q =
            let n = length others - 1 in
            let here : n - (n - suc t.k) ≡ suc t.k = omega (arith, j_within) in
            let next : n - suc (n - suc t.k) ≡ t.k = omega (arith, j_within) in
            in_one_direction (back_way (are_one edges (length points - 1) n (point points l.walk d) (λ k. point others m.walk d (n - k)) (thread points l d) (turned_thread edges n (point others m.walk d) (thread others m d)) s.k (n - suc t.k) i_within (omega (arith, j_within))
            (p_is ∙ p ∙ sym v_is ∙ sym (ap (point others m.walk d) here))
            (q_is ∙ q ∙ sym u_is ∙ sym (ap (point others m.walk d) next))))

        by : IsSegBetween s.p s.q e → IsSegBetween t.p t.q e → points ≡ others
        by (inl a) (inl b) = along_it (sym a.0 ∙ b.0) (sym a.1 ∙ b.1)
        by (inr a) (inr b) = along_it (sym a.1 ∙ b.1) (sym a.0 ∙ b.0)
        by (inl a) (inr b) = against_it (sym a.0 ∙ b.0) (sym a.1 ∙ b.1)
        by (inr a) (inl b) = against_it (sym a.1 ∙ b.1) (sym a.0 ∙ b.0)

  pub common_edge : (points others : List Coord) → IsLine edges points → IsLine edges others → (e : Seg) → Contains (chain_edges points) e → Contains (chain_edges others) e → points ≡ others
  common_edge points others l m e has has_too =
      let s = step_of points l.walk e has in
      shared points others l m s.p e s (step_of others m.walk e has_too)

  -- ---- lines that have each edge

  pub covering : (lines : List (List Coord)) → AreCovering edges lines → AreLines edges lines
  covering lines h = record {
    ascending = h.ascending;
    exact = λ points. (λ has. All-contains (IsLine edges) lines points h.each has, back points);
  }
    where
      by : (points : List Coord) (d : Coord) → IsLine edges points → Contains lines points
      by points d line =
          let long = line.long in
          let first = along points line.walk d 0 (omega arith) in
          let at = edge_at points line.walk d 0 first.0 (omega arith) first.1.1 in
          let in_points : Contains (chain_edges points) first.0 = (0, slice_get_within (chain_edges points) 0 first.0 at, get_or_from_slice_get (chain_edges points) 0 first.0 first.0 at) in
          let other = h.every first.0 first.1.0 in
          let its : IsLine edges other.0 = All-contains (IsLine edges) lines other.0 h.each other.1.0 in
          subst (Contains lines) (common_edge other.0 points its line first.0 other.1.1 in_points) other.1.0

      back : (points : List Coord) → IsLine edges points → Contains lines points
      back [] line = (let long = line.long in absurd (omega arith))
      back (d ∷ points) line = by (d ∷ points) d line

  -- ---- a vertex that is no node stands at one place

  module _ (points : List Coord) (line : IsLine edges points) (v : Coord) (no_node : ¬ IsNode edges v) (i : ℕ) (here : slice_get points i ≡ Some v) where
    not_first : 0 < i
    not_first = by i refl
      where
        by : (k : ℕ) → i ≡ k → 0 < k
        by zero is = absurd (no_node (line.from v (subst (λ k. slice_get points k ≡ Some v) is here)))
        by (suc k) is = omega arith

    not_last : i < length points - 1
    not_last =
        let within = slice_get_within points i v here in
        elim (cases_order i (length points - 1)) [
          | inl last ↦ absurd (no_node (line.to v (subst (λ k. slice_get points k ≡ Some v) last here)))
          | inr apart ↦ elim apart [ inl less ↦ less | inr more ↦ absurd (omega arith) ]
        ]

    -- the edges before and after it
    pub record HasTwoEdges : Type 0 where
      e : Seg
      f : Seg
      a : Coord
      c : Coord
      has_e : Contains edges e
      has_f : Contains edges f
      to : IsSegBetween v a e
      from : IsSegBetween v c f
      at_e : slice_get (chain_edges points) (i - 1) ≡ Some e
      at_f : slice_get (chain_edges points) i ≡ Some f

    both_edges : HasTwoEdges
    both_edges =
        let first = along points line.walk v (i - 1) (omega (arith, not_last)) in
        let second = along points line.walk v i not_last in
        let place : suc (i - 1) ≡ i = omega (arith, not_first) in
        let is : point points line.walk v i ≡ v = get_or_from_slice_get points i v v here in
        record {
          e = first.0;
          f = second.0;
          a = point points line.walk v (i - 1);
          c = point points line.walk v (suc i);
          has_e = first.1.0;
          has_f = second.1.0;
          to = seg_turned (point points line.walk v (i - 1)) v first.0 (subst (λ q. IsSegBetween (point points line.walk v (i - 1)) q first.0) (ap (point points line.walk v) place ∙ is) first.1.1);
          from = subst (λ q. IsSegBetween q (point points line.walk v (suc i)) second.0) is second.1.1;
          at_e = edge_at points line.walk v (i - 1) first.0 (omega (arith, not_last)) first.1.1;
          at_f = edge_at points line.walk v i second.0 not_last second.1.1;
        }

  placed : (xs : List Seg) (k : ℕ) (e : Seg) → slice_get xs k ≡ Some e → Contains xs e
  placed xs k e h = (k, slice_get_within xs k e h, get_or_from_slice_get xs k e e h)

  differ : (points : List Coord) → IsLine edges points → (j k : ℕ) (e f : Seg) → j < k → slice_get (chain_edges points) j ≡ Some e → slice_get (chain_edges points) k ≡ Some f → e ≢ f
  differ points line j k e f less at_j at_k same =
      line.distinct j k e less (slice_get_within (chain_edges points) k f at_k) (get_or_from_slice_get (chain_edges points) j e e at_j ∙ same ∙ sym (get_or_from_slice_get (chain_edges points) k f e at_k))

  -- of three different edges at a vertex that is no node, none is
  no_three : (v a b c : Coord) (e f g : Seg) → ¬ IsNode edges v → Contains edges e → Contains edges f → Contains edges g → IsSegBetween v a e → IsSegBetween v b f → IsSegBetween v c g
      → e ≢ f → e ≢ g → f ≢ g → ⊥
  no_three v a b c e f g no_node has_e has_f has_g s t u ef eg fg =
      let two = two_edges edges v e a no_node has_e s in
      let three = three_counted (λ e. is_same_coord e.lo v || is_same_coord e.hi v) edges e f g has_e has_f has_g (ends_at v a e s) (ends_at v b f t) (ends_at v c g u) ef eg fg in
      omega arith

  not_later : (points : List Coord) → IsLine edges points → (v : Coord) → ¬ IsNode edges v → (i j : ℕ) → slice_get points i ≡ Some v → slice_get points j ≡ Some v → i < j → ⊥
  not_later points line v no_node i j at_i at_j less =
      let x = both_edges points line v no_node i at_i in
      let y = both_edges points line v no_node j at_j in
      let some = not_first points line v no_node i at_i in
      no_three v x.a x.c y.c x.e x.f y.f no_node x.has_e x.has_f y.has_f x.to x.from y.from
      (differ points line (i - 1) i x.e x.f (omega arith) x.at_e x.at_f)
      (differ points line (i - 1) j x.e y.f (omega arith) x.at_e y.at_f)
      (differ points line i j x.f y.f less x.at_f y.at_f)

  -- two lines through it have an edge in common
  module _ (points others : List Coord) (l : IsLine edges points) (m : IsLine edges others) (v : Coord) (no_node : ¬ IsNode edges v) (i j : ℕ) (at_i : slice_get points i ≡ Some v) (at_j : slice_get others j ≡ Some v) where
    abbrev x : HasTwoEdges points l v no_node i at_i
    x = both_edges points l v no_node i at_i

    abbrev y : HasTwoEdges others m v no_node j at_j
    y = both_edges others m v no_node j at_j

    apart : x.e ≢ x.f
    apart = let some = not_first points l v no_node i at_i in differ points l (i - 1) i x.e x.f (omega arith) x.at_e x.at_f

    same_line : points ≡ others
    same_line = elim (seg_or y.e x.e) [
      | inl same ↦ common_edge points others l m y.e (subst (Contains (chain_edges points)) (sym same) (placed (chain_edges points) (i - 1) x.e x.at_e)) (placed (chain_edges others) (j - 1) y.e y.at_e)
      | inr one ↦ elim (seg_or y.e x.f) [
        | inl same ↦ common_edge points others l m y.e (subst (Contains (chain_edges points)) (sym same) (placed (chain_edges points) i x.f x.at_f)) (placed (chain_edges others) (j - 1) y.e y.at_e)
        | inr other ↦ absurd (no_three v x.a x.c y.a x.e x.f y.e no_node x.has_e x.has_f y.has_e x.to x.from y.to apart (λ s. one (sym s)) (λ s. other (sym s)))
      ]
    ]

    same_place : i ≡ j
    same_place =
        let there = subst (λ ps. slice_get ps j ≡ Some v) (sym same_line) at_j in
        elim (cases_order i j) [
          | inl same ↦ same
          | inr other ↦ elim other [
            | inl less ↦ absurd (not_later points l v no_node i j at_i there less)
            | inr more ↦ absurd (not_later points l v no_node j i there at_i more)
          ]
        ]

    pub one_place : IsOnePlace points others i j
    one_place = record { line = same_line; place = same_place }
