-- All segments of a line have the same members beside them, so a line seen from its other end has left and right exchanged.
use Rattle.std.proofs.Common.{◌≡◌, ◌≢◌, ◌⊎◌, inl, inr, refl, sym, ◌∙◌, ap, subst, zero, suc, ℕ, ◌-◌, ◌<◌, ◌||◌, Bool, true, false, not, cond, List, arith}
use Rattle.std.specs.Prelude.{Contains, slice_get, option_and_then}
use Rattle.std.proofs.lemmas.Bool.{false≢true, or_left, or_right}
use Rattle.cov_types.specs.declared.coord.Coord.{Coord}
use Rattle.cov_types.specs.declared.edge_use.EdgeUse.{EdgeUse}
use Rattle.cov_types.specs.declared.seg.Seg.{Seg}
use Rattle.cov_types.specs.Coord.{is_same_coord}
use Rattle.cov_types.specs.Seg.{IsSegBetween}
use Rattle.cov_types.specs.Uses.{HasEvenEnds}
use Rattle.cov_types.proofs.Equal.{Decides-same_coords}
use Rattle.plane.specs.Joined.{Joined}
use Rattle.plane.specs.Segment.{upper, lower}
use Rattle.crossing_laws.specs.Crossing.{IsSwept}
use Rattle.crossing_laws.proofs.Sums.{label-joined}
use Rattle.crossing_laws.proofs.Ways.{joined-trans}
use Rattle.sector_laws.specs.Sector.{HalfEdge, origin, target, left, twin, Leaves, IsPlanar, is_in_sector}
use Rattle.sector_laws.proofs.Exists.{some_next}
use Rattle.sector_laws.proofs.Sectors.{next_joined}
use Rattle.sector_laws.proofs.Shapes.{full_sector}
use Rattle.greedy_run.specs.Lines.{degree}
use Rattle.greedy_run.specs.Sides.{holder, left_from, right_from, left_member, right_member}
use Rattle.greedy_run.proofs.Listed.{from_place, after}
use Rattle.greedy_run.proofs.Threads.{IsThread, turned_thread, two_edges, three_counted, ends_at, seg_turned, one_seg}
use Rattle.greedy_run.proofs.Trails.{seg_or}
use Rattle.removal_laws.proofs.Exchange.{coord_cases, ends_differ}
use Rattle.kept_lines_laws.proofs.Bent.{left_turned, beside_lo, beside_hi}
use Rattle.kept_lines_laws.proofs.LineSides.{first_side}

-- ---- half-edges from an end

abbrev half_from : Coord → Seg → HalfEdge
half_from a e = record { edge = e; forwards = is_same_coord a e.lo }

-- the side point on the left of a half-edge is that from its origin
left_is : (a : Coord) (g : HalfEdge) → origin g ≡ a → left g ≡ left_from a g.edge
left_is a g from = by g.forwards refl
  where
    by : (t : Bool) → g.forwards ≡ t → left g ≡ left_from a g.edge
    by true is = ap (λ (t : Bool). cond t (upper g.edge) (lower g.edge)) is ∙ sym (beside_lo a g.edge (sym (ap (λ (t : Bool). cond t g.edge.lo g.edge.hi) is) ∙ from)).left
    by false is =
        ap (λ (t : Bool). cond t (upper g.edge) (lower g.edge)) is
        ∙ sym (beside_hi a g.edge (λ lo. ends_differ g.edge.lo g.edge.hi g.edge (inl (refl, refl)) (lo ∙ sym from ∙ ap (λ (t : Bool). cond t g.edge.lo g.edge.hi) is))).left

-- the half-edge from one end leads to the other
ends_of_half : (a b : Coord) (e : Seg) → IsSegBetween a b e → (origin (half_from a e) ≡ a) × (target (half_from a e) ≡ b)
ends_of_half a b e (inl s) =
    (let at_lo = (Decides-same_coords a e.lo).1 (sym s.0) in
    (ap (λ (t : Bool). cond t e.lo e.hi) at_lo ∙ s.0, ap (λ (t : Bool). cond t e.hi e.lo) at_lo ∙ s.1))
ends_of_half a b e (inr s) =
    (let at_hi : is_same_coord a e.lo ≡ false = differ (λ is. ends_differ a b e (inr s) (is ∙ s.0)) in
    (ap (λ (t : Bool). cond t e.lo e.hi) at_hi ∙ s.1, ap (λ (t : Bool). cond t e.hi e.lo) at_hi ∙ s.0))
  where
    differ : ¬ (a ≡ e.lo) → is_same_coord a e.lo ≡ false
    differ apart = elim (coord_cases a e.lo) [ inl same ↦ absurd (apart ((Decides-same_coords a e.lo).0 same)) | inr other ↦ other ]

half_is : (g : HalfEdge) (e : Seg) (t : Bool) → g.edge ≡ e → g.forwards ≡ t → g ≡ record { edge = e; forwards = t }
half_is g e t p q = λ i. record { edge = p i; forwards = q i }

origin_end : (g : HalfEdge) (y : Coord) → origin g ≡ y → (is_same_coord g.edge.lo y || is_same_coord g.edge.hi y) ≡ true
origin_end g y from = by g.forwards refl
  where
    by : (t : Bool) → g.forwards ≡ t → (is_same_coord g.edge.lo y || is_same_coord g.edge.hi y) ≡ true
    by true is = or_left _ _ ((Decides-same_coords g.edge.lo y).1 (sym (ap (λ (t : Bool). cond t g.edge.lo g.edge.hi) is) ∙ from))
    by false is = or_right _ _ ((Decides-same_coords g.edge.hi y).1 (sym (ap (λ (t : Bool). cond t g.edge.lo g.edge.hi) is) ∙ from))

-- ---- where two edges meet

module _ (edges : List Seg) (planar : IsPlanar edges) where
  -- after the one comes the other
  next_left : (x y z : Coord) (e f : Seg) → Contains edges e → Contains edges f → IsSegBetween x y e → IsSegBetween y z f → e ≢ f → degree edges y ≡ 2
      → Joined edges (left_from x e) (left_from y f)
  next_left x y z e f has_e has_f is_e is_f apart two =
      let h = half_from x e in
      let (origin_h, target_h) = ends_of_half x y e is_e in
      let (g, next) = some_next edges planar h has_e in
      let from_y : origin g ≡ y = next.leaves.from ∙ target_h in
      let joined = subst (λ p. Joined edges (left_from x e) p) (left_is y g from_y) (next_joined edges planar h g next) in
      elim (seg_or g.edge f) [
        | inl is ↦ subst (λ (s : Seg). Joined edges (left_from x e) (left_from y s)) is joined
        | inr other ↦ absurd (
            elim (seg_or g.edge e) [
              | inl back ↦ (
                  let k = half_from y f in
                  let (origin_k, target_k) = ends_of_half y z f is_f in
                  let at_k : Leaves edges (target h) k = record { among = has_f; from = origin_k ∙ sym target_h } in
                  let g_is : g ≡ twin h = half_is g e (not (is_same_coord x e.lo)) back (forwards_is g back from_y) in
                  let none = subst (λ (t : HalfEdge). is_in_sector t (twin h) k ≡ false) g_is (next.none_inside k at_k) in
                  let at_twin : Leaves edges (target h) (twin h) = subst (Leaves edges (target h)) g_is next.leaves in
                  false≢true (sym none ∙ (full_sector edges planar (target h) (twin h) k at_twin at_k).1 (λ same. apart (sym (ap (λ (t : HalfEdge). t.edge) same))))
                  )
              | inr third ↦ (
                  let three =
                  three_counted (λ s. is_same_coord s.lo y || is_same_coord s.hi y) edges e f g.edge has_e has_f next.leaves.among (ends_at y x e (seg_turned x y e is_e)) (ends_at y z f is_f) (origin_end g y from_y)
                  apart (λ s. third (sym s)) (λ s. other (sym s)) in
                  omega arith
                  )
            ]
            )
      ]
    where
      forwards_is : (g : HalfEdge) → g.edge ≡ e → origin g ≡ y → g.forwards ≡ not (is_same_coord x e.lo)
      forwards_is g back from = by g.forwards (is_same_coord x e.lo) refl refl
        where
          at : (t : Bool) → g.forwards ≡ t → cond t e.lo e.hi ≡ y
          at t is = sym (ap (λ (u : Bool). cond u e.lo e.hi) is) ∙ ap (λ (s : Seg). cond g.forwards s.lo s.hi) (sym back) ∙ from

          not_x : e.lo ≡ y → is_same_coord x e.lo ≡ true → ⊥
          not_x lo same = ends_differ x y e is_e ((Decides-same_coords x e.lo).0 same ∙ lo)

          other_end : IsSegBetween x y e → e.hi ≡ y → is_same_coord x e.lo ≡ false → ⊥
          other_end (inl s) hi differs = false≢true (sym differs ∙ (Decides-same_coords x e.lo).1 (sym s.0))
          other_end (inr s) hi differs = ends_differ x y e is_e (sym s.1 ∙ hi)

          by : (t u : Bool) → g.forwards ≡ t → is_same_coord x e.lo ≡ u → t ≡ not u
          by true true is same = absurd (not_x (at true is) same)
          by true false is differs = refl
          by false true is same = refl
          by false false is differs = absurd (other_end is_e (at false is) differs)

  -- ---- along a thread

  module _ (n : ℕ) (f : ℕ → Coord) (h : IsThread edges n f) where
    along_left : (k : ℕ) → k < n → (e g : Seg) → Contains edges e → Contains edges g → IsSegBetween (f 0) (f 1) e → IsSegBetween (f k) (f (suc k)) g → Joined edges (left_from (f 0) e) (left_from (f k) g) ⊎ (k ≡ 0)
    along_left zero less e g has_e has_g is_e is_g = inr refl
    along_left (suc k) less e g has_e has_g is_e is_g =
        let before = h.step k (omega arith) in
        let apart : before.0 ≢ g = λ same. h.distinct k (suc k) g (omega arith) less (subst (IsSegBetween (f k) (f (suc k))) same before.1.1) is_g in
        let two = two_edges edges (f (suc k)) g (f (suc (suc k))) (h.between (suc k) (omega arith) less) has_g is_g in
        let last = next_left (f k) (f (suc k)) (f (suc (suc k))) before.0 g before.1.0 has_g before.1.1 is_g apart two in
        elim (along_left k (omega arith) e before.0 has_e before.1.0 is_e before.1.1) [
          | inl joined ↦ inl (joined-trans edges (left_from (f 0) e) (left_from (f k) before.0) (left_from (f (suc k)) g) joined last)
          | inr first ↦ inl (first_step k first before.0 before.1.1 last)
        ]
      where
        first_step : (k : ℕ) → k ≡ 0 → (b : Seg) → IsSegBetween (f k) (f (suc k)) b → Joined edges (left_from (f k) b) (left_from (f (suc k)) g) → Joined edges (left_from (f 0) e) (left_from (f (suc k)) g)
        first_step zero is b is_b joined = subst (λ (s : Seg). Joined edges (left_from (f 0) s) (left_from (f 1) g)) (one_seg (f 0) (f 1) b e is_b is_e) joined
        first_step (suc k) is b is_b joined = absurd (omega arith)

-- ---- the members beside a thread

module _ (uses : List EdgeUse) (count : ℕ) (even : HasEvenEnds uses) (edges : List Seg) (planar : IsPlanar edges) (swept : IsSwept edges) (among : (u : EdgeUse) → Contains uses u → Contains edges u.seg) where
  -- the member on the left at the first segment is that at the last, which is on the right from the other end
  pub left_from_end : (n : ℕ) (f : ℕ → Coord) → IsThread edges n f → left_member uses count (from_place f 0 n) ≡ right_member uses count (from_place (λ k. f (n - k)) 0 n)
  left_from_end zero f h = absurd (let some = h.some in omega arith)
  left_from_end (suc m) f h =
      let first = h.step 0 (omega arith) in
      let last = h.step m (omega arith) in
      let back = turned_thread edges (suc m) f h in
      let here : m ≡ suc m - 1 = omega arith in
      let end : suc m ≡ suc m - 0 = omega arith in
      let turned_last : IsSegBetween (f (suc m - 0)) (f (suc m - 1)) last.0 =
      subst (λ i. IsSegBetween (f i) (f (suc m - 1)) last.0) end (subst (λ i. IsSegBetween (f (suc m)) (f i) last.0) here (seg_turned (f m) (f (suc m)) last.0 last.1.1)) in
      ap (option_and_then (holder uses count)) (first_side left_from (f 0) (f 1) (after f 1 m) first.0 first.1.1)
      ∙ alike first.0 last.0 first.1.0 last.1.0 first.1.1 last.1.1
      ∙ ap (holder uses count) (left_turned (f m) (f (suc m)) last.0 last.1.1)
      ∙ ap (λ i. holder uses count (right_from (f i) last.0)) end
      ∙ sym (ap (option_and_then (holder uses count)) (first_side right_from (f (suc m - 0)) (f (suc m - 1)) (after (λ k. f (suc m - k)) 1 m) last.0 turned_last))
    where
      alike : (e g : Seg) → Contains edges e → Contains edges g → IsSegBetween (f 0) (f 1) e → IsSegBetween (f m) (f (suc m)) g → holder uses count (left_from (f 0) e) ≡ holder uses count (left_from (f m) g)
      alike e g has_e has_g is_e is_g = elim (along_left edges planar (suc m) f h m (omega arith) e g has_e has_g is_e is_g) [
        | inl joined ↦ ap (λ (label : List ℕ). slice_get label 0) (label-joined uses count edges among swept even (left_from (f 0) e) (left_from (f m) g) joined)
        | inr none ↦ at_first m none is_g
      ]
        where
          at_first : (m : ℕ) → m ≡ 0 → IsSegBetween (f m) (f (suc m)) g → holder uses count (left_from (f 0) e) ≡ holder uses count (left_from (f m) g)
          at_first zero is is_g = ap (λ (s : Seg). holder uses count (left_from (f 0) s)) (one_seg (f 0) (f 1) e g is_e is_g)
          at_first (suc m) is is_g = absurd (omega arith)
