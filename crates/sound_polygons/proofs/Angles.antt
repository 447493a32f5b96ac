-- The angle between two half-edges that leave a vertex is the sector between them.
use Rattle.std.proofs.Common.{◌≡◌, inl, inr, sym, ◌∙◌, ap, subst, Bool, true, false, not, ◌&&◌, ◌||◌, cond, List, IsTrue, true≢false, pos, ◌<ℤ◌, ◌≤ℤ◌, arith}
use Rattle.std.proofs.lemmas.Bool.{and_parts, and_from, or_parts, or_from, cond-true, cond-false, not-true, not_from_false, false_from_ne_true, true_from_ne_false, false≢true}
use Rattle.cov_types.specs.declared.coord.Coord.{Coord}
use Rattle.cov_types.specs.declared.seg.Seg.{Seg}
use Rattle.cov_types.specs.Coord.{is_before, is_same_coord}
use Rattle.cov_types.proofs.Equal.{Decides-same_coords, same_segs}
use Rattle.cov_types.proofs.Order.{is_before-asymm}
use Rattle.integer_laws.proofs.Compare.{int_lt_is, int_lt_false, sign_cases, lt_excludes_eq, lt_excludes_le, le_of_lt, le_of_eq}
use Rattle.integer_laws.proofs.Ring.{lin}
use Rattle.plane.specs.Segment.{turn_of}
use Rattle.plane.proofs.Same.{same_tests}
use Rattle.plane.proofs.Sides.{turn-same_last, turn-last_two}
use Rattle.sector_laws.specs.Sector.{HalfEdge, target, is_in_sector, Leaves, IsPlanar}
use Rattle.sector_laws.proofs.Turns.{same_coord_or_not}
use Rattle.sector_laws.proofs.Shapes.{narrow_sector, wide_sector, straight_sector, full_sector}
use Rattle.sound_polygons.specs.Parts.{is_left, is_in_angle}

-- ---- a half-edge that leaves a vertex is told by where it leads

abbrev half : Seg → Bool → HalfEdge
half e forwards = record { edge = e; forwards = forwards }

same_half_edge : (v : Coord) (e f : Seg) (b c : Bool) → cond b e.lo e.hi ≡ v → cond c f.lo f.hi ≡ v → cond b e.hi e.lo ≡ cond c f.hi f.lo
    → half e b ≡ half f c
same_half_edge v e f true true p q t = λ i. record { edge = same_segs e f (p ∙ sym q) t i; forwards = true }
same_half_edge v e f false false p q t = λ i. record { edge = same_segs e f t (p ∙ sym q) i; forwards = false }
same_half_edge v e f true false p q t =
    let there = e.ordered in
    let back : IsTrue (is_before e.hi e.lo) = subst (λ x. IsTrue (is_before x e.lo)) (sym t) (subst (λ x. IsTrue (is_before f.lo x)) (q ∙ sym p) f.ordered) in
    absurd (true≢false (sym back ∙ is_before-asymm e.lo e.hi there))
same_half_edge v e f false true p q t =
    let there = f.ordered in
    let back : IsTrue (is_before f.hi f.lo) = subst (λ x. IsTrue (is_before x f.lo)) t (subst (λ x. IsTrue (is_before e.lo x)) (p ∙ sym q) e.ordered) in
    absurd (true≢false (sym back ∙ is_before-asymm f.lo f.hi there))

same_from_target : (edges : List Seg) (v : Coord) (g h : HalfEdge) → Leaves edges v g → Leaves edges v h → target g ≡ target h → g ≡ h
same_from_target edges v g h at_g at_h same = same_half_edge v g.edge h.edge g.forwards h.forwards at_g.from at_h.from same

-- ---- tests

left_is : (v a p : Coord) → IsTrue (is_left v a p) → pos 0 <ℤ turn_of v a p
left_is v a p h = (int_lt_is (pos 0) (turn_of v a p)).0 h

is_left_from : (v a p : Coord) → pos 0 <ℤ turn_of v a p → is_left v a p ≡ true
is_left_from v a p h = (int_lt_is (pos 0) (turn_of v a p)).1 h

not_left : (v a p : Coord) → turn_of v a p ≤ℤ pos 0 → is_left v a p ≡ false
not_left v a p h = false_from_ne_true (is_left v a p) (λ t. lt_excludes_le (left_is v a p t) h)

not_same : (a b : Coord) → ¬ (a ≡ b) → is_same_coord a b ≡ false
not_same a b n = false_from_ne_true (is_same_coord a b) (λ t. n ((Decides-same_coords a b).0 t))

not_left_is : (v a p : Coord) → is_left v a p ≡ false → turn_of v a p ≤ℤ pos 0
not_left_is v a p h = (int_lt_false (pos 0) (turn_of v a p)).0 h

-- ---- the four cases

module _ (edges : List Seg) (planar : IsPlanar edges) (v : Coord) (g h k : HalfEdge) (at_g : Leaves edges v g) (at_h : Leaves edges v h) (at_k : Leaves edges v k) where
  abbrev angle : Bool
  angle = is_in_angle v (target g) (target h) (target k)

  abbrev left_of_first : Bool
  left_of_first = is_left v (target g) (target k)

  abbrev left_of_itself : Bool
  left_of_itself = is_left v (target k) (target h)

  -- where the two ends differ, the turn decides
  abbrev by_turn : Bool
  by_turn = cond (is_left v (target g) (target h)) (left_of_first && left_of_itself) (cond (is_left v (target h) (target g)) (left_of_first || left_of_itself) left_of_first)

  angle_by_turn : ¬ (target g ≡ target h) → angle ≡ by_turn
  angle_by_turn differ = cond-false (is_same_coord (target g) (target h)) _ by_turn (not_same (target g) (target h) differ)

  turn_differs : ¬ (turn_of v (target g) (target h) ≡ pos 0) → ¬ (target g ≡ target h)
  turn_differs some same = some (subst (λ c. turn_of v (target g) c ≡ pos 0) same (turn-same_last v (target g)))

  narrow : pos 0 <ℤ turn_of v (target g) (target h) → angle ≡ is_in_sector g h k
  narrow p =
      let law = narrow_sector edges planar v g h k at_g at_h at_k p in
      let both : left_of_first && left_of_itself ≡ is_in_sector g h k = same_tests (left_of_first && left_of_itself) (is_in_sector g h k)
      (λ t. (let parts = and_parts _ _ t in law.1 (left_is v (target g) (target k) parts.0, left_is v (target k) (target h) parts.1)))
      (λ t. (let turns = law.0 t in and_from _ _ (is_left_from v (target g) (target k) turns.0) (is_left_from v (target k) (target h) turns.1))) in
      angle_by_turn (turn_differs (λ e. lt_excludes_eq p (sym e))) ∙ cond-true (is_left v (target g) (target h)) (left_of_first && left_of_itself) _ (is_left_from v (target g) (target h) p) ∙ both

  wide : turn_of v (target g) (target h) <ℤ pos 0 → angle ≡ is_in_sector g h k
  wide p =
      let law = wide_sector edges planar v g h k at_g at_h at_k p in
      let back : pos 0 <ℤ turn_of v (target h) (target g) = (let e = turn-last_two v (target g) (target h) in omega (arith, lin)) in
      let some : left_of_first || left_of_itself ≡ is_in_sector g h k = same_tests (left_of_first || left_of_itself) (is_in_sector g h k)
      (λ t. true_from_ne_false (is_in_sector g h k) (λ f. (let turns = law.0 f in
      false≢true (sym (or_from _ _ (not_left v (target g) (target k) turns.0) (not_left v (target k) (target h) turns.1)) ∙ t))))
      (λ t. true_from_ne_false (left_of_first || left_of_itself) (λ f. (let neither = or_parts _ _ f in
      false≢true (sym (law.1 (not_left_is v (target g) (target k) neither.0, not_left_is v (target k) (target h) neither.1)) ∙ t)))) in
      angle_by_turn (turn_differs (λ e. lt_excludes_eq p e))
      ∙ cond-false (is_left v (target g) (target h)) _ _ (not_left v (target g) (target h) (le_of_lt p))
      ∙ cond-true (is_left v (target h) (target g)) (left_of_first || left_of_itself) _ (is_left_from v (target h) (target g) back)
      ∙ some

  straight : turn_of v (target g) (target h) ≡ pos 0 → ¬ (target g ≡ target h) → angle ≡ is_in_sector g h k
  straight zero differ =
      let law = straight_sector edges planar v g h k at_g at_h at_k (λ same. differ (ap target same)) zero in
      let back : turn_of v (target h) (target g) ≡ pos 0 = (let e = turn-last_two v (target g) (target h) in omega (arith, lin)) in
      let first : left_of_first ≡ is_in_sector g h k = same_tests left_of_first (is_in_sector g h k)
      (λ t. law.1 (left_is v (target g) (target k) t))
      (λ t. is_left_from v (target g) (target k) (law.0 t)) in
      angle_by_turn differ
      ∙ cond-false (is_left v (target g) (target h)) _ _ (not_left v (target g) (target h) (le_of_eq zero))
      ∙ cond-false (is_left v (target h) (target g)) _ _ (not_left v (target h) (target g) (le_of_eq back))
      ∙ first

  full : target g ≡ target h → angle ≡ is_in_sector g h k
  full same =
      let law = full_sector edges planar v g k at_g at_k in
      let one : g ≡ h = same_from_target edges v g h at_g at_h same in
      let other : not (is_same_coord (target g) (target k)) ≡ is_in_sector g g k = same_tests (not (is_same_coord (target g) (target k))) (is_in_sector g g k)
      (λ t. law.1 (λ is. false≢true (sym (not-true _ t) ∙ (Decides-same_coords (target g) (target k)).1 (ap target (sym is)))))
      (λ t. not_from_false _ (not_same (target g) (target k) (λ e. law.0 t (same_from_target edges v k g at_k at_g (sym e))))) in
      cond-true (is_same_coord (target g) (target h)) (not (is_same_coord (target g) (target k))) _ ((Decides-same_coords (target g) (target h)).1 same)
      ∙ other ∙ ap (λ j. is_in_sector g j k) one

  pub angle_is_sector : angle ≡ is_in_sector g h k
  angle_is_sector =
      elim (sign_cases (turn_of v (target g) (target h))) [
        | inl negative ↦ wide negative
        | inr rest ↦ elim rest [
          | inl zero ↦ elim (same_coord_or_not (target g) (target h)) [ inl same ↦ full same | inr differ ↦ straight zero differ ]
          | inr positive ↦ narrow positive
        ]
      ]
