-- The side points of the three sides of a triangle to the left: in it on the inner side, and joined across ab and bc.
use mathlib.Core.List.{[], ◌∷◌}
use Rattle.std.proofs.Common.{◌≡◌, ◌⊎◌, inl, inr, refl, sym, ◌∙◌, ap, subst, ◌^◌, Bool, true, false, cond, List, ℤ, pos, neg_ℤ, ◌+ℤ◌, ◌-ℤ◌, ◌*ℤ◌, ◌≤ℤ◌, ◌<ℤ◌, arith}
use Rattle.std.specs.Prelude.{Contains}
use Rattle.std.proofs.lemmas.Bool.{false≢true}
use Rattle.integer_laws.proofs.Compare.{le_of_lt, lt_excludes_le, lt_excludes_eq}
use Rattle.integer_laws.proofs.Ring.{lin, by_ring, Var, Lit, ◌⊕◌, ◌⊖◌, ◌⊗◌, pos_times}
use Rattle.cov_types.specs.declared.coord.Coord.{Coord}
use Rattle.cov_types.specs.declared.seg.Seg.{Seg}
use Rattle.cov_types.specs.Coord.{is_same_coord}
use Rattle.cov_types.specs.Range.{IsInRange, IsSegInRange}
use Rattle.cov_types.specs.Seg.{IsSegBetween}
use Rattle.cov_types.proofs.Equal.{Decides-same_coords}
use Rattle.plane.specs.Joined.{IsClear, Joined}
use Rattle.plane.specs.Point.{Point, at_coord, IsBetween}
use Rattle.plane.specs.Segment.{IsOn, upper, lower}
use Rattle.plane.proofs.Forms.{form, form_positive-between, form_zero-between}
use Rattle.plane.proofs.Points.{between-sym}
use Rattle.plane.proofs.Sides.{side-form}
use Rattle.plane.proofs.Sweeps.{rises-in_range}
use Rattle.crossing_laws.proofs.Beside.{HaveOnlyEnds, side-upper, side-lower, side_points_clear}
use Rattle.crossing_laws.proofs.Ways.{joined_by_clear, joined-trans}
use Rattle.greedy_run.specs.Run.{Triangle}
use Rattle.greedy_run.specs.Sides.{left_from, right_from}
use Rattle.removal_laws.specs.Ear.{IsWithin, AreThreeSides, MeetsInEndsAlone, IsFreeOf, IsOther}
use Rattle.removal_laws.proofs.Cuts.{HalfPlane, depth}
use Rattle.removal_laws.proofs.Ear.{between_ends}
use Rattle.removal_laws.proofs.Exchange.{ends_differ, coord_cases}
use Rattle.removal_laws.proofs.Inner.{inner}
use Rattle.removal_laws.proofs.Inside.{left_of, left-first, left-second, left-exchanged, area, to_a, to_b, to_c, depth-a, depth-b, depth-c, within-inside, inside-within}
use Rattle.removal_laws.proofs.Pasch.{upwards_of}

-- ---- the depths of side points

depth-upper : (l : HalfPlane) (e : Seg) → depth l (upper e) ≡ (pos (2 ^ 63) *ℤ (depth l (at_coord e.lo) +ℤ depth l (at_coord e.hi))) +ℤ ((pos (2 ^ 30) *ℤ l.b) -ℤ l.a)
unfolding form
depth-upper l e =
    by_ring (l.a ∷ l.b ∷ l.c ∷ e.lo.x ∷ e.lo.y ∷ e.hi.x ∷ e.hi.y ∷ [])
    ((Var 0 ⊗ (Lit (pos (2 ^ 63)) ⊗ (Var 3 ⊕ Var 5) ⊖ Lit (pos 1)) ⊕ Var 1 ⊗ (Lit (pos (2 ^ 63)) ⊗ (Var 4 ⊕ Var 6) ⊕ Lit (pos (2 ^ 30)))) ⊕ Var 2 ⊗ Lit (pos (2 ^ 64)))
    (Lit (pos (2 ^ 63)) ⊗ (((Var 0 ⊗ Var 3 ⊕ Var 1 ⊗ Var 4) ⊕ Var 2 ⊗ Lit (pos 1)) ⊕ ((Var 0 ⊗ Var 5 ⊕ Var 1 ⊗ Var 6) ⊕ Var 2 ⊗ Lit (pos 1))) ⊕ (Lit (pos (2 ^ 30)) ⊗ Var 1 ⊖ Var 0)) refl

depth-lower : (l : HalfPlane) (e : Seg) → depth l (lower e) ≡ (pos (2 ^ 63) *ℤ (depth l (at_coord e.lo) +ℤ depth l (at_coord e.hi))) -ℤ ((pos (2 ^ 30) *ℤ l.b) -ℤ l.a)
unfolding form
depth-lower l e =
    by_ring (l.a ∷ l.b ∷ l.c ∷ e.lo.x ∷ e.lo.y ∷ e.hi.x ∷ e.hi.y ∷ [])
    ((Var 0 ⊗ (Lit (pos (2 ^ 63)) ⊗ (Var 3 ⊕ Var 5) ⊕ Lit (pos 1)) ⊕ Var 1 ⊗ (Lit (pos (2 ^ 63)) ⊗ (Var 4 ⊕ Var 6) ⊖ Lit (pos (2 ^ 30)))) ⊕ Var 2 ⊗ Lit (pos (2 ^ 64)))
    (Lit (pos (2 ^ 63)) ⊗ (((Var 0 ⊗ Var 3 ⊕ Var 1 ⊗ Var 4) ⊕ Var 2 ⊗ Lit (pos 1)) ⊕ ((Var 0 ⊗ Var 5 ⊕ Var 1 ⊗ Var 6) ⊕ Var 2 ⊗ Lit (pos 1))) ⊖ (Lit (pos (2 ^ 30)) ⊗ Var 1 ⊖ Var 0)) refl

-- how far to the side: less than 2^63 in range
record IsSlight (g : ℤ) : Type 0 where
  low : neg_ℤ (pos (2 ^ 62)) ≤ℤ g
  high : g ≤ℤ pos (2 ^ 62)

slight : (u v : Coord) → IsInRange u → IsInRange v → IsSlight ((pos (2 ^ 30) *ℤ (left_of u v).b) -ℤ (left_of u v).a)
slight u v ru rv = record {
  low = omega (arith, lin, pos_times (2 ^ 30) (v.x -ℤ u.x), ru.left, ru.right, ru.bottom, ru.top, rv.left, rv.right, rv.bottom, rv.top);
  high = omega (arith, lin, pos_times (2 ^ 30) (v.x -ℤ u.x), ru.left, ru.right, ru.bottom, ru.top, rv.left, rv.right, rv.bottom, rv.top);
}

far_more : (sum g : ℤ) → pos 0 <ℤ sum → IsSlight g → pos 0 <ℤ ((pos (2 ^ 63) *ℤ sum) +ℤ g)
far_more sum g some s = omega (arith, lin, pos_times (2 ^ 63) sum, s.low, s.high)

far_less : (sum g : ℤ) → pos 0 <ℤ sum → IsSlight g → pos 0 <ℤ ((pos (2 ^ 63) *ℤ sum) -ℤ g)
far_less sum g some s = omega (arith, lin, pos_times (2 ^ 63) sum, s.low, s.high)

-- ---- the side points from an end

-- on the left of a segment from one of its ends is on the right from the other
pub left_turned : (a b : Coord) (e : Seg) → IsSegBetween a b e → left_from a e ≡ right_from b e
left_turned a b e (inl s) =
    ap (λ (t : Bool). cond t (upper e) (lower e)) (yes a e.lo (sym s.0)) ∙ sym (ap (λ (t : Bool). cond t (lower e) (upper e)) (no b e.lo (λ is. ends_differ a b e (inl s) (sym s.0 ∙ sym is))))
  where
    yes : (p q : Coord) → p ≡ q → is_same_coord p q ≡ true
    yes p q is = (Decides-same_coords p q).1 is

    no : (p q : Coord) → ¬ (p ≡ q) → is_same_coord p q ≡ false
    no p q apart = elim (coord_cases p q) [ inl same ↦ absurd (apart ((Decides-same_coords p q).0 same)) | inr other ↦ other ]
left_turned a b e (inr s) =
    ap (λ (t : Bool). cond t (upper e) (lower e)) (no a e.lo (λ is. ends_differ a b e (inr s) (is ∙ s.0))) ∙ sym (ap (λ (t : Bool). cond t (lower e) (upper e)) (yes b e.lo (sym s.0)))
  where
    yes : (p q : Coord) → p ≡ q → is_same_coord p q ≡ true
    yes p q is = (Decides-same_coords p q).1 is

    no : (p q : Coord) → ¬ (p ≡ q) → is_same_coord p q ≡ false
    no p q apart = elim (coord_cases p q) [ inl same ↦ absurd (apart ((Decides-same_coords p q).0 same)) | inr other ↦ other ]

-- the side points from the lesser end, and from the other
pub record AreBeside (a : Coord) (e : Seg) (l r : Point) : Type 0 where
  pub left : left_from a e ≡ l
  pub right : right_from a e ≡ r

pub beside_lo : (a : Coord) (e : Seg) → e.lo ≡ a → AreBeside a e (upper e) (lower e)
beside_lo a e is = record { left = ap (λ (t : Bool). cond t (upper e) (lower e)) yes; right = ap (λ (t : Bool). cond t (lower e) (upper e)) yes }
  where
    yes : is_same_coord a e.lo ≡ true
    yes = (Decides-same_coords a e.lo).1 (sym is)

pub beside_hi : (a : Coord) (e : Seg) → ¬ (e.lo ≡ a) → AreBeside a e (lower e) (upper e)
beside_hi a e apart = record { left = ap (λ (t : Bool). cond t (upper e) (lower e)) no; right = ap (λ (t : Bool). cond t (lower e) (upper e)) no }
  where
    no : is_same_coord a e.lo ≡ false
    no = elim (coord_cases a e.lo) [ inl same ↦ absurd (apart (sym ((Decides-same_coords a e.lo).0 same))) | inr other ↦ other ]

-- of the two side points one is above
pub beside_or : (a : Coord) (e : Seg) → AreBeside a e (upper e) (lower e) ⊎ AreBeside a e (lower e) (upper e)
beside_or a e = elim (coord_cases a e.lo) [
  | inl same ↦ inl (beside_lo a e (sym ((Decides-same_coords a e.lo).0 same)))
  | inr other ↦ inr (beside_hi a e (λ is. false≢true (sym other ∙ (Decides-same_coords a e.lo).1 (sym is))))
]

-- the left one is strictly on the left, and the right one on the right
pub record AreAside (u v : Coord) (e : Seg) : Type 0 where
  pub left : pos 0 <ℤ depth (left_of u v) (left_from u e)
  pub right : depth (left_of u v) (right_from u e) <ℤ pos 0

pub aside : (u v : Coord) (e : Seg) → IsSegBetween u v e → IsSegInRange e → AreAside u v e
aside u v e is he =
    let up = rises-in_range e he in
    elim (upwards_of u v e up is) [
      | inl forth ↦ (
          let at = beside_lo u e forth.lo in
          let low = side-form e (lower e) ∙ (λ i. depth (left_of (forth.lo i) (forth.hi i)) (lower e)) in
          let high = side-form e (upper e) ∙ (λ i. depth (left_of (forth.lo i) (forth.hi i)) (upper e)) in
          record {
            left = subst (λ p. pos 0 <ℤ depth (left_of u v) p) (sym at.left) (let s = side-upper e in omega (arith, lin));
            right = subst (λ p. depth (left_of u v) p <ℤ pos 0) (sym at.right) (let s = side-lower e in omega (arith, lin));
          }
          )
      | inr back ↦ (
          let at = beside_hi u e (λ lo. ends_differ u v e is (sym lo ∙ back.lo)) in
          let low = side-form e (lower e) ∙ (λ i. depth (left_of (back.lo i) (back.hi i)) (lower e)) ∙ left-exchanged u v (lower e) in
          let high = side-form e (upper e) ∙ (λ i. depth (left_of (back.lo i) (back.hi i)) (upper e)) ∙ left-exchanged u v (upper e) in
          record {
            left = subst (λ p. pos 0 <ℤ depth (left_of u v) p) (sym at.left) (let s = side-lower e in omega (arith, lin));
            right = subst (λ p. depth (left_of u v) p <ℤ pos 0) (sym at.right) (let s = side-upper e in omega (arith, lin));
          }
          )
    ]

-- where the ends of a segment are together on the left of a line, so are both side points
pub record AreDeep (l : HalfPlane) (u : Coord) (e : Seg) : Type 0 where
  pub left : pos 0 <ℤ depth l (left_from u e)
  pub right : pos 0 <ℤ depth l (right_from u e)

pub deep : (p q u v : Coord) (e : Seg) → IsInRange p → IsInRange q → IsSegBetween u v e → pos 0 <ℤ (depth (left_of p q) (at_coord u) +ℤ depth (left_of p q) (at_coord v)) → AreDeep (left_of p q) u e
deep p q u v e rp rq is some =
    let l = left_of p q in
    let s = slight p q rp rq in
    let sum : pos 0 <ℤ (depth l (at_coord e.lo) +ℤ depth l (at_coord e.hi)) = ends_sum is in
    let high : pos 0 <ℤ depth l (upper e) = (let d = depth-upper l e in let f = far_more (depth l (at_coord e.lo) +ℤ depth l (at_coord e.hi)) _ sum s in omega (arith, lin)) in
    let low : pos 0 <ℤ depth l (lower e) = (let d = depth-lower l e in let f = far_less (depth l (at_coord e.lo) +ℤ depth l (at_coord e.hi)) _ sum s in omega (arith, lin)) in
    elim (beside_or u e) [
      | inl at ↦ record { left = subst (λ x. pos 0 <ℤ depth l x) (sym at.left) high; right = subst (λ x. pos 0 <ℤ depth l x) (sym at.right) low }
      | inr at ↦ record { left = subst (λ x. pos 0 <ℤ depth l x) (sym at.left) low; right = subst (λ x. pos 0 <ℤ depth l x) (sym at.right) high }
    ]
  where
    ends_sum : IsSegBetween u v e → pos 0 <ℤ (depth (left_of p q) (at_coord e.lo) +ℤ depth (left_of p q) (at_coord e.hi))
    ends_sum (inl t) = subst (λ x. pos 0 <ℤ (depth (left_of p q) (at_coord x) +ℤ depth (left_of p q) (at_coord e.hi))) (sym t.0) (subst (λ y. pos 0 <ℤ (depth (left_of p q) (at_coord u) +ℤ depth (left_of p q) (at_coord y))) (sym t.1) some)
    ends_sum (inr t) =
        let turned : pos 0 <ℤ (depth (left_of p q) (at_coord v) +ℤ depth (left_of p q) (at_coord u)) = omega (arith, lin) in
        subst (λ x. pos 0 <ℤ (depth (left_of p q) (at_coord x) +ℤ depth (left_of p q) (at_coord e.hi))) (sym t.0) (subst (λ y. pos 0 <ℤ (depth (left_of p q) (at_coord v) +ℤ depth (left_of p q) (at_coord y))) (sym t.1) turned)

-- ---- a triangle to the left

range_of_ends : (u v : Coord) (e : Seg) → IsSegBetween u v e → IsSegInRange e → IsInRange u
range_of_ends u v e (inl s) r = subst IsInRange s.0 r.lo
range_of_ends u v e (inr s) r = subst IsInRange s.1 r.hi

range_of_last : (u v : Coord) (e : Seg) → IsSegBetween u v e → IsSegInRange e → IsInRange v
range_of_last u v e (inl s) r = subst IsInRange s.1 r.hi
range_of_last u v e (inr s) r = subst IsInRange s.0 r.lo

-- x is joined with p, and out of the triangle
pub record IsPastSide (t : Triangle) (edges : List Seg) (p x : Point) : Type 0 where
  pub joined : Joined edges p x
  pub outside : ¬ IsWithin t x

module _ (t : Triangle) (ab bc ac : Seg) (sides : AreThreeSides t ab bc ac) (apart : MeetsInEndsAlone ab bc)
    (edges : List Seg) (others : (e : Seg) → Contains edges e → IsOther t ab bc ac e) (range : (e : Seg) → Contains edges e → IsSegInRange e) (positive : pos 0 <ℤ area t)
  where
    ra : IsInRange t.a
    ra = range_of_ends t.a t.b ab sides.two.first sides.two.first_in_range

    rb : IsInRange t.b
    rb = range_of_last t.a t.b ab sides.two.first sides.two.first_in_range

    rc : IsInRange t.c
    rc = range_of_last t.b t.c bc sides.two.second sides.two.second_in_range

    within_by_depths : (p : Point) → pos 0 <ℤ depth (to_a t) p → pos 0 <ℤ depth (to_b t) p → pos 0 <ℤ depth (to_c t) p → IsWithin t p
    within_by_depths p a b c = inside-within t p positive (record { first = le_of_lt a; second = le_of_lt b; third = le_of_lt c })

    -- a point strictly on b's side is off ac
    off_third : (p : Point) → pos 0 <ℤ depth (to_b t) p → ¬ IsOn ac p
    off_third p deep_b on =
        let l = to_b t in
        lt_excludes_eq deep_b (sym (form_zero-between l.a l.b l.c p (at_coord t.a) (at_coord t.c) (between_ends t.a t.c ac p sides.third on) (left-second t.c t.a) (left-first t.c t.a)))

    -- the inner side point of ac
    third_to_a : AreDeep (to_a t) t.a ac
    third_to_a = deep t.b t.c t.a t.c ac rb rc sides.third (let x = depth-a t in let y = left-second t.b t.c in omega (arith, lin))

    third_to_c : AreDeep (to_c t) t.a ac
    third_to_c = deep t.a t.b t.a t.c ac ra rb sides.third (let x = depth-c t in let y = left-first t.a t.b in omega (arith, lin))

    third_to_b : pos 0 <ℤ depth (to_b t) (right_from t.a ac)
    third_to_b =
        let h = (aside t.a t.c ac sides.third sides.third_in_range).right in
        let turned = left-exchanged t.a t.c (right_from t.a ac) in
        omega (arith, lin)

    third_within : IsWithin t (right_from t.a ac)
    third_within = within_by_depths (right_from t.a ac) third_to_a.right third_to_b third_to_c.right

    -- from the inner side point of ac past another side, from u to v
    past : (u v : Coord) (f : Seg) → IsSegBetween u v f → IsSegInRange f → IsWithin t (left_from u f) → AreDeep (to_b t) u f → ((x : Point) → IsWithin t x → pos 0 ≤ℤ depth (left_of u v) x)
        → ((e : Seg) → IsFreeOf t ab bc e → HaveOnlyEnds f e) → IsPastSide t edges (right_from t.a ac) (right_from u f)
    past u v f is hf within away bound ends = record {
      joined = joined-trans edges (right_from t.a ac) (left_from u f) (right_from u f)
          (joined_by_clear edges (right_from t.a ac) (left_from u f) (inner t ab bc ac sides apart edges others (right_from t.a ac) (left_from u f) third_within (off_third (right_from t.a ac) third_to_b) within (off_third (left_from u f) away.left)))
          (joined_by_clear edges (left_from u f) (right_from u f) across);
      outside = λ inside. lt_excludes_le (aside u v f is hf).right (bound (right_from u f) inside);
    }
      where
        between_sides : (r : Point) → IsBetween r (left_from u f) (right_from u f) → IsBetween r (lower f) (upper f)
        between_sides r between = elim (beside_or u f) [
          | inl at ↦ between-sym r (upper f) (lower f) (subst (λ p. IsBetween r p (lower f)) at.left (subst (λ q. IsBetween r (left_from u f) q) at.right between))
          | inr at ↦ subst (λ p. IsBetween r p (upper f)) at.left (subst (λ q. IsBetween r (left_from u f) q) at.right between)
        ]

        across : IsClear edges (left_from u f) (right_from u f)
        across = λ e has r between on.
            elim (others e has) [
              | inl is ↦ (
                  let l = to_b t in
                  off_third r (form_positive-between l.a l.b l.c r (left_from u f) (right_from u f) between away.left away.right) (subst (λ s. IsOn s r) is on)
                  )
              | inr free ↦ (side_points_clear f e hf (range e has) (ends e free)).none r (between_sides r between) on
            ]

    -- past ab
    pub past_first : IsPastSide t edges (right_from t.a ac) (right_from t.a ab)
    past_first =
        let a_deep = deep t.b t.c t.a t.b ab rb rc sides.two.first (let x = depth-a t in let y = left-first t.b t.c in omega (arith, lin)) in
        let b_deep = deep t.c t.a t.a t.b ab rc ra sides.two.first (let x = depth-b t in let y = left-second t.c t.a in omega (arith, lin)) in
        past t.a t.b ab sides.two.first sides.two.first_in_range
        (within_by_depths (left_from t.a ab) a_deep.left b_deep.left (aside t.a t.b ab sides.two.first sides.two.first_in_range).left)
        b_deep (λ x inside. (within-inside t x (le_of_lt positive) inside).third)
        (λ e free r common. (let ends = free.first r (common.1, common.0) in (ends.1, ends.0)))

    -- past bc
    pub past_second : IsPastSide t edges (right_from t.a ac) (right_from t.b bc)
    past_second =
        let c_deep = deep t.a t.b t.b t.c bc ra rb sides.two.second (let x = depth-c t in let y = left-second t.a t.b in omega (arith, lin)) in
        let b_deep = deep t.c t.a t.b t.c bc rc ra sides.two.second (let x = depth-b t in let y = left-first t.c t.a in omega (arith, lin)) in
        past t.b t.c bc sides.two.second sides.two.second_in_range
        (within_by_depths (left_from t.b bc) (aside t.b t.c bc sides.two.second sides.two.second_in_range).left b_deep.left c_deep.left)
        b_deep (λ x inside. (within-inside t x (le_of_lt positive) inside).first)
        (λ e free r common. (let ends = free.second r (common.1, common.0) in (ends.1, ends.0)))
