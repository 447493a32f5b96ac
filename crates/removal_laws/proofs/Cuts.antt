-- Points between points between points, and where a way leaves a half-plane.
use mathlib.Core.List.{[], ◌∷◌}
use Rattle.std.proofs.Common.{◌≡◌, ◌⊎◌, inl, inr, refl, sym, ◌∙◌, ap, subst, ℕ, zero, suc, ◌+◌, ◌*◌, ◌≤◌, ℤ, pos, neg_ℤ, ◌+ℤ◌, ◌*ℤ◌, ◌<ℤ◌, ◌≤ℤ◌, arith}
use Rattle.integer_laws.proofs.Ring.{lin, by_two, Var, Lit, ◌⊕◌, ◌⊖◌, ◌⊗◌, Neg, mul_comm, mul_zero}
use Rattle.integer_laws.proofs.Cast.{natural}
use Rattle.integer_laws.proofs.Compare.{lt_or_ge, le_of_lt, lt_excludes_le, lt_excludes_eq}
use Rattle.integer_laws.proofs.Order.{cancel_eq}
use Rattle.integer_laws.proofs.Sign.{zero_factor, nonneg_times_nonneg, nonneg_factor, positive_times_negative}
use Rattle.plane.specs.Point.{Point, SamePoint, IsBetween}
use Rattle.plane.proofs.Forms.{form, form-between, form-same, form_not_negative-between, between_weight}
use Rattle.plane.proofs.Points.{d_positive, weights_positive, second_between}

-- ---- between

some_weight : (d i j : ℕ) → 1 ≤ d → 1 ≤ i + j → 1 ≤ d * i + d * j
some_weight zero i j h w = absurd (omega arith)
some_weight (suc d) i j h w = omega arith

nested_weight : (m n w d i j : ℕ) → 1 ≤ m + n → 1 ≤ w → 1 ≤ d → 1 ≤ i + j → 1 ≤ (m * w + n * (d * i)) + n * (d * j)
nested_weight zero zero w d i j mn hw hd ij = absurd (omega arith)
nested_weight zero (suc n) w d i j mn hw hd ij = let some = some_weight d i j hd ij in omega arith
nested_weight (suc m) n w d i j mn hw hd ij = omega arith

-- over plain variables: y is the mean of p and x with the weights m and n, x that of p and q with the weights i and j
nested : (y yd p pd q qd x xd m n i j : ℤ) → x *ℤ ((i *ℤ pd) +ℤ (j *ℤ qd)) ≡ xd *ℤ ((i *ℤ p) +ℤ (j *ℤ q))
    → y *ℤ ((m *ℤ pd) +ℤ (n *ℤ xd)) ≡ yd *ℤ ((m *ℤ p) +ℤ (n *ℤ x))
    → y *ℤ ((((m *ℤ ((i *ℤ pd) +ℤ (j *ℤ qd))) +ℤ (n *ℤ (xd *ℤ i))) *ℤ pd) +ℤ ((n *ℤ (xd *ℤ j)) *ℤ qd))
    ≡ yd *ℤ ((((m *ℤ ((i *ℤ pd) +ℤ (j *ℤ qd))) +ℤ (n *ℤ (xd *ℤ i))) *ℤ p) +ℤ ((n *ℤ (xd *ℤ j)) *ℤ q))
nested y yd p pd q qd x xd m n i j h k =
    let w = Var 10 ⊗ Var 3 ⊕ Var 11 ⊗ Var 5 in
    let first = Var 8 ⊗ w ⊕ Var 9 ⊗ (Var 7 ⊗ Var 10) in
    let second = Var 9 ⊗ (Var 7 ⊗ Var 11) in
    by_two (y ∷ yd ∷ p ∷ pd ∷ q ∷ qd ∷ x ∷ xd ∷ m ∷ n ∷ i ∷ j ∷ [])
    (Var 0 ⊗ (first ⊗ Var 3 ⊕ second ⊗ Var 5)) (Var 1 ⊗ (first ⊗ Var 2 ⊕ second ⊗ Var 4))
    (Var 1 ⊗ Var 9) (Var 6 ⊗ w) (Var 7 ⊗ (Var 10 ⊗ Var 2 ⊕ Var 11 ⊗ Var 4))
    w (Var 0 ⊗ (Var 8 ⊗ Var 3 ⊕ Var 9 ⊗ Var 7)) (Var 1 ⊗ (Var 8 ⊗ Var 2 ⊕ Var 9 ⊗ Var 6)) refl h k

-- a point between p and a point between p and q is between p and q
pub between-trans : (y p x q : Point) → IsBetween y p x → IsBetween x p q → IsBetween y p q
between-trans y p x q h k = record {
  first = h.first * (k.first * p.d + k.second * q.d) + h.second * (x.d * k.first);
  second = h.second * (x.d * k.second);
  weighted =
      nested_weight h.first h.second (k.first * p.d + k.second * q.d) x.d k.first k.second h.weighted
      (weights_positive k.first k.second p.d q.d k.weighted p.positive q.positive) x.positive k.weighted;
  x = nested y.x (pos y.d) p.x (pos p.d) q.x (pos q.d) x.x (pos x.d) (pos h.first) (pos h.second) (pos k.first) (pos k.second) k.x h.x;
  y = nested y.y (pos y.d) p.y (pos p.d) q.y (pos q.d) x.y (pos x.d) (pos h.first) (pos h.second) (pos k.first) (pos k.second) k.y h.y;
}

-- over plain variables: a mean without its second part
unmixed : (r rd p pd q qd m n : ℤ) → pos 0 <ℤ m → n ≡ pos 0 → r *ℤ ((m *ℤ pd) +ℤ (n *ℤ qd)) ≡ rd *ℤ ((m *ℤ p) +ℤ (n *ℤ q)) → r *ℤ pd ≡ p *ℤ rd
unmixed r rd p pd q qd m n positive none h =
    cancel_eq m (r *ℤ pd) (p *ℤ rd) positive
    (by_two (r ∷ rd ∷ p ∷ pd ∷ q ∷ qd ∷ m ∷ n ∷ []) (Var 6 ⊗ (Var 0 ⊗ Var 3)) (Var 6 ⊗ (Var 2 ⊗ Var 1))
    (Neg (Var 0 ⊗ Var 5 ⊖ Var 1 ⊗ Var 4)) (Var 7) (Lit (pos 0))
    (Lit (pos 1)) (Var 0 ⊗ (Var 6 ⊗ Var 3 ⊕ Var 7 ⊗ Var 5)) (Var 1 ⊗ (Var 6 ⊗ Var 2 ⊕ Var 7 ⊗ Var 4)) refl none h)

-- a mean in which q has no weight is p
pub only_first : (r p q : Point) (h : IsBetween r p q) → h.second ≡ 0 → SamePoint r p
only_first r p q h none =
    let w = h.weighted in
    let positive : pos 0 <ℤ pos h.first = omega (arith, lin) in (
      unmixed r.x (pos r.d) p.x (pos p.d) q.x (pos q.d) (pos h.first) (pos h.second) positive (ap pos none) h.x,
      unmixed r.y (pos r.d) p.y (pos p.d) q.y (pos q.d) (pos h.first) (pos h.second) positive (ap pos none) h.y,
    )

-- ---- half-planes

-- the points where a form is not negative
pub record HalfPlane : Type 0 where
  pub a : ℤ
  pub b : ℤ
  pub c : ℤ

-- the form at a point
abbrev pub depth : HalfPlane → Point → ℤ
depth l p = form l.a l.b l.c p

pub not_negative-same : (l : HalfPlane) (p q : Point) → SamePoint p q → pos 0 ≤ℤ depth l p → pos 0 ≤ℤ depth l q
not_negative-same l p q same h =
    let e = form-same l.a l.b l.c p q same in
    let product = nonneg_times_nonneg {x = depth l p} {y = pos q.d} h (le_of_lt (d_positive q)) in
    nonneg_factor (pos p.d) (depth l q) (d_positive p) (omega (arith, lin, mul_comm (pos p.d) (depth l q)))

pub zero-same : (l : HalfPlane) (p q : Point) → SamePoint p q → depth l p ≡ pos 0 → depth l q ≡ pos 0
zero-same l p q same h =
    let e = form-same l.a l.b l.c p q same in
    zero_factor (pos p.d) (depth l q) (λ z. lt_excludes_eq (d_positive p) (sym z))
    (mul_comm (pos p.d) (depth l q) ∙ sym e ∙ ap (λ x. x *ℤ pos q.d) h ∙ mul_comm (pos 0) (pos q.d) ∙ mul_zero (pos q.d))

-- a point of the half-plane between a point on its line and one beyond it is that on the line
pub at_line : (l : HalfPlane) (r p q : Point) → IsBetween r p q → depth l p ≡ pos 0 → depth l q <ℤ pos 0 → pos 0 ≤ℤ depth l r → SamePoint r p
at_line l r p q h hp hq hr =
    let e = form-between l.a l.b l.c r p q h in
    let first : pos h.first *ℤ depth l p ≡ pos 0 = ap (λ x. pos h.first *ℤ x) hp ∙ mul_zero (pos h.first) in
    let product = nonneg_times_nonneg {x = depth l r} {y = pos (h.first * p.d + h.second * q.d)} hr (le_of_lt (between_weight r p q h)) in
    let inner : pos 0 ≤ℤ ((pos h.first *ℤ depth l p) +ℤ (pos h.second *ℤ depth l q)) = nonneg_factor (pos r.d) _ (d_positive r) (omega (arith, lin)) in
    elim (lt_or_ge (pos 0) (pos h.second)) [
      | inl some ↦ absurd (let negative = positive_times_negative {x = pos h.second} {y = depth l q} some hq in omega (arith, lin))
      | inr none ↦ only_first r p q h (omega (arith, lin))
    ]

-- where the way from p to q leaves the half-plane
record IsCut (l : HalfPlane) (p q x : Point) : Type 0 where
  between : IsBetween x p q
  zero : depth l x ≡ pos 0

cut_of : (l : HalfPlane) (p q : Point) (m n : ℕ) → depth l p ≡ pos m → depth l q ≡ neg_ℤ (pos n) → 1 ≤ n → (x : Point) × IsCut l p q x
cut_of l p q m n em en positive =
    let weight = weights_positive n m p.d q.d (omega arith) p.positive q.positive in
    let x = (pos n *ℤ p.x) +ℤ (pos m *ℤ q.x) in
    let y = (pos n *ℤ p.y) +ℤ (pos m *ℤ q.y) in
    let d = n * p.d + m * q.d in
    let r : Point = record { x = x; y = y; d = d; positive = weight } in
    let between : IsBetween r p q = record { first = n; second = m; weighted = omega arith; x = mul_comm x (pos d); y = mul_comm y (pos d) } in
    let sum : (pos n *ℤ depth l p) +ℤ (pos m *ℤ depth l q) ≡ pos 0 =
    by_two (pos n ∷ pos m ∷ depth l p ∷ depth l q ∷ []) (Var 0 ⊗ Var 2 ⊕ Var 1 ⊗ Var 3) (Lit (pos 0))
    (Var 0) (Var 2) (Var 1) (Var 1) (Var 3) (Neg (Var 0)) refl em en in (
      r,
      record {
        between = between;
        zero =
            zero_factor (pos d) (depth l r) (λ z. lt_excludes_eq (between_weight r p q between) (sym z))
            (mul_comm (pos d) (depth l r) ∙ form-between l.a l.b l.c r p q between ∙ ap (λ v. pos d *ℤ v) sum ∙ mul_zero (pos d));
      },
    )

cut : (l : HalfPlane) (p q : Point) → pos 0 ≤ℤ depth l p → depth l q <ℤ pos 0 → (x : Point) × IsCut l p q x
cut l p q hp hq =
    let (m, em) = natural (depth l p) hp in
    let (n, en) = natural (neg_ℤ (depth l q)) (omega (arith, lin)) in
    cut_of l p q m n em (let e = en in omega (arith, lin)) (let e = en in omega (arith, lin))

-- ---- leaving three half-planes

-- y is x, or where the way from p to x leaves the half-plane
record IsCutAt (l : HalfPlane) (p x y : Point) : Type 0 where
  between : IsBetween y p x
  inside : pos 0 ≤ℤ depth l y
  how : (y ≡ x) ⊎ ((depth l y ≡ pos 0) × (depth l x <ℤ pos 0))

cut_at : (l : HalfPlane) (p x : Point) → pos 0 ≤ℤ depth l p → (y : Point) × IsCutAt l p x y
cut_at l p x hp =
    elim (lt_or_ge (depth l x) (pos 0)) [
      | inl beyond ↦ (
          let (y, c) = cut l p x hp beyond in
          (y, record { between = c.between; inside = (let z = c.zero in omega (arith, lin)); how = inr (c.zero, beyond) })
          )
      | inr within ↦ (x, record { between = second_between p x; inside = within; how = inl refl })
    ]

-- a point between p and q that is beyond the line: so is q
beyond_too : (l : HalfPlane) (p q x : Point) → IsBetween x p q → pos 0 ≤ℤ depth l p → depth l x <ℤ pos 0 → depth l q <ℤ pos 0
beyond_too l p q x h hp hx =
    elim (lt_or_ge (depth l q) (pos 0)) [
      | inl beyond ↦ beyond
      | inr within ↦ absurd (lt_excludes_le hx (form_not_negative-between l.a l.b l.c x p q h hp within))
    ]

-- the point is in the three half-planes
pub record IsInAll (k l m : HalfPlane) (p : Point) : Type 0 where
  pub first : pos 0 ≤ℤ depth k p
  pub second : pos 0 ≤ℤ depth l p
  pub third : pos 0 ≤ℤ depth m p

-- x is on the line, and q beyond it
abbrev pub LeavesAt : HalfPlane → Point → Point → Type 0
LeavesAt l q x = (depth l x ≡ pos 0) × (depth l q <ℤ pos 0)

-- the way from p to q leaves the three half-planes at x
pub record IsExit (k l m : HalfPlane) (p q x : Point) : Type 0 where
  pub between : IsBetween x p q
  pub inside : IsInAll k l m x
  pub by : LeavesAt k q x ⊎ (LeavesAt l q x ⊎ LeavesAt m q x)

pub leave : (k l m : HalfPlane) (p q : Point) → IsInAll k l m p → ¬ IsInAll k l m q → (x : Point) × IsExit k l m p q x
leave k l m p q inside outside =
    let (x, cx) = cut_at k p q inside.first in
    let (y, cy) = cut_at l p x inside.second in
    let (z, cz) = cut_at m p y inside.third in
    let on_y = between-trans y p x q cy.between cx.between in
    let first_y = form_not_negative-between k.a k.b k.c y p x cy.between inside.first cx.inside in
    let first_z = form_not_negative-between k.a k.b k.c z p y cz.between inside.first first_y in
    let second_z = form_not_negative-between l.a l.b l.c z p y cz.between inside.second cy.inside in
    let all : IsInAll k l m z = record { first = first_z; second = second_z; third = cz.inside } in
    let why : LeavesAt k q z ⊎ (LeavesAt l q z ⊎ LeavesAt m q z) =
    elim cz.how [
      | inr (on_line, beyond) ↦ inr (inr (on_line, beyond_too m p q y on_y inside.third beyond))
      | inl zy ↦ elim cy.how [
        | inr (on_line, beyond) ↦ inr (inl (ap (λ v. depth l v) zy ∙ on_line, beyond_too l p q x cx.between inside.second beyond))
        | inl yx ↦ elim cx.how [
          | inr (on_line, beyond) ↦ inl (ap (λ v. depth k v) (zy ∙ yx) ∙ on_line, beyond)
          | inl xq ↦ absurd (outside (subst (IsInAll k l m) (zy ∙ yx ∙ xq) all))
        ]
      ]
    ] in
    (z, record { between = between-trans z p y q cz.between on_y; inside = all; by = why })
