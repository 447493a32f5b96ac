-- One point, and points between two points.
use mathlib.Core.List.{[], ◌∷◌}
use Rattle.std.proofs.Common.{◌≡◌, ◌⊎◌, inl, inr, refl, sym, ℕ, zero, suc, ◌+◌, ◌*◌, ◌≤◌, ◌<◌, ℤ, pos, negsuc, ◌+ℤ◌, ◌*ℤ◌, ◌<ℤ◌, ◌≤ℤ◌, arith}
use Rattle.integer_laws.proofs.Ring.{lin, by_ring, by_one, by_two, Var, Lit, ◌⊕◌, ◌⊗◌, Neg}
use Rattle.integer_laws.proofs.Compare.{eq_or_not}
use Rattle.integer_laws.proofs.Order.{cancel_eq}
use Rattle.plane.specs.Point.{Point, SamePoint, IsBetween}

-- a denominator is positive
pub d_positive : (p : Point) → pos 0 <ℤ pos p.d
d_positive p = let h = p.positive in omega (arith, lin)

-- ---- one point

pub same_point-refl : (p : Point) → SamePoint p p
same_point-refl p = (refl, refl)

pub same_point-sym : (p q : Point) → SamePoint p q → SamePoint q p
same_point-sym p q h = (sym h.0, sym h.1)

-- p/d = q/e and q/e = r/f
same_ratio-trans : (p d q e r f : ℤ) → pos 0 <ℤ e → p *ℤ e ≡ q *ℤ d → q *ℤ f ≡ r *ℤ e → p *ℤ f ≡ r *ℤ d
same_ratio-trans p d q e r f positive h k =
    cancel_eq e (p *ℤ f) (r *ℤ d) positive
    (by_two (p ∷ d ∷ q ∷ e ∷ r ∷ f ∷ []) (Var 3 ⊗ (Var 0 ⊗ Var 5)) (Var 3 ⊗ (Var 4 ⊗ Var 1))
    (Var 5) (Var 0 ⊗ Var 3) (Var 2 ⊗ Var 1)
    (Var 1) (Var 2 ⊗ Var 5) (Var 4 ⊗ Var 3) refl h k)

pub same_point-trans : (p q r : Point) → SamePoint p q → SamePoint q r → SamePoint p r
same_point-trans p q r h k = (
  same_ratio-trans p.x (pos p.d) q.x (pos q.d) r.x (pos r.d) (d_positive q) h.0 k.0,
  same_ratio-trans p.y (pos p.d) q.y (pos q.d) r.y (pos r.d) (d_positive q) h.1 k.1,
)

-- two points are one or they are not
pub same_point-or_not : (p q : Point) → SamePoint p q ⊎ ¬ SamePoint p q
same_point-or_not p q =
    elim (eq_or_not (p.x *ℤ pos q.d) (q.x *ℤ pos p.d)) [
      | inl e ↦ elim (eq_or_not (p.y *ℤ pos q.d) (q.y *ℤ pos p.d)) [
        | inl f ↦ inl (e, f)
        | inr n ↦ inr (λ s. n s.1)
      ]
      | inr n ↦ inr (λ s. n s.0)
    ]

-- ---- points between two points

-- p itself, with all the weight
pub first_between : (p q : Point) → IsBetween p p q
first_between p q = record {
  first = 1;
  second = 0;
  weighted = omega arith;
  x = by_ring (p.x ∷ pos p.d ∷ q.x ∷ pos q.d ∷ [])
      (Var 0 ⊗ (Lit (pos 1) ⊗ Var 1 ⊕ Lit (pos 0) ⊗ Var 3)) (Var 1 ⊗ (Lit (pos 1) ⊗ Var 0 ⊕ Lit (pos 0) ⊗ Var 2)) refl;
  y = by_ring (p.y ∷ pos p.d ∷ q.y ∷ pos q.d ∷ [])
      (Var 0 ⊗ (Lit (pos 1) ⊗ Var 1 ⊕ Lit (pos 0) ⊗ Var 3)) (Var 1 ⊗ (Lit (pos 1) ⊗ Var 0 ⊕ Lit (pos 0) ⊗ Var 2)) refl;
}

-- over plain variables: the same mean with its two parts exchanged
exchanged : (r d p pd q qd m n : ℤ) → r *ℤ ((m *ℤ pd) +ℤ (n *ℤ qd)) ≡ d *ℤ ((m *ℤ p) +ℤ (n *ℤ q)) → r *ℤ ((n *ℤ qd) +ℤ (m *ℤ pd)) ≡ d *ℤ ((n *ℤ q) +ℤ (m *ℤ p))
exchanged r d p pd q qd m n h =
    by_one (r ∷ d ∷ p ∷ pd ∷ q ∷ qd ∷ m ∷ n ∷ [])
    (Var 0 ⊗ (Var 7 ⊗ Var 5 ⊕ Var 6 ⊗ Var 3)) (Var 1 ⊗ (Var 7 ⊗ Var 4 ⊕ Var 6 ⊗ Var 2))
    (Lit (pos 1)) (Var 0 ⊗ (Var 6 ⊗ Var 3 ⊕ Var 7 ⊗ Var 5)) (Var 1 ⊗ (Var 6 ⊗ Var 2 ⊕ Var 7 ⊗ Var 4)) refl h

pub between-sym : (r p q : Point) → IsBetween r p q → IsBetween r q p
between-sym r p q h = record {
  first = h.second;
  second = h.first;
  weighted = (let w = h.weighted in omega arith);
  x = exchanged r.x (pos r.d) p.x (pos p.d) q.x (pos q.d) (pos h.first) (pos h.second) h.x;
  y = exchanged r.y (pos r.d) p.y (pos p.d) q.y (pos q.d) (pos h.first) (pos h.second) h.y;
}

-- q itself
pub second_between : (p q : Point) → IsBetween q p q
second_between p q = between-sym q q p (first_between q p)

-- over plain variables: the mean p/d, and r/e is the same number
moved_mean : (p d r e w mean : ℤ) → pos 0 <ℤ d → p *ℤ e ≡ r *ℤ d → p *ℤ w ≡ d *ℤ mean → r *ℤ w ≡ e *ℤ mean
moved_mean p d r e w mean positive same h =
    cancel_eq d (r *ℤ w) (e *ℤ mean) positive
    (by_two (p ∷ d ∷ r ∷ e ∷ w ∷ mean ∷ []) (Var 1 ⊗ (Var 2 ⊗ Var 4)) (Var 1 ⊗ (Var 3 ⊗ Var 5))
    (Neg (Var 4)) (Var 0 ⊗ Var 3) (Var 2 ⊗ Var 1)
    (Var 3) (Var 0 ⊗ Var 4) (Var 1 ⊗ Var 5) refl same h)

-- a point between two points stays between them as another fraction
pub between-moved : (r s p q : Point) → SamePoint r s → IsBetween r p q → IsBetween s p q
between-moved r s p q same h =
    let w = pos (h.first * p.d + h.second * q.d) in
    record {
      first = h.first;
      second = h.second;
      weighted = h.weighted;
      x = moved_mean r.x (pos r.d) s.x (pos s.d) w ((pos h.first *ℤ p.x) +ℤ (pos h.second *ℤ q.x)) (d_positive r) same.0 h.x;
      y = moved_mean r.y (pos r.d) s.y (pos s.d) w ((pos h.first *ℤ p.y) +ℤ (pos h.second *ℤ q.y)) (d_positive r) same.1 h.y;
    }

-- a weighted denominator is positive
pub weights_positive : (m n d e : ℕ) → 1 ≤ m + n → 1 ≤ d → 1 ≤ e → 0 < m * d + n * e
weights_positive zero zero d e w h k = absurd (omega arith)
weights_positive zero (suc n) d e w h k = omega arith
weights_positive (suc m) n d e w h k = omega arith

-- over plain variables: the end p/pd is the same number as o/od
moved_end : (r d p pd q qd o od m n : ℤ) → p *ℤ od ≡ o *ℤ pd → r *ℤ ((m *ℤ pd) +ℤ (n *ℤ qd)) ≡ d *ℤ ((m *ℤ p) +ℤ (n *ℤ q))
    → r *ℤ (((m *ℤ pd) *ℤ od) +ℤ ((n *ℤ od) *ℤ qd)) ≡ d *ℤ (((m *ℤ pd) *ℤ o) +ℤ ((n *ℤ od) *ℤ q))
moved_end r d p pd q qd o od m n same h =
    by_two (r ∷ d ∷ p ∷ pd ∷ q ∷ qd ∷ o ∷ od ∷ m ∷ n ∷ [])
    (Var 0 ⊗ ((Var 8 ⊗ Var 3) ⊗ Var 7 ⊕ (Var 9 ⊗ Var 7) ⊗ Var 5)) (Var 1 ⊗ ((Var 8 ⊗ Var 3) ⊗ Var 6 ⊕ (Var 9 ⊗ Var 7) ⊗ Var 4))
    (Var 1 ⊗ Var 8) (Var 2 ⊗ Var 7) (Var 6 ⊗ Var 3)
    (Var 7) (Var 0 ⊗ (Var 8 ⊗ Var 3 ⊕ Var 9 ⊗ Var 5)) (Var 1 ⊗ (Var 8 ⊗ Var 2 ⊕ Var 9 ⊗ Var 4)) refl same h

-- a point between two points stays so where an end is written as another fraction
pub between-first_moved : (r p q o : Point) → SamePoint p o → IsBetween r p q → IsBetween r o q
between-first_moved r p q o same h = record {
  first = h.first * p.d;
  second = h.second * o.d;
  weighted = weights_positive h.first h.second p.d o.d h.weighted p.positive o.positive;
  x = moved_end r.x (pos r.d) p.x (pos p.d) q.x (pos q.d) o.x (pos o.d) (pos h.first) (pos h.second) same.0 h.x;
  y = moved_end r.y (pos r.d) p.y (pos p.d) q.y (pos q.d) o.y (pos o.d) (pos h.first) (pos h.second) same.1 h.y;
}

pub between-second_moved : (r p q o : Point) → SamePoint q o → IsBetween r p q → IsBetween r p o
between-second_moved r p q o same h = between-sym r o p (between-first_moved r q p o same (between-sym r p q h))

-- over plain variables: a combination of p and q with the whole weights m and n, times some k
combined : (k r d p pd q qd m n : ℤ) → k *ℤ r ≡ (m *ℤ p) +ℤ (n *ℤ q) → k *ℤ d ≡ (m *ℤ pd) +ℤ (n *ℤ qd) → r *ℤ ((m *ℤ pd) +ℤ (n *ℤ qd)) ≡ d *ℤ ((m *ℤ p) +ℤ (n *ℤ q))
combined k r d p pd q qd m n h i =
    by_two (k ∷ r ∷ d ∷ p ∷ pd ∷ q ∷ qd ∷ m ∷ n ∷ [])
    (Var 1 ⊗ (Var 7 ⊗ Var 4 ⊕ Var 8 ⊗ Var 6)) (Var 2 ⊗ (Var 7 ⊗ Var 3 ⊕ Var 8 ⊗ Var 5))
    (Var 2) (Var 0 ⊗ Var 1) (Var 7 ⊗ Var 3 ⊕ Var 8 ⊗ Var 5)
    (Neg (Var 1)) (Var 0 ⊗ Var 2) (Var 7 ⊗ Var 4 ⊕ Var 8 ⊗ Var 6) refl h i

-- k times the vector (x, y, d) of r is m times that of p plus n times that of q: r is between p and q
pub between_by : (r p q : Point) (k m n : ℤ) → pos 0 ≤ℤ m → pos 0 ≤ℤ n → pos 0 <ℤ (m +ℤ n)
    → k *ℤ r.x ≡ (m *ℤ p.x) +ℤ (n *ℤ q.x) → k *ℤ r.y ≡ (m *ℤ p.y) +ℤ (n *ℤ q.y) → k *ℤ pos r.d ≡ (m *ℤ pos p.d) +ℤ (n *ℤ pos q.d) → IsBetween r p q
between_by r p q k (pos m) (pos n) hm hn positive x y d = record {
  first = m;
  second = n;
  weighted = omega (arith, lin);
  x = combined k r.x (pos r.d) p.x (pos p.d) q.x (pos q.d) (pos m) (pos n) x d;
  y = combined k r.y (pos r.d) p.y (pos p.d) q.y (pos q.d) (pos m) (pos n) y d;
}
between_by r p q k (pos m) (negsuc n) hm hn positive x y d = absurd hn.le
between_by r p q k (negsuc m) n hm hn positive x y d = absurd hm.le
