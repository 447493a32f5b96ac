-- Ways from a vertex as pairs of whole numbers: which of them are in the sector of two others. Over plain variables; (ux, uy) leads up
-- along the ray, or down, and is on the left of the ways of one half.
use mathlib.Core.List.{[], ◌∷◌}
use Rattle.std.proofs.Common.{◌≡◌, refl, ℤ, pos, neg_ℤ, ◌+ℤ◌, ◌-ℤ◌, ◌*ℤ◌, ◌≤ℤ◌, ◌<ℤ◌, inl, inr, arith}
use Rattle.integer_laws.proofs.Compare.{le_of_lt, lt_or_ge}
use Rattle.integer_laws.proofs.Order.{mul_le}
use Rattle.integer_laws.proofs.Ring.{lin, by_ring, Var, Lit, ◌⊕◌, ◌⊖◌, ◌⊗◌, Neg, mul_one}
use Rattle.integer_laws.proofs.Sign.{nonneg_times_nonneg, positive_times_positive, positive_times_negative, nonneg_times_nonpos}
use Rattle.sector_laws.proofs.Near.{cross, IsParted}

-- ---- a way on the other side of the ray than two others

pub cramer : (x1 y1 x2 y2 cx cy ux uy : ℤ)
    → (cross x2 y2 cx cy *ℤ cross x1 y1 ux uy) +ℤ (cross cx cy x1 y1 *ℤ cross x2 y2 ux uy) ≡ cross x2 y2 x1 y1 *ℤ cross cx cy ux uy
cramer x1 y1 x2 y2 cx cy ux uy =
    by_ring (x1 ∷ y1 ∷ x2 ∷ y2 ∷ cx ∷ cy ∷ ux ∷ uy ∷ [])
    ((Var 2 ⊗ Var 5 ⊖ Var 3 ⊗ Var 4) ⊗ (Var 0 ⊗ Var 7 ⊖ Var 1 ⊗ Var 6) ⊕ (Var 4 ⊗ Var 1 ⊖ Var 5 ⊗ Var 0) ⊗ (Var 2 ⊗ Var 7 ⊖ Var 3 ⊗ Var 6))
    ((Var 2 ⊗ Var 1 ⊖ Var 3 ⊗ Var 0) ⊗ (Var 4 ⊗ Var 7 ⊖ Var 5 ⊗ Var 6)) refl

-- it is not in their sector
pub other_half_parted : (x1 y1 x2 y2 cx cy ux uy : ℤ) → pos 0 <ℤ cross x2 y2 x1 y1 → pos 0 ≤ℤ cross x1 y1 ux uy → pos 0 ≤ℤ cross x2 y2 ux uy
    → cross cx cy ux uy <ℤ pos 0 → IsParted x1 y1 x2 y2 cx cy
other_half_parted x1 y1 x2 y2 cx cy ux uy spread h1 h2 hc =
    elim (lt_or_ge (cross x2 y2 cx cy) (pos 0)) [
      | inl beyond ↦ inl beyond
      | inr from ↦ elim (lt_or_ge (cross cx cy x1 y1) (pos 0)) [
        | inl before ↦ inr before
        | inr to ↦ absurd (
            let first = nonneg_times_nonneg from h1 in
            let second = nonneg_times_nonneg to h2 in
            let less = positive_times_negative spread hc in
            omega (arith, lin, cramer x1 y1 x2 y2 cx cy ux uy)
            )
      ]
    ]

-- ---- n times a way, and the ray added or taken away

left_is : (n ax ay ux uy cx cy : ℤ) → cross ((n *ℤ ax) +ℤ ux) ((n *ℤ ay) +ℤ uy) cx cy ≡ (n *ℤ cross ax ay cx cy) -ℤ cross cx cy ux uy
left_is n ax ay ux uy cx cy =
    by_ring (n ∷ ax ∷ ay ∷ ux ∷ uy ∷ cx ∷ cy ∷ [])
    ((Var 0 ⊗ Var 1 ⊕ Var 3) ⊗ Var 6 ⊖ (Var 0 ⊗ Var 2 ⊕ Var 4) ⊗ Var 5)
    (Var 0 ⊗ (Var 1 ⊗ Var 6 ⊖ Var 2 ⊗ Var 5) ⊖ (Var 5 ⊗ Var 4 ⊖ Var 6 ⊗ Var 3)) refl

right_is : (n ax ay ux uy cx cy : ℤ) → cross cx cy ((n *ℤ ax) +ℤ neg_ℤ ux) ((n *ℤ ay) +ℤ neg_ℤ uy) ≡ (n *ℤ cross cx cy ax ay) -ℤ cross cx cy ux uy
right_is n ax ay ux uy cx cy =
    by_ring (n ∷ ax ∷ ay ∷ ux ∷ uy ∷ cx ∷ cy ∷ [])
    (Var 5 ⊗ (Var 0 ⊗ Var 2 ⊕ Neg (Var 4)) ⊖ Var 6 ⊗ (Var 0 ⊗ Var 1 ⊕ Neg (Var 3)))
    (Var 0 ⊗ (Var 5 ⊗ Var 2 ⊖ Var 6 ⊗ Var 1) ⊖ (Var 5 ⊗ Var 4 ⊖ Var 6 ⊗ Var 3)) refl

-- a way that is not on the left of the second, and one that the first is not on the left of
pub not_left_parted : (n x1 y1 bx by ux uy cx cy : ℤ) → pos 0 ≤ℤ n → cross bx by cx cy ≤ℤ pos 0 → pos 0 <ℤ cross cx cy ux uy
    → IsParted x1 y1 ((n *ℤ bx) +ℤ ux) ((n *ℤ by) +ℤ uy) cx cy
not_left_parted n x1 y1 bx by ux uy cx cy hn h hc = inl (omega (arith, lin, left_is n bx by ux uy cx cy, nonneg_times_nonpos hn h))

pub not_right_parted : (n ax ay x2 y2 ux uy cx cy : ℤ) → pos 0 ≤ℤ n → cross cx cy ax ay ≤ℤ pos 0 → pos 0 <ℤ cross cx cy ux uy
    → IsParted ((n *ℤ ax) +ℤ neg_ℤ ux) ((n *ℤ ay) +ℤ neg_ℤ uy) x2 y2 cx cy
not_right_parted n ax ay x2 y2 ux uy cx cy hn h hc = inr (omega (arith, lin, right_is n ax ay ux uy cx cy, nonneg_times_nonpos hn h))

-- ---- against the ray

left_ray : (n ax ay ux uy : ℤ) → cross ((n *ℤ ax) +ℤ ux) ((n *ℤ ay) +ℤ uy) ux uy ≡ n *ℤ cross ax ay ux uy
left_ray n ax ay ux uy =
    by_ring (n ∷ ax ∷ ay ∷ ux ∷ uy ∷ []) ((Var 0 ⊗ Var 1 ⊕ Var 3) ⊗ Var 4 ⊖ (Var 0 ⊗ Var 2 ⊕ Var 4) ⊗ Var 3) (Var 0 ⊗ (Var 1 ⊗ Var 4 ⊖ Var 2 ⊗ Var 3)) refl

right_ray : (n ax ay ux uy : ℤ) → cross ((n *ℤ ax) +ℤ neg_ℤ ux) ((n *ℤ ay) +ℤ neg_ℤ uy) ux uy ≡ n *ℤ cross ax ay ux uy
right_ray n ax ay ux uy =
    by_ring (n ∷ ax ∷ ay ∷ ux ∷ uy ∷ []) ((Var 0 ⊗ Var 1 ⊕ Neg (Var 3)) ⊗ Var 4 ⊖ (Var 0 ⊗ Var 2 ⊕ Neg (Var 4)) ⊗ Var 3) (Var 0 ⊗ (Var 1 ⊗ Var 4 ⊖ Var 2 ⊗ Var 3)) refl

pub left_from_ray : (n ax ay ux uy : ℤ) → pos 0 <ℤ n → pos 0 <ℤ cross ax ay ux uy → pos 0 <ℤ cross ((n *ℤ ax) +ℤ ux) ((n *ℤ ay) +ℤ uy) ux uy
left_from_ray n ax ay ux uy hn h = omega (arith, lin, left_ray n ax ay ux uy, positive_times_positive hn h)

pub right_from_ray : (n ax ay ux uy : ℤ) → pos 0 <ℤ n → pos 0 <ℤ cross ax ay ux uy → pos 0 <ℤ cross ((n *ℤ ax) +ℤ neg_ℤ ux) ((n *ℤ ay) +ℤ neg_ℤ uy) ux uy
right_from_ray n ax ay ux uy hn h = omega (arith, lin, right_ray n ax ay ux uy, positive_times_positive hn h)

right_against_ray : (n ax ay ux uy : ℤ) → cross (neg_ℤ ux) (neg_ℤ uy) ((n *ℤ ax) +ℤ neg_ℤ ux) ((n *ℤ ay) +ℤ neg_ℤ uy) ≡ n *ℤ cross ax ay ux uy
right_against_ray n ax ay ux uy =
    by_ring (n ∷ ax ∷ ay ∷ ux ∷ uy ∷ [])
    (Neg (Var 3) ⊗ (Var 0 ⊗ Var 2 ⊕ Neg (Var 4)) ⊖ Neg (Var 4) ⊗ (Var 0 ⊗ Var 1 ⊕ Neg (Var 3))) (Var 0 ⊗ (Var 1 ⊗ Var 4 ⊖ Var 2 ⊗ Var 3)) refl

-- down to the ray
pub spread_to_ray : (n ax ay ux uy : ℤ) → pos 0 <ℤ n → pos 0 <ℤ cross ax ay ux uy → pos 0 <ℤ cross (neg_ℤ ux) (neg_ℤ uy) ((n *ℤ ax) +ℤ neg_ℤ ux) ((n *ℤ ay) +ℤ neg_ℤ uy)
spread_to_ray n ax ay ux uy hn h = omega (arith, lin, right_against_ray n ax ay ux uy, positive_times_positive hn h)

pub back_is : (x y u w : ℤ) → cross (neg_ℤ u) (neg_ℤ w) x y ≡ cross x y u w
back_is x y u w = by_ring (x ∷ y ∷ u ∷ w ∷ []) (Neg (Var 2) ⊗ Var 1 ⊖ Neg (Var 3) ⊗ Var 0) (Var 0 ⊗ Var 3 ⊖ Var 1 ⊗ Var 2) refl

pub ray_self : (ux uy : ℤ) → cross (neg_ℤ ux) (neg_ℤ uy) ux uy ≡ pos 0
ray_self ux uy = by_ring (ux ∷ uy ∷ []) (Neg (Var 0) ⊗ Var 1 ⊖ Neg (Var 1) ⊗ Var 0) (Lit (pos 0)) refl

pub ray_turned : (cx cy ux uy : ℤ) → cross cx cy (neg_ℤ ux) (neg_ℤ uy) ≡ neg_ℤ (cross cx cy ux uy)
ray_turned cx cy ux uy = by_ring (cx ∷ cy ∷ ux ∷ uy ∷ []) (Var 0 ⊗ Neg (Var 3) ⊖ Var 1 ⊗ Neg (Var 2)) (Neg (Var 0 ⊗ Var 3 ⊖ Var 1 ⊗ Var 2)) refl

-- from one way of a half down to another one
spread_is : (n ax ay bx by ux uy : ℤ) → cross ((n *ℤ bx) +ℤ ux) ((n *ℤ by) +ℤ uy) ((n *ℤ ax) +ℤ neg_ℤ ux) ((n *ℤ ay) +ℤ neg_ℤ uy)
    ≡ n *ℤ (((n *ℤ cross bx by ax ay) -ℤ cross ax ay ux uy) -ℤ cross bx by ux uy)
spread_is n ax ay bx by ux uy =
    by_ring (n ∷ ax ∷ ay ∷ bx ∷ by ∷ ux ∷ uy ∷ [])
    ((Var 0 ⊗ Var 3 ⊕ Var 5) ⊗ (Var 0 ⊗ Var 2 ⊕ Neg (Var 6)) ⊖ (Var 0 ⊗ Var 4 ⊕ Var 6) ⊗ (Var 0 ⊗ Var 1 ⊕ Neg (Var 5)))
    (Var 0 ⊗ (Var 0 ⊗ (Var 3 ⊗ Var 2 ⊖ Var 4 ⊗ Var 1) ⊖ (Var 1 ⊗ Var 6 ⊖ Var 2 ⊗ Var 5) ⊖ (Var 3 ⊗ Var 6 ⊖ Var 4 ⊗ Var 5))) refl

pub spread_in_half : (n ax ay bx by ux uy : ℤ) → pos 0 <ℤ n → pos 0 <ℤ cross bx by ax ay → (cross ax ay ux uy +ℤ cross bx by ux uy) <ℤ n
    → pos 0 <ℤ cross ((n *ℤ bx) +ℤ ux) ((n *ℤ by) +ℤ uy) ((n *ℤ ax) +ℤ neg_ℤ ux) ((n *ℤ ay) +ℤ neg_ℤ uy)
spread_in_half n ax ay bx by ux uy hn h small =
    let more = mul_le {x = pos 1} {y = cross bx by ax ay} n (le_of_lt hn) (omega (arith, lin)) in
    let gap : pos 0 <ℤ (((n *ℤ cross bx by ax ay) -ℤ cross ax ay ux uy) -ℤ cross bx by ux uy) = omega (arith, lin, mul_one n) in
    omega (arith, lin, spread_is n ax ay bx by ux uy, positive_times_positive hn gap)
