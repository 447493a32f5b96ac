-- The points beside a half-edge near its ends: they are in the flat triangle of its edge.
use mathlib.Core.List.{[], ◌∷◌}
use Rattle.std.proofs.Common.{◌≡◌, refl, ◌∙◌, ap, ◌^◌, ℤ, pos, neg_ℤ, ◌+ℤ◌, ◌-ℤ◌, ◌*ℤ◌, ◌<ℤ◌, arith}
use Rattle.cov_types.specs.declared.seg.Seg.{Seg}
use Rattle.integer_laws.proofs.Ring.{lin, by_ring, by_two, Var, Lit, ◌⊕◌, ◌⊖◌, ◌⊗◌, Neg, mul_zero, mul_comm, mul_neg, pos_times}
use Rattle.plane.specs.Point.{at_coord}
use Rattle.plane.specs.Segment.{side}
use Rattle.plane.specs.Ray.{sweep, Rises}
use Rattle.plane.proofs.Sides.{side-lo, side-hi}
use Rattle.crossing_laws.proofs.Beside.{rise}
use Rattle.sector_laws.proofs.Near.{near, fine, sweep-near, side-near}
use Rattle.sector_laws.proofs.Leaving.{stretch}
use Rattle.sector_laws.proofs.Sliver.{IsInSliver, IsFlat, sliver_from_numbers}

-- over plain variables: (x, y) is the ray on the side k
side_along : (k p x y m n dx dy : ℤ) → x ≡ neg_ℤ k → y ≡ k *ℤ p
    → k *ℤ (m +ℤ ((dx *ℤ ((n *ℤ dy) +ℤ y)) -ℤ (dy *ℤ ((n *ℤ dx) +ℤ x)))) ≡ (k *ℤ m) +ℤ ((k *ℤ k) *ℤ ((p *ℤ dx) +ℤ dy))
side_along k p x y m n dx dy hx hy =
    by_two (k ∷ p ∷ x ∷ y ∷ m ∷ n ∷ dx ∷ dy ∷ [])
    (Var 0 ⊗ (Var 4 ⊕ (Var 6 ⊗ (Var 5 ⊗ Var 7 ⊕ Var 3) ⊖ Var 7 ⊗ (Var 5 ⊗ Var 6 ⊕ Var 2)))) (Var 0 ⊗ Var 4 ⊕ Var 0 ⊗ Var 0 ⊗ (Var 1 ⊗ Var 6 ⊕ Var 7))
    (Neg (Var 0 ⊗ Var 7)) (Var 2) (Neg (Var 0)) (Var 0 ⊗ Var 6) (Var 3) (Var 0 ⊗ Var 1) refl hx hy

side_back : (k p x y m n lx ly hx hy : ℤ) → x ≡ neg_ℤ k → y ≡ k *ℤ p
    → k *ℤ (m +ℤ (((hx -ℤ lx) *ℤ ((n *ℤ (ly -ℤ hy)) +ℤ y)) -ℤ ((hy -ℤ ly) *ℤ ((n *ℤ (lx -ℤ hx)) +ℤ x)))) ≡ (k *ℤ m) +ℤ ((k *ℤ k) *ℤ ((p *ℤ (hx -ℤ lx)) +ℤ (hy -ℤ ly)))
side_back k p x y m n lx ly hx hy ex ey =
    by_two (k ∷ p ∷ x ∷ y ∷ m ∷ n ∷ lx ∷ ly ∷ hx ∷ hy ∷ [])
    (Var 0 ⊗ (Var 4 ⊕ ((Var 8 ⊖ Var 6) ⊗ (Var 5 ⊗ (Var 7 ⊖ Var 9) ⊕ Var 3) ⊖ (Var 9 ⊖ Var 7) ⊗ (Var 5 ⊗ (Var 6 ⊖ Var 8) ⊕ Var 2))))
    (Var 0 ⊗ Var 4 ⊕ Var 0 ⊗ Var 0 ⊗ (Var 1 ⊗ (Var 8 ⊖ Var 6) ⊕ (Var 9 ⊖ Var 7)))
    (Neg (Var 0 ⊗ (Var 9 ⊖ Var 7))) (Var 2) (Neg (Var 0)) (Var 0 ⊗ (Var 8 ⊖ Var 6)) (Var 3) (Var 0 ⊗ Var 1) refl ex ey

sweep_along : (k p x y n dx dy : ℤ) → x ≡ neg_ℤ k → y ≡ k *ℤ p → (p *ℤ ((n *ℤ dx) +ℤ x)) +ℤ ((n *ℤ dy) +ℤ y) ≡ n *ℤ ((p *ℤ dx) +ℤ dy)
sweep_along k p x y n dx dy hx hy =
    by_two (k ∷ p ∷ x ∷ y ∷ n ∷ dx ∷ dy ∷ [])
    (Var 1 ⊗ (Var 4 ⊗ Var 5 ⊕ Var 2) ⊕ (Var 4 ⊗ Var 6 ⊕ Var 3)) (Var 4 ⊗ (Var 1 ⊗ Var 5 ⊕ Var 6))
    (Var 1) (Var 2) (Neg (Var 0)) (Lit (pos 1)) (Var 3) (Var 0 ⊗ Var 1) refl hx hy

-- the rise along the coordinates
rise_is : (e : Seg) → (pos (2 ^ 30) *ℤ (e.hi.x -ℤ e.lo.x)) +ℤ (e.hi.y -ℤ e.lo.y) ≡ rise e
unfolding sweep
rise_is e =
    by_ring (e.lo.x ∷ e.lo.y ∷ e.hi.x ∷ e.hi.y ∷ []) (Lit (pos (2 ^ 30)) ⊗ (Var 2 ⊖ Var 0) ⊕ (Var 3 ⊖ Var 1)) (Lit (pos (2 ^ 30)) ⊗ Var 2 ⊕ Var 3 ⊖ (Lit (pos (2 ^ 30)) ⊗ Var 0 ⊕ Var 1)) refl

fall_is : (e : Seg) → (pos (2 ^ 30) *ℤ (e.lo.x -ℤ e.hi.x)) +ℤ (e.lo.y -ℤ e.hi.y) ≡ neg_ℤ (rise e)
unfolding sweep
fall_is e =
    by_ring (e.lo.x ∷ e.lo.y ∷ e.hi.x ∷ e.hi.y ∷ []) (Lit (pos (2 ^ 30)) ⊗ (Var 0 ⊖ Var 2) ⊕ (Var 1 ⊖ Var 3)) (Neg (Lit (pos (2 ^ 30)) ⊗ Var 2 ⊕ Var 3 ⊖ (Lit (pos (2 ^ 30)) ⊗ Var 0 ⊕ Var 1))) refl

one_times : (k m g s : ℤ) → k *ℤ k ≡ pos 1 → m ≡ pos 0 → s ≡ (k *ℤ m) +ℤ ((k *ℤ k) *ℤ g) → s ≡ g
one_times k m g s one zero h = h ∙ (λ i. (k *ℤ zero i) +ℤ (one i *ℤ g)) ∙ by_ring (k ∷ g ∷ []) (Var 0 ⊗ Lit (pos 0) ⊕ Lit (pos 1) ⊗ Var 1) (Var 1) refl

near_lo_flat : (g l h t : ℤ) → pos 0 <ℤ g → g ≡ h -ℤ l → t ≡ (fine *ℤ l) +ℤ (stretch *ℤ g) → IsFlat g t fine l h
near_lo_flat g l h t positive e at = record {
  beside = positive;
  after_lo = omega (arith, lin, pos_times (2 ^ 60) g, pos_times (2 ^ 140) g, mul_comm l fine);
  before_hi = omega (arith, lin, pos_times (2 ^ 60) g, pos_times (2 ^ 140) g, mul_comm h fine, pos_times (2 ^ 200) l, pos_times (2 ^ 200) h);
}

near_hi_flat : (g l h t : ℤ) → pos 0 <ℤ g → g ≡ h -ℤ l → t ≡ (fine *ℤ h) +ℤ (stretch *ℤ neg_ℤ g) → IsFlat g t fine l h
near_hi_flat g l h t positive e at = record {
  beside = positive;
  after_lo = omega (arith, lin, pos_times (2 ^ 60) g, pos_times (2 ^ 140) g, mul_neg stretch g, mul_comm l fine, pos_times (2 ^ 200) l, pos_times (2 ^ 200) h);
  before_hi = omega (arith, lin, pos_times (2 ^ 60) g, pos_times (2 ^ 140) g, mul_neg stretch g, mul_comm h fine);
}

-- near lo, and near hi
pub near_lo_in_sliver : (k : ℤ) (e : Seg) (x y : ℤ) → Rises e → k *ℤ k ≡ pos 1 → x ≡ neg_ℤ k → y ≡ k *ℤ pos (2 ^ 30)
    → IsInSliver k e (near e.lo ((stretch *ℤ (e.hi.x -ℤ e.lo.x)) +ℤ x) ((stretch *ℤ (e.hi.y -ℤ e.lo.y)) +ℤ y))
near_lo_in_sliver k e x y up one hx hy =
    let p = near e.lo ((stretch *ℤ (e.hi.x -ℤ e.lo.x)) +ℤ x) ((stretch *ℤ (e.hi.y -ℤ e.lo.y)) +ℤ y) in
    let at_side : k *ℤ side e p ≡ rise e =
    one_times k (fine *ℤ side e (at_coord e.lo)) (rise e) (k *ℤ side e p) one (ap (λ z. fine *ℤ z) (side-lo e) ∙ mul_zero fine)
    (ap (λ z. k *ℤ z) (side-near e e.lo _ _)
    ∙ side_along k (pos (2 ^ 30)) x y (fine *ℤ side e (at_coord e.lo)) stretch (e.hi.x -ℤ e.lo.x) (e.hi.y -ℤ e.lo.y) hx hy
    ∙ ap (λ z. (k *ℤ (fine *ℤ side e (at_coord e.lo))) +ℤ ((k *ℤ k) *ℤ z)) (rise_is e)) in
    let at_sweep : sweep p ≡ (fine *ℤ sweep (at_coord e.lo)) +ℤ (stretch *ℤ rise e) =
    sweep-near e.lo _ _
    ∙ ap (λ z. (fine *ℤ sweep (at_coord e.lo)) +ℤ z)
    (sweep_along k (pos (2 ^ 30)) x y stretch (e.hi.x -ℤ e.lo.x) (e.hi.y -ℤ e.lo.y) hx hy ∙ ap (λ z. stretch *ℤ z) (rise_is e)) in
    sliver_from_numbers k e p (rw (at_side) (near_lo_flat (rise e) (sweep (at_coord e.lo)) (sweep (at_coord e.hi)) (sweep p) (omega (arith, lin)) refl at_sweep))

pub near_hi_in_sliver : (k : ℤ) (e : Seg) (x y : ℤ) → Rises e → k *ℤ k ≡ pos 1 → x ≡ neg_ℤ k → y ≡ k *ℤ pos (2 ^ 30)
    → IsInSliver k e (near e.hi ((stretch *ℤ (e.lo.x -ℤ e.hi.x)) +ℤ x) ((stretch *ℤ (e.lo.y -ℤ e.hi.y)) +ℤ y))
near_hi_in_sliver k e x y up one hx hy =
    let p = near e.hi ((stretch *ℤ (e.lo.x -ℤ e.hi.x)) +ℤ x) ((stretch *ℤ (e.lo.y -ℤ e.hi.y)) +ℤ y) in
    let at_side : k *ℤ side e p ≡ rise e =
    one_times k (fine *ℤ side e (at_coord e.hi)) (rise e) (k *ℤ side e p) one (ap (λ z. fine *ℤ z) (side-hi e) ∙ mul_zero fine)
    (ap (λ z. k *ℤ z) (side-near e e.hi _ _)
    ∙ side_back k (pos (2 ^ 30)) x y (fine *ℤ side e (at_coord e.hi)) stretch e.lo.x e.lo.y e.hi.x e.hi.y hx hy
    ∙ ap (λ z. (k *ℤ (fine *ℤ side e (at_coord e.hi))) +ℤ ((k *ℤ k) *ℤ z)) (rise_is e)) in
    let at_sweep : sweep p ≡ (fine *ℤ sweep (at_coord e.hi)) +ℤ (stretch *ℤ neg_ℤ (rise e)) =
    sweep-near e.hi _ _
    ∙ ap (λ z. (fine *ℤ sweep (at_coord e.hi)) +ℤ z)
    (sweep_along k (pos (2 ^ 30)) x y stretch (e.lo.x -ℤ e.hi.x) (e.lo.y -ℤ e.hi.y) hx hy ∙ ap (λ z. stretch *ℤ z) (fall_is e)) in
    sliver_from_numbers k e p (rw (at_side) (near_hi_flat (rise e) (sweep (at_coord e.lo)) (sweep (at_coord e.hi)) (sweep p) (omega (arith, lin)) refl at_sweep))
