-- A point a little past another one by the sweep, and points down the ray: their sweep values and their sides.
use mathlib.Core.List.{[], ◌∷◌}
use Rattle.std.proofs.Common.{◌≡◌, refl, ℕ, zero, suc, ◌*◌, ◌≤◌, ◌^◌, ℤ, pos, ◌+ℤ◌, ◌-ℤ◌, ◌*ℤ◌, arith}
use Rattle.cov_types.specs.declared.seg.Seg.{Seg}
use Rattle.integer_laws.proofs.Ring.{by_ring, Var, Lit, ◌⊕◌, ◌⊖◌, ◌⊗◌}
use Rattle.plane.specs.Point.{Point, at_coord}
use Rattle.plane.specs.Segment.{side}
use Rattle.plane.specs.Ray.{sweep}
use Rattle.region_laws.specs.Below.{sweep_rise}

-- ---- (0, 2^-100) past the point, in units of its denominator

abbrev pub tiny : ℤ
tiny = pos (2 ^ 100)

pub past : Point → Point
past p = record { x = tiny *ℤ p.x; y = (tiny *ℤ p.y) +ℤ pos 1; d = 2 ^ 100 * p.d; positive = (let h = p.positive in omega arith) }

pub past-d : (p : Point) → pos (past p).d ≡ tiny *ℤ pos p.d
unfolding past
past-d p = refl

past_sweep_is : (n k x y : ℤ) → (k *ℤ (n *ℤ x)) +ℤ ((n *ℤ y) +ℤ pos 1) ≡ (n *ℤ ((k *ℤ x) +ℤ y)) +ℤ pos 1
past_sweep_is n k x y = by_ring (n ∷ k ∷ x ∷ y ∷ []) (Var 1 ⊗ (Var 0 ⊗ Var 2) ⊕ (Var 0 ⊗ Var 3 ⊕ Lit (pos 1))) (Var 0 ⊗ (Var 1 ⊗ Var 2 ⊕ Var 3) ⊕ Lit (pos 1)) refl

pub sweep-past : (p : Point) → sweep (past p) ≡ (tiny *ℤ sweep p) +ℤ pos 1
unfolding past sweep
sweep-past p = past_sweep_is tiny (pos (2 ^ 30)) p.x p.y

past_side_is : (n lx ly hx hy x y d : ℤ)
    → ((hx -ℤ lx) *ℤ (((n *ℤ y) +ℤ pos 1) -ℤ (ly *ℤ (n *ℤ d)))) -ℤ ((hy -ℤ ly) *ℤ ((n *ℤ x) -ℤ (lx *ℤ (n *ℤ d))))
    ≡ (n *ℤ (((hx -ℤ lx) *ℤ (y -ℤ (ly *ℤ d))) -ℤ ((hy -ℤ ly) *ℤ (x -ℤ (lx *ℤ d))))) +ℤ (hx -ℤ lx)
past_side_is n lx ly hx hy x y d =
    by_ring (n ∷ lx ∷ ly ∷ hx ∷ hy ∷ x ∷ y ∷ d ∷ [])
    ((Var 3 ⊖ Var 1) ⊗ (Var 0 ⊗ Var 6 ⊕ Lit (pos 1) ⊖ Var 2 ⊗ (Var 0 ⊗ Var 7)) ⊖ (Var 4 ⊖ Var 2) ⊗ (Var 0 ⊗ Var 5 ⊖ Var 1 ⊗ (Var 0 ⊗ Var 7)))
    (Var 0 ⊗ ((Var 3 ⊖ Var 1) ⊗ (Var 6 ⊖ Var 2 ⊗ Var 7) ⊖ (Var 4 ⊖ Var 2) ⊗ (Var 5 ⊖ Var 1 ⊗ Var 7)) ⊕ (Var 3 ⊖ Var 1)) refl

pub side-past : (e : Seg) (p : Point) → side e (past p) ≡ (tiny *ℤ side e p) +ℤ (e.hi.x -ℤ e.lo.x)
unfolding past side
side-past e p = past_side_is tiny e.lo.x e.lo.y e.hi.x e.hi.y p.x p.y (pos p.d)

-- ---- n steps of the ray below the point, in units of k times its denominator

pub down : Point → (k : ℕ) → 1 ≤ k → ℤ → Point
down p k h n = record {
  x = (pos k *ℤ p.x) +ℤ n;
  y = (pos k *ℤ p.y) -ℤ (pos (2 ^ 30) *ℤ n);
  d = k * p.d;
  positive = positive_product k p.d h p.positive;
}
  where
    positive_product : (m n : ℕ) → 1 ≤ m → 1 ≤ n → 1 ≤ m * n
    positive_product zero n h k = absurd (omega arith)
    positive_product (suc m) zero h k = absurd (omega arith)
    positive_product (suc m) (suc n) h k = omega arith

pub down-y : (p : Point) (k : ℕ) (h : 1 ≤ k) (n : ℤ) → (down p k h n).y ≡ (pos k *ℤ p.y) -ℤ (pos (2 ^ 30) *ℤ n)
unfolding down
down-y p k h n = refl

pub down-d : (p : Point) (k : ℕ) (h : 1 ≤ k) (n : ℤ) → pos (down p k h n).d ≡ pos k *ℤ pos p.d
unfolding down
down-d p k h n = refl

down_sweep_is : (c k x y n : ℤ) → (c *ℤ ((k *ℤ x) +ℤ n)) +ℤ ((k *ℤ y) -ℤ (c *ℤ n)) ≡ k *ℤ ((c *ℤ x) +ℤ y)
down_sweep_is c k x y n =
    by_ring (c ∷ k ∷ x ∷ y ∷ n ∷ []) (Var 0 ⊗ (Var 1 ⊗ Var 2 ⊕ Var 4) ⊕ (Var 1 ⊗ Var 3 ⊖ Var 0 ⊗ Var 4)) (Var 1 ⊗ (Var 0 ⊗ Var 2 ⊕ Var 3)) refl

pub sweep-down : (p : Point) (k : ℕ) (h : 1 ≤ k) (n : ℤ) → sweep (down p k h n) ≡ pos k *ℤ sweep p
unfolding down sweep
sweep-down p k h n = down_sweep_is (pos (2 ^ 30)) (pos k) p.x p.y n

down_side_is : (c k lx ly hx hy x y d n : ℤ)
    → ((hx -ℤ lx) *ℤ (((k *ℤ y) -ℤ (c *ℤ n)) -ℤ (ly *ℤ (k *ℤ d)))) -ℤ ((hy -ℤ ly) *ℤ (((k *ℤ x) +ℤ n) -ℤ (lx *ℤ (k *ℤ d))))
    ≡ (k *ℤ (((hx -ℤ lx) *ℤ (y -ℤ (ly *ℤ d))) -ℤ ((hy -ℤ ly) *ℤ (x -ℤ (lx *ℤ d))))) -ℤ (n *ℤ (((c *ℤ hx) +ℤ hy) -ℤ ((c *ℤ lx) +ℤ ly)))
down_side_is c k lx ly hx hy x y d n =
    by_ring (c ∷ k ∷ lx ∷ ly ∷ hx ∷ hy ∷ x ∷ y ∷ d ∷ n ∷ [])
    ((Var 4 ⊖ Var 2) ⊗ (Var 1 ⊗ Var 7 ⊖ Var 0 ⊗ Var 9 ⊖ Var 3 ⊗ (Var 1 ⊗ Var 8)) ⊖ (Var 5 ⊖ Var 3) ⊗ (Var 1 ⊗ Var 6 ⊕ Var 9 ⊖ Var 2 ⊗ (Var 1 ⊗ Var 8)))
    (Var 1 ⊗ ((Var 4 ⊖ Var 2) ⊗ (Var 7 ⊖ Var 3 ⊗ Var 8) ⊖ (Var 5 ⊖ Var 3) ⊗ (Var 6 ⊖ Var 2 ⊗ Var 8))
    ⊖ Var 9 ⊗ (Var 0 ⊗ Var 4 ⊕ Var 5 ⊖ (Var 0 ⊗ Var 2 ⊕ Var 3))) refl

pub side-down : (e : Seg) (p : Point) (k : ℕ) (h : 1 ≤ k) (n : ℤ) → side e (down p k h n) ≡ (pos k *ℤ side e p) -ℤ (n *ℤ sweep_rise e)
unfolding down side sweep
side-down e p k h n = down_side_is (pos (2 ^ 30)) (pos k) e.lo.x e.lo.y e.hi.x e.hi.y p.x p.y (pos p.d) n

-- ---- the tie: two edges as far below p, over plain variables

tie_is : (c lx ly hx hy ax ay bx by x y d : ℤ)
    → let g = ((c *ℤ hx) +ℤ hy) -ℤ ((c *ℤ lx) +ℤ ly) in
    let f = ((c *ℤ bx) +ℤ by) -ℤ ((c *ℤ ax) +ℤ ay) in
    let s = ((hx -ℤ lx) *ℤ (y -ℤ (ly *ℤ d))) -ℤ ((hy -ℤ ly) *ℤ (x -ℤ (lx *ℤ d))) in
    let t = ((bx -ℤ ax) *ℤ (y -ℤ (ay *ℤ d))) -ℤ ((by -ℤ ay) *ℤ (x -ℤ (ax *ℤ d))) in
    let at_hi = ((bx -ℤ ax) *ℤ (hy -ℤ (ay *ℤ pos 1))) -ℤ ((by -ℤ ay) *ℤ (hx -ℤ (ax *ℤ pos 1))) in
    ((((c *ℤ hx) +ℤ hy) *ℤ d) -ℤ ((c *ℤ x) +ℤ y)) *ℤ ((g *ℤ (bx -ℤ ax)) -ℤ (f *ℤ (hx -ℤ lx)))
    ≡ ((g *ℤ d) *ℤ at_hi) -ℤ ((t *ℤ g) -ℤ (s *ℤ f))
tie_is c lx ly hx hy ax ay bx by x y d =
    let g = (Var 0 ⊗ Var 3 ⊕ Var 4) ⊖ (Var 0 ⊗ Var 1 ⊕ Var 2) in
    let f = (Var 0 ⊗ Var 7 ⊕ Var 8) ⊖ (Var 0 ⊗ Var 5 ⊕ Var 6) in
    let s = (Var 3 ⊖ Var 1) ⊗ (Var 10 ⊖ Var 2 ⊗ Var 11) ⊖ (Var 4 ⊖ Var 2) ⊗ (Var 9 ⊖ Var 1 ⊗ Var 11) in
    let t = (Var 7 ⊖ Var 5) ⊗ (Var 10 ⊖ Var 6 ⊗ Var 11) ⊖ (Var 8 ⊖ Var 6) ⊗ (Var 9 ⊖ Var 5 ⊗ Var 11) in
    let at_hi = (Var 7 ⊖ Var 5) ⊗ (Var 4 ⊖ Var 6 ⊗ Lit (pos 1)) ⊖ (Var 8 ⊖ Var 6) ⊗ (Var 3 ⊖ Var 5 ⊗ Lit (pos 1)) in
    by_ring (c ∷ lx ∷ ly ∷ hx ∷ hy ∷ ax ∷ ay ∷ bx ∷ by ∷ x ∷ y ∷ d ∷ [])
    (((Var 0 ⊗ Var 3 ⊕ Var 4) ⊗ Var 11 ⊖ (Var 0 ⊗ Var 9 ⊕ Var 10)) ⊗ (g ⊗ (Var 7 ⊖ Var 5) ⊖ f ⊗ (Var 3 ⊖ Var 1)))
    ((g ⊗ Var 11) ⊗ at_hi ⊖ (t ⊗ g ⊖ s ⊗ f)) refl

pub tie : (e f : Seg) (p : Point)
    → ((sweep (at_coord e.hi) *ℤ pos p.d) -ℤ sweep p) *ℤ ((sweep_rise e *ℤ (f.hi.x -ℤ f.lo.x)) -ℤ (sweep_rise f *ℤ (e.hi.x -ℤ e.lo.x)))
    ≡ ((sweep_rise e *ℤ pos p.d) *ℤ side f (at_coord e.hi)) -ℤ ((side f p *ℤ sweep_rise e) -ℤ (side e p *ℤ sweep_rise f))
unfolding sweep side
tie e f p = tie_is (pos (2 ^ 30)) e.lo.x e.lo.y e.hi.x e.hi.y f.lo.x f.lo.y f.hi.x f.hi.y p.x p.y (pos p.d)
