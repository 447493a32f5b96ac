-- Numbers that round to a whole number, and pixels.
use mathlib.Core.List.{[], ◌∷◌}
use Rattle.std.proofs.Common.{◌≡◌, inl, inr, refl, sym, ◌∙◌, ap, ℕ, zero, suc, ℤ, pos, negsuc, neg_ℤ, ◌+ℤ◌, ◌-ℤ◌, ◌*ℤ◌, ◌<ℤ◌, ◌≤ℤ◌, arith}
use Rattle.integer_laws.proofs.Ring.{lin, by_ring, Var, Lit, ◌⊕◌, ◌⊖◌, ◌⊗◌, mul_add, mul_one, zero_mul, mul_comm, mul_left_comm, pos_times}
use Rattle.integer_laws.proofs.Compare.{lt_or_ge, le_of_lt, le_antisymm}
use Rattle.integer_laws.proofs.Order.{mul_le, mul_lt, cancel_le, cancel_lt, cancel_lt_right}
use Rattle.cov_types.specs.declared.coord.Coord.{Coord}
use Rattle.cov_types.proofs.Order.{same_coords}
use Rattle.plane.specs.Point.{Point, SamePoint, at_coord}
use Rattle.plane.specs.Snapping.{IsInPixel}
use Rattle.plane.proofs.Points.{d_positive}

-- v' is within w/2 of v, or v - w/2 itself: the fraction v'/w rounds to c where v is c·w
pub record Near (v v' w : ℤ) : Type 0 where
  pub low : ((v +ℤ v) -ℤ w) ≤ℤ (v' +ℤ v')
  pub high : (v' +ℤ v') <ℤ ((v +ℤ v) +ℤ w)

-- ---- means

-- twice a product, and the three terms of a nearness times a factor
double : (i v : ℤ) → i *ℤ (v +ℤ v) ≡ (i *ℤ v) +ℤ (i *ℤ v)
double i v = mul_add i v v

low_times : (i v w : ℤ) → i *ℤ ((v +ℤ v) -ℤ w) ≡ ((i *ℤ v) +ℤ (i *ℤ v)) -ℤ (i *ℤ w)
low_times i v w = by_ring (i ∷ v ∷ w ∷ []) (Var 0 ⊗ ((Var 1 ⊕ Var 1) ⊖ Var 2)) ((Var 0 ⊗ Var 1 ⊕ Var 0 ⊗ Var 1) ⊖ Var 0 ⊗ Var 2) refl

high_times : (i v w : ℤ) → i *ℤ ((v +ℤ v) +ℤ w) ≡ ((i *ℤ v) +ℤ (i *ℤ v)) +ℤ (i *ℤ w)
high_times i v w = by_ring (i ∷ v ∷ w ∷ []) (Var 0 ⊗ ((Var 1 ⊕ Var 1) ⊕ Var 2)) ((Var 0 ⊗ Var 1 ⊕ Var 0 ⊗ Var 1) ⊕ Var 0 ⊗ Var 2) refl

-- near, times a factor: strict on the high side only where the factor is positive
near_low : (i v v' w : ℤ) → pos 0 ≤ℤ i → Near v v' w → (((i *ℤ v) +ℤ (i *ℤ v)) -ℤ (i *ℤ w)) ≤ℤ ((i *ℤ v') +ℤ (i *ℤ v'))
near_low i v v' w hi h =
    let product = mul_le i hi h.low in
    omega (arith, lin, low_times i v w, double i v')

near_high : (i v v' w : ℤ) → pos 0 ≤ℤ i → Near v v' w → ((i *ℤ v') +ℤ (i *ℤ v')) ≤ℤ (((i *ℤ v) +ℤ (i *ℤ v)) +ℤ (i *ℤ w))
near_high i v v' w hi h =
    let product = mul_le i hi (le_of_lt h.high) in
    omega (arith, lin, high_times i v w, double i v')

pub near_times : (i v v' w : ℤ) → pos 0 <ℤ i → Near v v' w → Near (i *ℤ v) (i *ℤ v') (i *ℤ w)
near_times i v v' w hi h =
    let product = mul_lt i hi h.high in
    record {
      low = near_low i v v' w (le_of_lt hi) h;
      high = omega (arith, lin, high_times i v w, double i v');
    }

-- near again after a factor is cancelled
pub near_cancel : (i v v' w : ℤ) → pos 0 <ℤ i → Near (i *ℤ v) (i *ℤ v') (i *ℤ w) → Near v v' w
near_cancel i v v' w hi h =
    let l = h.low in
    let u = h.high in
    record {
      low = cancel_le i ((v +ℤ v) -ℤ w) (v' +ℤ v') hi (omega (arith, lin, low_times i v w, double i v'));
      high = cancel_lt i (v' +ℤ v') ((v +ℤ v) +ℤ w) (le_of_lt hi) (omega (arith, lin, high_times i v w, double i v'));
    }

-- a mean of near numbers is near: weights that are not negative and not both 0
pub mean_near : (i j v v' w u u' z : ℤ) → pos 0 ≤ℤ i → pos 0 ≤ℤ j → pos 0 <ℤ (i +ℤ j) → Near v v' w → Near u u' z
    → Near ((i *ℤ v) +ℤ (j *ℤ u)) ((i *ℤ v') +ℤ (j *ℤ u')) ((i *ℤ w) +ℤ (j *ℤ z))
mean_near i j v v' w u u' z hi hj positive h k =
    let low_i = near_low i v v' w hi h in
    let low_j = near_low j u u' z hj k in
    record {
      low = omega (arith, lin);
      high = elim (lt_or_ge (pos 0) i) [
        | inl p ↦ (let strict = (near_times i v v' w p h).high in let weak = near_high j u u' z hj k in omega (arith, lin))
        | inr n ↦ (let strict = (near_times j u u' z (omega (arith, lin)) k).high in let weak = near_high i v v' w hi h in omega (arith, lin))
      ];
    }

-- ---- each number rounds to one whole number

next_multiple : (c d : ℤ) → (c +ℤ pos 1) *ℤ d ≡ (c *ℤ d) +ℤ d
next_multiple c d = by_ring (c ∷ d ∷ []) ((Var 0 ⊕ Lit (pos 1)) ⊗ Var 1) (Var 0 ⊗ Var 1 ⊕ Var 1) refl

last_multiple : (c d : ℤ) → (c -ℤ pos 1) *ℤ d ≡ (c *ℤ d) -ℤ d
last_multiple c d = by_ring (c ∷ d ∷ []) ((Var 0 ⊖ Lit (pos 1)) ⊗ Var 1) (Var 0 ⊗ Var 1 ⊖ Var 1) refl

-- one further up, and one further down
abbrev Rounds : ℤ → ℤ → Type 0
Rounds x d = (c : ℤ) × Near (c *ℤ d) x d

round_up : (x d : ℤ) → pos 0 <ℤ d → Rounds x d → Rounds (x +ℤ pos 1) d
round_up x d positive h =
    let c = h.0 in
    let l = h.1.low in
    let u = h.1.high in
    let next = next_multiple c d in
    elim (lt_or_ge ((x +ℤ pos 1) +ℤ (x +ℤ pos 1)) (((c *ℤ d) +ℤ (c *ℤ d)) +ℤ d)) [
      | inl below ↦ (c, record { low = omega (arith, lin); high = below })
      | inr above ↦ (c +ℤ pos 1, record { low = omega (arith, lin); high = omega (arith, lin) })
    ]

round_down : (x d : ℤ) → pos 0 <ℤ d → Rounds x d → Rounds (x -ℤ pos 1) d
round_down x d positive h =
    let c = h.0 in
    let l = h.1.low in
    let u = h.1.high in
    let last = last_multiple c d in
    elim (lt_or_ge ((x -ℤ pos 1) +ℤ (x -ℤ pos 1)) (((c *ℤ d) +ℤ (c *ℤ d)) -ℤ d)) [
      | inl below ↦ (c -ℤ pos 1, record { low = omega (arith, lin); high = omega (arith, lin) })
      | inr above ↦ (c, record { low = above; high = omega (arith, lin) })
    ]

rounds_moved : (x y d : ℤ) → x ≡ y → Rounds x d → Rounds y d
rounds_moved x y d e h = let l = h.1.low in let u = h.1.high in (h.0, record { low = omega (arith, lin); high = omega (arith, lin) })

rounds_zero : (d : ℤ) → pos 0 <ℤ d → Rounds (pos 0) d
rounds_zero d positive = (pos 0, record { low = omega (arith, lin, zero_mul d); high = omega (arith, lin, zero_mul d) })

rounds_natural : (n : ℕ) (d : ℤ) → pos 0 <ℤ d → Rounds (pos n) d
rounds_natural zero d positive = rounds_zero d positive
rounds_natural (suc n) d positive = rounds_moved (pos n +ℤ pos 1) (pos (suc n)) d (omega (arith, lin)) (round_up (pos n) d positive (rounds_natural n d positive))

rounds_negated : (n : ℕ) (d : ℤ) → pos 0 <ℤ d → Rounds (neg_ℤ (pos n)) d
rounds_negated zero d positive = rounds_zero d positive
rounds_negated (suc n) d positive =
    rounds_moved (neg_ℤ (pos n) -ℤ pos 1) (neg_ℤ (pos (suc n))) d (omega (arith, lin)) (round_down (neg_ℤ (pos n)) d positive (rounds_negated n d positive))

-- a fraction rounds to some whole number
pub rounds : (x d : ℤ) → pos 0 <ℤ d → (c : ℤ) × Near (c *ℤ d) x d
rounds (pos n) d positive = rounds_natural n d positive
rounds (negsuc n) d positive = rounds_moved (neg_ℤ (pos (suc n))) (negsuc n) d (omega (arith, lin)) (rounds_negated (suc n) d positive)

rounds_below : (c c' x d : ℤ) → pos 0 <ℤ d → Near (c *ℤ d) x d → Near (c' *ℤ d) x d → c ≤ℤ c'
rounds_below c c' x d positive h k =
    let l = h.low in
    let u = k.high in
    let next = next_multiple c' d in
    let below = cancel_lt_right d c (c' +ℤ pos 1) (le_of_lt positive) (omega (arith, lin)) in
    omega (arith, lin)

-- and to one alone
pub rounds_once : (c c' x d : ℤ) → pos 0 <ℤ d → Near (c *ℤ d) x d → Near (c' *ℤ d) x d → c ≡ c'
rounds_once c c' x d positive h k = le_antisymm (rounds_below c c' x d positive h k) (rounds_below c' c x d positive k h)

-- over a whole number it rounds to one that is not below it, and under one to one that is not above it
pub rounds_above : (l r x d : ℤ) → pos 0 <ℤ d → (l *ℤ d) ≤ℤ x → Near (r *ℤ d) x d → l ≤ℤ r
rounds_above l r x d positive h near =
    let u = near.high in
    let next = next_multiple r d in
    let below = cancel_lt_right d l (r +ℤ pos 1) (le_of_lt positive) (omega (arith, lin)) in
    omega (arith, lin)

pub rounds_under : (l r x d : ℤ) → pos 0 <ℤ d → x ≤ℤ (l *ℤ d) → Near (r *ℤ d) x d → r ≤ℤ l
rounds_under l r x d positive h near =
    let low = near.low in
    let next = next_multiple l d in
    let below = cancel_lt_right d r (l +ℤ pos 1) (le_of_lt positive) (omega (arith, lin)) in
    omega (arith, lin)

-- the fractions x/d and y/e are one number and x/d rounds to c: so does y/e
pub near_same : (c x d y e : ℤ) → pos 0 <ℤ d → pos 0 <ℤ e → x *ℤ e ≡ y *ℤ d → Near (c *ℤ d) x d → Near (c *ℤ e) y e
near_same c x d y e hd he same h =
    let scaled = near_times e (c *ℤ d) x d he h in
    let l = scaled.low in
    let u = scaled.high in
    let centre = mul_left_comm d c e ∙ sym (mul_left_comm e c d ∙ ap (λ z. c *ℤ z) (mul_comm e d)) in
    near_cancel d (c *ℤ e) y e hd (record { low = omega (arith, lin, mul_comm e x, mul_comm d y, mul_comm e d); high = omega (arith, lin, mul_comm e x, mul_comm d y, mul_comm e d) })

-- ---- pixels

edge_low : (r d : ℤ) → ((pos 2 *ℤ r) -ℤ pos 1) *ℤ d ≡ ((r *ℤ d) +ℤ (r *ℤ d)) -ℤ d
edge_low r d = by_ring (r ∷ d ∷ []) ((Lit (pos 2) ⊗ Var 0 ⊖ Lit (pos 1)) ⊗ Var 1) ((Var 0 ⊗ Var 1 ⊕ Var 0 ⊗ Var 1) ⊖ Var 1) refl

edge_high : (r d : ℤ) → ((pos 2 *ℤ r) +ℤ pos 1) *ℤ d ≡ ((r *ℤ d) +ℤ (r *ℤ d)) +ℤ d
edge_high r d = by_ring (r ∷ d ∷ []) ((Lit (pos 2) ⊗ Var 0 ⊕ Lit (pos 1)) ⊗ Var 1) ((Var 0 ⊗ Var 1 ⊕ Var 0 ⊗ Var 1) ⊕ Var 1) refl

-- a point is in a pixel where both of its coordinates round to those of the centre
pub pixel-near : (p : Point) (r : Coord) → IsInPixel p r → Near (r.x *ℤ pos p.d) p.x (pos p.d) × Near (r.y *ℤ pos p.d) p.y (pos p.d)
pixel-near p r h =
    let left = h.left in
    let right = h.right in
    let bottom = h.bottom in
    let top = h.top in (
      record { low = omega (arith, lin, edge_low r.x (pos p.d), pos_times 2 p.x); high = omega (arith, lin, edge_high r.x (pos p.d), pos_times 2 p.x) },
      record { low = omega (arith, lin, edge_low r.y (pos p.d), pos_times 2 p.y); high = omega (arith, lin, edge_high r.y (pos p.d), pos_times 2 p.y) },
    )

pub near-pixel : (p : Point) (r : Coord) → Near (r.x *ℤ pos p.d) p.x (pos p.d) → Near (r.y *ℤ pos p.d) p.y (pos p.d) → IsInPixel p r
near-pixel p r x y =
    let x_low = x.low in
    let x_high = x.high in
    let y_low = y.low in
    let y_high = y.high in
    record {
      left = omega (arith, lin, edge_low r.x (pos p.d), pos_times 2 p.x);
      right = omega (arith, lin, edge_high r.x (pos p.d), pos_times 2 p.x);
      bottom = omega (arith, lin, edge_low r.y (pos p.d), pos_times 2 p.y);
      top = omega (arith, lin, edge_high r.y (pos p.d), pos_times 2 p.y);
    }

-- each point is in some pixel
pub pixel_of_point : (p : Point) → (r : Coord) × IsInPixel p r
pixel_of_point p =
    let x = rounds p.x (pos p.d) (d_positive p) in
    let y = rounds p.y (pos p.d) (d_positive p) in
    (record { x = x.0; y = y.0 }, near-pixel p (record { x = x.0; y = y.0 }) x.1 y.1)

-- and in one alone
pub pixel_unique : (p : Point) (r q : Coord) → IsInPixel p r → IsInPixel p q → r ≡ q
pixel_unique p r q h k =
    let in_r = pixel-near p r h in
    let in_q = pixel-near p q k in
    same_coords r q (rounds_once r.x q.x p.x (pos p.d) (d_positive p) in_r.0 in_q.0) (rounds_once r.y q.y p.y (pos p.d) (d_positive p) in_r.1 in_q.1)

-- one point as two fractions is in one pixel
pub pixel_same : (p q : Point) (r : Coord) → SamePoint p q → IsInPixel p r → IsInPixel q r
pixel_same p q r same h =
    let at_p = pixel-near p r h in
    near-pixel q r (near_same r.x p.x (pos p.d) q.x (pos q.d) (d_positive p) (d_positive q) same.0 at_p.0)
    (near_same r.y p.y (pos p.d) q.y (pos q.d) (d_positive p) (d_positive q) same.1 at_p.1)

-- a grid point is in the pixel of its own
pub pixel_own : (c : Coord) → IsInPixel (at_coord c) c
pixel_own c =
    let x = mul_one c.x in
    let y = mul_one c.y in
    near-pixel (at_coord c) c (record { low = omega (arith, lin); high = omega (arith, lin) }) (record { low = omega (arith, lin); high = omega (arith, lin) })
