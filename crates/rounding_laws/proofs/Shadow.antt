-- A chain edge is the shadow of its piece: within half a unit of it, and with no hot centre between its ends.
use mathlib.Core.List.{[], ◌∷◌}
use Rattle.std.proofs.Common.{◌≡◌, ◌⊎◌, refl, ℕ, ◌+◌, ◌*◌, ◌≤◌, ℤ, pos, ◌+ℤ◌, ◌*ℤ◌, List, arith}
use Rattle.integer_laws.proofs.Ring.{lin, by_one, Var, Lit, ◌⊕◌, ◌⊗◌, Neg, mul_comm, mul_one, one_mul, pos_times}
use Rattle.cov_types.specs.declared.coord.Coord.{Coord}
use Rattle.cov_types.specs.declared.seg.Seg.{Seg}
use Rattle.plane.specs.Point.{Point, IsBetween, at_coord}
use Rattle.plane.specs.Segment.{IsOn}
use Rattle.plane.specs.Ray.{Rises}
use Rattle.plane.specs.Noded.{IsWithinHalf}
use Rattle.plane.specs.Snapping.{IsHot, IsChain, chain_edges}
use Rattle.std.specs.Prelude.{Contains}
use Rattle.plane.proofs.Points.{d_positive, weights_positive}
use Rattle.rounding_laws.proofs.Near.{Near, near_times, mean_near, pixel-near, near-pixel}
use Rattle.rounding_laws.proofs.Passing.{between_on}
use Rattle.rounding_laws.proofs.Pieces.{IsPiece}
use Rattle.rounding_laws.proofs.Means.{mean, mean-between}
use Rattle.rounding_laws.proofs.Edges.{chain_edge}

-- q is within half a unit of p each way: strictly on the high side
pub record IsNearPoint (p q : Point) : Type 0 where
  pub x : Near (p.x *ℤ pos q.d) (q.x *ℤ pos p.d) (pos p.d *ℤ pos q.d)
  pub y : Near (p.y *ℤ pos q.d) (q.y *ℤ pos p.d) (pos p.d *ℤ pos q.d)

-- over plain variables: x/d is the mean of the whole numbers c and e with the weights m and n; f and u are other weights
shadow_number : (c e x d m n f u : ℤ) → x *ℤ ((m *ℤ pos 1) +ℤ (n *ℤ pos 1)) ≡ d *ℤ ((m *ℤ c) +ℤ (n *ℤ e))
    → d *ℤ (((m *ℤ u) *ℤ (c *ℤ f)) +ℤ ((n *ℤ f) *ℤ (e *ℤ u))) ≡ x *ℤ (((m *ℤ u) *ℤ f) +ℤ ((n *ℤ f) *ℤ u))
shadow_number c e x d m n f u h =
    by_one (c ∷ e ∷ x ∷ d ∷ m ∷ n ∷ f ∷ u ∷ [])
    (Var 3 ⊗ ((Var 4 ⊗ Var 7) ⊗ (Var 0 ⊗ Var 6) ⊕ (Var 5 ⊗ Var 6) ⊗ (Var 1 ⊗ Var 7))) (Var 2 ⊗ ((Var 4 ⊗ Var 7) ⊗ Var 6 ⊕ (Var 5 ⊗ Var 6) ⊗ Var 7))
    (Neg (Var 6 ⊗ Var 7)) (Var 2 ⊗ (Var 4 ⊗ Lit (pos 1) ⊕ Var 5 ⊗ Lit (pos 1))) (Var 3 ⊗ (Var 4 ⊗ Var 0 ⊕ Var 5 ⊗ Var 1)) refl h

near_shadow : (x d g k w : ℤ) → d *ℤ k ≡ x *ℤ w → Near (d *ℤ k) (d *ℤ g) (d *ℤ w) → Near (x *ℤ w) (g *ℤ d) (d *ℤ w)
near_shadow x d g k w e h =
    let l = h.low in
    let u = h.high in
    record { low = omega (arith, lin, mul_comm d g); high = omega (arith, lin, mul_comm d g) }

module _ (segs : List Seg) (s : Seg) (a b : Coord) (piece : IsPiece segs s a b) where
  -- the point of the piece with the weights of p, each times the other's denominator
  shadow_weight : (m n : ℕ) → 1 ≤ m + n → 1 ≤ m * piece.until.d + n * piece.from.d
  shadow_weight m n weighted = let w = weights_positive m n piece.until.d piece.from.d weighted piece.until.positive piece.from.positive in omega arith

  -- a point between the centres has a point of the piece near it
  pub shadow : (p : Point) → IsBetween p (at_coord a) (at_coord b) → (q : Point) × IsBetween q piece.from piece.until × IsNearPoint p q
  shadow p h =
      let m = h.first in
      let n = h.second in
      let f = piece.from in
      let u = piece.until in
      let i = pos m *ℤ pos u.d in
      let j = pos n *ℤ pos f.d in
      let weighted = shadow_weight m n h.weighted in
      let q = mean f u (m * u.d) (n * f.d) weighted in
      let near_f = pixel-near f a piece.from_in in
      let near_u = pixel-near u b piece.until_in in
      let x = mean_near i j (a.x *ℤ pos f.d) f.x (pos f.d) (b.x *ℤ pos u.d) u.x (pos u.d) (omega (arith, lin)) (omega (arith, lin)) (omega (arith, lin)) near_f.0 near_u.0 in
      let y = mean_near i j (a.y *ℤ pos f.d) f.y (pos f.d) (b.y *ℤ pos u.d) u.y (pos u.d) (omega (arith, lin)) (omega (arith, lin)) (omega (arith, lin)) near_f.1 near_u.1 in (
        q,
        mean-between f u (m * u.d) (n * f.d) weighted,
        record {
          x = near_shadow p.x (pos p.d) q.x ((i *ℤ (a.x *ℤ pos f.d)) +ℤ (j *ℤ (b.x *ℤ pos u.d))) (pos q.d)
              (shadow_number a.x b.x p.x (pos p.d) (pos m) (pos n) (pos f.d) (pos u.d) h.x) (near_times (pos p.d) ((i *ℤ (a.x *ℤ pos f.d)) +ℤ (j *ℤ (b.x *ℤ pos u.d))) q.x (pos q.d) (d_positive p) x);
          y = near_shadow p.y (pos p.d) q.y ((i *ℤ (a.y *ℤ pos f.d)) +ℤ (j *ℤ (b.y *ℤ pos u.d))) (pos q.d)
              (shadow_number a.y b.y p.y (pos p.d) (pos m) (pos n) (pos f.d) (pos u.d) h.y) (near_times (pos p.d) ((i *ℤ (a.y *ℤ pos f.d)) +ℤ (j *ℤ (b.y *ℤ pos u.d))) q.y (pos q.d) (d_positive p) y);
        },
      )

-- ---- half a unit

within_half : (p q : Point) → IsNearPoint p q → IsWithinHalf p q
within_half p q h =
    let x_low = h.x.low in
    let x_high = h.x.high in
    let y_low = h.y.low in
    let y_high = h.y.high in
    record {
      left = omega (arith, lin, pos_times 2 (p.x *ℤ pos q.d), pos_times 2 (q.x *ℤ pos p.d));
      right = omega (arith, lin, pos_times 2 (p.x *ℤ pos q.d), pos_times 2 (q.x *ℤ pos p.d));
      below = omega (arith, lin, pos_times 2 (p.y *ℤ pos q.d), pos_times 2 (q.y *ℤ pos p.d));
      above = omega (arith, lin, pos_times 2 (p.y *ℤ pos q.d), pos_times 2 (q.y *ℤ pos p.d));
    }

-- a point between the centres is within half a unit of a point of the segment
pub piece_half_unit : (segs : List Seg) (s : Seg) (a b : Coord) → Rises s → IsPiece segs s a b → (p : Point) → IsBetween p (at_coord a) (at_coord b)
    → (q : Point) × (IsOn s q × IsWithinHalf p q)
piece_half_unit segs s a b rises piece p h =
    let q = shadow segs s a b piece p h in
    (q.0, (between_on s q.0 piece.from piece.until rises piece.from_on piece.until_on q.1, within_half p q.0 q.2))

-- ---- no hot centre inside

near_whole : (c x d : ℤ) → Near (c *ℤ d) (x *ℤ pos 1) (pos 1 *ℤ d) → Near (c *ℤ d) x d
near_whole c x d h =
    let l = h.low in
    let u = h.high in
    record { low = omega (arith, lin, mul_one x, one_mul d); high = omega (arith, lin, mul_one x, one_mul d) }

-- a hot centre between the centres is one of them
pub no_centre_inside : (segs : List Seg) (s : Seg) (a b : Coord) → IsPiece segs s a b → (r : Coord) → IsHot segs r → IsBetween (at_coord r) (at_coord a) (at_coord b) → (r ≡ a) ⊎ (r ≡ b)
no_centre_inside segs s a b piece r hot h =
    let q = shadow segs s a b piece (at_coord r) h in
    piece.alone r q.0 hot q.1 (near-pixel q.0 r (near_whole r.x q.0.x (pos q.0.d) q.2.x) (near_whole r.y q.0.y (pos q.0.d) q.2.y))

-- ---- chain edges

module _ (segs : List Seg) (s : Seg) (c : List Coord) (e : Seg) (rises : Rises s) (chain : IsChain segs s c) (has : Contains (chain_edges c) e) where
  -- every point of a chain edge is within half a unit of a point of its segment
  pub half_unit : (p : Point) → IsOn e p → (q : Point) × (IsOn s q × IsWithinHalf p q)
  half_unit = piece_half_unit segs s e.lo e.hi rises (chain_edge segs s c e rises chain has).piece

  -- and a hot centre on it is one of its ends
  pub hot_is_end : (r : Coord) → IsHot segs r → IsOn e (at_coord r) → (r ≡ e.lo) ⊎ (r ≡ e.hi)
  hot_is_end = no_centre_inside segs s e.lo e.hi (chain_edge segs s c e rises chain has).piece
