-- How deep grid points with some room are in front of an edge, and what the code computes of it.
use mathlib.Core.List.{[], ◌∷◌}
use mir.Syntax.{w32}
use Rattle.std.proofs.Common.{List, All, Contains, lit<, ◌≡◌, refl, sym, ◌∙◌, ap, subst, ℕ, ◌+◌, ◌-◌, ◌*◌, ◌/◌, ◌%◌, ◌^◌, ◌<◌, ◌≤◌, cond, inl, inr, ℤ, pos, neg_ℤ, ◌+ℤ◌, ◌-ℤ◌, ◌*ℤ◌, ◌≤ℤ◌, ◌<ℤ◌, unsigned_abs, arith}
use Rattle.std.proofs.Math.Nat.{mul-le-mul, mul-le-mul_right}
use Rattle.std.proofs.lemmas.Bool.{cases_lt}
use Rattle.std.proofs.lemmas.Int.{ints}
use Rattle.std.proofs.lemmas.List.Elements.{All-contains}
use Rattle.cov_types.specs.declared.coord.Coord.{Coord}
use Rattle.cov_types.specs.declared.seg.Seg.{Seg}
use Rattle.cov_types.specs.Range.{IsSegInRange}
use Rattle.integer_laws.proofs.Bound.{IsWithin, abs_within, within_difference}
use Rattle.integer_laws.proofs.Cast.{pos_mul, pos_le, pos_nonneg, natural, natural_or_negated}
use Rattle.integer_laws.proofs.Compare.{le_of_lt, int_lt_is, int_lt_false}
use Rattle.integer_laws.proofs.Ring.{lin, by_ring, by_one, by_two, Var, Lit, ◌⊖◌, ◌⊗◌, Neg, one_mul, minus_one_mul}
use Rattle.integer_laws.proofs.Sign.{positive_factor, square_nonneg}
use Rattle.plane.specs.Length.{root, edge_length}
use Rattle.plane.proofs.Roots.{root_is}
use Rattle.distance_laws.specs.Room.{doubled, foot, half_side, squared_length}
use Rattle.crossing_laws.proofs.Lists.{contains_here, contains_there}
use Rattle.clearance_laws.specs.Block.{AtCorners, corner}
use Rattle.clearance_laws.specs.Facing.{IsBeside, IsShallow, AreFacing, IsLeastDepth, depth, both}
use Rattle.grid_pred.proofs.Sizes.{x_within, y_within}
use Rattle.gap_width.specs.declared.own.OwnEdge.{OwnEdge}
use Rattle.gap_width.specs.Facing.{front_side}
use Rattle.grid_pred.proofs.Small.{read, read_within}
use Rattle.gap_width.specs.declared.block.Block.{Block}
use Rattle.gap_width.specs.declared.depth.Pair.{Pair}
use Rattle.gap_width.specs.Own.{IsSmallEdge}
use Rattle.gap_width.specs.Search.{IsBlock}
use Rattle.gap_width.specs.Depth.{Divides, IsPairFor, IsBetweenPair, depths_of}
use Rattle.gap_width.proofs.Steps.{root_at_most}

-- ---- divisors

-- what divides the lesser and the rest divides the greater
pub divides_greater : (d a b : ℕ) → 0 < b → Divides d b → Divides d (a % b) → Divides d a
divides_greater d a b some (k, first) (j, second) = (
  k * (a / b) + j,
  (
      let is : a ≡ b * (a / b) + a % b = omega arith in
      let rest : (k * (a / b) + j) * d ≡ (k * d) * (a / b) + j * d = grind arith in
      let product : b * (a / b) ≡ (k * d) * (a / b) = ap (λ n. n * (a / b)) first in
      omega (arith, is, rest, product, second)),
)

pub divides_self : (d : ℕ) → Divides d d
divides_self d = (1, omega arith)

pub divides_zero : (d n : ℕ) → n ≡ 0 → Divides d n
divides_zero d n none = (0, omega arith)

-- ---- roots and multiples, rounded up

pub root_up_least : (n j : ℕ) → n ≤ j * j → ((root n * root n < n) → root n + 1 ≤ j) × (root n ≤ j)
root_up_least n j le =
    let at_most = (root_is n).at_most in (
      λ less. elim (cases_lt (root n) j) [
        | inl below ↦ omega (arith, below)
        | inr not_below ↦ (let squares = mul-le-mul not_below not_below in absurd (omega (arith, squares, le, less)))
      ],
      elim (cases_lt j (root n)) [
        | inl more ↦ (let squares = mul-le-mul {n₁ = j + 1} {m₁ = j + 1} {n₂ = root n} {m₂ = root n} (omega (arith, more)) (omega (arith, more)) in absurd (omega (arith, squares, at_most, le)))
        | inr not_more ↦ not_more
      ],
    )

pub multiple_least : (n step t : ℕ) → 0 < step → (n % step ≡ 0 → ⊥) → n ≤ t * step → n + (step - n % step) ≤ t * step
multiple_least n step t some over le =
    elim (cases_lt (n / step) t) [
      | inl more ↦ (
          let times : (n / step + 1) * step ≤ t * step = mul-le-mul_right step (omega (arith, more)) in
          let is : n ≡ step * (n / step) + n % step = omega arith in
          let below : n % step < step = omega arith in
          let product : (n / step + 1) * step ≡ step * (n / step) + step = grind arith in
          omega (arith, times, is, below, product)
          )
      | inr not_more ↦ (
          let times : t * step ≤ n / step * step = mul-le-mul_right step not_more in
          let is : n ≡ step * (n / step) + n % step = omega arith in
          let product : n / step * step ≡ step * (n / step) = grind arith in
          absurd (over (omega (arith, times, is, product, le)))
          )
    ]

-- ---- the depths of grid points are multiples of twice what divides both coordinates of the edge

multiple : (x : ℤ) (d : ℕ) → Divides d (unsigned_abs x) → (t : ℤ) × (x ≡ t *ℤ pos d)
multiple x d (k, is) = elim (natural_or_negated x) [
  | inl (n, same) ↦ (pos k, same ∙ ap pos (sym (ap unsigned_abs same) ∙ is) ∙ pos_mul k d)
  | inr (n, some, same) ↦ (
    neg_ℤ (pos k),
    (
        let size : n ≡ k * d = omega (arith, ints, lin) in
        let product = pos_mul k d in
        let turned : neg_ℤ (pos k) *ℤ pos d ≡ neg_ℤ (pos k *ℤ pos d) = by_ring (pos k ∷ pos d ∷ []) (Neg (Var 0) ⊗ Var 1) (Neg (Var 0 ⊗ Var 1)) refl in
        same ∙ ap (λ z. neg_ℤ (pos z)) size ∙ omega (arith, lin)),
  )
]

pub depth_multiple : (k : ℤ) (q : Coord) (e : Seg) (d : ℕ) → Divides d (unsigned_abs (e.hi.x -ℤ e.lo.x)) → Divides d (unsigned_abs (e.hi.y -ℤ e.lo.y)) → (t : ℤ) × (depth k (doubled q) e ≡ t *ℤ pos (2 * d))
unfolding half_side
depth_multiple k q e d first second =
    let (s, x) = multiple (e.hi.x -ℤ e.lo.x) d first in
    let (t, y) = multiple (e.hi.y -ℤ e.lo.y) d second in (
      k *ℤ ((s *ℤ (q.y -ℤ e.lo.y)) -ℤ (t *ℤ (q.x -ℤ e.lo.x))),
      by_two (k ∷ q.x ∷ q.y ∷ e.lo.x ∷ e.lo.y ∷ (e.hi.x -ℤ e.lo.x) ∷ (e.hi.y -ℤ e.lo.y) ∷ s ∷ t ∷ pos d ∷ [])
          (Var 0 ⊗ (Var 5 ⊗ (Lit (pos 2) ⊗ Var 2 ⊖ Lit (pos 2) ⊗ Var 4) ⊖ Var 6 ⊗ (Lit (pos 2) ⊗ Var 1 ⊖ Lit (pos 2) ⊗ Var 3)))
          ((Var 0 ⊗ (Var 7 ⊗ (Var 2 ⊖ Var 4) ⊖ Var 8 ⊗ (Var 1 ⊖ Var 3))) ⊗ (Lit (pos 2) ⊗ Var 9))
          (Lit (pos 2) ⊗ (Var 0 ⊗ (Var 2 ⊖ Var 4))) (Var 5) (Var 7 ⊗ Var 9)
          (Neg (Lit (pos 2) ⊗ (Var 0 ⊗ (Var 1 ⊖ Var 3)))) (Var 6) (Var 8 ⊗ Var 9) refl x y
          ∙ ap (λ z. (k *ℤ ((s *ℤ (q.y -ℤ e.lo.y)) -ℤ (t *ℤ (q.x -ℤ e.lo.x)))) *ℤ z) (sym (pos_mul 2 d)),
    )

-- the next multiple from the root on is the least depth
pub least_is : (w : ℕ) (e : Seg) (length d m up : ℕ) → 0 < d → pos length ≡ squared_length e → Divides d (unsigned_abs (e.hi.x -ℤ e.lo.x)) → Divides d (unsigned_abs (e.hi.y -ℤ e.lo.y))
    → ((j : ℕ) → w * w * length ≤ j * j → up ≤ j) → ((t : ℕ) → up ≤ t * (2 * d) → m ≤ t * (2 * d)) → IsLeastDepth w e (pos m)
least_is w e length d m up some long first second root_least multiple_least k q unit in_front room =
    let (t, is) = depth_multiple k q e d first second in
    let h = half_side (doubled q) e in
    let positive : pos 0 <ℤ t = positive_factor (pos (2 * d)) t (pos_nonneg (2 * d)) (subst (λ z. pos 0 <ℤ z) (is ∙ by_ring (t ∷ pos (2 * d) ∷ []) (Var 0 ⊗ Var 1) (Var 1 ⊗ Var 0) refl) in_front) in
    let (n, t_is) = natural t (le_of_lt positive) in
    let deep : depth k (doubled q) e ≡ pos (n * (2 * d)) = is ∙ ap (λ z. z *ℤ pos (2 * d)) t_is ∙ sym (pos_mul n (2 * d)) in
    let square : pos ((n * (2 * d)) * (n * (2 * d))) ≡ h *ℤ h = pos_mul (n * (2 * d)) (n * (2 * d)) ∙ (λ i. sym deep i *ℤ sym deep i) ∙ squared k h unit in
    let product : pos (w * w * length) ≡ pos (w * w) *ℤ squared_length e = pos_mul (w * w) length ∙ ap (λ z. pos (w * w) *ℤ z) long in
    let room_there = (pos_le (w * w * length) ((n * (2 * d)) * (n * (2 * d)))).0 (omega (arith, lin)) in
    let at_most = (pos_le m (n * (2 * d))).1 (multiple_least n (root_least (n * (2 * d)) room_there)) in
    subst (λ z. pos m ≤ℤ z) (sym deep) at_most
  where
    squared : (k h : ℤ) → k *ℤ k ≡ pos 1 → (k *ℤ h) *ℤ (k *ℤ h) ≡ h *ℤ h
    squared k h unit = by_one (k ∷ h ∷ []) ((Var 0 ⊗ Var 1) ⊗ (Var 0 ⊗ Var 1)) (Var 1 ⊗ Var 1) (Var 1 ⊗ Var 1) (Var 0 ⊗ Var 0) (Lit (pos 1)) refl unit

-- ---- what the code computes of an edge and a point

pub foot_is : (c : Coord) (e : Seg) (ux uy vx vy n : ℤ) → ux ≡ e.hi.x -ℤ e.lo.x → uy ≡ e.hi.y -ℤ e.lo.y → vx ≡ c.x -ℤ (pos 2 *ℤ e.lo.x) → vy ≡ c.y -ℤ (pos 2 *ℤ e.lo.y) → n ≡ (ux *ℤ vx) +ℤ (uy *ℤ vy) → n ≡ foot c e
unfolding foot
foot_is c e ux uy vx vy n a b x y is = is ∙ (λ i. (a i *ℤ x i) +ℤ (b i *ℤ y i))

pub side_is : (c : Coord) (e : Seg) (ux uy vx vy n : ℤ) → ux ≡ e.hi.x -ℤ e.lo.x → uy ≡ e.hi.y -ℤ e.lo.y → vx ≡ c.x -ℤ (pos 2 *ℤ e.lo.x) → vy ≡ c.y -ℤ (pos 2 *ℤ e.lo.y) → n ≡ (ux *ℤ vy) -ℤ (uy *ℤ vx) → n ≡ half_side c e
unfolding half_side
side_is c e ux uy vx vy n a b x y is = is ∙ (λ i. (a i *ℤ y i) -ℤ (b i *ℤ x i))

pub length_is : (e : Seg) (ux uy n : ℤ) → ux ≡ e.hi.x -ℤ e.lo.x → uy ≡ e.hi.y -ℤ e.lo.y → n ≡ (ux *ℤ ux) +ℤ (uy *ℤ uy) → n ≡ squared_length e
unfolding squared_length
length_is e ux uy n a b is = is ∙ (λ i. (a i *ℤ a i) +ℤ (b i *ℤ b i))

pub length_nonneg : (e : Seg) → pos 0 ≤ℤ squared_length e
unfolding squared_length
length_nonneg e = let x = square_nonneg (e.hi.x -ℤ e.lo.x) in let y = square_nonneg (e.hi.y -ℤ e.lo.y) in omega (arith, lin)

-- the depth on the region's side
pub depth_above : (o : OwnEdge) (c : Coord) (s : ℤ) → s ≡ half_side c o.edge → o.weight <ℤ pos 0 → s ≡ depth (front_side o) c o.edge
depth_above o c s is below = is ∙ sym (one_mul (half_side c o.edge)) ∙ (λ i. cond (sym ((int_lt_is o.weight (pos 0)).1 below) i) (pos 1) (neg_ℤ (pos 1)) *ℤ half_side c o.edge)

pub depth_below : (o : OwnEdge) (c : Coord) (s : ℤ) → s ≡ half_side c o.edge → pos 0 ≤ℤ o.weight → neg_ℤ s ≡ depth (front_side o) c o.edge
depth_below o c s is above = ap neg_ℤ is ∙ sym (minus_one_mul (half_side c o.edge)) ∙ (λ i. cond (sym ((int_lt_false o.weight (pos 0)).1 above) i) (pos 1) (neg_ℤ (pos 1)) *ℤ half_side c o.edge)

-- an edge in range is 2^39 units of 1/256 long at most
pub length_small : (e : Seg) → IsSegInRange e → edge_length e ≤ 2 ^ 39
unfolding edge_length
length_small e is =
    let x = abs_within (within_difference (x_within e.hi is.hi) (x_within e.lo is.lo)) in
    let y = abs_within (within_difference (y_within e.hi is.hi) (y_within e.lo is.lo)) in
    let across = mul-le-mul x x in
    let upwards = mul-le-mul y y in
    root_at_most _ (2 ^ 39) (omega (arith, across, upwards))

pub room_small : (w n : ℕ) → w ≤ 2 ^ 31 + 1 → n ≤ 2 ^ 61 → w * w * n ≤ 2 ^ 124 - 2 ^ 122
room_small w n hw hn = (let square = mul-le-mul hw hw in let all = mul-le-mul square hn in omega (arith, all))

pub root_small : (n : ℕ) → n ≤ 2 ^ 124 - 2 ^ 122 → root n ≤ 2 ^ 62 - 2 ^ 33 - 1
root_small n h = root_at_most n (2 ^ 62 - 2 ^ 33 - 1) (omega (arith, h))

-- ---- corners of blocks

pub block_within : (b : Block) → IsBlock b → (IsWithin (2 ^ 28) b.lo.x × IsWithin (2 ^ 28) b.hi.x) × (IsWithin (2 ^ 28) b.lo.y × IsWithin (2 ^ 28) b.hi.y)
block_within b is =
    let left = is.left in
    let across = is.across in
    let right = is.right in
    let bottom = is.bottom in
    let upwards = is.upwards in
    let top = is.top in (
      (record { low = omega (arith, lin); high = omega (arith, lin) }, record { low = omega (arith, lin); high = omega (arith, lin) }),
      (record { low = omega (arith, lin); high = omega (arith, lin) }, record { low = omega (arith, lin); high = omega (arith, lin) }),
    )

-- as the code computes it
pub corner_is : (q : Coord) (x y : ℤ) → IsWithin (2 ^ 28) x → IsWithin (2 ^ 28) y → q ≡ corner (read w32 x) (read w32 y) → q ≡ corner x y
corner_is q x y hx hy is = is ∙ (λ i. corner (read_within w32 x (2 ^ 28) (lit< tt) hx i) (read_within w32 y (2 ^ 28) (lit< tt) hy i))

-- of both rows it is true at all corners
pub rows_are : (b : Block) (P : Coord → Type 0) → IsBlock b → P (corner b.lo.x (read w32 b.lo.y)) × P (corner b.hi.x (read w32 b.lo.y)) → P (corner b.lo.x (read w32 b.hi.y)) × P (corner b.hi.x (read w32 b.hi.y)) → AtCorners b.lo b.hi P
rows_are b P is low high =
    let within = block_within b is in
    let low_read = read_within w32 b.lo.y (2 ^ 28) (lit< tt) within.1.0 in
    let high_read = read_within w32 b.hi.y (2 ^ 28) (lit< tt) within.1.1 in
    record {
      low_left = subst (λ y. P (corner b.lo.x y)) low_read low.0;
      low_right = subst (λ y. P (corner b.hi.x y)) low_read low.1;
      high_left = subst (λ y. P (corner b.lo.x y)) high_read high.0;
      high_right = subst (λ y. P (corner b.hi.x y)) high_read high.1;
    }

pub shallow_at : (lo hi : Coord) (k : ℤ) (e : Seg) (m : ℤ) → AtCorners lo hi (λ c. IsBeside c e) → AtCorners lo hi (λ c. depth k c e <ℤ m) → AtCorners lo hi (IsShallow k e m)
shallow_at lo hi k e m beside less = record {
  low_left = record { beside = beside.low_left; shallow = less.low_left };
  low_right = record { beside = beside.low_right; shallow = less.low_right };
  high_left = record { beside = beside.high_left; shallow = less.high_left };
  high_right = record { beside = beside.high_right; shallow = less.high_right };
}

facing_of : (first second : OwnEdge) (room : ℕ) (p : Pair) (is : IsPairFor first second room p) (c : Coord) → IsBeside c first.edge → IsBeside c second.edge → IsBetweenPair p c
    → AreFacing (front_side first) first.edge is.first_depth (front_side second) second.edge is.second_depth c
facing_of first second room p is c beside_first beside_second between =
    let one = is.first_is in
    let two = is.second_is in
    let sums : depths_of p c ≡ both first.edge second.edge (depth (front_side first) c first.edge) (depth (front_side second) c second.edge) =
    λ i. both (one i).edge (two i).edge (depth (front_side (one i)) c (one i).edge) (depth (front_side (two i)) c (two i).edge) in
    let close = between.close in
    let over_first = between.over_first in
    let over_second = between.over_second in
    record {
      beside_first = beside_first;
      beside_second = beside_second;
      close = subst (λ z. z <ℤ both first.edge second.edge is.first_depth is.second_depth) sums (subst (λ z. depths_of p c <ℤ z) is.least close);
      over_first = subst (λ z. pos 0 <ℤ z) (λ i. sums i +ℤ depth (front_side (two i)) c (two i).edge) over_first;
      over_second = subst (λ z. pos 0 <ℤ z) (λ i. sums i +ℤ depth (front_side (one i)) c (one i).edge) over_second;
    }

pub facing_at : (lo hi : Coord) (first second : OwnEdge) (room : ℕ) (p : Pair) (is : IsPairFor first second room p) → AtCorners lo hi (λ c. IsBeside c first.edge) → AtCorners lo hi (λ c. IsBeside c second.edge) → AtCorners lo hi (IsBetweenPair p)
    → AtCorners lo hi (AreFacing (front_side first) first.edge is.first_depth (front_side second) second.edge is.second_depth)
facing_at lo hi first second room p is one two between = record {
  low_left = facing_of first second room p is (corner lo.x lo.y) one.low_left two.low_left between.low_left;
  low_right = facing_of first second room p is (corner hi.x lo.y) one.low_right two.low_right between.low_right;
  high_left = facing_of first second room p is (corner lo.x hi.y) one.high_left two.high_left between.high_left;
  high_right = facing_of first second room p is (corner hi.x hi.y) one.high_right two.high_right between.high_right;
}

-- ---- the edges of a list of one or two are small where all are

pub first_small : (few : List OwnEdge) (o : OwnEdge) (rest : List OwnEdge) → All IsSmallEdge few → few ≡ o ∷ rest → IsSmallEdge o
first_small few o rest all is = All-contains IsSmallEdge few o all (subst (λ xs. Contains xs o) (sym is) (contains_here o rest))

pub second_small : (few : List OwnEdge) (o p : OwnEdge) → All IsSmallEdge few → few ≡ o ∷ p ∷ [] → IsSmallEdge p
second_small few o p all is = All-contains IsSmallEdge few p all (subst (λ xs. Contains xs p) (sym is) (contains_there o p (p ∷ []) (contains_here p [])))
