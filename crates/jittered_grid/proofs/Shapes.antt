-- The cells are in range, and each is a polygon with a ring of four points.
use Rattle.std.proofs.Common.{◌≡◌, sym, ◌∙◌, subst, arith, get_or, ℕ, zero, suc, ◌+◌, ◌*◌, ◌/◌, ◌%◌, ◌^◌, ◌≤◌, ◌<◌, pos, ◌-ℤ◌, ◌≤ℤ◌, neg_ℤ, List, [], ◌∷◌, All, length, flat_map}
use Rattle.std.specs.List.{range_with_len}
use Rattle.std.proofs.Math.Nat.{mul-le-mul_left, mul-le-mul_right}
use Rattle.std.proofs.lemmas.Int.{ints}
use Rattle.std.proofs.lemmas.List.{length-append, length-map}
use Rattle.std.proofs.lemmas.List.Elements.{All-cons, All-nil, All-map}
use Rattle.std.proofs.lemmas.List.FromFn.{length-range_with_len, get_or-range_with_len}
use Rattle.cov_types.proofs.AllUses.{All-flat_map}
use Rattle.cov_types.specs.Coverage.{IsRingInRange, IsPolyInRange, IsPolyFormed, IsRingFormed, IsMemberInRange, IsMemberFormed, IsFormed}
use Rattle.cov_types.specs.Range.{IsInRange}
use Rattle.cov_types.specs.declared.coord.Coord.{Coord}
use Rattle.cov_types.specs.declared.coord.TheConstants.{LIMIT}
use Rattle.jittered_grid.specs.Draws.{draw_at, state_after}
use Rattle.jittered_grid.specs.Cells.{jittered, corner, ring, cell, cells_in_row, cells}

-- ---- draws and coordinates

draw_at-bounds : (x : ℕ) → (neg_ℤ (pos 1) ≤ℤ draw_at x) × (draw_at x ≤ℤ pos 1)
draw_at-bounds x = go (x / 2 ^ 28 % 3) (omega arith)
  where
    go : (n : ℕ) → n < 3 → (neg_ℤ (pos 1) ≤ℤ (pos n -ℤ pos 1)) × ((pos n -ℤ pos 1) ≤ℤ pos 1)
    go n h = (omega (arith, ints), omega (arith, ints))

jittered-bounds : (seed number line : ℕ) → line ≤ 400 → ((neg_ℤ LIMIT) ≤ℤ jittered seed number line) × (jittered seed number line ≤ℤ LIMIT)
jittered-bounds seed number line h =
    let drawn = draw_at-bounds (state_after seed (number + 1)) in
    (omega (arith, ints, drawn.0, drawn.1), omega (arith, ints, drawn.0, drawn.1))

corner-in_range : (seed number column row : ℕ) → column ≤ 400 → row ≤ 400 → IsInRange (corner seed number column row)
corner-in_range seed number column row c r =
    let x = jittered-bounds seed number column c in
    let y = jittered-bounds seed (number + 1) row r in
    record { left = x.0; right = x.1; bottom = y.0; top = y.1 }

ring-in_range : (seed number column row : ℕ) → column < 400 → row < 400 → IsRingInRange (ring seed number column row)
ring-in_range seed number column row c r =
    let first = corner seed number column row in
    let second = corner seed (number + 2) (column + 1) row in
    let third = corner seed (number + 4) (column + 1) (row + 1) in
    let fourth = corner seed (number + 6) column (row + 1) in
    All-cons IsInRange first (second ∷ third ∷ fourth ∷ []) (corner-in_range seed number column row (omega arith) (omega arith))
    (All-cons IsInRange second (third ∷ fourth ∷ []) (corner-in_range seed (number + 2) (column + 1) row (omega arith) (omega arith))
    (All-cons IsInRange third (fourth ∷ []) (corner-in_range seed (number + 4) (column + 1) (row + 1) (omega arith) (omega arith))
    (All-cons IsInRange fourth [] (corner-in_range seed (number + 6) column (row + 1) (omega arith) (omega arith)) (All-nil IsInRange))))

-- ---- members

-- what holds of a ring holds of the rings of a polygon that has it alone, and of the polygons of a member that has that alone
alone : {X : Type 0} (P : X → Type 0) (x : X) → P x → All P (x ∷ [])
alone P x h = All-cons P x [] h (All-nil P)

cell-in_range : (side seed row column : ℕ) → column < 400 → row < 400 → IsMemberInRange (cell side seed row column)
cell-in_range side seed row column c r =
    let points = ring seed (8 * (row * side + column)) column row in
    alone IsPolyInRange (points ∷ []) (alone IsRingInRange points (ring-in_range seed (8 * (row * side + column)) column row c r))

cell-formed : (side seed row column : ℕ) → IsMemberFormed (cell side seed row column)
cell-formed side seed row column =
    let points = ring seed (8 * (row * side + column)) column row in
    alone IsPolyFormed (points ∷ []) (omega arith, alone IsRingFormed points (omega arith))

-- what holds of the numbers below a number
All-range : (P : ℕ → Type 0) (n : ℕ) → ((k : ℕ) → k < n → P k) → All P (range_with_len 0 n)
All-range P n h k d below =
    let within : k < n = omega (arith, below, length-range_with_len 0 n) in
    let at : k ≡ get_or (range_with_len 0 n) k d = omega (arith, get_or-range_with_len 0 n k d within) in
    subst P at (h k within)

All-cells : (P : List (List (List Coord)) → Type 0) (side seed : ℕ) → ((row column : ℕ) → row < side → column < side → P (cell side seed row column)) → All P (cells side seed)
All-cells P side seed h = All-flat_map P (cells_in_row side seed) (range_with_len 0 side)
    (All-range _ side (λ row r. All-map P (cell side seed row) (range_with_len 0 side) (All-range _ side (λ column c. h row column r c))))

-- ---- their number

length-rows : {A : Type 0} (f : ℕ → List A) (side from n : ℕ) → ((k : ℕ) → length (f k) ≡ side) → length (flat_map f (range_with_len from n)) ≡ n * side
length-rows f side from zero each = omega arith
length-rows f side from (suc n) each =
    let here = each from in
    let rest = length-rows f side (from + 1) n each in
    length-append (f from) _ ∙ omega (arith, here, rest)

-- there is a member for each cell
pub length-cells : (side seed : ℕ) → length (cells side seed) ≡ side * side
length-cells side seed = length-rows (cells_in_row side seed) side 0 side (λ row. length-map (range_with_len 0 side) (cell side seed row) ∙ length-range_with_len 0 side)

few : (side : ℕ) → side ≤ 400 → side * side < 2 ^ 32
few side h = omega (arith, mul-le-mul_left side h, mul-le-mul_right 400 h)

pub cells-formed : (side seed : ℕ) → side ≤ 400 → IsFormed (cells side seed)
cells-formed side seed h = record {
  in_range = record {
    coords = All-cells IsMemberInRange side seed (λ row column r c. cell-in_range side seed row column (omega (arith, h, c)) (omega (arith, h, r)));
    count = subst (λ k. k < 2 ^ 32) (sym (length-cells side seed)) (few side h);
  };
  shapes = All-cells IsMemberFormed side seed (λ row column r c. cell-formed side seed row column);
}
