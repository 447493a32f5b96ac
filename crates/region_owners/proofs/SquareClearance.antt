-- The clearance of the inside of the square of size 10.
use mathlib.Core.List.{[], ◌∷◌}
use Rattle.std.proofs.Common.{◌≡◌, inl, inr, refl, sym, ◌∙◌, ap, subst, ℕ, ◌*◌, ◌≤◌, ℤ, pos, negsuc, ◌+ℤ◌, ◌-ℤ◌, ◌*ℤ◌, ◌≤ℤ◌, arith}
use Rattle.std.specs.Prelude.{Contains, unwrap_or}
use Rattle.std.proofs.lemmas.Bool.{cases_lt}
use Rattle.std.proofs.lemmas.Int.{ints}
use Rattle.std.proofs.lemmas.List.Elements.{All-from_recursion, All-contains}
use Rattle.std.proofs.lemmas.Nat.{mul-le}
use Rattle.cov_types.specs.declared.coord.Coord.{Coord}
use Rattle.cov_types.specs.declared.seg.Seg.{Seg}
use Rattle.integer_laws.proofs.Compare.{lt_or_ge, le_or_gt}
use Rattle.integer_laws.proofs.Order.{mul_le_mul}
use Rattle.integer_laws.proofs.Ring.{by_ring, Var, Lit, ◌⊖◌, ◌⊗◌}
use Rattle.integer_laws.proofs.Sign.{square_nonneg}
use Rattle.plane.specs.Examples.{grid, left, bottom, top, right}
use Rattle.plane.specs.Joined.{Joined}
use Rattle.plane.specs.Point.{at_coord}
use Rattle.plane.specs.Segment.{IsOn, side, lower}
use Rattle.plane.proofs.Points.{between_by}
use Rattle.plane.proofs.Sides.{side_zero-on}
use Rattle.arrangement.specs.Square.{square_edges}
use Rattle.arrangement.proofs.Squares.{corner, west_joined, south_joined, east_joined, north_joined, IsInside}
use Rattle.arrangement.proofs.SquareRegions.{inside_is, not_outside}
use Rattle.distance_laws.specs.Room.{squared_distance, HasRoom}
use Rattle.region_owners.specs.Gap.{HasRoomWithin, IsClearance}

-- ---- room in the middle

-- over plain variables: a distance of five units in one direction
room_of_five : (a b d : ℤ) → a *ℤ a ≡ pos 25 *ℤ (d *ℤ d) → (pos 100 *ℤ (d *ℤ d)) ≤ℤ (pos 4 *ℤ ((a *ℤ a) +ℤ (b *ℤ b)))
room_of_five a b d h = let s = square_nonneg b in omega (arith, ints)

-- where a is five units, one way or the other
five_squared : (a d k : ℤ) → (k *ℤ k ≡ pos 25) → a ≡ k *ℤ d → a *ℤ a ≡ pos 25 *ℤ (d *ℤ d)
five_squared a d k square is = (λ i. is i *ℤ is i) ∙ by_ring (k ∷ d ∷ []) ((Var 0 ⊗ Var 1) ⊗ (Var 0 ⊗ Var 1)) ((Var 0 ⊗ Var 0) ⊗ (Var 1 ⊗ Var 1)) refl ∙ (λ i. square i *ℤ (d *ℤ d))

sum_swap : (a b : ℤ) → (a *ℤ a) +ℤ (b *ℤ b) ≡ (b *ℤ b) +ℤ (a *ℤ a)
sum_swap a b = omega (arith, ints)

middle_room : (e : Seg) → Contains square_edges e → HasRoom (grid 5 5) 10 e
unfolding side squared_distance
middle_room e has = All-contains (HasRoom (grid 5 5) 10) square_edges e (All-from_recursion (HasRoom (grid 5 5) 10) square_edges (
  (λ r on. (let s = side_zero-on left r on in
      room_of_five ((pos 5 *ℤ pos r.d) -ℤ r.x) ((pos 5 *ℤ pos r.d) -ℤ r.y) (pos r.d) (five_squared ((pos 5 *ℤ pos r.d) -ℤ r.x) (pos r.d) (pos 5) refl (omega (arith, ints))))),
  (
    (λ r on. (let s = side_zero-on bottom r on in
        subst (λ t. (pos 100 *ℤ (pos r.d *ℤ pos r.d)) ≤ℤ (pos 4 *ℤ t)) (sum_swap ((pos 5 *ℤ pos r.d) -ℤ r.y) ((pos 5 *ℤ pos r.d) -ℤ r.x))
        (room_of_five ((pos 5 *ℤ pos r.d) -ℤ r.y) ((pos 5 *ℤ pos r.d) -ℤ r.x) (pos r.d) (five_squared ((pos 5 *ℤ pos r.d) -ℤ r.y) (pos r.d) (pos 5) refl (omega (arith, ints)))))),
    (
      (λ r on. (let s = side_zero-on top r on in
          subst (λ t. (pos 100 *ℤ (pos r.d *ℤ pos r.d)) ≤ℤ (pos 4 *ℤ t)) (sum_swap ((pos 5 *ℤ pos r.d) -ℤ r.y) ((pos 5 *ℤ pos r.d) -ℤ r.x))
          (room_of_five ((pos 5 *ℤ pos r.d) -ℤ r.y) ((pos 5 *ℤ pos r.d) -ℤ r.x) (pos r.d) (five_squared ((pos 5 *ℤ pos r.d) -ℤ r.y) (pos r.d) (negsuc 4) refl (omega (arith, ints)))))),
      (
        (λ r on. (let s = side_zero-on right r on in
            room_of_five ((pos 5 *ℤ pos r.d) -ℤ r.x) ((pos 5 *ℤ pos r.d) -ℤ r.y) (pos r.d) (five_squared ((pos 5 *ℤ pos r.d) -ℤ r.x) (pos r.d) (negsuc 4) refl (omega (arith, ints))))),
        tt,
      ),
    ),
  ),
)) has

middle_inside : IsInside (at_coord (grid 5 5))
middle_inside = record { right_of = record { lt = tt }; left_of = record { lt = tt }; above = record { lt = tt }; below = record { lt = tt } }

room_of_ten : HasRoomWithin square_edges 1 10
room_of_ten = record { at = grid 5 5; within = inside_is (at_coord (grid 5 5)) middle_inside; room = middle_room }

-- ---- grid points of the inside

on_left : (q : Coord) → q.x ≡ pos 0 → pos 0 ≤ℤ q.y → q.y ≤ℤ pos 10 → IsOn left (at_coord q)
on_left q x low high = between_by (at_coord q) (at_coord (grid 0 0)) (at_coord (grid 0 10)) (pos 10) (pos 10 -ℤ q.y) q.y (omega (arith, ints)) low (omega (arith, ints)) (omega (arith, ints)) (omega (arith, ints)) (omega (arith, ints))

on_right : (q : Coord) → q.x ≡ pos 10 → pos 0 ≤ℤ q.y → q.y ≤ℤ pos 10 → IsOn right (at_coord q)
on_right q x low high = between_by (at_coord q) (at_coord (grid 10 0)) (at_coord (grid 10 10)) (pos 10) (pos 10 -ℤ q.y) q.y (omega (arith, ints)) low (omega (arith, ints)) (omega (arith, ints)) (omega (arith, ints)) (omega (arith, ints))

module _ (q : Coord) (j : Joined square_edges (at_coord q) (lower left)) where
  not_out : Joined square_edges (at_coord q) corner → ⊥
  not_out = not_outside (at_coord q) j

  from_west : pos 0 ≤ℤ q.x
  from_west = elim (lt_or_ge q.x (pos 0)) [ inl less ↦ absurd (not_out (west_joined (at_coord q) less)) | inr more ↦ more ]

  from_south : pos 0 ≤ℤ q.y
  from_south = elim (lt_or_ge q.y (pos 0)) [ inl less ↦ absurd (not_out (south_joined (at_coord q) less)) | inr more ↦ more ]

  from_east : q.x ≤ℤ pos 10
  from_east = elim (le_or_gt q.x (pos 10)) [ inl less ↦ less | inr more ↦ absurd (not_out (east_joined (at_coord q) (omega (arith, ints)))) ]

  from_north : q.y ≤ℤ pos 10
  from_north = elim (le_or_gt q.y (pos 10)) [ inl less ↦ less | inr more ↦ absurd (not_out (north_joined (at_coord q) (omega (arith, ints)))) ]

-- ---- no more than 10

-- over plain variables: room of a grid point at most five units from the end of a level way
small_room : (v : ℕ) (s : ℤ) → pos 0 ≤ℤ s → s ≤ℤ pos 5 → pos (v * v) ≤ℤ (pos 4 *ℤ (s *ℤ s)) → v ≤ 10
small_room v s low high room =
    let most = mul_le_mul {x = s} {y = pos 5} {u = s} {v = pos 5} low high low high in
    elim (cases_lt 10 v) [
      | inl more ↦ (let large = mul-le 11 11 v v (omega arith) (omega arith) in absurd (omega (arith, ints)))
      | inr less ↦ less
    ]

level_room : (v : ℕ) (x y z s : ℤ) → (pos (v * v) *ℤ pos 1) ≤ℤ (pos 4 *ℤ ((((x *ℤ pos 1) -ℤ z) *ℤ ((x *ℤ pos 1) -ℤ z)) +ℤ (((y *ℤ pos 1) -ℤ y) *ℤ ((y *ℤ pos 1) -ℤ y)))) → (x -ℤ z) *ℤ (x -ℤ z) ≡ s *ℤ s
    → pos (v * v) ≤ℤ (pos 4 *ℤ (s *ℤ s))
level_room v x y z s room square =
    let dx : (x *ℤ pos 1) -ℤ z ≡ x -ℤ z = omega (arith, ints) in
    let dy : (y *ℤ pos 1) -ℤ y ≡ pos 0 = omega (arith, ints) in
    let across : ((x *ℤ pos 1) -ℤ z) *ℤ ((x *ℤ pos 1) -ℤ z) ≡ s *ℤ s = (λ i. dx i *ℤ dx i) ∙ square in
    let up : ((y *ℤ pos 1) -ℤ y) *ℤ ((y *ℤ pos 1) -ℤ y) ≡ pos 0 = λ i. dy i *ℤ dy i in
    omega (arith, ints)

pub at_most_ten : (v : ℕ) (q : Coord) → Joined square_edges (at_coord q) (lower left) → ((e : Seg) → Contains square_edges e → HasRoom q v e) → v ≤ 10
unfolding squared_distance
at_most_ten v q j room =
    let low = from_south q j in
    let high = from_north q j in
    let x_low = from_west q j in
    let x_high = from_east q j in
    elim (le_or_gt q.x (pos 5)) [
      | inl near ↦ small_room v q.x x_low near (level_room v q.x q.y (pos 0) q.x (room left (0, omega arith, refl) (at_coord (record { x = pos 0; y = q.y })) (on_left (record { x = pos 0; y = q.y }) refl low high)) (λ i. to_zero q.x i *ℤ to_zero q.x i))
      | inr far ↦ small_room v (pos 10 -ℤ q.x) (omega (arith, ints)) (omega (arith, ints)) (level_room v q.x q.y (pos 10) (pos 10 -ℤ q.x) (room right (3, omega arith, refl) (at_coord (record { x = pos 10; y = q.y })) (on_right (record { x = pos 10; y = q.y }) refl low high)) (by_ring (q.x ∷ []) ((Var 0 ⊖ Lit (pos 10)) ⊗ (Var 0 ⊖ Lit (pos 10))) ((Lit (pos 10) ⊖ Var 0) ⊗ (Lit (pos 10) ⊖ Var 0)) refl))
    ]
  where
    to_zero : (x : ℤ) → x -ℤ pos 0 ≡ x
    to_zero x = omega (arith, ints)

pub square_clearance : IsClearance square_edges 1 10
square_clearance = record {
  reached = λ some. room_of_ten;
  greatest = λ v some h. (
      let here : lower left ≡ h.within.joined.at = ap (λ o. unwrap_or o (lower left)) h.within.joined.side in
      at_most_ten v h.at (subst (λ at. Joined square_edges (at_coord h.at) at) (sym here) h.within.joined.joined) h.room);
}
