-- The floor by which the code rounds.
use mathlib.Core.List.{[], ◌∷◌}
use Rattle.std.proofs.Common.{◌≡◌, refl, sym, ◌∙◌, ap, subst, ◌^◌, ℕ, suc, ◌*◌, ◌/◌, ◌+◌, ◌<◌, ℤ, pos, negsuc, neg_ℤ, ◌+ℤ◌, ◌-ℤ◌, ◌*ℤ◌, ◌<ℤ◌, ◌≤ℤ◌, FitsSigned, lit<, arith}
use Rattle.std.proofs.Math.Nat.{div-add-mod, mod-lt}
use Rattle.std.proofs.lemmas.Int.{to_z-of_z}
use Rattle.std.specs.Int.{int_div_euclid}
use mir.Syntax.{w128}
use Rattle.integer_laws.proofs.Ring.{lin, by_ring, Var, Lit, ◌⊕◌, ◌⊖◌, ◌⊗◌, mul_comm, neg_mul, add_mul, one_mul, pos_times}
use Rattle.integer_laws.proofs.Cast.{positive_natural}
use Rattle.integer_laws.proofs.Order.{mul_le, cancel_le_right, cancel_lt_right}
use Rattle.integer_laws.proofs.Bound.{IsWithin, within_fits}
use Rattle.integer_laws.proofs.Compare.{le_of_lt}
use Rattle.cov_types.specs.declared.coord.TheConstants.{LIMIT}
use Rattle.cov_types.specs.declared.coord.Coord.{Coord}
use Rattle.plane.specs.Point.{Point}
use Rattle.plane.specs.Snapping.{IsInPixel}
use Rattle.rounding_laws.proofs.Near.{pixel_unique}
use Rattle.hot_pixel.specs.Pixel.{RoundsTo}
use Rattle.hot_pixel.proofs.Beside.{read}

-- ---- the floor of a quotient

-- q is the floor of x/m
record IsFloor (q x m : ℤ) : Type 0 where
  pub low : (q *ℤ m) ≤ℤ x
  pub high : x <ℤ ((q *ℤ m) +ℤ m)

floor_natural : (a m : ℕ) → 0 < m → IsFloor (pos (a / m)) (pos a) (pos m)
floor_natural a m positive =
    let whole = div-add-mod a m in
    let rest = mod-lt a positive in
    let product : pos (a / m) *ℤ pos m ≡ pos (m * (a / m)) = mul_comm (pos (a / m)) (pos m) in
    record { low = omega (arith, lin); high = omega (arith, lin) }

negated_times : (k m : ℕ) → negsuc k *ℤ pos m ≡ neg_ℤ ((pos k *ℤ pos m) +ℤ pos m)
negated_times k m =
    let next : suc k ≡ k + 1 = omega arith in
    neg_mul (pos (suc k)) (pos m) ∙ ap (λ z. neg_ℤ (pos z *ℤ pos m)) next ∙ ap neg_ℤ (add_mul (pos k) (pos 1) (pos m) ∙ ap (λ z. (pos k *ℤ pos m) +ℤ z) (one_mul (pos m)))

floor_negated : (a m : ℕ) → 0 < m → IsFloor (negsuc (a / m)) (negsuc a) (pos m)
floor_negated a m positive =
    let whole = div-add-mod a m in
    let rest = mod-lt a positive in
    let product = negated_times (a / m) m in
    let exchanged : pos (a / m) *ℤ pos m ≡ pos (m * (a / m)) = mul_comm (pos (a / m)) (pos m) in
    let negated : negsuc a ≡ neg_ℤ (pos (a + 1)) = omega (arith, lin) in
    record { low = omega (arith, lin); high = omega (arith, lin) }

floor_is : (x : ℤ) (m : ℕ) → 0 < m → IsFloor (int_div_euclid x (pos m)) x (pos m)
floor_is (pos a) m positive = floor_natural a m positive
floor_is (negsuc a) m positive = floor_negated a m positive

floor_at : (x y : ℤ) → pos 0 <ℤ y → IsFloor (int_div_euclid x y) x y
floor_at x y positive =
    let n = positive_natural y positive in
    subst (λ z. IsFloor (int_div_euclid x z) x z) (sym n.2) (floor_is x n.0 n.1)

-- ---- rounding

-- the floor of (2n + d) / 2d
low_edge : (q d : ℤ) → ((pos 2 *ℤ q) -ℤ pos 1) *ℤ d ≡ (q *ℤ (pos 2 *ℤ d)) -ℤ d
low_edge q d = by_ring (q ∷ d ∷ []) ((Lit (pos 2) ⊗ Var 0 ⊖ Lit (pos 1)) ⊗ Var 1) (Var 0 ⊗ (Lit (pos 2) ⊗ Var 1) ⊖ Var 1) refl

high_edge : (q d : ℤ) → ((pos 2 *ℤ q) +ℤ pos 1) *ℤ d ≡ (q *ℤ (pos 2 *ℤ d)) +ℤ d
high_edge q d = by_ring (q ∷ d ∷ []) ((Lit (pos 2) ⊗ Var 0 ⊕ Lit (pos 1)) ⊗ Var 1) (Var 0 ⊗ (Lit (pos 2) ⊗ Var 1) ⊕ Var 1) refl

rounds_by_floor : (n d q : ℤ) → pos 0 <ℤ d → q ≡ int_div_euclid ((pos 2 *ℤ n) +ℤ d) (pos 2 *ℤ d) → RoundsTo n d q
rounds_by_floor n d q positive e =
    let floor = subst (λ z. IsFloor z ((pos 2 *ℤ n) +ℤ d) (pos 2 *ℤ d)) (sym e) (floor_at ((pos 2 *ℤ n) +ℤ d) (pos 2 *ℤ d) (omega (arith, lin, pos_times 2 d))) in
    let low = floor.low in
    let high = floor.high in
    record { low = omega (arith, lin, low_edge q d); high = omega (arith, lin, high_edge q d, pos_times 2 d) }

twice_times : (l d : ℤ) → (pos 2 *ℤ l) *ℤ d ≡ (l *ℤ d) +ℤ (l *ℤ d)
twice_times l d = by_ring (l ∷ d ∷ []) ((Lit (pos 2) ⊗ Var 0) ⊗ Var 1) (Var 0 ⊗ Var 1 ⊕ Var 0 ⊗ Var 1) refl

-- a fraction between two whole numbers rounds to one between them
rounds_above : (l n d r : ℤ) → pos 0 <ℤ d → (l *ℤ d) ≤ℤ n → RoundsTo n d r → l ≤ℤ r
rounds_above l n d r positive h rounds =
    let high = rounds.high in
    let below = cancel_lt_right d (pos 2 *ℤ l) ((pos 2 *ℤ r) +ℤ pos 1) (le_of_lt positive) (omega (arith, lin, twice_times l d, pos_times 2 n)) in
    omega (arith, lin, pos_times 2 l, pos_times 2 r)

rounds_under : (l n d r : ℤ) → pos 0 <ℤ d → n ≤ℤ (l *ℤ d) → RoundsTo n d r → r ≤ℤ l
rounds_under l n d r positive h rounds =
    let low = rounds.low in
    let above = cancel_le_right d ((pos 2 *ℤ r) -ℤ pos 1) (pos 2 *ℤ l) positive (omega (arith, lin, twice_times l d, pos_times 2 n)) in
    omega (arith, lin, pos_times 2 l, pos_times 2 r)

-- ---- in 128 bits

module _ (n d : ℤ) (positive : pos 0 <ℤ d) (small : d ≤ℤ pos (2 ^ 60)) (low : ((neg_ℤ LIMIT) *ℤ d) ≤ℤ n) (high : n ≤ℤ (LIMIT *ℤ d)) where
  num_small : IsWithin (2 ^ 88) n
  num_small = let most = mul_le LIMIT (omega (arith, lin)) small in record { low = omega (arith, lin, neg_mul LIMIT d); high = omega (arith, lin) }

  den_small : IsWithin (2 ^ 60) d
  den_small = record { low = omega (arith, lin); high = omega (arith, lin) }

  pub rounds_in_bits : (q : ℤ) → q ≡ int_div_euclid (read (read (pos 2 *ℤ read n) +ℤ read d)) (read (pos 2 *ℤ read d)) → RoundsTo n d q
  rounds_in_bits q e =
      let n_small = num_small in
      let d_small = den_small in
      let fits_n : FitsSigned w128 n = within_fits w128 (lit< tt) n_small in
      let fits_d : FitsSigned w128 d = within_fits w128 (lit< tt) d_small in
      let twice_n : IsWithin (2 ^ 89) (pos 2 *ℤ n) = record { low = omega (arith, lin, pos_times 2 n); high = omega (arith, lin, pos_times 2 n) } in
      let twice_d : IsWithin (2 ^ 61) (pos 2 *ℤ d) = record { low = omega (arith, lin, pos_times 2 d); high = omega (arith, lin, pos_times 2 d) } in
      let sum : IsWithin (2 ^ 90) ((pos 2 *ℤ n) +ℤ d) = record { low = omega (arith, lin); high = omega (arith, lin) } in
      let fits_2n : FitsSigned w128 (pos 2 *ℤ n) = within_fits w128 (lit< tt) twice_n in
      let fits_2d : FitsSigned w128 (pos 2 *ℤ d) = within_fits w128 (lit< tt) twice_d in
      let fits_sum : FitsSigned w128 ((pos 2 *ℤ n) +ℤ d) = within_fits w128 (lit< tt) sum in
      rounds_by_floor n d q positive (simp to_z-of_z at e)

-- what it rounds to, as a number of 32 bits
pub rounded_fits : (n d q : ℤ) → pos 0 <ℤ d → ((neg_ℤ LIMIT) *ℤ d) ≤ℤ n → n ≤ℤ (LIMIT *ℤ d) → RoundsTo n d q → ((neg_ℤ LIMIT) ≤ℤ q) × (q ≤ℤ LIMIT)
rounded_fits n d q positive low high rounds = (rounds_above (neg_ℤ LIMIT) n d q positive low rounds, rounds_under LIMIT n d q positive high rounds)

-- ---- pixels

-- where both coordinates round to those of c, the point is in the pixel of c and in no other
pub pixel_is : (p : Point) (c : Coord) → RoundsTo p.x (pos p.d) c.x → RoundsTo p.y (pos p.d) c.y → (r : Coord) → (IsInPixel p r → r ≡ c) × (r ≡ c → IsInPixel p r)
pixel_is p c x y r =
    let in_c : IsInPixel p c = record { left = x.low; right = x.high; bottom = y.low; top = y.high } in
    (λ h. pixel_unique p r c h in_c, λ e. subst (IsInPixel p) (sym e) in_c)
