-- The two parts of a block cover it, and each of its points is near its centre.
use mathlib.Core.List.{[], ◌∷◌}
use Rattle.std.proofs.Common.{◌≡◌, refl, ℕ, ◌*◌, ℤ, pos, ◌+ℤ◌, ◌-ℤ◌, ◌*ℤ◌, ◌≤ℤ◌, ◌⊎◌, inl, inr, arith}
use Rattle.cov_types.specs.declared.coord.Coord.{Coord}
use Rattle.integer_laws.proofs.Compare.{le_or_gt}
use Rattle.integer_laws.proofs.Ring.{lin, by_ring, Var, Lit, ◌⊕◌, ◌⊖◌, ◌⊗◌}
use Rattle.integer_laws.proofs.Sign.{nonneg_times_nonneg}
use Rattle.clearance_laws.specs.Near.{IsNear}
use Rattle.distance_laws.specs.Room.{doubled}
use Rattle.clearance_laws.specs.Block.{IsInBlock, centre}

pub twice : (x : ℤ) → pos 2 *ℤ x ≡ x +ℤ x
twice x = by_ring (x ∷ []) (Lit (pos 2) ⊗ Var 0) (Var 0 ⊕ Var 0) refl

-- ---- one coordinate

-- a whole number up to h is up to m, or from m + 1 on
low_or_high : (q m h : ℤ) → (pos 2 *ℤ q) ≤ℤ (pos 2 *ℤ h) → ((pos 2 *ℤ q) ≤ℤ (pos 2 *ℤ m)) ⊎ ((pos 2 *ℤ (m +ℤ pos 1)) ≤ℤ (pos 2 *ℤ q))
low_or_high q m h to =
    let two_q = twice q in
    let two_m = twice m in
    let two_n = twice (m +ℤ pos 1) in
    elim (le_or_gt q m) [
      | inl low ↦ inl (omega (arith, lin))
      | inr high ↦ inr (omega (arith, lin))
    ]

-- the gap to the middle is at most half the length, so its square is at most that of it
gap_square : (l h c : ℤ) → (pos 2 *ℤ l) ≤ℤ c → c ≤ℤ (pos 2 *ℤ h) → ((c -ℤ (l +ℤ h)) *ℤ (c -ℤ (l +ℤ h))) ≤ℤ ((h -ℤ l) *ℤ (h -ℤ l))
gap_square l h c from to =
    let two_l = twice l in
    let two_h = twice h in
    let left = c -ℤ (pos 2 *ℤ l) in
    let right = (pos 2 *ℤ h) -ℤ c in
    let product = nonneg_times_nonneg {x = left} {y = right} (omega (arith, lin)) (omega (arith, lin)) in
    let is : (h -ℤ l) *ℤ (h -ℤ l) ≡ ((c -ℤ (l +ℤ h)) *ℤ (c -ℤ (l +ℤ h))) +ℤ (left *ℤ right) =
    by_ring (l ∷ h ∷ c ∷ [])
    ((Var 1 ⊖ Var 0) ⊗ (Var 1 ⊖ Var 0))
    ((Var 2 ⊖ (Var 0 ⊕ Var 1)) ⊗ (Var 2 ⊖ (Var 0 ⊕ Var 1)) ⊕ (Var 2 ⊖ Lit (pos 2) ⊗ Var 0) ⊗ (Lit (pos 2) ⊗ Var 1 ⊖ Var 2)) refl in
    omega (arith, lin)

-- ---- blocks

pub across_covered : (lo hi q : Coord) (m : ℤ) → IsInBlock lo hi (doubled q) → IsInBlock lo (record { x = m; y = hi.y }) (doubled q) ⊎ IsInBlock (record { x = m +ℤ pos 1; y = lo.y }) hi (doubled q)
across_covered lo hi q m h = elim (low_or_high q.x m hi.x h.right) [
  | inl low ↦ inl (record { left = h.left; right = low; bottom = h.bottom; top = h.top })
  | inr high ↦ inr (record { left = high; right = h.right; bottom = h.bottom; top = h.top })
]

pub upwards_covered : (lo hi q : Coord) (m : ℤ) → IsInBlock lo hi (doubled q) → IsInBlock lo (record { x = hi.x; y = m }) (doubled q) ⊎ IsInBlock (record { x = lo.x; y = m +ℤ pos 1 }) hi (doubled q)
upwards_covered lo hi q m h = elim (low_or_high q.y m hi.y h.top) [
  | inl low ↦ inl (record { left = h.left; right = h.right; bottom = h.bottom; top = low })
  | inr high ↦ inr (record { left = h.left; right = h.right; bottom = high; top = h.top })
]

pub in_whole : (lo hi a b c : Coord) → lo.x ≤ℤ a.x → lo.y ≤ℤ a.y → b.x ≤ℤ hi.x → b.y ≤ℤ hi.y → IsInBlock a b c → IsInBlock lo hi c
in_whole lo hi a b c west south east north is = record {
  left = from lo.x a.x c.x west is.left;
  right = to b.x hi.x c.x east is.right;
  bottom = from lo.y a.y c.y south is.bottom;
  top = to b.y hi.y c.y north is.top;
}
  where
    from : (l a c : ℤ) → l ≤ℤ a → (pos 2 *ℤ a) ≤ℤ c → (pos 2 *ℤ l) ≤ℤ c
    from l a c less is = let two_l = twice l in let two_a = twice a in omega (arith, lin)

    to : (b h c : ℤ) → b ≤ℤ h → c ≤ℤ (pos 2 *ℤ b) → c ≤ℤ (pos 2 *ℤ h)
    to b h c less is = let two_b = twice b in let two_h = twice h in omega (arith, lin)

pub near_centre : (lo hi : Coord) (s : ℕ) (c : Coord) → (((hi.x -ℤ lo.x) *ℤ (hi.x -ℤ lo.x)) +ℤ ((hi.y -ℤ lo.y) *ℤ (hi.y -ℤ lo.y))) ≤ℤ pos (s * s) → IsInBlock lo hi c → IsNear (centre lo hi) c s
near_centre lo hi s c wide h =
    let x = gap_square lo.x hi.x c.x h.left h.right in
    let y = gap_square lo.y hi.y c.y h.bottom h.top in
    omega (arith, lin)
