-- Roots and squares of numbers with bounds, and the length of a segment by its squares.
use Rattle.std.proofs.Common.{◌≡◌, ◌∙◌, ℕ, ◌+◌, ◌*◌, ◌^◌, ◌<◌, ◌≤◌, ◌-ℤ◌, unsigned_abs, inl, inr, arith}
use Rattle.std.proofs.Math.Nat.{mul-le-mul}
use Rattle.std.proofs.lemmas.Bool.{cases_lt}
use Rattle.cov_types.specs.declared.seg.Seg.{Seg}
use Rattle.plane.specs.Length.{root, edge_length}
use Rattle.plane.proofs.Roots.{root_is}

-- the root of a number of 128 bits has 64 bits
pub root_small : (n : ℕ) → n < 2 ^ 128 → root n < 2 ^ 64
root_small n below =
    elim (cases_lt (root n) (2 ^ 64)) [
      | inl small ↦ small
      | inr large ↦ (
          let at_most = (root_is n).at_most in
          let square : (2 ^ 64) * (2 ^ 64) ≤ root n * root n = mul-le-mul large large in
          absurd (omega (arith, at_most, square, below))
          )
    ]

pub square_small : (d : ℕ) → d ≤ 2 ^ 29 → d * d ≤ 2 ^ 58
square_small d h = mul-le-mul h h

-- the length from the squares of the width and the height
pub length-by_squares : (s : Seg) (r a b : ℕ) → r ≡ root (65536 * (a + b))
    → a ≡ unsigned_abs (s.hi.x -ℤ s.lo.x) * unsigned_abs (s.hi.x -ℤ s.lo.x) → b ≡ unsigned_abs (s.hi.y -ℤ s.lo.y) * unsigned_abs (s.hi.y -ℤ s.lo.y)
    → r ≡ edge_length s
unfolding edge_length
length-by_squares s r a b is width height = is ∙ (λ i. root (65536 * (width i + height i)))
