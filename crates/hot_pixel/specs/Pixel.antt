-- Fractions that round to whole numbers.
use Rattle.std.specs.Prelude.{ℤ, pos, ◌+ℤ◌, ◌-ℤ◌, ◌*ℤ◌, ◌≤ℤ◌, ◌<ℤ◌}

-- the fraction n/d rounds to r, and halves go up: r - 1/2 ≤ n/d < r + 1/2
pub record RoundsTo (n d r : ℤ) : Type 0 where
  pub low : (((pos 2 *ℤ r) -ℤ pos 1) *ℤ d) ≤ℤ (pos 2 *ℤ n)
  pub high : (pos 2 *ℤ n) <ℤ (((pos 2 *ℤ r) +ℤ pos 1) *ℤ d)
