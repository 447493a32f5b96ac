-- The sides of edges by their numbers.
use Rattle.std.specs.Prelude.{ℕ, ◌+◌, ◌-◌, ◌%◌, ◌==◌, cond}

-- the side on the other side of the same edge
abbrev pub across : ℕ → ℕ
across n = cond (n % 2 == 0) (n + 1) (n - 1)
