-- The length of a segment in 1/256 units.
use Rattle.std.specs.Prelude.{ℕ, ◌+◌, ◌*◌, ◌-ℤ◌, unsigned_abs}
use lib.Ieee.{size, root_below}
use Rattle.cov_types.specs.declared.seg.Seg.{Seg}

-- the square root, rounded down: a binary digit of it for each binary digit of n
unfoldable pub root : ℕ → ℕ
unfolding root_below size
root n = root_below (size n) n

-- the length of an edge in 1/256 units, rounded down
unfoldable pub edge_length : Seg → ℕ
edge_length e =
    let dx = unsigned_abs (e.hi.x -ℤ e.lo.x) in
    let dy = unsigned_abs (e.hi.y -ℤ e.lo.y) in
    root (65536 * (dx * dx + dy * dy))
