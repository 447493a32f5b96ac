-- The place of a point along the Morton curve. Nothing is said of it but that equal points have one place.
use Rattle.std.specs.Prelude.{ℕ, ◌*◌, ◌^◌, ◌%◌, bit_and, bit_or, ℤ, pos, ◌+ℤ◌, unsigned_abs}
use Rattle.cov_types.specs.declared.coord.Coord.{Coord}

-- how far a number is above the least i32
abbrev pub above_least : ℤ → ℕ
above_least n = unsigned_abs (n +ℤ pos (2 ^ 31))

-- the bits moved up by k places, together with what they were, at the places of the mask
abbrev pub moved_apart : ℕ → ℕ → ℕ → ℕ
moved_apart k mask n = bit_and (bit_or n (n * 2 ^ k % 2 ^ 64)) mask

-- the lower half of the bits, each moved to twice its place
abbrev pub spread : ℕ → ℕ
spread n = moved_apart 1 0x5555555555555555 (moved_apart 2 0x3333333333333333 (moved_apart 4 0x0f0f0f0f0f0f0f0f (moved_apart 8 0x00ff00ff00ff00ff (moved_apart 16 0x0000ffff0000ffff n))))

-- the bits of the two numbers in turn
unfoldable pub curve_of : Coord → ℕ
curve_of p = bit_or (spread (above_least p.x)) (spread (above_least p.y) * 2 % 2 ^ 64)
