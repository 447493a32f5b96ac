-- The tests that tell whether a point is in a closed triangle, which may be flat.
use Rattle.std.specs.Prelude.{ℤ, pos, Bool, ◌&&◌, ◌||◌, not, int_le}
use Rattle.cov_types.specs.declared.coord.Coord.{Coord}
use Rattle.cov_types.specs.Coord.{is_before}

-- none of the three turns is negative, or none is positive
abbrev pub are_one_way : ℤ → ℤ → ℤ → Bool
are_one_way x y z = (int_le (pos 0) x && int_le (pos 0) y && int_le (pos 0) z) || (int_le x (pos 0) && int_le y (pos 0) && int_le z (pos 0))

-- in the order of coordinates, p is neither before all three nor after all three
abbrev pub is_amid : Coord → Coord → Coord → Coord → Bool
is_amid a b c p = (not (is_before p a) || not (is_before p b) || not (is_before p c)) && (not (is_before a p) || not (is_before b p) || not (is_before c p))
