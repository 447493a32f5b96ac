-- The uses of a list whose segments pass a column of a segment, or one beside them.
use Rattle.std.specs.Prelude.{ℕ, ◌+◌, Bool, ◌&&◌, pos, neg_ℤ, ◌+ℤ◌, ◌-ℤ◌, int_le, cond, List, [], ◌∷◌}
use Rattle.box_tree.specs.Rect.{spanned}
use Rattle.box_tree.specs.declared.rect.Rect.{Rect}
use Rattle.cov_types.specs.declared.coord.TheConstants.{LIMIT}
use Rattle.cov_types.specs.declared.edge_use.EdgeUse.{EdgeUse}
use Rattle.cov_types.specs.declared.seg.Seg.{Seg}

-- the box of the columns of s, and of one more on each side, over the whole range
abbrev pub columns_of : Seg → Rect
columns_of s = spanned (record { x = s.lo.x -ℤ pos 1; y = neg_ℤ LIMIT }) (record { x = s.hi.x +ℤ pos 1; y = LIMIT })

-- the columns of e, and one on each side, have one of s
abbrev pub is_in_columns : Seg → Seg → Bool
is_in_columns s e = int_le (e.lo.x -ℤ pos 1) s.hi.x && int_le (s.lo.x -ℤ pos 1) e.hi.x

-- the numbers, counted from first, of the uses whose segments pass, ascending
abbrev pub places_in_columns : Seg → ℕ → List EdgeUse → List ℕ
places_in_columns s first [] = []
places_in_columns s first (u ∷ uses) = cond (is_in_columns s u.seg) (first ∷ places_in_columns s (first + 1) uses) (places_in_columns s (first + 1) uses)
