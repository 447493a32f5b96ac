-- The levels of a packed tree, lowest first.
use Rattle.std.specs.Prelude.{ℕ, zero, suc, ◌/◌, ◌<◌, List, [], ◌∷◌, length, Vec}
use Rattle.std.specs.Global.{Global}
use Rattle.box_tree.specs.Hulls.{AreHulls}
use Rattle.box_tree.specs.declared.rect.Rect.{Rect}

-- the boxes of the level with this number, or none
abbrev pub level_at : List (Vec Rect Global) → ℕ → List Rect
level_at [] k = []
level_at (level ∷ levels) zero = level.items
level_at (level ∷ levels) (suc k) = level_at levels k

-- the number of the box of a level that has the box with the number k of the lowest one: a box has those of its block of eight
abbrev pub number_above : ℕ → ℕ → ℕ
number_above zero k = k
number_above (suc level) k = number_above level k / 8

-- there is a level, and each further one has the hulls of the one below
pub record IsPacked (levels : List (Vec Rect Global)) : Type 0 where
  pub some : 0 < length levels
  pub hulls : (k : ℕ) → suc k < length levels → AreHulls (level_at levels (suc k)) (level_at levels k)
