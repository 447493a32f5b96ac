-- The places in a list of boxes.
use Rattle.std.specs.Prelude.{ℕ, ◌+◌, Bool, cond, List, [], ◌∷◌}
use Rattle.box_tree.specs.declared.rect.Rect.{Rect}

-- the numbers, counted from first, of the boxes that pass the test, ascending
abbrev pub places : (Rect → Bool) → ℕ → List Rect → List ℕ
places test first [] = []
places test first (b ∷ boxes) = cond (test b) (first ∷ places test (first + 1) boxes) (places test (first + 1) boxes)
