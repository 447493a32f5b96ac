-- Boxes in another order than that of their rings.
use Rattle.std.specs.Prelude.{◌≡◌, ℕ, ◌<◌, List, length, map, All, AllPairs, Contains, slice_index_or}
use Rattle.box_tree.specs.declared.rect.Rect.{Rect}

-- the list has each number below the count, once
pub record AreFirstNumbers (count : ℕ) (order : List ℕ) : Type 0 where
  pub within : All (λ n. n < count) order
  pub each : (n : ℕ) → n < count → Contains order n
  pub once : AllPairs (λ m n. ¬ (m ≡ n)) order

-- the boxes with these numbers, one after the other
abbrev pub AreMoved : List Rect → List ℕ → List Rect → Type 0
AreMoved boxes order moved = (d : Rect) → moved ≡ map (λ n. slice_index_or boxes n d) order

-- all boxes, in this order
pub record AreMovedBoxes (boxes : List Rect) (order : List ℕ) (moved : List Rect) : Type 0 where
  pub numbers : AreFirstNumbers (length boxes) order
  pub moved_boxes : AreMoved boxes order moved
