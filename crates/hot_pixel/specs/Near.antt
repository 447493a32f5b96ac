-- Boxes near others.
use Rattle.std.specs.Prelude.{◌≡◌, ℕ, ◌<◌, ◌≤◌, Bool, ◌&&◌, int_le, List, length, slice_get, Some, All, Contains, IsTrue}
use Rattle.box_tree.specs.Rect.{is_touching}
use Rattle.box_tree.specs.declared.rect.Rect.{Rect}

-- near are numbers of boxes, among them those of all that touch a box at a place from first to before past
pub record AreNear (boxes : List Rect) (first past : ℕ) (near : List ℕ) : Type 0 where
  pub within : All (λ k. k < length boxes) near
  pub has : (i k : ℕ) (a b : Rect) → first ≤ i → i < past → slice_get boxes i ≡ Some a → slice_get boxes k ≡ Some b → IsTrue (is_touching a b) → Contains near k

-- a is inside b: each point of a is one of b
abbrev pub is_inside : Rect → Rect → Bool
is_inside a b = int_le b.lo.x a.lo.x && int_le a.hi.x b.hi.x && int_le b.lo.y a.lo.y && int_le a.hi.y b.hi.y
