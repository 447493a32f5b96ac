-- When boxes touch, and which boxes touch the same box.
use Rattle.std.proofs.Common.{◌≡◌, true, ◌&&◌, IsTrue, ◌↔◌, int_le, ◌≤ℤ◌}
use Rattle.std.proofs.lemmas.Bool.{and_parts, and_from}
use Rattle.integer_laws.proofs.Compare.{int_le_is, le_trans}
use Rattle.box_tree.specs.Rect.{IsInside, is_touching}
use Rattle.box_tree.specs.declared.rect.Rect.{Rect}

-- the closed boxes overlap in x and in y
pub record Touch (a b : Rect) : Type 0 where
  pub left : a.lo.x ≤ℤ b.hi.x
  pub right : b.lo.x ≤ℤ a.hi.x
  pub below : a.lo.y ≤ℤ b.hi.y
  pub above : b.lo.y ≤ℤ a.hi.y

-- what the test tells
pub is_touching-is : (a b : Rect) → IsTrue (is_touching a b) ↔ Touch a b
is_touching-is a b = (
  λ h.
      let outer = and_parts (int_le a.lo.x b.hi.x && int_le b.lo.x a.hi.x && int_le a.lo.y b.hi.y) (int_le b.lo.y a.hi.y) h in
      let inner = and_parts (int_le a.lo.x b.hi.x && int_le b.lo.x a.hi.x) (int_le a.lo.y b.hi.y) outer.0 in
      let sides = and_parts (int_le a.lo.x b.hi.x) (int_le b.lo.x a.hi.x) inner.0 in
      record {
        left = (int_le_is a.lo.x b.hi.x).0 sides.0;
        right = (int_le_is b.lo.x a.hi.x).0 sides.1;
        below = (int_le_is a.lo.y b.hi.y).0 inner.1;
        above = (int_le_is b.lo.y a.hi.y).0 outer.1;
      },
  λ t.
      and_from (int_le a.lo.x b.hi.x && int_le b.lo.x a.hi.x && int_le a.lo.y b.hi.y) (int_le b.lo.y a.hi.y)
      (and_from (int_le a.lo.x b.hi.x && int_le b.lo.x a.hi.x) (int_le a.lo.y b.hi.y)
      (and_from (int_le a.lo.x b.hi.x) (int_le b.lo.x a.hi.x) ((int_le_is a.lo.x b.hi.x).1 t.left) ((int_le_is b.lo.x a.hi.x).1 t.right))
      ((int_le_is a.lo.y b.hi.y).1 t.below))
      ((int_le_is b.lo.y a.hi.y).1 t.above),
)

-- a box that touches one inside another touches the other
pub touch_upward : (own a b : Rect) → IsInside a b → is_touching own a ≡ true → is_touching own b ≡ true
touch_upward own a b inside h =
    let t = (is_touching-is own a).0 h in
    (is_touching-is own b).1 (record {
      left = le_trans t.left inside.right;
      right = le_trans inside.left t.right;
      below = le_trans t.below inside.top;
      above = le_trans inside.bottom t.above;
    })

-- what a box inside touches, the box about it touches
pub touch_wider : (own round b : Rect) → IsInside own round → is_touching own b ≡ true → is_touching round b ≡ true
touch_wider own round b inside h =
    let t = (is_touching-is own b).0 h in
    (is_touching-is round b).1 (record {
      left = le_trans inside.left t.left;
      right = le_trans t.right inside.right;
      below = le_trans inside.bottom t.below;
      above = le_trans t.above inside.top;
    })
