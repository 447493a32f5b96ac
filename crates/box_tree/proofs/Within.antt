-- Boxes inside others.
use Rattle.std.proofs.Common.{◌≡◌, ℕ, ◌+◌, ◌<◌, ◌≤◌, List, length, take, get_or, subst}
use Rattle.std.specs.Prelude.{All}
use Rattle.std.proofs.lemmas.List.{take_all}
use Rattle.std.proofs.lemmas.List.Elements.{All-more, All-weaker}
use Rattle.integer_laws.proofs.Compare.{le_refl, le_trans}
use Rattle.box_tree.specs.Rect.{IsInside}
use Rattle.box_tree.specs.declared.rect.Rect.{Rect}

-- a box is inside itself
pub inside_refl : (a : Rect) → IsInside a a
inside_refl a = record { left = le_refl a.lo.x; right = le_refl a.hi.x; bottom = le_refl a.lo.y; top = le_refl a.hi.y }

-- a box inside one inside a third is inside the third
pub inside_trans : {a b c : Rect} → IsInside a b → IsInside b c → IsInside a c
inside_trans h k =
    record { left = le_trans k.left h.left; right = le_trans h.right k.right; bottom = le_trans k.bottom h.bottom; top = le_trans h.top k.top }

-- one box more is within a larger hull
pub within_more : (boxes : List Rect) (i : ℕ) (old new b : Rect) → i < length boxes → b ≡ get_or boxes i b → IsInside old new → IsInside b new
    → All (λ a. IsInside a old) (take i boxes) → All (λ a. IsInside a new) (take (i + 1) boxes)
within_more boxes i old new b lt read grown inside all =
    All-more (λ a. IsInside a new) boxes i b lt
    (All-weaker (λ a. IsInside a old) (λ a. IsInside a new) (λ a h. inside_trans h grown) (take i boxes) all)
    (subst (λ (a : Rect). IsInside a new) read inside)

-- all boxes of a list
pub within_all : (boxes : List Rect) (i : ℕ) (hull : Rect) → length boxes ≤ i → All (λ a. IsInside a hull) (take i boxes) → All (λ a. IsInside a hull) boxes
within_all boxes i hull le all = subst (λ (bs : List Rect). All (λ a. IsInside a hull) bs) (take_all i boxes le) all
