-- Hulls of neighbours.
use Rattle.std.specs.Prelude.{◌≡◌, ◌<◌, All, List, [], ◌∷◌, length, take, drop}
use Rattle.box_tree.specs.Rect.{IsInside}
use Rattle.box_tree.specs.declared.rect.Rect.{Rect}

-- each eight boxes, the last of them maybe fewer, are within one of the hulls
abbrev pub AreHulls : List Rect → List Rect → Type 0
AreHulls [] boxes = boxes ≡ []
AreHulls (hull ∷ hulls) boxes = (0 < length boxes) × All (λ b. IsInside b hull) (take 8 boxes) × AreHulls hulls (drop 8 boxes)
