-- Hulls of boxes that stand side by side in a list.
use Rattle.std.specs.Prelude.{◌≡◌, ℕ, ◌<◌, List, [], ◌∷◌, length, take, drop, All}
use Rattle.box_tree.specs.Rect.{IsInside}
use Rattle.box_tree.specs.declared.rect.Rect.{Rect}
use Rattle.cov_locate.specs.declared.level.Level.{Level}

-- the boxes are within the hull
abbrev pub IsHull : Rect → List Rect → Type 0
IsHull hull boxes = All (λ b. IsInside b hull) boxes

-- the boxes, so many at a time and the last of them maybe fewer, are within one of the hulls each
abbrev pub AreHullsBy : ℕ → List Rect → List Rect → Type 0
AreHullsBy width [] boxes = boxes ≡ []
AreHullsBy width (hull ∷ hulls) boxes = (0 < length boxes) × IsHull hull (take width boxes) × AreHullsBy width hulls (drop width boxes)

-- the level has the hulls of so many boxes at a time
pub record IsLevel (boxes : List Rect) (level : Level) : Type 0 where
  pub width : 0 < level.width
  pub hulls : AreHullsBy level.width level.hulls.items boxes
