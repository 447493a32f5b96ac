-- Boxes about uses that stand side by side.
use Rattle.std.specs.Prelude.{◌≡◌, ℕ, ◌<◌, false, List, [], ◌∷◌, length, take, drop, All, pos, ◌+ℤ◌, ◌*ℤ◌, ◌<ℤ◌}
use Rattle.box_tree.specs.Probe.{is_above_point}
use Rattle.box_tree.specs.Rect.{IsInside, box_of_segment}
use Rattle.box_tree.specs.declared.rect.Rect.{Rect}
use Rattle.cov_types.specs.declared.coord.Coord.{Coord}
use Rattle.cov_types.specs.declared.edge_use.EdgeUse.{EdgeUse}
use Rattle.cov_types.specs.declared.seg.Seg.{Seg}
use Rattle.cov_valid.specs.declared.level.Level.{Level}
use Rattle.cov_valid.specs.declared.placed.Placed.{Placed}
use Rattle.cov_valid.specs.declared.placed.Placed.TheVariants.{Beside, Higher, Near}

-- the segments of the uses are within the box
abbrev pub IsAbout : List EdgeUse → Rect → Type 0
IsAbout uses b = All (λ u. IsInside (box_of_segment u.seg) b) uses

-- the uses, so many at a time and the last of them maybe fewer, are within one of the boxes each
abbrev pub AreAbout : ℕ → List Rect → List EdgeUse → Type 0
AreAbout width [] uses = uses ≡ []
AreAbout width (b ∷ boxes) uses = (0 < length uses) × IsAbout (take width uses) b × AreAbout width boxes (drop width uses)

-- the level has the boxes about so many uses at a time
pub record IsLevel (uses : List EdgeUse) (level : Level) : Type 0 where
  pub width : 0 < level.width
  pub boxes : AreAbout level.width level.boxes.items uses

-- the midpoint of the segment, taken twice
abbrev pub twice_middle : Seg → Coord
twice_middle s = record { x = s.lo.x +ℤ s.hi.x; y = s.lo.y +ℤ s.hi.y }

-- where a box lies that is so placed about the half of a point: no edge in it is over the half, or all in it are higher
abbrev pub IsPlaced : Rect → Coord → Placed → Type 0
IsPlaced b middle Beside = is_above_point middle b ≡ false
IsPlaced b middle Higher = middle.y <ℤ (pos 2 *ℤ b.lo.y)
IsPlaced b middle Near = Unit {0}
