-- Where boxes lie about a point.
use Rattle.std.specs.Prelude.{◌≡◌, ℕ, Bool, true, false, ◌+◌, ◌<◌, ◌≤◌, List, [], ◌∷◌, slice_index_or, ◌<ℤ◌, ◌⊎◌}
use Rattle.box_tree.specs.declared.rect.Rect.{Rect}
use Rattle.cov_locate.specs.declared.block.Block.{Block}
use Rattle.cov_locate.specs.declared.block.Placed.{Placed}
use Rattle.cov_locate.specs.declared.block.Placed.TheVariants.{Beside, Higher, Near}
use Rattle.cov_types.specs.declared.coord.Coord.{Coord}

-- the box is so placed about the point
abbrev pub IsPlaced : Rect → Coord → Placed → Type 0
IsPlaced b p Beside = (p.x <ℤ b.lo.x) ⊎ ((b.hi.x <ℤ p.x) ⊎ (b.hi.y <ℤ p.y))
IsPlaced b p Higher = p.y <ℤ b.lo.y
IsPlaced b p Near = Unit {0}

-- the box is so placed about all points of another
abbrev pub IsPlacedAbout : Rect → Rect → Placed → Type 0
IsPlacedAbout b round Beside = (round.hi.x <ℤ b.lo.x) ⊎ ((b.hi.x <ℤ round.lo.x) ⊎ (b.hi.y <ℤ round.lo.y))
IsPlacedAbout b round Higher = round.hi.y <ℤ b.lo.y
IsPlacedAbout b round Near = Unit {0}

-- it is near, neither beside nor above all of them
abbrev pub is_near : Placed → Bool
is_near Beside = false
is_near Higher = false
is_near Near = true

-- the block has some boxes, one where it is near, and all of them are so placed
pub record IsBlock (boxes : List Rect) (from end : ℕ) (p : Coord) (block : Block) : Type 0 where
  pub some : from < block.to
  pub ends : block.to ≤ end
  pub one : block.placed ≡ Near → block.to ≡ from + 1
  pub placed : (k : ℕ) (d : Rect) → from ≤ k → k < block.to → IsPlaced (slice_index_or boxes k d) p block.placed

-- the blocks fill the places from one to before another, one after the other, and their boxes are so placed
abbrev pub AreBlocks : List Rect → ℕ → ℕ → Coord → List Block → Type 0
AreBlocks boxes from end p [] = from ≡ end
AreBlocks boxes from end p (block ∷ blocks) = IsBlock boxes from end p block × AreBlocks boxes block.to end p blocks
