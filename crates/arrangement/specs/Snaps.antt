-- Instances of snap rounding: a crossing on the corner of pixels, and what it does to the chains.
use Rattle.std.specs.Prelude.{List, [], ◌∷◌, refl, pos, negsuc}
use Rattle.std.proofs.Common.{lit≤}
use Rattle.cov_types.specs.declared.seg.Seg.{Seg}
use Rattle.plane.specs.Examples.{grid, segment}
use Rattle.plane.specs.Point.{Point}
use Rattle.plane.specs.Snapping.{IsInPixel, IsHot, MeetsPixel}
use Rattle.arrangement.specs.Noding.{AreSnapped, snapped_uses}
use Rattle.arrangement.specs.Examples.{half_crossing, half_chains}

-- the point (1/2, 1/2), a corner of four pixels
abbrev pub half : Point
half = record { x = pos 1; y = pos 1; d = 2; positive = lit≤ tt }

-- two segments that cross there and end elsewhere
abbrev pub wide_rising : Seg
wide_rising = segment (record { x = negsuc 0; y = negsuc 0 }) (grid 2 2) refl

-- the one that goes down
abbrev pub wide_falling : Seg
wide_falling = segment (record { x = negsuc 0; y = pos 2 }) (record { x = pos 2; y = negsuc 0 }) refl

-- both of them
abbrev pub wide_crossing : List Seg
wide_crossing = wide_rising ∷ wide_falling ∷ []

-- the crossing at (1/2, 1/2) makes (1, 1) hot and (0, 0) not
pub record HotExamples : Type 0 where
  pub its_pixel : IsInPixel half (grid 1 1)
  pub not_its_pixel : ¬ IsInPixel half (grid 0 0)
  pub hot : IsHot wide_crossing (grid 1 1)
  pub not_hot : ¬ IsHot wide_crossing (grid 0 0)

-- the chain of the segment from (0, 1) to (1, 0) goes through (1, 1); a segment that passes near (5, 0) meets its pixel
pub record ChainExamples : Type 0 where
  pub half_crossing : AreSnapped half_crossing (snapped_uses half_crossing half_chains)
  pub passed : MeetsPixel (segment (grid 0 0) (grid 10 1) refl) (grid 5 0)
