-- The slots of cells: a point, or nothing where it has gone; and what a search among them knows.
use Rattle.std.specs.Prelude.{◌≡◌, ◌⊎◌, ◌∷◌, [], ℕ, false, List, length, flat_map, option_to_list, Option, Some, None, slice_get}
use Rattle.cov_types.specs.declared.coord.Coord.{Coord}
use Rattle.cov_types.specs.Coord.{is_before}
use Rattle.cov_types.specs.Range.{IsInRange}
use Rattle.box_tree.specs.Rect.{IsInside, box_of_point}
use Rattle.box_tree.specs.declared.rect.Rect.{Rect}
use Rattle.greedy_run.specs.Run.{current}
use Rattle.cov_cells.specs.Way.{IsInWay}
use Rattle.cov_cells.specs.declared.wanted.Wanted.{Wanted}
use Rattle.cov_cells.specs.declared.wanted.Wanted.TheVariants.{At, InWay}
use Rattle.cov_cells.specs.declared.found.Found.{Found}

-- the points that are left
abbrev pub living : List (Option Coord) → List Coord
living slots = flat_map option_to_list slots

-- the point stands in the slot
abbrev pub StandsIn : List (Option Coord) → ℕ → Coord → Type 0
StandsIn slots k p = slice_get slots k ≡ Some (Some p)

-- the boxes are those of the points in the slots, which are in range
pub record AreCells (slots : List (Option Coord)) (boxes : List Rect) : Type 0 where
  pub count : length boxes ≡ length slots
  pub in_range : (k : ℕ) (p : Coord) → StandsIn slots k p → IsInRange p
  pub at : (k : ℕ) (p : Coord) → StandsIn slots k p → slice_get boxes k ≡ Some (box_of_point p)

-- what is wanted has its points in range
abbrev pub IsWantedInRange : Wanted → Type 0
IsWantedInRange (At p) = Unit {0}
IsWantedInRange (InWay a b c) = IsInRange a × IsInRange b × IsInRange c

-- the point is wanted
abbrev pub IsWanted : Wanted → Coord → Type 0
IsWanted (At p) q = q ≡ p
IsWanted (InWay a b c) q = IsInWay (record { a = a; b = b; c = c }) q

-- the box is round all that is wanted
abbrev pub IsRound : Wanted → Rect → Type 0
IsRound (At p) box = IsInside (box_of_point p) box
IsRound (InWay a b c) box = IsInside (box_of_point a) box × IsInside (box_of_point b) box × IsInside (box_of_point c) box

-- what was found, if anything, is wanted and stands in its slot
abbrev pub IsHeld : List (Option Coord) → Wanted → Option Found → Type 0
IsHeld slots wanted None = Unit {0}
IsHeld slots wanted (Some f) = StandsIn slots f.place f.point × IsWanted wanted f.point

-- something was found that the point is not before
abbrev pub IsReached : Option Found → Coord → Type 0
IsReached None p = ⊥
IsReached (Some f) p = is_before p f.point ≡ false

-- the point in the slot, where it is wanted, is not before what was found
abbrev pub IsSlotSettled : List (Option Coord) → Wanted → Option Found → ℕ → Type 0
IsSlotSettled slots wanted first k = (p : Coord) → StandsIn slots k p → IsWanted wanted p → IsReached first p

-- what was found is the least of the wanted points
pub record IsFirstWanted (slots : List (Option Coord)) (wanted : Wanted) (first : Option Found) : Type 0 where
  pub held : IsHeld slots wanted first
  pub least : (k : ℕ) → IsSlotSettled slots wanted first k

-- the result is what was found before or what is found now, and neither point is before its point
pub record IsEarlier (first : Option Found) (found result : Found) : Type 0 where
  pub one : (first ≡ Some result) ⊎ (found ≡ result)
  pub not_found : is_before found.point result.point ≡ false
  pub not_first : (other : Found) → first ≡ Some other → is_before other.point result.point ≡ false

-- the slots are still those of the boxes, and without the point have what the first ones have without it
pub record IsRemoval (first : List (Option Coord)) (p : Coord) (slots : List (Option Coord)) (boxes : List Rect) : Type 0 where
  pub cells : AreCells slots boxes
  pub same : current (p ∷ []) (living slots) ≡ current (p ∷ []) (living first)
