-- The nearest edge below a point, by its place in the list.
use Rattle.std.specs.Prelude.{◌≡◌, ◌⊎◌, ℕ, List, length, Option, Some, None, slice_get, IsTrue}
use Rattle.cov_types.specs.declared.coord.Coord.{Coord}
use Rattle.cov_types.specs.declared.seg.Seg.{Seg}
use Rattle.plane.specs.Point.{Point, at_coord}
use Rattle.region_laws.specs.Below.{is_under, IsNearer, IsNearestBelow, HasNoneBelow}

-- the edge at the place is the nearest below p
pub record IsNearestAt (edges : List Seg) (p : Point) (place : ℕ) : Type 0 where
  pub edge : Seg
  pub at_place : slice_get edges place ≡ Some edge
  pub nearest : IsNearestBelow edges p edge

-- the place is that of the nearest edge below p, or none is below p
abbrev pub IsNearestAnswer : List Seg → Point → Option ℕ → Type 0
IsNearestAnswer edges p (Some place) = IsNearestAt edges p place
IsNearestAnswer edges p None = HasNoneBelow edges p

-- for each point there is such an answer
pub record AreNearest (edges : List Seg) (points : List Coord) (answers : List (Option ℕ)) : Type 0 where
  pub count : length answers ≡ length points
  pub each : (i : ℕ) (p : Coord) (answer : Option ℕ) → slice_get points i ≡ Some p → slice_get answers i ≡ Some answer → IsNearestAnswer edges (at_coord p) answer

-- the edge at the place, if there is one, is under p
abbrev pub IsCandidate : List Seg → Point → Option ℕ → Type 0
IsCandidate edges p None = Unit {0}
IsCandidate edges p (Some place) = (e : Seg) × ((slice_get edges place ≡ Some e) × IsTrue (is_under e p))

-- the edge at the place is the edge f, or nearer below p
abbrev pub IsAhead : List Seg → Point → Option ℕ → Seg → Type 0
IsAhead edges p None f = ⊥
IsAhead edges p (Some place) f = (e : Seg) × ((slice_get edges place ≡ Some e) × ((e ≡ f) ⊎ IsNearer p e f))

-- the edge at the place k, where it is under p, is the nearest so far or farther
abbrev pub IsSettled : List Seg → Point → Option ℕ → ℕ → Type 0
IsSettled edges p nearest k = (f : Seg) → slice_get edges k ≡ Some f → IsTrue (is_under f p) → IsAhead edges p nearest f
