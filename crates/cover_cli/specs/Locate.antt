-- What locating points in a coverage answers and writes.
use Rattle.std.specs.Prelude.{◌≡◌, ◌⊎◌, ℕ, List, None, flat_map}
use Rattle.std.specs.List.{AllZip}
use Rattle.cov_locate.specs.Points.{ArePoints, IsFaultOf}
use Rattle.cov_locate.specs.Where.{IsWhere}
use Rattle.cov_locate.specs.declared.place.Where.{Where}
use Rattle.cov_locate.specs.declared.place.Where.TheVariants.{Edge, Member, Nowhere}
use Rattle.cov_locate.specs.declared.points.PointsError.TheVariants.{Fault}
use Rattle.cov_types.specs.Coverage.{Members}
use Rattle.cov_types.specs.Uses.{uses_of}
use Rattle.cov_types.specs.declared.coord.Coord.{Coord}
use Rattle.cov_types.specs.declared.edge_use.EdgeUse.{EdgeUse}
use Rattle.cov_write.specs.Places.{edge_row, member_row, none_row}
use Rattle.cover_cli.specs.Text.{IsReadAnd, RefusesInput}
use Rattle.cover_cli.specs.declared.outcome.Outcome.{Outcome}
use Rattle.cover_cli.specs.declared.outcome.Outcome.TheVariants.{Done, BadPoints}

-- the row that tells where a point lies
abbrev pub place_row : Where → List ℕ
place_row Edge = edge_row
place_row (Member member) = member_row member
place_row Nowhere = none_row

-- the text has a row for each of the points, in their order, that tells where it lies
pub record ArePlaceRows (uses : List EdgeUse) (points : List Coord) (text : List ℕ) : Type 0 where
  pub places : List Where
  pub each : AllZip (IsWhere uses) points places
  pub rows : text ≡ flat_map place_row places

-- it is done, and the text tells where each point of the points file lies in the coverage
pub record IsLocating (members : Members) (file : List ℕ) (outcome : Outcome) (text : List ℕ) : Type 0 where
  pub done : outcome ≡ Done
  pub points : List Coord
  pub points_are : ArePoints file points
  pub rows : ArePlaceRows (uses_of members) points text

-- the points file has a fault, and the outcome tells it
abbrev pub TellsPointsFault : List ℕ → Outcome → Type 0
TellsPointsFault file (BadPoints fault) = IsFaultOf file (Fault fault)
TellsPointsFault file outcome = ⊥

-- the input of this name has a fault, without a scale; or it has none, and the points file has one
abbrev pub RefusesPoints : List ℕ → List ℕ → List ℕ → Outcome → Type 0
RefusesPoints name input file outcome = RefusesInput name None input outcome ⊎ IsReadAnd name None input (λ r. TellsPointsFault file outcome)
