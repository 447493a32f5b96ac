-- What a sample answers and writes.
use Rattle.std.specs.Prelude.{◌≡◌, ℕ, List, None, length, sum_by}
use Rattle.cov_types.specs.Coverage.{Members, IsFormed}
use Rattle.cov_types.specs.declared.coord.Coord.{Coord}
use Rattle.feature_files.specs.Form.{IsWrittenAs}
use Rattle.feature_files.specs.Reading.{bare}
use Rattle.jittered_grid.specs.Cells.{cells}
use Rattle.merge_rule.specs.RuleState.{no_state}
use Rattle.sound_polygons.specs.Cleaned.{IsCleaned}
use Rattle.cover_cli.specs.Clean.{rule_of}
use Rattle.cover_cli.specs.declared.outcome.Outcome.{Outcome}
use Rattle.cover_cli.specs.declared.outcome.Outcome.TheVariants.{Sampled}
use Rattle.cover_words.specs.declared.rule_name.RuleName.TheVariants.{LongestBorder}

-- ---- counts

-- how many polygons all members have
abbrev pub polygons_in : Members → ℕ
polygons_in members = sum_by length members

-- how many points all rings of a polygon have, without closing repeats
abbrev pub polygon_points : List (List Coord) → ℕ
polygon_points rings = sum_by length rings

-- and all rings of a member
abbrev pub member_points : List (List (List Coord)) → ℕ
member_points polys = sum_by polygon_points polys

-- and all rings of all members
abbrev pub points_in : Members → ℕ
points_in members = sum_by member_points members

-- the answer with the counts of a coverage
abbrev pub sampled : Members → Outcome
sampled members = Sampled (length members) (polygons_in members) (points_in members)

-- ---- the sample

-- the coverage is the jittered grid with so many cells on a side, cleaned by the longest border at the gap width 8
abbrev pub IsSample : ℕ → ℕ → Members → Type 0
IsSample side seed out = IsCleaned (cells side seed) (rule_of LongestBorder) no_state 8 out

-- the grid is in range, the text is the written form, by the name of the output, of its sample, with null properties and no ids, and the counts
-- of the sample are answered
pub record IsSampling (side seed : ℕ) (to : List ℕ) (outcome : Outcome) (text : List ℕ) : Type 0 where
  pub grid : IsFormed (cells side seed)
  pub out : Members
  pub sample : IsSample side seed out
  pub formed : IsFormed out
  pub counted : outcome ≡ sampled out
  pub written : IsWrittenAs to None (bare out) text
