-- What validating a coverage answers and writes.
use Rattle.std.specs.Prelude.{◌≡◌, ℕ, zero, suc, List, length, Option}
use Rattle.cov_types.specs.declared.coord.Coord.{Coord}
use Rattle.cov_types.specs.Uses.{uses_of}
use Rattle.cov_valid.specs.declared.mark.Mark.{Mark}
use Rattle.cov_marks.specs.Marks.{AreMarks}
use Rattle.cov_write.specs.Written.{lines_text}
use Rattle.cover_cli.specs.Lines.{member_lists, marked_uses}
use Rattle.cover_cli.specs.declared.outcome.Outcome.{Outcome}
use Rattle.cover_cli.specs.declared.outcome.Outcome.TheVariants.{Done, Marked}

-- the outcome where so many segments are marked
abbrev pub marking : ℕ → Outcome
marking zero = Done
marking (suc edges) = Marked (suc edges)

-- the outcome tells how many segments of the coverage are marked at the gap width, and the text lists them for each member, at the scale
pub record IsValidation (gap : ℕ) (scale : Option ℕ) (members : List (List (List (List Coord)))) (outcome : Outcome) (text : List ℕ) : Type 0 where
  pub marks : List Mark
  pub marked : AreMarks (uses_of members) (length members) gap marks
  pub counted : outcome ≡ marking (length marks)
  pub lines : text ≡ lines_text scale (member_lists (marked_uses (uses_of members) marks) members)
