-- What noding a coverage answers and writes.
use Rattle.std.specs.Prelude.{◌≡◌, ℕ, List, ◌∷◌, Option}
use Rattle.arrangement.specs.Noding.{IsNoded, odd_uses}
use Rattle.arrangement.specs.declared.odd_use.OddUse.{OddUse}
use Rattle.cov_types.specs.declared.coord.Coord.{Coord}
use Rattle.cov_types.specs.declared.seg.Seg.{Seg}
use Rattle.cov_types.specs.Uses.{uses_of}
use Rattle.cov_write.specs.Written.{lines_text}
use Rattle.cover_cli.specs.Lines.{member_lists}
use Rattle.cover_cli.specs.declared.outcome.Outcome.{Outcome}
use Rattle.cover_cli.specs.declared.outcome.Outcome.TheVariants.{Done}

-- it is done, and the text lists all noded edges of the coverage and then for each member its odd edges, at the scale
pub record IsNoding (scale : Option ℕ) (members : List (List (List (List Coord)))) (outcome : Outcome) (text : List ℕ) : Type 0 where
  pub done : outcome ≡ Done
  pub edges : List Seg
  pub odd : List OddUse
  pub noded : IsNoded (uses_of members) edges odd
  pub lines : text ≡ lines_text scale (edges ∷ member_lists (odd_uses edges odd) members)
