-- The rows of the places at which the points lie.
use Rattle.std.proofs.Common.{◌∙◌, ap, rules}
use Rattle.std.specs.Prelude.{flat_map}
use Rattle.cover_cli.proofs.PlaceRows.{rows_of_points}
use Rattle.cover_cli.specs.Locate.{place_row}
use Rattle.cover_cli.proofs.locate.rows_of.Goals as goal

pub returns : goal.returns
returns c = rows_of_points _ _ _ _ c.in_ok-places.ensures (c.in_ok-text.ensures ∙ ap (flat_map place_row) (search rules))
