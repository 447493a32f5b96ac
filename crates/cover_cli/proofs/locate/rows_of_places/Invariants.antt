-- The rows of the places that were gone over are written.
use Rattle.std.proofs.Common.{◌≡◌, take}
use Rattle.std.specs.Prelude.{flat_map}
use Rattle.cover_cli.specs.Locate.{place_row}
use Rattle.cover_cli.proofs.locate.rows_of_places.Given as goal

abbrev pub invariant-loop-place : goal.invariant-loop-place
invariant-loop-place l = l.text.items ≡ flat_map place_row (take l.place-index l.places)
