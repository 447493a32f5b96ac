-- One row more.
use Rattle.std.proofs.Common.{rules, arith}
use Rattle.cover_cli.proofs.PlaceRows.{row_more, all_rows}
use Rattle.cover_cli.proofs.locate.rows_of_places.Goals as goal

pub loop-place-preserved : goal.loop-place-preserved
loop-place-preserved c = row_more _ _ _ _ _ c.loop-place-test.true (search rules) c.loop-place.invariant c.in_ok-append_place.ensures

pub returns : goal.returns
returns c = all_rows _ c.loop-place.place-index _ (omega arith) c.loop-place.invariant
