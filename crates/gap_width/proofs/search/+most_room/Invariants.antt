use Rattle.gap_width.specs.Search.{size}
use Rattle.gap_width.proofs.search.+most_room.Given as goal

abbrev pub decreases-most_room : goal.decreases-most_room
decreases-most_room l = size l.here.block
