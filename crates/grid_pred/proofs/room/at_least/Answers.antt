use Rattle.std.proofs.Common.{◌∙◌, ap}
use Rattle.distance_laws.specs.Room.{reach}
use Rattle.grid_pred.proofs.Rooms.{room_told}
use Rattle.grid_pred.proofs.room.at_least.Goals as goal

pub returns : goal.returns
returns c = room_told c.args.q c.args.s c.args.w c.reach.result (c.reach.ensures.exact ∙ ap (λ p. reach p c.args.s) c.twice.ensures.exact)
