use Rattle.std.proofs.Common.{◌≤◌, ◌*◌, ◌^◌, sym, subst, arith}
use Rattle.gap_width.proofs.Steps.{root_at_most, room_is}
use Rattle.gap_width.specs.Search.{IsRoom}
use Rattle.gap_width.proofs.near.room.Goals as goal

small : (c : goal.After-root) → c.root.result ≤ 3 * 2 ^ 29
small c = subst (λ n. n ≤ 3 * 2 ^ 29) (sym c.root.ensures) (root_at_most c.least_reach.result (3 * 2 ^ 29) (omega (arith, c.least_reach.ensures.small)))

pub overflow_cast-result : goal.overflow_cast-result
overflow_cast-result c = let at_most = small c in omega (arith, at_most)

pub returns-clause-room : goal.returns-clause-room
returns-clause-room c = subst (IsRoom c.args.near.now c.args.c) (sym c.root.ensures) (room_is c.args.near.now c.args.c c.least_reach.result c.least_reach.ensures.least)

pub returns-clause-small : goal.returns-clause-small
returns-clause-small c = small c
