use Rattle.std.proofs.Common.{◌*◌, ◌-◌, ◌^◌, ◌≤◌, sym, subst, arith}
use Rattle.plane.proofs.Roots.{root_is}
use Rattle.gap_width.proofs.Depths.{root_small, root_up_least}
use Rattle.gap_width.proofs.depth.root_up.Goals as goal

pub overflow_mul-down : goal.overflow_mul-down
overflow_mul-down c = (let square = subst (λ r. r * r ≤ c.args.n) (sym c.root-down.ensures) (root_is c.args.n).at_most in omega (arith, square))

pub overflow_cast-result-else-down-n : goal.overflow_cast-result-else-down-n
overflow_cast-result-else-down-n c = (let below = subst (λ r. r ≤ 2 ^ 62 - 2 ^ 33 - 1) (sym c.root-down.ensures) (root_small c.args.n c.requires) in omega (arith, below))

pub returns-else-down-n-clause-least : goal.returns-else-down-n-clause-least
returns-else-down-n-clause-least c = λ j le. subst (λ r. r ≤ j) (sym c.root-down.ensures) (root_up_least c.args.n j le).1

pub returns-else-down-n-clause-small : goal.returns-else-down-n-clause-small
returns-else-down-n-clause-small c = (let below = subst (λ r. r ≤ 2 ^ 62 - 2 ^ 33 - 1) (sym c.root-down.ensures) (root_small c.args.n c.requires) in omega (arith, below))
