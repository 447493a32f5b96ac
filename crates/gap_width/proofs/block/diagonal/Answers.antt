use Rattle.std.proofs.Common.{◌≤◌, ◌+◌, ◌-◌, ◌*◌, ◌^◌, subst, sym, arith}
use Rattle.gap_width.proofs.Steps.{diagonal_reaches, diagonal_small}
use Rattle.gap_width.proofs.block.diagonal.Goals as goal

small : (c : goal.After-root) → c.root.result ≤ 2 ^ 30 - 1
small c = subst (λ n. n ≤ 2 ^ 30 - 1) (sym c.root.ensures) (diagonal_small c.args.across c.args.upwards c.requires.across c.requires.upwards)

pub overflow_cast-result : goal.overflow_cast-result
overflow_cast-result c = let at_most = small c in omega (arith, at_most)

pub overflow_add-result-2 : goal.overflow_add-result-2
overflow_add-result-2 c = let at_most = small c in omega (arith, at_most)

pub returns-clause-reaches : goal.returns-clause-reaches
returns-clause-reaches c = diagonal_reaches (c.args.across * c.args.across + c.args.upwards * c.args.upwards) c.root.result c.root.ensures

pub returns-clause-small : goal.returns-clause-small
returns-clause-small c = let at_most = small c in omega (arith, at_most)
