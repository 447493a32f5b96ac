use Rattle.std.proofs.Common.{refl, arith}
use Rattle.cov_locate.proofs.tally.told_with.Goals as goal

pub returns-then-ring-so_far : goal.returns-then-ring-so_far
returns-then-ring-so_far c = record { skipped = λ less. refl; passed = λ up. absurd (omega (arith, up, c.if-ring-so_far.true)); told = λ up. absurd (omega (arith, up, c.if-ring-so_far.true)) }

pub returns : goal.returns
returns c = record { skipped = λ less. absurd (omega (arith, less, c.if-ring-so_far.false)); passed = λ up. refl; told = λ up. (c.in_ok-holds.holds, (c.in_ok-holds.ensures, c.with_ring.ensures)) }
