use Rattle.std.proofs.Common.{◌<◌, ◌-◌, All, length}
use Rattle.cov_locate.proofs.NearRings.{ArePassedFar}
use Rattle.cov_locate.proofs.near.near_numbers.Given as goal

abbrev pub decreases-loop-from : goal.decreases-loop-from
decreases-loop-from l = length l.index.numbers.items - l.from

abbrev pub invariant-loop-from : goal.invariant-loop-from
invariant-loop-from l = All (λ n. n < length l.index.outline.rings.items) l.numbers.items
    × ArePassedFar l.index.outline.uses.items l.index.outline.rings.items l.round l.index.numbers.items l.from l.numbers.items
