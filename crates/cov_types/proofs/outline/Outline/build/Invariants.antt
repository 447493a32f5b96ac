use Rattle.std.proofs.Common.{flat_map, take}
use Rattle.std.specs.List.{enumerate_from}
use Rattle.cov_types.specs.Rings.{member_rings, Adds}
use Rattle.cov_types.proofs.outline.Outline.build.Given as goal

abbrev pub invariant-loop-number : goal.invariant-loop-number
invariant-loop-number l = Adds l.initial.outline l.outline (flat_map member_rings (take l.number (enumerate_from 0 l.c)))
