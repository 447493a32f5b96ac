use Rattle.std.proofs.Common.{◌≡◌, ◌++◌, take, flat_map}
use Rattle.cov_types.specs.Rings.{side_starts}
use Rattle.cov_types.specs.Uses.{sides, side_uses}
use Rattle.cov_types.proofs.outline.add_sides.Given as goal

abbrev pub invariant-loop-i : goal.invariant-loop-i
invariant-loop-i l =
    (l.uses.items ≡ l.fn.uses.items ++ flat_map (side_uses l.member) (take l.i (sides l.ring)))
    × (l.starts.items ≡ l.fn.starts.items ++ flat_map side_starts (take l.i (sides l.ring)))
