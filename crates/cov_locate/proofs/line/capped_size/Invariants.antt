use Rattle.std.proofs.Common.{◌≡◌, take}
use Prim.Native.Nat.{min}
use Rattle.cov_locate.proofs.line.capped_size.Given as goal
use Rattle.cov_locate.specs.declared.line.TheConstants.{CAP}
use Rattle.geo_text.specs.Token.{number_from}

abbrev pub invariant-loop-digit : goal.invariant-loop-digit
invariant-loop-digit l = l.size ≡ min CAP (number_from 0 (take l.digit-index l.digits))
