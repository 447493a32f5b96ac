use Rattle.std.proofs.Common.{rules}
use Rattle.cov_write.proofs.Lines.{position_appended}
use Rattle.cov_write.proofs.written.CoordWritten.append_to.Goals as goal

pub returns : goal.returns
returns c = search (rules, position_appended)
