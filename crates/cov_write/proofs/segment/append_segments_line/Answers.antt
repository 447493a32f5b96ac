use Rattle.std.proofs.Common.{rules}
use Rattle.cov_write.proofs.Lines.{segments_line_appended}
use Rattle.cov_write.proofs.segment.append_segments_line.Goals as goal

pub returns : goal.returns
returns c = search (rules, segments_line_appended)
