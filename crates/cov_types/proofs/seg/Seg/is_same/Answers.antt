use Rattle.std.proofs.Common.{rules}
use Rattle.cov_types.proofs.Equal.{Decides-same_segs}
use Rattle.cov_types.proofs.seg.Seg.is_same.Goals as goal

pub returns : goal.returns
returns c = search (rules, Decides-same_segs)
