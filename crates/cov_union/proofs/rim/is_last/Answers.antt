use Rattle.cov_union.proofs.Lasts.{is_last_told}
use Rattle.cov_types.proofs.Equal.{Decides-same_segs}
use Rattle.crossing_laws.specs.Across.{is_same_seg}
use Rattle.cov_union.proofs.rim.is_last.Goals as goal

pub returns-in-Some : goal.returns-in-Some
returns-in-Some c = is_last_told is_same_seg Decides-same_segs c.args.segments.now c.in-Some.last.now c.args.s c.eq.result c.in-Some.ensures.value c.eq.ensures
