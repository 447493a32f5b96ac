use Rattle.std.proofs.Common.{refl, sym}
use Rattle.cov_types.proofs.Between.{seg_between-ordered, seg_between-reversed}
use Rattle.cov_types.proofs.seg.Seg.between.Goals as goal

pub returns-then-lt-clause-value : goal.returns-then-lt-clause-value
returns-then-lt-clause-value c = sym (seg_between-ordered c.args.a c.args.b _ refl refl)

pub returns-then-lt-2-clause-value : goal.returns-then-lt-2-clause-value
returns-then-lt-2-clause-value c = sym (seg_between-reversed c.args.a c.args.b _ refl refl)
