use Rattle.std.proofs.Common.{refl}
use Rattle.visvalingam.specs.Segments.{is_among}
use Rattle.visvalingam.proofs.Joining.{added, none_added}
use Rattle.visvalingam.proofs.segments.Segments.add.Goals as goal

pub returns-in_ok-insert : goal.returns-in_ok-insert
returns-in_ok-insert c e = added c.args.a c.args.b c.in-Some.e e (is_among c.args.self.now.ends e) (is_among c.insert.new.self e) c.in-Some.ensures.ends (c.in_ok-insert.ensures.updates.0 (e.lo, e.hi))

pub returns-in_default : goal.returns-in_default
returns-in_default c e = none_added c.args.a c.args.b e (is_among c.args.self.now.ends e) (c.in_default.ensures.same.0 refl)
