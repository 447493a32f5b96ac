use Rattle.std.proofs.Common.{refl}
use Rattle.visvalingam.specs.Segments.{is_among}
use Rattle.visvalingam.proofs.Joining.{left, none_left}
use Rattle.visvalingam.proofs.segments.Segments.remove.Goals as goal

pub returns-in-Some : goal.returns-in-Some
returns-in-Some c e = left c.args.a c.args.b c.in-Some.e e (is_among c.args.self.now.ends e) (is_among c.remove.new.self e) c.in-Some.ensures.ends (c.remove.ensures.updates.0 (e.lo, e.hi))

pub returns-in_default : goal.returns-in_default
returns-in_default c e = none_left c.args.a c.args.b e (is_among c.args.self.now.ends e) (c.in_default.ensures.same.0 refl)
