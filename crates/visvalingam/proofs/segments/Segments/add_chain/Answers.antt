use Rattle.std.proofs.Common.{pos}
use Rattle.visvalingam.specs.Segments.{is_among}
use Rattle.visvalingam.proofs.Begun.{chain_step, until_all, none_until}
use Rattle.visvalingam.proofs.segments.Segments.add_chain.Goals as goal

pub loop-i-init : goal.loop-i-init
loop-i-init c e = none_until c.args.points.now e (is_among c.args.self.now.ends e)

pub loop-i-preserved : goal.loop-i-preserved
loop-i-preserved c e =
    chain_step c.args.points.now c.loop-i.i (record { x = pos 0; y = pos 0 }) c.loop-i.auto.i c.loop-i-test.true e (is_among c.args.self.now.ends e) (is_among c.loop-i.self.ends e) (is_among c.add.new.self.ends e) (c.loop-i.invariant e) (c.in_ok-add.ensures e)

pub returns : goal.returns
returns c e = until_all c.args.points.now c.loop-i.i e (is_among c.args.self.now.ends e) (is_among c.loop-i.self.ends e) c.loop-i-test.false (c.loop-i.invariant e)
