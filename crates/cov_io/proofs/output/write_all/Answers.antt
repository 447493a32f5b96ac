use Rattle.std.proofs.Common.{◌-◌, length, length-drop, length-take, drop, arith}
use Rattle.cov_io.proofs.Writing.{writes_on, space_left}
use Rattle.cov_io.proofs.output.write_all.Goals as goal

pub returns-in_err-done-clause-promised : goal.returns-in_err-done-clause-promised
returns-in_err-done-clause-promised g c = λ s.
    let h = c.in_err-done.ensures.promised (space_left c.args.bytes.now c.loop-done.done
    (g.F.Files.state c.args.files.now) (g.F.Files.state c.loop-done.files) c.loop-done.invariant.writing
    (g.met.F.Files.telling c.args.files.now) s c.loop-done-test.true) in cc

pub loop-done-preserved : goal.loop-done-preserved
loop-done-preserved g c = record {
  within = omega (
    arith,
    length-drop c.loop-done.done c.args.bytes.now,
    length-take (length c.args.bytes.now - c.loop-done.done) (drop c.loop-done.done c.args.bytes.now),
    c.in_ok-done.ensures.written.fits,
  );
  writing = writes_on c.args.bytes.now c.loop-done.done c.in_ok-done.field-0
      (g.F.Files.state c.args.files.now) (g.F.Files.state c.loop-done.files) (g.F.Files.state c.write.new.self)
      c.loop-done.invariant.writing (g.met.F.Files.telling c.args.files.now) c.in_ok-done.ensures.written
      c.in_ok-done.ensures.output c.in_ok-done.ensures.cause.kept c.in_ok-done.ensures.kept;
}
