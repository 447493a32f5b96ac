use Rattle.cov_io.proofs.Spilling.{holds_all, holds_prefix, on-ok, on-err}
use Rattle.cov_io.proofs.output.spill.Goals as goal

pub returns-in_err-close-clause-left : goal.returns-in_err-close-clause-left
returns-in_err-close-clause-left g c = on-err _ (holds_prefix c.args.name.now c.args.bytes.now
    (g.F.Files.state c.args.files.now) (g.F.Files.state c.create.new.self) (g.F.Files.state c.write_all-written.new.files)
    (g.F.Files.state c.close.new.self) (g.met.F.Files.telling c.args.files.now) c.in_ok-create.ensures.created
    c.create.ensures.kept c.write_all-written.ensures.kept c.write_all-written.ensures.some c.close.ensures.left)

pub returns-clause-held : goal.returns-clause-held
returns-clause-held g c = on-ok c.write_all-written.result (λ wrote. holds_all c.args.name.now c.args.bytes.now
    (g.F.Files.state c.args.files.now) (g.F.Files.state c.create.new.self) (g.F.Files.state c.write_all-written.new.files)
    (g.F.Files.state c.close.new.self) (g.met.F.Files.telling c.args.files.now) c.in_ok-create.ensures.created
    c.create.ensures.kept c.write_all-written.ensures.kept wrote c.close.ensures.left) c.write_all-written.ensures.all

pub returns-clause-left : goal.returns-clause-left
returns-clause-left g c = on-err _ (holds_prefix c.args.name.now c.args.bytes.now
    (g.F.Files.state c.args.files.now) (g.F.Files.state c.create.new.self) (g.F.Files.state c.write_all-written.new.files)
    (g.F.Files.state c.close.new.self) (g.met.F.Files.telling c.args.files.now) c.in_ok-create.ensures.created
    c.create.ensures.kept c.write_all-written.ensures.kept c.write_all-written.ensures.some c.close.ensures.left)
