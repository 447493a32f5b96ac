-- An input that is not read, inputs of which no text is made, and a text that is written.
use Rattle.std.proofs.Common.{ℕ, List, map, Err, Vec, Global, ap, refl}
use Rattle.cover_cli.proofs.Handing.{left_unread}
use Rattle.cover_cli.proofs.Running.{run_unread, run_unmade, run_left_unmade, run_made, run_left_made}
use Rattle.cover_words.specs.Named.{named}
use Rattle.cover_cli.proofs.command.run.Goals as goal

pub returns-in-Err : goal.returns-in-Err
returns-in-Err g c =
    let before = g.F.Files.state c.args.files.now in
    let after = g.F.Files.state c.read_inputs.new.files in
    record {
      answer = run_unread _ (named c.args.operation.now) before _ c.inputs.ensures after c.in-Err.refusal c.in-Err.ensures.cause c.in-Err.ensures.kept (λ all h. c.in-Err.ensures.promised all (ap Err h));
      names = refl;
      left = left_unread (named c.args.operation.now) before c.in-Err.refusal _ before after _ c.in-Err.ensures.cause;
    }

pub returns-in-Ok-make : goal.returns-in-Ok-make
returns-in-Ok-make g c =
    let before = g.F.Files.state c.args.files.now in
    let mid = g.F.Files.state c.read_inputs.new.files in
    let after = g.F.Files.state c.written.new.files in
    let items : List (Vec ℕ Global) → List (List ℕ) = map (λ i. i.items) in
    record {
      answer = run_made _ (named c.args.operation.now) before _ c.inputs.ensures (items c.in-Ok.inputs.items) c.in-Ok.ensures.read mid after c.in-Ok-make.made c.written.result _ c.written.ensures
          c.in-Ok-make.ensures.made c.output.ensures c.in-Ok.ensures.counted c.in-Ok.ensures.kept (g.met.F.Files.telling c.args.files.now);
      names = c.in-Ok-make.ensures.names;
      left = run_left_made _ (named c.args.operation.now) before _ c.inputs.ensures (items c.in-Ok.inputs.items) c.in-Ok.ensures.read mid after c.in-Ok-make.made c.written.result _ c.written.ensures
          c.in-Ok-make.ensures.made _ c.in-Ok-make.ensures.asked;
    }

pub returns-in-Err-make : goal.returns-in-Err-make
returns-in-Err-make g c =
    let before = g.F.Files.state c.args.files.now in
    let items : List (Vec ℕ Global) → List (List ℕ) = map (λ i. i.items) in
    record {
      answer = run_unmade _ (named c.args.operation.now) before _ c.inputs.ensures (items c.in-Ok.inputs.items) c.in-Ok.ensures.read _ c.in-Err-make.refusal c.in-Ok.ensures.counted c.in-Ok.ensures.kept
          c.in-Err-make.ensures.refused;
      names = c.in-Err-make.ensures.names;
      left = run_left_unmade _ (named c.args.operation.now) before _ c.inputs.ensures (items c.in-Ok.inputs.items) c.in-Ok.ensures.read c.in-Err-make.refusal _ c.in-Err-make.ensures.refused
          c.in-Err-make.ensures.unasked;
    }
