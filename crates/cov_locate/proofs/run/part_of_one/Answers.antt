use Rattle.std.proofs.Common.{◌<◌, ◌∙◌, length, sym, arith}
use Rattle.std.proofs.lemmas.Bool.{false≢true}
use Rattle.cov_locate.proofs.Passing.{one_clear, one_holds}
use Rattle.cov_locate.proofs.run.part_of_one.Goals as goal

pub returns-then-on_segment-clause-told : goal.returns-then-on_segment-clause-told
returns-then-on_segment-clause-told c =
    let within : c.args.from < length c.args.outline.now.uses.items = omega (arith, c.requires.some, c.requires.ring.uses_end) in
    (c.index.result.now, ((c.args.from, within, sym c.index.ensures), c.on_segment.ensures.0 c.if-on_segment.true))

pub returns-clause-told : goal.returns-clause-told
returns-clause-told c =
    let uses = c.args.outline.now.uses.items in
    let u = c.index.result.now in
    let within : c.args.from < length uses = omega (arith, c.requires.some, c.requires.ring.uses_end) in
    record {
      begins = omega arith;
      ends = omega (arith, c.requires.some);
      clear = one_clear uses c.args.from u c.args.p within c.index.ensures (λ on. false≢true (sym c.if-on_segment.false ∙ c.on_segment.ensures.1 on));
      held = c.over.ensures ∙ one_holds uses c.args.from u c.args.p within c.index.ensures;
    }
