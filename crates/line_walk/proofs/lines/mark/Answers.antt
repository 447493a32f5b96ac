use Rattle.std.proofs.Common.{sym, subst, take, get_or, set, true, List, ℕ}
use Rattle.std.proofs.lemmas.List.{take_more, take_all}
use Rattle.line_walk.specs.Line.{IsMarkedBy}
use Rattle.line_walk.proofs.Pushed.{marked_none, marked_more}
use Rattle.line_walk.proofs.lines.mark.Goals as goal

pub loop-k-init : goal.loop-k-init
loop-k-init c = marked_none c.args.seen.now

pub loop-k-preserved : goal.loop-k-preserved
loop-k-preserved c =
    let places = c.args.places.now in
    let i = c.loop-k.k-index in
    let k = get_or places i 0 in
    subst (λ (ps : List ℕ). IsMarkedBy ps c.args.seen.now (set c.loop-k.seen k true)) (sym (take_more places i 0 c.loop-k-test.true))
    (marked_more (take i places) c.args.seen.now c.loop-k.seen k (c.requires i 0 c.loop-k-test.true) c.loop-k.invariant)

pub returns : goal.returns
returns c = subst (λ (ps : List ℕ). IsMarkedBy ps c.args.seen.now c.loop-k.seen) (take_all c.loop-k.k-index c.args.places.now c.loop-k-test.false) c.loop-k.invariant
