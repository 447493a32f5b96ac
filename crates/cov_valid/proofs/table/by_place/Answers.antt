use Rattle.std.proofs.Common.{◌≡◌, ◌<◌, Option, None, length, get_or, arith}
use Rattle.std.proofs.lemmas.List.{get_or_default}
use Rattle.cov_valid.proofs.Judging.{put_more, put_all}
use Rattle.cov_valid.proofs.table.by_place.Goals as goal
use Rattle.cov_valid.specs.declared.mark.Kind.{Kind}

pub loop-k-preserved : goal.loop-k-preserved
loop-k-preserved c =
    let kinds = c.args.kinds.now in
    let k = c.loop-k.k in
    let kind : Option Kind = get_or kinds k None in
    let count : length kinds ≡ length c.args.entries.now = c.requires.judged.count in
    let inside : k < length kinds = omega arith in
    let read : kind ≡ get_or kinds k kind = get_or_default kinds k None kind inside in
    put_more c.args.uses.now c.args.entries.now kinds c.loop-k.table.items k c.index-entries-k.result kind c.requires.entries c.requires.judged c.loop-k-test.true c.index-entries-k.is read c.loop-k.invariant

pub returns : goal.returns
returns c = put_all c.args.uses.now c.args.entries.now c.loop-k.k c.loop-k.table.items c.requires.entries c.loop-k-test.false c.loop-k.invariant
