use Rattle.std.proofs.Common.{ap, get_or}
use Rattle.std.proofs.lemmas.List.{get_or_default}
use Rattle.cov_valid.proofs.Grouping.{groups_more}
use Rattle.cov_valid.proofs.group.groups_of.Goals as goal
use Rattle.cov_valid.specs.declared.entry.Entry.{Entry}
use Rattle.cov_valid.specs.declared.group.Group.{Group}

pub loop-from-preserved : goal.loop-from-preserved
loop-from-preserved c =
    let entries = c.args.entries.now in
    let from = c.loop-from.from in
    let first = c.index-entries-from.result in
    let group : Group = record { seg = (get_or entries from first).seg; from = from; to = c.end_of_group-to.result } in
    let end = c.end_of_group-to.ensures in
    groups_more entries c.loop-from.groups.items c.push.new.self.items group c.requires
    (record { some = end.some; within = end.within; same = end.same; ends = end.ends })
    (λ d. ap (λ (e : Entry). e.seg) (get_or_default entries from d first c.loop-from-test.true))
    c.in_ok-push.ensures.items c.loop-from.invariant
