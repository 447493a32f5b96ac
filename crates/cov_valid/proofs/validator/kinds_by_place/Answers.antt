use Rattle.std.proofs.Common.{List, All, sym, subst}
use Rattle.cov_types.specs.Range.{IsSegInRange}
use Rattle.cov_types.specs.declared.edge_use.EdgeUse.{EdgeUse}
use Rattle.cov_valid.proofs.Judging.{groups_in_range}
use Rattle.cov_valid.proofs.validator.kinds_by_place.Goals as goal
use Rattle.cov_valid.specs.Entries.{AreEntries}
use Rattle.cov_valid.specs.declared.entry.Entry.{Entry}
use Rattle.cov_valid.specs.declared.group.Group.{Group}

pub contacts-requires : goal.contacts-requires
contacts-requires c =
    let uses = c.args.outline.now.uses.items in
    let entries = c.deref-2.result.now in
    let shown : AreEntries uses c.in_ok-entries.entries.items = subst (λ (us : List EdgeUse). AreEntries us c.in_ok-entries.entries.items) c.deref.ensures.value c.in_ok-entries.ensures.entries in
    let are : AreEntries uses entries = subst (λ (es : List Entry). AreEntries uses es) (sym c.deref-2.ensures.value) shown in
    subst (λ (gs : List Group). All (λ (g : Group). IsSegInRange g.seg) gs) (sym c.deref-3.ensures.value)
    (groups_in_range uses entries c.in_ok-groups.groups.items c.requires.in_range are c.in_ok-groups.ensures.each)
