use Rattle.std.proofs.Common.{◌≡◌, ◌<◌, ℕ, Bool, true, false, List, All, length, get_or, sym, subst}
use Rattle.std.proofs.lemmas.Result.{IfOk-weaker}
use Rattle.cov_types.specs.Range.{IsSegInRange}
use Rattle.cov_types.specs.declared.edge_use.EdgeUse.{EdgeUse}
use Rattle.cov_valid.proofs.CornerFaults.{two_fault, none_met, met_fault, corners_are}
use Rattle.cov_valid.proofs.Judging.{groups_in_range}
use Rattle.cov_valid.proofs.corners.are_outlined_faultless.Goals as goal
use Rattle.cov_valid.specs.Contacts.{AreContacts}
use Rattle.cov_valid.specs.Corners.{AreAlone, AreFirstFaultless, HasTwo}
use Rattle.cov_valid.specs.Entries.{AreEntries}
use Rattle.cov_valid.specs.Groups.{IsGroup, AreGroupsInRow}
use Rattle.cov_valid.specs.Judged.{AreSorted, AreGroups}
use Rattle.cov_valid.specs.declared.entry.Entry.{Entry}
use Rattle.cov_valid.specs.declared.group.Group.{Group}

pub returns-then-has_two-clause-fault : goal.returns-then-has_two-clause-fault
returns-then-has_two-clause-fault c = λ told.
    (let uses = c.args.outline.now.uses.items in
    let entries : List Entry = c.in_ok-entries.entries.items in
    let are : AreEntries uses entries = subst (λ (us : List EdgeUse). AreEntries us entries) c.deref.ensures.value c.in_ok-entries.ensures.entries in
    two_fault uses entries are (subst HasTwo c.deref-2.ensures.value (c.has_two.ensures.two c.if-has_two.true)))

pub contacts-requires : goal.contacts-requires
contacts-requires c =
    let uses = c.args.outline.now.uses.items in
    let entries : List Entry = c.in_ok-entries.entries.items in
    let groups : List Group = c.in_ok-groups.groups.items in
    let are : AreEntries uses entries = subst (λ (us : List EdgeUse). AreEntries us entries) c.deref.ensures.value c.in_ok-entries.ensures.entries in
    let each : All (IsGroup entries) groups = subst (λ (es : List Entry). All (IsGroup es) groups) c.deref-3.ensures.value c.in_ok-groups.ensures.each in
    subst (λ (gs : List Group). All (λ (g : Group). IsSegInRange g.seg) gs) (sym c.deref-4.ensures.value) (groups_in_range uses entries groups c.requires.in_range are each)

pub returns-then-has_true-clause-fault : goal.returns-then-has_true-clause-fault
returns-then-has_true-clause-fault c = λ told.
    (let uses = c.args.outline.now.uses.items in
    let entries : List Entry = c.in_ok-entries.entries.items in
    let groups : List Group = c.in_ok-groups.groups.items in
    let met : List Bool = c.in_ok-met.met.items in
    let are : AreEntries uses entries = subst (λ (us : List EdgeUse). AreEntries us entries) c.deref.ensures.value c.in_ok-entries.ensures.entries in
    let each : All (IsGroup entries) groups = subst (λ (es : List Entry). All (IsGroup es) groups) c.deref-3.ensures.value c.in_ok-groups.ensures.each in
    let row : AreGroupsInRow 0 groups (length entries) = subst (λ (es : List Entry). AreGroupsInRow 0 groups (length es)) c.deref-3.ensures.value c.in_ok-groups.ensures.in_row in
    let contacts : AreContacts groups (length groups) met = subst (λ (gs : List Group). AreContacts gs (length gs) met) c.deref-4.ensures.value c.in_ok-met.ensures in
    met_fault uses entries groups met are (record { each = each; in_row = row }) contacts
    (subst (λ (ms : List Bool). (k : ℕ) × ((k < length ms) × (get_or ms k false ≡ true))) c.deref-5.ensures.value (c.has_true.ensures.one c.if-has_true.true)))

pub are_first_faultless-requires-clause-unmet : goal.are_first_faultless-requires-clause-unmet
are_first_faultless-requires-clause-unmet c =
    let uses = c.args.outline.now.uses.items in
    let entries : List Entry = c.in_ok-entries.entries.items in
    let groups : List Group = c.in_ok-groups.groups.items in
    let met : List Bool = c.in_ok-met.met.items in
    let are : AreEntries uses entries = subst (λ (us : List EdgeUse). AreEntries us entries) c.deref.ensures.value c.in_ok-entries.ensures.entries in
    let each : All (IsGroup entries) groups = subst (λ (es : List Entry). All (IsGroup es) groups) c.deref-3.ensures.value c.in_ok-groups.ensures.each in
    let row : AreGroupsInRow 0 groups (length entries) = subst (λ (es : List Entry). AreGroupsInRow 0 groups (length es)) c.deref-3.ensures.value c.in_ok-groups.ensures.in_row in
    let contacts : AreContacts groups (length groups) met = subst (λ (gs : List Group). AreContacts gs (length gs) met) c.deref-4.ensures.value c.in_ok-met.ensures in
    none_met uses entries groups met are (record { each = each; in_row = row }) contacts
    (subst (λ (ms : List Bool). (k : ℕ) → k < length ms → get_or ms k true ≡ false) c.deref-5.ensures.value (c.has_true.ensures.none c.if-has_true.false))

pub returns-clause-faultless : goal.returns-clause-faultless
returns-clause-faultless c =
    let uses = c.args.outline.now.uses.items in
    let entries : List Entry = c.in_ok-entries.entries.items in
    let groups : List Group = c.in_ok-groups.groups.items in
    let met : List Bool = c.in_ok-met.met.items in
    let are : AreEntries uses entries = subst (λ (us : List EdgeUse). AreEntries us entries) c.deref.ensures.value c.in_ok-entries.ensures.entries in
    let each : All (IsGroup entries) groups = subst (λ (es : List Entry). All (IsGroup es) groups) c.deref-3.ensures.value c.in_ok-groups.ensures.each in
    let row : AreGroupsInRow 0 groups (length entries) = subst (λ (es : List Entry). AreGroupsInRow 0 groups (length es)) c.deref-3.ensures.value c.in_ok-groups.ensures.in_row in
    let contacts : AreContacts groups (length groups) met = subst (λ (gs : List Group). AreContacts gs (length gs) met) c.deref-4.ensures.value c.in_ok-met.ensures in
    let grouped : AreGroups entries groups = record { each = each; in_row = row } in
    let sorted : AreSorted uses entries = record { in_range = c.requires.in_range; entries_are = are; together = c.in_ok-entries.ensures.together } in
    let unmet = none_met uses entries groups met are grouped contacts
    (subst (λ (ms : List Bool). (k : ℕ) → k < length ms → get_or ms k true ≡ false) c.deref-5.ensures.value (c.has_true.ensures.none c.if-has_true.false)) in
    let alone : AreAlone entries = subst AreAlone c.deref-2.ensures.value (c.has_two.ensures.alone c.if-has_two.false) in
    IfOk-weaker c.are_first_faultless.result _ _
    (λ (told : Bool) first is. corners_are uses entries groups sorted grouped (subst (λ (gs : List Group). AreFirstFaultless uses gs (length gs)) c.deref-7.ensures.value (first is)) alone unmet)
    c.are_first_faultless.ensures.faultless
