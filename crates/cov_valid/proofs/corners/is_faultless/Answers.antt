use Rattle.std.proofs.Common.{◌≡◌, ◌<◌, ◌≤◌, ℕ, List, Option, None, Some, length, get_or, sym, subst}
use Rattle.std.specs.Prelude.{AllPairs}
use Rattle.cov_valid.proofs.CornerFaults.{segment_faultless, segment_at_fault}
use Rattle.cov_valid.proofs.GroupUsers.{users_are}
use Rattle.cov_valid.proofs.Judging.{group_in_range}
use Rattle.cov_valid.proofs.corners.is_faultless.Goals as goal
use Rattle.cov_valid.specs.Among.{AddsKinds}
use Rattle.cov_valid.specs.declared.mark.Kind.{Kind}

pub find-requires-clause-in_range : goal.find-requires-clause-in_range
find-requires-clause-in_range c = group_in_range c.args.outline.now.uses.items c.args.entries.now c.args.group c.requires.sorted.in_range c.requires.sorted.entries_are c.requires.group

pub add_kinds-requires-clause-users_ascend : goal.add_kinds-requires-clause-users_ascend
add_kinds-requires-clause-users_ascend c =
    let are = users_are c.args.outline.now.uses.items c.args.entries.now c.args.group c.users_into.new.users.items c.requires.sorted.entries_are c.requires.sorted.together c.requires.group c.in_ok-users_into.ensures in
    subst (λ (us : List ℕ). AllPairs (λ (i : ℕ) (j : ℕ). i ≤ j) us) (sym c.deref.ensures.value) are.ascending

pub returns-clause-faultless : goal.returns-clause-faultless
returns-clause-faultless c = λ told.
    (let users = c.users_into.new.users.items in
    let holders = c.find.new.self.members.items in
    let before = c.clear.new.self.items in
    let after = c.add_kinds.new.kinds.items in
    let are = users_are c.args.outline.now.uses.items c.args.entries.now c.args.group users c.requires.sorted.entries_are c.requires.sorted.together c.requires.group c.in_ok-users_into.ensures in
    let shown : AddsKinds users c.deref-2.result.now before after = subst (λ (us : List ℕ). AddsKinds us c.deref-2.result.now before after) c.deref.ensures.value c.in_ok-add_kinds.ensures in
    let adds : AddsKinds users holders before after = subst (λ (hs : List ℕ). AddsKinds users hs before after) c.deref-2.ensures.value shown in
    segment_faultless c.args.outline.now.uses.items c.args.group.seg users holders before after c.requires.sorted.in_range are c.in_ok-find.ensures c.requires.unmet c.clear.ensures.items adds
    (subst (λ (ks : List (Option Kind)). (k : ℕ) (o : Option Kind) → k < length ks → get_or ks k o ≡ None) c.deref-3.ensures.value (c.are_none.ensures.none told)))

pub returns-clause-fault : goal.returns-clause-fault
returns-clause-fault c = λ told.
    (let users = c.users_into.new.users.items in
    let holders = c.find.new.self.members.items in
    let before = c.clear.new.self.items in
    let after = c.add_kinds.new.kinds.items in
    let are = users_are c.args.outline.now.uses.items c.args.entries.now c.args.group users c.requires.sorted.entries_are c.requires.sorted.together c.requires.group c.in_ok-users_into.ensures in
    let shown : AddsKinds users c.deref-2.result.now before after = subst (λ (us : List ℕ). AddsKinds us c.deref-2.result.now before after) c.deref.ensures.value c.in_ok-add_kinds.ensures in
    let adds : AddsKinds users holders before after = subst (λ (hs : List ℕ). AddsKinds users hs before after) c.deref-2.ensures.value shown in
    segment_at_fault c.args.outline.now.uses.items c.args.group.seg users holders before after c.requires.sorted.in_range are c.in_ok-find.ensures c.requires.unmet c.clear.ensures.items adds
    (subst (λ (ks : List (Option Kind)). (k : ℕ) × ((kind : Kind) × ((k < length ks) × ((o : Option Kind) → get_or ks k o ≡ Some kind)))) c.deref-3.ensures.value (c.are_none.ensures.some told)))
