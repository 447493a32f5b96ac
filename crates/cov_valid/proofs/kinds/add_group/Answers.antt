use Rattle.std.proofs.Common.{ℕ, ◌≤◌, List, sym, subst}
use Rattle.std.specs.Prelude.{AllPairs}
use Rattle.cov_valid.proofs.GroupUsers.{users_are}
use Rattle.cov_valid.proofs.Judging.{group_in_range, judged_group}
use Rattle.cov_valid.proofs.kinds.add_group.Goals as goal
use Rattle.cov_valid.specs.Among.{AddsKinds}

pub find-requires-clause-in_range : goal.find-requires-clause-in_range
find-requires-clause-in_range c = group_in_range c.args.outline.now.uses.items c.args.entries.now c.args.group c.requires.sorted.in_range c.requires.sorted.entries_are c.requires.group

pub add_kinds-requires-clause-users_ascend : goal.add_kinds-requires-clause-users_ascend
add_kinds-requires-clause-users_ascend c =
    let are = users_are c.args.outline.now.uses.items c.args.entries.now c.args.group c.users_into.new.users.items c.requires.sorted.entries_are c.requires.sorted.together c.requires.group c.in_ok-users_into.ensures in
    subst (λ (us : List ℕ). AllPairs (λ (i : ℕ) (j : ℕ). i ≤ j) us) (sym c.deref.ensures.value) are.ascending

pub returns : goal.returns
returns c =
    let users = c.users_into.new.users.items in
    let holders = c.find.new.self.members.items in
    let before = c.args.kinds.now.items in
    let after = c.add_kinds.new.kinds.items in
    let shown : AddsKinds users c.deref-2.result.now before after = subst (λ (us : List ℕ). AddsKinds us c.deref-2.result.now before after) c.deref.ensures.value c.in_ok-add_kinds.ensures in
    let adds : AddsKinds users holders before after = subst (λ (hs : List ℕ). AddsKinds users hs before after) c.deref-2.ensures.value shown in
    judged_group c.args.outline.now.uses.items c.args.entries.now c.args.group users holders before after c.requires.sorted c.requires.group c.requires.not_met c.in_ok-users_into.ensures c.in_ok-find.ensures adds c.requires.so_far
