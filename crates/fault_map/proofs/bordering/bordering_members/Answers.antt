use Rattle.std.proofs.Common.{List, ℕ}
use Rattle.std.proofs.lemmas.List.Filters.{dedup_is}
use Rattle.fault_map.proofs.Borders.{bordered, kept_ascends, kept_contains}
use Rattle.fault_map.proofs.bordering.bordering_members.Goals as goal

pub returns : goal.returns
returns c = λ o region is sides.
    let held : List ℕ = c.in_ok-members.members.items in
    let sorted : List ℕ = c.sort_unstable.new.self.items in
    let kept : List ℕ = c.dedup.new.self.items in
    let deduped = dedup_is _ _ _ c.dedup.ensures.filtered in
    bordered o region c.args.sides.now held kept sides (c.in_ok-members.ensures o is)
    (kept_ascends held sorted kept c.sort_unstable.ensures.permutation c.sort_unstable.ensures.sorted deduped)
    (kept_contains held sorted kept c.sort_unstable.ensures.permutation c.sort_unstable.ensures.sorted deduped)
