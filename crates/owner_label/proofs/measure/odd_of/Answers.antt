use Rattle.std.proofs.Common.{◌-◌, length, leb, ltb, take, drop, arith, rules}
use Rattle.std.proofs.lemmas.Bool.{ltb-true, ltb-false, leb-true, leb-false}
use Rattle.std.proofs.lemmas.List.{take_rest}
use Rattle.std.proofs.lemmas.List.Sorted.{IsPartitionPoint-from_clause, IsPartitionedBy-leb, IsPartitionedBy-ltb, IsNonDecreasingBy-drop}
use Rattle.std.proofs.Common.{List, subst, sym}
use Rattle.std.specs.List.Sorted.{IsNonDecreasingBy}
use Rattle.arrangement.specs.declared.odd_use.OddUse.{OddUse}
use Rattle.owner_label.proofs.Runs.{members_rise, run_is}
use Rattle.owner_label.proofs.measure.odd_of.Goals as goal

pub returns : goal.returns
returns c =
    let odd = c.args.odd.now in
    let m = c.args.member in
    let from = c.partition_point-from.result in
    let count = c.partition_point-count.result in
    let rest = take (length odd - from) (drop from odd) in
    let rises = members_rise odd c.requires.ascending in
    let rest_rises = subst (λ (xs : List OddUse). IsNonDecreasingBy (λ (o : OddUse). o.member) xs) (sym (take_rest odd from)) (IsNonDecreasingBy-drop (λ (o : OddUse). o.member) from odd rises) in
    let first = IsPartitionPoint-from_clause (λ (o : OddUse). ltb o.member m) odd from c.partition_point-from.ensures.partitioned
    (IsPartitionedBy-ltb (λ (o : OddUse). o.member) odd m rises) (λ a r q k. search rules) in
    let second = IsPartitionPoint-from_clause (λ (o : OddUse). leb o.member m) rest count c.partition_point-count.ensures.partitioned
    (IsPartitionedBy-leb (λ (o : OddUse). o.member) rest m rest_rises) (λ a r q k. search rules) in
    run_is m odd rest from count (take_rest odd from)
    (λ k d less. ltb-true _ _ (first.0 k d (omega arith) less))
    (λ k d past within. ltb-false _ _ (first.1 k d past within))
    (λ k d less. leb-true _ _ (second.0 k d (omega arith) less))
    (λ k d past within. leb-false _ _ (second.1 k d past within))
