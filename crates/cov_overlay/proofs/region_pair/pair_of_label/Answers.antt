use Rattle.std.proofs.Common.{ltb, rules}
use Rattle.std.specs.Prelude.{Some, None, option_copied}
use Rattle.std.proofs.lemmas.List.Sorted.{IsPartitionPoint-from_clause, IsPartitionedBy-ltb}
use Rattle.cov_overlay.proofs.LabelPair.{rises, second_past, pair_is}
use Rattle.cov_overlay.proofs.region_pair.pair_of_label.Goals as goal

pub overflow_sub-result : goal.overflow_sub-result
overflow_sub-result c =
    let label = c.args.label.now in
    let k = c.partition_point.result in
    let point = IsPartitionPoint-from_clause (λ m. ltb m c.args.first) label k c.partition_point.ensures.partitioned (IsPartitionedBy-ltb (λ m. m) label c.args.first (rises label c.requires)) (λ a r q j. search rules) in
    second_past c.args.first label k point c.split_at.result.0.now c.split_at.result.1.now c.split_at.ensures.front c.split_at.ensures.back c.in-Some-Some.b.now c.in-Some-Some.ensures'.value

pub returns-in-Some-Some : goal.returns-in-Some-Some
returns-in-Some-Some c =
    let label = c.args.label.now in
    let k = c.partition_point.result in
    let point = IsPartitionPoint-from_clause (λ m. ltb m c.args.first) label k c.partition_point.ensures.partitioned (IsPartitionedBy-ltb (λ m. m) label c.args.first (rises label c.requires)) (λ a r q j. search rules) in
    pair_is c.args.first label k point c.split_at.result.0.now c.split_at.result.1.now c.split_at.ensures.front c.split_at.ensures.back (Some c.in-Some-Some.a.now) (Some c.in-Some-Some.b.now) c.in-Some-Some.ensures.value c.in-Some-Some.ensures'.value

pub returns-in_default : goal.returns-in_default
returns-in_default c =
    let label = c.args.label.now in
    let k = c.partition_point.result in
    let point = IsPartitionPoint-from_clause (λ m. ltb m c.args.first) label k c.partition_point.ensures.partitioned (IsPartitionedBy-ltb (λ m. m) label c.args.first (rises label c.requires)) (λ a r q j. search rules) in
    pair_is c.args.first label k point c.split_at.result.0.now c.split_at.result.1.now c.split_at.ensures.front c.split_at.ensures.back (Some c.in_default.field-0-0.now) None c.in_default.ensures.value c.in_default.ensures'.value

pub returns-in_default-2 : goal.returns-in_default-2
returns-in_default-2 c =
    let label = c.args.label.now in
    let k = c.partition_point.result in
    let point = IsPartitionPoint-from_clause (λ m. ltb m c.args.first) label k c.partition_point.ensures.partitioned (IsPartitionedBy-ltb (λ m. m) label c.args.first (rises label c.requires)) (λ a r q j. search rules) in
    pair_is c.args.first label k point c.split_at.result.0.now c.split_at.result.1.now c.split_at.ensures.front c.split_at.ensures.back None (option_copied c.first-2.result) c.in_default.ensures.value c.first-2.ensures.value
