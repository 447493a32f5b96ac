use Rattle.std.proofs.Common.{rules}
use Rattle.std.proofs.lemmas.List.Sorted.{IsPartitionPoint-from_clause}
use Rattle.cov_overlay.proofs.PairPlaces.{is_earlier, partitioned, place_is}
use Rattle.cov_overlay.proofs.pair_list.place_of.Goals as goal

pub returns : goal.returns
returns c =
    let pairs = c.args.pairs.now in
    let up = c.requires.ascending in
    place_is pairs up c.args.pair c.requires.among c.partition_point.result
    (IsPartitionPoint-from_clause (is_earlier pairs up c.args.pair) pairs c.partition_point.result c.partition_point.ensures.partitioned (partitioned pairs up c.args.pair) (λ a r q k. search rules))
