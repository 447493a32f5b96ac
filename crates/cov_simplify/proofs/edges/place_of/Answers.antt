use Rattle.std.proofs.Common.{rules}
use Rattle.std.proofs.lemmas.List.Sorted.{IsPartitionPoint-from_clause}
use Rattle.cov_simplify.proofs.EdgePlaces.{is_earlier, partitioned, place_is}
use Rattle.cov_simplify.proofs.edges.place_of.Goals as goal

pub returns : goal.returns
returns c =
    let edges = c.args.edges.now in
    place_is edges c.requires.ascending c.args.edge c.requires.among c.partition_point.result
    (IsPartitionPoint-from_clause (is_earlier edges c.requires.ascending c.args.edge) edges c.partition_point.result c.partition_point.ensures.partitioned (partitioned edges c.requires.ascending c.args.edge) (λ a r q k. search rules))
