use Rattle.std.proofs.Common.{filter}
use mathlib.Core.List.{[], ◌∷◌}
use Rattle.std.proofs.lemmas.List.Elements.{All-filter}
use Rattle.gap_width.specs.Own.{IsSmallEdge}
use Rattle.gap_width.proofs.Blocks.{is_within}
use Rattle.gap_width.proofs.Depths.{first_small, second_small}
use Rattle.gap_width.proofs.facing.is_bounded.Goals as goal

pub is_bounded_by_one-requires-clause-edge : goal.is_bounded_by_one-requires-clause-edge
is_bounded_by_one-requires-clause-edge c =
    let near = c.args.near.now in
    let test = is_within c.args.c c.args.limit in
    first_small (filter test near) c.in-One.only [] (All-filter test IsSmallEdge near c.requires.edges) c.in-One.ensures

pub is_bounded_by_two-requires-clause-first : goal.is_bounded_by_two-requires-clause-first
is_bounded_by_two-requires-clause-first c =
    let near = c.args.near.now in
    let test = is_within c.args.c c.args.limit in
    first_small (filter test near) c.in-Two.first (c.in-Two.second ∷ []) (All-filter test IsSmallEdge near c.requires.edges) c.in-Two.ensures

pub is_bounded_by_two-requires-clause-second : goal.is_bounded_by_two-requires-clause-second
is_bounded_by_two-requires-clause-second c =
    let near = c.args.near.now in
    let test = is_within c.args.c c.args.limit in
    second_small (filter test near) c.in-Two.first c.in-Two.second (All-filter test IsSmallEdge near c.requires.edges) c.in-Two.ensures
