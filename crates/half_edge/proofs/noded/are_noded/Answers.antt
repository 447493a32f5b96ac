use Rattle.std.proofs.Common.{subst, sym}
use Rattle.std.specs.Prelude.{All}
use Rattle.cov_types.specs.Range.{IsSegInRange}
use Rattle.plane.specs.Noded.{IsNodedFully}
use Rattle.half_edge.proofs.Meeting.{in_range_along, noded_along}
use Rattle.half_edge.proofs.noded.are_noded.Goals as goal

pub are_noded_by_blocks-requires : goal.are_noded_by_blocks-requires
are_noded_by_blocks-requires c = subst (All IsSegInRange) (sym c.as_slice.ensures.value) (in_range_along c.args.edges.now c.in_ok-along.along.items c.in_ok-along.ensures c.requires)

pub returns : goal.returns
returns c =
    let same = noded_along c.args.edges.now c.in_ok-along.along.items c.in_ok-along.ensures in
    let read = c.as_slice.ensures.value in
    (λ t. same.1 (subst IsNodedFully read (c.in_ok-noded.ensures.0 t)), λ noded. c.in_ok-noded.ensures.1 (subst IsNodedFully (sym read) (same.0 noded)))
