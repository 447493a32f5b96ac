use Rattle.std.proofs.Common.{◌≤◌, ◌^◌, arith}
use Rattle.region_owners.specs.Gap.{IsClearance}
use Rattle.gap_width.specs.Search.{IsMost}
use Rattle.gap_width.proofs.Blocks.{if_ok_both}
use Rattle.gap_width.proofs.Most.{clearance_from}
use Rattle.gap_width.proofs.gaps.GapSearch.clearance.Goals as goal

pub returns : goal.returns
returns c =
    if_ok_both (IsMost c.args.self.now c.args.region 4294967295 0) (λ found. found ≤ 2 ^ 31) (IsClearance c.args.self.now c.args.region) c.most.result c.most.ensures.most c.most.ensures.small
    (λ found most small. clearance_from c.args.self.now c.args.region found 4294967295 most (omega (arith, small)))
