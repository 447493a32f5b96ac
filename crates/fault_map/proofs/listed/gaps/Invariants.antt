use Rattle.region_owners.specs.Gap.{IsGap}
use Rattle.fault_map.proofs.Listing.{IsListing}
use Rattle.fault_map.proofs.listed.gaps.Given as goal

abbrev pub invariant-loop-side : goal.invariant-loop-side
invariant-loop-side l = IsListing l.r l.labels IsGap l.side l.listed.items
