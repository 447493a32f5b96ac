use Rattle.fault_map.specs.FaultMap.{IsShared}
use Rattle.fault_map.proofs.Listing.{IsListing}
use Rattle.fault_map.proofs.listed.shared_regions.Given as goal

abbrev pub invariant-loop-side : goal.invariant-loop-side
invariant-loop-side l = IsListing l.r l.labels IsShared l.side l.listed.items
