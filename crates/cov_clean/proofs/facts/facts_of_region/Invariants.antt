use Rattle.std.proofs.Common.{◌≡◌, map, take}
use Rattle.arrangement.specs.Overlay.{Overlay}
use Rattle.owner_label.specs.Labelled.{IsOverlay}
use Rattle.cov_clean.proofs.Candidates.{candidate_of}
use Rattle.cov_clean.proofs.facts.facts_of_region.Given as goal

abbrev pub invariant-loop-member : goal.invariant-loop-member
invariant-loop-member l = (o : Overlay) → IsOverlay l.labels o → l.candidates.items ≡ map (candidate_of o l.region) (take l.member-index l.label)
