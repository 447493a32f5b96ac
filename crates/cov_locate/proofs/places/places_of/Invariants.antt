use Rattle.std.proofs.Common.{◌≡◌, ◌<◌, All, length}
use Rattle.cov_locate.proofs.InPlaces.{AreTold}
use Rattle.cov_locate.proofs.places.places_of.Given as goal

abbrev pub decreases-loop-rest : goal.decreases-loop-rest
decreases-loop-rest l = length l.rest

abbrev pub invariant-loop-rest : goal.invariant-loop-rest
invariant-loop-rest l = (length l.places.items ≡ length l.points) × All (λ n. n < length l.points) l.rest × AreTold l.index.outline.uses.items l.points l.rest l.places.items
