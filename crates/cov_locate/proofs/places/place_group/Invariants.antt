use Rattle.std.proofs.Common.{◌≡◌, ℕ, ◌<◌, length, get_or}
use Rattle.cov_locate.specs.Places.{IsRightAt}
use Rattle.cov_locate.proofs.places.place_group.Given as goal

abbrev pub invariant-loop-number : goal.invariant-loop-number
invariant-loop-number l = (length l.places.items ≡ length l.points) × ((n : ℕ) → IsRightAt l.index.outline.uses.items l.points l.initial.places.items n → IsRightAt l.index.outline.uses.items l.points l.places.items n)
    × ((k e : ℕ) → k < l.number-index → IsRightAt l.index.outline.uses.items l.points l.places.items (get_or l.group k e))
