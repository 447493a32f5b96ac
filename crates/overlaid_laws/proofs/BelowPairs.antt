-- The members of a region's pair are members of the two coverages.
use Rattle.std.proofs.Common.{◌≡◌, ℕ, ◌<◌, nat_lt, nat_le, List, ◌++◌, length, length-append, arith}
use Rattle.std.specs.Prelude.{Contains, Some, slice_get}
use Rattle.std.proofs.lemmas.Option.{slice_get_within, get_or_from_slice_get}
use Rattle.cov_types.specs.Coverage.{Members, AllInRange}
use Rattle.cov_types.specs.Uses.{uses_of}
use Rattle.arrangement.specs.Overlay.{Overlay, IsSnappedOverlay, label_of}
use Rattle.arrangement.proofs.LiveOverlays.{kept_is}
use Rattle.region_owners.proofs.Held.{label_below}
use Rattle.overlaid_laws.specs.declared.pair.Pair.{Pair}
use Rattle.overlaid_laws.specs.Pairs.{region_pair}
use Rattle.overlaid_laws.proofs.LeastPairs.{pair_parts, less_from, le_from}

placed : (xs : List ℕ) (m : ℕ) → slice_get xs 0 ≡ Some m → Contains xs m
placed xs m is = (0, slice_get_within xs 0 m is, get_or_from_slice_get xs 0 m m is)

pub pair_below : (a b : Members) → AllInRange (a ++ b) → (o : Overlay) → IsSnappedOverlay (uses_of (a ++ b)) (length (a ++ b)) o
    → (r : ℕ) (pair : Pair) → region_pair (length a) o r ≡ Some pair → (pair.a < length a) × (pair.b < length b)
pair_below a b in_range o h r pair is =
    let parts = pair_parts (length a) _ _ pair is in
    let m = parts.1.0 in
    let first = kept_is (λ k. nat_lt k (length a)) (label_of o r) pair.a (placed _ pair.a parts.0) in
    let second = kept_is (λ k. nat_le (length a) k) (label_of o r) m (placed _ m parts.1.1.0) in
    let below = label_below o r m second.0 in
    let past = le_from (length a) m second.1 in
    let number = parts.1.1.1 in
    let count = h.overlay.count in
    (less_from pair.a (length a) first.1, omega (arith, below, past, number, count, length-append a b))
