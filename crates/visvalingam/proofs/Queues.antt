-- A heap of turned spots as a queue.
use mathlib.Core.List.{[], ◌∷◌}
use Rattle.std.proofs.Common.{◌≡◌, refl, sym, ◌∙◌, subst, ℕ, zero, suc, ◌<◌, length, get_or, List, All, false, IsTrue, IsPermutation, arith}
use Rattle.std.specs.Ordering.{is_lt, is_le, nat_cmp, ordering_then, ordering_reverse}
use Rattle.std.specs.declared.cmp.Ordering.{Ordering}
use Rattle.std.specs.declared.cmp.Ordering.TheVariants.{Less, Equal, Greater}
use Rattle.std.specs.declared.cmp.Reverse.{Reverse}
use Rattle.std.specs.BinaryHeap.{IsUpperBound}
use Rattle.std.proofs.lemmas.Cmp.{nat_cmp_total}
use Rattle.std.proofs.lemmas.List.Sorted.{IsPermutation-map}
use Rattle.greedy_run.specs.Run.{spot_cmp}
use Rattle.visvalingam.specs.Queue.{at_spot, IsNoLater, spots_of}
use Rattle.visvalingam.specs.declared.spot.QueuedSpot.{QueuedSpot}

spot_reverse : (a b c : Ordering) → ordering_reverse (ordering_then a (ordering_then b c)) ≡ ordering_then (ordering_reverse a) (ordering_then (ordering_reverse b) (ordering_reverse c))
spot_reverse Less b c = refl
spot_reverse Greater b c = refl
spot_reverse Equal Less c = refl
spot_reverse Equal Greater c = refl
spot_reverse Equal Equal c = refl

spots_reverse : (p q : QueuedSpot) → spot_cmp (at_spot p) (at_spot q) ≡ ordering_reverse (spot_cmp (at_spot q) (at_spot p))
spots_reverse p q =
    (λ i. ordering_then (nat_cmp_total.antisymm p.size q.size i) (ordering_then (nat_cmp_total.antisymm p.line q.line i) (nat_cmp_total.antisymm p.place q.place i)))
    ∙ sym (spot_reverse (nat_cmp q.size p.size) (nat_cmp q.line p.line) (nat_cmp q.place p.place))

-- the top of a heap, which is less than none of the turned spots, is no later than any
no_later : (p q : QueuedSpot) → is_lt (spot_cmp (at_spot q) (at_spot p)) ≡ false → IsNoLater p q
no_later p q h = subst (λ o. IsTrue (is_le o)) (sym (spots_reverse p q)) (by (spot_cmp (at_spot q) (at_spot p)) h)
  where
    by : (o : Ordering) → is_lt o ≡ false → IsTrue (is_le (ordering_reverse o))
    by Less e = sym e
    by Equal e = refl
    by Greater e = refl

least_at : (p : QueuedSpot) (items : List (Reverse QueuedSpot)) → IsUpperBound (λ (x y : Reverse QueuedSpot). spot_cmp (at_spot y.0) (at_spot x.0)) (record { 0 = p }) items
    → (k : ℕ) (d : QueuedSpot) → k < length (spots_of items) → IsNoLater p (get_or (spots_of items) k d)
least_at p [] h k d below = absurd (omega (arith, below))
least_at p (r ∷ items) h zero d below = no_later p r.0 h.0
least_at p (r ∷ items) h (suc k) d below = least_at p items h.1 k d (omega (arith, below))

pub least_of : (p : QueuedSpot) (items : List (Reverse QueuedSpot)) → IsUpperBound (λ (x y : Reverse QueuedSpot). spot_cmp (at_spot y.0) (at_spot x.0)) (record { 0 = p }) items → All (IsNoLater p) (spots_of items)
least_of p items h k d below = least_at p items h k d below

pub spots_moved : (xs ys : List (Reverse QueuedSpot)) → IsPermutation xs ys → IsPermutation (spots_of xs) (spots_of ys)
spots_moved xs ys h = IsPermutation-map (λ (r : Reverse QueuedSpot). r.0) xs ys h
