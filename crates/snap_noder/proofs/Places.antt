-- Places in ascending edges.
use mathlib.Core.List.{[], ◌∷◌}
use Rattle.std.proofs.Common.{◌≡◌, ◌⊎◌, inl, inr, refl, sym, ◌∙◌, ap, subst, true≢false, ℕ, zero, suc, ◌+◌, ◌<◌, false, List, get_or, length, Some, slice_get, Result, Ok, Err, Ordering, Less, Equal, Greater, is_lt, is_gt, IsOk, IfOk, IsSorted, refl, arith}
use Rattle.std.specs.Prelude.{Contains}
use Rattle.std.specs.List.{HoldsAt}
use Rattle.std.specs.List.Sorted.{IsBinarySearchResult, IsSearchInRange}
use Rattle.std.proofs.lemmas.Bool.{cases_lt}
use Rattle.std.proofs.lemmas.List.Sorted.{searchable_from_sorted}
use Rattle.std.proofs.lemmas.Option.{get_or_from_slice_get, slice_get-get_or, slice_get_within}
use Rattle.cov_types.specs.Seg.{seg_cmp}
use Rattle.cov_types.specs.declared.seg.Seg.{Seg}
use Rattle.cov_types.proofs.SegOrder.{seg_cmp_total, is_lt-seg_cmp, is_gt-seg_cmp, is_seg_before-asymm, is_seg_before-irrefl, same_segs_from_neither}
use Rattle.arrangement.specs.Noding.{IsAscending}

pub contained_at : {X : Type 0} (xs : List X) (k : ℕ) (x : X) → slice_get xs k ≡ Some x → Contains xs x
contained_at xs k x at = (k, slice_get_within xs k x at, get_or_from_slice_get xs k x x at)

-- below the length there is an element
pub get_or_at : {X : Type 0} (xs : List X) (k : ℕ) → k < length xs → (x : X) × (slice_get xs k ≡ Some x)
get_or_at [] k within = absurd (omega arith)
get_or_at (x ∷ xs) zero within = (x, refl)
get_or_at (x ∷ xs) (suc k) within = get_or_at xs k (omega arith)

-- ---- binary search

ascending_sorted : (edges : List Seg) → IsAscending edges → IsSorted seg_cmp edges
ascending_sorted edges up k d low within =
    is_lt-seg_cmp (get_or edges (k + 1) d) (get_or edges k d) ∙ is_seg_before-asymm (get_or edges k d) (get_or edges (k + 1) d) (up k (k + 1) d (omega arith) within)

own_cmp : (s : Seg) → seg_cmp s s ≡ Equal
own_cmp s = own (seg_cmp s s) (is_lt-seg_cmp s s ∙ is_seg_before-irrefl s) (is_gt-seg_cmp s s ∙ is_seg_before-irrefl s)
  where
    own : (o : Ordering) → is_lt o ≡ false → is_gt o ≡ false → o ≡ Equal
    own Less h k = absurd (true≢false h)
    own Equal h k = refl
    own Greater h k = absurd (true≢false k)

equal_segs : (s t : Seg) → seg_cmp s t ≡ Equal → s ≡ t
equal_segs s t h = same_segs_from_neither s t (sym (is_lt-seg_cmp s t) ∙ ap is_lt h) (sym (is_gt-seg_cmp s t) ∙ ap is_gt h)

unequal : (o : Ordering) → o ≡ Equal → (o ≡ Less) ⊎ (o ≡ Greater) → ⊥
unequal o e (inl h) = true≢false (ap is_lt (sym h ∙ e))
unequal o e (inr h) = true≢false (ap is_gt (sym h ∙ e))

-- the search finds an edge that is there, and only that edge
pub search_finds : (edges : List Seg) (s : Seg) (r : Result ℕ ℕ) → IsAscending edges → Contains edges s → IsBinarySearchResult (λ t. seg_cmp t s) edges r → IsOk r
search_finds edges s (Ok k) up has result = refl
search_finds edges s (Err i) up (k, within, is) result =
    let split = result (searchable_from_sorted seg_cmp_total (λ (t : Seg). t) edges s (ascending_sorted edges up)) in
    let here : seg_cmp (get_or edges k s) s ≡ Equal = ap (λ (t : Seg). seg_cmp t s) is ∙ own_cmp s in
    absurd (elim (cases_lt k i) [
      | inl below ↦ unequal _ here (inl (split.0 k s (omega arith) below))
      | inr above ↦ unequal _ here (inr (split.1 k s above within))
    ])

pub search_is : (edges : List Seg) (s : Seg) (k : ℕ) → k < length edges → HoldsAt (λ t. seg_cmp t s ≡ Equal) edges k → slice_get edges k ≡ Some s
search_is edges s k within at = slice_get-get_or edges k s within ∙ ap Some (equal_segs (get_or edges k s) s (at s))

pub search_found : (edges : List Seg) (s : Seg) (r : Result ℕ ℕ) (k : ℕ) → r ≡ Ok k → IfOk r (HoldsAt (λ t. seg_cmp t s ≡ Equal) edges) → IsSearchInRange r (length edges) → slice_get edges k ≡ Some s
search_found edges s r k e at range =
    search_is edges s k (subst (λ (v : Result ℕ ℕ). IsSearchInRange v (length edges)) e range) (subst (λ (v : Result ℕ ℕ). IfOk v (HoldsAt (λ t. seg_cmp t s ≡ Equal) edges)) e at)
