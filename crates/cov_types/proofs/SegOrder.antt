-- The order of segments, and what `cmp` answers of coordinates and segments.
use Rattle.std.proofs.Common.{◌≡◌, ℤ, int_lt, ◌&&◌, ◌||◌, not, Bool, true, false, cond, ◌⊎◌, IsTrue, Ordering, Less, Equal, Greater, int_cmp, is_lt, is_gt, refl, sym, ◌∙◌, inl, inr, ⊎_elim, true≢false, List, IsSorted, IsSortedBy, get_or, ◌+◌, arith}
use Rattle.std.proofs.lemmas.Bool.{false_from_ne_true, true_from_ne_false, and_parts, and_cases, or_parts, or_cases, not-true, not-false, cases_Bool}
use Rattle.std.proofs.lemmas.Cmp.{int_cmp_total, then_total}
use Rattle.std.proofs.lemmas.Int.{ints}
use Rattle.std.proofs.lemmas.List.MinMax.{ranks_by}
use Rattle.std.specs.Cmp.{IsTotalOrder, IsStrictWeakOrder}
use Rattle.std.specs.Ordering.{ordering_then}
use Rattle.cov_types.proofs.Equal.{same_segs}
use Rattle.cov_types.proofs.Order.{same_from_neither}
use Rattle.cov_types.specs.Coord.{is_before, coord_cmp}
use Rattle.cov_types.specs.Seg.{is_seg_before, seg_cmp}
use Rattle.cov_types.specs.declared.coord.Coord.{Coord}
use Rattle.cov_types.specs.declared.seg.Seg.{Seg}

-- ---- `cmp`

is_lt-ordering_then : (o p : Ordering) → is_lt (ordering_then o p) ≡ (is_lt o || (not (is_gt o) && is_lt p))
is_lt-ordering_then Less p = refl
is_lt-ordering_then Equal p = refl
is_lt-ordering_then Greater p = refl

is_gt-ordering_then : (o p : Ordering) → is_gt (ordering_then o p) ≡ (is_gt o || (not (is_lt o) && is_gt p))
is_gt-ordering_then Less p = refl
is_gt-ordering_then Equal p = refl
is_gt-ordering_then Greater p = refl

lt_of_tests : (p q : Bool) → is_lt (cond p Less (cond q Greater Equal)) ≡ p
lt_of_tests true q = refl
lt_of_tests false true = refl
lt_of_tests false false = refl

gt_of_tests : (p q : Bool) → (p ≡ true → q ≡ false) → is_gt (cond p Less (cond q Greater Equal)) ≡ q
gt_of_tests true q h = sym (h refl)
gt_of_tests false true h = refl
gt_of_tests false false h = refl

int_lt-asymm : (x y : ℤ) → int_lt x y ≡ true → int_lt y x ≡ false
int_lt-asymm x y h = grind (arith, ints)

is_lt-int_cmp : (x y : ℤ) → is_lt (int_cmp x y) ≡ int_lt x y
is_lt-int_cmp x y = lt_of_tests (int_lt x y) (int_lt y x)

is_gt-int_cmp : (x y : ℤ) → is_gt (int_cmp x y) ≡ int_lt y x
is_gt-int_cmp x y = gt_of_tests (int_lt x y) (int_lt y x) (int_lt-asymm x y)

-- a lexicographic test, from tests that are equal to its parts
then_tests : (p p' q q' r r' : Bool) → p ≡ p' → q ≡ q' → r ≡ r' → (p || (not q && r)) ≡ (p' || (not q' && r'))
then_tests p p' q q' r r' e f g = λ i. e i || (not (f i) && g i)

-- `cmp` of two coordinates answers by which comes first
pub is_lt-coord_cmp : (a b : Coord) → is_lt (coord_cmp a b) ≡ is_before a b
is_lt-coord_cmp a b =
    is_lt-ordering_then (int_cmp a.x b.x) (int_cmp a.y b.y)
    ∙ then_tests _ _ _ _ _ _ (is_lt-int_cmp a.x b.x) (is_gt-int_cmp a.x b.x) (is_lt-int_cmp a.y b.y)

pub is_gt-coord_cmp : (a b : Coord) → is_gt (coord_cmp a b) ≡ is_before b a
is_gt-coord_cmp a b =
    is_gt-ordering_then (int_cmp a.x b.x) (int_cmp a.y b.y)
    ∙ then_tests _ _ _ _ _ _ (is_gt-int_cmp a.x b.x) (is_lt-int_cmp a.x b.x) (is_gt-int_cmp a.y b.y)

-- `cmp` of two segments answers by which comes first
pub is_lt-seg_cmp : (s t : Seg) → is_lt (seg_cmp s t) ≡ is_seg_before s t
is_lt-seg_cmp s t =
    is_lt-ordering_then (coord_cmp s.lo t.lo) (coord_cmp s.hi t.hi)
    ∙ then_tests _ _ _ _ _ _ (is_lt-coord_cmp s.lo t.lo) (is_gt-coord_cmp s.lo t.lo) (is_lt-coord_cmp s.hi t.hi)

pub is_gt-seg_cmp : (s t : Seg) → is_gt (seg_cmp s t) ≡ is_seg_before t s
is_gt-seg_cmp s t =
    is_gt-ordering_then (coord_cmp s.lo t.lo) (coord_cmp s.hi t.hi)
    ∙ then_tests _ _ _ _ _ _ (is_gt-coord_cmp s.lo t.lo) (is_lt-coord_cmp s.lo t.lo) (is_gt-coord_cmp s.hi t.hi)

-- the same by an order of keys
total_by : {X K : Type 0} {R : K → K → Ordering} (key : X → K) → IsTotalOrder R → IsTotalOrder (λ x y. R (key x) (key y))
total_by key o = record {
  antisymm = λ x y. o.antisymm (key x) (key y);
  trans = λ x y z. o.trans (key x) (key y) (key z);
  congr = λ x y z. o.congr (key x) (key y) (key z);
}

-- `cmp` is a total order of coordinates and of segments
pub coord_cmp_total : IsTotalOrder coord_cmp
coord_cmp_total = then_total (total_by (λ (c : Coord). c.x) int_cmp_total) (total_by (λ (c : Coord). c.y) int_cmp_total)

pub seg_cmp_total : IsTotalOrder seg_cmp
seg_cmp_total = then_total (total_by (λ (s : Seg). s.lo) coord_cmp_total) (total_by (λ (s : Seg). s.hi) coord_cmp_total)

-- ---- the order

weak_along : {X : Type 0} (lt before : X → X → Bool) → ((x y : X) → lt x y ≡ before x y) → IsStrictWeakOrder lt → IsStrictWeakOrder before
weak_along lt before e o = record {
  one_way = λ x y h. sym (e y x) ∙ o.one_way x y (e x y ∙ h);
  chain = λ x y z h k. sym (e x z) ∙ o.chain x y z (e x y ∙ h) (e y z ∙ k);
}

pub is_before-weak : IsStrictWeakOrder is_before
is_before-weak = weak_along (λ a b. is_lt (coord_cmp a b)) is_before is_lt-coord_cmp (ranks_by coord_cmp_total (λ (a : Coord). a))

pub is_seg_before-weak : IsStrictWeakOrder is_seg_before
is_seg_before-weak = weak_along (λ s t. is_lt (seg_cmp s t)) is_seg_before is_lt-seg_cmp (ranks_by seg_cmp_total (λ (s : Seg). s))

pub is_seg_before-asymm : (s t : Seg) → IsTrue (is_seg_before s t) → is_seg_before t s ≡ false
is_seg_before-asymm s t h = is_seg_before-weak.one_way s t h

pub is_seg_before-irrefl : (s : Seg) → is_seg_before s s ≡ false
is_seg_before-irrefl s = false_from_ne_true (is_seg_before s s) (λ h. true≢false (sym h ∙ is_seg_before-asymm s s h))

pub is_seg_before-trans : (s t u : Seg) → IsTrue (is_seg_before s t) → IsTrue (is_seg_before t u) → IsTrue (is_seg_before s u)
is_seg_before-trans s t u h k =
    true_from_ne_false (is_seg_before s u) (λ n.
    true≢false (sym h ∙ is_seg_before-weak.chain s u t n (is_seg_before-asymm t u k)))

-- a segment comes before another by its lesser end, or has the same lesser end and comes before it by its greater
pub cases_seg_before : (s t : Seg) → IsTrue (is_seg_before s t) → IsTrue (is_before s.lo t.lo) ⊎ ((s.lo ≡ t.lo) × IsTrue (is_before s.hi t.hi))
cases_seg_before s t h =
    ⊎_elim inl
    (λ c.
    let parts = and_parts (not (is_before t.lo s.lo)) (is_before s.hi t.hi) c in
    ⊎_elim inl (λ n. inr (same_from_neither s.lo t.lo n (not-true (is_before t.lo s.lo) parts.0), parts.1)) (cases_Bool (is_before s.lo t.lo)))
    (or_cases (is_before s.lo t.lo) (not (is_before t.lo s.lo) && is_before s.hi t.hi) h)

-- where neither comes before the other by its lesser end, the greater ends decide
hi_not_before : (s t : Seg) → is_before t.lo s.lo ≡ false → (not (is_before t.lo s.lo) && is_before s.hi t.hi) ≡ false → is_before s.hi t.hi ≡ false
hi_not_before s t n h =
    ⊎_elim (λ m. absurd (true≢false (sym (not-false (is_before t.lo s.lo) m) ∙ n))) (λ m. m) (and_cases (not (is_before t.lo s.lo)) (is_before s.hi t.hi) h)

-- two segments of which neither comes before the other are one
pub same_segs_from_neither : (s t : Seg) → is_seg_before s t ≡ false → is_seg_before t s ≡ false → s ≡ t
same_segs_from_neither s t h k =
    let forward = or_parts (is_before s.lo t.lo) (not (is_before t.lo s.lo) && is_before s.hi t.hi) h in
    let back = or_parts (is_before t.lo s.lo) (not (is_before s.lo t.lo) && is_before t.hi s.hi) k in
    same_segs s t (same_from_neither s.lo t.lo forward.0 back.0) (same_from_neither s.hi t.hi (hi_not_before s t back.0 forward.1) (hi_not_before t s forward.0 back.1))

-- of two segments one comes first, or they are one
pub cases_segs : (s t : Seg) → IsTrue (is_seg_before s t) ⊎ ((s ≡ t) ⊎ IsTrue (is_seg_before t s))
cases_segs s t =
    ⊎_elim inl (λ h. inr (⊎_elim inr (λ k. inl (same_segs_from_neither s t h k)) (cases_Bool (is_seg_before t s)))) (cases_Bool (is_seg_before s t))

-- what a sort ensures of segments
pub sorted_segs : (segs : List Seg) → IsSorted seg_cmp segs → IsSortedBy is_seg_before segs
sorted_segs segs h = λ k d low high. sym (is_lt-seg_cmp (get_or segs (k + 1) d) (get_or segs k d)) ∙ h k d low high
