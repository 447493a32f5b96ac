-- Sums over edges as sums over the sides of a region.
use mathlib.Core.List.{[], ◌∷◌}
use Rattle.std.proofs.Common.{◌≡◌, refl, sym, ◌∙◌, ap, ℕ, suc, ◌+◌, ◌*◌, ◌/◌, ◌%◌, ◌-◌, ◌<◌, ◌==◌, ◌||◌, ◌&&◌, Bool, true, false, cond, List, ◌++◌, length, filter, get_or, take, sum_by, Some, slice_get, ℤ, pos, ◌+ℤ◌, ◌-ℤ◌, arith}
use Rattle.std.specs.List.{enumerate_from}
use Rattle.std.proofs.lemmas.Bool.{eq-eqb, ne_eqb, eqb-true, cond-true, cond-false}
use Rattle.std.proofs.lemmas.Option.{slice_get_within, slice_get-get_or}
use Rattle.std.proofs.lemmas.List.Sums.{sum_by-cons, sum_by-append, sum_by_more}
use Rattle.integer_laws.proofs.Ring.{lin}
use Rattle.cov_types.specs.declared.seg.Seg.{Seg}
use Rattle.crossing_laws.specs.Crossing.{int_sum_by}
use Rattle.plane.specs.Label.{numbers_below}
use Rattle.plane.specs.Length.{edge_length}
use Rattle.arrangement.specs.Measure.{trapezoid, area_gain, region_area2, is_border, border_with}
use Rattle.arrangement.specs.Overlay.{Overlay, region_at, label_of}
use Rattle.half_edge.specs.Side.{across}
use Rattle.owner_label.specs.Labelled.{Labelled, IsOverlay}
use Rattle.owner_label.specs.Lists.{sided_of}
use Rattle.counting_sort.specs.Grouped.{places_of}
use Rattle.owner_label.specs.Sided.{AreSided}
use Rattle.owner_label.specs.Sides.{side_trapezoid, side_area, length_of, side_length}
use Rattle.owner_label.proofs.Overlays.{labels_apart}

-- ---- sums over lists

pub int_sum-append : {X : Type 0} (f : X → ℤ) (xs ys : List X) → int_sum_by f (xs ++ ys) ≡ int_sum_by f xs +ℤ int_sum_by f ys
int_sum-append f [] ys = omega (arith, lin)
int_sum-append f (x ∷ xs) ys = let rest = int_sum-append f xs ys in omega (arith, lin)

int_sum-filter : {X : Type 0} (p : X → Bool) (f : X → ℤ) (xs : List X) → int_sum_by f (filter p xs) ≡ int_sum_by (λ x. cond (p x) (f x) (pos 0)) xs
int_sum-filter p f [] = refl
int_sum-filter p f (x ∷ xs) = by (p x) (int_sum-filter p f xs)
  where
    by : (b : Bool) → int_sum_by f (filter p xs) ≡ int_sum_by (λ y. cond (p y) (f y) (pos 0)) xs
        → int_sum_by f (cond b (x ∷ filter p xs) (filter p xs)) ≡ cond b (f x) (pos 0) +ℤ int_sum_by (λ y. cond (p y) (f y) (pos 0)) xs
    by true rest = omega (arith, lin)
    by false rest = omega (arith, lin)

sum-filter : {X : Type 0} (p : X → Bool) (f : X → ℕ) (xs : List X) → sum_by f (filter p xs) ≡ sum_by (λ x. cond (p x) (f x) 0) xs
sum-filter p f [] = refl
sum-filter p f (x ∷ xs) = by (p x) (sum-filter p f xs) ∙ sym (sum_by-cons (λ y. cond (p y) (f y) 0) x xs)
  where
    by : (b : Bool) → sum_by f (filter p xs) ≡ sum_by (λ y. cond (p y) (f y) 0) xs
        → sum_by f (cond b (x ∷ filter p xs) (filter p xs)) ≡ cond b (f x) 0 + sum_by (λ y. cond (p y) (f y) 0) xs
    by true rest = omega (arith, sum_by-cons f x (filter p xs))
    by false rest = omega arith

-- ---- two numbers for each edge

-- what an edge adds is what its two sides add
abbrev IsSplit : (ℕ × Seg → ℤ) → (ℕ → ℤ) → ℕ → List Seg → Type 0
IsSplit h g i edges = (j k : ℕ) (e : Seg) → k ≡ i + j → slice_get edges j ≡ Some e → h (k, e) ≡ g (2 * k) +ℤ g (2 * k + 1)

int_two_more : (g : ℕ → ℤ) (i : ℕ) → int_sum_by g (numbers_below (2 * suc i)) ≡ int_sum_by g (numbers_below (2 * i)) +ℤ (g (2 * i) +ℤ g (2 * i + 1))
int_two_more g i =
    let twice : 2 * suc i ≡ suc (suc (2 * i)) = omega arith in
    let one : 2 * i + 1 ≡ suc (2 * i) = omega arith in
    let first = int_sum-append g (numbers_below (2 * i)) (2 * i ∷ []) in
    let second = int_sum-append g (numbers_below (suc (2 * i))) (suc (2 * i) ∷ []) in
    let last = ap g one in
    ap (λ n. int_sum_by g (numbers_below n)) twice ∙ omega (arith, lin)

int_by_sides : (h : ℕ × Seg → ℤ) (g : ℕ → ℤ) (i : ℕ) (edges : List Seg) → IsSplit h g i edges
    → int_sum_by g (numbers_below (2 * i)) +ℤ int_sum_by h (enumerate_from i edges) ≡ int_sum_by g (numbers_below (2 * (i + length edges)))
int_by_sides h g i [] split = (let same : i + 0 ≡ i = omega arith in let end = ap (λ n. int_sum_by g (numbers_below (2 * n))) same in omega (arith, lin))
int_by_sides h g i (e ∷ es) split =
    let next : i + 1 ≡ suc i = omega arith in
    let rest = int_by_sides h g (i + 1) es (λ j k f at here. split (suc j) k f (omega arith) here) in
    let long : (i + 1) + length es ≡ i + length (e ∷ es) = omega arith in
    let end = ap (λ n. int_sum_by g (numbers_below (2 * n))) long in
    let start = ap (λ n. int_sum_by g (numbers_below (2 * n))) next in
    let two = int_two_more g i in
    let first = split 0 i e (omega arith) refl in
    omega (arith, lin)

abbrev IsSplitLength : (ℕ × Seg → ℕ) → (ℕ → ℕ) → ℕ → List Seg → Type 0
IsSplitLength h g i edges = (j k : ℕ) (e : Seg) → k ≡ i + j → slice_get edges j ≡ Some e → h (k, e) ≡ g (2 * k) + g (2 * k + 1)

two_more : (g : ℕ → ℕ) (i : ℕ) → sum_by g (numbers_below (2 * suc i)) ≡ sum_by g (numbers_below (2 * i)) + (g (2 * i) + g (2 * i + 1))
two_more g i =
    let twice : 2 * suc i ≡ suc (suc (2 * i)) = omega arith in
    let one : 2 * i + 1 ≡ suc (2 * i) = omega arith in
    let first = sum_by-append g (numbers_below (2 * i)) (2 * i ∷ []) in
    let second = sum_by-append g (numbers_below (suc (2 * i))) (suc (2 * i) ∷ []) in
    let last = ap g one in
    ap (λ n. sum_by g (numbers_below n)) twice ∙ omega (arith, sum_by-cons g (2 * i) [], sum_by-cons g (suc (2 * i)) [])

by_sides : (h : ℕ × Seg → ℕ) (g : ℕ → ℕ) (i : ℕ) (edges : List Seg) → IsSplitLength h g i edges
    → sum_by g (numbers_below (2 * i)) + sum_by h (enumerate_from i edges) ≡ sum_by g (numbers_below (2 * (i + length edges)))
by_sides h g i [] split = (let same : i + 0 ≡ i = omega arith in let end = ap (λ n. sum_by g (numbers_below (2 * n))) same in omega arith)
by_sides h g i (e ∷ es) split =
    let next : i + 1 ≡ suc i = omega arith in
    let rest = by_sides h g (i + 1) es (λ j k f at here. split (suc j) k f (omega arith) here) in
    let long : (i + 1) + length es ≡ i + length (e ∷ es) = omega arith in
    let end = ap (λ n. sum_by g (numbers_below (2 * n))) long in
    let start = ap (λ n. sum_by g (numbers_below (2 * n))) next in
    let two = two_more g i in
    let first = split 0 i e (omega arith) refl in
    omega (arith, sum_by-cons h (i, e) (enumerate_from (i + 1) es))

-- ---- the sides of edge k

edge_number : (k : ℕ) → (2 * k) / 2 ≡ k
edge_number k = omega arith

edge_number_odd : (k : ℕ) → (2 * k + 1) / 2 ≡ k
edge_number_odd k = omega arith

pub area_above : (edges : List Seg) (k : ℕ) (e : Seg) → slice_get edges k ≡ Some e → side_area edges (2 * k) ≡ pos 0 -ℤ trapezoid e
area_above edges k e at =
    ap (λ j. side_trapezoid (2 * k) (slice_get edges j)) (edge_number k) ∙ ap (side_trapezoid (2 * k)) at
    ∙ ap (λ b. cond b (pos 0 -ℤ trapezoid e) (trapezoid e)) (eq-eqb ((2 * k) % 2) 0 (omega arith))

pub area_below : (edges : List Seg) (k : ℕ) (e : Seg) → slice_get edges k ≡ Some e → side_area edges (2 * k + 1) ≡ trapezoid e
area_below edges k e at =
    ap (λ j. side_trapezoid (2 * k + 1) (slice_get edges j)) (edge_number_odd k) ∙ ap (side_trapezoid (2 * k + 1)) at
    ∙ ap (λ b. cond b (pos 0 -ℤ trapezoid e) (trapezoid e)) (ne_eqb ((2 * k + 1) % 2) 0 (λ h. omega arith))

-- an edge at its place
pub edge_there : (edges : List Seg) (k : ℕ) → k < length edges → (e : Seg) × (slice_get edges k ≡ Some e)
edge_there [] k h = absurd (omega arith)
edge_there (e ∷ es) k h = (get_or (e ∷ es) k e, slice_get-get_or (e ∷ es) k e h)

-- what a side adds, from the trapezoid of its edge
module _ (edges : List Seg) (n k : ℕ) (is : k ≡ n / 2) (inside : k < length edges) (area : ℤ) (exact : (e : Seg) → slice_get edges k ≡ Some e → area ≡ trapezoid e) where
  side_turned : (b : Bool) → (n % 2 == 0) ≡ b → cond b (pos 0 -ℤ area) area ≡ side_area edges n
  side_turned b h =
      let (e, at) = edge_there edges k inside in
      ap (λ t. cond b (pos 0 -ℤ t) t) (exact e at)
      ∙ sym (ap (λ j. side_trapezoid n (slice_get edges j)) (sym is) ∙ ap (side_trapezoid n) at ∙ ap (λ t. cond t (pos 0 -ℤ trapezoid e) (trapezoid e)) h)

  pub upper_area : (n % 2 == 0) ≡ true → pos 0 -ℤ area ≡ side_area edges n
  upper_area h = side_turned true h

  pub lower_area : (n % 2 == 0) ≡ false → area ≡ side_area edges n
  lower_area h = side_turned false h

gain_splits : (a b : Bool) (e : Seg) → area_gain b a e ≡ cond a (pos 0 -ℤ trapezoid e) (pos 0) +ℤ cond b (trapezoid e) (pos 0)
gain_splits true true e = omega (arith, lin)
gain_splits true false e = omega (arith, lin)
gain_splits false true e = omega (arith, lin)
gain_splits false false e = omega (arith, lin)

module _ (l : Labelled) (o : Overlay) (overlay : IsOverlay l o) (r : ℕ) where
  abbrev area_in : ℕ → ℤ
  area_in n = cond (region_at o n == r) (side_area o.edges n) (pos 0)

  area_splits : IsSplit (λ p. area_gain (region_at o (2 * p.0 + 1) == r) (region_at o (2 * p.0) == r) p.1) area_in 0 o.edges
  area_splits j k e same at =
      let here : slice_get o.edges k ≡ Some e = ap (λ i. slice_get o.edges i) (omega (arith, same)) ∙ at in
      gain_splits (region_at o (2 * k) == r) (region_at o (2 * k + 1) == r) e
      ∙ (λ i. cond (region_at o (2 * k) == r) (sym (area_above o.edges k e here) i) (pos 0) +ℤ cond (region_at o (2 * k + 1) == r) (sym (area_below o.edges k e here) i) (pos 0))

  -- the doubled area of the region is what its sides add
  pub area_is : (sides : List ℕ) → sides ≡ places_of o.numbers r → int_sum_by (side_area l.edges) sides ≡ region_area2 o r
  area_is sides are =
      let all = int_by_sides (λ p. area_gain (region_at o (2 * p.0 + 1) == r) (region_at o (2 * p.0) == r) p.1) area_in 0 o.edges area_splits in
      let start : int_sum_by area_in (numbers_below (2 * 0)) ≡ pos 0 = refl in
      let long : length o.numbers ≡ 2 * (0 + length o.edges) = omega (arith, overlay.numbered.count) in
      let same : int_sum_by (side_area l.edges) sides ≡ int_sum_by (side_area o.edges) (places_of o.numbers r) = λ i. int_sum_by (side_area (sym overlay.edges i)) (are i) in
      let chosen = int_sum-filter (λ n. region_at o n == r) (side_area o.edges) (numbers_below (length o.numbers)) ∙ ap (λ n. int_sum_by area_in (numbers_below n)) long in
      same ∙ chosen ∙ omega (arith, lin, all, start)

-- ---- lengths

across-even : (k : ℕ) → across (2 * k) ≡ 2 * k + 1
across-even k = cond-true ((2 * k) % 2 == 0) (2 * k + 1) (2 * k - 1) (eq-eqb ((2 * k) % 2) 0 (omega arith))

across-odd : (k : ℕ) → across (2 * k + 1) ≡ 2 * k
across-odd k = cond-false ((2 * k + 1) % 2 == 0) ((2 * k + 1) + 1) ((2 * k + 1) - 1) (ne_eqb ((2 * k + 1) % 2) 0 (λ h. omega arith)) ∙ omega arith

length_above : (o : Overlay) (passes : ℕ → Bool) (k : ℕ) (e : Seg) → slice_get o.edges k ≡ Some e → side_length o passes (2 * k) ≡ cond (passes (region_at o (2 * k + 1))) (edge_length e) 0
length_above o passes k e at =
    (λ i. cond (passes (region_at o (across-even k i))) (length_of (slice_get o.edges (edge_number k i))) 0) ∙ ap (λ found. cond (passes (region_at o (2 * k + 1))) (length_of found) 0) at

length_below : (o : Overlay) (passes : ℕ → Bool) (k : ℕ) (e : Seg) → slice_get o.edges k ≡ Some e → side_length o passes (2 * k + 1) ≡ cond (passes (region_at o (2 * k))) (edge_length e) 0
length_below o passes k e at =
    (λ i. cond (passes (region_at o (across-odd k i))) (length_of (slice_get o.edges (edge_number_odd k i))) 0) ∙ ap (λ found. cond (passes (region_at o (2 * k))) (length_of found) 0) at

border_splits : (a b pa pb : Bool) (n : ℕ) → (a ≡ true → b ≡ true → ⊥) → cond ((a && pb) || (b && pa)) n 0 ≡ cond a (cond pb n 0) 0 + cond b (cond pa n 0) 0
border_splits true true pa pb n apart = absurd (apart refl refl)
border_splits true false pa true n apart = omega arith
border_splits true false pa false n apart = omega arith
border_splits false true true pb n apart = omega arith
border_splits false true false pb n apart = omega arith
border_splits false false pa pb n apart = omega arith

module _ (l : Labelled) (o : Overlay) (overlay : IsOverlay l o) (sided : AreSided (sided_of l o.numbers)) (r : ℕ) (passes : ℕ → Bool) where
  abbrev length_in : ℕ → ℕ
  length_in n = cond (region_at o n == r) (side_length o passes n) 0

  length_splits : IsSplitLength (λ p. cond (is_border o r passes p.0) (edge_length p.1) 0) length_in 0 o.edges
  length_splits j k e same at =
      let here : slice_get o.edges k ≡ Some e = ap (λ i. slice_get o.edges i) (omega (arith, same)) ∙ at in
      let inside : k < length l.edges = (let h = slice_get_within o.edges k e here in omega (arith, ap length overlay.edges)) in
      border_splits (region_at o (2 * k) == r) (region_at o (2 * k + 1) == r) (passes (region_at o (2 * k))) (passes (region_at o (2 * k + 1))) (edge_length e)
      (λ h g. labels_apart (sided_of l o.numbers) sided o overlay k inside (ap (label_of o) (eqb-true (region_at o (2 * k)) r h ∙ sym (eqb-true (region_at o (2 * k + 1)) r g))))
      ∙ (λ i. cond (region_at o (2 * k) == r) (sym (length_above o passes k e here) i) 0 + cond (region_at o (2 * k + 1) == r) (sym (length_below o passes k e here) i) 0)

  -- the border of the region is the length of its sides that count
  pub border_is : (sides : List ℕ) → sides ≡ places_of o.numbers r → sum_by (side_length o passes) sides ≡ border_with o r passes
  border_is sides are =
      let all = by_sides (λ p. cond (is_border o r passes p.0) (edge_length p.1) 0) length_in 0 o.edges length_splits in
      let start : sum_by length_in (numbers_below (2 * 0)) ≡ 0 = refl in
      let long : length o.numbers ≡ 2 * (0 + length o.edges) = omega (arith, overlay.numbered.count) in
      let chosen = ap (λ xs. sum_by (side_length o passes) xs) are ∙ sum-filter (λ n. region_at o n == r) (side_length o passes) (numbers_below (length o.numbers)) ∙ ap (λ n. sum_by length_in (numbers_below n)) long in
      chosen ∙ omega (arith, all, start)

pub border_more : (f : ℕ → ℕ) (sides : List ℕ) (i border more : ℕ) → i < length sides → border ≡ sum_by f (take i sides) → more ≡ f (get_or sides i 0) → border + more ≡ sum_by f (take (i + 1) sides)
border_more f sides i border more inside so_far is = (λ t. so_far t + is t) ∙ sym (sum_by_more f sides i 0 inside)

-- what a side adds whose region on the other side passes, and what another one does
pub side_counts : (o : Overlay) (passes : ℕ → Bool) (n long : ℕ) (edges : List Seg) → o.edges ≡ edges → passes (region_at o (across n)) ≡ true → long ≡ length_of (slice_get edges (n / 2)) → long ≡ side_length o passes n
side_counts o passes n long edges same h is =
    is ∙ ap (λ es. length_of (slice_get es (n / 2))) (sym same) ∙ sym (cond-true (passes (region_at o (across n))) (length_of (slice_get o.edges (n / 2))) 0 h)

pub side_skipped : (o : Overlay) (passes : ℕ → Bool) (n : ℕ) → passes (region_at o (across n)) ≡ false → 0 ≡ side_length o passes n
side_skipped o passes n h = sym (cond-false (passes (region_at o (across n))) (length_of (slice_get o.edges (n / 2))) 0 h)
