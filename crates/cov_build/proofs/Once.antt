-- Ways that stand once: rings and polygons that have no way in common differ, and those that are sorted ascend.
use mathlib.Core.List.{List, [], ◌∷◌}
use Rattle.std.proofs.Common.{◌≡◌, refl, sym, ◌∙◌, ap, subst, ℕ, zero, suc, ◌+◌, ◌<◌, ◌≤◌, Bool, true, false, true≢false, cond, ◌&&◌, length, map, flat_map, drop, get_or, sum_by, All, AllPairs, Contains, Some, slice_get, IsTrue, Ordering, inl, inr, arith}
use Rattle.std.specs.Cmp.{IsStrictWeakOrder}
use Rattle.std.specs.List.Sorted.{IsPermutation, IsSortedBy}
use Rattle.std.specs.Ordering.{is_lt, is_le, ordering_reverse}
use Rattle.std.specs.declared.cmp.Ordering.TheVariants.{Less, Equal, Greater}
use Rattle.std.proofs.lemmas.Bool.{cases_eq, cases_lt, and_parts}
use Rattle.std.proofs.lemmas.List.Sums.{sum_by-append, sum_by-cons, get_or-le-sum_by}
use Rattle.std.proofs.lemmas.List.Sorted.{sorted_far, sum_by-IsPermutation}
use Rattle.std.proofs.lemmas.Option.{slice_get_within, get_or_from_slice_get}
use Rattle.cov_types.specs.declared.coord.Coord.{Coord}
use Rattle.cov_types.specs.Coord.{points_cmp, is_same_coord}
use Rattle.cov_types.specs.Coverage.{IsPolyFormed}
use Rattle.cov_types.specs.Uses.{sides}
use Rattle.cov_types.proofs.Equal.{Decides-same_coords}
use Rattle.arrangement.proofs.PointOrders.{points_same, points_total}
use Rattle.crossing_laws.proofs.Lists.{contains_here, contains_there, contains-map}
use Rattle.region_laws.proofs.Balance.{distinct_first, distinct_rest}
use Rattle.sector_laws.specs.Sector.{AreDistinct}
use Rattle.sector_laws.proofs.Angles.{true_or_false}
use Rattle.sound_polygons.specs.Cleaned.{shell_of}
use Rattle.cov_build.specs.Boundaries.{way_round, boundary_edges}
use Rattle.cov_build.specs.Members.{AreApart}
use Rattle.cov_build.specs.Rings.{AreBoundaryRings}
use Rattle.cov_build.specs.declared.boundary.BoundaryEdge.{BoundaryEdge}
use Rattle.cov_build.proofs.MemberLists.{from_map, one_way}
use Rattle.cov_build.proofs.RoundFacts.{in_flat, in_sides}

-- ---- sums over a list

module _ {X : Type 0} (f : X → ℕ) where
  none_sum : (xs : List X) → ((x : X) → Contains xs x → f x ≡ 0) → sum_by f xs ≡ 0
  none_sum [] none = refl
  none_sum (x ∷ xs) none =
      let split = sum_by-cons f x xs in
      let first = none x (contains_here x xs) in
      let rest = none_sum xs (λ y c. none y (contains_there x y xs c)) in
      omega (arith, split, first, rest)

  some_sum : (xs : List X) (x : X) → Contains xs x → f x ≤ sum_by f xs
  some_sum xs x c = subst (λ y. f y ≤ sum_by f xs) c.2 (get_or-le-sum_by f xs c.0 x c.1)

  two_le : (xs : List X) (i j : ℕ) (d : X) → i < j → j < length xs → f (get_or xs i d) + f (get_or xs j d) ≤ sum_by f xs
  two_le [] i j d less within = absurd (omega (arith, less, within))
  two_le (x ∷ xs) i zero d less within = absurd (omega (arith, less))
  two_le (x ∷ xs) zero (suc j) d less within = (let split = sum_by-cons f x xs in let rest = get_or-le-sum_by f xs j d (omega (arith, within)) in omega (arith, split, rest))
  two_le (x ∷ xs) (suc i) (suc j) d less within = (let split = sum_by-cons f x xs in let rest = two_le xs i j d (omega (arith, less)) (omega (arith, within)) in omega (arith, split, rest))

flat_sum : {X Y : Type 0} (f : Y → ℕ) (g : X → List Y) (xs : List X) → sum_by f (flat_map g xs) ≡ sum_by (λ x. sum_by f (g x)) xs
flat_sum f g [] = refl
flat_sum f g (x ∷ xs) =
    let split = sum_by-append f (g x) (flat_map g xs) in
    let cons = sum_by-cons (λ y. sum_by f (g y)) x xs in
    let rest = flat_sum f g xs in
    omega (arith, split, cons, rest)

-- ---- how often a way stands in a list

pub is_way : Coord × Coord → Coord × Coord → Bool
is_way w v = is_same_coord w.0 v.0 && is_same_coord w.1 v.1

way_is : (w v : Coord × Coord) → is_way w v ≡ true → w ≡ v
unfolding is_way
way_is w v h =
    let both = and_parts (is_same_coord w.0 v.0) (is_same_coord w.1 v.1) h in
    let first : w.0 ≡ v.0 = (Decides-same_coords w.0 v.0).0 both.0 in
    let second : w.1 ≡ v.1 = (Decides-same_coords w.1 v.1).0 both.1 in
    λ i. (first i, second i)

is_itself : (w : Coord × Coord) → is_way w w ≡ true
unfolding is_way
is_itself w = (let first = (Decides-same_coords w.0 w.0).1 refl in let second = (Decides-same_coords w.1 w.1).1 refl in λ i. first i && second i)

pub one_for : Coord × Coord → Coord × Coord → ℕ
one_for w v = cond (is_way w v) 1 0

pub ways_of : Coord × Coord → List (Coord × Coord) → ℕ
ways_of w ways = sum_by (one_for w) ways

one_of_way : (w v : Coord × Coord) → is_way w v ≡ true → one_for w v ≡ 1
unfolding one_for
one_of_way w v h = ap (λ t. cond t 1 0) h

none_of_way : (w v : Coord × Coord) → is_way w v ≡ false → one_for w v ≡ 0
unfolding one_for
none_of_way w v h = ap (λ t. cond t 1 0) h

stands : (w : Coord × Coord) (ways : List (Coord × Coord)) → Contains ways w → 1 ≤ ways_of w ways
unfolding ways_of
stands w ways c = (let least = some_sum (one_for w) ways w c in let one = one_of_way w w (is_itself w) in omega (arith, least, one))

from_stands : (w : Coord × Coord) (ways : List (Coord × Coord)) → 1 ≤ ways_of w ways → Contains ways w
unfolding ways_of
from_stands w [] some = absurd (omega (arith, some))
from_stands w (v ∷ ways) some = elim (true_or_false (is_way w v)) [
  | inl same ↦ subst (Contains (v ∷ ways)) (sym (way_is w v same)) (contains_here v ways)
  | inr other ↦ contains_there v w ways (from_stands w ways (let split = sum_by-cons (one_for w) v ways in let none = none_of_way w v other in omega (arith, some, split, none)))
]

-- each way round a boundary stands once
round_once : (boundary : List BoundaryEdge) → AreDistinct (boundary_edges boundary) → (w : Coord × Coord) → ways_of w (map way_round boundary) ≤ 1
unfolding ways_of
round_once [] distinct w = omega arith
round_once (b ∷ boundary) distinct w = elim (true_or_false (is_way w (way_round b))) [
  | inl same ↦ (
      let split = sum_by-cons (one_for w) (way_round b) (map way_round boundary) in
      let one = one_of_way w (way_round b) same in
      let rest = none_sum (one_for w) (map way_round boundary) (λ v c. elim (true_or_false (is_way w v)) [
        | inl again ↦ absurd (
            let (a, (in_rest, is)) = from_map way_round boundary v c in
            let twice : a ≡ b = one_way a b (is ∙ sym (way_is w v again) ∙ way_is w (way_round b) same) in
            distinct_first b.edge (boundary_edges boundary) distinct (subst (Contains (boundary_edges boundary)) (ap (λ (x : BoundaryEdge). x.edge) twice) (contains-map (λ (x : BoundaryEdge). x.edge) boundary a in_rest))
            )
        | inr other ↦ none_of_way w v other
      ]) in
      omega (arith, split, one, rest)
      )
  | inr other ↦ (
      let split = sum_by-cons (one_for w) (way_round b) (map way_round boundary) in
      let none = none_of_way w (way_round b) other in
      let rest = round_once boundary (distinct_rest b.edge (boundary_edges boundary) distinct) w in
      omega (arith, split, none, rest)
      )
]

-- and so in rings that go along them
rings_once : (boundary : List BoundaryEdge) → AreDistinct (boundary_edges boundary) → (rings : List (List Coord)) → AreBoundaryRings boundary rings → (w : Coord × Coord) → ways_of w (flat_map sides rings) ≤ 1
unfolding ways_of
rings_once boundary distinct rings are w =
    let same = sum_by-IsPermutation (one_for w) (flat_map sides rings) (map way_round boundary) are.sides in
    let once = round_once boundary distinct w in
    omega (arith, same, once)

first_way : (points : List Coord) → 0 < length points → (w : Coord × Coord) × Contains (sides points) w
first_way [] some = absurd (omega (arith, some))
first_way (p ∷ points) some = (let (q, side) = in_sides (p ∷ points) p (contains_here p points) in ((p, q), side))

-- so no two rings are alike
rings_differ : (boundary : List BoundaryEdge) → AreDistinct (boundary_edges boundary) → (rings : List (List Coord)) → AreBoundaryRings boundary rings → AllPairs (λ g h. g ≡ h → ⊥) rings
unfolding ways_of
rings_differ boundary distinct rings are i j d before within = λ same.
    let g = get_or rings i d in
    let (w, in_g) = first_way g (are.some i d (omega (arith, before, within))) in
    let one = stands w (sides g) in_g in
    let other = stands w (sides (get_or rings j d)) (subst (λ h. Contains (sides h) w) same in_g) in
    let two = two_le (λ points. sum_by (one_for w) (sides points)) rings i j d before within in
    let all = flat_sum (one_for w) sides rings in
    let once = rings_once boundary distinct rings are w in
    omega (arith, one, other, two, all, once)

drop-one : {X : Type 0} (x : X) (xs : List X) → drop 1 (x ∷ xs) ≡ xs
drop-one x [] = refl
drop-one x (y ∷ ys) = refl

drop_pairs : {X : Type 0} (R : X → X → Type 0) (xs : List X) → AllPairs R xs → AllPairs R (drop 1 xs)
drop_pairs R [] all = λ i j d before within. absurd (omega (arith, within))
drop_pairs R (x ∷ xs) all = subst (AllPairs R) (sym (drop-one x xs)) (λ i j d before within. all (suc i) (suc j) d (omega (arith, before)) (omega (arith, within)))

pub holes_differ : (boundary : List BoundaryEdge) → AreDistinct (boundary_edges boundary) → (rings : List (List Coord)) → AreBoundaryRings boundary rings → AllPairs (λ g h. g ≡ h → ⊥) (drop 1 rings)
holes_differ boundary distinct rings are = drop_pairs (λ g h. g ≡ h → ⊥) rings (rings_differ boundary distinct rings are)

-- ---- lists that are sorted and have no two alike

le_of_not_lt : (r : Ordering) → is_lt (ordering_reverse r) ≡ false → IsTrue (is_le r)
le_of_not_lt Less h = refl
le_of_not_lt Equal h = refl
le_of_not_lt Greater h = absurd (true≢false h)

less_or_same : (x y : List Coord) → is_lt (points_cmp y x) ≡ false → (x ≡ y → ⊥) → IsTrue (is_lt (points_cmp x y))
less_or_same x y not_less apart = elim (true_or_false (is_lt (points_cmp x y))) [
  | inl less ↦ less
  | inr not_before ↦ absurd (apart (points_same x y (le_of_not_lt (points_cmp x y) (ap is_lt (sym (points_total.antisymm y x)) ∙ not_less)) (le_of_not_lt (points_cmp y x) (ap is_lt (sym (points_total.antisymm x y)) ∙ not_before))))
]

pub sorted_strict : {X : Type 0} (key : X → List Coord) → IsStrictWeakOrder (λ (x y : X). is_lt (points_cmp (key x) (key y))) → (xs : List X) → IsSortedBy (λ x y. is_lt (points_cmp (key x) (key y))) xs
    → AllPairs (λ x y. key x ≡ key y → ⊥) xs → AllPairs (λ x y. IsTrue (is_lt (points_cmp (key x) (key y)))) xs
sorted_strict key weak xs sorted apart i j d before within =
    less_or_same (key (get_or xs i d)) (key (get_or xs j d)) (sorted_far (λ x y. is_lt (points_cmp (key x) (key y))) weak xs sorted i j d (omega (arith, before)) within) (apart i j d before within)

-- ---- polygons that have no way in common, in another order

abbrev pub poly_ways : Coord × Coord → List (List Coord) → ℕ
poly_ways w rings = ways_of w (flat_map sides rings)

polys_once : (polys : List (List (List Coord))) → ((rings : List (List Coord)) → Contains polys rings → (w : Coord × Coord) → poly_ways w rings ≤ 1) → AllPairs AreApart polys → (w : Coord × Coord) → sum_by (poly_ways w) polys ≤ 1
polys_once [] each apart w = omega arith
polys_once (x ∷ polys) each apart w = elim (cases_eq (poly_ways w x) 0) [
  | inl none ↦ (
      let split = sum_by-cons (poly_ways w) x polys in
      let rest = polys_once polys (λ rings c. each rings (contains_there x rings polys c)) (λ i j d before within. apart (suc i) (suc j) d (omega (arith, before)) (omega (arith, within))) w in
      omega (arith, none, split, rest)
      )
  | inr some ↦ (
      let split = sum_by-cons (poly_ways w) x polys in
      let first = each x (contains_here x polys) w in
      let in_x = from_stands w (flat_map sides x) (omega (arith, some)) in
      let rest = none_sum (poly_ways w) polys (λ rings c. elim (cases_eq (poly_ways w rings) 0) [
        | inl none ↦ none
        | inr more ↦ absurd (
            let below = c.1 in
            subst (λ y. AreApart x y) c.2 (apart 0 (suc c.0) rings (omega arith) (omega (arith, below))) w in_x (from_stands w (flat_map sides rings) (omega (arith, more)))
            )
      ]) in
      omega (arith, split, first, rest)
      )
]

shell_way : (rings : List (List Coord)) → 1 ≤ length rings → (w : Coord × Coord) → Contains (sides (shell_of rings)) w → Contains (flat_map sides rings) w
shell_way [] some w c = absurd (omega (arith, some))
shell_way (shell ∷ holes) some w c = in_flat sides (shell ∷ holes) shell w (contains_here shell holes) c

shell_some : (rings : List (List Coord)) → IsPolyFormed rings → 0 < length (shell_of rings)
shell_some [] formed = absurd (let some = formed.0 in omega (arith, some))
shell_some (shell ∷ holes) formed = (let long = formed.1 0 shell (omega arith) in omega (arith, long))

module _ (polys : List (List (List Coord))) (once : (w : Coord × Coord) → sum_by (poly_ways w) polys ≤ 1) where
  pub shells_differ : All IsPolyFormed polys → AllPairs (λ a b. shell_of a ≡ shell_of b → ⊥) polys
  shells_differ formed i j d before within = λ same.
      let a = get_or polys i d in
      let b = get_or polys j d in
      let formed_a = formed i d (omega (arith, before, within)) in
      let formed_b = formed j d within in
      let (w, in_a) = first_way (shell_of a) (shell_some a formed_a) in
      let one = stands w (flat_map sides a) (shell_way a formed_a.0 w in_a) in
      let other = stands w (flat_map sides b) (shell_way b formed_b.0 w (subst (λ g. Contains (sides g) w) same in_a)) in
      let two = two_le (poly_ways w) polys i j d before within in
      let all = once w in
      omega (arith, one, other, two, all)

  meet_less : (m n : ℕ) (a b : List (List Coord)) → m < n → slice_get polys m ≡ Some a → slice_get polys n ≡ Some b → (w : Coord × Coord) → Contains (flat_map sides a) w → Contains (flat_map sides b) w → ⊥
  meet_less m n a b less at_m at_n w in_a in_b =
      let one = stands w (flat_map sides (get_or polys m a)) (subst (λ x. Contains (flat_map sides x) w) (sym (get_or_from_slice_get polys m a a at_m)) in_a) in
      let other = stands w (flat_map sides (get_or polys n a)) (subst (λ x. Contains (flat_map sides x) w) (sym (get_or_from_slice_get polys n b a at_n)) in_b) in
      let two = two_le (poly_ways w) polys m n a less (slice_get_within polys n b at_n) in
      let all = once w in
      omega (arith, one, other, two, all)

  pub meet_one : (m n : ℕ) (a b : List (List Coord)) → slice_get polys m ≡ Some a → slice_get polys n ≡ Some b → (w : Coord × Coord) → Contains (flat_map sides a) w → Contains (flat_map sides b) w → m ≡ n
  meet_one m n a b at_m at_n w in_a in_b = elim (cases_eq m n) [
    | inl same ↦ same
    | inr apart ↦ elim (cases_lt m n) [
      | inl less ↦ absurd (meet_less m n a b less at_m at_n w in_a in_b)
      | inr more ↦ absurd (meet_less n m b a (omega (arith, apart, more)) at_n at_m w in_b in_a)
    ]
  ]

pub some_way : (rings : List (List Coord)) → IsPolyFormed rings → (w : Coord × Coord) × Contains (flat_map sides rings) w
some_way rings formed = (let (w, c) = first_way (shell_of rings) (shell_some rings formed) in (w, shell_way rings formed.0 w c))

pub sorted_once : (before polys : List (List (List Coord))) → IsPermutation before polys → AllPairs AreApart before
    → ((rings : List (List Coord)) → Contains before rings → (boundary : List BoundaryEdge) × (AreDistinct (boundary_edges boundary) × AreBoundaryRings boundary rings))
    → (w : Coord × Coord) → sum_by (poly_ways w) polys ≤ 1
sorted_once before polys same apart each w =
    let once = polys_once before (λ rings c v. (let (boundary, (distinct, are)) = each rings c in rings_once boundary distinct rings are v)) apart w in
    let moved = sum_by-IsPermutation (poly_ways w) before polys same in
    omega (arith, once, moved)
