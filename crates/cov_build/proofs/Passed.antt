-- The half-edges that have a part on their right, walk by walk, and the rings back along them.
use mathlib.Core.List.{List, [], ◌∷◌, ◌++◌}
use Rattle.std.proofs.Common.{◌≡◌, refl, sym, ◌∙◌, ap, subst, ℕ, zero, suc, ◌+◌, ◌*◌, ◌<◌, ◌≤◌, ◌==◌, Bool, true, false, true≢false, length, map, flat_map, replicate, Contains, Some, slice_get, inl, inr, arith}
use Rattle.std.specs.List.Sorted.{IsPermutation}
use Rattle.std.proofs.lemmas.Bool.{cases_eq, eq-eqb, ne_eqb}
use Rattle.std.proofs.lemmas.List.{length-map, map-append}
use Rattle.std.proofs.lemmas.List.Sums.{sum_by-append, sum_by-cons}
use Rattle.std.proofs.lemmas.List.Concat.{flat_map-append}
use Rattle.std.proofs.lemmas.List.Elements.{All-push}
use Rattle.std.proofs.lemmas.List.Sorted.{IsPermutation-refl, IsPermutation-sym, IsPermutation-trans, IsPermutation-cons, IsPermutation-middle, IsPermutation-append, IsPermutation-map, length_permutation, sum_by-IsPermutation, All-permutation}
use Rattle.std.proofs.lemmas.Option.{none-some, same_Some, slice_get_within}
use Rattle.cov_types.specs.declared.coord.Coord.{Coord}
use Rattle.cov_types.specs.declared.seg.Seg.{Seg}
use Rattle.cov_types.specs.Uses.{sides}
use Rattle.crossing_laws.proofs.Lists.{contains_here, contains_there}
use Rattle.region_laws.proofs.Balance.{first_or_later}
use Rattle.sector_laws.specs.Sector.{half_edges}
use Rattle.sector_laws.proofs.Angles.{true_or_false}
use Rattle.sector_laws.proofs.Numbers.{forwards_number, back_number}
use Rattle.sound_polygons.specs.Cleaned.{BeginsAtLeast}
use Rattle.cov_build.specs.Boundaries.{way_round, boundary_edges}
use Rattle.cov_build.specs.Rings.{outside_of, IsOutside, IsBoundary, IsRingBack, AreRingsBack, AreClosedRings, AreBoundaryRings, AreHolesSorted, IsBoundaryPolygon}
use Rattle.cov_build.specs.Walks.{first_or, LeadsByNext, is_visited, visit_of, occurrences, AreVisitFlags, IsWalkFrom, back_along, ways_back}
use Rattle.cov_build.specs.declared.boundary.BoundaryEdge.{BoundaryEdge}
use Rattle.cov_build.proofs.FlatLists.{flat-permutation}
use Rattle.cov_build.proofs.Walking.{bit}

-- ---- how often a number stands in a list

occurrences-cons : (n m : ℕ) (ms : List ℕ) → occurrences n (m ∷ ms) ≡ bit (m == n) + occurrences n ms
occurrences-cons n m ms = sum_by-cons (λ k. bit (k == n)) m ms

occurrences-append : (n : ℕ) (ms ks : List ℕ) → occurrences n (ms ++ ks) ≡ occurrences n ms + occurrences n ks
occurrences-append n ms ks = sum_by-append (λ k. bit (k == n)) ms ks

bit_small : (b : Bool) → bit b < 2
bit_small true = omega arith
bit_small false = omega arith

here_once : (n m : ℕ) → m ≡ n → bit (m == n) ≡ 1
here_once n m same = ap bit (eq-eqb m n same)

elsewhere : (n m : ℕ) → (m ≡ n → ⊥) → bit (m == n) ≡ 0
elsewhere n m apart = ap bit (ne_eqb m n apart)

-- a number that stands there is an element, and the other way round
has_occurrence : (n : ℕ) (ms : List ℕ) → 0 < occurrences n ms → Contains ms n
has_occurrence n [] some = absurd (omega (arith, some))
has_occurrence n (m ∷ ms) some = elim (cases_eq m n) [
  | inl same ↦ subst (Contains (m ∷ ms)) same (contains_here m ms)
  | inr apart ↦ contains_there m n ms (has_occurrence n ms (let first = elsewhere n m apart in let both = occurrences-cons n m ms in omega (arith, first, both, some)))
]

occurrence_has : (n : ℕ) (ms : List ℕ) → Contains ms n → 0 < occurrences n ms
occurrence_has n [] c = absurd (omega (arith, c.1))
occurrence_has n (m ∷ ms) c = (let both = occurrences-cons n m ms in elim (first_or_later m ms n c) [
  | inl here ↦ (let once = here_once n m here in omega (arith, once, both))
  | inr later ↦ (let rest = occurrence_has n ms later in omega (arith, rest, both))
])

-- the list without the element, which comes to the front
taken : (n : ℕ) (ms : List ℕ) → Contains ms n → (rest : List ℕ) × IsPermutation ms (n ∷ rest)
taken n [] c = absurd (omega (arith, c.1))
taken n (m ∷ ms) c = elim (first_or_later m ms n c) [
  | inl here ↦ (ms, subst (λ k. IsPermutation (m ∷ ms) (k ∷ ms)) here (IsPermutation-refl (m ∷ ms)))
  | inr later ↦ (
      let (rest, same) = taken n ms later in
      (m ∷ rest, IsPermutation-trans (m ∷ ms) (m ∷ n ∷ rest) (n ∷ m ∷ rest) (IsPermutation-cons m ms (n ∷ rest) same) (IsPermutation-middle (m ∷ []) n rest))
      )
]

occurrences-permutation : (n : ℕ) (ms ks : List ℕ) → IsPermutation ms ks → occurrences n ks ≡ occurrences n ms
occurrences-permutation n ms ks same = sum_by-IsPermutation (λ k. bit (k == n)) ms ks same

-- lists in which each number stands as often are one list in another order
pub same_occurrences : (ms ks : List ℕ) → ((n : ℕ) → occurrences n ms ≡ occurrences n ks) → IsPermutation ms ks
same_occurrences [] [] same = IsPermutation-refl []
same_occurrences [] (k ∷ ks) same = absurd (let first = here_once k k refl in let both = occurrences-cons k k ks in let none = same k in omega (arith, first, both, none))
same_occurrences (m ∷ ms) ks same =
    let first = here_once m m refl in
    let both = occurrences-cons m m ms in
    let equal = same m in
    let (rest, out) = taken m ks (has_occurrence m ks (omega (arith, first, both, equal))) in
    IsPermutation-trans (m ∷ ms) (m ∷ rest) ks
    (IsPermutation-cons m ms rest (same_occurrences ms rest (λ n. (let here = occurrences-cons n m ms in let there = occurrences-cons n m rest in let moved = occurrences-permutation n ks (m ∷ rest) out in let all = same n in omega (arith, here, there, moved, all)))))
    (IsPermutation-sym ks (m ∷ rest) out)

-- ---- the half-edges that have the part on their right

outsides : ℕ → List BoundaryEdge → List ℕ
outsides f [] = []
outsides f (b ∷ bs) = outside_of f b.above ∷ outsides (suc f) bs

outside_low : (f : ℕ) (b : Bool) → (2 * f ≤ outside_of f b) × (outside_of f b ≤ 2 * f + 1)
outside_low f true = (omega arith, omega arith)
outside_low f false = (omega arith, omega arith)

outsides_above : (f : ℕ) (bs : List BoundaryEdge) (n : ℕ) → n < 2 * f → occurrences n (outsides f bs) ≡ 0
unfolding outsides
outsides_above f [] n low = refl
outsides_above f (b ∷ bs) n low =
    let first = elsewhere n (outside_of f b.above) (λ same. (let bounds = (outside_low f b.above).0 in omega (arith, bounds, same, low))) in
    let rest = outsides_above (suc f) bs n (omega (arith, low)) in
    let both = occurrences-cons n (outside_of f b.above) (outsides (suc f) bs) in
    omega (arith, first, rest, both)

-- each stands there once
outsides_once : (f : ℕ) (bs : List BoundaryEdge) (k : ℕ) (b : BoundaryEdge) → slice_get bs k ≡ Some b → occurrences (outside_of (f + k) b.above) (outsides f bs) ≡ 1
unfolding outsides
outsides_once f [] k b at = absurd (none-some b at)
outsides_once f (x ∷ bs) zero b at =
    let same : outside_of f x.above ≡ outside_of (f + 0) b.above = (λ i. outside_of (sum_zero i) (same_Some x b at i).above) in
    let first = here_once (outside_of (f + 0) b.above) (outside_of f x.above) same in
    let rest = outsides_above (suc f) bs (outside_of (f + 0) b.above) (let bounds = (outside_low (f + 0) b.above).1 in omega (arith, bounds)) in
    let both = occurrences-cons (outside_of (f + 0) b.above) (outside_of f x.above) (outsides (suc f) bs) in
    omega (arith, first, rest, both)
  where
    sum_zero : f ≡ f + 0
    sum_zero = omega arith
outsides_once f (x ∷ bs) (suc k) b at =
    let shift : suc f + k ≡ f + suc k = omega arith in
    let rest : occurrences (outside_of (f + suc k) b.above) (outsides (suc f) bs) ≡ 1 = subst (λ m. occurrences (outside_of m b.above) (outsides (suc f) bs) ≡ 1) shift (outsides_once (suc f) bs k b at) in
    let first = elsewhere (outside_of (f + suc k) b.above) (outside_of f x.above)
    (λ same. (let high = (outside_low f x.above).1 in let low = (outside_low (f + suc k) b.above).0 in omega (arith, high, low, same))) in
    let both = occurrences-cons (outside_of (f + suc k) b.above) (outside_of f x.above) (outsides (suc f) bs) in
    omega (arith, first, rest, both)

-- and no other does
outsides_place : (f : ℕ) (bs : List BoundaryEdge) (n : ℕ) → 0 < occurrences n (outsides f bs) → (k : ℕ) × ((b : BoundaryEdge) × ((slice_get bs k ≡ Some b) × (n ≡ outside_of (f + k) b.above)))
unfolding outsides
outsides_place f [] n some = absurd (omega (arith, some))
outsides_place f (x ∷ bs) n some = elim (cases_eq (outside_of f x.above) n) [
  | inl here ↦ (0, (x, (refl, sym here ∙ ap (λ m. outside_of m x.above) (let same : f ≡ f + 0 = omega arith in same))))
  | inr apart ↦ (
      let first = elsewhere n (outside_of f x.above) apart in
      let both = occurrences-cons n (outside_of f x.above) (outsides (suc f) bs) in
      let (k, (b, (at, is))) = outsides_place (suc f) bs n (omega (arith, first, both, some)) in
      (suc k, (b, (at, is ∙ ap (λ m. outside_of m b.above) (let same : suc f + k ≡ f + suc k = omega arith in same))))
      )
]

way_back : (edges : List Seg) (f : ℕ) (b : BoundaryEdge) → slice_get edges f ≡ Some b.edge → back_along (slice_get (half_edges edges) (outside_of f b.above)) ≡ way_round b
way_back edges f b at = by b.above
  where
    by : (t : Bool) → back_along (slice_get (half_edges edges) (outside_of f t)) ≡ way_round (record { edge = b.edge; above = t })
    by true = ap back_along (back_number edges f b.edge at)
    by false = ap back_along (forwards_number edges f b.edge at)

ways_are : (edges : List Seg) (f : ℕ) (bs : List BoundaryEdge) → ((k : ℕ) (b : BoundaryEdge) → slice_get bs k ≡ Some b → slice_get edges (f + k) ≡ Some b.edge) → ways_back edges (outsides f bs) ≡ map way_round bs
unfolding outsides
ways_are edges f [] at = refl
ways_are edges f (b ∷ bs) at =
    let here : slice_get edges f ≡ Some b.edge = ap (slice_get edges) (let same : f ≡ f + 0 = omega arith in same) ∙ at 0 b refl in
    (λ i. way_back edges f b here i ∷ ways_are edges (suc f) bs (λ k x is. ap (slice_get edges) (let same : suc f + k ≡ f + suc k = omega arith in same) ∙ at (suc k) x is) i)

pub edge_at : (bs : List BoundaryEdge) (k : ℕ) (b : BoundaryEdge) → slice_get bs k ≡ Some b → slice_get (boundary_edges bs) k ≡ Some b.edge
edge_at [] k b at = absurd (none-some b at)
edge_at (x ∷ bs) zero b at = ap (λ (y : BoundaryEdge). Some y.edge) (same_Some x b at)
edge_at (x ∷ bs) (suc k) b at = edge_at bs k b at

-- ---- walk by walk

-- the outside half-edges of the first edges were visited, and no other but such: those that the rings go back along
pub record IsWalkedTo (boundary : List BoundaryEdge) (first : ℕ) (seen : List Bool) (rings : List (List Coord)) : Type 0 where
  pub passed : List ℕ
  pub flags : AreVisitFlags (boundary_edges boundary) seen
  pub each : (n : ℕ) → occurrences n passed ≡ visit_of seen n
  pub outside : (n : ℕ) → is_visited seen n ≡ true → IsOutside boundary n
  pub done : (k : ℕ) (b : BoundaryEdge) → k < first → slice_get boundary k ≡ Some b → is_visited seen (outside_of k b.above) ≡ true
  pub listed : AreRingsBack (boundary_edges boundary) passed rings

marked_by : (seen : List Bool) (n : ℕ) → 0 < visit_of seen n → is_visited seen n ≡ true
marked_by seen n some = elim (true_or_false (is_visited seen n)) [ inl is ↦ is | inr not ↦ absurd (let none = ap bit not in omega (arith, none, some)) ]

marked_one : (seen : List Bool) (n : ℕ) → is_visited seen n ≡ true → visit_of seen n ≡ 1
marked_one seen n is = ap bit is

all_outside : (boundary : List BoundaryEdge) → IsBoundary boundary → (way : List ℕ) (m : ℕ) → LeadsByNext (boundary_edges boundary) way m → IsOutside boundary (first_or m way) → (n : ℕ) → Contains way n → IsOutside boundary n
all_outside boundary is [] m leads first n c = absurd (omega (arith, c.1))
all_outside boundary is (k ∷ way) m leads first n c = elim (first_or_later k way n c) [
  | inl here ↦ subst (IsOutside boundary) here first
  | inr later ↦ all_outside boundary is way m leads.1 (is.kept k (first_or m way) leads.0 first) n later
]

first_is : (way : List ℕ) (m : ℕ) → 0 < length way → first_or m way ≡ first_or 0 way
first_is [] m some = absurd (omega arith)
first_is (n ∷ way) m some = refl

first_among : (way : List ℕ) → 0 < length way → Contains way (first_or 0 way)
first_among [] some = absurd (omega arith)
first_among (n ∷ way) some = contains_here n way

module _ (boundary : List BoundaryEdge) (is : IsBoundary boundary) where
  pub walked_none : (seen : List Bool) → length seen ≡ 2 * length (boundary_edges boundary) → ((n : ℕ) → is_visited seen n ≡ false) → (rings : List (List Coord)) → rings ≡ [] → IsWalkedTo boundary 0 seen rings
  walked_none seen long free rings none = subst (IsWalkedTo boundary 0 seen) (sym none) (record {
    passed = [];
    flags = record { count = long; along = λ n m next. free n ∙ sym (free m) };
    each = λ n. sym (ap bit (free n));
    outside = λ n marked. absurd (true≢false (sym marked ∙ free n));
    done = λ k b below. absurd (omega (arith, below));
    listed = record { sides = IsPermutation-refl []; least = λ k d below. absurd (omega (arith, below)); some = λ k d below. absurd (omega (arith, below)) };
  })

  module _ (k : ℕ) (b : BoundaryEdge) (at : slice_get boundary k ≡ Some b) (seen : List Bool) (rings : List (List Coord)) (so_far : IsWalkedTo boundary k seen rings) where
    pub walked_same : is_visited seen (outside_of k b.above) ≡ true → IsWalkedTo boundary (k + 1) seen rings
    walked_same marked = record {
      passed = so_far.passed;
      flags = so_far.flags;
      each = so_far.each;
      outside = so_far.outside;
      done = λ j x below at_j. elim (cases_eq j k) [
        | inl here ↦ subst (λ y. is_visited seen (outside_of j y.above) ≡ true) (same_Some b x (sym at ∙ ap (slice_get boundary) (sym here) ∙ at_j)) (ap (λ m. is_visited seen (outside_of m b.above)) here ∙ marked)
        | inr apart ↦ so_far.done j x (omega (arith, below, apart)) at_j
      ];
      listed = so_far.listed;
    }

    pub walked_more : (start : ℕ) → start ≡ outside_of k b.above → (way : List ℕ) (after : List Bool) → IsWalkFrom (boundary_edges boundary) start seen way after
        → (more : List (List Coord)) → ((passed : List ℕ) → AreRingsBack (boundary_edges boundary) passed rings → AreRingsBack (boundary_edges boundary) (passed ++ way) more) → IsWalkedTo boundary (k + 1) after more
    walked_more start is_start way after walked more more_listed = record {
      passed = so_far.passed ++ way;
      flags = walked.flags;
      each = λ n. (let both = occurrences-append n so_far.passed way in let old = so_far.each n in let new = walked.each n in omega (arith, both, old, new));
      outside = λ n marked. elim (true_or_false (is_visited seen n)) [
        | inl old ↦ so_far.outside n old
        | inr new ↦ (
            let none = ap bit new in
            let one = marked_one after n marked in
            let each = walked.each n in
            all_outside boundary is way (first_or 0 way) walked.round.leads
            (subst (IsOutside boundary) (sym (first_is way (first_or 0 way) walked.round.some ∙ walked.first ∙ is_start)) (record { place = k; edge = b; at_place = at; is = refl }))
            n (has_occurrence n way (omega (arith, none, one, each)))
            )
      ];
      done = λ j x below at_j. elim (cases_eq j k) [
        | inl here ↦ (
            let same : outside_of j x.above ≡ start = (λ i. outside_of (here i) (same_Some x b (sym at_j ∙ ap (slice_get boundary) here ∙ at) i).above) ∙ sym is_start in
            let some = occurrence_has start way (subst (Contains way) walked.first (first_among way walked.round.some)) in
            let each = walked.each start in
            ap (is_visited after) same ∙ marked_by after start (omega (arith, some, each))
            )
        | inr apart ↦ (
            let old = marked_one seen (outside_of j x.above) (so_far.done j x (omega (arith, below, apart)) at_j) in
            let each = walked.each (outside_of j x.above) in
            marked_by after (outside_of j x.above) (omega (arith, old, each))
            )
      ];
      listed = more_listed so_far.passed so_far.listed;
    }

  pub walked_all : (first : ℕ) (seen : List Bool) (rings : List (List Coord)) → length boundary ≤ first → IsWalkedTo boundary first seen rings → AreBoundaryRings boundary rings
  walked_all first seen rings all walked =
      let edges = boundary_edges boundary in
      let equal : (n : ℕ) → occurrences n walked.passed ≡ occurrences n (outsides 0 boundary) = λ n. walked.each n ∙ (elim (true_or_false (is_visited seen n)) [
        | inl marked ↦ (
            let out = walked.outside n marked in
            let once = outsides_once 0 boundary out.place out.edge out.at_place in
            marked_one seen n marked ∙ sym (ap (λ m. occurrences m (outsides 0 boundary)) (out.is ∙ ap (λ m. outside_of m out.edge.above) (let same : out.place ≡ 0 + out.place = omega arith in same)) ∙ once)
            )
        | inr free ↦ ap bit free ∙ (elim (cases_eq (occurrences n (outsides 0 boundary)) 0) [
          | inl none ↦ sym none
          | inr some ↦ absurd (
              let (k, (b, (at, is_n))) = outsides_place 0 boundary n (omega (arith, some)) in
              let short = slice_get_within boundary k b at in
              let marked = walked.done k b (omega (arith, short, all)) at in
              let same : n ≡ outside_of k b.above = is_n ∙ ap (λ m. outside_of m b.above) (let shift : 0 + k ≡ k = omega arith in shift) in
              true≢false (sym marked ∙ ap (is_visited seen) (sym same) ∙ free)
              )
        ])
      ]) in
      record {
        sides = IsPermutation-trans (flat_map sides rings) (ways_back edges walked.passed) (map way_round boundary) walked.listed.sides
            (subst (IsPermutation (ways_back edges walked.passed)) (ways_are edges 0 boundary (λ k b at. ap (slice_get edges) (let same : 0 + k ≡ k = omega arith in same) ∙ edge_at boundary k b at))
            (IsPermutation-map (λ n. back_along (slice_get (half_edges edges) n)) walked.passed (outsides 0 boundary) (same_occurrences walked.passed (outsides 0 boundary) equal)));
        least = walked.listed.least;
        some = walked.listed.some;
      }

  -- there is a ring
  pub some_ring : (rings : List (List Coord)) → AreBoundaryRings boundary rings → 0 < length rings
  some_ring [] are = absurd (let long = length_permutation [] (map way_round boundary) are.sides in let count = length-map boundary way_round in let some = is.some in omega (arith, long, count, some))
  some_ring (r ∷ rings) are = omega arith

-- ---- a ring more

pub rings_more : (edges : List Seg) (passed way : List ℕ) (rings more : List (List Coord)) (points : List Coord) → IsRingBack edges way points → more ≡ rings ++ points ∷ [] → AreRingsBack edges passed rings → AreRingsBack edges (passed ++ way) more
rings_more edges passed way rings more points ring pushed are = subst (AreRingsBack edges (passed ++ way)) (sym pushed) (record {
  sides =
      subst (λ ws. IsPermutation ws (ways_back edges (passed ++ way))) (sym (flat_map-append sides rings (points ∷ []) ∙ ap (λ ws. flat_map sides rings ++ ws) (nil_end (sides points))))
      (subst (IsPermutation (flat_map sides rings ++ sides points)) (sym (map-append (λ n. back_along (slice_get (half_edges edges) n)) passed way))
      (IsPermutation-append (flat_map sides rings) (ways_back edges passed) (sides points) (ways_back edges way) are.sides ring.sides));
  least = All-push BeginsAtLeast rings points are.least ring.least;
  some = All-push (λ ps. 0 < length ps) rings points are.some ring.some;
})
  where
    nil_end : {X : Type 0} (xs : List X) → xs ++ [] ≡ xs
    nil_end [] = refl
    nil_end (x ∷ xs) = ap (λ ys. x ∷ ys) (nil_end xs)

-- ---- the rings in another order

pub in_other_order : (boundary : List BoundaryEdge) (rings others : List (List Coord)) → IsPermutation rings others → AreHolesSorted others → AreClosedRings (boundary_edges boundary) 0 others → AreBoundaryRings boundary rings
    → IsBoundaryPolygon boundary others
in_other_order boundary rings others same holes closed are = record {
  bounds = record {
    sides = IsPermutation-trans (flat_map sides others) (flat_map sides rings) (map way_round boundary) (IsPermutation-sym (flat_map sides rings) (flat_map sides others) (flat-permutation sides rings others same)) are.sides;
    least = All-permutation BeginsAtLeast rings others same are.least;
    some = All-permutation (λ points. 0 < length points) rings others same are.some;
  };
  holes = holes;
  closed = closed;
}

pub outside_within : (boundary : List BoundaryEdge) (k : ℕ) (t : Bool) → k < length boundary → outside_of k t < 2 * length (boundary_edges boundary)
outside_within boundary k t below = (let high = (outside_low k t).1 in let long = length-map boundary (λ (b : BoundaryEdge). b.edge) in omega (arith, high, long, below))

pub none_marked : (n k : ℕ) → is_visited (replicate n false) k ≡ false
none_marked zero k = refl
none_marked (suc n) zero = refl
none_marked (suc n) (suc k) = none_marked n k
