-- The own edges of a region by its sides.
use mathlib.Core.List.{[], ◌∷◌}
use Rattle.std.proofs.Common.{◌≡◌, refl, sym, ◌∙◌, ap, subst, ℕ, suc, ◌+◌, ◌*◌, ◌/◌, ◌%◌, ◌<◌, ◌==◌, ◌↔◌, Bool, true, false, cond, List, ◌++◌, length, filter, All, Contains, Some, slice_get, inl, inr, ℤ, pos, neg_ℤ, ◌+ℤ◌, ◌-ℤ◌, arith}
use Rattle.std.specs.Prelude.{slice_index}
use Rattle.std.proofs.lemmas.Bool.{ne_eqb, true≢false}
use Rattle.std.proofs.lemmas.Bool.Decides.{Decides-eqb}
use Rattle.integer_laws.specs.Bound.{IsWithin}
use Rattle.std.proofs.lemmas.List.{map-append}
use Rattle.std.proofs.lemmas.List.Elements.{All-push, Contains-push_cases, Contains-push, Contains-append_left}
use Rattle.std.proofs.lemmas.Option.{same_Some, slice_get-get_or}
use Rattle.integer_laws.proofs.Ring.{lin}
use Rattle.cov_types.specs.declared.seg.Seg.{Seg}
use Rattle.cov_types.specs.Range.{IsSegInRange}
use Rattle.plane.specs.Label.{numbers_below}
use Rattle.plane.specs.Point.{Point}
use Rattle.plane.specs.Ray.{is_over}
use Rattle.plane.specs.Segment.{upper, lower}
use Rattle.plane.specs.Region.{IsOuterRegion, IsRegionOf, AreRegions}
use Rattle.plane.proofs.Same.{same_tests}
use Rattle.crossing_laws.specs.Crossing.{crossing_sum, int_sum_by}
use Rattle.crossing_laws.proofs.Lists.{contains-map}
use Rattle.crossing_laws.proofs.Located.{one_region, side_within}
use Rattle.sector_laws.specs.Sector.{HalfEdge, left, IsHalfEdge, AreDistinct, IsPlanar}
use Rattle.sector_laws.proofs.Numbers.{half_edge_side, half_edge_among, forwards_number, back_number, half_edge_at}
use Rattle.region_laws.specs.Weights.{side_weight, weigh_sides}
use Rattle.arrangement.proofs.LiveOverlays.{kept, kept_is, number_below}
use Rattle.counting_sort.specs.Grouped.{places_of}
use Rattle.region_owners.specs.Box.{IsEdgeOf}
use Rattle.region_owners.proofs.OwnEdges.{passes, own_passes, passes_own}
use Rattle.clearance_laws.specs.Inside.{TellsSides}
use Rattle.clearance_laws.proofs.Inside.{inside_is}
use Rattle.gap_width.specs.declared.own.OwnEdge.{OwnEdge}
use Rattle.gap_width.proofs.Steps.{sum-append}
use Rattle.gap_width.specs.Own.{edges_in, weighed, IsSmallEdge, AreOwn, AreOfSides, weight_of_side, weight_by}

-- ---- sums over lists

int_sum-append : {X : Type 0} (f : X → ℤ) (xs ys : List X) → int_sum_by f (xs ++ ys) ≡ int_sum_by f xs +ℤ int_sum_by f ys
int_sum-append f [] ys = omega (arith, lin)
int_sum-append f (x ∷ xs) ys = let rest = int_sum-append f xs ys in omega (arith, lin)

int_sum-filter : {X : Type 0} (p : X → Bool) (f : X → ℤ) (xs : List X) → int_sum_by f (filter p xs) ≡ int_sum_by (λ x. cond (p x) (f x) (pos 0)) xs
int_sum-filter p f [] = refl
int_sum-filter p f (x ∷ xs) = by (p x) (int_sum-filter p f xs)
  where
    by : (b : Bool) → int_sum_by f (filter p xs) ≡ int_sum_by (λ y. cond (p y) (f y) (pos 0)) xs
        → int_sum_by f (cond b (x ∷ filter p xs) (filter p xs)) ≡ cond b (f x) (pos 0) +ℤ int_sum_by (λ y. cond (p y) (f y) (pos 0)) xs
    by true rest = omega (arith, lin)
    by false rest = omega (arith, lin)

two_more : (g : ℕ → ℤ) (i : ℕ) → int_sum_by g (numbers_below (2 * suc i)) ≡ int_sum_by g (numbers_below (2 * i)) +ℤ (g (2 * i) +ℤ g (2 * i + 1))
two_more g i =
    let twice : 2 * suc i ≡ suc (suc (2 * i)) = omega arith in
    let one : 2 * i + 1 ≡ suc (2 * i) = omega arith in
    let first = int_sum-append g (numbers_below (2 * i)) (2 * i ∷ []) in
    let second = int_sum-append g (numbers_below (suc (2 * i))) (suc (2 * i) ∷ []) in
    let last = ap g one in
    ap (λ n. int_sum_by g (numbers_below n)) twice ∙ omega (arith, lin)

-- ---- one more side

one_within : (n : ℕ) (w : ℤ) → w ≡ weight_of_side n → IsWithin 1 w
one_within n w is = by (n % 2 == 0) is
  where
    by : (b : Bool) → w ≡ cond b (neg_ℤ (pos 1)) (pos 1) → IsWithin 1 w
    by true is = omega (arith, lin)
    by false is = omega (arith, lin)

pub sides_none : (edges : List Seg) (own : List OwnEdge) → own ≡ [] → AreOfSides edges [] own
sides_none edges own is = subst (AreOfSides edges []) (sym is) (record {
  sum = λ p. refl;
  from = λ e c. absurd (omega (arith, c.1));
  to = λ n e c. absurd (omega (arith, c.1));
  small = λ k d below. absurd (omega (arith, below));
})

pub sides_more : (edges : List Seg) (sides : List ℕ) (n : ℕ) (own after : List OwnEdge) (o : OwnEdge) → All IsSegInRange edges → slice_get edges (n / 2) ≡ Some o.edge → o.weight ≡ weight_of_side n → IsSegInRange o.edge
    → after ≡ own ++ o ∷ [] → AreOfSides edges sides own → AreOfSides edges (sides ++ n ∷ []) after
sides_more edges sides n own after o in_range at weight edge_in is so_far = subst (AreOfSides edges (sides ++ n ∷ [])) (sym is) (record {
  sum = λ p. sum-append own o p ∙ (λ i. so_far.sum p i +ℤ cond (is_over o.edge p) (weight i) (pos 0)) ∙ sum_last p;
  from = λ e c. elim (Contains-push_cases (edges_in own) o.edge e (subst (λ xs. Contains xs e) (map-append (λ x. x.edge) own (o ∷ [])) c)) [
    | inl before ↦ (let (m, (listed, there)) = so_far.from e before in (m, (Contains-append_left sides (n ∷ []) m listed, there)))
    | inr same ↦ (n, (Contains-push sides n, at ∙ ap Some same))
  ];
  to = λ m e c there. elim (Contains-push_cases sides n m c) [
    | inl before ↦ Contains-append_left own (o ∷ []) (record { edge = e; weight = weight_of_side m }) (so_far.to m e before there)
    | inr same ↦
        subst (Contains (own ++ o ∷ [])) (λ i. record { edge = same_Some o.edge e (sym at ∙ ap (λ k. slice_get edges (k / 2)) same ∙ there) i; weight = (weight ∙ ap weight_of_side same) i }) (Contains-push own o)
  ];
  small = All-push IsSmallEdge own o so_far.small (record { edge = edge_in; weight = one_within n o.weight weight });
})
  where
    sum_last : (p : Point) → int_sum_by (λ m. weight_by (slice_get edges (m / 2)) m p) sides +ℤ cond (is_over o.edge p) (weight_of_side n) (pos 0) ≡ int_sum_by (λ m. weight_by (slice_get edges (m / 2)) m p) (sides ++ n ∷ [])
    sum_last p =
        let all = int_sum-append (λ m. weight_by (slice_get edges (m / 2)) m p) sides (n ∷ []) in
        let last = ap (λ t. weight_by t n p) at in
        omega (arith, lin)

-- ---- all sides of a region

module _ (edges : List Seg) (planar : IsPlanar edges) (distinct : AreDistinct edges) (r : ℕ) (inner : ¬ IsOuterRegion edges r) (numbers : List ℕ) (regions : AreRegions edges numbers) where
  abbrev test : HalfEdge → Bool
  test h = passes edges planar distinct r inner numbers regions h

  tells : TellsSides edges r test
  tells h c = (passes_own edges planar distinct r inner numbers regions h c, own_passes edges planar distinct r inner numbers regions h c)

  -- the test by the number of the side
  test_is : (n : ℕ) (h : HalfEdge) → IsHalfEdge edges n h → test h ≡ (slice_index numbers n == r)
  test_is n h at =
      let among = half_edge_among edges n h at in
      let its = regions.each n (left h) (half_edge_side edges n h at) in
      same_tests (test h) (slice_index numbers n == r)
      (λ t. (Decides-eqb (slice_index numbers n) r).1 (one_region edges (left h) (slice_index numbers n) r its (passes_own edges planar distinct r inner numbers regions h among t)))
      (λ t. own_passes edges planar distinct r inner numbers regions h among (subst (λ m. IsRegionOf edges (left h) m) ((Decides-eqb (slice_index numbers n) r).0 t) its))

  module _ (p : Point) where
    abbrev g : ℕ → ℤ
    g n = cond (slice_index numbers n == r) (weight_by (slice_get edges (n / 2)) n p) (pos 0)

    two_sides : (k : ℕ) (e : Seg) → slice_get edges k ≡ Some e → g (2 * k) +ℤ g (2 * k + 1)
        ≡ cond (is_over e p) (side_weight test (record { edge = e; forwards = false }) -ℤ side_weight test (record { edge = e; forwards = true })) (pos 0)
    two_sides k e at =
        let up = sym (test_is (2 * k) (record { edge = e; forwards = true }) (forwards_number edges k e at)) in
        let down = sym (test_is (2 * k + 1) (record { edge = e; forwards = false }) (back_number edges k e at)) in
        let even : (2 * k) / 2 ≡ k = omega arith in
        let odd : (2 * k + 1) / 2 ≡ k = omega arith in
        let first = (λ i. cond (up i) (weight_by (slice_get edges (even i)) (2 * k) p) (pos 0)) ∙ (λ i. cond (test (record { edge = e; forwards = true })) (weight_by (at i) (2 * k) p) (pos 0)) in
        let second = (λ i. cond (down i) (weight_by (slice_get edges (odd i)) (2 * k + 1) p) (pos 0)) ∙ (λ i. cond (test (record { edge = e; forwards = false })) (weight_by (at i) (2 * k + 1) p) (pos 0)) in
        (λ i. first i +ℤ second i) ∙ both (is_over e p) (test (record { edge = e; forwards = true })) (test (record { edge = e; forwards = false }))
        ((2 * k) % 2 == 0) ((Decides-eqb ((2 * k) % 2) 0).1 (omega arith)) ((2 * k + 1) % 2 == 0) (ne_eqb ((2 * k + 1) % 2) 0 (λ h. omega arith))
      where
        both : (over up down a : Bool) → a ≡ true → (b : Bool) → b ≡ false
            → cond up (cond over (cond a (neg_ℤ (pos 1)) (pos 1)) (pos 0)) (pos 0) +ℤ cond down (cond over (cond b (neg_ℤ (pos 1)) (pos 1)) (pos 0)) (pos 0) ≡ cond over (pos (cond down 1 0) -ℤ pos (cond up 1 0)) (pos 0)
        both over up down true h true k = absurd (true≢false k)
        both over up down false h b k = absurd (true≢false (sym h))
        both true true true true h false k = refl
        both true true false true h false k = refl
        both true false true true h false k = refl
        both true false false true h false k = refl
        both false true true true h false k = refl
        both false true false true h false k = refl
        both false false true true h false k = refl
        both false false false true h false k = refl

    by_sides : (i : ℕ) (es : List Seg) → ((j : ℕ) (e : Seg) → slice_get es j ≡ Some e → slice_get edges (i + j) ≡ Some e)
        → int_sum_by g (numbers_below (2 * i)) +ℤ crossing_sum (weigh_sides test es) p ≡ int_sum_by g (numbers_below (2 * (i + length es)))
    by_sides i [] there = (let same : i + 0 ≡ i = omega arith in let end = ap (λ n. int_sum_by g (numbers_below (2 * n))) same in omega (arith, lin))
    by_sides i (e ∷ es) there =
        let next : i + 1 ≡ suc i = omega arith in
        let at : i + 0 ≡ i = omega arith in
        let rest = by_sides (i + 1) es (λ j f here. (let same : i + suc j ≡ (i + 1) + j = omega arith in sym (ap (λ n. slice_get edges n) same) ∙ there (suc j) f here)) in
        let long : (i + 1) + length es ≡ i + length (e ∷ es) = omega arith in
        let end = ap (λ n. int_sum_by g (numbers_below (2 * n))) long in
        let start = ap (λ n. int_sum_by g (numbers_below (2 * n))) next in
        let two = two_more g i in
        let first = two_sides i e (sym (ap (λ n. slice_get edges n) at) ∙ there 0 e refl) in
        omega (arith, lin)

    sum_is : int_sum_by (λ n. weight_by (slice_get edges (n / 2)) n p) (places_of numbers r) ≡ crossing_sum (weigh_sides test edges) p
    sum_is =
        let filtered = int_sum-filter (λ n. slice_index numbers n == r) (λ n. weight_by (slice_get edges (n / 2)) n p) (numbers_below (length numbers)) in
        let count = ap (λ n. int_sum_by g (numbers_below n)) regions.count in
        let all = by_sides 0 edges (λ j e here. (let same : 0 + j ≡ j = omega arith in ap (λ n. slice_get edges n) same ∙ here)) in
        let none : 0 + length edges ≡ length edges = omega arith in
        let end = ap (λ n. int_sum_by g (numbers_below (2 * n))) none in
        omega (arith, lin)

  pub are_own : (sides : List ℕ) (own : List OwnEdge) → sides ≡ places_of numbers r → AreOfSides edges sides own → AreOwn edges r own
  are_own sides own is of = record {
    planar = planar;
    distinct = distinct;
    not_outer = inner;
    each = λ e. (there e, back e);
    above = above;
    below = beneath;
    inside = λ p off.
        let same : crossing_sum (weighed own) p ≡ crossing_sum (weigh_sides test edges) p = of.sum p ∙ ap (λ ns. int_sum_by (λ n. weight_by (slice_get edges (n / 2)) n p) ns) is ∙ sum_is p in
        subst (λ z. IsRegionOf edges p r ↔ (z ≡ pos 1)) (sym same) (inside_is edges planar distinct r inner test tells p off);
  }
    where
      -- a side of the region is listed
      listed : (n : ℕ) (e : Seg) (h : HalfEdge) → slice_get edges (n / 2) ≡ Some e → IsHalfEdge edges n h → IsRegionOf edges (left h) r → Contains own (record { edge = e; weight = weight_of_side n })
      listed n e h at half of_r =
          let side = half_edge_side edges n h half in
          let number = one_region edges (left h) (slice_index numbers n) r (regions.each n (left h) side) of_r in
          let below : n < length numbers = (let within = side_within edges n (left h) side in omega (arith, within, regions.count)) in
          of.to n e (subst (λ ns. Contains ns n) (sym is) (kept (λ i. slice_index numbers i == r) (numbers_below (length numbers)) n (number_below (length numbers) n below) ((Decides-eqb (slice_index numbers n) r).1 number))) at

      above : (e : Seg) → Contains edges e → IsRegionOf edges (upper e) r → Contains own (record { edge = e; weight = neg_ℤ (pos 1) })
      above e (k, below, found) up =
          let at : slice_get edges k ≡ Some e = slice_get-get_or edges k e below ∙ ap Some found in
          let even : (2 * k) / 2 ≡ k = omega arith in
          let weight : weight_of_side (2 * k) ≡ neg_ℤ (pos 1) = ap (λ b. cond b (neg_ℤ (pos 1)) (pos 1)) ((Decides-eqb ((2 * k) % 2) 0).1 (omega arith)) in
          subst (λ w. Contains own (record { edge = e; weight = w })) weight (listed (2 * k) e (record { edge = e; forwards = true }) (ap (λ n. slice_get edges n) even ∙ at) (forwards_number edges k e at) up)

      beneath : (e : Seg) → Contains edges e → IsRegionOf edges (lower e) r → Contains own (record { edge = e; weight = pos 1 })
      beneath e (k, below, found) down =
          let at : slice_get edges k ≡ Some e = slice_get-get_or edges k e below ∙ ap Some found in
          let odd : (2 * k + 1) / 2 ≡ k = omega arith in
          let weight : weight_of_side (2 * k + 1) ≡ pos 1 = ap (λ b. cond b (neg_ℤ (pos 1)) (pos 1)) (ne_eqb ((2 * k + 1) % 2) 0 (λ h. omega arith)) in
          subst (λ w. Contains own (record { edge = e; weight = w })) weight (listed (2 * k + 1) e (record { edge = e; forwards = false }) (ap (λ n. slice_get edges n) odd ∙ at) (back_number edges k e at) down)

      there : (e : Seg) → IsEdgeOf edges r e → Contains (edges_in own) e
      there e edge = elim edge.beside [
        | inl up ↦ contains-map (λ o. o.edge) own (record { edge = e; weight = neg_ℤ (pos 1) }) (above e edge.among up)
        | inr down ↦ contains-map (λ o. o.edge) own (record { edge = e; weight = pos 1 }) (beneath e edge.among down)
      ]

      back : (e : Seg) → Contains (edges_in own) e → IsEdgeOf edges r e
      back e c =
          let (n, (in_sides, at)) = of.from e c in
          let number = (Decides-eqb (slice_index numbers n) r).0 (kept_is (λ i. slice_index numbers i == r) (numbers_below (length numbers)) n (subst (λ ns. Contains ns n) is in_sides)).1 in
          let half = half_edge_at edges n e at in
          by n (n % 2 == 0) half (subst (λ m. IsRegionOf edges (left (record { edge = e; forwards = n % 2 == 0 })) m) number (regions.each n _ (half_edge_side edges n _ half)))
        where
          by : (n : ℕ) (b : Bool) → IsHalfEdge edges n (record { edge = e; forwards = b }) → IsRegionOf edges (left (record { edge = e; forwards = b })) r → IsEdgeOf edges r e
          by n true half its = record { among = half_edge_among edges n _ half; beside = inl its }
          by n false half its = record { among = half_edge_among edges n _ half; beside = inr its }
