-- Two polygons that are sound for one part and canonical are one.
use mathlib.Core.List.{[], ◌∷◌}
use Rattle.std.proofs.Common.{◌≡◌, inl, inr, refl, sym, ◌∙◌, ap, subst, ℕ, zero, suc, ◌+◌, ◌<◌, ◌≤◌, Bool, true, false, not, cond, List, ◌++◌, get_or, pos, IsTrue, arith}
use Rattle.std.specs.Prelude.{Contains, length, take, drop, zip, Some, slice_get, flat_map, option_to_list, unwrap_or}
use Rattle.std.specs.List.{enumerate_from}
use Rattle.std.specs.Ordering.{is_lt}
use Rattle.std.proofs.lemmas.Bool.{false≢true, not_from_true}
use Rattle.std.proofs.lemmas.List.Elements.{All-contains, Contains-append_left, Contains-append_right, Contains-append_cases}
use Rattle.std.proofs.lemmas.List.Sorted.{Contains-permutation, IsPermutation-sym}
use Rattle.std.proofs.lemmas.List.Sums.{AllPass-from_list_all}
use Rattle.std.proofs.lemmas.Option.{slice_get_within, slice_get-get_or, get_or_from_slice_get}
use Rattle.cov_types.specs.declared.coord.Coord.{Coord}
use Rattle.cov_types.specs.declared.seg.Seg.{Seg}
use Rattle.cov_types.specs.Coord.{is_before, points_cmp}
use Rattle.cov_types.specs.Seg.{IsSegBetween}
use Rattle.cov_types.specs.Uses.{sides, seg_between}
use Rattle.cov_types.proofs.Between.{seg_between-ordered, seg_between-reversed}
use Rattle.cov_types.proofs.Order.{same_from_neither}
use Rattle.plane.specs.Parity.{holds}
use Rattle.plane.specs.Point.{Point}
use Rattle.plane.specs.Segment.{upper, lower}
use Rattle.crossing_laws.proofs.Lists.{contains_here, contains_there}
use Rattle.sector_laws.specs.Sector.{IsPlanar}
use Rattle.arrangement.specs.Overlay.{Overlay, numbered_edges, region_above, region_below}
use Rattle.arrangement.proofs.OneNoding.{same_ordered}
use Rattle.arrangement.proofs.PointOrders.{points_both_ways}
use Rattle.sound_polygons.specs.Cleaned.{BeginsAtLeast, IsPolyCanonical}
use Rattle.sound_polygons.specs.Parts.{ring_edges, IsSimple, left_points, is_counter_clockwise, is_clockwise, corners, is_free_corner, boundary_way, boundary, IsSound}
use Rattle.sound_polygons.proofs.NextWays.{Way, AreAlong, one_next_way}
use Rattle.sound_polygons.proofs.Rotated.{turned, turned_has, sides_turned, length_turned, turned_by, has_turned_by, turned_by_has, sides_turned_by, corners_turned_by, different_turned_by, turned_by_first, length_sides, side_at, alike_same, GoAlike}

-- ---- flat maps

in_flat : {X Y : Type 0} (f : X → List Y) (xs : List X) (x : X) (y : Y) → Contains xs x → Contains (f x) y → Contains (flat_map f xs) y
in_flat f [] x y (k, inside, is) h = absurd (omega arith)
in_flat {X} {Y} f (z ∷ xs) x y (zero, inside, is) h = Contains-append_left (f z) (flat_map f xs) y (subst (λ (w : X). Contains (f w) y) (sym is) h)
in_flat f (z ∷ xs) x y (suc k, inside, is) h = Contains-append_right (f z) (flat_map f xs) y (in_flat f xs x y (k, omega arith, is) h)

of_flat : {X Y : Type 0} (f : X → List Y) (xs : List X) (y : Y) → Contains (flat_map f xs) y → (x : X) × (Contains xs x × Contains (f x) y)
of_flat f [] y (k, inside, is) = absurd (omega arith)
of_flat f (x ∷ xs) y h =
    elim (Contains-append_cases (f x) (flat_map f xs) y h) [
      | inl here ↦ (x, (contains_here x xs, here))
      | inr later ↦ (let rest = of_flat f xs y later in (rest.0, (contains_there x rest.0 xs rest.1.0, rest.1.1)))
    ]

-- ---- the boundary leads along edges

listed_in : (n : ℕ) (edges : List Seg) (p : ℕ × Seg) → Contains (enumerate_from n edges) p → Contains edges p.1
listed_in n [] p (k, inside, is) = absurd (omega arith)
listed_in n (e ∷ edges) p (zero, inside, is) = (0, omega arith, ap (λ (q : ℕ × Seg). q.1) is)
listed_in n (e ∷ edges) p (suc k, inside, is) = contains_there e p.1 edges (listed_in (n + 1) edges p (k, omega arith, is))

way_between : (a b : Bool) (e : Seg) (w : Way) → Contains (boundary_way a b e) w → IsSegBetween w.0 w.1 e
way_between true false e w (zero, inside, is) = inl (ap (λ (x : Way). x.0) is, ap (λ (x : Way). x.1) is)
way_between true false e w (suc k, inside, is) = absurd (omega arith)
way_between false true e w (zero, inside, is) = inr (ap (λ (x : Way). x.1) is, ap (λ (x : Way). x.0) is)
way_between false true e w (suc k, inside, is) = absurd (omega arith)
way_between true true e w (k, inside, is) = absurd (omega arith)
way_between false false e w (k, inside, is) = absurd (omega arith)

boundary_along : (o : Overlay) (inside : ℕ → Bool) → AreAlong o.edges (boundary o inside)
boundary_along o inside w h =
    let found = of_flat (λ p. boundary_way (inside (region_above o p.0)) (inside (region_below o p.0)) p.1) (numbered_edges o) w h in
    ((found.0).1, (listed_in 0 o.edges found.0 found.1.0, way_between (inside (region_above o (found.0).0)) (inside (region_below o (found.0).0)) (found.0).1 w found.1.1))

-- ---- a ring of one polygon is a ring of the other

some_is : {X : Type 0} (a b : X) → Some a ≡ Some b → a ≡ b
some_is a b h = ap (λ o. unwrap_or o a) h

placed : {X : Type 0} (xs : List X) (k : ℕ) (x : X) → slice_get xs k ≡ Some x → Contains xs x
placed xs k x h = (k, slice_get_within xs k x h, get_or_from_slice_get xs k x x h)

first_of_sides : (points : List Coord) (p q : Coord) → slice_get (sides points) 0 ≡ Some (p, q) → 2 ≤ length points → (slice_get points 0 ≡ Some p) × (slice_get points 1 ≡ Some q)
first_of_sides [] p q h long = absurd (omega arith)
first_of_sides (x ∷ []) p q h long = absurd (omega arith)
first_of_sides (x ∷ y ∷ points) p q h long = let same = some_is (x, y) (p, q) h in ((λ i. Some ((same i).0)), (λ i. Some ((same i).1)))

length_turned_by : (k : ℕ) (points : List Coord) → length (turned_by k points) ≡ length points
length_turned_by zero points = refl
length_turned_by (suc k) points = length_turned_by k (drop 1 points ++ take 1 points) ∙ length_turned points

-- any point
abbrev origin : Coord
origin = record { x = pos 0; y = pos 0 }

in_zip : {A B : Type 0} (xs : List A) (ys : List B) (p : A × B) → Contains (zip xs ys) p → Contains xs p.0 × Contains ys p.1
in_zip [] ys p (k, inside, is) = absurd (omega arith)
in_zip (x ∷ xs) [] p (k, inside, is) = absurd (omega arith)
in_zip {A} {B} (x ∷ xs) (y ∷ ys) p (zero, inside, is) = ((0, omega arith, ap (λ (q : A × B). q.0) is), (0, omega arith, ap (λ (q : A × B). q.1) is))
in_zip (x ∷ xs) (y ∷ ys) p (suc k, inside, is) = let rest = in_zip xs ys p (k, omega arith, is) in (contains_there x p.0 xs rest.0, contains_there y p.1 ys rest.1)

-- the two sides of a corner
sides_of_corner : (points : List Coord) (c : Way × Way) → Contains (corners points) c → Contains (sides points) c.0 × Contains (sides points) c.1
sides_of_corner points c h =
    let both = in_zip (sides points) (sides (turned points)) c h in
    (both.0, turned_has (sides points) c.1 (subst (λ ss. Contains ss c.1) (sides_turned points) both.1))

is_between : (p q : Coord) (e : Seg) → IsSegBetween p q e → seg_between p q ≡ Some e
is_between p q e (inl h) = seg_between-ordered p q e h.0 h.1
is_between p q e (inr h) = seg_between-reversed p q e h.0 h.1

-- a way along an edge has a point on its left
left_is : (w : Way) (e : Seg) → seg_between w.0 w.1 ≡ Some e → (x : Point) × Contains (left_points w) x
left_is w e h = (cond (is_before w.0 w.1) (upper e) (lower e), subst (λ o. Contains (flat_map (λ e. cond (is_before w.0 w.1) (upper e) (lower e) ∷ []) (option_to_list o)) (cond (is_before w.0 w.1) (upper e) (lower e))) (sym h) (0, omega arith, refl))

module _ (o : Overlay) (planar : IsPlanar o.edges) (inside : ℕ → Bool) (rings others : List (List Coord)) (sound : IsSound o inside rings) (sound_too : IsSound o inside others)
    (canonical : IsPolyCanonical rings) (canonical_too : IsPolyCanonical others) where
  from_boundary : (w : Way) → Contains (boundary o inside) w → Contains (flat_map sides rings) w
  from_boundary w = Contains-permutation (boundary o inside) (flat_map sides rings) w (IsPermutation-sym (flat_map sides rings) (boundary o inside) sound.round)

  from_boundary_too : (w : Way) → Contains (boundary o inside) w → Contains (flat_map sides others) w
  from_boundary_too w = Contains-permutation (boundary o inside) (flat_map sides others) w (IsPermutation-sym (flat_map sides others) (boundary o inside) sound_too.round)

  -- a corner of a ring is free, and its sides are of the boundary
  corner_free : (points : List Coord) → Contains rings points → (c : Way × Way) → Contains (corners points) c → IsTrue (is_free_corner (flat_map sides rings) c)
  corner_free points has c h = All-contains (λ corner. IsTrue (is_free_corner (flat_map sides rings) corner)) (flat_map corners rings) c sound.free (in_flat corners rings points c has h)

  corner_free_too : (points : List Coord) → Contains others points → (c : Way × Way) → Contains (corners points) c → IsTrue (is_free_corner (flat_map sides others) c)
  corner_free_too points has c h = All-contains (λ corner. IsTrue (is_free_corner (flat_map sides others) corner)) (flat_map corners others) c sound_too.free (in_flat corners others points c has h)

  to_boundary : (w : Way) → Contains (flat_map sides rings) w → Contains (boundary o inside) w
  to_boundary w = Contains-permutation (flat_map sides rings) (boundary o inside) w sound.round

  to_boundary_too : (w : Way) → Contains (flat_map sides others) w → Contains (boundary o inside) w
  to_boundary_too w = Contains-permutation (flat_map sides others) (boundary o inside) w sound_too.round

  side_of_boundary : (points : List Coord) → Contains rings points → (w : Way) → Contains (sides points) w → Contains (boundary o inside) w
  side_of_boundary points has w h = to_boundary w (in_flat sides rings points w has h)

  side_of_boundary_too : (points : List Coord) → Contains others points → (w : Way) → Contains (sides points) w → Contains (boundary o inside) w
  side_of_boundary_too points has w h = to_boundary_too w (in_flat sides others points w has h)

  -- from each side, a ring of the one and a ring of the other go on alike
  rings_alike : (points : List Coord) → Contains rings points → (other : List Coord) → Contains others other → (k : ℕ) → GoAlike points (turned_by k other)
  rings_alike points has other has_too k a v c d in_points in_other =
      let there : Contains (corners other) ((a, v), (v, d)) = turned_by_has k (corners other) ((a, v), (v, d)) (subst (λ cs. Contains cs ((a, v), (v, d))) (corners_turned_by k other) in_other) in
      let first = sides_of_corner points ((a, v), (v, c)) in_points in
      let second = sides_of_corner other ((a, v), (v, d)) there in
      one_next_way o.edges planar (boundary o inside) (boundary_along o inside) (flat_map sides rings) (flat_map sides others) from_boundary from_boundary_too a v c d
      (side_of_boundary points has (a, v) first.0) (side_of_boundary points has (v, c) first.1) (side_of_boundary_too other has_too (v, d) second.1)
      (corner_free points has ((a, v), (v, c)) in_points) (corner_free_too other has_too ((a, v), (v, d)) there)

  -- the ring of the other polygon that has the first side of this one
  module _ (points : List Coord) (has : Contains rings points) where
    simple : IsSimple points
    simple = All-contains IsSimple rings points sound.simple has

    least : BeginsAtLeast points
    least = All-contains BeginsAtLeast rings points canonical.first_least has

    -- where it stands there
    record IsThere (p q : Coord) : Type 0 where
      other : List Coord
      listed : Contains others other
      k : ℕ
      at : slice_get (sides other) k ≡ Some (p, q)

    there_is : (p q : Coord) → Contains (sides points) (p, q) → IsThere p q
    there_is p q h =
        let found = of_flat sides others (p, q) (from_boundary_too (p, q) (side_of_boundary points has (p, q) h)) in
        let place = found.1.1 in
        record { other = found.0; listed = found.1.0; k = place.0; at = slice_get-get_or (sides found.0) place.0 (p, q) place.1 ∙ ap (λ (w : Way). Some w) place.2 }

    begins : (p q : Coord) → slice_get points 0 ≡ Some p → slice_get points 1 ≡ Some q → Contains others points
    begins p q at_p at_q = subst (Contains others) (sym same_ring) t.listed
      where
        t : IsThere p q
        t = there_is p q (placed (sides points) 0 (p, q) (side_at points 0 p q at_p at_q))

        other_simple : IsSimple t.other
        other_simple = All-contains IsSimple others t.other sound_too.simple t.listed

        other_least : BeginsAtLeast t.other
        other_least = All-contains BeginsAtLeast others t.other canonical_too.first_least t.listed

        k_within : t.k < length t.other
        k_within = let within = slice_get_within (sides t.other) t.k (p, q) t.at in omega (arith, length_sides t.other, within)

        ring : List Coord
        ring = turned_by t.k t.other

        ring_starts : (slice_get (turned_by t.k t.other) 0 ≡ Some p) × (slice_get (turned_by t.k t.other) 1 ≡ Some q)
        ring_starts =
            first_of_sides (turned_by t.k t.other) p q
            (ap (λ ss. slice_get ss 0) (sides_turned_by t.k t.other) ∙ turned_by_first t.k (sides t.other) (slice_get_within (sides t.other) t.k (p, q) t.at) ∙ t.at)
            (let long = other_simple.long in omega (arith, length_turned_by t.k t.other, long))

        same_turned : points ≡ turned_by t.k t.other
        same_turned =
            alike_same points (turned_by t.k t.other) simple.different (different_turned_by t.k t.other other_simple.different) (rings_alike points has t.other t.listed t.k)
            p q at_p at_q ring_starts.0 ring_starts.1

        first_there : slice_get t.other t.k ≡ Some p
        first_there = sym (turned_by_first t.k t.other k_within) ∙ ring_starts.0

        -- the other ring begins at its least point too, which is the same
        begins_alike : (z : Coord) → slice_get t.other 0 ≡ Some z → p ≡ z
        begins_alike z at_z =
            let z_there : Contains points z = subst (λ ps. Contains ps z) (sym same_turned) (has_turned_by t.k t.other z (placed t.other 0 z at_z)) in
            same_from_neither p z (other_least z p at_z (placed t.other t.k p first_there)) (least p z at_p z_there)

        no_turn : (k : ℕ) → slice_get t.other k ≡ Some p → (z : Coord) → slice_get t.other 0 ≡ Some z → k ≡ 0
        no_turn zero at z at_z = refl
        no_turn (suc k) at z at_z =
            absurd (other_simple.different 0 (suc k) p (omega arith) (slice_get_within t.other (suc k) p at)
            (get_or_from_slice_get t.other 0 z p at_z ∙ sym (begins_alike z at_z) ∙ sym (get_or_from_slice_get t.other (suc k) p p at)))

        same_ring : points ≡ t.other
        same_ring =
            let long = other_simple.long in
            let zero_is = no_turn t.k first_there (get_or t.other 0 p) (slice_get-get_or t.other 0 p (omega arith)) in
            same_turned ∙ ap (λ k. turned_by k t.other) zero_is

    ring_in : Contains others points
    ring_in =
        let long = simple.long in
        begins (get_or points 0 origin) (get_or points 1 origin) (slice_get-get_or points 0 origin (omega arith)) (slice_get-get_or points 1 origin (omega arith))

    -- it does not turn both ways
    not_both : is_counter_clockwise points ≡ true → is_clockwise points ≡ true → ⊥
    not_both left right =
        let long = simple.long in
        let p = get_or points 0 origin in
        let q = get_or points 1 origin in
        let side = placed (sides points) 0 (p, q) (side_at points 0 p q (slice_get-get_or points 0 origin (omega arith)) (slice_get-get_or points 1 origin (omega arith))) in
        let edge = boundary_along o inside (p, q) (side_of_boundary points has (p, q) side) in
        let point = left_is (p, q) edge.0 (is_between p q edge.0 edge.1.1) in
        let listed = in_flat left_points (sides points) (p, q) point.0 side point.1 in
        let one = All-contains (λ x. holds (ring_edges points) x ≡ true) (flat_map left_points (sides points)) point.0 (AllPass-from_list_all (λ x. holds (ring_edges points) x) (flat_map left_points (sides points)) left) listed in
        let other = All-contains (λ x. not (holds (ring_edges points) x) ≡ true) (flat_map left_points (sides points)) point.0 (AllPass-from_list_all (λ x. not (holds (ring_edges points) x)) (flat_map left_points (sides points)) right) listed in
        false≢true (sym (not_from_true (holds (ring_edges points) point.0) one) ∙ other)

-- ---- the polygons

module _ (o : Overlay) (planar : IsPlanar o.edges) (inside : ℕ → Bool) where
  record AreTwo (rings others : List (List Coord)) : Type 0 where
    sound : IsSound o inside rings
    sound_too : IsSound o inside others
    canonical : IsPolyCanonical rings
    canonical_too : IsPolyCanonical others

  other_way : (rings others : List (List Coord)) → AreTwo rings others → AreTwo others rings
  other_way rings others h = record { sound = h.sound_too; sound_too = h.sound; canonical = h.canonical_too; canonical_too = h.canonical }

  shared : (rings others : List (List Coord)) → AreTwo rings others → (points : List Coord) → Contains rings points → Contains others points
  shared rings others h points has = ring_in o planar inside rings others h.sound h.sound_too h.canonical h.canonical_too points has

  turns_once : (rings others : List (List Coord)) → AreTwo rings others → (points : List Coord) → Contains rings points → is_counter_clockwise points ≡ true → is_clockwise points ≡ true → ⊥
  turns_once rings others h points has = not_both o planar inside rings others h.sound h.sound_too h.canonical h.canonical_too points has

  abbrev IsHole : List Coord → Type 0
  IsHole hole = IsTrue (is_clockwise hole)

  same_shell : (s t : List Coord) (hs ht : List (List Coord)) → AreTwo (s ∷ hs) (t ∷ ht) → s ≡ t
  same_shell s t hs ht h = by (shared (s ∷ hs) (t ∷ ht) h s (contains_here s hs))
    where
      by : Contains (t ∷ ht) s → s ≡ t
      by (zero, within, is) = sym is
      by (suc k, within, is) = absurd (turns_once (s ∷ hs) (t ∷ ht) h s (contains_here s hs) h.sound.shell_first.0 (All-contains IsHole ht s h.sound_too.shell_first.1 (k, omega arith, is)))

  hole_there : (s t : List Coord) (hs ht : List (List Coord)) → AreTwo (s ∷ hs) (t ∷ ht) → (hole : List Coord) → Contains hs hole → Contains ht hole
  hole_there s t hs ht h hole has = by (shared (s ∷ hs) (t ∷ ht) h hole (contains_there s hole hs has))
    where
      by : Contains (t ∷ ht) hole → Contains ht hole
      by (zero, within, is) = absurd (turns_once (s ∷ hs) (t ∷ ht) h hole (contains_there s hole hs has) (subst (λ ps. is_counter_clockwise ps ≡ true) is h.sound_too.shell_first.0) (All-contains IsHole hs hole h.sound.shell_first.1 has))
      by (suc k, within, is) = (k, omega arith, is)

  pub one_polygon : (rings others : List (List Coord)) → IsSound o inside rings → IsSound o inside others → IsPolyCanonical rings → IsPolyCanonical others → rings ≡ others
  one_polygon [] others sound sound_too canonical canonical_too = absurd sound.shell_first
  one_polygon (s ∷ hs) [] sound sound_too canonical canonical_too = absurd sound_too.shell_first
  one_polygon (s ∷ hs) (t ∷ ht) sound sound_too canonical canonical_too =
      let two : AreTwo (s ∷ hs) (t ∷ ht) = record { sound = sound; sound_too = sound_too; canonical = canonical; canonical_too = canonical_too } in
      let shell = same_shell s t hs ht two in
      let holes : hs ≡ ht = same_ordered (λ g h. IsTrue (is_lt (points_cmp g h))) points_both_ways hs ht canonical.holes canonical_too.holes
      (λ hole. (hole_there s t hs ht two hole, hole_there t s ht hs (other_way (s ∷ hs) (t ∷ ht) two) hole)) in
      λ i. shell i ∷ holes i
