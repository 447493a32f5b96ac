-- A ring that loses a point of an ear keeps two different points, and points can be taken out one after the other.
use mathlib.Core.List.{[], ◌∷◌}
use Rattle.std.proofs.Common.{◌≡◌, inl, inr, ⊎_elim, refl, sym, ◌∙◌, ap, subst, zero, suc, ℕ, ◌+◌, ◌%◌, ◌≤◌, ◌==◌, Bool, true, false, not, ◌||◌, cond, List, ◌++◌, map, arith}
use Rattle.std.specs.Prelude.{Contains, sum_by, flat_map}
use Rattle.std.proofs.lemmas.Bool.{false≢true, and_from}
use Rattle.std.proofs.lemmas.Bool.Decides.{Decides-eqb}
use Rattle.std.proofs.lemmas.List.Concat.{flat_map-cons}
use Rattle.std.proofs.lemmas.List.Sums.{sum_by-append}
use Rattle.cov_types.specs.declared.coord.Coord.{Coord}
use Rattle.cov_types.specs.declared.edge_use.EdgeUse.{EdgeUse}
use Rattle.cov_types.specs.declared.seg.Seg.{Seg}
use Rattle.cov_types.specs.Coverage.{Members, AllInRange}
use Rattle.std.specs.List.{enumerate_from}
use Rattle.cov_types.specs.Coord.{is_same_coord}
use Rattle.cov_types.specs.Seg.{IsSegBetween}
use Rattle.cov_types.specs.Uses.{ends_inside, ring_uses, poly_uses, member_uses, uses_of}
use Rattle.cov_types.proofs.EvenEnds.{even-ends}
use Rattle.cov_types.proofs.Equal.{Decides-same_coords}
use Rattle.plane.specs.Validity.{IsValid}
use Rattle.crossing_laws.proofs.Lists.{contains_here, contains_there, contains-map}
use Rattle.crossing_laws.specs.Across.{is_same_seg}
use Rattle.greedy_run.specs.Run.{Triangle, is_removed, current, is_one_point, ring_without, coverage_without}
use Rattle.removal_laws.specs.Exchange.{IsEar, value_after}
use Rattle.removal_laws.specs.Laws.{IsRingOf, KeepsRings}
use Rattle.removal_laws.proofs.Counts.{counts_use}
use Rattle.removal_laws.proofs.Exchange.{kind, first_adds, second_adds, third_adds, first_not_second, b_not_free, seg_is, ends_of_first, ends_of_second, ends_of_third, one_end, no_end_at, none_counts}
use Rattle.removal_laws.proofs.Members.{coverage_valid, IsPartOf, first_part, second_part, all_part}
use Rattle.removal_laws.proofs.Walks.{walk_sum, ring_sum, AllSteps, AllRound}
use Rattle.removal_laws.proofs.Rings.{IsUsed, used, side_cases, side_sum, sum_none, sum_some, ring_sum-uses, one_point_sum, round_used, ring_without_exchange}

-- ---- sums round a ring that are compared step by step

-- what holds of each step of some sums holds round the ring: the first is at most the second and the third together, the fourth at most the second, the fifth the fourth and the third
record AreSums (all after second first ends : ℕ) : Type 0 where
  most : all ≤ after + second
  first_most : first ≤ after
  by_ends : ends ≡ first + second

added : (a b c d e f g h i j : ℕ) → AreSums a b c d e → AreSums f g h i j → AreSums (a + f) (b + g) (c + h) (d + i) (e + j)
added a b c d e f g h i j x y = record {
  most = (let k = x.most in let l = y.most in omega arith);
  first_most = (let k = x.first_most in let l = y.first_most in omega arith);
  by_ends = (let k = x.by_ends in let l = y.by_ends in omega arith);
}

walk_sums : (ok : Coord → Coord → Type 0) (all after second first ends : Coord → Coord → ℕ) → ((p q : Coord) → ok p q → AreSums (all p q) (after p q) (second p q) (first p q) (ends p q))
    → (p : Coord) (points : List Coord) → AllSteps ok p points → AreSums (walk_sum all p points) (walk_sum after p points) (walk_sum second p points) (walk_sum first p points) (walk_sum ends p points)
walk_sums ok all after second first ends each p [] steps = record { most = omega arith; first_most = omega arith; by_ends = refl }
walk_sums ok all after second first ends each p (q ∷ rest) steps =
    added _ _ _ _ _ _ _ _ _ _ (each p q steps.0) (walk_sums ok all after second first ends each q rest steps.1)

-- where no step of a walk is a segment, its points are one
no_steps : (m : ℕ) (x : Coord) (xs : List Coord) (z : Coord) → walk_sum (side_sum m (λ u. 1)) x (xs ++ z ∷ []) ≡ 0 → is_one_point (x ∷ xs) ≡ true
no_steps m x [] z h = refl
no_steps m x (y ∷ ys) z h =
    elim (side_cases x y) [
      | inl none ↦ and_from (is_same_coord x y) (is_one_point (y ∷ ys)) ((Decides-same_coords x y).1 none.1) (no_steps m y ys z (omega arith))
      | inr some ↦ absurd (let one = sum_some m (λ u. 1) x y some.0 some.1.0 in omega arith)
    ]

of_one : {X : Type 0} (g : X → List EdgeUse) (x : X) (f : EdgeUse → ℕ) → sum_by f (flat_map g (x ∷ [])) ≡ sum_by f (g x)
of_one g x f = ap (sum_by f) (flat_map-cons g x []) ∙ sum_by-append f (g x) [] ∙ omega arith

-- the ends of a ring's sides at a point are even
ring_even : (points : List Coord) (inside : Coord → Bool) → ring_sum (side_sum 0 (λ u. cond (u.member == 0) (ends_inside inside u.seg) 0)) points % 2 ≡ 0
ring_even points inside =
    let f : EdgeUse → ℕ = λ u. cond (u.member == 0) (ends_inside inside u.seg) 0 in
    let ring : sum_by f (uses_of (((points ∷ []) ∷ []) ∷ [])) ≡ sum_by f (ring_uses 0 points) =
    of_one member_uses (0, (points ∷ []) ∷ []) f ∙ of_one (poly_uses 0) (points ∷ []) f ∙ of_one (ring_uses 0) points f in
    ap (λ n. n % 2) (sym (ring_sum-uses 0 f points) ∙ sym ring) ∙ even-ends (((points ∷ []) ∷ []) ∷ []) inside 0

module _ (t : Triangle) (ab bc ac : Seg) (old : List EdgeUse) (is_ear : IsEar t ab bc ac old) (valid : IsValid old) (m : ℕ) where
  abbrev ends_at_b : EdgeUse → ℕ
  ends_at_b u = cond (u.member == 0) (ends_inside (is_same_coord t.b) u.seg) 0

  abbrev Ok : Coord → Coord → Type 0
  Ok = IsUsed t ab bc ac old is_ear valid m (λ u. 1)

  -- of one use that is among the old ones
  use_sums : (e : Seg) → Contains old (record { member = m; seg = e })
      → AreSums 1 (value_after ab bc ac (λ u. 1) (record { member = m; seg = e })) (counts_use m bc (record { member = m; seg = e })) (counts_use m ab (record { member = m; seg = e })) (ends_inside (is_same_coord t.b) e)
  use_sums e has =
      let u : EdgeUse = record { member = m; seg = e } in
      let x = is_same_seg ab e in
      let y = is_same_seg bc e in
      let here : (m == m) ≡ true = (Decides-eqb m m).1 refl in
      elim (kind t ab bc ac old is_ear valid u has) [
        | inl first ↦ (
            let adds = first_adds t ab bc ac old is_ear valid (λ w. 1) u first in
            let ends = ends_of_first (m == m) x y (ends_inside (is_same_coord t.b) e) (one_end t.a t.b e (subst (λ s. IsSegBetween t.a t.b s) (seg_is ab e first.is) is_ear.sides.two.first)) first.is (first_not_second t ab bc ac old is_ear valid u first) in
            let whole = ap (λ (b : Bool). cond b (ends_inside (is_same_coord t.b) e) 0) here in
            let one = one_end t.a t.b e (subst (λ s. IsSegBetween t.a t.b s) (seg_is ab e first.is) is_ear.sides.two.first) in
            record { most = omega arith; first_most = omega arith; by_ends = sym whole ∙ ends }
            )
        | inr more ↦ elim more [
          | inl second ↦ (
              let adds = second_adds t ab bc ac old is_ear valid (λ w. 1) u second in
              let one = one_end t.c t.b e (⊎_elim inr inl (subst (λ s. IsSegBetween t.b t.c s) (seg_is bc e second.is) is_ear.sides.two.second)) in
              let ends = ends_of_second (m == m) x y (ends_inside (is_same_coord t.b) e) one second.not_first second.is in
              let whole = ap (λ (b : Bool). cond b (ends_inside (is_same_coord t.b) e) 0) here in
              let none = none_counts (m == m) x second.not_first in
              record { most = omega arith; first_most = omega arith; by_ends = sym whole ∙ ends }
              )
          | inr third ↦ (
              let adds = third_adds t ab bc ac old is_ear valid (λ w. 1) u third in
              let zero_ends = no_end_at t.b e (b_not_free t ab bc ac old is_ear valid e.lo third.free.free.lo) (b_not_free t ab bc ac old is_ear valid e.hi third.free.free.hi) in
              let ends = ends_of_third (m == m) x y (ends_inside (is_same_coord t.b) e) zero_ends third.not_first third.not_second in
              let whole = ap (λ (b : Bool). cond b (ends_inside (is_same_coord t.b) e) 0) here in
              let none = none_counts (m == m) x third.not_first in
              record { most = omega arith; first_most = omega arith; by_ends = sym whole ∙ ends }
              )
        ]
      ]

  side_sums : (p q : Coord) → Ok p q
      → AreSums (side_sum m (λ u. 1) p q) (side_sum m (value_after ab bc ac (λ u. 1)) p q) (side_sum m (counts_use m bc) p q) (side_sum m (counts_use m ab) p q) (side_sum 0 ends_at_b p q)
  side_sums p q ok =
      elim (side_cases p q) [
        | inl none ↦ (
            let a = sum_none m (λ u. 1) p q none.0 in
            let b = sum_none m (value_after ab bc ac (λ u. 1)) p q none.0 in
            let c = sum_none m (counts_use m bc) p q none.0 in
            let d = sum_none m (counts_use m ab) p q none.0 in
            let e = sum_none 0 ends_at_b p q none.0 in
            record { most = omega arith; first_most = omega arith; by_ends = omega arith }
            )
        | inr some ↦ (
            let (e, (is, ends)) = some in
            let sums = use_sums e (used t ab bc ac old is_ear valid m (λ u. 1) p q e is ok) in
            let k = sums.most in
            let l = sums.first_most in
            let n = sums.by_ends in
            let a = sum_some m (λ u. 1) p q e is in
            let b = sum_some m (value_after ab bc ac (λ u. 1)) p q e is in
            let c = sum_some m (counts_use m bc) p q e is in
            let d = sum_some m (counts_use m ab) p q e is in
            let g = sum_some 0 ends_at_b p q e is in
            record { most = omega arith; first_most = omega arith; by_ends = omega arith }
            )
      ]

  round_sums : (points : List Coord) → AllRound Ok points
      → AreSums (ring_sum (side_sum m (λ u. 1)) points) (ring_sum (side_sum m (value_after ab bc ac (λ u. 1))) points) (ring_sum (side_sum m (counts_use m bc)) points) (ring_sum (side_sum m (counts_use m ab)) points) (ring_sum (side_sum 0 ends_at_b) points)
  round_sums [] steps = record { most = omega arith; first_most = omega arith; by_ends = refl }
  round_sums (x ∷ xs) steps = walk_sums Ok _ _ _ _ _ side_sums x (xs ++ x ∷ []) steps

  one_point_of : (points : List Coord) → ring_sum (side_sum m (λ u. 1)) points ≡ 0 → is_one_point points ≡ true
  one_point_of [] h = refl
  one_point_of (x ∷ xs) h = no_steps m x xs x h

  -- a ring with two different points keeps two
  pub ring_keeps : (points : List Coord) → ((u : EdgeUse) → Contains (ring_uses m points) u → Contains old u)
      → sum_by (counts_use m ab) (ring_uses m points) ≤ 1 → sum_by (counts_use m bc) (ring_uses m points) ≤ 1
      → is_one_point (ring_without (t.b ∷ []) points) ≡ true → is_one_point points ≡ true
  ring_keeps points among one other h =
      let f : EdgeUse → ℕ = λ u. 1 in
      let sums = round_sums points (round_used t ab bc ac old is_ear valid m f points among) in
      let k = sums.most in
      let l = sums.first_most in
      let n = sums.by_ends in
      let change = ring_without_exchange t ab bc ac old is_ear valid m f points among one other in
      let before = ring_sum-uses m (value_after ab bc ac f) points in
      let after = ring_sum-uses m f (ring_without (t.b ∷ []) points) in
      let none = one_point_sum m f (ring_without (t.b ∷ []) points) h in
      let seconds = ring_sum-uses m (counts_use m bc) points in
      let even = ring_even points (is_same_coord t.b) in
      one_point_of points (omega arith)

-- ---- one point after the other

-- taking out b and others is taking out the others and then b
pub current_more : (b : Coord) (removed points : List Coord) → current (b ∷ removed) points ≡ current (b ∷ []) (current removed points)
current_more b removed [] = refl
current_more b removed (x ∷ xs) = step (current_more b removed xs) (is_same_coord x b) (is_removed removed x) refl
  where
    at : (s : Bool) → is_same_coord x b ≡ s → current (b ∷ []) (x ∷ current removed xs) ≡ cond (not (s || false)) (x ∷ current (b ∷ []) (current removed xs)) (current (b ∷ []) (current removed xs))
    at s e = ap (λ (t : Bool). cond (not (t || false)) (x ∷ current (b ∷ []) (current removed xs)) (current (b ∷ []) (current removed xs))) e

    step : current (b ∷ removed) xs ≡ current (b ∷ []) (current removed xs) → (s r : Bool) → is_same_coord x b ≡ s
        → cond (not (s || r)) (x ∷ current (b ∷ removed) xs) (current (b ∷ removed) xs) ≡ current (b ∷ []) (cond (not r) (x ∷ current removed xs) (current removed xs))
    step same true true e = same
    step same false true e = same
    step same true false e = same ∙ sym (at true e)
    step same false false e = ap (λ ps. x ∷ ps) same ∙ sym (at false e)

-- where the ring does not come to be of one point, so it is of rings
pub ring_without_more : (b : Coord) (removed points : List Coord) → (is_one_point (ring_without removed points) ≡ true → is_one_point points ≡ true)
    → ring_without (b ∷ removed) points ≡ ring_without (b ∷ []) (ring_without removed points)
ring_without_more b removed points keeps = by (is_one_point points) refl
  where
    by : (t : Bool) → is_one_point points ≡ t → ring_without (b ∷ removed) points ≡ ring_without (b ∷ []) (ring_without removed points)
    by true e =
        let of = λ (l : List Coord) (h : is_one_point points ≡ true). ap (λ (t : Bool). cond t points (current l points)) h in
        of (b ∷ removed) e ∙ sym (of (b ∷ []) e) ∙ sym (ap (ring_without (b ∷ [])) (of removed e))
    by false e =
        let of = λ (l : List Coord) (h : is_one_point points ≡ false). ap (λ (t : Bool). cond t points (current l points)) h in
        of (b ∷ removed) e ∙ current_more b removed points ∙ sym (still (is_one_point (current removed points)) refl) ∙ sym (ap (ring_without (b ∷ [])) (of removed e))
      where
        still : (t : Bool) → is_one_point (current removed points) ≡ t → ring_without (b ∷ []) (current removed points) ≡ current (b ∷ []) (current removed points)
        still false h = ap (λ (u : Bool). cond u (current removed points) (current (b ∷ []) (current removed points))) h
        still true h = absurd (false≢true (sym e ∙ keeps (ap is_one_point (ap (λ (u : Bool). cond u points (current removed points)) e) ∙ h)))

-- ---- the rings of a coverage

module _ (t : Triangle) (ab bc ac : Seg) (old : List EdgeUse) (is_ear : IsEar t ab bc ac old) (valid : IsValid old) where
  abbrev Part : List EdgeUse → Type 0
  Part = IsPartOf t ab bc ac old is_ear valid (λ u. 1)

  part_of_each : {X : Type 0} (uses : X → List EdgeUse) (xs : List X) (x : X) → Contains xs x → Part (flat_map uses xs) → Part (uses x)
  part_of_each uses [] x (k, inside, is) part = absurd (omega arith)
  part_of_each uses (y ∷ ys) x (zero, inside, is) part =
      subst (λ z. Part (uses z)) is (first_part t ab bc ac old is_ear valid (λ u. 1) (uses y) (flat_map uses ys) (subst Part (flat_map-cons uses y ys) part))
  part_of_each uses (y ∷ ys) x (suc k, inside, is) part =
      part_of_each uses ys x (k, omega arith, is) (second_part t ab bc ac old is_ear valid (λ u. 1) (uses y) (flat_map uses ys) (subst Part (flat_map-cons uses y ys) part))

  part_of_member : (m : ℕ) (members : Members) (x : List (List (List Coord))) → Contains members x → Part (flat_map member_uses (enumerate_from m members)) → (k : ℕ) × Part (member_uses (k, x))
  part_of_member m [] x (k, inside, is) part = absurd (omega arith)
  part_of_member m (y ∷ ys) x (zero, inside, is) part =
      let more = enumerate_from (m + 1) ys in
      (m, subst (λ z. Part (member_uses (m, z))) is (first_part t ab bc ac old is_ear valid (λ u. 1) (member_uses (m, y)) (flat_map member_uses more) (subst Part (flat_map-cons member_uses (m, y) more) part)))
  part_of_member m (y ∷ ys) x (suc k, inside, is) part =
      let more = enumerate_from (m + 1) ys in
      part_of_member (m + 1) ys x (k, omega arith, is) (second_part t ab bc ac old is_ear valid (λ u. 1) (member_uses (m, y)) (flat_map member_uses more) (subst Part (flat_map-cons member_uses (m, y) more) part))

-- a ring of a valid coverage that has two different points keeps two without b
pub coverage_keeps : (t : Triangle) (ab bc ac : Seg) (members : Members) → IsEar t ab bc ac (uses_of members) → IsValid (uses_of members)
    → (points : List Coord) → IsRingOf members points → is_one_point (ring_without (t.b ∷ []) points) ≡ true → is_one_point points ≡ true
coverage_keeps t ab bc ac members is_ear valid points h one =
    let old = uses_of members in
    let (k, member) = part_of_member t ab bc ac old is_ear valid 0 members h.member h.in_members (all_part t ab bc ac old is_ear valid (λ u. 1)) in
    let poly = part_of_each t ab bc ac old is_ear valid (poly_uses k) h.member h.poly h.in_member member in
    let ring = part_of_each t ab bc ac old is_ear valid (ring_uses k) h.poly points h.in_poly poly in
    ring_keeps t ab bc ac old is_ear valid k points ring.among (ring.one k) (ring.other k) one

-- ---- a coverage without one point more

map_more : {X : Type 0} (f g h : X → X) (xs : List X) → ((x : X) → Contains xs x → f x ≡ g (h x)) → map f xs ≡ map g (map h xs)
map_more f g h [] each = refl
map_more f g h (x ∷ xs) each = λ i. each x (contains_here x xs) i ∷ map_more f g h xs (λ y has. each y (contains_there x y xs has)) i

-- where no ring comes to be of one point, a coverage without b and others is that without the others, without b
pub coverage_without_more : (b : Coord) (removed : List Coord) (members : Members)
    → ((points : List Coord) → IsRingOf members points → is_one_point (ring_without removed points) ≡ true → is_one_point points ≡ true)
    → coverage_without (b ∷ removed) members ≡ coverage_without (b ∷ []) (coverage_without removed members)
coverage_without_more b removed members keeps =
    map_more (map (map (ring_without (b ∷ removed)))) (map (map (ring_without (b ∷ [])))) (map (map (ring_without removed))) members
    (λ member in_members.
    map_more (map (ring_without (b ∷ removed))) (map (ring_without (b ∷ []))) (map (ring_without removed)) member
    (λ poly in_member.
    map_more (ring_without (b ∷ removed)) (ring_without (b ∷ [])) (ring_without removed) poly
    (λ points in_poly.
    ring_without_more b removed points (keeps points (record { member = member; in_members = in_members; poly = poly; in_member = in_member; in_poly = in_poly })))))

-- ---- one step of a run

-- the state after the step is valid, and no ring comes to be of one point
pub step : (t : Triangle) (ab bc ac : Seg) (members : Members) (removed : List Coord) → KeepsRings members removed → AllInRange (coverage_without removed members)
    → IsEar t ab bc ac (uses_of (coverage_without removed members)) → IsValid (uses_of (coverage_without removed members))
    → IsValid (uses_of (coverage_without (t.b ∷ removed) members)) × KeepsRings members (t.b ∷ removed)
step t ab bc ac members removed keeps range is_ear valid = (
  subst (λ (m : Members). IsValid (uses_of m)) (sym (coverage_without_more t.b removed members keeps)) (coverage_valid t ab bc ac (coverage_without removed members) range is_ear valid),
  λ points ring one. keeps points ring
      (coverage_keeps t ab bc ac (coverage_without removed members) is_ear valid (ring_without removed points)
      (record {
        member = map (λ rings. map (ring_without removed) rings) ring.member;
        in_members = contains-map (λ polys. map (λ rings. map (ring_without removed) rings) polys) members ring.member ring.in_members;
        poly = map (ring_without removed) ring.poly;
        in_member = contains-map (λ rings. map (ring_without removed) rings) ring.member ring.poly ring.in_member;
        in_poly = contains-map (ring_without removed) ring.poly points ring.in_poly;
      })
      (ap is_one_point (sym (ring_without_more t.b removed points (keeps points ring))) ∙ one)),
)
