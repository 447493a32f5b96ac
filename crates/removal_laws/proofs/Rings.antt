-- The uses of a ring without b are those that the exchange gives.
use mathlib.Core.List.{[], ◌∷◌}
use Rattle.std.proofs.Common.{◌≡◌, ◌⊎◌, inl, inr, ⊎_elim, refl, sym, ◌∙◌, ap, subst, ℕ, ◌+◌, ◌≤◌, Bool, true, false, not, ◌||◌, ◌&&◌, cond, List, ◌++◌, map, zip, arith}
use Rattle.std.specs.Prelude.{Contains, sum_by, filter, flat_map, Option, Some, None, option_to_list}
use Rattle.std.proofs.lemmas.Bool.{false≢true, and_parts}
use Rattle.std.proofs.lemmas.List.Elements.{Contains-append_left, Contains-append_right}
use Rattle.std.proofs.lemmas.List.Concat.{flat_map-cons}
use Rattle.std.proofs.lemmas.List.Sums.{sum_by-append}
use Rattle.cov_types.specs.declared.coord.Coord.{Coord}
use Rattle.cov_types.specs.declared.edge_use.EdgeUse.{EdgeUse}
use Rattle.cov_types.specs.declared.seg.Seg.{Seg}
use Rattle.cov_types.specs.Coord.{is_same_coord}
use Rattle.cov_types.specs.Seg.{IsSegBetween}
use Rattle.cov_types.specs.Uses.{seg_between, side_uses, ring_uses}
use Rattle.cov_types.proofs.Between.{seg_between_by_ends, seg_between-same}
use Rattle.cov_types.proofs.Equal.{Decides-same_coords}
use Rattle.plane.specs.Validity.{IsValid}
use Rattle.crossing_laws.proofs.Lists.{contains_here, contains_there}
use Rattle.greedy_run.specs.Run.{Triangle, is_removed, is_one_point, ring_without}
use Rattle.greedy_run.proofs.OneLine.{is_between}
use Rattle.removal_laws.specs.Exchange.{IsEar, value_after}
use Rattle.removal_laws.proofs.Counts.{counts_use, use_counts}
use Rattle.removal_laws.proofs.Exchange.{kind, coord_cases, first_adds, second_adds, third_adds, b_not_free, seg_is, other_end, ends_differ}
use Rattle.removal_laws.proofs.Walks.{walk_sum, ring_sum, AllSteps, AllRound, ring_kept}

-- ---- the side between two points

-- no segment, or one between the points
abbrev pub SideCases : Coord → Coord → Option Seg → Type 0
SideCases p q o = ((o ≡ None) × (p ≡ q)) ⊎ ((e : Seg) × ((o ≡ Some e) × IsSegBetween p q e))

pub side_cases : (p q : Coord) → SideCases p q (seg_between p q)
side_cases p q =
    seg_between_by_ends (SideCases p q) p q
    (λ s lo hi. inr (s, (refl, inl (lo, hi)))) (λ s lo hi. inr (s, (refl, inr (lo, hi)))) (λ e. inl (refl, e))

uses_none : (m : ℕ) (p q : Coord) → seg_between p q ≡ None → side_uses m (p, q) ≡ []
uses_none m p q e = ap (λ o. map (λ s. record { member = m; seg = s }) (option_to_list o)) e

uses_some : (m : ℕ) (p q : Coord) (e : Seg) → seg_between p q ≡ Some e → side_uses m (p, q) ≡ record { member = m; seg = e } ∷ []
uses_some m p q e is = ap (λ o. map (λ s. record { member = m; seg = s }) (option_to_list o)) is

-- what a side adds to a sum
abbrev pub side_sum : ℕ → (EdgeUse → ℕ) → Coord → Coord → ℕ
side_sum m f p q = sum_by f (side_uses m (p, q))

pub sum_none : (m : ℕ) (f : EdgeUse → ℕ) (p q : Coord) → seg_between p q ≡ None → side_sum m f p q ≡ 0
sum_none m f p q e = ap (sum_by f) (uses_none m p q e)

pub sum_some : (m : ℕ) (f : EdgeUse → ℕ) (p q : Coord) (e : Seg) → seg_between p q ≡ Some e → side_sum m f p q ≡ f (record { member = m; seg = e })
sum_some m f p q e is = ap (sum_by f) (uses_some m p q e is) ∙ omega arith

-- ---- one ring

zipped : (m : ℕ) (f : EdgeUse → ℕ) (x : Coord) (xs : List Coord) (z : Coord) → sum_by f (flat_map (side_uses m) (zip (x ∷ xs) (xs ++ z ∷ []))) ≡ walk_sum (side_sum m f) x (xs ++ z ∷ [])
zipped m f x [] z = ap (sum_by f) (flat_map-cons (side_uses m) (x, z) []) ∙ sum_by-append f (side_uses m (x, z)) []
zipped m f x (y ∷ ys) z =
    ap (sum_by f) (flat_map-cons (side_uses m) (x, y) (zip (y ∷ ys) (ys ++ z ∷ [])))
    ∙ sum_by-append f (side_uses m (x, y)) (flat_map (side_uses m) (zip (y ∷ ys) (ys ++ z ∷ [])))
    ∙ ap (λ n. side_sum m f x y + n) (zipped m f y ys z)

-- the sum over the uses of a ring is that round it
pub ring_sum-uses : (m : ℕ) (f : EdgeUse → ℕ) (points : List Coord) → sum_by f (ring_uses m points) ≡ ring_sum (side_sum m f) points
ring_sum-uses m f [] = refl
ring_sum-uses m f (x ∷ xs) = zipped m f x xs x

-- ---- a ring whose uses are among those of an ear

module _ (t : Triangle) (ab bc ac : Seg) (old : List EdgeUse) (is_ear : IsEar t ab bc ac old) (valid : IsValid old) (m : ℕ) (f : EdgeUse → ℕ) where
  -- whether the point stays
  abbrev pub stays : Coord → Bool
  stays p = not (is_removed (t.b ∷ []) p)

  -- the uses of the side are among the old ones
  abbrev pub IsUsed : Coord → Coord → Type 0
  IsUsed p q = (u : EdgeUse) → Contains (side_uses m (p, q)) u → Contains old u

  pub used : (p q : Coord) (e : Seg) → seg_between p q ≡ Some e → IsUsed p q → Contains old (record { member = m; seg = e })
  used p q e is ok = ok _ (subst (λ us. Contains us (record { member = m; seg = e })) (sym (uses_some m p q e is)) (contains_here (record { member = m; seg = e }) []))

  -- a side away from b stays
  side_stays : (p q : Coord) → ¬ (p ≡ t.b) → ¬ (q ≡ t.b) → IsUsed p q → side_sum m (value_after ab bc ac f) p q ≡ side_sum m f p q
  side_stays p q hp hq ok =
      elim (side_cases p q) [
        | inl none ↦ sum_none m (value_after ab bc ac f) p q none.0 ∙ sym (sum_none m f p q none.0)
        | inr some ↦ (
            let (e, (is, ends)) = some in
            let u : EdgeUse = record { member = m; seg = e } in
            let adds : value_after ab bc ac f u ≡ f u =
            elim (kind t ab bc ac old is_ear valid u (used p q e is ok)) [
              | inl first ↦ absurd (away e p q ends t.a (subst (λ s. IsSegBetween t.a t.b s) (seg_is ab e first.is) is_ear.sides.two.first) hp hq)
              | inr more ↦ elim more [
                | inl second ↦ absurd (away e p q ends t.c (⊎_elim inr inl (subst (λ s. IsSegBetween t.b t.c s) (seg_is bc e second.is) is_ear.sides.two.second)) hp hq)
                | inr third ↦ third_adds t ab bc ac old is_ear valid f u third
              ]
            ] in
            sum_some m (value_after ab bc ac f) p q e is ∙ adds ∙ sym (sum_some m f p q e is)
            )
      ]
    where
      away : (e : Seg) (p q : Coord) → IsSegBetween p q e → (v : Coord) → IsSegBetween v t.b e → ¬ (p ≡ t.b) → ¬ (q ≡ t.b) → ⊥
      away e p q (inl (lo, hi)) v (inl (lo_too, hi_too)) hp hq = hq (sym hi ∙ hi_too)
      away e p q (inl (lo, hi)) v (inr (lo_too, hi_too)) hp hq = hp (sym lo ∙ lo_too)
      away e p q (inr (lo, hi)) v (inl (lo_too, hi_too)) hp hq = hp (sym hi ∙ hi_too)
      away e p q (inr (lo, hi)) v (inr (lo_too, hi_too)) hp hq = hq (sym lo ∙ lo_too)

  -- a side at b, with its other end p
  record IsAtFirst (p : Coord) (after one : ℕ) : Type 0 where
    corner : p ≡ t.a
    adds : after ≡ f (record { member = m; seg = ac })
    counts : one ≡ 1

  record IsAtSecond (p : Coord) (after other : ℕ) : Type 0 where
    corner : p ≡ t.c
    adds : after ≡ 0
    counts : other ≡ 1

  abbrev AtB : Coord → Coord → Coord → Type 0
  AtB o p q = IsAtFirst o (side_sum m (value_after ab bc ac f) p q) (side_sum m (counts_use m ab) p q) ⊎ IsAtSecond o (side_sum m (value_after ab bc ac f) p q) (side_sum m (counts_use m bc) p q)

  -- the segment of the side from p to q is of ab or bc, where o is its end that is not b
  at_b : (o p q : Coord) (e : Seg) → seg_between p q ≡ Some e → IsSegBetween o t.b e → IsUsed p q → AtB o p q
  at_b o p q e is ends ok =
      let u : EdgeUse = record { member = m; seg = e } in
      elim (kind t ab bc ac old is_ear valid u (used p q e is ok)) [
        | inl first ↦ (
            let same = seg_is ab e first.is in
            inl (record {
              corner = other_end o t.b t.a e ends (⊎_elim inr inl (subst (λ s. IsSegBetween t.a t.b s) same is_ear.sides.two.first));
              adds = sum_some m (value_after ab bc ac f) p q e is ∙ first_adds t ab bc ac old is_ear valid f u first;
              counts = sum_some m (counts_use m ab) p q e is ∙ ap (λ (s : Seg). counts_use m ab (record { member = m; seg = s })) (sym same) ∙ use_counts m ab;
            })
            )
        | inr more ↦ elim more [
          | inl second ↦ (
              let same = seg_is bc e second.is in
              inr (record {
                corner = other_end o t.b t.c e ends (subst (λ s. IsSegBetween t.b t.c s) same is_ear.sides.two.second);
                adds = sum_some m (value_after ab bc ac f) p q e is ∙ second_adds t ab bc ac old is_ear valid f u second;
                counts = sum_some m (counts_use m bc) p q e is ∙ ap (λ (s : Seg). counts_use m bc (record { member = m; seg = s })) (sym same) ∙ use_counts m bc;
              })
              )
          | inr third ↦ absurd (⊎_elim
              (λ h. b_not_free t ab bc ac old is_ear valid e.hi third.free.free.hi (sym h.1))
              (λ h. b_not_free t ab bc ac old is_ear valid e.lo third.free.free.lo (sym h.0)) ends)
        ]
      ]

  side_through : (p q : Coord) → ¬ (p ≡ t.b) → ¬ (q ≡ t.b) → IsUsed p t.b → IsUsed t.b q
      → side_sum m (counts_use m ab) p t.b + side_sum m (counts_use m ab) t.b q ≤ 1 → side_sum m (counts_use m bc) p t.b + side_sum m (counts_use m bc) t.b q ≤ 1
      → side_sum m (value_after ab bc ac f) p t.b + side_sum m (value_after ab bc ac f) t.b q ≡ side_sum m f p q
  side_through p q hp hq ok_p ok_q most_ab most_bc =
      elim (side_cases p t.b) [
        | inl none ↦ absurd (hp none.1)
        | inr some ↦ elim (side_cases t.b q) [
          | inl none ↦ absurd (hq (sym none.1))
          | inr other ↦ (
              let (d, (is_d, ends_d)) = some in
              let (e, (is_e, ends_e)) = other in
              elim (at_b p p t.b d is_d ends_d ok_p) [
                | inl first ↦ elim (at_b q t.b q e is_e (⊎_elim inr inl ends_e) ok_q) [
                  | inl again ↦ absurd (let x = first.counts in let y = again.counts in omega arith)
                  | inr second ↦ (
                      let third = sum_some m f t.a t.c ac (is_between t.a t.c ac is_ear.sides.third) in
                      let x = first.adds in
                      let y = second.adds in
                      omega arith ∙ sym (third_side first.corner second.corner third)
                      )
                ]
                | inr second ↦ elim (at_b q t.b q e is_e (⊎_elim inr inl ends_e) ok_q) [
                  | inr again ↦ absurd (let x = second.counts in let y = again.counts in omega arith)
                  | inl first ↦ (
                      let third = sum_some m f t.c t.a ac (is_between t.c t.a ac (⊎_elim inr inl is_ear.sides.third)) in
                      let x = first.adds in
                      let y = second.adds in
                      omega arith ∙ sym (third_side second.corner first.corner third)
                      )
                ]
              ]
              )
        ]
      ]
    where
      third_side : {v w : Coord} {n : ℕ} → p ≡ v → q ≡ w → side_sum m f v w ≡ n → side_sum m f p q ≡ n
      third_side e g h = (λ i. side_sum m f (e i) (g i)) ∙ h

  stays_cases : (p : Coord) → (is_same_coord p t.b ≡ true) ⊎ (is_same_coord p t.b ≡ false)
  stays_cases p = by (is_same_coord p t.b)
    where
      by : (x : Bool) → (x ≡ true) ⊎ (x ≡ false)
      by true = inl refl
      by false = inr refl

  stays_apart : (p : Coord) → stays p ≡ true → ¬ (p ≡ t.b)
  stays_apart p h e = false≢true (ap (λ (x : Bool). not (x || false)) (sym ((Decides-same_coords p t.b).1 e)) ∙ h)

  gone_is : (p : Coord) → stays p ≡ false → p ≡ t.b
  gone_is p h =
      elim (stays_cases p) [
        | inl same ↦ (Decides-same_coords p t.b).0 same
        | inr differs ↦ absurd (false≢true (sym h ∙ ap (λ (x : Bool). not (x || false)) differs))
      ]

  -- the exchange on a ring of which some point stays
  pub ring_exchange : (points : List Coord) → ((p : Coord) × (Contains points p × (stays p ≡ true))) → AllRound IsUsed points
      → ring_sum (side_sum m (counts_use m ab)) points ≤ 1 → ring_sum (side_sum m (counts_use m bc)) points ≤ 1
      → ring_sum (side_sum m (value_after ab bc ac f)) points ≡ ring_sum (side_sum m f) (filter stays points)
  ring_exchange =
      ring_kept t.b stays (side_sum m (value_after ab bc ac f)) (side_sum m f) (side_sum m (counts_use m ab)) (side_sum m (counts_use m bc)) IsUsed
      (ap (λ (x : Bool). not (x || false)) ((Decides-same_coords t.b t.b).1 refl)) stays_apart gone_is
      (elim (side_cases t.b t.b) [
        | inl none ↦ sum_none m (value_after ab bc ac f) t.b t.b none.0
        | inr some ↦ absurd (ends_differ t.b t.b some.0 some.1.1 refl)
      ])
      side_stays side_through

-- ---- rings of one point

-- the first two points of such a ring are one, and so are the others
one_point_parts : (x y : Coord) (rest : List Coord) → is_one_point (x ∷ y ∷ rest) ≡ true → (x ≡ y) × (is_one_point (y ∷ rest) ≡ true)
one_point_parts x y rest h = let parts = and_parts (is_same_coord x y) (is_one_point (y ∷ rest)) h in ((Decides-same_coords x y).0 parts.0, parts.1)

one_point_walk : (m : ℕ) (f : EdgeUse → ℕ) (x : Coord) (xs : List Coord) (z : Coord) → is_one_point (x ∷ xs) ≡ true → x ≡ z → walk_sum (side_sum m f) x (xs ++ z ∷ []) ≡ 0
one_point_walk m f x [] z h e = ap (λ n. n + 0) (sum_none m f x z (seg_between-same x z e))
one_point_walk m f x (y ∷ ys) z h e =
    let parts = one_point_parts x y ys h in
    let first = sum_none m f x y (seg_between-same x y parts.0) in
    let rest = one_point_walk m f y ys z parts.1 (sym parts.0 ∙ e) in
    omega arith

pub one_point_sum : (m : ℕ) (f : EdgeUse → ℕ) (points : List Coord) → is_one_point points ≡ true → ring_sum (side_sum m f) points ≡ 0
one_point_sum m f [] h = refl
one_point_sum m f (x ∷ xs) h = one_point_walk m f x xs x h refl

-- ---- a ring and the ring without b

module _ (t : Triangle) (ab bc ac : Seg) (old : List EdgeUse) (is_ear : IsEar t ab bc ac old) (valid : IsValid old) (m : ℕ) (f : EdgeUse → ℕ) where
  abbrev keeps : Coord → Bool
  keeps = stays t ab bc ac old is_ear valid m f

  abbrev Used : Coord → Coord → Type 0
  Used = IsUsed t ab bc ac old is_ear valid m f

  -- of a ring whose points are not all one, some point stays
  some_stays : (points : List Coord) → is_one_point points ≡ false → (p : Coord) × (Contains points p × (keeps p ≡ true))
  some_stays [] h = absurd (false≢true (sym h))
  some_stays (x ∷ []) h = absurd (false≢true (sym h))
  some_stays (x ∷ y ∷ rest) h = by (some_stays (y ∷ rest)) (coord_cases x y)
    where
      keeps_is : (p : Coord) → is_same_coord p t.b ≡ false → keeps p ≡ true
      keeps_is p e = ap (λ (b : Bool). not (b || false)) e

      by : (is_one_point (y ∷ rest) ≡ false → (p : Coord) × (Contains (y ∷ rest) p × (keeps p ≡ true)))
          → (is_same_coord x y ≡ true) ⊎ (is_same_coord x y ≡ false) → (p : Coord) × (Contains (x ∷ y ∷ rest) p × (keeps p ≡ true))
      by later (inl same) =
          let found = later (sym (ap (λ (b : Bool). b && is_one_point (y ∷ rest)) same) ∙ h) in
          (found.0, (contains_there x found.0 (y ∷ rest) found.1.0, found.1.1))
      by later (inr differs) =
          elim (coord_cases x t.b) [
            | inr away ↦ (x, (contains_here x (y ∷ rest), keeps_is x away))
            | inl at ↦ elim (coord_cases y t.b) [
              | inr away ↦ (y, (contains_there x y (y ∷ rest) (contains_here y rest), keeps_is y away))
              | inl at_too ↦ absurd (false≢true (sym differs ∙ (Decides-same_coords x y).1 ((Decides-same_coords x t.b).0 at ∙ sym ((Decides-same_coords y t.b).0 at_too))))
            ]
          ]

  all_used : (x : Coord) (xs : List Coord) (z : Coord) → ((u : EdgeUse) → Contains (flat_map (side_uses m) (zip (x ∷ xs) (xs ++ z ∷ []))) u → Contains old u) → AllSteps Used x (xs ++ z ∷ [])
  all_used x [] z h = (λ u has. h u (subst (λ us. Contains us u) (sym (flat_map-cons (side_uses m) (x, z) [])) (Contains-append_left (side_uses m (x, z)) [] u has)), tt)
  all_used x (y ∷ ys) z h =
      let more = zip (y ∷ ys) (ys ++ z ∷ []) in
      let split = flat_map-cons (side_uses m) (x, y) more in (
        λ u has. h u (subst (λ us. Contains us u) (sym split) (Contains-append_left (side_uses m (x, y)) (flat_map (side_uses m) more) u has)),
        all_used y ys z (λ u has. h u (subst (λ us. Contains us u) (sym split) (Contains-append_right (side_uses m (x, y)) (flat_map (side_uses m) more) u has))),
      )

  pub round_used : (points : List Coord) → ((u : EdgeUse) → Contains (ring_uses m points) u → Contains old u) → AllRound Used points
  round_used [] h = tt
  round_used (x ∷ xs) h = all_used x xs x h

  -- the exchange on a ring of the old coverage
  pub ring_without_exchange : (points : List Coord) → ((u : EdgeUse) → Contains (ring_uses m points) u → Contains old u)
      → sum_by (counts_use m ab) (ring_uses m points) ≤ 1 → sum_by (counts_use m bc) (ring_uses m points) ≤ 1
      → sum_by (value_after ab bc ac f) (ring_uses m points) ≡ sum_by f (ring_uses m (ring_without (t.b ∷ []) points))
  ring_without_exchange points among one other = by (is_one_point points) refl
    where
      by : (b : Bool) → is_one_point points ≡ b → sum_by (value_after ab bc ac f) (ring_uses m points) ≡ sum_by f (ring_uses m (ring_without (t.b ∷ []) points))
      by true e =
          ring_sum-uses m (value_after ab bc ac f) points ∙ one_point_sum m (value_after ab bc ac f) points e
          ∙ sym (one_point_sum m f points e) ∙ sym (ring_sum-uses m f points)
          ∙ ap (λ (b : Bool). sum_by f (ring_uses m (cond b points (filter keeps points)))) (sym e)
      by false e =
          ring_sum-uses m (value_after ab bc ac f) points
          ∙ ring_exchange t ab bc ac old is_ear valid m f points (some_stays points e) (round_used points among)
          (subst (λ n. n ≤ 1) (ring_sum-uses m (counts_use m ab) points) one) (subst (λ n. n ≤ 1) (ring_sum-uses m (counts_use m bc) points) other)
          ∙ sym (ring_sum-uses m f (filter keeps points))
          ∙ ap (λ (b : Bool). sum_by f (ring_uses m (cond b points (filter keeps points)))) (sym e)
