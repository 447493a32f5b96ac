-- What the uses without b are, that none of them stands twice, and that they meet in ends alone.
use Rattle.std.proofs.Common.{◌≡◌, ◌⊎◌, inl, inr, ⊎_elim, refl, sym, ◌∙◌, ap, subst, ℕ, ◌+◌, ◌*◌, ◌%◌, ◌≤◌, ◌==◌, ◌&&◌, Bool, true, false, cond, List, map, arith}
use Rattle.std.specs.Prelude.{Contains, sum_by}
use Rattle.std.proofs.lemmas.Bool.{false≢true}
use Rattle.cov_types.specs.declared.coord.Coord.{Coord}
use Rattle.cov_types.specs.declared.edge_use.EdgeUse.{EdgeUse}
use Rattle.cov_types.specs.declared.seg.Seg.{Seg}
use Rattle.cov_types.specs.Seg.{IsSegBetween}
use Rattle.cov_types.specs.Coord.{is_same_coord}
use Rattle.cov_types.specs.Range.{IsSegInRange}
use Rattle.cov_types.specs.Uses.{ends_inside, HasEvenEnds}
use Rattle.cov_types.proofs.Equal.{Decides-same_coords, Decides-same_segs, same_uses}
use Rattle.plane.specs.Joined.{IsOff}
use Rattle.plane.specs.Parity.{member_holds}
use Rattle.plane.specs.Point.{Point, SamePoint, at_coord}
use Rattle.plane.specs.Ray.{is_over}
use Rattle.plane.specs.Segment.{IsOn}
use Rattle.plane.proofs.Contacts.{ends_apart}
use Rattle.plane.proofs.Points.{same_point-refl, second_between}
use Rattle.plane.proofs.Sweeps.{rises-in_range}
use Rattle.crossing_laws.proofs.Lists.{contains-map, sums_agree, sum_splits}
use Rattle.crossing_laws.proofs.Sums.{member_holds-joined}
use Rattle.crossing_laws.proofs.Ways.{joined-sym, joined_off}
use Rattle.arrangement.proofs.Labels.{mapped}
use Rattle.plane.specs.Noded.{MeetInEnds}
use Rattle.plane.specs.Validity.{IsRepeated, IsValid}
use Rattle.crossing_laws.specs.Across.{is_same_seg}
use Rattle.greedy_run.specs.Run.{Triangle}
use Rattle.removal_laws.specs.Ear.{IsWithin, IsFree, MeetsInEndsAlone, IsFreeOf, IsOther}
use Rattle.removal_laws.specs.Exchange.{IsEar, value_after, IsExchange}
use Rattle.removal_laws.specs.Laws.{IsRemoval}
use Rattle.removal_laws.proofs.Counts.{one_of_sum, some_counted, sum_at_most, sum_scaled, counts_use, use_counts, counted_is, has_times, times_has, repeated_of, twice_of}
use Rattle.removal_laws.proofs.Ear.{within_first, within_second, within_third, between_ends, ear}
use Rattle.removal_laws.proofs.Inner.{flat_third, way_out, within_or_not}
use Rattle.removal_laws.proofs.Odd.{IsOddOf, one_side, strictly_of}

same_seg_cases : (e f : Seg) → (is_same_seg e f ≡ true) ⊎ (is_same_seg e f ≡ false)
same_seg_cases e f = by (is_same_seg e f)
  where
    by : (b : Bool) → (b ≡ true) ⊎ (b ≡ false)
    by true = inl refl
    by false = inr refl

pub seg_is : (e f : Seg) → is_same_seg e f ≡ true → e ≡ f
seg_is e f h = (Decides-same_segs e f).0 h

pub not_seg : (e f : Seg) → ¬ (e ≡ f) → is_same_seg e f ≡ false
not_seg e f apart =
    elim (same_seg_cases e f) [
      | inl same ↦ absurd (apart (seg_is e f same))
      | inr differs ↦ differs
    ]

-- over plain tests
first_counts : (a b c : Bool) → c ≡ true → cond {A = ℕ} (a && b) 1 0 ≤ cond {A = ℕ} (a && c) 1 0
first_counts true true true h = omega arith
first_counts true false true h = omega arith
first_counts a b false h = absurd (false≢true h)
first_counts false b true h = omega arith

pub none_counts : (a b : Bool) → b ≡ false → cond {A = ℕ} (a && b) 1 0 ≡ 0
none_counts true true h = absurd (false≢true (sym h))
none_counts true false h = refl
none_counts false b h = refl

-- ---- ends

pub ends_differ : (v w : Coord) (s : Seg) → IsSegBetween v w s → ¬ (v ≡ w)
ends_differ v w s (inl (lo, hi)) e = ends_apart s (subst (λ (c : Coord). SamePoint (at_coord s.lo) (at_coord c)) (lo ∙ e ∙ sym hi) (same_point-refl (at_coord s.lo)))
ends_differ v w s (inr (lo, hi)) e = ends_apart s (subst (λ (c : Coord). SamePoint (at_coord s.lo) (at_coord c)) (lo ∙ sym e ∙ sym hi) (same_point-refl (at_coord s.lo)))

-- a segment between two pairs of points that share one: the others are one point
pub other_end : (a b c : Coord) (s : Seg) → IsSegBetween a b s → IsSegBetween b c s → a ≡ c
other_end a b c s (inl (lo, hi)) (inl (lo_too, hi_too)) = sym lo ∙ lo_too ∙ sym hi ∙ hi_too
other_end a b c s (inl (lo, hi)) (inr (lo_too, hi_too)) = sym lo ∙ lo_too
other_end a b c s (inr (lo, hi)) (inl (lo_too, hi_too)) = sym hi ∙ hi_too
other_end a b c s (inr (lo, hi)) (inr (lo_too, hi_too)) = sym hi ∙ hi_too ∙ sym lo ∙ lo_too

-- over plain tests
one_passes : (x y : Bool) → x ≡ false → y ≡ true → cond {A = ℕ} x 1 0 + cond {A = ℕ} y 1 0 ≡ 1
one_passes true y h k = absurd (false≢true (sym h))
one_passes false true h k = refl
one_passes false false h k = absurd (false≢true k)

none_passes : (x y : Bool) → x ≡ false → y ≡ false → cond {A = ℕ} x 1 0 + cond {A = ℕ} y 1 0 ≡ 0
none_passes true y h k = absurd (false≢true (sym h))
none_passes false true h k = absurd (false≢true (sym k))
none_passes false false h k = refl

pub coord_cases : (v w : Coord) → (is_same_coord v w ≡ true) ⊎ (is_same_coord v w ≡ false)
coord_cases v w = by (is_same_coord v w)
  where
    by : (b : Bool) → (b ≡ true) ⊎ (b ≡ false)
    by true = inl refl
    by false = inr refl

not_coord : (v w : Coord) → ¬ (v ≡ w) → is_same_coord v w ≡ false
not_coord v w apart =
    elim (coord_cases v w) [
      | inl same ↦ absurd (apart ((Decides-same_coords v w).0 same))
      | inr differs ↦ differs
    ]

-- a segment has one end at each of its ends
pub one_end : (v w : Coord) (s : Seg) → IsSegBetween v w s → ends_inside (is_same_coord w) s ≡ 1
one_end v w s (inl (lo, hi)) =
    one_passes (is_same_coord w s.lo) (is_same_coord w s.hi)
    (not_coord w s.lo (λ e. ends_differ v w s (inl (lo, hi)) (sym lo ∙ sym e))) ((Decides-same_coords w s.hi).1 (sym hi))
one_end v w s (inr (lo, hi)) =
    add_comm (cond {A = ℕ} (is_same_coord w s.lo) 1 0) (cond {A = ℕ} (is_same_coord w s.hi) 1 0)
    ∙ one_passes (is_same_coord w s.hi) (is_same_coord w s.lo)
    (not_coord w s.hi (λ e. ends_differ v w s (inr (lo, hi)) (sym hi ∙ sym e))) ((Decides-same_coords w s.lo).1 (sym lo))
  where
    add_comm : (m n : ℕ) → m + n ≡ n + m
    add_comm m n = omega arith

pub no_end_at : (w : Coord) (s : Seg) → ¬ (w ≡ s.lo) → ¬ (w ≡ s.hi) → ends_inside (is_same_coord w) s ≡ 0
no_end_at w s lo hi = none_passes (is_same_coord w s.lo) (is_same_coord w s.hi) (not_coord w s.lo lo) (not_coord w s.hi hi)

-- ---- one use, over plain tests: whether it is of the member, of ab, of bc, and whether ab, bc and ac are over a point

pub ends_of_first : (m x y : Bool) (n : ℕ) → n ≡ 1 → x ≡ true → y ≡ false → cond m n 0 ≡ cond {A = ℕ} (m && x) 1 0 + cond {A = ℕ} (m && y) 1 0
ends_of_first false x y n e h k = refl
ends_of_first true true false n e h k = omega arith
ends_of_first true true true n e h k = absurd (false≢true (sym k))
ends_of_first true false y n e h k = absurd (false≢true h)

pub ends_of_second : (m x y : Bool) (n : ℕ) → n ≡ 1 → x ≡ false → y ≡ true → cond m n 0 ≡ cond {A = ℕ} (m && x) 1 0 + cond {A = ℕ} (m && y) 1 0
ends_of_second false x y n e h k = refl
ends_of_second true false true n e h k = omega arith
ends_of_second true false false n e h k = absurd (false≢true k)
ends_of_second true true y n e h k = absurd (false≢true (sym h))

pub ends_of_third : (m x y : Bool) (n : ℕ) → n ≡ 0 → x ≡ false → y ≡ false → cond m n 0 ≡ cond {A = ℕ} (m && x) 1 0 + cond {A = ℕ} (m && y) 1 0
ends_of_third false x y n e h k = refl
ends_of_third true false false n e h k = omega arith
ends_of_third true false true n e h k = absurd (false≢true (sym k))
ends_of_third true true y n e h k = absurd (false≢true (sym h))

add_first : (m x y a b c : Bool) → x ≡ true → y ≡ false
    → cond {A = ℕ} (m && c) 1 0 + (cond {A = ℕ} (m && x) 1 0 * cond {A = ℕ} a 1 0 + cond {A = ℕ} (m && y) 1 0 * cond {A = ℕ} b 1 0)
    ≡ cond {A = ℕ} (m && a) 1 0 + cond {A = ℕ} (m && x) 1 0 * cond {A = ℕ} c 1 0
add_first false x y a b c h k = omega arith
add_first true true false a b c h k = omega arith
add_first true true true a b c h k = absurd (false≢true (sym k))
add_first true false y a b c h k = absurd (false≢true h)

add_second : (m x y a b c : Bool) → x ≡ false → y ≡ true
    → 0 + (cond {A = ℕ} (m && x) 1 0 * cond {A = ℕ} a 1 0 + cond {A = ℕ} (m && y) 1 0 * cond {A = ℕ} b 1 0)
    ≡ cond {A = ℕ} (m && b) 1 0 + cond {A = ℕ} (m && x) 1 0 * cond {A = ℕ} c 1 0
add_second false x y a b c h k = omega arith
add_second true false true a b c h k = omega arith
add_second true false false a b c h k = absurd (false≢true k)
add_second true true y a b c h k = absurd (false≢true (sym h))

add_third : (m x y a b c : Bool) (n : ℕ) → x ≡ false → y ≡ false
    → n + (cond {A = ℕ} (m && x) 1 0 * cond {A = ℕ} a 1 0 + cond {A = ℕ} (m && y) 1 0 * cond {A = ℕ} b 1 0) ≡ n + cond {A = ℕ} (m && x) 1 0 * cond {A = ℕ} c 1 0
add_third false x y a b c n h k = omega arith
add_third true false false a b c n h k = omega arith
add_third true false true a b c n h k = absurd (false≢true (sym k))
add_third true true y a b c n h k = absurd (false≢true (sym h))

-- where an even number of the three sides is over a point, the counts have one parity
same_parity : (x y m n : ℕ) (a b c : Bool) → x + (m * cond {A = ℕ} a 1 0 + n * cond {A = ℕ} b 1 0) ≡ y + m * cond {A = ℕ} c 1 0 → (m + n) % 2 ≡ 0 → ¬ IsOddOf a b c → x % 2 ≡ y % 2
same_parity x y m n false false false e h odd = omega arith
same_parity x y m n true true false e h odd = omega arith
same_parity x y m n true false true e h odd = omega arith
same_parity x y m n false true true e h odd = omega arith
same_parity x y m n true false false e h odd = absurd (odd refl)
same_parity x y m n false true false e h odd = absurd (odd refl)
same_parity x y m n false false true e h odd = absurd (odd refl)
same_parity x y m n true true true e h odd = absurd (odd refl)

module _ (t : Triangle) (ab bc ac : Seg) (old : List EdgeUse) (is_ear : IsEar t ab bc ac old) (valid : IsValid old) where
  abbrev use_of_first : EdgeUse
  use_of_first = record { member = is_ear.one; seg = ab }

  -- a use of ab
  pub record IsFirst (u : EdgeUse) : Type 0 where
    pub is : is_same_seg ab u.seg ≡ true

  -- a use of bc
  pub record IsSecond (u : EdgeUse) : Type 0 where
    pub not_first : is_same_seg ab u.seg ≡ false
    pub is : is_same_seg bc u.seg ≡ true

  -- another use, which stays
  pub record IsThird (u : EdgeUse) : Type 0 where
    pub not_first : is_same_seg ab u.seg ≡ false
    pub not_second : is_same_seg bc u.seg ≡ false
    pub free : IsFreeOf t ab bc u.seg

  -- what is not of ab meets it in ends alone
  meets_alone : (e : Seg) → (m : ℕ) → Contains old (record { member = m; seg = e }) → (u : EdgeUse) → Contains old u → is_same_seg e u.seg ≡ false → MeetsInEndsAlone u.seg e
  meets_alone e m has_e u has differs =
      elim (valid.ends u (record { member = m; seg = e }) has has_e) [
        | inl same ↦ absurd (false≢true (sym differs ∙ (Decides-same_segs e u.seg).1 (sym same)))
        | inr ends ↦ ends
      ]

  pub kind : (u : EdgeUse) → Contains old u → IsFirst u ⊎ (IsSecond u ⊎ IsThird u)
  kind u has =
      elim (same_seg_cases ab u.seg) [
        | inl first ↦ inl (record { is = first })
        | inr not_first ↦ elim (same_seg_cases bc u.seg) [
          | inl second ↦ inr (inl (record { not_first = not_first; is = second }))
          | inr not_second ↦ elim (is_ear.others u has) [
            | inl e ↦ absurd (false≢true (sym not_first ∙ (Decides-same_segs ab u.seg).1 (sym e)))
            | inr more ↦ elim more [
              | inl e ↦ absurd (false≢true (sym not_second ∙ (Decides-same_segs bc u.seg).1 (sym e)))
              | inr free ↦ inr (inr (record {
                not_first = not_first;
                not_second = not_second;
                free = record {
                  first = meets_alone ab is_ear.one is_ear.has_first u has not_first;
                  second = meets_alone bc is_ear.other is_ear.has_second u has not_second;
                  free = free;
                };
              }))
            ]
          ]
        ]
      ]

  -- what each adds to a sum
  pub first_adds : (f : EdgeUse → ℕ) (u : EdgeUse) → IsFirst u → value_after ab bc ac f u ≡ f (record { member = u.member; seg = ac })
  first_adds f u h = ap (λ b. cond b (f (record { member = u.member; seg = ac })) (cond (is_same_seg bc u.seg) 0 (f u))) h.is

  pub second_adds : (f : EdgeUse → ℕ) (u : EdgeUse) → IsSecond u → value_after ab bc ac f u ≡ 0
  second_adds f u h =
      ap (λ b. cond b (f (record { member = u.member; seg = ac })) (cond (is_same_seg bc u.seg) 0 (f u))) h.not_first
      ∙ ap (λ b. cond b 0 (f u)) h.is

  pub third_adds : (f : EdgeUse → ℕ) (u : EdgeUse) → IsThird u → value_after ab bc ac f u ≡ f u
  third_adds f u h =
      ap (λ b. cond b (f (record { member = u.member; seg = ac })) (cond (is_same_seg bc u.seg) 0 (f u))) h.not_first
      ∙ ap (λ b. cond b 0 (f u)) h.not_second

  first_is : (u : EdgeUse) → IsFirst u → u ≡ record { member = u.member; seg = ab }
  first_is u h = same_uses u (record { member = u.member; seg = ab }) refl (sym (seg_is ab u.seg h.is))

  -- no other use is of ac
  pub third_not_ac : (u : EdgeUse) → IsThird u → ¬ (u.seg ≡ ac)
  third_not_ac u h e = h.free.free.not_third (subst (IsSegBetween t.a t.c) (sym e) is_ear.sides.third)

  pub sides_apart : ¬ (ab ≡ bc) → MeetsInEndsAlone ab bc
  sides_apart differ =
      elim (valid.ends use_of_first (record { member = is_ear.other; seg = bc }) is_ear.has_first is_ear.has_second) [
        | inl same ↦ absurd (differ same)
        | inr ends ↦ ends
      ]

  a_not_c : ¬ (t.a ≡ t.c)
  a_not_c = ends_differ t.a t.c ac is_ear.sides.third

  pub differ : ¬ (ab ≡ bc)
  differ e = a_not_c (other_end t.a t.b t.c ab is_ear.sides.two.first (subst (λ s. IsSegBetween t.b t.c s) (sym e) is_ear.sides.two.second))

  pub apart : MeetsInEndsAlone ab bc
  apart = sides_apart differ

  pub first_not_second : (u : EdgeUse) → IsFirst u → is_same_seg bc u.seg ≡ false
  first_not_second u first = not_seg bc u.seg (λ e. differ (seg_is ab u.seg first.is ∙ sym e))

  -- b is no end of the others
  pub b_not_free : (v : Coord) → IsFree t v → ¬ (t.b ≡ v)
  b_not_free v free e =
      elim (free (subst (λ (w : Coord). IsWithin t (at_coord w)) e (within_first t (at_coord t.b) (second_between (at_coord t.a) (at_coord t.b))))) [
        | inl is ↦ ends_differ t.a t.b ab is_ear.sides.two.first (sym (e ∙ is))
        | inr is ↦ ends_differ t.b t.c bc is_ear.sides.two.second (e ∙ is)
      ]

  module _ (new : List EdgeUse) (exchange : IsExchange ab bc ac old new) where
    -- ---- what the new uses are

    -- of ac, where ab was used
    pub record IsNewThird (u : EdgeUse) : Type 0 where
      pub is : u.seg ≡ ac
      pub used : Contains old (record { member = u.member; seg = ab })

    -- or old, and free of the triangle
    pub record IsOldUse (u : EdgeUse) : Type 0 where
      pub used : Contains old u
      pub third : IsThird u

    pub new_is : (u : EdgeUse) → Contains new u → IsNewThird u ⊎ IsOldUse u
    new_is u has =
        let f = counts_use u.member u.seg in
        let (x, found) = some_counted (value_after ab bc ac f) old (subst (λ n. 1 ≤ n) (exchange f) (has_times new u.member u.seg has)) in
        elim (kind x found.0) [
          | inl first ↦ (
              let same = counted_is u.member u.seg (record { member = x.member; seg = ac }) (subst (λ n. 1 ≤ n) (first_adds f x first) found.1) in
              inl (record {
                is = sym (ap (λ (v : EdgeUse). v.seg) same);
                used = subst (λ m. Contains old (record { member = m; seg = ab })) (ap (λ (v : EdgeUse). v.member) same) (subst (Contains old) (first_is x first) found.0);
              })
              )
          | inr more ↦ elim more [
            | inl second ↦ absurd (let none = second_adds f x second in let some = found.1 in omega arith)
            | inr third ↦ (
                let same = counted_is u.member u.seg x (subst (λ n. 1 ≤ n) (third_adds f x third) found.1) in
                inr (record { used = subst (Contains old) same found.0; third = subst IsThird same third })
                )
          ]
        ]

    -- ac is used
    pub has_third : Contains new (record { member = is_ear.one; seg = ac })
    has_third =
        let f = counts_use is_ear.one ac in
        let first : IsFirst use_of_first = record { is = (Decides-same_segs ab ab).1 refl } in
        times_has new is_ear.one ac
        (subst (λ n. 1 ≤ n) (sym (exchange f))
        (let one = one_of_sum (value_after ab bc ac f) old use_of_first is_ear.has_first in
        let adds = first_adds f use_of_first first in
        omega (arith, use_counts is_ear.one ac)))

    -- and the others still are
    pub still_used : (u : EdgeUse) → Contains old u → IsThird u → Contains new u
    still_used u has third =
        let f = counts_use u.member u.seg in
        times_has new u.member u.seg
        (subst (λ n. 1 ≤ n) (sym (exchange f))
        (let one = one_of_sum (value_after ab bc ac f) old u has in
        let adds = third_adds f u third in
        omega (arith, use_counts u.member u.seg)))

    -- each segment is ac, or stays out of the triangle
    pub new_other : (u : EdgeUse) → Contains new u → IsOther t ab bc ac u.seg
    new_other u has = elim (new_is u has) [ inl h ↦ inl h.is | inr h ↦ inr h.third.free ]

    -- ---- ends

    third_ends : (u v : EdgeUse) → u.seg ≡ ac → IsThird v → MeetInEnds u.seg v.seg
    third_ends u v is third =
        subst (λ s. MeetInEnds s v.seg) (sym is)
        (inr (λ r common. (let ends = ear t ab bc ac is_ear.sides.two is_ear.sides.third v.seg third.free r (common.1, common.0) in (ends.1, ends.0))))

    pub new_ends : (u v : EdgeUse) → Contains new u → Contains new v → MeetInEnds u.seg v.seg
    new_ends u v has_u has_v =
        elim (new_is u has_u) [
          | inl third ↦ elim (new_is v has_v) [
            | inl third_too ↦ inl (third.is ∙ sym third_too.is)
            | inr stays ↦ third_ends u v third.is stays.third
          ]
          | inr stays ↦ elim (new_is v has_v) [
            | inl third ↦ (elim (third_ends v u third.is stays.third) [ inl same ↦ inl (sym same) | inr ends ↦ inr (λ r common. (let e = ends r (common.1, common.0) in (e.1, e.0))) ])
            | inr stays_too ↦ valid.ends u v stays.used stays_too.used
          ]
        ]

    -- ---- once

    not_twice : (m : ℕ) (e : Seg) → 2 ≤ sum_by (counts_use m e) old → ⊥
    not_twice m e h = valid.once (record { member = m; seg = e }) (repeated_of old m e h)

    third_once : (u : EdgeUse) → u.seg ≡ ac → 2 ≤ sum_by (counts_use u.member u.seg) new → ⊥
    third_once u is twice =
        let f = counts_use u.member u.seg in
        let g = counts_use u.member ab in
        let most = sum_at_most (value_after ab bc ac f) g old (λ x has. each x has) in
        not_twice u.member ab (let e = exchange f in omega arith)
      where
        each : (x : EdgeUse) → Contains old x → value_after ab bc ac (counts_use u.member u.seg) x ≤ counts_use u.member ab x
        each x has =
            elim (kind x has) [
              | inl first ↦ subst (λ n. n ≤ counts_use u.member ab x) (sym (first_adds (counts_use u.member u.seg) x first)) (first_counts (x.member == u.member) (is_same_seg u.seg ac) (is_same_seg ab x.seg) first.is)
              | inr more ↦ elim more [
                | inl second ↦ (let none = second_adds (counts_use u.member u.seg) x second in omega arith)
                | inr third ↦ (
                    let adds = third_adds (counts_use u.member u.seg) x third in
                    let none = none_counts (x.member == u.member) (is_same_seg u.seg x.seg) (not_seg u.seg x.seg (λ e. third_not_ac x third (sym e ∙ is))) in
                    omega arith
                    )
              ]
            ]

    old_once : (u : EdgeUse) → IsThird u → 2 ≤ sum_by (counts_use u.member u.seg) new → ⊥
    old_once u stays twice =
        let f = counts_use u.member u.seg in
        let most = sum_at_most (value_after ab bc ac f) f old (λ x has. each x has) in
        not_twice u.member u.seg (let e = exchange f in omega arith)
      where
        each : (x : EdgeUse) → Contains old x → value_after ab bc ac (counts_use u.member u.seg) x ≤ counts_use u.member u.seg x
        each x has =
            elim (kind x has) [
              | inl first ↦ (
                  let adds = first_adds (counts_use u.member u.seg) x first in
                  let none = none_counts (x.member == u.member) (is_same_seg u.seg ac) (not_seg u.seg ac (third_not_ac u stays)) in
                  omega arith
                  )
              | inr more ↦ elim more [
                | inl second ↦ (let none = second_adds (counts_use u.member u.seg) x second in omega arith)
                | inr third ↦ (let adds = third_adds (counts_use u.member u.seg) x third in omega arith)
              ]
            ]

    pub new_once : (u : EdgeUse) → ¬ IsRepeated new u
    new_once u h =
        let twice = twice_of new u.member u.seg h.first h.second h.apart h.at_first h.at_second in
        elim (new_is u (times_has new u.member u.seg (omega arith))) [
          | inl third ↦ third_once u third.is twice
          | inr stays ↦ old_once u stays.third twice
        ]

    -- ---- holders

    module _ (range : (u : EdgeUse) → Contains old u → IsSegInRange u.seg) (even_old : HasEvenEnds old) (even_new : HasEvenEnds new) where
      -- a member uses ab and bc an even number of times together
      even_sides : (i : ℕ) → (sum_by (counts_use i ab) old + sum_by (counts_use i bc) old) % 2 ≡ 0
      even_sides i = ap (λ n. n % 2) (sym (sum_splits (λ u. cond (u.member == i) (ends_inside (is_same_coord t.b) u.seg) 0) (counts_use i ab) (counts_use i bc) old each)) ∙ even_old (is_same_coord t.b) i
        where
          each : (u : EdgeUse) → Contains old u → cond (u.member == i) (ends_inside (is_same_coord t.b) u.seg) 0 ≡ counts_use i ab u + counts_use i bc u
          each u has =
              elim (kind u has) [
                | inl first ↦
                    ends_of_first (u.member == i) (is_same_seg ab u.seg) (is_same_seg bc u.seg) _
                    (one_end t.a t.b u.seg (subst (λ s. IsSegBetween t.a t.b s) (seg_is ab u.seg first.is) is_ear.sides.two.first)) first.is (first_not_second u first)
                | inr more ↦ elim more [
                  | inl second ↦
                      ends_of_second (u.member == i) (is_same_seg ab u.seg) (is_same_seg bc u.seg) _
                      (one_end t.c t.b u.seg (⊎_elim inr inl (subst (λ s. IsSegBetween t.b t.c s) (seg_is bc u.seg second.is) is_ear.sides.two.second))) second.not_first second.is
                  | inr third ↦
                      ends_of_third (u.member == i) (is_same_seg ab u.seg) (is_same_seg bc u.seg) _
                      (no_end_at t.b u.seg (b_not_free u.seg.lo third.free.free.lo) (b_not_free u.seg.hi third.free.free.hi)) third.not_first third.not_second
                ]
              ]

      module _ (x : Point) (i : ℕ) where
        -- 1 for a use of the member over the point
        abbrev over_use : EdgeUse → ℕ
        over_use u = cond {A = ℕ} ((u.member == i) && is_over u.seg x) 1 0

        abbrev test : Seg → ℕ
        test s = cond {A = ℕ} (is_over s x) 1 0

        over_each : (u : EdgeUse) → Contains old u
            → value_after ab bc ac over_use u + (counts_use i ab u * test ab + counts_use i bc u * test bc) ≡ over_use u + counts_use i ab u * test ac
        over_each u has =
            let rest = counts_use i ab u * test ab + counts_use i bc u * test bc in
            let m = u.member == i in
            let of_ab = is_same_seg ab u.seg in
            let of_bc = is_same_seg bc u.seg in
            elim (kind u has) [
              | inl first ↦
                  ap (λ n. n + rest) (first_adds over_use u first)
                  ∙ add_first m of_ab of_bc (is_over ab x) (is_over bc x) (is_over ac x) first.is (first_not_second u first)
                  ∙ ap (λ (s : Seg). cond {A = ℕ} (m && is_over s x) 1 0 + counts_use i ab u * test ac) (seg_is ab u.seg first.is)
              | inr more ↦ elim more [
                | inl second ↦
                    ap (λ n. n + rest) (second_adds over_use u second)
                    ∙ add_second m of_ab of_bc (is_over ab x) (is_over bc x) (is_over ac x) second.not_first second.is
                    ∙ ap (λ (s : Seg). cond {A = ℕ} (m && is_over s x) 1 0 + counts_use i ab u * test ac) (seg_is bc u.seg second.is)
                | inr third ↦
                    ap (λ n. n + rest) (third_adds over_use u third)
                    ∙ add_third m of_ab of_bc (is_over ab x) (is_over bc x) (is_over ac x) (over_use u) third.not_first third.not_second
              ]
            ]

        -- the new count with those of ab and bc is the old one with that of ac
        pub counts_balance : sum_by over_use new + (sum_by (counts_use i ab) old * test ab + sum_by (counts_use i bc) old * test bc) ≡ sum_by over_use old + sum_by (counts_use i ab) old * test ac
        counts_balance =
            let f = λ (u : EdgeUse). counts_use i ab u * test ab in
            let g = λ (u : EdgeUse). counts_use i bc u * test bc in
            let both = sum_splits (λ u. f u + g u) f g old (λ u has. refl) in
            let total = sums_agree (value_after ab bc ac over_use) (λ u. f u + g u) over_use (λ u. counts_use i ab u * test ac) old over_each in
            let scaled_ab = sum_scaled (counts_use i ab) (test ab) old in
            let scaled_bc = sum_scaled (counts_use i bc) (test bc) old in
            let scaled_ac = sum_scaled (counts_use i ab) (test ac) old in
            let change = exchange over_use in
            omega arith

        not_odd : ¬ IsWithin t x → ¬ IsOddOf (is_over ab x) (is_over bc x) (is_over ac x)
        not_odd outside h =
            outside (strictly_of t x (one_side t ab bc ac is_ear.sides x
            (λ on. outside (within_first t x (between_ends t.a t.b ab x is_ear.sides.two.first on)))
            (λ on. outside (within_second t x (between_ends t.b t.c bc x is_ear.sides.two.second on)))
            (λ on. outside (within_third t x (between_ends t.a t.c ac x is_ear.sides.third on))) h)).within

        -- out of the triangle a member holds what it held
        pub holds_alike : ¬ IsWithin t x → member_holds new i x ≡ member_holds old i x
        holds_alike outside = ap (λ n. n == 1) (same_parity _ _ _ _ (is_over ab x) (is_over bc x) (is_over ac x) counts_balance (even_sides i) (not_odd outside))

      abbrev new_segments : List Seg
      new_segments = map (λ (u : EdgeUse). u.seg) new

      new_range : (u : EdgeUse) → Contains new u → IsSegInRange u.seg
      new_range u has = elim (new_is u has) [ inl third ↦ subst IsSegInRange (sym third.is) is_ear.sides.third_in_range | inr stays ↦ range u stays.used ]

      -- a point out of the triangle that is off the new segments is off the old ones
      old_off : (p : Point) → ¬ IsWithin t p → IsOff new_segments p → IsOff (map (λ (u : EdgeUse). u.seg) old) p
      old_off p outside off = mapped (λ (u : EdgeUse). u.seg) (λ s. IsOn s p → ⊥) old each
        where
          each : (u : EdgeUse) → Contains old u → IsOn u.seg p → ⊥
          each u has on =
              elim (kind u has) [
                | inl first ↦ outside (within_first t p (between_ends t.a t.b ab p is_ear.sides.two.first (subst (λ s. IsOn s p) (sym (seg_is ab u.seg first.is)) on)))
                | inr more ↦ elim more [
                  | inl second ↦ outside (within_second t p (between_ends t.b t.c bc p is_ear.sides.two.second (subst (λ s. IsOn s p) (sym (seg_is bc u.seg second.is)) on)))
                  | inr third ↦ off u.seg (contains-map (λ (v : EdgeUse). v.seg) new u (still_used u has third)) on
                ]
              ]

      apart_outside : (p : Point) → ¬ IsWithin t p → IsOff new_segments p → (i j : ℕ) → member_holds new i p ≡ true → member_holds new j p ≡ true → i ≡ j
      apart_outside p outside off i j hi hj = valid.apart p (old_off p outside off) i j (sym (holds_alike p i outside) ∙ hi) (sym (holds_alike p j outside) ∙ hj)

      apart_inside : (p : Point) → IsWithin t p → IsOff new_segments p → (i j : ℕ) → member_holds new i p ≡ true → member_holds new j p ≡ true → i ≡ j
      apart_inside p within off i j hi hj =
          let other = mapped (λ (u : EdgeUse). u.seg) (λ s. IsOther t ab bc ac s) new new_other in
          let ranged = mapped (λ (u : EdgeUse). u.seg) IsSegInRange new new_range in
          let off_ac = off ac (contains-map (λ (v : EdgeUse). v.seg) new (record { member = is_ear.one; seg = ac }) has_third) in
          let (x, out) = way_out t ab bc ac is_ear.sides apart new_segments other ranged p within off_ac in
          let alike = λ (k : ℕ). member_holds-joined new k new_segments (λ u has. contains-map (λ (v : EdgeUse). v.seg) new u has) (λ e has. rises-in_range e (ranged e has)) (λ inside. even_new inside k) p x out.joined in
          apart_outside x out.outside (joined_off new_segments x p (joined-sym new_segments p x out.joined)) i j (sym (alike i) ∙ hi) (sym (alike j) ∙ hj)

      new_apart : (p : Point) → IsOff new_segments p → (i j : ℕ) → member_holds new i p ≡ true → member_holds new j p ≡ true → i ≡ j
      new_apart p off i j hi hj =
          elim (within_or_not t p) [
            | inl flat ↦ apart_outside p (λ within. off ac (contains-map (λ (v : EdgeUse). v.seg) new (record { member = is_ear.one; seg = ac }) has_third) (flat_third t ab bc ac is_ear.sides apart flat p within)) off i j hi hj
            | inr bent ↦ elim bent [
              | inl within ↦ apart_inside p within off i j hi hj
              | inr outside ↦ apart_outside p outside off i j hi hj
            ]
          ]

      pub new_valid : IsValid new
      new_valid = record { ends = new_ends; once = new_once; apart = new_apart }

-- ---- the coverage

pub holders_kept : (t : Triangle) (ab bc ac : Seg) (old new : List EdgeUse) → IsRemoval t ab bc ac old new → IsValid old
    → (p : Point) → ¬ IsWithin t p → (i : ℕ) → member_holds new i p ≡ member_holds old i p
holders_kept t ab bc ac old new h valid p outside i = holds_alike t ab bc ac old h.is_ear valid new h.exchange h.in_range h.even_before h.even_after p i outside

pub valid_after : (t : Triangle) (ab bc ac : Seg) (old new : List EdgeUse) → IsRemoval t ab bc ac old new → IsValid old → IsValid new
valid_after t ab bc ac old new h valid = new_valid t ab bc ac old h.is_ear valid new h.exchange h.in_range h.even_before h.even_after
