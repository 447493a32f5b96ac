-- A removal keeps the members beside: those of ab are those of ac, and any other segment keeps its own.
use Rattle.std.proofs.Common.{◌≡◌, ◌⊎◌, inl, inr, refl, sym, ◌∙◌, ap, subst, ℕ, ◌%◌, ◌==◌, ◌&&◌, ◌↔◌, Bool, true, false, cond, List, map, pos, ◌<ℤ◌, ◌≤ℤ◌, arith}
use Rattle.std.specs.Prelude.{Contains}
use Rattle.std.proofs.lemmas.Bool.{false≢true}
use Rattle.integer_laws.proofs.Compare.{trichotomy, lt_excludes_eq}
use Rattle.integer_laws.proofs.Ring.{lin, mul_one}
use Rattle.cov_types.specs.declared.coord.Coord.{Coord}
use Rattle.cov_types.specs.declared.edge_use.EdgeUse.{EdgeUse}
use Rattle.cov_types.specs.declared.seg.Seg.{Seg}
use Rattle.cov_types.specs.Range.{IsSegInRange}
use Rattle.cov_types.specs.Seg.{IsSegBetween}
use Rattle.cov_types.proofs.Equal.{Decides-same_segs}
use Rattle.plane.specs.Noded.{MeetInEnds}
use Rattle.plane.specs.Joined.{Joined}
use Rattle.plane.specs.Parity.{member_holds}
use Rattle.plane.specs.Point.{Point, at_coord}
use Rattle.plane.specs.Ray.{sweep}
use Rattle.plane.specs.Segment.{IsOn, upper, lower}
use Rattle.plane.specs.Validity.{IsValid}
use Rattle.plane.proofs.Points.{first_between, second_between}
use Rattle.plane.proofs.Sides.{side_zero-on}
use Rattle.plane.proofs.Sweeps.{rises-in_range, on-is}
use Rattle.crossing_laws.specs.Across.{AllMeetInEnds, is_same_seg, member_times}
use Rattle.crossing_laws.proofs.Changes.{member_holds-across}
use Rattle.crossing_laws.proofs.Lists.{contains-map}
use Rattle.crossing_laws.proofs.Sums.{member_holds-joined}
use Rattle.arrangement.proofs.Labels.{mapped}
use Rattle.greedy_run.specs.Run.{Triangle}
use Rattle.greedy_run.specs.Sides.{left_from, right_from}
use Rattle.removal_laws.specs.Ear.{IsWithin, MeetsInEndsAlone, IsOther}
use Rattle.removal_laws.specs.Exchange.{IsEar, value_after}
use Rattle.removal_laws.specs.Laws.{IsRemoval}
use Rattle.removal_laws.proofs.Counts.{counts_use}
use Rattle.removal_laws.proofs.Ear.{within_first, between_ends, ear}
use Rattle.removal_laws.proofs.Exchange.{kind, first_adds, second_adds, third_adds, third_not_ac, apart, new_other, holders_kept, not_seg, none_counts}
use Rattle.removal_laws.proofs.Inner.{three-mirror, free_of-mirror, flat_third}
use Rattle.removal_laws.proofs.Inside.{area}
use Rattle.removal_laws.proofs.Pasch.{mirror, area-mirror, within-mirror}
use Rattle.kept_lines_laws.proofs.Bent.{left_turned, beside_lo, beside_hi, beside_or, past_first, past_second}
use Rattle.kept_lines_laws.proofs.Nested.{nested_joined, upper_above}
use Rattle.kept_lines_laws.proofs.Sums.{sums_same}

-- ---- where one side point is held alike, so is the other

bool_or : (a b : Bool) → (a ≡ b) ⊎ ¬ (a ≡ b)
bool_or true true = inl refl
bool_or true false = inr (λ e. false≢true (sym e))
bool_or false true = inr (λ e. false≢true e)
bool_or false false = inl refl

not_both : (a b c d : Bool) → a ≡ c → ¬ (a ≡ b) → ¬ (c ≡ d) → b ≡ d
not_both true true c d same x y = absurd (x refl)
not_both true false true true same x y = absurd (y refl)
not_both true false true false same x y = refl
not_both true false false d same x y = absurd (false≢true (sym same))
not_both false true true d same x y = absurd (false≢true same)
not_both false true false true same x y = refl
not_both false true false false same x y = absurd (y refl)
not_both false false c d same x y = absurd (x refl)

other_side : (a b c d : Bool) (m n : ℕ) → m ≡ n → (a ≡ b) ↔ (m % 2 ≡ 0) → (c ≡ d) ↔ (n % 2 ≡ 0) → a ≡ c → b ≡ d
other_side a b c d m n even first second same =
    elim (bool_or a b) [
      | inl e ↦ sym e ∙ same ∙ second.1 (subst (λ k. k % 2 ≡ 0) even (first.0 e))
      | inr apart ↦ not_both a b c d same apart (λ e. apart (first.1 (subst (λ k. k % 2 ≡ 0) (sym even) (second.0 e))))
    ]

-- ---- a removal

module _ (t : Triangle) (ab bc ac : Seg) (old new : List EdgeUse) (removal : IsRemoval t ab bc ac old new) (valid : IsValid old) (range : (u : EdgeUse) → Contains new u → IsSegInRange u.seg) where
  abbrev is_ear : IsEar t ab bc ac old
  is_ear = removal.is_ear

  abbrev edges : List Seg
  edges = map (λ (u : EdgeUse). u.seg) new

  others : (e : Seg) → Contains edges e → IsOther t ab bc ac e
  others = mapped (λ (u : EdgeUse). u.seg) (λ s. IsOther t ab bc ac s) new (new_other t ab bc ac old is_ear valid new removal.exchange)

  ranged : (e : Seg) → Contains edges e → IsSegInRange e
  ranged = mapped (λ (u : EdgeUse). u.seg) IsSegInRange new range

  ends_apart : MeetsInEndsAlone ab bc
  ends_apart = apart t ab bc ac old is_ear valid

  held_alike : (p q : Point) → Joined edges p q → (i : ℕ) → member_holds new i p ≡ member_holds new i q
  held_alike p q j i = member_holds-joined new i edges (λ u has. contains-map (λ (v : EdgeUse). v.seg) new u has) (λ e has. rises-in_range e (ranged e has)) (λ inside. removal.even_after inside i) p q j

  kept_outside : (p : Point) → ¬ IsWithin t p → (i : ℕ) → member_holds new i p ≡ member_holds old i p
  kept_outside = holders_kept t ab bc ac old new removal valid

  -- ---- how often the members have ab and ac

  times_kept : (i : ℕ) → member_times ac new i ≡ member_times ab old i
  times_kept i = removal.exchange (counts_use i ac) ∙ sums_same (value_after ab bc ac (counts_use i ac)) (counts_use i ab) old each
    where
      whole : (m x y : Bool) → x ≡ true → y ≡ true → cond {A = ℕ} (m && x) 1 0 ≡ cond {A = ℕ} (m && y) 1 0
      whole m x y hx hy = (λ k. cond {A = ℕ} (m && hx k) 1 0) ∙ sym (λ k. cond {A = ℕ} (m && hy k) 1 0)

      each : (u : EdgeUse) → Contains old u → value_after ab bc ac (counts_use i ac) u ≡ counts_use i ab u
      each u has =
          elim (kind t ab bc ac old is_ear valid u has) [
            | inl first ↦ first_adds t ab bc ac old is_ear valid (counts_use i ac) u first ∙ whole (u.member == i) (is_same_seg ac ac) (is_same_seg ab u.seg) ((Decides-same_segs ac ac).1 refl) first.is
            | inr more ↦ elim more [
              | inl second ↦ second_adds t ab bc ac old is_ear valid (counts_use i ac) u second ∙ sym (none_counts (u.member == i) (is_same_seg ab u.seg) second.not_first)
              | inr third ↦
                  third_adds t ab bc ac old is_ear valid (counts_use i ac) u third
                  ∙ none_counts (u.member == i) (is_same_seg ac u.seg) (not_seg ac u.seg (λ e. third_not_ac t ab bc ac old is_ear valid u third (sym e)))
                  ∙ sym (none_counts (u.member == i) (is_same_seg ab u.seg) third.not_first)
            ]
          ]

  meets_new : AllMeetInEnds ac edges
  meets_new e has = (
    ranged e has,
    elim (others e has) [
      | inl is ↦ inl (sym is)
      | inr free ↦ inr (λ r common. (let ends = ear t ab bc ac is_ear.sides.two is_ear.sides.third e free r (common.1, common.0) in (ends.1, ends.0)))
    ],
  )

  meets_old : AllMeetInEnds ab (map (λ (u : EdgeUse). u.seg) old)
  meets_old = mapped (λ (u : EdgeUse). u.seg) (λ e. IsSegInRange e × MeetInEnds ab e) old (λ u has. (removal.in_range u has, valid.ends (record { member = is_ear.one; seg = ab }) u is_ear.has_first has))

  across_new : (i : ℕ) → (member_holds new i (lower ac) ≡ member_holds new i (upper ac)) ↔ (member_times ac new i % 2 ≡ 0)
  across_new i = member_holds-across ac new i is_ear.sides.third_in_range meets_new

  across_old : (i : ℕ) → (member_holds old i (lower ab) ≡ member_holds old i (upper ab)) ↔ (member_times ab old i % 2 ≡ 0)
  across_old i = member_holds-across ab old i is_ear.sides.two.first_in_range meets_old

  -- ---- both sides of the line

  pub record AreHeldAlike (i : ℕ) : Type 0 where
    pub left : member_holds new i (left_from t.a ac) ≡ member_holds old i (left_from t.a ab)
    pub right : member_holds new i (right_from t.a ac) ≡ member_holds old i (right_from t.a ab)

  -- in either direction of the two segments
  across_sides : (uses : List EdgeUse) (e : Seg) (i : ℕ) → (member_holds uses i (lower e) ≡ member_holds uses i (upper e)) ↔ (member_times e uses i % 2 ≡ 0)
      → (member_holds uses i (left_from t.a e) ≡ member_holds uses i (right_from t.a e)) ↔ (member_times e uses i % 2 ≡ 0)
  across_sides uses e i h = elim (beside_or t.a e) [
    | inl at ↦ (λ same. h.0 (sym (ap (member_holds uses i) (sym at.left) ∙ same ∙ ap (member_holds uses i) at.right)), λ even. ap (member_holds uses i) at.left ∙ sym (h.1 even) ∙ ap (member_holds uses i) (sym at.right))
    | inr at ↦ (λ same. h.0 (ap (member_holds uses i) (sym at.left) ∙ same ∙ ap (member_holds uses i) at.right), λ even. ap (member_holds uses i) at.left ∙ h.1 even ∙ ap (member_holds uses i) (sym at.right))
  ]

  turned_iff : (a b : Bool) (P : Type 0) → (a ≡ b) ↔ P → (b ≡ a) ↔ P
  turned_iff a b P h = (λ e. h.0 (sym e), λ p. sym (h.1 p))

  from_left : (i : ℕ) → member_holds new i (left_from t.a ac) ≡ member_holds old i (left_from t.a ab) → AreHeldAlike i
  from_left i same = record { left = same; right = other_side _ _ _ _ _ _ (times_kept i) (across_sides new ac i (across_new i)) (across_sides old ab i (across_old i)) same }

  from_right : (i : ℕ) → member_holds new i (right_from t.a ac) ≡ member_holds old i (right_from t.a ab) → AreHeldAlike i
  from_right i same = record {
    left = other_side _ _ _ _ _ _ (times_kept i) (turned_iff _ _ _ (across_sides new ac i (across_new i))) (turned_iff _ _ _ (across_sides old ab i (across_old i))) same;
    right = same;
  }

  -- a triangle to the left
  bent_left : pos 0 <ℤ area t → (i : ℕ) → AreHeldAlike i
  bent_left positive i =
      let past = past_first t ab bc ac is_ear.sides ends_apart edges others ranged positive in
      from_right i (held_alike (right_from t.a ac) (right_from t.a ab) past.joined i ∙ kept_outside (right_from t.a ab) past.outside i)

  -- to the right
  bent_right : area t <ℤ pos 0 → (i : ℕ) → AreHeldAlike i
  bent_right negative i =
      let m = mirror t in
      let positive : pos 0 <ℤ area m = (let e = area-mirror t in omega (arith, lin)) in
      let past =
      past_second m bc ab ac (three-mirror t ab bc ac is_ear.sides) (λ r common. (let ends = ends_apart r (common.1, common.0) in (ends.1, ends.0))) edges
      (λ e has. elim (others e has) [ inl is ↦ inl is | inr free ↦ inr (free_of-mirror t ab bc e free) ]) ranged positive in
      let third : left_from t.a ac ≡ right_from t.c ac = left_turned t.a t.c ac is_ear.sides.third in
      let first : left_from t.a ab ≡ right_from t.b ab = left_turned t.a t.b ab is_ear.sides.two.first in
      from_left i
      (ap (member_holds new i) third ∙ held_alike (right_from t.c ac) (right_from t.b ab) past.joined i ∙ kept_outside (right_from t.b ab) (λ w. past.outside (within-mirror t (right_from t.b ab) w)) i ∙ ap (member_holds old i) (sym first))

  -- ---- a flat triangle

  module _ (flat : area t ≡ pos 0) where
    on_third : (p : Point) → IsOn ab p → IsOn ac p
    on_third p on = flat_third t ab bc ac is_ear.sides ends_apart flat p (within_first t p (between_ends t.a t.b ab p is_ear.sides.two.first on))

    on_lo : IsOn ac (at_coord ab.lo)
    on_lo = on_third (at_coord ab.lo) (first_between (at_coord ab.lo) (at_coord ab.hi))

    on_hi : IsOn ac (at_coord ab.hi)
    on_hi = on_third (at_coord ab.hi) (second_between (at_coord ab.lo) (at_coord ab.hi))

    -- the upper side points are held alike
    flat_upper : (i : ℕ) → member_holds new i (upper ac) ≡ member_holds old i (upper ab)
    flat_upper i =
        let hc = is_ear.sides.third_in_range in
        let ha = is_ear.sides.two.first_in_range in
        let nested =
        nested_joined ac ab hc ha on_lo on_hi edges ranged
        (λ g has. elim (others g has) [
          | inl is ↦ inl is
          | inr free ↦ inr (
            (λ r common. (let ends = ear t ab bc ac is_ear.sides.two is_ear.sides.third g free r (common.1, common.0) in (ends.1, ends.0))),
            (λ r common. (let ends = free.first r (common.1, common.0) in (ends.1, ends.0))),
          )
        ]) in
        sym (held_alike (upper ab) (upper ac) nested i)
        ∙ kept_outside (upper ab)
        (λ within. lt_excludes_eq (upper_above ac ab hc ha on_lo on_hi) (sym (side_zero-on ac (upper ab) (flat_third t ab bc ac is_ear.sides ends_apart flat (upper ab) within)))) i

    -- both segments lead from their lesser ends, or both from the others
    same_way : ((ab.lo ≡ t.a) × (ac.lo ≡ t.a)) ⊎ (¬ (ab.lo ≡ t.a) × ¬ (ac.lo ≡ t.a))
    same_way = by is_ear.sides.two.first is_ear.sides.third
      where
        up : sweep (at_coord ac.lo) <ℤ sweep (at_coord ac.hi)
        up = rises-in_range ac is_ear.sides.third_in_range

        up_first : sweep (at_coord ab.lo) <ℤ sweep (at_coord ab.hi)
        up_first = rises-in_range ab is_ear.sides.two.first_in_range

        lo_from : sweep (at_coord ac.lo) ≤ℤ sweep (at_coord ab.lo)
        lo_from = let h = ((on-is ac (at_coord ab.lo) up).0 on_lo).1 in omega (arith, lin, mul_one (sweep (at_coord ac.lo)))

        hi_to : sweep (at_coord ab.hi) ≤ℤ sweep (at_coord ac.hi)
        hi_to = let h = ((on-is ac (at_coord ab.hi) up).0 on_hi).2 in omega (arith, lin, mul_one (sweep (at_coord ac.hi)))

        by : IsSegBetween t.a t.b ab → IsSegBetween t.a t.c ac → ((ab.lo ≡ t.a) × (ac.lo ≡ t.a)) ⊎ (¬ (ab.lo ≡ t.a) × ¬ (ac.lo ≡ t.a))
        by (inl f) (inl g) = inl (f.0, g.0)
        by (inl f) (inr g) = absurd (let same = ap (λ (c : Coord). sweep (at_coord c)) (f.0 ∙ sym g.1) in omega (arith, lin, up, up_first, lo_from, hi_to))
        by (inr f) (inl g) = absurd (let same = ap (λ (c : Coord). sweep (at_coord c)) (f.1 ∙ sym g.0) in omega (arith, lin, up, up_first, lo_from, hi_to))
        by (inr f) (inr g) =
            inr (
              (λ is. (let same = ap (λ (c : Coord). sweep (at_coord c)) (is ∙ sym f.1) in omega (arith, lin, up, up_first, lo_from, hi_to))),
              (λ is. (let same = ap (λ (c : Coord). sweep (at_coord c)) (is ∙ sym g.1) in omega (arith, lin, up, up_first, lo_from, hi_to))),
            )

    flat_sides : (i : ℕ) → AreHeldAlike i
    flat_sides i = elim same_way [
      | inl lo ↦ (
          let first = beside_lo t.a ab lo.0 in
          let third = beside_lo t.a ac lo.1 in
          from_left i (ap (member_holds new i) third.left ∙ flat_upper i ∙ ap (member_holds old i) (sym first.left))
          )
      | inr hi ↦ (
          let first = beside_hi t.a ab hi.0 in
          let third = beside_hi t.a ac hi.1 in
          from_right i (ap (member_holds new i) third.right ∙ flat_upper i ∙ ap (member_holds old i) (sym first.right))
          )
    ]

  -- the members beside ab are those beside ac
  pub sides_kept : (i : ℕ) → AreHeldAlike i
  sides_kept i =
      elim (trichotomy (area t) (pos 0)) [
        | inl right ↦ bent_right right i
        | inr rest ↦ elim rest [ inl flat ↦ flat_sides flat i | inr left ↦ bent_left left i ]
      ]
