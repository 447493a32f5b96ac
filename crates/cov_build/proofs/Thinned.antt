-- Edges without those whose two sides pass a test alike: the test is kept round the others alone.
use mathlib.Core.List.{List, [], ◌∷◌}
use Rattle.std.proofs.Common.{◌≡◌, refl, sym, ◌∙◌, ap, subst, zero, suc, Bool, true, false, cond, length, Contains, get_or as at, ◌⊎◌, ℤ, pos, ◌+ℤ◌, ◌-ℤ◌, inl, inr, arith}
use Rattle.std.specs.Ordering.{int_eq}
use Rattle.std.proofs.lemmas.Bool.Decides.{Decides-int_eq}
use Rattle.std.proofs.lemmas.List.{get_or_default}
use Rattle.std.proofs.lemmas.List.Elements.{All-contains}
use Rattle.cov_types.specs.declared.seg.Seg.{Seg}
use Rattle.cov_types.specs.Range.{IsSegInRange}
use Rattle.cov_types.proofs.Equal.{Decides-same_segs}
use Rattle.integer_laws.proofs.Ring.{lin}
use Rattle.plane.specs.Point.{Point}
use Rattle.plane.specs.Ray.{is_over}
use Rattle.plane.specs.Segment.{upper, lower}
use Rattle.plane.specs.Joined.{Joined}
use Rattle.plane.proofs.Sweeps.{rises-in_range}
use Rattle.crossing_laws.specs.Across.{AllMeetInEnds, is_same_seg, weight_of}
use Rattle.crossing_laws.specs.Crossing.{edges_of, crossing_sum, int_sum_by, IsSwept, IsBalanced}
use Rattle.crossing_laws.proofs.Sums.{crossing_sum-joined}
use Rattle.crossing_laws.proofs.Changes.{crossing_sum-across}
use Rattle.crossing_laws.proofs.Lists.{contains_here, contains_there}
use Rattle.sector_laws.specs.Sector.{HalfEdge, left, twin, AreDistinct, IsPlanar}
use Rattle.sector_laws.proofs.Sectors.{next_joined}
use Rattle.sector_laws.proofs.Angles.{true_or_false}
use Rattle.region_laws.specs.Weights.{side_weight, weigh_sides}
use Rattle.region_laws.specs.Crossed.{IsCrossed}
use Rattle.region_laws.proofs.Balance.{first_or_later, distinct_first, distinct_rest, balanced_sides}
use Rattle.region_laws.proofs.Outwards.{crossed_same}

abbrev pub up : Seg → HalfEdge
up e = record { edge = e; forwards = true }

abbrev pub down : Seg → HalfEdge
down e = record { edge = e; forwards = false }

-- the list without some edges whose two sides pass alike
abbrev pub IsThinned : (HalfEdge → Bool) → List Seg → List Seg → Type 0
IsThinned passes [] thin = thin ≡ []
IsThinned passes (e ∷ edges) thin = ((passes (up e) ≡ passes (down e)) × IsThinned passes edges thin) ⊎ ((rest : List Seg) × ((thin ≡ e ∷ rest) × IsThinned passes edges rest))

-- ---- what stays

module _ (passes : HalfEdge → Bool) where
  pub thinned_among : (edges thin : List Seg) → IsThinned passes edges thin → (e : Seg) → Contains thin e → Contains edges e
  thinned_among [] thin none e c = absurd (let empty = ap length none in omega (arith, empty, c.1))
  thinned_among (f ∷ edges) thin h e c = elim h [
    | inl out ↦ contains_there f e edges (thinned_among edges thin out.1 e c)
    | inr kept ↦ elim (first_or_later f kept.0 e (subst (λ es. Contains es e) kept.1.0 c)) [
      | inl here ↦ subst (Contains (f ∷ edges)) here (contains_here f edges)
      | inr later ↦ contains_there f e edges (thinned_among edges kept.0 kept.1.1 e later)
    ]
  ]

  thinned_distinct : (edges thin : List Seg) → IsThinned passes edges thin → AreDistinct edges → AreDistinct thin
  thinned_distinct [] thin none distinct = λ i j d before within. absurd (let empty = ap length none in omega (arith, empty, before, within))
  thinned_distinct (f ∷ edges) thin h distinct = elim h [
    | inl out ↦ thinned_distinct edges thin out.1 (distinct_rest f edges distinct)
    | inr kept ↦ subst AreDistinct (sym kept.1.0) (by kept.0 (thinned_among edges kept.0 kept.1.1) (thinned_distinct edges kept.0 kept.1.1 (distinct_rest f edges distinct)))
  ]
    where
      by : (rest : List Seg) → ((e : Seg) → Contains rest e → Contains edges e) → AreDistinct rest → AreDistinct (f ∷ rest)
      by rest among apart zero (suc j) d before within = λ same. distinct_first f edges distinct (among f (j, omega arith, get_or_default rest j f d (omega arith) ∙ sym same))
      by rest among apart (suc i) (suc j) d before within = apart i j d (omega arith) (omega arith)
      by rest among apart i zero d before within = absurd (omega arith)

  pub thinned_arranged : (edges thin : List Seg) → IsThinned passes edges thin → IsPlanar edges → AreDistinct edges → IsPlanar thin × AreDistinct thin
  thinned_arranged edges thin h planar distinct = (
    record {
      in_range = λ k d within. All-contains IsSegInRange edges (at thin k d) planar.in_range (thinned_among edges thin h (at thin k d) (k, within, get_or_default thin k (at thin k d) d within));
      noded = λ e f c i. planar.noded e f (thinned_among edges thin h e c) (thinned_among edges thin h f i);
    },
    thinned_distinct edges thin h distinct,
  )

  -- ---- sums over the edges

  abbrev jump : Seg → ℤ
  jump e = side_weight passes (down e) -ℤ side_weight passes (up e)

  none_left : (e : Seg) → passes (up e) ≡ passes (down e) → jump e ≡ pos 0
  none_left e same = let weights = ap (λ t. pos (cond t 1 0)) same in omega (arith, lin)

  abbrev chosen_sum : (Seg → Bool) → List Seg → ℤ
  chosen_sum chosen edges = int_sum_by (λ w. cond (chosen w.edge) w.weight (pos 0)) (weigh_sides passes edges)

  thinned_sum : (chosen : Seg → Bool) (edges thin : List Seg) → IsThinned passes edges thin → chosen_sum chosen thin ≡ chosen_sum chosen edges
  thinned_sum chosen [] thin none = ap (chosen_sum chosen) none
  thinned_sum chosen (e ∷ edges) thin h = elim h [
    | inl out ↦ (
        let rest = thinned_sum chosen edges thin out.1 in
        let first : cond (chosen e) (jump e) (pos 0) ≡ pos 0 = by (chosen e) (none_left e out.0) in
        omega (arith, lin)
        )
    | inr kept ↦ ap (chosen_sum chosen) kept.1.0 ∙ ap (λ n. cond (chosen e) (jump e) (pos 0) +ℤ n) (thinned_sum chosen edges kept.0 kept.1.1)
  ]
    where
      by : (b : Bool) → jump e ≡ pos 0 → cond b (jump e) (pos 0) ≡ pos 0
      by true none = none
      by false none = refl

  edges_of_weights : (edges : List Seg) → edges_of (weigh_sides passes edges) ≡ edges
  edges_of_weights [] = refl
  edges_of_weights (e ∷ es) = ap (λ t. e ∷ t) (edges_of_weights es)

  not_same : (e f : Seg) → ((e ≡ f) → ⊥) → is_same_seg e f ≡ false
  not_same e f n = elim (true_or_false (is_same_seg e f)) [ inl same ↦ absurd (n ((Decides-same_segs e f).0 same)) | inr other ↦ other ]

  weight_none : (e : Seg) (edges : List Seg) → (Contains edges e → ⊥) → weight_of e (weigh_sides passes edges) ≡ pos 0
  weight_none e [] none = refl
  weight_none e (f ∷ fs) none =
      let other = not_same e f (λ same. none (subst (λ t. Contains (f ∷ fs) t) (sym same) (contains_here f fs))) in
      let first = ap (λ t. cond t (jump f) (pos 0)) other in
      let rest = weight_none e fs (λ c. none (contains_there f e fs c)) in
      omega (arith, lin)

  weight_once : (e : Seg) (edges : List Seg) → AreDistinct edges → Contains edges e → weight_of e (weigh_sides passes edges) ≡ jump e
  weight_once e [] distinct c = absurd (omega (arith, c.1))
  weight_once e (f ∷ fs) distinct c =
      elim (first_or_later f fs e c) [
        | inl here ↦ (
            let first = ap (λ t. cond t (jump f) (pos 0)) ((Decides-same_segs e f).1 (sym here)) in
            let rest = weight_none e fs (λ i. distinct_first f fs distinct (subst (λ t. Contains fs t) (sym here) i)) in
            let own = ap jump here in
            omega (arith, lin)
            )
        | inr later ↦ (
            let other = not_same e f (λ same. distinct_first f fs distinct (subst (λ t. Contains fs t) same later)) in
            let first = ap (λ t. cond t (jump f) (pos 0)) other in
            let rest = weight_once e fs (distinct_rest f fs distinct) later in
            omega (arith, lin)
            )
      ]

-- ---- the test is kept

-- the test is the same at joined points on the left
abbrev pub IsJoinedTest : List Seg → (HalfEdge → Bool) → Type 0
IsJoinedTest edges passes = (h g : HalfEdge) → Contains edges h.edge → Contains edges g.edge → Joined edges (left h) (left g) → passes h ≡ passes g

module _ (edges : List Seg) (planar : IsPlanar edges) (distinct : AreDistinct edges) (passes : HalfEdge → Bool) (kept : IsJoinedTest edges passes) where
  in_range : (e : Seg) → Contains edges e → IsSegInRange e
  in_range e c = All-contains IsSegInRange edges e planar.in_range c

  abbrev sum_at : Point → ℤ
  sum_at p = crossing_sum (weigh_sides passes edges) p

  abbrev level : HalfEdge → ℤ
  level h = sum_at (left h) -ℤ side_weight passes h

  balanced : IsBalanced (weigh_sides passes edges)
  balanced = balanced_sides edges planar distinct passes (λ h g next. kept h g next.among next.leaves.among (next_joined edges planar h g next))

  sum_joined : (p q : Point) → Joined edges p q → sum_at p ≡ sum_at q
  sum_joined p q j =
      let same = edges_of_weights passes edges in
      crossing_sum-joined (weigh_sides passes edges) (subst (λ es. IsSwept es) (sym same) (λ e c. rises-in_range e (in_range e c))) balanced p q (subst (λ es. Joined es p q) (sym same) j)

  sum_across : (e : Seg) → Contains edges e → sum_at (lower e) ≡ sum_at (upper e) +ℤ jump passes e
  sum_across e c =
      let same = edges_of_weights passes edges in
      let all : AllMeetInEnds e edges = λ f i. (in_range f i, planar.noded e f c i) in
      let across = crossing_sum-across e (weigh_sides passes edges) (in_range e c) (subst (λ es. AllMeetInEnds e es) (sym same) all) in
      let once = weight_once passes e edges distinct c in
      omega (arith, lin)

  level-twin : (h : HalfEdge) → Contains edges h.edge → level h ≡ level (twin h)
  level-twin h c = by_direction h.forwards
    where
      by_direction : (b : Bool) → level (record { edge = h.edge; forwards = b }) ≡ level (twin (record { edge = h.edge; forwards = b }))
      by_direction true = (let across = sum_across h.edge c in omega (arith, lin))
      by_direction false = (let across = sum_across h.edge c in omega (arith, lin))

  level-joined : (h g : HalfEdge) → Contains edges h.edge → Contains edges g.edge → Joined edges (left h) (left g) → level h ≡ level g
  level-joined h g in_h in_g j =
      let sums = sum_joined (left h) (left g) j in
      let weights = ap (λ t. pos (cond t 1 0)) (kept h g in_h in_g j) in
      omega (arith, lin)

  same_level : (h g : HalfEdge) → Contains edges h.edge → Contains edges g.edge → level h ≡ level g
  same_level h g in_h in_g =
      let test : HalfEdge → Bool = λ k. int_eq (level k) (level h) in
      let crossed : IsCrossed edges test = record {
        across = λ k c. ap (λ n. int_eq n (level h)) (level-twin k c);
        joined = λ k l c i j. ap (λ n. int_eq n (level h)) (level-joined k l c i j);
      } in
      let here : test h ≡ true = (Decides-int_eq (level h) (level h)).1 refl in
      sym ((Decides-int_eq (level g) (level h)).0 (sym (crossed_same edges planar test crossed h g in_h in_g) ∙ here))

  same_weight : (h g : HalfEdge) → side_weight passes h ≡ side_weight passes g → passes h ≡ passes g
  same_weight h g = by (passes h) (passes g)
    where
      by : (s t : Bool) → pos (cond s 1 0) ≡ pos (cond t 1 0) → s ≡ t
      by true true e = refl
      by true false e = absurd (omega (arith, lin, e))
      by false true e = absurd (omega (arith, lin, e))
      by false false e = refl

  -- where the others pass alike on both sides, it is the same at points that are joined round the thinned edges alone
  pub thinned_kept : (thin : List Seg) → IsThinned passes edges thin → (h g : HalfEdge) → Contains thin h.edge → Contains thin g.edge → Joined thin (left h) (left g) → passes h ≡ passes g
  thinned_kept thin is h g in_h in_g j =
      let among = thinned_among passes edges thin is in
      let same = edges_of_weights passes thin in
      let balance : IsBalanced (weigh_sides passes thin) = λ inside.
      thinned_sum passes (λ e. inside e.lo) edges thin is ∙ balanced inside ∙ sym (thinned_sum passes (λ e. inside e.hi) edges thin is) in
      let sums = crossing_sum-joined (weigh_sides passes thin) (subst (λ es. IsSwept es) (sym same) (λ e c. rises-in_range e (in_range e (among e c)))) balance (left h) (left g)
      (subst (λ es. Joined es (left h) (left g)) (sym same) j) in
      let at_h = thinned_sum passes (λ e. is_over e (left h)) edges thin is in
      let at_g = thinned_sum passes (λ e. is_over e (left g)) edges thin is in
      let levels = same_level h g (among h.edge in_h) (among g.edge in_g) in
      same_weight h g (omega (arith, lin))

  -- so where all pass alike on both sides, all pass alike
  pub none_thinned : IsThinned passes edges [] → (h g : HalfEdge) → Contains edges h.edge → Contains edges g.edge → passes h ≡ passes g
  none_thinned none h g in_h in_g = crossed_same edges planar passes (record { across = across edges none; joined = kept }) h g in_h in_g
    where
      across : (es : List Seg) → IsThinned passes es [] → (k : HalfEdge) → Contains es k.edge → passes k ≡ passes (twin k)
      across [] is k c = absurd (omega (arith, c.1))
      across (e ∷ es) is k c = elim is [
        | inl out ↦ elim (first_or_later e es k.edge c) [
          | inl here ↦ by k.forwards k.edge here out.0
          | inr later ↦ across es out.1 k later
        ]
        | inr in_thin ↦ absurd (let long = ap length in_thin.1.0 in omega (arith, long))
      ]
        where
          by : (b : Bool) (f : Seg) → e ≡ f → passes (up e) ≡ passes (down e) → passes (record { edge = f; forwards = b }) ≡ passes (twin (record { edge = f; forwards = b }))
          by true f same alike = subst (λ x. passes (up x) ≡ passes (down x)) same alike
          by false f same alike = subst (λ x. passes (down x) ≡ passes (up x)) same (sym alike)
