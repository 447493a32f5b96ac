-- From one side of an edge to the other, only that edge changes.
use Rattle.std.proofs.Common.{◌≡◌, refl, sym, ◌∙◌, ap, subst, ℕ, ◌+◌, ◌%◌, ◌==◌, ◌↔◌, Bool, true, false, not, ◌&&◌, cond, List, map, count_by, Contains, ℤ, pos, ◌+ℤ◌, ◌*ℤ◌, ◌≤ℤ◌, ◌<ℤ◌, int_lt, ◌^◌, inl, inr, ⊎_elim, true≢false, add-zero, arith}
use Rattle.std.proofs.lemmas.Bool.Decides.{nat_tests}
use Rattle.cov_types.specs.declared.coord.Coord.{Coord}
use Rattle.cov_types.specs.declared.edge_use.EdgeUse.{EdgeUse}
use Rattle.cov_types.specs.declared.seg.Seg.{Seg}
use Rattle.cov_types.specs.Range.{IsSegInRange}
use Rattle.cov_types.proofs.Equal.{Decides-same_segs}
use Rattle.integer_laws.proofs.Ring.{lin, pos_times, mul_comm}
use Rattle.integer_laws.proofs.Compare.{le_of_eq}
use Rattle.plane.specs.Point.{at_coord}
use Rattle.plane.specs.Segment.{upper, lower}
use Rattle.plane.specs.Ray.{sweep, is_over, Rises}
use Rattle.plane.specs.Parity.{holds, member_holds}
use Rattle.plane.specs.Joined.{IsClear}
use Rattle.plane.specs.Noded.{MeetInEnds}
use Rattle.plane.proofs.Over.{over-is}
use Rattle.plane.proofs.Sweeps.{rises-in_range}
use Rattle.crossing_laws.specs.Across.{AllMeetInEnds, is_same_seg, times, member_times, weight_of}
use Rattle.crossing_laws.specs.Crossing.{WeightedEdge, edges_of, crossing_sum}
use Rattle.crossing_laws.proofs.Beside.{HaveOnlyEnds, sweep-upper, sweep-lower, side-upper, side-lower, side_points_clear}
use Rattle.crossing_laws.proofs.Lists.{contains-map, sum_splits, int_sum_splits}
use Rattle.crossing_laws.proofs.OneEdge.{passes, one_edge}
use Rattle.crossing_laws.proofs.Tests.{IsSamePair}

-- ---- an edge that meets it in ends alone

-- the two side points are at one sweep value
level : (e : Seg) → sweep (lower e) ≡ sweep (upper e)
level e = sweep-lower e ∙ sym (sweep-upper e)

none_and_not : (a b c : Bool) → a ≡ b → a && not b && c ≡ false
none_and_not true true c h = refl
none_and_not true false c h = absurd (true≢false h)
none_and_not false b c h = refl

-- so the way between them passes nothing
none_passed : (e : Seg) (v : Coord) → passes (lower e) (upper e) v ≡ false
none_passed e v =
    none_and_not _ _ _ (ap (λ s. int_lt (s *ℤ pos 1) (sweep (at_coord v) *ℤ pos (2 ^ 64))) (level e))

without_passes : (a b c d : Bool) → IsSamePair a b c d → b ≡ false → d ≡ false → a ≡ c
without_passes a b c d h none_b none_d =
    elim h [
      | inl same ↦ same.0
      | inr turned ↦ turned.0 ∙ none_d ∙ sym none_b ∙ turned.1
    ]

-- no edge that meets it in ends alone is between its side points
pub side_points-clear : (e : Seg) (edges : List Seg) → IsSegInRange e → AllMeetInEnds e edges → ¬ Contains edges e → IsClear edges (lower e) (upper e)
side_points-clear e edges he all none = λ f i.
    (let a = all f i in
    let ends : HaveOnlyEnds e f = ⊎_elim (λ same. absurd (none (subst (λ g. Contains edges g) (sym same) i))) (λ h. h) a.1 in
    (side_points_clear e f he a.0 ends).none)

-- it is over both or over none
pub over_alike : (e f : Seg) → IsSegInRange e → IsSegInRange f → HaveOnlyEnds e f → is_over f (upper e) ≡ is_over f (lower e)
over_alike e f he hf ends =
    without_passes _ _ _ _
    (one_edge f (lower e) (upper e) (side_points_clear e f he hf ends) (rises-in_range f hf) (le_of_eq (ap (λ s. s *ℤ pos (2 ^ 64)) (level e))))
    (none_passed e f.hi) (none_passed e f.lo)

-- ---- the edge itself

half_sum : (l h : ℤ) → l <ℤ h → ((l *ℤ pos (2 ^ 64)) ≤ℤ (pos (2 ^ 63) *ℤ (l +ℤ h))) × ((pos (2 ^ 63) *ℤ (l +ℤ h)) <ℤ (h *ℤ pos (2 ^ 64)))
half_sum l h lt = (
  omega (arith, lin, pos_times (2 ^ 63) (l +ℤ h), mul_comm l (pos (2 ^ 64)), pos_times (2 ^ 64) l),
  omega (arith, lin, pos_times (2 ^ 63) (l +ℤ h), mul_comm h (pos (2 ^ 64)), pos_times (2 ^ 64) h),
)

-- it is over the point below it
pub over_lower : (e : Seg) → Rises e → is_over e (lower e) ≡ true
over_lower e up =
    let middle = half_sum (sweep (at_coord e.lo)) (sweep (at_coord e.hi)) up in
    let at = sweep-lower e in
    (over-is e (lower e)).1 (record { from = omega (arith, lin, middle.0); to = omega (arith, lin, middle.1); below = omega (arith, lin, side-lower e) })

not_true : (t : Bool) → (t ≡ true → ⊥) → t ≡ false
not_true true h = absurd (h refl)
not_true false h = refl

-- and not over the one above
pub over_upper : (e : Seg) → Rises e → is_over e (upper e) ≡ false
over_upper e up =
    not_true (is_over e (upper e)) (λ h. let below = ((over-is e (upper e)).0 h).below in omega (arith, lin, side-upper e))

-- ---- one edge of a list, chosen or not

one_more : (m below above same : Bool) → (same ≡ true → below ≡ true) → (same ≡ true → above ≡ false) → (same ≡ false → above ≡ below)
    → cond (m && below) 1 0 ≡ cond (m && above) 1 0 + cond (m && same) 1 0
one_more false below above same h k l = refl
one_more true below above true h k l =
    let count : Bool → ℕ = λ t. cond t 1 0 in
    ap count (h refl) ∙ sym (ap (λ t. count t + 1) (k refl))
one_more true below above false h k l =
    let count : Bool → ℕ = λ t. cond t 1 0 in
    sym (ap count (l refl)) ∙ sym (add-zero (count above))

one_weight : (w : ℤ) (below above same : Bool) → (same ≡ true → below ≡ true) → (same ≡ true → above ≡ false) → (same ≡ false → above ≡ below)
    → cond below w (pos 0) ≡ cond above w (pos 0) +ℤ cond same w (pos 0)
one_weight w below above true h k l = (let x = ap (λ t. cond t w (pos 0)) (h refl) in let y = ap (λ t. cond t w (pos 0)) (k refl) in omega (arith, lin))
one_weight w below above false h k l = (let x = ap (λ t. cond t w (pos 0)) (l refl) in omega (arith, lin))

-- what the edge f of the list does from below e to above
pub record Changes (e f : Seg) : Type 0 where
  pub below : is_same_seg e f ≡ true → is_over f (lower e) ≡ true
  pub above : is_same_seg e f ≡ true → is_over f (upper e) ≡ false
  pub other : is_same_seg e f ≡ false → is_over f (upper e) ≡ is_over f (lower e)

changes : (e f : Seg) → IsSegInRange e → IsSegInRange f → MeetInEnds e f → Changes e f
changes e f he hf h =
    let same = Decides-same_segs e f in
    let up = rises-in_range e he in
    record {
      below = λ t. ap (λ (g : Seg). is_over g (lower e)) (sym (same.0 t)) ∙ over_lower e up;
      above = λ t. ap (λ (g : Seg). is_over g (upper e)) (sym (same.0 t)) ∙ over_upper e up;
      other = λ t. ⊎_elim (λ (q : e ≡ f). absurd (true≢false (sym (same.1 q) ∙ t))) (over_alike e f he hf) h;
    }

-- ---- a list

parity_alike : (a b k : ℕ) → a ≡ b + k → (a % 2 == 1) ≡ (b % 2 == 1) → k % 2 ≡ 0
parity_alike a b k e h = grind (arith, nat_tests)

parity_same : (a b k : ℕ) → a ≡ b + k → k % 2 ≡ 0 → (a % 2 == 1) ≡ (b % 2 == 1)
parity_same a b k e h = let same : a % 2 ≡ b % 2 = omega arith in ap (λ n. n == 1) same

parity_is : (a b k : ℕ) → a ≡ b + k → ((a % 2 == 1) ≡ (b % 2 == 1)) ↔ (k % 2 ≡ 0)
parity_is a b k e = (parity_alike a b k e, parity_same a b k e)

-- of the items of a list, some of which are chosen, each with a segment
chosen_across : {X : Type 0} (seg : X → Seg) (chosen : X → Bool) (items : List X) (e : Seg) → ((x : X) → Contains items x → Changes e (seg x))
    → count_by (λ x. chosen x && is_over (seg x) (lower e)) items
    ≡ count_by (λ x. chosen x && is_over (seg x) (upper e)) items + count_by (λ x. chosen x && is_same_seg e (seg x)) items
chosen_across seg chosen items e h =
    sum_splits (λ x. cond (chosen x && is_over (seg x) (lower e)) 1 0) (λ x. cond (chosen x && is_over (seg x) (upper e)) 1 0)
    (λ x. cond (chosen x && is_same_seg e (seg x)) 1 0) items
    (λ x i. let c = h x i in one_more (chosen x) (is_over (seg x) (lower e)) (is_over (seg x) (upper e)) (is_same_seg e (seg x)) c.below c.above c.other)

-- the two side points of e are held alike exactly where e occurs an even number of times
pub holds-across : (e : Seg) (edges : List Seg) → IsSegInRange e → AllMeetInEnds e edges
    → (holds edges (lower e) ≡ holds edges (upper e)) ↔ (times e edges % 2 ≡ 0)
holds-across e edges he all =
    parity_is _ _ _ (chosen_across (λ f. f) (λ f. true) edges e (λ f i. let a = all f i in changes e f he a.0 a.1))

-- and by a member, where it uses e an even number of times
pub member_holds-across : (e : Seg) (uses : List EdgeUse) (member : ℕ) → IsSegInRange e → AllMeetInEnds e (map (λ u. u.seg) uses)
    → (member_holds uses member (lower e) ≡ member_holds uses member (upper e)) ↔ (member_times e uses member % 2 ≡ 0)
member_holds-across e uses member he all =
    parity_is _ _ _
    (chosen_across (λ u. u.seg) (λ u. u.member == member) uses e
    (λ u i. let a = all u.seg (contains-map (λ (v : EdgeUse). v.seg) uses u i) in changes e u.seg he a.0 a.1))

-- the sum below e is that above it and the weight of e
pub crossing_sum-across : (e : Seg) (weighted : List WeightedEdge) → IsSegInRange e → AllMeetInEnds e (edges_of weighted)
    → crossing_sum weighted (lower e) ≡ crossing_sum weighted (upper e) +ℤ weight_of e weighted
crossing_sum-across e weighted he all =
    int_sum_splits (λ w. cond (is_over w.edge (lower e)) w.weight (pos 0)) (λ w. cond (is_over w.edge (upper e)) w.weight (pos 0))
    (λ w. cond (is_same_seg e w.edge) w.weight (pos 0)) weighted
    (λ w i.
    let a = all w.edge (contains-map (λ v. v.edge) weighted w i) in
    let c = changes e w.edge he a.0 a.1 in
    one_weight w.weight (is_over w.edge (lower e)) (is_over w.edge (upper e)) (is_same_seg e w.edge) c.below c.above c.other)
