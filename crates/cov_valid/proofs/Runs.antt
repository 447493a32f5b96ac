-- The members that hold a midpoint, run by run.
use Rattle.std.proofs.Common.{◌≡◌, refl, sym, ◌∙◌, ap, ap₂, subst, ℕ, suc, ◌+◌, ◌-◌, ◌%◌, ◌<◌, ◌≤◌, ◌==◌, ◌↔◌, Bool, true, false, not, ◌&&◌, cond, List, [], ◌∷◌, ◌++◌, length, get_or, take, drop, All, Contains, count_by, arith, inl, inr, length-take, length-drop, ℤ, pos, int_le, int_lt, ◌+ℤ◌, ◌*ℤ◌, ◌≤ℤ◌, ◌<ℤ◌}
use Rattle.std.specs.Int.{int_min, int_max}
use Rattle.std.specs.Prelude.{AllPairs, slice_range}
use Rattle.std.proofs.lemmas.Bool.{and_from, and_parts, cases_Bool, and_left, and_right, false≢true, cases_eq, eq-eqb, ne_eqb}
use Rattle.std.proofs.lemmas.List.{get_or-take, get_or-drop, get_or_default, get_or_append_left, get_or_push, length_push}
use Rattle.std.proofs.lemmas.List.Elements.{All-weaker}
use Rattle.std.proofs.lemmas.List.Sums.{sum_by_push, sum_by-cons}
use Rattle.box_tree.proofs.PlaceLaws.{place_below, places_ascend}
use Rattle.box_tree.specs.Places.{places}
use Rattle.box_tree.specs.Probe.{is_above_point}
use Rattle.box_tree.proofs.Touching.{is_touching-is}
use Rattle.box_tree.specs.Rect.{IsInside, box_of_segment, is_touching}
use Rattle.box_tree.specs.declared.rect.Rect.{Rect}
use Rattle.cov_types.specs.Range.{IsSegInRange}
use Rattle.cov_types.specs.Rings.{IsRing}
use Rattle.cov_types.specs.declared.coord.Coord.{Coord}
use Rattle.cov_types.specs.declared.edge_use.EdgeUse.{EdgeUse}
use Rattle.cov_types.specs.declared.outline.Outline.{Outline}
use Rattle.cov_types.specs.declared.ring_run.RingRun.{RingRun}
use Rattle.cov_types.specs.declared.seg.Seg.{Seg}
use Rattle.cov_valid.proofs.Boxes.{lesser, greater}
use Rattle.cov_valid.proofs.Stabs.{AreIn, beside_holds, higher_in}
use Rattle.cov_valid.specs.Holders.{AreHolders, IsMemberToggled}
use Rattle.cov_valid.specs.Levels.{IsAbout, twice_middle}
use Rattle.cov_valid.specs.RunIndex.{AreRingBoxes, IsInOrder}
use Rattle.integer_laws.proofs.Compare.{int_le_is, int_lt_is, not_int_lt_is}
use Rattle.integer_laws.proofs.Ring.{lin, pos_times}
use Rattle.parity_laws.proofs.Members.{member_runs}
use Rattle.parity_laws.proofs.Parts.{odd_sum, odd_one, run-higher}
use Rattle.parity_laws.specs.Paths.{differ}
use Rattle.parity_laws.specs.Runs.{run_holds}
use Rattle.plane.proofs.Sweeps.{rises-in_range}
use Rattle.plane.specs.Parity.{member_holds}
use Rattle.plane.specs.Point.{Point}
use Rattle.plane.specs.Segment.{midpoint}

next_number : (n j : ℕ) → (n + 1) + j ≡ n + suc j
next_number n j = omega arith

own_number : (n : ℕ) → n ≡ n + 0
own_number n = omega arith

zero_plus : (j : ℕ) → 0 + j ≡ j
zero_plus j = omega arith

-- ---- the runs at some places

abbrev pub no_run : RingRun
no_run = record { member = 0; from = 0; to = 0 }

-- the run at a place
abbrev pub run_at : List RingRun → ℕ → RingRun
run_at runs k = get_or runs k no_run

-- the run is the member's and holds the point
abbrev pub counts_for : List EdgeUse → Point → ℕ → RingRun → Bool
counts_for uses p member run = (run.member == member) && run_holds uses p run

-- an odd number of the member's runs at these places holds the point
abbrev pub odd_at : List EdgeUse → Point → List RingRun → ℕ → List ℕ → Bool
odd_at uses p runs member places = count_by (λ k. counts_for uses p member (run_at runs k)) places % 2 == 1

-- the list has exactly the members of which an odd number of runs at these places holds the point
pub record AreHeldAt (uses : List EdgeUse) (p : Point) (runs : List RingRun) (places : List ℕ) (holders : List ℕ) : Type 0 where
  pub ascending : AllPairs (λ i j. i < j) holders
  pub at_most : (b : ℕ) → All (λ k. (run_at runs k).member ≤ b) places → All (λ m. m ≤ b) holders
  pub odd : (member : ℕ) → Contains holders member ↔ (odd_at uses p runs member places ≡ true)

pub held_none : (uses : List EdgeUse) (p : Point) (runs : List RingRun) (places holders : List ℕ) → places ≡ [] → holders ≡ [] → AreHeldAt uses p runs places holders
held_none uses p runs places holders e f =
    subst (λ (ks : List ℕ). AreHeldAt uses p runs ks holders) (sym e)
    (subst (λ (hs : List ℕ). AreHeldAt uses p runs [] hs) (sym f)
    (record {
      ascending = λ i j d h k. absurd (omega (arith, k));
      at_most = λ b h k d within. absurd (omega (arith, within));
      odd = λ member. (λ h. absurd (omega (arith, h.1)), λ h. absurd (false≢true h));
    }))

odd_at-push : (uses : List EdgeUse) (p : Point) (runs : List RingRun) (member : ℕ) (places : List ℕ) (k : ℕ)
    → odd_at uses p runs member (places ++ k ∷ []) ≡ differ (odd_at uses p runs member places) (counts_for uses p member (run_at runs k))
odd_at-push uses p runs member places k =
    let counts : ℕ → Bool = λ j. counts_for uses p member (run_at runs j) in
    let so_far = count_by counts places in
    ap (λ n. n % 2 == 1) (sum_by_push (λ j. cond (counts j) 1 0) places k)
    ∙ odd_sum so_far (cond (counts k) 1 0)
    ∙ ap (differ (so_far % 2 == 1)) (odd_one (counts k))

differ-false : (a : Bool) → differ a false ≡ a
differ-false true = refl
differ-false false = refl

differ-true : (a : Bool) → differ a true ≡ not a
differ-true true = refl
differ-true false = refl

not_true : (a : Bool) → ¬ (a ≡ true) → not a ≡ true
not_true true h = absurd (h refl)
not_true false h = refl

true_not : (a : Bool) → not a ≡ true → ¬ (a ≡ true)
true_not true h k = false≢true h
true_not false h k = false≢true k

all_front : (P : ℕ → Type 0) (ks : List ℕ) (k : ℕ) → All P (ks ++ k ∷ []) → All P ks
all_front P ks k h j d within = subst P (get_or_append_left ks (k ∷ []) d j within) (h j d (omega (arith, within, length_push ks k)))

all_last : (P : ℕ → Type 0) (ks : List ℕ) (k : ℕ) → All P (ks ++ k ∷ []) → P k
all_last P ks k h = subst P (get_or_push ks k k (length ks) refl) (h (length ks) k (omega (arith, length_push ks k)))

-- a run that does not hold the point changes nothing
pub held_kept : (uses : List EdgeUse) (p : Point) (runs : List RingRun) (places holders : List ℕ) (k : ℕ) → run_holds uses p (run_at runs k) ≡ false → AreHeldAt uses p runs places holders
    → AreHeldAt uses p runs (places ++ k ∷ []) holders
held_kept uses p runs places holders k not_held are = record {
  ascending = are.ascending;
  at_most = λ b h. are.at_most b (all_front (λ j. (run_at runs j).member ≤ b) places k h);
  odd = λ member.
      let same : odd_at uses p runs member (places ++ k ∷ []) ≡ odd_at uses p runs member places =
      odd_at-push uses p runs member places k
      ∙ ap (differ (odd_at uses p runs member places)) (and_right ((run_at runs k).member == member) (run_holds uses p (run_at runs k)) not_held)
      ∙ differ-false (odd_at uses p runs member places) in
      (λ h. same ∙ (are.odd member).0 h, λ h. (are.odd member).1 (sym same ∙ h));
}

-- one that holds it turns whether its member does
pub held_toggled : (uses : List EdgeUse) (p : Point) (runs : List RingRun) (places holders after : List ℕ) (k : ℕ) → run_holds uses p (run_at runs k) ≡ true
    → IsMemberToggled holders (run_at runs k).member after → AreHeldAt uses p runs places holders → AreHeldAt uses p runs (places ++ k ∷ []) after
held_toggled uses p runs places holders after k held toggled are =
    let owner : ℕ = (run_at runs k).member in record {
      ascending = toggled.ascending;
      at_most = λ b h.
          let below : owner ≤ b = all_last (λ j. (run_at runs j).member ≤ b) places k h in
          All-weaker (λ (m : ℕ). m ≤ owner) (λ (m : ℕ). m ≤ b) (λ m l. omega (arith, l, below)) after toggled.at_most;
      odd = λ member.
          let so_far : Bool = odd_at uses p runs member places in
          let more : odd_at uses p runs member (places ++ k ∷ []) ≡ differ so_far (counts_for uses p member (run_at runs k)) = odd_at-push uses p runs member places k in
          elim (cases_eq member owner) [
            | inl same ↦
                let counts : counts_for uses p member (run_at runs k) ≡ true = and_from (owner == member) (run_holds uses p (run_at runs k)) (eq-eqb owner member (sym same)) held in
                let now : odd_at uses p runs member (places ++ k ∷ []) ≡ not so_far = more ∙ ap (differ so_far) counts ∙ differ-true so_far in
                let turned : Contains after member ↔ ¬ Contains holders member = subst (λ (m : ℕ). Contains after m ↔ ¬ Contains holders m) (sym same) toggled.turned in (
                  λ h. now ∙ not_true so_far (λ odd. turned.0 h ((are.odd member).1 odd)),
                  λ h. turned.1 (λ listed. true_not so_far (sym now ∙ h) ((are.odd member).0 listed)),
                )
            | inr other ↦
                let counts : counts_for uses p member (run_at runs k) ≡ false = and_left (owner == member) (run_holds uses p (run_at runs k)) (ne_eqb owner member (λ e. other (sym e))) in
                let now : odd_at uses p runs member (places ++ k ∷ []) ≡ so_far = more ∙ ap (differ so_far) counts ∙ differ-false so_far in
                let stays : Contains after member ↔ Contains holders member = toggled.others member other in (
                  λ h. now ∙ (are.odd member).0 (stays.0 h),
                  λ h. stays.1 ((are.odd member).1 (sym now ∙ h)),
                )
          ];
    }

-- ---- places that are found

count_kept : (t : Bool) (test : ℕ → Bool) (n : ℕ) (ns : List ℕ) → count_by test (cond t (n ∷ ns) ns) ≡ cond t (cond (test n) 1 0) 0 + count_by test ns
count_kept true test n ns = sum_by-cons (λ k. cond (test k) 1 0) n ns
count_kept false test n ns = omega arith

first_counted : (t r s : Bool) → s ≡ r → (t ≡ false → r ≡ false) → ◌≡◌ {A = ℕ} (cond t (cond s 1 0) 0) (cond r 1 0)
first_counted true r s same none = ap {B = ℕ} (λ (b : Bool). cond b 1 0) same
first_counted false r s same none = sym (ap {B = ℕ} (λ (b : Bool). cond b 1 0) (none refl))

-- where no run counts that is not found, those that are found are counted for all
found_count : (test : Rect → Bool) (q : RingRun → Bool) (at : ℕ → RingRun) (n : ℕ) (boxes : List Rect) (runs : List RingRun) → length boxes ≡ length runs
    → ((j : ℕ) (d : RingRun) → j < length runs → at (n + j) ≡ get_or runs j d)
    → ((j : ℕ) (d : RingRun) (b : Rect) → j < length runs → test (get_or boxes j b) ≡ false → q (get_or runs j d) ≡ false)
    → count_by (λ k. q (at k)) (places test n boxes) ≡ count_by q runs
found_count test q at n [] [] long same none = refl
found_count test q at n [] (run ∷ runs) long same none = absurd (omega (arith, long))
found_count test q at n (box ∷ boxes) [] long same none = absurd (omega (arith, long))
found_count test q at n (box ∷ boxes) (run ∷ runs) long same none =
    let rest : count_by (λ k. q (at k)) (places test (n + 1) boxes) ≡ count_by q runs =
    found_count test q at (n + 1) boxes runs (omega (arith, long))
    (λ j d h. ap at (next_number n j) ∙ same (suc j) d (omega (arith, h)))
    (λ j d b h. none (suc j) d b (omega (arith, h))) in
    let here : at n ≡ run = ap at (own_number n) ∙ same 0 run (omega arith) in
    let first : cond (test box) (cond (q (at n)) 1 0) 0 ≡ cond (q run) 1 0 = first_counted (test box) (q run) (q (at n)) (ap q here) (none 0 run box (omega arith)) in
    count_kept (test box) (λ k. q (at k)) n (places test (n + 1) boxes)
    ∙ ap₂ (λ (a : ℕ) (b : ℕ). a + b) first rest
    ∙ sym (sum_by-cons (λ r. cond (q r) 1 0) run runs)

-- ---- the rings whose boxes are found

half_below : (least a b high : ℤ) → (least ≤ℤ a) × (least ≤ℤ b) → (a +ℤ b) ≤ℤ (pos 2 *ℤ high) → least ≤ℤ high
half_below least a b high h sum = omega (arith, lin, h.0, h.1, sum, pos_times 2 high)

half_above : (greatest a b low : ℤ) → (a ≤ℤ greatest) × (b ≤ℤ greatest) → (pos 2 *ℤ low) ≤ℤ (a +ℤ b) → low ≤ℤ greatest
half_above greatest a b low h sum = omega (arith, lin, h.0, h.1, sum, pos_times 2 low)

-- the uses of a run are within its box
about_in : (uses : List EdgeUse) (from to : ℕ) (b : Rect) → IsAbout (slice_range uses from to) b → to ≤ length uses → AreIn uses from to b
about_in uses from to b about within k u low high =
    let j = k - from in
    let back : from + j ≡ k = omega arith in
    let inside : j < length (slice_range uses from to) = omega (arith, length-take (to - from) (drop from uses), length-drop from uses) in
    let same : get_or (slice_range uses from to) j u ≡ get_or uses k u =
    get_or-take (to - from) (drop from uses) j u (omega arith) ∙ get_or-drop from uses j u ∙ ap (λ n. get_or uses n u) back in
    subst (λ (v : EdgeUse). IsInside (box_of_segment v.seg) b) same (about j u inside)

-- a run whose box is beside the midpoint does not hold it
beside_run : (uses : List EdgeUse) (run : RingRun) (b : Rect) (s : Seg) → All (λ u. IsSegInRange u.seg) uses → IsSegInRange s → run.to ≤ length uses → IsAbout (slice_range uses run.from run.to) b
    → is_above_point (twice_middle s) b ≡ false → run_holds uses (midpoint s) run ≡ false
beside_run uses run b s in_range hs within about beside =
    sym (beside_holds uses run.from run.to b s in_range hs within (about_in uses run.from run.to b about within) beside)

-- a box that has a point of the midpoint's column above it, and is not wholly above, touches the segment's box
touching_from : (b : Rect) (s : Seg) → is_above_point (twice_middle s) b ≡ true → (pos 2 *ℤ b.lo.y) ≤ℤ (s.lo.y +ℤ s.hi.y) → is_touching (box_of_segment s) b ≡ true
touching_from b s above low =
    let column : Bool = int_le (pos 2 *ℤ b.lo.x) (s.lo.x +ℤ s.hi.x) && int_le (s.lo.x +ℤ s.hi.x) (pos 2 *ℤ b.hi.x) in
    let parts = and_parts column (int_lt (s.lo.y +ℤ s.hi.y) (pos 2 *ℤ b.hi.y)) above in
    let sides = and_parts (int_le (pos 2 *ℤ b.lo.x) (s.lo.x +ℤ s.hi.x)) (int_le (s.lo.x +ℤ s.hi.x) (pos 2 *ℤ b.hi.x)) parts.0 in
    let left : (pos 2 *ℤ b.lo.x) ≤ℤ (s.lo.x +ℤ s.hi.x) = (int_le_is (pos 2 *ℤ b.lo.x) (s.lo.x +ℤ s.hi.x)).0 sides.0 in
    let right : (s.lo.x +ℤ s.hi.x) ≤ℤ (pos 2 *ℤ b.hi.x) = (int_le_is (s.lo.x +ℤ s.hi.x) (pos 2 *ℤ b.hi.x)).0 sides.1 in
    let top : (s.lo.y +ℤ s.hi.y) <ℤ (pos 2 *ℤ b.hi.y) = (int_lt_is (s.lo.y +ℤ s.hi.y) (pos 2 *ℤ b.hi.y)).0 parts.1 in
    (is_touching-is (box_of_segment s) b).1
    (record {
      left = half_below (int_min s.lo.x s.hi.x) s.lo.x s.hi.x b.hi.x (lesser s.lo.x s.hi.x) right;
      right = half_above (int_max s.lo.x s.hi.x) s.lo.x s.hi.x b.lo.x (greater s.lo.x s.hi.x) left;
      below = half_below (int_min s.lo.y s.hi.y) s.lo.y s.hi.y b.hi.y (lesser s.lo.y s.hi.y) (omega (arith, lin, top));
      above = half_above (int_max s.lo.y s.hi.y) s.lo.y s.hi.y b.lo.y (greater s.lo.y s.hi.y) low;
    })

-- a ring whose box does not touch the segment's does not hold its midpoint
apart_run : (uses : List EdgeUse) (starts : List Coord) (run : RingRun) (b : Rect) (s : Seg) → All (λ u. IsSegInRange u.seg) uses → IsSegInRange s → IsRing uses starts run → IsAbout (slice_range uses run.from run.to) b
    → is_touching (box_of_segment s) b ≡ false → run_holds uses (midpoint s) run ≡ false
apart_run uses starts run b s in_range hs ring about apart =
    elim (cases_Bool (is_above_point (twice_middle s) b)) [
      | inl above ↦ elim (cases_Bool (int_lt (s.lo.y +ℤ s.hi.y) (pos 2 *ℤ b.lo.y))) [
        | inl higher ↦
            let lower : (s.lo.y +ℤ s.hi.y) <ℤ (pos 2 *ℤ b.lo.y) = (int_lt_is (s.lo.y +ℤ s.hi.y) (pos 2 *ℤ b.lo.y)).0 higher in
            let inside : AreIn uses run.from run.to b = about_in uses run.from run.to b about ring.uses_end in
            run-higher uses starts run (midpoint s) ring
            (λ k u l h. (rises-in_range (get_or uses k u).seg (in_range k u (omega (arith, h, ring.uses_end))), higher_in b (get_or uses k u).seg s (inside k u l h) lower))
        | inr not_higher ↦
            let low : (pos 2 *ℤ b.lo.y) ≤ℤ (s.lo.y +ℤ s.hi.y) = (not_int_lt_is (s.lo.y +ℤ s.hi.y) (pos 2 *ℤ b.lo.y)).0 (ap not not_higher) in
            absurd (false≢true (sym apart ∙ touching_from b s above low))
      ]
      | inr beside ↦ beside_run uses run b s in_range hs ring.uses_end about beside
    ]

-- the members that hold the midpoint by the runs that are found are those that hold it
pub holders_all : (outline : Outline) (boxes : List Rect) (s : Seg) (found holders : List ℕ) → IsInOrder outline → AreRingBoxes outline.uses.items outline.rings.items boxes → IsSegInRange s
    → found ≡ places (is_touching (box_of_segment s)) 0 boxes → AreHeldAt outline.uses.items (midpoint s) outline.rings.items found holders → AreHolders outline.uses.items (midpoint s) holders
holders_all outline boxes s found holders in_order are_boxes hs e are =
    let uses = outline.uses.items in
    let runs = outline.rings.items in
    let p = midpoint s in record {
      ascending = are.ascending;
      exact = λ member.
          let q : RingRun → Bool = λ r. counts_for uses p member r in
          let counted : count_by (λ k. q (run_at runs k)) (places (is_touching (box_of_segment s)) 0 boxes) ≡ count_by q runs =
          found_count (is_touching (box_of_segment s)) q (run_at runs) 0 boxes runs are_boxes.count
          (λ j d h. ap (run_at runs) (zero_plus j) ∙ get_or_default runs j no_run d h)
          (λ j d b h apart.
          and_right ((get_or runs j d).member == member) (run_holds uses p (get_or runs j d))
          (apart_run uses outline.starts.items (get_or runs j d) (get_or boxes j b) s in_order.in_range hs (in_order.round j d h) (are_boxes.about j d b h) apart)) in
          let same : odd_at uses p runs member found ≡ member_holds uses member p =
          ap (λ ks. odd_at uses p runs member ks) e ∙ ap (λ n. n % 2 == 1) counted ∙ sym (member_runs uses outline.starts.items runs member p in_order.in_row in_order.round) in
          (λ h. sym same ∙ (are.odd member).0 h, λ h. (are.odd member).1 (same ∙ h));
    }

-- ---- the loop over the places

-- each place that is found is that of a run
pub found_within : (test : Rect → Bool) (boxes : List Rect) (runs : List RingRun) (found : List ℕ) (i d : ℕ) → found ≡ places test 0 boxes → length boxes ≡ length runs → i < length found → get_or found i d < length runs
found_within test boxes runs found i d e long within =
    let below : All (λ k. k < length boxes) found = subst (λ ks. All (λ k. k < length boxes) ks) (sym e) (place_below test boxes) in
    omega (arith, below i d within, long)

-- the members of the runs at earlier places are at most that of the run at a later one
pub members_below : (test : Rect → Bool) (boxes : List Rect) (runs : List RingRun) (found : List ℕ) (i d : ℕ) → found ≡ places test 0 boxes → length boxes ≡ length runs → AllPairs (λ r s. r.member ≤ s.member) runs → i < length found
    → All (λ k. (run_at runs k).member ≤ (run_at runs (get_or found i d)).member) (take i found)
members_below test boxes runs found i d e long up within j c short =
    let ascend : AllPairs (λ (a : ℕ) (b : ℕ). a < b) found = subst (λ (ks : List ℕ). AllPairs (λ (a : ℕ) (b : ℕ). a < b) ks) (sym e) (places_ascend test 0 boxes) in
    let early : j < i = omega (arith, short, length-take i found) in
    let same : get_or (take i found) j c ≡ get_or found j c = get_or-take i found j c early in
    let later : get_or found i c ≡ get_or found i d = get_or_default found i c d within in
    let less : get_or found j c < get_or found i c = ascend j i c early within in
    let inside : get_or found i d < length runs = found_within test boxes runs found i d e long within in
    subst (λ (k : ℕ). (run_at runs k).member ≤ (run_at runs (get_or found i d)).member) (sym same)
    (up (get_or found j c) (get_or found i d) no_run (omega (arith, less, later)) inside)
