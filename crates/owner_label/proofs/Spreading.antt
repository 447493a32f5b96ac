-- Labels spread from region to region.
use mathlib.Core.List.{[], ◌∷◌}
use Rattle.std.proofs.Common.{◌≡◌, refl, sym, ◌∙◌, ap, subst, ℕ, zero, suc, ◌+◌, ◌*◌, ◌/◌, ◌<◌, ◌≤◌, ◌⊎◌, Bool, true, false, not, cond, true≢false, List, ◌++◌, replicate, set, length, get_or, take, add-one, count_by, Contains, Some, slice_get, inl, inr, arith}
use Rattle.std.proofs.Math.Seq.{take-suc}
use Rattle.std.proofs.lemmas.Bool.{cases_eq, cases_lt}
use Rattle.std.proofs.lemmas.List.{length-set, length-map, set-get_or, get_or-map, get_or_default, get_or_past, get_or-set_same, get_or-set_other, length_push, get_or_append_left}
use Rattle.std.proofs.lemmas.List.Elements.{All-weaker, Contains-push, Contains-push_cases, Contains-append_left, Contains-get_or}
use Rattle.std.proofs.lemmas.List.Sums.{sum_by-set, count_by-le-length}
use Rattle.std.proofs.lemmas.Option.{slice_get-get_or, slice_get_within, get_or_from_slice_get, same_Some}
use Rattle.std.specs.Prelude.{All}
use Rattle.arrangement.specs.declared.odd_use.OddUse.{OddUse}
use Rattle.plane.specs.Point.{Point}
use Rattle.plane.specs.Region.{IsSide, IsOuterRegion}
use Rattle.sector_laws.specs.Sector.{HalfEdge, left as side_left, twin}
use Rattle.sector_laws.proofs.Numbers.{half_edge_side, one_number}
use Rattle.region_laws.specs.Crossed.{IsCrossed}
use Rattle.region_laws.proofs.Outwards.{crossed_same}
use Rattle.region_laws.proofs.Numbered.{index, index_is, side_half_edge}
use Rattle.owner_label.specs.declared.spread.Spread.{Spread}
use Rattle.counting_sort.specs.Grouped.{places_of, IsGrouped}
use Rattle.owner_label.specs.Lists.{AreRegionLabels}
use Rattle.owner_label.specs.Members.{IsFrom, IsToggled, IsToggledFrom, members_at, pair_edges}
use Rattle.half_edge.specs.Side.{across}
use Rattle.owner_label.specs.Sided.{Sided, AreSided, region_on, odd_uses_of, IsLabelAt, IsRegionLabel}
use Rattle.owner_label.specs.Spread.{IsReached, IsReachedNow, IsSpread, Grows, AreReachedAcross, IsLeft, IsBegun}
use Rattle.owner_label.proofs.Listing.{get-set, group_is, group_within, members_grouped, region_sides}
use Rattle.owner_label.proofs.Regions.{side_point, side_within, joined_region, label_across, label_outer, region_within}
use Rattle.owner_label.proofs.Sides.{across_within, index-twin}
use Rattle.owner_label.proofs.Toggles.{members_ascend}

-- ---- one more region is reached

module _ (before after : Spread) (r : ℕ) (label : List ℕ) (now : IsReachedNow before r label after) (fresh : get_or before.reached.items r false ≡ false) (in_reached : r < length before.reached.items) where
  same_place : (k : ℕ) → get_or after.reached.items k false ≡ get_or (set before.reached.items r true) k false
  same_place k = ap (λ xs. get_or xs k false) now.reached

  pub reached_here : IsReached after r
  reached_here = same_place r ∙ get_or-set_same before.reached.items r true false in_reached

  reached_cases : (k : ℕ) → IsReached after k → (k ≡ r) ⊎ ((k ≡ r → ⊥) × IsReached before k)
  reached_cases k h = elim (cases_eq k r) [
    | inl same ↦ inl same
    | inr other ↦ inr (other, sym (get_or-set_other before.reached.items r k true false other) ∙ sym (same_place k) ∙ h)
  ]

  reached_there : (k : ℕ) → IsReached before k → IsReached after k
  reached_there k h = elim (cases_eq k r) [
    | inl same ↦ subst (λ j. IsReached after j) (sym same) reached_here
    | inr other ↦ same_place k ∙ get_or-set_other before.reached.items r k true false other ∙ h
  ]

  pub reach_grows : Grows before after
  reach_grows = record {
    reached = reached_there;
    queue = λ i k at.
        let within = slice_get_within before.queue.items i k at in
        let longer : i < length after.queue.items = omega (arith, ap length now.queue, length_push before.queue.items r) in
        slice_get-get_or after.queue.items i k longer
        ∙ ap (λ n. Some n) (ap (λ xs. get_or xs i k) now.queue ∙ get_or_append_left before.queue.items (r ∷ []) k i within ∙ get_or_from_slice_get before.queue.items i k k at);
  }

  pub reach_spread : (s : Sided) → IsSpread s before → IsRegionLabel s r label → IsSpread s after
  reach_spread s is right = record {
    labels = ap length now.labels ∙ length-set before.labels r label ∙ is.labels;
    reached = ap length now.reached ∙ length-set before.reached.items r true ∙ is.reached;
    right = λ k v h at. elim (get-set before.labels r label k v (ap (λ xs. slice_get xs k) (sym now.labels) ∙ at)) [
      | inl here ↦ subst (λ w. IsRegionLabel s k w) (sym here.1) (subst (λ j. IsRegionLabel s j label) (sym here.0) right)
      | inr kept ↦ elim (reached_cases k h) [
        | inl same ↦ absurd (kept.0 same)
        | inr old ↦ is.right k v old.1 kept.1
      ]
    ];
    queued = λ k h. subst (λ xs. Contains xs k) (sym now.queue) (elim (reached_cases k h) [
      | inl same ↦ subst (λ j. Contains (before.queue.items ++ r ∷ []) j) (sym same) (Contains-push before.queue.items r)
      | inr old ↦ Contains-append_left before.queue.items (r ∷ []) k (is.queued k old.1)
    ]);
    only = λ k c. elim (Contains-push_cases before.queue.items r k (subst (λ xs. Contains xs k) now.queue c)) [
      | inl old ↦ reached_there k (is.only k old)
      | inr last ↦ subst (λ j. IsReached after j) last reached_here
    ];
    once =
        let long : length after.queue.items ≡ length before.queue.items + 1 = ap length now.queue ∙ length_push before.queue.items r in
        let count = sum_by-set (λ b. cond b 1 0) before.reached.items r true false in_reached in
        let none : cond (get_or before.reached.items r false) 1 0 ≡ 0 = ap (λ b. cond b 1 0) fresh in
        let same : count_by (λ b. b) after.reached.items ≡ count_by (λ b. b) (set before.reached.items r true) = ap (λ xs. count_by (λ b. b) xs) now.reached in
        let old = is.once in
        one_more _ _ _ _ _ _ long old count none same;
  }
    where
      one_more : (long short sum old sum' new : ℕ) → long ≡ short + 1 → short ≡ old → sum + new ≡ old + 1 → new ≡ 0 → sum' ≡ sum → long ≡ sum'
      one_more long short sum old sum' new a b c d e = omega arith

-- the outer region is reached, where none was
pub begun_all : (s : Sided) → AreSided s → (before after : Spread) (r count : ℕ) → IsSpread s before → before.labels ≡ replicate count [] → get_or before.reached.items r false ≡ false
    → IsOuterRegion s.edges r → region_on s r ≡ r → IsReachedNow before r (get_or before.labels r []) after → IsSpread s after × IsBegun s after
begun_all s sided before after r count is labels fresh outer own now =
    let inside = side_within s sided r outer.outer.at outer.outer.side in
    let in_reached : r < length before.reached.items = omega (arith, inside, is.reached, sided.numbered.count) in
    let label = get_or before.labels r [] in
    let none : label ≡ [] = ap (λ ls. get_or ls r []) labels ∙ empty count r [] in (
      reach_spread before after r label now fresh in_reached s is (label_outer s sided r label outer own none),
      inr (r, (inside, subst (λ k. IsReached after k) (sym own) (reached_here before after r label now fresh in_reached))),
    )
  where
    empty : (n k : ℕ) (e : List ℕ) → get_or (replicate n e) k e ≡ e
    empty zero k e = refl
    empty (suc n) zero e = refl
    empty (suc n) (suc k) e = empty n k e

-- ---- growing

pub grows-refl : (spread : Spread) → Grows spread spread
grows-refl spread = record { reached = λ r h. h; queue = λ i r h. h }

pub grows-trans : (a b c : Spread) → Grows a b → Grows b c → Grows a c
grows-trans a b c g h = record { reached = λ r k. h.reached r (g.reached r k); queue = λ i r k. h.queue i r (g.queue i r k) }

pub crossed-none : (s : Sided) (spread : Spread) (sides : List ℕ) → AreReachedAcross s spread (take 0 sides)
crossed-none s spread sides n c = absurd (omega (arith, c.1))

pub crossed_one : (s : Sided) (spread : Spread) (n over : ℕ) → over ≡ region_on s (across n) → IsReached spread over → AreReachedAcross s spread (n ∷ [])
crossed_one s spread n over is reached m (zero, within, same) = subst (λ k. IsReached spread (region_on s (across k))) same (subst (λ r. IsReached spread r) is reached)
crossed_one s spread n over is reached m (suc k, within, same) = absurd (omega (arith, within))

pub crossed-more : (s : Sided) (before after : Spread) (sides : List ℕ) (i : ℕ) → i < length sides → AreReachedAcross s before (take i sides) → Grows before after → AreReachedAcross s after (get_or sides i 0 ∷ [])
    → AreReachedAcross s after (take (i + 1) sides)
crossed-more s before after sides i within crossed grows last n c =
    elim (Contains-push_cases (take i sides) (get_or sides i 0) n (rw (add-one, take-suc sides i 0 within) at c)) [
      | inl old ↦ grows.reached (region_on s (across n)) (crossed n old)
      | inr here ↦ last n (0, omega arith, here)
    ]

pub crossed_all : (s : Sided) (spread : Spread) (sides : List ℕ) (i : ℕ) → length sides ≤ i → AreReachedAcross s spread (take i sides) → AreReachedAcross s spread sides
crossed_all s spread sides i past crossed = subst (λ xs. AreReachedAcross s spread xs) (take-all sides i past) crossed
  where
    take-all : (xs : List ℕ) (i : ℕ) → length xs ≤ i → take i xs ≡ xs
    take-all [] zero h = refl
    take-all [] (suc i) h = refl
    take-all (x ∷ xs) zero h = absurd (omega arith)
    take-all (x ∷ xs) (suc i) h = ap (λ ys. x ∷ ys) (take-all xs i (omega arith))

-- ---- across a side

module _ (s : Sided) (sided : AreSided s) (spread : Spread) (is : IsSpread s spread) (n : ℕ) (inside : n < 2 * length s.edges) (reached : IsReached spread (region_on s n))
    (from : ℕ) (same : from ≡ region_on s n) where
  abbrev label : List ℕ
  label = get_or spread.labels from []

  label_from : (p : Point) → IsSide s.edges n p → IsLabelAt (odd_uses_of s) p label
  label_from p at =
      let within : from < length spread.labels = (let h = region_within s sided n inside in omega (arith, is.labels, sided.numbered.count)) in
      let got = slice_get-get_or spread.labels from [] within in
      is.right from label (subst (λ r. IsReached spread r) (sym same) reached) got n p at (sym same)

  pub label_ascends : IsFrom 0 label
  label_ascends = let (p, at) = side_point s sided n inside in (label_from p at).ascending

  pub label_over : (places : List ℕ) → places ≡ places_of (pair_edges s.odd) (n / 2) → (after : List ℕ) → IsToggled label (members_at s.odd places) after → IsRegionLabel s (region_on s (across n)) after
  label_over places are after toggled =
      let (p, at) = side_point s sided n inside in
      label_across s sided n p label after at (label_from p at) (subst (λ ms. IsToggled label ms after) (ap (members_at s.odd) are ∙ members_grouped s.odd (n / 2)) toggled)

  -- the region across the side is reached
  pub reach_over : (mid after : Spread) (over : ℕ) (places : List ℕ) → places ≡ places_of (pair_edges s.odd) (n / 2) → over ≡ region_on s (across n) → get_or spread.reached.items over false ≡ false
      → IsToggledFrom spread.labels over label (members_at s.odd places) mid.labels → mid.reached.items ≡ spread.reached.items → mid.queue.items ≡ spread.queue.items
      → IsReachedNow mid over (get_or mid.labels over []) after → IsSpread s after × Grows spread after × IsReached after over
  reach_over mid after over places are is_over fresh from_it same_reached same_queue now =
      let whole : IsReachedNow spread over from_it.written after = record {
        labels = now.labels ∙ set-get_or mid.labels over [] ∙ from_it.put;
        reached = now.reached ∙ ap (λ xs. set xs over true) same_reached;
        queue = now.queue ∙ ap (λ xs. xs ++ over ∷ []) same_queue;
      } in
      let in_reached : over < length spread.reached.items = omega (arith, is_over, region_within s sided (across n) (across_within n (length s.edges) inside), is.reached, sided.numbered.count) in
      let right : IsRegionLabel s over from_it.written = subst (λ r. IsRegionLabel s r from_it.written) (sym is_over) (label_over places are from_it.written from_it.toggled) in (
        reach_spread spread after over from_it.written whole fresh in_reached s is right,
        reach_grows spread after over from_it.written whole fresh in_reached,
        reached_here spread after over from_it.written whole fresh in_reached,
      )

-- a label that stays as it was
pub reach_there : (before after : Spread) (r : ℕ) → IsReachedNow before r (get_or before.labels r []) after → after.labels ≡ before.labels
reach_there before after r now = now.labels ∙ set-get_or before.labels r []

-- the members of the odd pairs of an edge, as they are grouped
pub pairs_ready : (s : Sided) → AreSided s → (pairs : List (List ℕ)) → IsGrouped (pair_edges s.odd) (length s.edges) pairs → (k : ℕ) (places : List ℕ) → slice_get pairs k ≡ Some places
    → (places ≡ places_of (pair_edges s.odd) k) × All (λ n. n < length s.odd) places × IsFrom 0 (members_at s.odd places)
pairs_ready s sided pairs are k places at =
    let same = group_is (pair_edges s.odd) (length s.edges) pairs are k places at in
    let within : (n : ℕ) → n < length (pair_edges s.odd) → n < length s.odd = λ n h. omega (arith, length-map s.odd (λ (o : OddUse). o.edge)) in (
      same,
      subst (λ xs. All (λ n. n < length s.odd) xs) (sym same) (All-weaker (λ n. n < length (pair_edges s.odd)) (λ n. n < length s.odd) within (places_of (pair_edges s.odd) k) (group_within (pair_edges s.odd) k)),
      subst (λ ms. IsFrom 0 ms) (sym (ap (members_at s.odd) same ∙ members_grouped s.odd k)) (members_ascend s.odd k sided.ascending),
    )

-- the edges of odd pairs are below their count
pub edges_below : (odd : List OddUse) (edges : ℕ) → All (λ o. o.edge < edges) odd → All (λ k. k < edges) (pair_edges odd)
edges_below odd edges places k d within =
    let inside : k < length odd = omega (arith, length-map odd (λ (o : OddUse). o.edge)) in
    let o : OddUse = record { member = 0; edge = 0 } in
    subst (λ e. e < edges) (sym (get_or-map (λ (p : OddUse). p.edge) odd k o d inside)) (places k o inside)

-- and the regions of sides below that of the sides
pub regions_below : (s : Sided) → AreSided s → (count : ℕ) → count ≡ 2 * length s.edges → All (λ k. k < count) s.regions
regions_below s sided count all k d within =
    let inside : k < 2 * length s.edges = omega (arith, within, sided.numbered.count) in
    omega (arith, all, get_or_default s.regions k d 0 within, region_within s sided k inside)

-- ---- the queue

-- there are no more regions in the queue than numbers of regions
pub queue_short : (s : Sided) (spread : Spread) → IsSpread s spread → length spread.queue.items ≤ length s.regions
queue_short s spread is = omega (arith, is.once, is.reached, count_by-le-length (λ (b : Bool). b) spread.reached.items)

-- a region of the queue is reached, and has a number
pub queue_reached : (s : Sided) (spread : Spread) → IsSpread s spread → (next r : ℕ) → next < length spread.queue.items → r ≡ get_or spread.queue.items next r → IsReached spread r
queue_reached s spread is next r within at = is.only r (next, within, sym at)

pub queue_within : (s : Sided) (spread : Spread) → IsSpread s spread → (next r : ℕ) → next < length spread.queue.items → r ≡ get_or spread.queue.items next r → r < length s.regions
queue_within s spread is next r within at =
    elim (cases_lt r (length s.regions)) [
      | inl less ↦ less
      | inr past ↦ absurd (true≢false (sym (queue_reached s spread is next r within at) ∙ get_or_past spread.reached.items r false (omega (arith, is.reached))))
    ]

pub begun_stays : (s : Sided) (before after : Spread) → Grows before after → IsBegun s before → IsBegun s after
begun_stays s before after grows begun = elim begun [
  | inl none ↦ inl none
  | inr some ↦ inr (some.0, (some.1.0, grows.reached (region_on s some.0) some.1.1))
]

-- one more region is left
pub left-more : (s : Sided) (before after : Spread) (next r : ℕ) (sides : List ℕ) (lists : List (List ℕ)) → IsGrouped s.regions (length s.regions) lists → slice_get lists r ≡ Some sides
    → next < length before.queue.items → r ≡ get_or before.queue.items next r
    → ((i k : ℕ) → i < next → slice_get before.queue.items i ≡ Some k → IsLeft s before k) → Grows before after → AreReachedAcross s after sides
    → (i k : ℕ) → i < next + 1 → slice_get after.queue.items i ≡ Some k → IsLeft s after k
left-more s before after next r sides lists are at_sides within at_r left grows crossed i k less at n inside same =
    elim (cases_eq i next) [
      | inl here ↦ (
          let stays = grows.queue next r (slice_get-get_or before.queue.items next r within ∙ ap (λ j. Some j) (sym at_r)) in
          let is : k ≡ r = same_Some k r (sym at ∙ ap (λ j. slice_get after.queue.items j) here ∙ stays) in
          crossed n ((region_sides s lists are r sides at_sides n).1 (inside, same ∙ is))
          )
      | inr other ↦ (
          let old : i < next = omega arith in
          let was : slice_get before.queue.items i ≡ Some (get_or before.queue.items i k) = slice_get-get_or before.queue.items i k (omega arith) in
          let is : k ≡ get_or before.queue.items i k = same_Some k _ (sym at ∙ grows.queue i _ was) in
          grows.reached (region_on s (across n)) (left i (get_or before.queue.items i k) old was n inside (same ∙ is))
          )
    ]

-- the sides of a region that is reached
pub sides_ready : (s : Sided) → AreSided s → (spread : Spread) (r : ℕ) (sides : List ℕ) (lists : List (List ℕ)) → IsGrouped s.regions (length s.regions) lists → slice_get lists r ≡ Some sides
    → IsReached spread r → All (λ n. (n < 2 * length s.edges) × IsReached spread (region_on s n)) sides
sides_ready s sided spread r sides lists are at_sides reached k d within =
    let each = (region_sides s lists are r sides at_sides (get_or sides k d)).0 (Contains-get_or sides k d within) in
    (omega (arith, each.0, sided.numbered.count), subst (λ j. IsReached spread j) (sym each.1) reached)

-- ---- at the end

module _ (s : Sided) (sided : AreSided s) (spread : Spread) (is : IsSpread s spread) (left : (r : ℕ) → Contains spread.queue.items r → IsLeft s spread r) where
  abbrev passes : HalfEdge → Bool
  passes h = get_or spread.reached.items (region_on s (index s.edges h)) false

  same_test : (a b : Bool) → (a ≡ true → b ≡ true) → (b ≡ true → a ≡ true) → a ≡ b
  same_test true b f g = sym (f refl)
  same_test false true f g = g refl
  same_test false false f g = refl

  index_side : (h : HalfEdge) → Contains s.edges h.edge → IsSide s.edges (index s.edges h) (side_left h)
  index_side h c = half_edge_side s.edges (index s.edges h) h (index_is s.edges h c)

  index_within : (h : HalfEdge) → Contains s.edges h.edge → index s.edges h < length s.regions
  index_within h c = omega (arith, sided.numbered.count, side_within s sided (index s.edges h) (side_left h) (index_side h c))

  passes_over : (h : HalfEdge) → Contains s.edges h.edge → passes h ≡ true → passes (twin h) ≡ true
  passes_over h c reached =
      ap (λ n. get_or spread.reached.items (region_on s n) false) (index-twin s.edges sided.distinct h c)
      ∙ left (region_on s (index s.edges h)) (is.queued (region_on s (index s.edges h)) reached) (index s.edges h) (index_within h c) refl

  twin_twin : (h : HalfEdge) → twin (twin h) ≡ h
  twin_twin h = ap (λ b. record { edge = h.edge; forwards = b }) (not_not h.forwards)
    where
      not_not : (b : Bool) → not (not b) ≡ b
      not_not true = refl
      not_not false = refl

  crossed : IsCrossed s.edges passes
  crossed = record {
    across = λ h c. same_test (passes h) (passes (twin h)) (passes_over h c) (λ t. ap passes (sym (twin_twin h)) ∙ passes_over (twin h) c t);
    joined = λ h g c d j. ap (λ r. get_or spread.reached.items r false) (joined_region s sided (index s.edges h) (index s.edges g) (side_left h) (side_left g) (index_side h c) (index_side g d) j);
  }

  -- each region is reached where one is
  pub all_reached : IsBegun s spread → (n : ℕ) → n < 2 * length s.edges → IsReached spread (region_on s n)
  all_reached begun n inside =
      elim begun [
        | inl none ↦ absurd (omega (arith, ap length none))
        | inr some ↦ (
            let first = side_point s sided n inside in
            let second = side_point s sided some.0 some.1.0 in
            let (h, of_h) = side_half_edge s.edges n first.0 first.1 in
            let (g, of_g) = side_half_edge s.edges some.0 second.0 second.1 in
            let at_h : index s.edges h ≡ n = one_number s.edges sided.distinct (index s.edges h) n h (index_is s.edges h of_h.among) of_h.is in
            let at_g : index s.edges g ≡ some.0 = one_number s.edges sided.distinct (index s.edges g) some.0 g (index_is s.edges g of_g.among) of_g.is in
            let same = crossed_same s.edges sided.planar passes crossed h g of_h.among of_g.among in
            ap (λ k. get_or spread.reached.items (region_on s k) false) (sym at_h) ∙ same ∙ ap (λ k. get_or spread.reached.items (region_on s k) false) at_g ∙ some.1.1
            )
      ]

  pub labels_right : IsBegun s spread → AreRegionLabels s spread.labels
  labels_right begun = record {
    count = is.labels;
    each = λ n inside v at. is.right (region_on s n) v (all_reached begun n (omega (arith, sided.numbered.count))) at;
  }

pub all_left : (s : Sided) (spread : Spread) (next : ℕ) → length spread.queue.items ≤ next → ((i k : ℕ) → i < next → slice_get spread.queue.items i ≡ Some k → IsLeft s spread k)
    → (r : ℕ) → Contains spread.queue.items r → IsLeft s spread r
all_left s spread next past left r (i, within, is) = left i r (omega arith) (slice_get-get_or spread.queue.items i r within ∙ ap (λ k. Some k) is)
