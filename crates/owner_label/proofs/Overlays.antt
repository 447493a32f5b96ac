-- The labels of regions as those of an overlay.
use mathlib.Core.List.{[], ◌∷◌}
use Rattle.std.proofs.Common.{slice_index, ◌≡◌, refl, sym, ◌∙◌, ap, subst, ℕ, suc, ◌+◌, ◌*◌, ◌<◌, ◌≤◌, ◌%◌, ◌==◌, ◌&&◌, Bool, true, false, not, cond, ltb, List, length, get_or, count_by, Some, slice_get, inl, inr, arith}
use Rattle.std.specs.Prelude.{All, flat_map, option_to_list}
use Rattle.std.proofs.lemmas.Bool.{cases_lt, lt-ltb, le-ltb, ne_eqb, and_left, both_ways}
use Rattle.std.proofs.lemmas.List.{append-nil}
use Rattle.std.proofs.lemmas.List.Elements.{All-nil, All-cons, All-weaker, All-head, All-tail, Contains-get_or}
use Rattle.std.proofs.lemmas.List.Sums.{sum_by-cons}
use Rattle.std.proofs.lemmas.Option.{slice_get-get_or}
use Rattle.cov_types.specs.declared.edge_use.EdgeUse.{EdgeUse}
use Rattle.cov_types.specs.declared.seg.Seg.{Seg}
use Rattle.plane.specs.Label.{label_at}
use Rattle.plane.specs.Parity.{member_holds}
use Rattle.plane.specs.Point.{Point}
use Rattle.plane.specs.Ray.{is_over}
use Rattle.plane.specs.Region.{side_points, far_point, IsSide, IsRegionOf, IsOuterRegion, AreRegions}
use Rattle.plane.specs.Segment.{upper, lower}
use Rattle.crossing_laws.proofs.Located.{one_region, same_region, region-joined}
use Rattle.arrangement.specs.declared.odd_use.OddUse.{OddUse}
use Rattle.arrangement.specs.Noding.{odd_uses}
use Rattle.arrangement.specs.Overlay.{Overlay, IsRegion, label_of, AreBeside}
use Rattle.arrangement.proofs.Numberings.{upper_side, lower_side}
use Rattle.owner_label.specs.Labelled.{Labelled, IsOverlay}
use Rattle.counting_sort.specs.Grouped.{places_of, IsGrouped}
use Rattle.owner_label.specs.Lists.{AreRegionLabels}
use Rattle.owner_label.specs.Members.{has, differs}
use Rattle.owner_label.specs.Sided.{Sided, AreSided, region_on, odd_uses_of, IsLabelAt}
use Rattle.owner_label.proofs.Ascending.{same_ascending, chosen_from, chosen_has}
use Rattle.owner_label.proofs.Listing.{group_is, region_sides}
use Rattle.owner_label.proofs.Regions.{label_joined, side_within, outer_label}
use Rattle.owner_label.proofs.Sides.{sides-length}
use Rattle.owner_label.proofs.Toggles.{odd_uses-cons, member_below}

-- ---- members that no odd pair names

unnamed : (edges : List Seg) (odd : List OddUse) → All (λ o. o.edge < length edges) odd → (count m : ℕ) (p : Point) → All (λ o. o.member < count) odd → count ≤ m
    → count_by (λ u. (u.member == m) && is_over u.seg p) (odd_uses edges odd) ≡ 0
unnamed edges [] places count m p below past = refl
unnamed edges (o ∷ odd) places count m p below past =
    let rest = unnamed edges odd (All-tail (λ (q : OddUse). q.edge < length edges) o odd places) count m p (All-tail (λ (q : OddUse). q.member < count) o odd below) past in
    some (slice_get-some edges o (All-head (λ (q : OddUse). q.edge < length edges) o odd places)) rest
  where
    slice_get-some : (edges : List Seg) (o : OddUse) → o.edge < length edges → (f : Seg) × (slice_get edges o.edge ≡ Some f)
    slice_get-some [] o h = absurd (omega arith)
    slice_get-some (e ∷ es) o h = (get_or (e ∷ es) o.edge e, slice_get-get_or (e ∷ es) o.edge e h)

    some : ((f : Seg) × (slice_get edges o.edge ≡ Some f)) → count_by (λ u. (u.member == m) && is_over u.seg p) (odd_uses edges odd) ≡ 0
        → count_by (λ u. (u.member == m) && is_over u.seg p) (odd_uses edges (o ∷ odd)) ≡ 0
    some (f, at) rest =
        let u : EdgeUse = record { member = o.member; seg = f } in
        let apart : (o.member == m) ≡ false = ne_eqb o.member m (λ e. omega (arith, All-head (λ (q : OddUse). q.member < count) o odd below)) in
        ap (λ us. count_by (λ v. (v.member == m) && is_over v.seg p) us) (odd_uses-cons edges o odd f at)
        ∙ sum_by-cons (λ (v : EdgeUse). cond ((v.member == m) && is_over v.seg p) 1 0) u (odd_uses edges odd)
        ∙ (λ i. cond (and_left (o.member == m) (is_over f p) apart i) 1 0 + rest i)

-- what contracts see
abbrev pub labelled_of : Sided → Labelled
labelled_of s = record { edges = s.edges; odd = s.odd }

module _ (s : Sided) (sided : AreSided s) (o : Overlay) (overlay : IsOverlay (labelled_of s) o) where
  are_regions : AreRegions s.edges o.numbers
  are_regions = subst (λ es. AreRegions es o.numbers) overlay.edges overlay.numbered

  pub number_is : (n : ℕ) (p : Point) → IsSide s.edges n p → slice_index o.numbers n ≡ region_on s n
  number_is n p at = one_region s.edges p (slice_index o.numbers n) (region_on s n) (are_regions.each n p at) (sided.numbered.each n p at)

  holds_below : (m : ℕ) (p : Point) → (ltb m o.members && member_holds (odd_uses_of s) m p) ≡ member_holds (odd_uses_of s) m p
  holds_below m p =
      elim (cases_lt m o.members) [
        | inl less ↦ ap (λ t. t && member_holds (odd_uses_of s) m p) (lt-ltb m o.members less)
        | inr past ↦
            ap (λ t. t && member_holds (odd_uses_of s) m p) (le-ltb m o.members past)
            ∙ sym (ap (λ n. n % 2 == 1) (unnamed s.edges s.odd sided.places o.members m p overlay.members past))
      ]

  label_has : (m : ℕ) (p : Point) → has (label_at o.uses o.members p) m ≡ member_holds (odd_uses_of s) m p
  label_has m p = ap (λ us. has (label_at us o.members p) m) overlay.uses ∙ chosen_has (λ k. member_holds (odd_uses_of s) k p) o.members m ∙ holds_below m p

  -- a label of a point is the label of the definition
  pub label_is : (p : Point) (label : List ℕ) → IsLabelAt (odd_uses_of s) p label → label ≡ label_at o.uses o.members p
  label_is p label is =
      same_ascending 0 label (label_at o.uses o.members p) is.ascending (chosen_from (λ m. member_holds o.uses m p) o.members) (λ m. is.exact m ∙ sym (label_has m p))

  -- the label of a region is that of its side point
  pub label_of_is : (r : ℕ) (p : Point) → IsSide s.edges r p → label_of o r ≡ label_at o.uses o.members p
  label_of_is r p at =
      ap (λ es. flat_map (label_at o.uses o.members) (option_to_list (slice_get (side_points es) r))) overlay.edges
      ∙ ap (λ found. flat_map (label_at o.uses o.members) (option_to_list found)) at ∙ append-nil (label_at o.uses o.members p)

  -- and that of each side point in it
  pub side_label : (n : ℕ) (p : Point) (label : List ℕ) → IsSide s.edges n p → IsLabelAt (odd_uses_of s) p label → label ≡ label_of o (slice_index o.numbers n)
  side_label n p label at is =
      let region = are_regions.each n p at in
      label_is region.joined.at label (label_joined s sided p region.joined.at label region.joined.joined is) ∙ sym (label_of_is (slice_index o.numbers n) region.joined.at region.joined.side)

  -- the label of the definition is one
  pub label_right : (p : Point) → IsLabelAt (odd_uses_of s) p (label_at (odd_uses_of s) o.members p)
  label_right p = record {
    ascending = chosen_from (λ m. member_holds (odd_uses_of s) m p) o.members;
    exact = λ m. chosen_has (λ k. member_holds (odd_uses_of s) k p) o.members m ∙ holds_below m p;
  }

  -- the labels of the two sides of an edge differ
  sides_apart : (k : ℕ) → k < length s.edges → (a b : List ℕ) → ((e : Seg) → slice_get s.edges k ≡ Some e → IsLabelAt (odd_uses_of s) (upper e) a × IsLabelAt (odd_uses_of s) (lower e) b) → a ≡ b → ⊥
  sides_apart k inside a b are same =
      let (e, at) = edge_there s.edges k inside in
      let (m, odd) = sided.used k inside in
      let changed = member_below s.edges s.odd sided.planar sided.distinct sided.ascending sided.places k e at m in
      let labels = are e at in
      not_itself (member_holds (odd_uses_of s) m (upper e))
      (sym (labels.0.exact m) ∙ ap (λ xs. has xs m) same ∙ labels.1.exact m ∙ changed ∙ ap (λ t. differs t (member_holds (odd_uses_of s) m (upper e))) odd)
    where
      edge_there : (edges : List Seg) (k : ℕ) → k < length edges → (e : Seg) × (slice_get edges k ≡ Some e)
      edge_there [] k h = absurd (omega arith)
      edge_there (e ∷ es) k h = (get_or (e ∷ es) k e, slice_get-get_or (e ∷ es) k e h)

      not_itself : (b : Bool) → b ≡ not b → ⊥
      not_itself true h = both_ways true h refl
      not_itself false h = both_ways false refl h

  pub side_label_at : (n : ℕ) (p : Point) → IsSide s.edges n p → IsLabelAt (odd_uses_of s) p (label_of o (slice_index o.numbers n))
  side_label_at n p at = subst (λ xs. IsLabelAt (odd_uses_of s) p xs) (side_label n p (label_at (odd_uses_of s) o.members p) at (label_right p)) (label_right p)

  pub labels_apart : (k : ℕ) → k < length s.edges → label_of o (slice_index o.numbers (2 * k)) ≡ label_of o (slice_index o.numbers (2 * k + 1)) → ⊥
  labels_apart k inside same =
      sides_apart k inside (label_of o (slice_index o.numbers (2 * k))) (label_of o (slice_index o.numbers (2 * k + 1)))
      (λ e at. (side_label_at (2 * k) (upper e) (upper_side s.edges k e at), side_label_at (2 * k + 1) (lower e) (lower_side s.edges k e at))) same

-- ---- there is such an overlay

above_all : (odd : List OddUse) → (count : ℕ) × All (λ o. o.member < count) odd
above_all [] = (0, All-nil (λ (o : OddUse). o.member < 0))
above_all (o ∷ odd) =
    let rest = above_all odd in
    let count = rest.0 + suc o.member in
    (count, All-cons (λ (p : OddUse). p.member < count) o odd (omega arith) (All-weaker (λ (p : OddUse). p.member < rest.0) (λ (p : OddUse). p.member < count) (λ p low. omega arith) odd rest.1))

pub some_overlay : (s : Sided) → AreSided s → (o : Overlay) × IsOverlay (labelled_of s) o
some_overlay s sided =
    let above = above_all s.odd in
    (record { edges = s.edges; uses = odd_uses_of s; members = above.0; numbers = s.regions }, record { edges = refl; uses = refl; members = above.1; numbered = sided.numbered })

-- ---- regions

-- what `Regions::region_of` answers is a region
pub answered_region : (edges : List Seg) (side r : ℕ) → side < 2 * length edges → ((p : Point) → IsSide edges side p → IsRegionOf edges p r) → IsRegion edges r
answered_region edges side r inside is =
    let at = slice_get-get_or (side_points edges) side far_point (omega (arith, sides-length edges)) in
    let region = is (get_or (side_points edges) side far_point) at in
    record { at = region.joined.at; side = region.joined.side; own = region-joined edges (get_or (side_points edges) side far_point) region.joined.at r region.joined.joined region }

-- the same of equal lists of edges
pub region_among : (edges walked arena : List Seg) (side count r : ℕ) → walked ≡ arena → edges ≡ arena → count ≡ 2 * length arena → side < count
    → ((p : Point) → IsSide walked side p → IsRegionOf walked p r) → IsRegion edges r
region_among edges walked arena side count r is_walked is_arena all inside is =
    subst (λ es. IsRegion es r) (is_walked ∙ sym is_arena) (answered_region walked side r (omega (arith, ap length is_walked)) is)

-- ---- the label of a region in the table

pub region_ready : (s : Sided) → AreSided s → (r : ℕ) → IsRegion s.edges r → region_on s r ≡ r
region_ready s sided r is = one_region s.edges is.at (region_on s r) r (sided.numbered.each r is.at is.side) is.own

module _ (s : Sided) (sided : AreSided s) (lists : List (List ℕ)) (labels : AreRegionLabels s lists) where
  -- the label of the region of a side
  pub label_at_side : (n : ℕ) (p : Point) → IsSide s.edges n p → (v : List ℕ) → slice_get lists (region_on s n) ≡ Some v → IsLabelAt (odd_uses_of s) p v
  label_at_side n p at v here = labels.each n (omega (arith, side_within s sided n p at, sided.numbered.count)) v here n p at refl

  pub label_read : (n : ℕ) (p : Point) → IsSide s.edges n p → (r : ℕ) → r ≡ region_on s n → (v : List ℕ) → slice_get lists r ≡ Some v → IsLabelAt (odd_uses_of s) p v
  label_read n p at r same v here = label_at_side n p at v (ap (λ k. slice_get lists k) (sym same) ∙ here)

  pub region_within : (r : ℕ) → IsRegion s.edges r → r < length lists
  region_within r is = omega (arith, side_within s sided r is.at is.side, sided.numbered.count, labels.count)

  module _ (r : ℕ) (is : IsRegion s.edges r) (v : List ℕ) (here : slice_get lists r ≡ Some v) where
    label_here : IsLabelAt (odd_uses_of s) is.at v
    label_here = label_at_side r is.at is.side v (ap (λ k. slice_get lists k) (region_ready s sided r is) ∙ here)

    pub label_value : (o : Overlay) → IsOverlay (labelled_of s) o → v ≡ label_of o r
    label_value o overlay = label_is s sided o overlay is.at v label_here ∙ sym (label_of_is s sided o overlay r is.at is.side)

    pub label_points : (o : Overlay) (p : Point) → IsOverlay (labelled_of s) o → IsRegionOf s.edges p r → v ≡ label_at o.uses o.members p
    label_points o p overlay region = label_is s sided o overlay p v (label_joined s sided is.at p v (same_region s.edges is.at p r is.own region) label_here)

    pub label_outer : IsOuterRegion s.edges r → v ≡ []
    label_outer outer =
        let empty = outer_label s sided r outer.outer.at outer.outer.side outer.outer.outer r is.at is.side refl in
        same_ascending 0 v [] label_here.ascending tt (λ m. label_here.exact m ∙ sym (empty.exact m))

    -- it is not that of a region over an edge
    pub label_differs : (o : Overlay) (other : ℕ) → IsOverlay (labelled_of s) o → AreBeside o r other → label_of o other ≡ v → ⊥
    label_differs o other overlay beside same =
        let inside : beside.edge < length s.edges = omega (arith, beside.listed, ap length overlay.edges) in
        labels_apart s sided o overlay beside.edge inside
        (elim beside.sides [
          | inl up ↦ ap (label_of o) up.0 ∙ sym (label_value o overlay) ∙ sym same ∙ ap (label_of o) (sym up.1)
          | inr down ↦ ap (label_of o) down.0 ∙ same ∙ label_value o overlay ∙ ap (label_of o) (sym down.1)
        ])

  -- the label in the table is that of the definition
  pub table_label : (o : Overlay) → IsOverlay (labelled_of s) o → (n : ℕ) (p : Point) → IsSide s.edges n p → (v : List ℕ) → slice_get lists (region_on s n) ≡ Some v → v ≡ label_of o (slice_index o.numbers n)
  table_label o overlay n p at v here = side_label s sided o overlay n p v at (label_at_side n p at v here)

-- ---- the sides of a region in the table

module _ (s : Sided) (sided : AreSided s) (lists : List (List ℕ)) (sides : IsGrouped s.regions (length s.regions) lists) (r : ℕ) where
  pub sides_within : IsRegion s.edges r → r < length lists
  sides_within is = omega (arith, side_within s sided r is.at is.side, sided.numbered.count, sides.long)

  module _ (v : List ℕ) (here : slice_get lists r ≡ Some v) where
    pub sides_here : v ≡ places_of s.regions r
    sides_here = group_is s.regions (length s.regions) lists sides r v here

    pub sides_small : All (λ n. n < 2 * length s.edges) v
    sides_small k d within = let listed = (region_sides s lists sides r v here (get_or v k d)).0 (Contains-get_or v k d within) in omega (arith, listed.0, sided.numbered.count)
