-- What is built of a valid coverage's segments as those of one member is built of the coverage: the edges with two members are within
-- parts, and the regions between the others are the parts.
use mathlib.Core.List.{[], ◌∷◌}
use Rattle.std.proofs.Common.{◌≡◌, ◌⊎◌, inl, inr, refl, sym, ◌∙◌, ap, subst, ℕ, ◌<◌, ◌%◌, ◌==◌, Bool, true, false, not, cond, List, length, filter, IsTrue, Some, arith}
use Rattle.std.specs.Prelude.{All, Contains, Option}
use Rattle.std.proofs.lemmas.Bool.{cases_lt, false≢true}
use Rattle.std.proofs.lemmas.Bool.Decides.{Decides-eqb}
use Rattle.std.proofs.lemmas.List.Elements.{All-contains, Contains-get_or}
use Rattle.std.proofs.lemmas.List.Kept.{AllPairs-filter}
use Rattle.cov_types.specs.declared.edge_use.EdgeUse.{EdgeUse}
use Rattle.cov_types.specs.declared.seg.Seg.{Seg}
use Rattle.cov_types.specs.Coverage.{Members, AllInRange}
use Rattle.cov_types.specs.Range.{IsSegInRange}
use Rattle.cov_types.specs.Seg.{is_seg_before}
use Rattle.cov_types.specs.Uses.{uses_of}
use Rattle.cov_types.proofs.AllUses.{uses-members, uses-in_range}
use Rattle.cov_types.proofs.EvenEnds.{even-ends}
use Rattle.cov_types.proofs.SegOrder.{is_seg_before-asymm}
use Rattle.plane.specs.Joined.{IsOff, Joined}
use Rattle.plane.specs.Parity.{member_holds}
use Rattle.plane.specs.Point.{Point}
use Rattle.plane.specs.Region.{IsRegionOf}
use Rattle.plane.specs.Segment.{upper, lower}
use Rattle.plane.specs.Validity.{IsValid}
use Rattle.crossing_laws.specs.Across.{AllMeetInEnds, member_times}
use Rattle.crossing_laws.proofs.Beside.{side_points_clear}
use Rattle.crossing_laws.proofs.Changes.{member_holds-across}
use Rattle.crossing_laws.proofs.Ways.{joined-sym, joined-trans, joined-fewer, joined_by_clear, joined_off}
use Rattle.sector_laws.specs.Sector.{HalfEdge, left, twin, AreDistinct, IsPlanar}
use Rattle.removal_laws.proofs.Counts.{has_times, repeated_of}
use Rattle.arrangement.specs.Live.{IsLiveOverlay}
use Rattle.arrangement.specs.Noding.{segments}
use Rattle.arrangement.specs.Overlay.{Overlay, IsOverlayOf}
use Rattle.arrangement.proofs.Labels.{mapped}
use Rattle.arrangement.proofs.LiveOverlays.{kept, kept_is, side_holder, live_overlay}
use Rattle.arrangement.proofs.OddUses.{odd_used, live_uses_law}
use Rattle.arrangement.proofs.OneNoding.{same_ordered}
use Rattle.shell_laws.specs.Part.{LeadsAcross, is_part_border, part_boundary}
use Rattle.shell_laws.proofs.Outside.{outside_kept}
use Rattle.sound_polygons.specs.Parts.{IsPartOf, boundary}
use Rattle.cleaned_laws.specs.Owning.{AreUnionOwners}
use Rattle.cleaned_laws.proofs.Cleaned.{ascending_distinct}
use Rattle.cleaned_laws.proofs.Union.{planar}
use Rattle.cov_union.specs.Rim.{merged}
use Rattle.cov_union.proofs.Merged.{odd_or_even, times_merged, merged_segments, merged_below, merged_even, some_holder, only_holder, holder_merged}
use Rattle.cov_union.proofs.Parts.{owned_held, held_owned, passes, tells, part, region_passes, passes_owned, up_down, down_up, regions_beside, ways_of, boundary_is, ways_filter, ways_agree}

pub same_tests : (a b : Bool) → (a ≡ true → b ≡ true) → (b ≡ true → a ≡ true) → a ≡ b
same_tests true b h k = sym (h refl)
same_tests false true h k = k refl
same_tests false false h k = refl

before_both_ways : (e f : Seg) → IsTrue (is_seg_before e f) → IsTrue (is_seg_before f e) → ⊥
before_both_ways e f h k = false≢true (sym (is_seg_before-asymm e f h) ∙ k)

module _ (members : Members) (in_range : AllInRange members) (valid : IsValid (uses_of members))
    (o : Overlay) (h : IsOverlayOf (uses_of members) (length members) o) (q : Overlay) (k : IsOverlayOf (merged (uses_of members)) 1 q) where
  abbrev uses : List EdgeUse
  uses = uses_of members

  abbrev n : ℕ
  n = length members

  below : All (λ u. u.member < n) uses
  below = uses-members members

  ranged : All (λ (u : EdgeUse). IsSegInRange u.seg) uses
  ranged = uses-in_range members in_range

  pub distinct : AreDistinct o.edges
  distinct = ascending_distinct o.edges h.live.ascending

  pub distinct_rim : AreDistinct q.edges
  distinct_rim = ascending_distinct q.edges k.live.ascending

  pub whole : IsPlanar o.edges
  whole = planar members in_range valid o h

  -- ---- the rim

  of_segment : (e : Seg) → Contains q.edges e → Contains (segments uses) e
  of_segment e has = (let odd = (k.live.exact e).0 has in subst (λ (s : List Seg). Contains s e) (merged_segments uses) (odd_used (merged uses) odd.0 e odd.1))

  -- each segment is an edge of the coverage
  segment_listed : (e : Seg) → Contains (segments uses) e → Contains o.edges e
  segment_listed = mapped (λ (u : EdgeUse). u.seg) (Contains o.edges) uses (λ u has. (
      let some = has_times uses u.member u.seg has in
      let few = at_most_once u in
      (h.live.exact u.seg).1 (u.member, omega (arith, some, few))))
    where
      at_most_once : (u : EdgeUse) → member_times u.seg uses u.member < 2
      at_most_once u = elim (cases_lt (member_times u.seg uses u.member) 2) [
        | inl few ↦ few
        | inr many ↦ absurd (valid.once u (repeated_of uses u.member u.seg many))
      ]

  pub rim_listed : (e : Seg) → Contains q.edges e → Contains o.edges e
  rim_listed e has = segment_listed e (of_segment e has)

  range_of : (e : Seg) → Contains o.edges e → IsSegInRange e
  range_of e has = All-contains IsSegInRange o.edges e whole.in_range has

  pub rim : IsPlanar q.edges
  rim = record {
    in_range = λ i d within. range_of _ (rim_listed _ (Contains-get_or q.edges i d within));
    noded = λ e f in_e in_f. whole.noded e f (rim_listed e in_e) (rim_listed f in_f);
  }

  pub live : IsLiveOverlay o
  live = live_overlay uses n o h whole (even-ends members) below

  pub live_rim : IsLiveOverlay q
  live_rim = live_overlay (merged uses) 1 q k rim (merged_even n uses below (even-ends members)) (merged_below uses)

  -- some member holds the point
  abbrev IsHeld : Point → Type 0
  IsHeld p = member_holds (merged uses) 0 p ≡ true

  same_holders : (m : ℕ) (p : Point) → member_holds o.uses m p ≡ member_holds uses m p
  same_holders m p = ap (λ us. member_holds us m p) h.by_odd ∙ live_uses_law uses o.edges h.odd h.live m p

  pub same_holders_rim : (m : ℕ) (p : Point) → member_holds q.uses m p ≡ member_holds (merged uses) m p
  same_holders_rim m p = ap (λ us. member_holds us m p) k.by_odd ∙ live_uses_law (merged uses) q.edges k.odd k.live m p

  off_segments : (p : Point) → IsOff o.edges p → IsOff (segments uses) p
  off_segments p off e has = off e (segment_listed e has)

  off_region : (p : Point) (r : ℕ) → IsRegionOf o.edges p r → IsOff o.edges p
  off_region p r own = joined_off o.edges p own.joined.at own.joined.joined

  module _ (f : ℕ → Option ℕ) (union : AreUnionOwners o f) (g : ℕ → Option ℕ) (union_rim : AreUnionOwners q g) where
    pub held : (p : Point) (r : ℕ) → IsRegionOf o.edges p r → f r ≡ Some 0 → IsHeld p
    held p r own owned =
        let (m, holds) = owned_held o live f union p r own owned in
        holder_merged uses p n below (valid.apart p (off_segments p (off_region p r own))) m (sym (same_holders m p) ∙ holds)

    pub owned_by : (p : Point) (r : ℕ) → IsRegionOf o.edges p r → IsHeld p → f r ≡ Some 0
    owned_by p r own is =
        let (m, (lt, holds)) = some_holder uses p n below is in
        let count = h.count in
        held_owned o live f union p r m own (omega (arith, lt, count)) (same_holders m p ∙ holds)

    pub held_rim : (p : Point) (r : ℕ) → IsRegionOf q.edges p r → g r ≡ Some 0 → IsHeld p
    held_rim p r own owned =
        let (m, holds) = owned_held q live_rim g union_rim p r own owned in
        let zero_is : m ≡ 0 = only_holder uses p m (sym (same_holders_rim m p) ∙ holds) in
        subst (λ i. member_holds (merged uses) i p ≡ true) zero_is (sym (same_holders_rim m p) ∙ holds)

    pub owned_by_rim : (p : Point) (r : ℕ) → IsRegionOf q.edges p r → IsHeld p → g r ≡ Some 0
    owned_by_rim p r own is = (let count = k.count in held_owned q live_rim g union_rim p r 0 own (omega (arith, count)) (same_holders_rim 0 p ∙ is))

    -- ---- edges of the rim have a held side and another one, and the others have two or none

    not_both : (e : Seg) → Contains q.edges e → IsHeld (upper e) → IsHeld (lower e) → ⊥
    not_both e has up down =
        let (m, (lt, differ)) = side_holder q live_rim e has in
        let count = k.count in
        let zero_is : m ≡ 0 = omega (arith, lt, count) in
        let differ_zero = subst (λ i. ¬ (member_holds q.uses i (lower e) ≡ member_holds q.uses i (upper e))) zero_is differ in
        differ_zero (same_holders_rim 0 (lower e) ∙ down ∙ sym up ∙ sym (same_holders_rim 0 (upper e)))

    record IsInner (e : Seg) : Type 0 where
      alike : member_holds (merged uses) 0 (lower e) ≡ member_holds (merged uses) 0 (upper e)
      joined : Joined q.edges (lower e) (upper e)

    meets : (e : Seg) → Contains o.edges e → AllMeetInEnds e (segments (merged uses))
    meets e has f in_f =
        let f_listed = segment_listed f (subst (λ (s : List Seg). Contains s f) (merged_segments uses) in_f) in
        (range_of f f_listed, whole.noded e f has f_listed)

    rim_or_inner : (e : Seg) → Contains o.edges e → Contains q.edges e ⊎ IsInner e
    rim_or_inner e has = elim (odd_or_even (member_times e (merged uses) 0)) [
      | inl odd ↦ inl ((k.live.exact e).1 (0, odd))
      | inr even ↦ inr (record {
        alike = (member_holds-across e (merged uses) 0 (range_of e has) (meets e has)).1 even;
        joined = joined_by_clear q.edges (lower e) (upper e) (λ d in_d r between on. (
            let d_listed = rim_listed d in_d in
            elim (whole.noded e d has d_listed) [
              | inl same ↦ not_rim (subst (Contains q.edges) (sym same) in_d) even
              | inr ends ↦ (side_points_clear e d (range_of e has) (range_of d d_listed) ends).none r between on
            ]
            ));
      })
    ]
      where
        not_rim : Contains q.edges e → member_times e (merged uses) 0 % 2 ≡ 0 → ⊥
        not_rim in_e even =
            let (m, odd) = (k.live.exact e).0 in_e in
            let zero_is = times_merged e uses m odd in
            let odd_zero = subst (λ i. member_times e (merged uses) i % 2 ≡ 1) zero_is odd in
            omega (arith, even, odd_zero)

    -- ---- the part of a region, in the coverage and between the edges of the rim

    module _ (r : ℕ) (owned : f r ≡ Some 0) (inside : ℕ → Bool) (is : IsPartOf o f 0 r inside) where
      abbrev pass : HalfEdge → Bool
      pass = passes o live f union distinct r owned inside is

      pass_held : (x : HalfEdge) → Contains o.edges x.edge → pass x ≡ true → IsHeld (left x)
      pass_held x has told = (let (a, (own, (its, in_part))) = passes_owned o live f union distinct r owned inside is x has told in held (left x) a own its)

      -- the part is on both sides of an edge that is not of the rim, or on none
      alike : (e : Seg) → Contains o.edges e → IsInner e → pass (record { edge = e; forwards = true }) ≡ pass (record { edge = e; forwards = false })
      alike e has inner =
          let (a, (b, (is_a, (is_b, (own_a, own_b))))) = regions_beside o live f union distinct r owned inside is e has in
          same_tests _ _
          (up_down o live f union distinct r owned inside is e has
          (λ owned_up. subst (λ i. f i ≡ Some 0) is_b (owned_by (lower e) b own_b (inner.alike ∙ held (upper e) a own_a (subst (λ i. f i ≡ Some 0) (sym is_a) owned_up)))))
          (down_up o live f union distinct r owned inside is e has
          (λ owned_down. subst (λ i. f i ≡ Some 0) is_a (owned_by (upper e) a own_a (sym inner.alike ∙ held (lower e) b own_b (subst (λ i. f i ≡ Some 0) (sym is_b) owned_down)))))

      border_rim : (e : Seg) → Contains (part_boundary o.edges pass) e → Contains q.edges e
      border_rim e has =
          let (listed, border) = kept_is (is_part_border pass) o.edges e has in
          elim (rim_or_inner e listed) [
            | inl there ↦ there
            | inr inner ↦ absurd (no_border (pass (record { edge = e; forwards = true })) (pass (record { edge = e; forwards = false })) (alike e listed inner) border)
          ]
        where
          no_border : (a b : Bool) → a ≡ b → cond a (not b) b ≡ true → ⊥
          no_border true true same border = false≢true border
          no_border false false same border = false≢true border
          no_border true false same border = false≢true (sym same)
          no_border false true same border = false≢true same

      -- sides that are joined round the rim are both in the part or both out
      pub kept_round : (x y : HalfEdge) → Contains o.edges x.edge → Contains o.edges y.edge → Joined q.edges (left x) (left y) → pass x ≡ pass y
      kept_round x y in_x in_y way =
          outside_kept o.edges whole distinct pass (part o live f union distinct r owned inside is) x y in_x in_y (joined-fewer q.edges (part_boundary o.edges pass) border_rim (left x) (left y) way)

      -- sides of the part are joined round the rim
      across : (x : HalfEdge) → IsInner x.edge → Joined q.edges (left x) (left (twin x))
      across x inner = by x.edge x.forwards inner
        where
          by : (e : Seg) (b : Bool) → IsInner e → let y : HalfEdge = record { edge = e; forwards = b } in Joined q.edges (left y) (left (twin y))
          by e true is_inner = joined-sym q.edges (lower e) (upper e) is_inner.joined
          by e false is_inner = is_inner.joined

      inner_passed : (x : HalfEdge) → Contains o.edges x.edge → pass x ≡ true → pass (twin x) ≡ true → IsInner x.edge
      inner_passed x has here there = elim (rim_or_inner x.edge has) [
        | inl on_rim ↦ absurd (both x.edge x.forwards on_rim (pass_held x has here) (pass_held (twin x) has there))
        | inr inner ↦ inner
      ]
        where
          both : (e : Seg) (b : Bool) → Contains q.edges e → (let y : HalfEdge = record { edge = e; forwards = b } in IsHeld (left y)) → (let y : HalfEdge = record { edge = e; forwards = b } in IsHeld (left (twin y))) → ⊥
          both e true on_rim up down = not_both e on_rim up down
          both e false on_rim down up = not_both e on_rim up down

      joined_round : (x : HalfEdge) (way : List HalfEdge) (y : HalfEdge) → LeadsAcross o.edges pass x way y → Joined q.edges (left x) (left y)
      joined_round x [] y leads = joined-fewer o.edges q.edges rim_listed (left x) (left y) leads
      joined_round x (z ∷ way) y (here, has, first, second, rest) =
          joined-trans q.edges (left x) (left z) (left y) (joined-fewer o.edges q.edges rim_listed (left x) (left z) here)
          (joined-trans q.edges (left z) (left (twin z)) (left y) (across z (inner_passed z has first second)) (joined_round (twin z) way y rest))

      module _ (s : ℕ) (owned_rim : g s ≡ Some 0) (inside_rim : ℕ → Bool) (is_rim : IsPartOf q g 0 s inside_rim)
          (first : HalfEdge) (on_rim : Contains q.edges first.edge) (own : IsRegionOf o.edges (left first) r) (own_rim : IsRegionOf q.edges (left first) s) where
        abbrev pass_rim : HalfEdge → Bool
        pass_rim = passes q live_rim g union_rim distinct_rim s owned_rim inside_rim is_rim

        first_passes : pass first ≡ true
        first_passes = region_passes o live f union distinct r owned inside is first (rim_listed first.edge on_rim) own

        first_passes_rim : pass_rim first ≡ true
        first_passes_rim = region_passes q live_rim g union_rim distinct_rim s owned_rim inside_rim is_rim first on_rim own_rim

        pass_rim_held : (x : HalfEdge) → Contains q.edges x.edge → pass_rim x ≡ true → IsHeld (left x)
        pass_rim_held x has told = (let (a, (own_a, (its, in_part))) = passes_owned q live_rim g union_rim distinct_rim s owned_rim inside_rim is_rim x has told in held_rim (left x) a own_a its)

        -- a way over edges with the part on both sides crosses none of the rim
        no_crossing : (x : HalfEdge) (way : List HalfEdge) (y : HalfEdge) → LeadsAcross q.edges pass_rim x way y → Joined q.edges (left x) (left y)
        no_crossing x [] y leads = leads
        no_crossing x (z ∷ way) y (here, has, told, told_too, rest) = absurd (both z.edge z.forwards has (pass_rim_held z has told) (pass_rim_held (twin z) has told_too))
          where
            both : (e : Seg) (b : Bool) → Contains q.edges e → (let x : HalfEdge = record { edge = e; forwards = b } in IsHeld (left x)) → (let x : HalfEdge = record { edge = e; forwards = b } in IsHeld (left (twin x))) → ⊥
            both e true in_e up down = not_both e in_e up down
            both e false in_e down up = not_both e in_e up down

        to_whole : (x : HalfEdge) → Contains q.edges x.edge → pass_rim x ≡ true → pass x ≡ true
        to_whole x has told =
            let way = (part q live_rim g union_rim distinct_rim s owned_rim inside_rim is_rim).connected x first has on_rim told first_passes_rim in
            kept_round x first (rim_listed x.edge has) (rim_listed first.edge on_rim) (no_crossing x way.0 first way.1) ∙ first_passes

        to_rim : (x : HalfEdge) → Contains q.edges x.edge → pass x ≡ true → pass_rim x ≡ true
        to_rim x has told =
            let way = (part o live f union distinct r owned inside is).connected x first (rim_listed x.edge has) (rim_listed first.edge on_rim) told first_passes in
            (part q live_rim g union_rim distinct_rim s owned_rim inside_rim is_rim).same x first has on_rim (joined_round x way.0 first way.1) ∙ first_passes_rim

        agree : (x : HalfEdge) → Contains q.edges x.edge → pass x ≡ pass_rim x
        agree x has = same_tests (pass x) (pass_rim x) (to_rim x has) (to_whole x has)

        abbrev is_rim_edge : Seg → Bool
        is_rim_edge e = member_times e (merged uses) 0 % 2 == 1

        rim_is : q.edges ≡ filter is_rim_edge o.edges
        rim_is = same_ordered (λ e f. IsTrue (is_seg_before e f)) before_both_ways q.edges (filter is_rim_edge o.edges) k.live.ascending
            (AllPairs-filter (λ e f. IsTrue (is_seg_before e f)) is_rim_edge o.edges h.live.ascending)
            (λ e. (
              λ has. (
                  let (m, odd) = (k.live.exact e).0 has in
                  let odd_zero = subst (λ i. member_times e (merged uses) i % 2 ≡ 1) (times_merged e uses m odd) odd in
                  kept is_rim_edge o.edges e (rim_listed e has) ((Decides-eqb (member_times e (merged uses) 0 % 2) 1).1 odd_zero)
                  ),
              λ has. (k.live.exact e).1 (0, (Decides-eqb (member_times e (merged uses) 0 % 2) 1).0 (kept_is is_rim_edge o.edges e has).1),
            ))

        not_rim_alike : (e : Seg) → Contains o.edges e → is_rim_edge e ≡ false → pass (record { edge = e; forwards = true }) ≡ pass (record { edge = e; forwards = false })
        not_rim_alike e has not_rim = elim (rim_or_inner e has) [
          | inl there ↦ absurd (false≢true (sym not_rim ∙ (kept_is is_rim_edge o.edges e (subst (λ (es : List Seg). Contains es e) rim_is there)).1))
          | inr inner ↦ alike e has inner
        ]

        -- so the part has one boundary in both
        pub one_boundary : boundary q inside_rim ≡ boundary o inside
        one_boundary =
            boundary_is q inside_rim pass_rim (tells q live_rim g union_rim distinct_rim s owned_rim inside_rim is_rim)
            ∙ sym (ways_agree pass pass_rim q.edges (λ e has. (agree (record { edge = e; forwards = true }) has, agree (record { edge = e; forwards = false }) has)))
            ∙ ap (ways_of pass) rim_is
            ∙ ways_filter pass is_rim_edge o.edges not_rim_alike
            ∙ sym (boundary_is o inside pass (tells o live f union distinct r owned inside is))
