-- The sides of edges whose regions are in a part, and the boundary of the part.
use mathlib.Core.List.{List, [], ◌∷◌, ◌++◌}
use Rattle.std.proofs.Common.{◌≡◌, refl, sym, ◌∙◌, ap, subst, ℕ, zero, suc, ◌+◌, ◌*◌, ◌/◌, ◌%◌, ◌<◌, Bool, true, false, true≢false, not, length, flat_map, Contains, Option, Some, None, slice_get, ◌⊎◌, inl, inr, arith}
use Rattle.std.specs.List.{enumerate_from}
use Rattle.std.proofs.lemmas.Bool.{cases_eq}
use Rattle.std.proofs.lemmas.List.{length-map}
use Rattle.std.proofs.lemmas.Option.{none-some, same_Some}
use Rattle.cov_types.specs.declared.seg.Seg.{Seg}
use Rattle.half_edge.proofs.Counts.{number_within}
use Rattle.plane.specs.Region.{AreRegions}
use Rattle.crossing_laws.proofs.Located.{region-joined, one_region}
use Rattle.arrangement.specs.Overlay.{Overlay, region_at}
use Rattle.sector_laws.specs.Sector.{HalfEdge, left, IsHalfEdge, IsPlanar, AreDistinct}
use Rattle.sector_laws.proofs.Numbers.{half_edge_side, half_edge_among, one_half_edge, one_number, forwards_number, back_number}
use Rattle.sector_laws.proofs.Sectors.{next_joined}
use Rattle.region_laws.proofs.Numbered.{index, index_is}
use Rattle.sound_polygons.specs.Parts.{InOnePart}
use Rattle.cov_build.specs.Boundaries.{boundary_edge, boundary_list, boundary_edges}
use Rattle.cov_build.specs.Parted.{IsPartAt, ArePartsOf, part_at, is_part}
use Rattle.cov_build.specs.Rings.{outside_of, IsOutside, IsBoundary}
use Rattle.cov_build.specs.declared.boundary.BoundaryEdge.{BoundaryEdge}
use Rattle.cov_build.specs.declared.part.Part.{Part}
use Rattle.cov_build.proofs.Passed.{edge_at}
use Rattle.cov_build.proofs.BoundaryLists.{some_at}
use Rattle.cov_build.proofs.Thinned.{up, down, IsThinned, IsJoinedTest, thinned_arranged, thinned_kept}

even_or_odd : (n : ℕ) → (n % 2 ≡ 0) ⊎ (n % 2 ≡ 1)
even_or_odd n = elim (cases_eq (n % 2) 0) [ inl even ↦ inl even | inr odd ↦ inr (let small : n % 2 < 2 = omega arith in omega (arith, odd)) ]

-- ---- the part of a side is that of its region

part_from : (o : Overlay) (owners : ℕ → Option ℕ) (r : ℕ) (p q : Option Part) → IsPartAt o owners r p → IsPartAt o owners r q → p ≡ q
part_from o owners r None None first second = refl
part_from o owners r None (Some q) first second = absurd (none-some q.least (sym first ∙ (second.owned ∙ absurd_owner)))
  where
    absurd_owner : Some second.owner ≡ Some q.least
    absurd_owner = absurd (none-some second.owner (sym first ∙ second.owned))
part_from o owners r (Some p) None first second = absurd (none-some first.owner (sym second ∙ first.owned))
part_from o owners r (Some p) (Some q) first second =
    let same = same_Some first.owner second.owner (sym first.owned ∙ second.owned) in
    let below = first.least q.least (subst (λ i. InOnePart o owners i r q.least) (sym same) second.in_part) in
    let above = second.least p.least (subst (λ i. InOnePart o owners i r p.least) same first.in_part) in
    let equal : p.least ≡ q.least = omega (arith, below, above) in
    λ t. Some (record { least = equal t })

module _ (o : Overlay) (planar : IsPlanar o.edges) (distinct : AreDistinct o.edges) (regions : AreRegions o.edges o.numbers) (owners : ℕ → Option ℕ) (parts : List (Option Part)) (are : ArePartsOf o owners parts) (p : ℕ) where
  -- the side on the left of the half-edge is in the part
  abbrev pub passes : HalfEdge → Bool
  passes h = is_part (part_at parts (index o.edges h)) p

  pub number_of : (h : HalfEdge) → Contains o.edges h.edge → (n : ℕ) → IsHalfEdge o.edges n h → index o.edges h ≡ n
  number_of h c n at = one_number o.edges distinct (index o.edges h) n h (index_is o.edges h c) at

  pub same_part : (n m : ℕ) → n < 2 * length o.edges → m < 2 * length o.edges → region_at o n ≡ region_at o m → part_at parts n ≡ part_at parts m
  same_part n m below_n below_m same = part_from o owners (region_at o m) (part_at parts n) (part_at parts m) (subst (λ r. IsPartAt o owners r (part_at parts n)) same (are.each n below_n)) (are.each m below_m)

  pub passes_joined : IsJoinedTest o.edges passes
  passes_joined h g in_h in_g joined =
      let n = index o.edges h in
      let m = index o.edges g in
      let at_n = half_edge_side o.edges n h (index_is o.edges h in_h) in
      let at_m = half_edge_side o.edges m g (index_is o.edges g in_g) in
      let same : region_at o n ≡ region_at o m = one_region o.edges (left g) (region_at o n) (region_at o m) (region-joined o.edges (left h) (left g) (region_at o n) joined (regions.each n (left h) at_n)) (regions.each m (left g) at_m) in
      ap (λ q. is_part q p) (same_part n m (within n h (index_is o.edges h in_h)) (within m g (index_is o.edges g in_g)) same)
    where
      within : (k : ℕ) (f : HalfEdge) → IsHalfEdge o.edges k f → k < 2 * length o.edges
      within = number_within o.edges

  pub passes_up : (k : ℕ) (e : Seg) → slice_get o.edges k ≡ Some e → passes (up e) ≡ is_part (part_at parts (2 * k)) p
  passes_up k e at = (let h = forwards_number o.edges k e at in ap (λ n. is_part (part_at parts n) p) (number_of (up e) (half_edge_among o.edges (2 * k) (up e) h) (2 * k) h))

  pub passes_down : (k : ℕ) (e : Seg) → slice_get o.edges k ≡ Some e → passes (down e) ≡ is_part (part_at parts (2 * k + 1)) p
  passes_down k e at = (let h = back_number o.edges k e at in ap (λ n. is_part (part_at parts n) p) (number_of (down e) (half_edge_among o.edges (2 * k + 1) (down e) h) (2 * k + 1) h))

  -- ---- the boundary, edge by edge

  abbrev listed : ℕ × Seg → List BoundaryEdge
  listed q = boundary_edge (is_part (part_at parts (2 * q.0)) p) (is_part (part_at parts (2 * q.0 + 1)) p) q.1

  abbrev IsPart : ℕ → List Seg → Type 0
  IsPart k es = (j : ℕ) (e : Seg) → slice_get es j ≡ Some e → slice_get o.edges (k + j) ≡ Some e

  first_of : (k : ℕ) (e : Seg) (es : List Seg) → IsPart k (e ∷ es) → slice_get o.edges k ≡ Some e
  first_of k e es part = ap (slice_get o.edges) (let same : k ≡ k + 0 = omega arith in same) ∙ part 0 e refl

  rest_of : (k : ℕ) (e : Seg) (es : List Seg) → IsPart k (e ∷ es) → IsPart (k + 1) es
  rest_of k e es part j f at = ap (slice_get o.edges) (let same : k + 1 + j ≡ k + suc j = omega arith in same) ∙ part (suc j) f at

  thinned : (k : ℕ) (es : List Seg) → IsPart k es → IsThinned passes es (boundary_edges (flat_map listed (enumerate_from k es)))
  thinned k [] part = refl
  thinned k (e ∷ es) part =
      by (is_part (part_at parts (2 * k)) p) (is_part (part_at parts (2 * k + 1)) p) (passes_up k e (first_of k e es part)) (passes_down k e (first_of k e es part)) (thinned (k + 1) es (rest_of k e es part))
    where
      by : (a b : Bool) → passes (up e) ≡ a → passes (down e) ≡ b → IsThinned passes es (boundary_edges (flat_map listed (enumerate_from (k + 1) es)))
          → IsThinned passes (e ∷ es) (boundary_edges (boundary_edge a b e ++ flat_map listed (enumerate_from (k + 1) es)))
      by true true above below rest = inl (above ∙ sym below, rest)
      by false false above below rest = inl (above ∙ sym below, rest)
      by true false above below rest = inr (boundary_edges (flat_map listed (enumerate_from (k + 1) es)), (refl, rest))
      by false true above below rest = inr (boundary_edges (flat_map listed (enumerate_from (k + 1) es)), (refl, rest))

  abbrev pub bounds : List BoundaryEdge
  bounds = boundary_list parts p o.edges

  pub bounds_thinned : IsThinned passes o.edges (boundary_edges bounds)
  bounds_thinned = thinned 0 o.edges whole
    where
      whole : IsPart 0 o.edges
      whole j e at = ap (slice_get o.edges) (let same : 0 + j ≡ j = omega arith in same) ∙ at

  -- the edge has the part where it says
  pub record HasPart (b : BoundaryEdge) : Type 0 where
    pub above : passes (up b.edge) ≡ b.above
    pub below : passes (down b.edge) ≡ not b.above

  has_part : (k : ℕ) (es : List Seg) → IsPart k es → (j : ℕ) (b : BoundaryEdge) → slice_get (flat_map listed (enumerate_from k es)) j ≡ Some b → HasPart b
  has_part k [] part j b at = absurd (none-some b at)
  has_part k (e ∷ es) part j b at =
      by (is_part (part_at parts (2 * k)) p) (is_part (part_at parts (2 * k + 1)) p) (passes_up k e (first_of k e es part)) (passes_down k e (first_of k e es part)) j at (λ i is. has_part (k + 1) es (rest_of k e es part) i b is)
    where
      here : (t : Bool) → passes (up e) ≡ t → passes (down e) ≡ not t → record { edge = e; above = t } ≡ b → HasPart b
      here t above below is = subst HasPart is (record { above = above; below = below })

      by : (a c : Bool) → passes (up e) ≡ a → passes (down e) ≡ c → (i : ℕ) → slice_get (boundary_edge a c e ++ flat_map listed (enumerate_from (k + 1) es)) i ≡ Some b
          → ((n : ℕ) → slice_get (flat_map listed (enumerate_from (k + 1) es)) n ≡ Some b → HasPart b) → HasPart b
      by true true above below i is rest = rest i is
      by false false above below i is rest = rest i is
      by true false above below zero is rest = here true above below (same_Some _ b is)
      by true false above below (suc i) is rest = rest i is
      by false true above below zero is rest = here false above below (same_Some _ b is)
      by false true above below (suc i) is rest = rest i is

  pub bounds_part : (j : ℕ) (b : BoundaryEdge) → slice_get bounds j ≡ Some b → HasPart b
  bounds_part = has_part 0 o.edges whole
    where
      whole : IsPart 0 o.edges
      whole j e at = ap (slice_get o.edges) (let same : 0 + j ≡ j = omega arith in same) ∙ at

  -- ---- so the outside is kept

  pub is_boundary : 0 < length bounds → IsBoundary bounds
  is_boundary some =
      let arranged = thinned_arranged passes o.edges (boundary_edges bounds) bounds_thinned planar distinct in
      let thin = boundary_edges bounds in
      record {
        some = some;
        planar = arranged.0;
        distinct = arranged.1;
        kept = λ n m next out. (
            let from_among = half_edge_among thin n next.from next.from_is in
            let to_among = half_edge_among thin m next.to next.to_is in
            let same : passes next.from ≡ passes next.to = thinned_kept o.edges planar distinct passes passes_joined thin bounds_thinned next.from next.to from_among to_among
            (next_joined thin arranged.0 next.from next.to next.follows) in
            let off : passes next.from ≡ false = outside_off n next.from next.from_is out in
            off_outside m next.to next.to_is (sym same ∙ off)
            );
      }
    where
      outside_half : (k : ℕ) (b : BoundaryEdge) → slice_get bounds k ≡ Some b → IsHalfEdge (boundary_edges bounds) (outside_of k b.above) (record { edge = b.edge; forwards = not b.above })
      outside_half k b at = by b.above
        where
          by : (t : Bool) → IsHalfEdge (boundary_edges bounds) (outside_of k t) (record { edge = b.edge; forwards = not t })
          by true = back_number (boundary_edges bounds) k b.edge (edge_at bounds k b at)
          by false = forwards_number (boundary_edges bounds) k b.edge (edge_at bounds k b at)

      off_of : (b : BoundaryEdge) → HasPart b → passes (record { edge = b.edge; forwards = not b.above }) ≡ false
      off_of b has = by b.above has.above has.below
        where
          by : (t : Bool) → passes (up b.edge) ≡ t → passes (down b.edge) ≡ not t → passes (record { edge = b.edge; forwards = not t }) ≡ false
          by true above below = below
          by false above below = above

      outside_off : (n : ℕ) (h : HalfEdge) → IsHalfEdge (boundary_edges bounds) n h → IsOutside bounds n → passes h ≡ false
      outside_off n h at out =
          ap passes (one_half_edge (boundary_edges bounds) n h (record { edge = out.edge.edge; forwards = not out.edge.above }) at
          (subst (λ k. IsHalfEdge (boundary_edges bounds) k (record { edge = out.edge.edge; forwards = not out.edge.above })) (sym out.is) (outside_half out.place out.edge out.at_place)))
          ∙ off_of out.edge (bounds_part out.place out.edge out.at_place)

      -- the half-edge of a place that does not pass is the outside one
      off_outside : (m : ℕ) (h : HalfEdge) → IsHalfEdge (boundary_edges bounds) m h → passes h ≡ false → IsOutside bounds m
      off_outside m h at off =
          let within = number_within (boundary_edges bounds) m h at in
          let long = length-map bounds (λ (b : BoundaryEdge). b.edge) in
          let (b, at_b) = some_at bounds (m / 2) (omega (arith, within, long)) in
          let has = bounds_part (m / 2) b at_b in
          elim (even_or_odd m) [
            | inl even ↦ (
                let twice : m ≡ 2 * (m / 2) = omega (arith, even) in
                let forwards : IsHalfEdge (boundary_edges bounds) m (up b.edge) = subst (λ k. IsHalfEdge (boundary_edges bounds) k (up b.edge)) (sym twice) (forwards_number (boundary_edges bounds) (m / 2) b.edge (edge_at bounds (m / 2) b at_b)) in
                let below : b.above ≡ false = sym has.above ∙ ap passes (one_half_edge (boundary_edges bounds) m (up b.edge) h forwards at) ∙ off in
                record { place = m / 2; edge = b; at_place = at_b; is = twice ∙ ap (outside_of (m / 2)) (sym below) }
                )
            | inr odd ↦ (
                let above_twice : m ≡ 2 * (m / 2) + 1 = omega (arith, odd) in
                let back : IsHalfEdge (boundary_edges bounds) m (down b.edge) = subst (λ k. IsHalfEdge (boundary_edges bounds) k (down b.edge)) (sym above_twice) (back_number (boundary_edges bounds) (m / 2) b.edge (edge_at bounds (m / 2) b at_b)) in
                let above : b.above ≡ true = not_false b.above (sym has.below ∙ ap passes (one_half_edge (boundary_edges bounds) m (down b.edge) h back at) ∙ off) in
                record { place = m / 2; edge = b; at_place = at_b; is = above_twice ∙ ap (outside_of (m / 2)) (sym above) }
                )
          ]
        where
          not_false : (t : Bool) → not t ≡ false → t ≡ true
          not_false true h = refl
          not_false false h = absurd (true≢false h)
