-- The rings of a part's boundary, the shell first, are a polygon that is sound for the part.
use mathlib.Core.List.{List, [], ◌∷◌, ◌++◌}
use Rattle.std.proofs.Common.{◌≡◌, refl, sym, ◌∙◌, ap, subst, ℕ, suc, ◌+◌, ◌*◌, ◌%◌, ◌<◌, Bool, true, false, true≢false, not, cond, IsTrue, length, get_or, map, filter, flat_map, option_to_list, All, AllPairs, Contains, Option, Some, slice_get, inl, inr, arith}
use Rattle.std.specs.Cmp.{both_ways}
use Rattle.std.specs.List.{enumerate_from}
use Rattle.std.specs.List.Sorted.{IsPermutation}
use Rattle.std.proofs.Math.ListN.{get_or-map}
use Rattle.std.proofs.lemmas.List.{length-append, length-map, get_or_append_left, get_or-append-add}
use Rattle.std.proofs.lemmas.List.Concat.{flat_map-append}
use Rattle.std.proofs.lemmas.List.Elements.{All-contains, All-head, All-tail, Contains-get_or}
use Rattle.std.proofs.lemmas.List.Sorted.{IsPermutation-sym}
use Rattle.std.proofs.lemmas.Map.Keys.{IsDistinct-IsPermutation}
use Rattle.std.proofs.lemmas.Map.Made.{AllPairs-from_IsDistinct, IsDistinct-from_AllPairs}
use Rattle.std.proofs.lemmas.Option.{slice_get_within, get_or_from_slice_get}
use Rattle.cov_types.specs.declared.coord.Coord.{Coord}
use Rattle.cov_types.specs.declared.seg.Seg.{Seg}
use Rattle.cov_types.specs.Coord.{is_before}
use Rattle.cov_types.specs.Uses.{sides, seg_between}
use Rattle.cov_types.proofs.Equal.{Decides-same_segs}
use Rattle.cov_types.proofs.Order.{cases_coords}
use Rattle.plane.specs.Region.{IsOuterRegion, AreRegions}
use Rattle.crossing_laws.specs.Across.{is_same_seg}
use Rattle.crossing_laws.proofs.Lists.{contains_here, contains_there, contains-map}
use Rattle.sector_laws.specs.Sector.{HalfEdge, origin, left, IsPlanar, AreDistinct}
use Rattle.region_laws.proofs.Balance.{first_or_later}
use Rattle.arrangement.specs.Overlay.{Overlay, numbered_edges}
use Rattle.arrangement.proofs.LiveOverlays.{kept_is}
use Rattle.arrangement.proofs.OddUses.{some_passes}
use Rattle.sound_polygons.specs.Cleaned.{BeginsAtLeast}
use Rattle.sound_polygons.specs.Parts.{IsPartOf, IsSound}
use Rattle.shell_laws.specs.Laws.{HasShellFirst}
use Rattle.shell_laws.specs.Part.{IsPartTest, is_part_border, part_boundary, AreTurns}
use Rattle.shell_laws.specs.Ring.{way_edges, IsClosed, IsRingRound, AreRings, ring_holds}
use Rattle.shell_laws.proofs.AllRings.{one_shell}
use Rattle.shell_laws.proofs.LeastVertex.{told_at_least}
use Rattle.shell_laws.proofs.Simple.{by_direction, no_vertex_twice}
use Rattle.part_polygons.specs.Inside.{TellsInside, points_of}
use Rattle.part_polygons.proofs.PartTest.{part_test}
use Rattle.part_polygons.proofs.Sides.{side_of, sides_are, between_is, edges_are}
use Rattle.part_polygons.proofs.Sound.{sound}
use Rattle.cov_build.specs.Boundaries.{boundary_edge, boundary_list, boundary_edges, way_round}
use Rattle.cov_build.specs.Parted.{ArePartsOf, part_at, is_part}
use Rattle.cov_build.specs.Rings.{is_open_down, IsBoundaryPolygon}
use Rattle.cov_build.specs.declared.boundary.BoundaryEdge.{BoundaryEdge}
use Rattle.cov_build.specs.declared.part.Part.{Part}
use Rattle.cov_build.proofs.BoundaryLists.{some_at}
use Rattle.cov_build.proofs.FlatLists.{flat-permutation}
use Rattle.cov_build.proofs.MemberLists.{one_way}
use Rattle.cov_build.proofs.PartLists.{at_of}
use Rattle.cov_build.proofs.PartSides.{passes, passes_up, passes_down, bounds_part, is_boundary}
use Rattle.cov_build.proofs.RegionParts.{inside_of, inside_at}
use Rattle.cov_build.proofs.RoundFacts.{edge_of_side}
use Rattle.cov_build.proofs.Thinned.{up, down}

-- ---- the edges of rings

cut : Coord × Coord → List Seg
cut side = option_to_list (seg_between side.0 side.1)

cut_rings : (edges : List Seg) (ways : List (List HalfEdge)) → All (IsClosed edges) ways → flat_map cut (flat_map sides (map points_of ways)) ≡ flat_map way_edges ways
unfolding cut
cut_rings edges [] closed = refl
cut_rings edges (way ∷ ways) closed =
    flat_map-append cut (sides (points_of way)) (flat_map sides (map points_of ways))
    ∙ (λ i. edges_are edges way (All-head (IsClosed edges) way ways closed) i ++ cut_rings edges ways (All-tail (IsClosed edges) way ways closed) i)

cut_one : (b : BoundaryEdge) → cut (way_round b) ≡ b.edge ∷ []
unfolding cut
cut_one b = by b.above
  where
    by : (t : Bool) → cut (way_round (record { edge = b.edge; above = t })) ≡ b.edge ∷ []
    by true = ap option_to_list (between_is (up b.edge))
    by false = ap option_to_list (between_is (down b.edge))

cut_round : (bs : List BoundaryEdge) → flat_map cut (map way_round bs) ≡ boundary_edges bs
cut_round [] = refl
cut_round (b ∷ bs) = λ i. cut_one b i ++ cut_round bs i

-- ---- edges that stand once

same_flips : (a b : Seg) → is_same_seg a b ≡ is_same_seg b a
same_flips a b = both_ways (is_same_seg a b) (is_same_seg b a) (λ h. (Decides-same_segs b a).1 (sym ((Decides-same_segs a b).0 h))) (λ h. (Decides-same_segs a b).1 (sym ((Decides-same_segs b a).0 h)))

distinct_permuted : (xs ys : List Seg) → IsPermutation xs ys → AreDistinct xs → AreDistinct ys
distinct_permuted xs ys moved apart = AllPairs-from_IsDistinct Decides-same_segs ys (IsDistinct-IsPermutation is_same_seg same_flips xs ys moved (IsDistinct-from_AllPairs Decides-same_segs xs apart))

once_within : (ways : List (List HalfEdge)) → AreDistinct (flat_map way_edges ways) → (way : List HalfEdge) → Contains ways way → AllPairs (λ h g. ¬ (h.edge ≡ g.edge)) way
once_within [] apart way has = absurd (omega (arith, has.1))
once_within (first ∷ ways) apart way has = elim (first_or_later first ways way has) [
  | inl here ↦ subst (AllPairs (λ h g. ¬ (h.edge ≡ g.edge))) here front
  | inr later ↦ once_within ways rest way later
]
  where
    others : List Seg
    others = flat_map way_edges ways

    long : length (way_edges first ++ others) ≡ length first + length others
    long = length-append (way_edges first) others ∙ ap (λ n. n + length others) (length-map first (λ (h : HalfEdge). h.edge))

    read : (i : ℕ) (d : HalfEdge) → i < length first → get_or (way_edges first ++ others) i d.edge ≡ (get_or first i d).edge
    read i d less = get_or_append_left (way_edges first) others d.edge i (omega (arith, less, length-map first (λ (h : HalfEdge). h.edge))) ∙ get_or-map (λ (h : HalfEdge). h.edge) first i d

    front : AllPairs (λ h g. ¬ (h.edge ≡ g.edge)) first
    front i j d before within same =
        apart i j d.edge before (omega (arith, within, long)) (read i d (omega (arith, before, within)) ∙ same ∙ sym (read j d within))

    rest : AreDistinct others
    rest i j d before within same =
        let split = length-append (way_edges first) others in
        apart (length (way_edges first) + i) (length (way_edges first) + j) d (omega (arith, before)) (omega (arith, within, split))
        (get_or-append-add (way_edges first) others i d ∙ same ∙ sym (get_or-append-add (way_edges first) others j d))

-- ---- closed ways

without_end : (edges : List Seg) (h : HalfEdge) (way : List HalfEdge) (end : HalfEdge) → AreTurns edges (h ∷ (way ++ end ∷ [])) → AreTurns edges (h ∷ way)
without_end edges h [] end turns = tt
without_end edges h (k ∷ ks) end turns = (turns.0, without_end edges k ks end turns.1)

closed_turns : (edges : List Seg) (way : List HalfEdge) → IsClosed edges way → AreTurns edges way
closed_turns edges [] closed = tt
closed_turns edges (h ∷ way) closed = without_end edges h way h closed

along : (k : HalfEdge) → way_round (record { edge = k.edge; above = k.forwards }) ≡ side_of k
along = by_direction (λ k. way_round (record { edge = k.edge; above = k.forwards }) ≡ side_of k) (λ e. refl) (λ e. refl)

listed_at : (n : ℕ) (es : List Seg) (k : ℕ) (e : Seg) → Contains (enumerate_from n es) (k, e) → (j : ℕ) × ((k ≡ n + j) × (slice_get es j ≡ Some e))
listed_at n [] k e has = absurd (omega (arith, has.1))
listed_at n (x ∷ xs) k e has = elim (first_or_later (n, x) (enumerate_from (n + 1) xs) (k, e) has) [
  | inl here ↦ (let same = ap (λ (q : ℕ × Seg). q.0) here in (0, (omega (arith, same), ap (λ (q : ℕ × Seg). Some q.1) here)))
  | inr later ↦ (let rest = listed_at (n + 1) xs k e later in let is = rest.1.0 in (suc rest.0, (omega (arith, is), rest.1.1)))
]

module _ (o : Overlay) (planar : IsPlanar o.edges) (distinct : AreDistinct o.edges) (regions : AreRegions o.edges o.numbers) (owners : ℕ → Option ℕ) (parts : List (Option Part)) (are : ArePartsOf o owners parts) (p : ℕ) where
  abbrev in_part : HalfEdge → Bool
  in_part = passes o planar distinct regions owners parts are p

  abbrev inside : ℕ → Bool
  inside = inside_of o planar distinct regions owners parts are p

  abbrev bounds : List BoundaryEdge
  bounds = boundary_list parts p o.edges

  -- ---- the test, and the boundary that it has

  edge_of : (k : ℕ) (e : Seg) → Contains (numbered_edges o) (k, e) → slice_get o.edges k ≡ Some e
  edge_of k e has =
      let found = listed_at 0 o.edges k e has in
      let is = found.1.0 in
      let same : found.0 ≡ k = omega (arith, is) in
      subst (λ j. slice_get o.edges j ≡ Some e) same found.1.1

  tells : TellsInside o inside in_part
  tells = record {
    above = λ k e has. (
        let at = edge_of k e has in
        let less = slice_get_within o.edges k e at in
        passes_up o planar distinct regions owners parts are p k e at ∙ sym (inside_at o planar distinct regions owners parts are p (2 * k) (omega (arith, less)))
        );
    below = λ k e has. (
        let at = edge_of k e has in
        let less = slice_get_within o.edges k e at in
        passes_down o planar distinct regions owners parts are p k e at ∙ sym (inside_at o planar distinct regions owners parts are p (2 * k + 1) (omega (arith, less)))
        );
  }

  border_step : (e : Seg) (a b : Bool) (kept : List Seg) (rest : List BoundaryEdge) → in_part (up e) ≡ a → in_part (down e) ≡ b → kept ≡ boundary_edges rest
      → cond (is_part_border in_part e) (e ∷ kept) kept ≡ boundary_edges (boundary_edge a b e ++ rest)
  border_step e true true kept rest above below same = (λ i. cond (cond (above i) (not (below i)) (below i)) (e ∷ kept) kept) ∙ same
  border_step e false false kept rest above below same = (λ i. cond (cond (above i) (not (below i)) (below i)) (e ∷ kept) kept) ∙ same
  border_step e true false kept rest above below same = (λ i. cond (cond (above i) (not (below i)) (below i)) (e ∷ kept) kept) ∙ ap (λ es. e ∷ es) same
  border_step e false true kept rest above below same = (λ i. cond (cond (above i) (not (below i)) (below i)) (e ∷ kept) kept) ∙ ap (λ es. e ∷ es) same

  border_is : part_boundary o.edges in_part ≡ boundary_edges bounds
  border_is = by 0 o.edges (λ j e at. ap (slice_get o.edges) (let same : 0 + j ≡ j = omega arith in same) ∙ at)
    where
      by : (k : ℕ) (es : List Seg) → ((j : ℕ) (e : Seg) → slice_get es j ≡ Some e → slice_get o.edges (k + j) ≡ Some e)
          → filter (is_part_border in_part) es
          ≡ boundary_edges (flat_map (λ (q : ℕ × Seg). boundary_edge (is_part (part_at parts (2 * q.0)) p) (is_part (part_at parts (2 * q.0 + 1)) p) q.1) (enumerate_from k es))
      by k [] at = refl
      by k (e ∷ es) at =
          let here : slice_get o.edges k ≡ Some e = ap (slice_get o.edges) (let same : k ≡ k + 0 = omega arith in same) ∙ at 0 e refl in
          border_step e (is_part (part_at parts (2 * k)) p) (is_part (part_at parts (2 * k + 1)) p) (filter (is_part_border in_part) es)
          (flat_map (λ (q : ℕ × Seg). boundary_edge (is_part (part_at parts (2 * q.0)) p) (is_part (part_at parts (2 * q.0 + 1)) p) q.1) (enumerate_from (k + 1) es))
          (passes_up o planar distinct regions owners parts are p k e here) (passes_down o planar distinct regions owners parts are p k e here)
          (by (k + 1) es (λ j f is. ap (slice_get o.edges) (let same : k + 1 + j ≡ k + suc j = omega arith in same) ∙ at (suc j) f is))

  on_left : (b : BoundaryEdge) → Contains bounds b → in_part (record { edge = b.edge; forwards = b.above }) ≡ true
  on_left b has =
      let part = bounds_part o planar distinct regions owners parts are p has.0 b (at_of bounds b has) in
      by b.above part.above part.below
    where
      by : (t : Bool) → in_part (up b.edge) ≡ t → in_part (down b.edge) ≡ not t → in_part (record { edge = b.edge; forwards = t }) ≡ true
      by true above below = above
      by false above below = below

  -- ---- the rings

  module _ (some : 0 < length bounds) (rings : List (List Coord)) (polygon : IsBoundaryPolygon bounds rings) where
    abbrev edges : List Seg
    edges = boundary_edges bounds

    abbrev ways : List (List HalfEdge)
    ways = polygon.closed.ways

    cover : IsPermutation (flat_map way_edges ways) edges
    cover =
        let moved = flat-permutation cut (flat_map sides rings) (map way_round bounds) polygon.bounds.sides in
        subst (λ xs. IsPermutation xs edges) (ap (λ rs. flat_map cut (flat_map sides rs)) polygon.closed.points_are ∙ cut_rings edges ways polygon.closed.closed)
        (subst (IsPermutation (flat_map cut (flat_map sides rings))) (cut_round bounds) moved)

    closed_way : (way : List HalfEdge) → Contains ways way → IsClosed edges way
    closed_way way has = All-contains (IsClosed edges) ways way polygon.closed.closed has

    ring_among : (way : List HalfEdge) → Contains ways way → Contains rings (points_of way)
    ring_among way has = subst (λ rs. Contains rs (points_of way)) (sym polygon.closed.points_are) (contains-map points_of ways way has)

    bound_by : (way : List HalfEdge) → Contains ways way → (k : HalfEdge) → Contains way k → Contains bounds (record { edge = k.edge; above = k.forwards })
    bound_by way has k in_way =
        let side : Contains (sides (points_of way)) (side_of k) = subst (λ ss. Contains ss (side_of k)) (sym (sides_are edges way (closed_way way has))) (contains-map side_of way k in_way) in
        let (b, (in_b, is)) = edge_of_side o planar distinct regions owners parts are p rings polygon.bounds (points_of way) (ring_among way has) (side_of k) side in
        let c : BoundaryEdge = record { edge = k.edge; above = k.forwards } in
        subst (Contains bounds) (one_way b c (is ∙ sym (along k))) in_b

    ring_is : (way : List HalfEdge) → Contains ways way → IsRingRound o.edges in_part way
    ring_is way has = record {
      way = record {
        border = λ i d below. (
            let k = get_or way i d in
            let b : BoundaryEdge = record { edge = k.edge; above = k.forwards } in
            subst (λ es. Contains es k.edge) (sym border_is) (contains-map (λ (x : BoundaryEdge). x.edge) bounds b (bound_by way has k (Contains-get_or way i d below)))
            );
        inside = λ i d below. (
            let k = get_or way i d in
            on_left (record { edge = k.edge; above = k.forwards }) (bound_by way has k (Contains-get_or way i d below))
            );
        turns = subst (λ es. AreTurns es way) (sym border_is) (closed_turns edges way (closed_way way has));
        once = once_within ways (distinct_permuted edges (flat_map way_edges ways) (IsPermutation-sym (flat_map way_edges ways) edges cover) (is_boundary o planar distinct regions owners parts are p some).distinct) way has;
      };
      closed = subst (λ es. IsClosed es way) (sym border_is) (closed_way way has);
    }

    rings_are : AreRings o.edges in_part ways
    rings_are = record {
      each = λ i d below. ring_is (get_or ways i d) (Contains-get_or ways i d below);
      cover = subst (IsPermutation (flat_map way_edges ways)) (sym border_is) cover;
    }

    -- ---- the shell

    module _ (part : IsPartTest o.edges in_part) where
      least_first : (h : HalfEdge) (rest : List HalfEdge) → Contains ways (h ∷ rest) → All (λ k. IsTrue (is_before (origin h) (origin k))) rest
      least_first h rest has i d below =
          let k = get_or rest i d in
          let way = h ∷ rest in
          let least = All-contains BeginsAtLeast rings (points_of way) polygon.bounds.least (ring_among way has) (origin h) (origin k) refl (contains-map origin way k (contains_there h k rest (Contains-get_or rest i d below))) in
          elim (cases_coords (origin h) (origin k)) [
            | inl before ↦ before
            | inr other ↦ elim other [
              | inl same ↦ absurd (no_vertex_twice o.edges planar in_part part way (ring_is way has).way 0 (suc i) d (omega arith) (omega (arith, below)) same)
              | inr after ↦ absurd (true≢false (sym after ∙ least))
            ]
          ]

      holds_is : (way : List HalfEdge) → Contains ways way → (g : HalfEdge) → Contains o.edges g.edge → in_part g ≡ true → ring_holds way (left g) ≡ is_open_down way
      holds_is [] has g in_g pass_g = absurd (closed_way [] has)
      holds_is (h ∷ rest) has g in_g pass_g = told_at_least o.edges planar in_part part h rest (ring_is (h ∷ rest) has) (least_first h rest has) g in_g pass_g

      shell_sound : IsSound o inside rings
      shell_sound =
          let (b, at_b) = some_at bounds 0 some in
          let g : HalfEdge = record { edge = b.edge; forwards = b.above } in
          let has : Contains bounds b = at_has bounds 0 b at_b in
          let pass_g = on_left b has in
          let in_g = among b has in
          let one = one_shell o.edges planar distinct in_part part ways rings_are g in_g pass_g in
          let (way, (in_way, holds)) = some_passes (λ ring. ring_holds ring (left g)) ways (ap (λ n. n % 2) one) in
          finish ways refl g in_g pass_g (polygon.closed.told way in_way (sym (holds_is way in_way g in_g pass_g) ∙ holds))
        where
          at_has : (bs : List BoundaryEdge) (k : ℕ) (b : BoundaryEdge) → slice_get bs k ≡ Some b → Contains bs b
          at_has bs k b at = (k, slice_get_within bs k b at, get_or_from_slice_get bs k b b at)

          among : (b : BoundaryEdge) → Contains bounds b → Contains o.edges b.edge
          among b has = (kept_is (is_part_border in_part) o.edges b.edge (subst (λ es. Contains es b.edge) (sym border_is) (contains-map (λ (x : BoundaryEdge). x.edge) bounds b has))).0

          finish : (ws : List (List HalfEdge)) → ways ≡ ws → (g : HalfEdge) → Contains o.edges g.edge → in_part g ≡ true → is_open_down (get_or ws 0 []) ≡ true → IsSound o inside rings
          finish [] is g in_g pass_g opens = absurd (true≢false (sym opens))
          finish (shell ∷ holes) is g in_g pass_g opens =
              let first : HasShellFirst o.edges in_part shell holes = record {
                rings = subst (AreRings o.edges in_part) is rings_are;
                side = g;
                among = in_g;
                inside = pass_g;
                held = holds_is shell (subst (λ xs. Contains xs shell) (sym is) (contains_here shell holes)) g in_g pass_g ∙ opens;
              } in
              subst (IsSound o inside) (sym (polygon.closed.points_are ∙ ap (map points_of) is)) (sound o planar distinct inside in_part tells part shell holes first)

    pub sound_for_part : (i r : ℕ) → IsPartOf o owners i r inside → ((g : ℕ) → IsOuterRegion o.edges g → owners g ≡ Some i → ⊥) → IsSound o inside rings
    sound_for_part i r of free = shell_sound (part_test o regions inside in_part tells owners i r of free)
