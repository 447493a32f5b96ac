-- What is built between the edges of the rim is what is built of the coverage, so there is one union.
use Rattle.std.proofs.Common.{◌≡◌, inl, inr, sym, ◌∙◌, subst, ℕ, ◌<◌, true, List, length, get_or, flat_map, Some, arith}
use Rattle.std.specs.Prelude.{All, Contains, Option, slice_get}
use Rattle.std.specs.List.Sorted.{IsPermutation}
use Rattle.std.proofs.lemmas.Bool.{cases_lt, false≢true}
use Rattle.std.proofs.lemmas.List.Elements.{All-contains, Contains-get_or}
use Rattle.std.proofs.lemmas.Option.{slice_get_within, get_or_from_slice_get}
use Rattle.cov_types.specs.declared.coord.Coord.{Coord}
use Rattle.cov_types.specs.declared.edge_use.EdgeUse.{EdgeUse}
use Rattle.cov_types.specs.declared.seg.Seg.{Seg}
use Rattle.cov_types.specs.Coverage.{Members, AllInRange}
use Rattle.cov_types.specs.Range.{IsSegInRange}
use Rattle.cov_types.specs.Uses.{sides, uses_of}
use Rattle.plane.specs.Joined.{IsOff, Joined}
use Rattle.plane.specs.Parity.{member_holds}
use Rattle.plane.specs.Point.{Point}
use Rattle.plane.specs.Region.{IsRegionOf, far_point}
use Rattle.plane.specs.Segment.{upper}
use Rattle.plane.specs.Validity.{IsValid}
use Rattle.crossing_laws.proofs.Coverages.{swept_in_range}
use Rattle.crossing_laws.proofs.Located.{one_region, region-joined, same_region}
use Rattle.crossing_laws.proofs.Sums.{member_holds-joined}
use Rattle.crossing_laws.proofs.Ways.{joined-sym, joined_off}
use Rattle.region_laws.proofs.Edge.{below_joined, none_below_outer}
use Rattle.region_laws.proofs.Nearest.{nearest_or_none}
use Rattle.region_laws.proofs.Numbered.{index, index_is, side_half_edge}
use Rattle.sector_laws.specs.Sector.{HalfEdge, left, IsPlanar}
use Rattle.sector_laws.proofs.Numbers.{half_edge_side}
use Rattle.arrangement.specs.Live.{IsLiveOverlay}
use Rattle.arrangement.specs.Noding.{segments}
use Rattle.arrangement.specs.Overlay.{Overlay, IsOverlayOf, IsRegion, region_at}
use Rattle.arrangement.proofs.Labels.{mapped, far_free}
use Rattle.arrangement.proofs.PointOrders.{points_both_ways}
use Rattle.sound_polygons.specs.Cleaned.{IsBuilt, IsSoundFor, IsOwned, IsPolyCanonical, ArePolygonsOf, shell_of, is_ring_before}
use Rattle.sound_polygons.specs.Parts.{InOnePart, IsSound}
use Rattle.sound_polygons.proofs.OnePolygon.{one_polygon}
use Rattle.sound_polygons.proofs.Reached.{part_exists}
use Rattle.sound_polygons.proofs.SameParts.{part_equivalence}
use Rattle.cleaned_laws.specs.Owning.{AreUnionOwners}
use Rattle.cleaned_laws.proofs.Built.{region_of}
use Rattle.cov_union.specs.Rim.{merged}
use Rattle.cov_union.proofs.OnRim.{same_tests, same_holders_rim, distinct, whole, rim, rim_listed, live, live_rim, held, owned_by, held_rim, owned_by_rim, kept_round, one_boundary}
use Rattle.cov_union.proofs.Parts.{region_passes, passes_owned}

abbrev Polygon : Type 0
Polygon = List (List Coord)

module _ (members : Members) (in_range : AllInRange members) (valid : IsValid (uses_of members))
    (o : Overlay) (h : IsOverlayOf (uses_of members) (length members) o) (q : Overlay) (k : IsOverlayOf (merged (uses_of members)) 1 q)
    (f : ℕ → Option ℕ) (union : AreUnionOwners o f) (g : ℕ → Option ℕ) (union_rim : AreUnionOwners q g) where
  abbrev uses : List EdgeUse
  uses = uses_of members

  planar_whole : IsPlanar o.edges
  planar_whole = whole members in_range valid o h q k

  planar_rim : IsPlanar q.edges
  planar_rim = rim members in_range valid o h q k

  live_whole : IsLiveOverlay o
  live_whole = live members in_range valid o h q k

  live_round : IsLiveOverlay q
  live_round = live_rim members in_range valid o h q k

  listed : (e : Seg) → Contains q.edges e → Contains o.edges e
  listed = rim_listed members in_range valid o h q k

  -- some member holds the point
  abbrev IsHeld : Point → Type 0
  IsHeld p = member_holds (merged uses) 0 p ≡ true

  is_held : (p : Point) (r : ℕ) → IsRegionOf o.edges p r → f r ≡ Some 0 → IsHeld p
  is_held = held members in_range valid o h q k f union g union_rim

  is_owned : (p : Point) (r : ℕ) → IsRegionOf o.edges p r → IsHeld p → f r ≡ Some 0
  is_owned = owned_by members in_range valid o h q k f union g union_rim

  is_held_rim : (p : Point) (r : ℕ) → IsRegionOf q.edges p r → g r ≡ Some 0 → IsHeld p
  is_held_rim = held_rim members in_range valid o h q k f union g union_rim

  is_owned_rim : (p : Point) (r : ℕ) → IsRegionOf q.edges p r → IsHeld p → g r ≡ Some 0
  is_owned_rim = owned_by_rim members in_range valid o h q k f union g union_rim

  -- ---- a half-edge of the rim with an owned region on its left

  record IsFirst (s : ℕ) (first : HalfEdge) (r : ℕ) : Type 0 where
    on_rim : Contains q.edges first.edge
    own_rim : IsRegionOf q.edges (left first) s
    owned_rim : g s ≡ Some 0
    own : IsRegionOf o.edges (left first) r
    owned : f r ≡ Some 0

  region_left : (x : HalfEdge) → Contains o.edges x.edge → (r : ℕ) × IsRegionOf o.edges (left x) r
  region_left x has = (let n = index o.edges x in (region_at o n, live_whole.regions.each n (left x) (half_edge_side o.edges n x (index_is o.edges x has))))

  first_of : (s : ℕ) → IsRegion q.edges s → g s ≡ Some 0 → (first : HalfEdge) × ((r : ℕ) × IsFirst s first r)
  first_of s region owned =
      let (first, of) = side_half_edge q.edges s region.at region.side in
      let on_rim : Contains q.edges first.edge = of.among in
      let own_rim : IsRegionOf q.edges (left first) s = subst (λ p. IsRegionOf q.edges p s) (sym of.point) region.own in
      let (r, own) = region_left first (listed first.edge on_rim) in
      (first, (r, record { on_rim = on_rim; own_rim = own_rim; owned_rim = owned; own = own; owned = is_owned (left first) r own (is_held_rim (left first) s own_rim owned) }))

  -- ---- a polygon that is sound for a part between the edges of the rim is so for that of the coverage

  move : (s : ℕ) (first : HalfEdge) (r : ℕ) → IsFirst s first r → (rings : Polygon) → IsSoundFor q g 0 s rings → IsSoundFor o f 0 r rings
  move s first r at rings for_rim =
      let (inside, part) = part_exists o f 0 r at.owned in
      let one = one_boundary members in_range valid o h q k f union g union_rim r at.owned inside part s at.owned_rim for_rim.inside for_rim.part first at.on_rim at.own at.own_rim in
      let sound = for_rim.sound in
      record {
        inside = inside;
        part = part;
        sound = record { round = subst (λ ways. IsPermutation (flat_map sides rings) ways) one sound.round; simple = sound.simple; shell_first = sound.shell_first; free = sound.free };
      }

  -- for the part of one region and for that of another in it
  same_part : (r t : ℕ) → InOnePart o f 0 r t → (rings : Polygon) → IsSoundFor o f 0 r rings → IsSoundFor o f 0 t rings
  same_part r t in_one rings sound_for =
      let equivalence = part_equivalence o f 0 in
      record {
        inside = sound_for.inside;
        part = λ b. (
          λ told. equivalence.on t r b (equivalence.back r t in_one) ((sound_for.part b).0 told),
          λ way. (sound_for.part b).1 (equivalence.on r t b in_one way),
        );
        sound = sound_for.sound;
      }

  -- ---- an owned region of the coverage, between the edges of the rim

  off_rim : (p : Point) → IsOff o.edges p → IsOff q.edges p
  off_rim p off e has = off e (listed e has)

  uses_ranged : All IsSegInRange (segments q.uses)
  uses_ranged = λ i d within.
      mapped (λ (u : EdgeUse). u.seg) IsSegInRange q.uses (λ u has. All-contains IsSegInRange q.edges u.seg planar_rim.in_range (live_round.listed u has))
      (get_or (segments q.uses) i d) (Contains-get_or (segments q.uses) i d within)

  far_free_rim : (p : Point) → Joined q.edges p far_point → member_holds q.uses 0 p ≡ true → ⊥
  far_free_rim p way holds =
      let alike = member_holds-joined q.uses 0 q.edges live_round.listed (swept_in_range q.edges planar_rim.in_range) (λ inside. live_round.even inside 0) p far_point way in
      false≢true (sym (alike ∙ far_free q.uses uses_ranged 0) ∙ holds)

  region_rim : (p : Point) → IsOff o.edges p → IsHeld p → (s : ℕ) × IsRegionOf q.edges p s
  region_rim p off holds = elim (nearest_or_none q.edges planar_rim p) [
    | inl found ↦ (
        let e = found.0 in
        let x : HalfEdge = record { edge = e; forwards = true } in
        let n = index q.edges x in
        let own : IsRegionOf q.edges (upper e) (region_at q n) = live_round.regions.each n (upper e) (half_edge_side q.edges n x (index_is q.edges x found.1.below.among)) in
        let way = below_joined q.edges planar_rim p (off_rim p off) e found.1 in
        (region_at q n, region-joined q.edges (upper e) p (region_at q n) (joined-sym q.edges p (upper e) way) own)
        )
    | inr nothing ↦ absurd (far_free_rim p (none_below_outer q.edges planar_rim p (off_rim p off) nothing) (same_holders_rim members in_range valid o h q k 0 p ∙ holds))
  ]

  -- the part of an owned region, by a half-edge of the rim round it
  record HasFirst (t : ℕ) : Type 0 where
    s : ℕ
    first : HalfEdge
    r : ℕ
    region : IsRegion q.edges s
    at : IsFirst s first r
    in_one : InOnePart o f 0 r t

  first_for : (t : ℕ) → IsOwned o f 0 t → HasFirst t
  first_for t of =
      let (x, side) = side_half_edge o.edges t of.region.at of.region.side in
      let own_x : IsRegionOf o.edges (left x) t = subst (λ p. IsRegionOf o.edges p t) (sym side.point) of.region.own in
      let holds = is_held (left x) t own_x of.owned in
      let (s, own_s) = region_rim (left x) (joined_off o.edges (left x) own_x.joined.at own_x.joined.joined) holds in
      let region = region_of q.edges (left x) s own_s in
      let (first, (r, at)) = first_of s region (is_owned_rim (left x) s own_s holds) in
      let (inside, part) = part_exists o f 0 r at.owned in
      let way = same_region q.edges (left x) (left first) s own_s at.own_rim in
      let first_in = region_passes o live_whole f union (distinct members in_range valid o h q k) r at.owned inside part first (listed first.edge at.on_rim) at.own in
      let told = kept_round members in_range valid o h q k f union g union_rim r at.owned inside part x first side.among (listed first.edge at.on_rim) way ∙ first_in in
      let (n, (own_n, (owned_n, in_part))) = passes_owned o live_whole f union (distinct members in_range valid o h q k) r at.owned inside part x side.among told in
      record {
        s = s;
        first = first;
        r = r;
        region = region;
        at = at;
        in_one = subst (λ b. InOnePart o f 0 r b) (one_region o.edges (left x) n t own_n own_x) in_part;
      }

  -- ---- all polygons

  module _ (polys : List Polygon) (are : ArePolygonsOf q g 0 polys) where
    each : (rings : Polygon) → Contains polys rings → (r : ℕ) × (IsOwned o f 0 r × IsSoundFor o f 0 r rings)
    each rings has =
        let (s, (of, for_rim)) = are.each rings has in
        let (first, (r, at)) = first_of s of.region of.owned in
        (r, (record { region = region_of o.edges (left first) r at.own; owned = at.owned }, move s first r at rings for_rim))

    every : (t : ℕ) → IsOwned o f 0 t → (rings : Polygon) × (Contains polys rings × IsSoundFor o f 0 t rings)
    every t of =
        let found = first_for t of in
        let (rings, (has, for_rim)) = are.every found.s (record { region = found.region; owned = found.at.owned_rim }) in
        (rings, (has, same_part found.r t found.in_one rings (move found.s found.first found.r found.at rings for_rim)))

    one_inside : (r : ℕ) (a b : Polygon) (x : IsSoundFor o f 0 r a) (y : IsSoundFor o f 0 r b) → x.inside ≡ y.inside
    one_inside r a b x y = λ j n. same_tests (x.inside n) (y.inside n) (λ told. (y.part n).1 ((x.part n).0 told)) (λ told. (x.part n).1 ((y.part n).0 told)) j

    at_place : (m : ℕ) (a : Polygon) → slice_get polys m ≡ Some a → Contains polys a
    at_place m a at = (m, slice_get_within polys m a at, get_or_from_slice_get polys m a a at)

    never_before : (m n : ℕ) (a b : Polygon) → m < n → slice_get polys m ≡ Some a → slice_get polys n ≡ Some b → a ≡ b → ⊥
    never_before m n a b lt at_m at_n same =
        let before : is_ring_before (shell_of a) (shell_of b) ≡ true =
        subst (λ (x : Polygon). is_ring_before (shell_of x) (shell_of b) ≡ true) (get_or_from_slice_get polys m a a at_m)
        (subst (λ (y : Polygon). is_ring_before (shell_of (get_or polys m a)) (shell_of y) ≡ true) (get_or_from_slice_get polys n b a at_n)
        (are.canonical.shells m n a lt (slice_get_within polys n b at_n))) in
        points_both_ways (shell_of b) (shell_of b) (subst (λ (x : Polygon). is_ring_before (shell_of x) (shell_of b) ≡ true) same before) (subst (λ (x : Polygon). is_ring_before (shell_of x) (shell_of b) ≡ true) same before)

    one : (r m n : ℕ) (a b : Polygon) → slice_get polys m ≡ Some a → slice_get polys n ≡ Some b → IsSoundFor o f 0 r a → IsSoundFor o f 0 r b → m ≡ n
    one r m n a b at_m at_n x y =
        let canonical = λ (rings : Polygon) (has : Contains polys rings). All-contains IsPolyCanonical polys rings are.canonical.each has in
        let same : a ≡ b =
        one_polygon o planar_whole y.inside a b (subst (λ inside. IsSound o inside a) (one_inside r a b x y) x.sound) y.sound (canonical a (at_place m a at_m)) (canonical b (at_place n b at_n)) in
        elim (cases_lt m n) [
          | inl lt ↦ absurd (never_before m n a b lt at_m at_n same)
          | inr ge ↦ elim (cases_lt n m) [
            | inl gt ↦ absurd (never_before n m b a gt at_n at_m (sym same))
            | inr le ↦ omega (arith, ge, le)
          ]
        ]

    polygons_of : ArePolygonsOf o f 0 polys
    polygons_of = record { each = each; every = every; one = one; canonical = are.canonical }

  pub rim_built : (out : Members) → IsBuilt q g 1 out → IsBuilt o f 1 out
  rim_built out built = record {
    count = built.count;
    each = λ i polys at. (
        let within = slice_get_within out i polys at in
        let count = built.count in
        let zero_is : i ≡ 0 = omega (arith, within, count) in
        let at_zero = subst (λ n. slice_get out n ≡ Some polys) zero_is at in
        subst (λ n. ArePolygonsOf o f n polys) (sym zero_is) (polygons_of polys (built.each 0 polys at_zero)));
  }
