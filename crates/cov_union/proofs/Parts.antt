-- The part of a region that is owned for a label, as a test on half-edges, and which owned regions are beside one another.
use mathlib.Core.List.{[], ◌∷◌}
use Rattle.std.proofs.Common.{◌≡◌, refl, sym, ◌∙◌, ap, subst, ℕ, zero, suc, ◌+◌, ◌*◌, ◌<◌, Bool, true, false, true≢false, cond, ◌++◌, List, flat_map, filter, inl, inr, Some, arith}
use Rattle.std.specs.Prelude.{Contains, Option, slice_get}
use Rattle.std.specs.List.{enumerate_from}
use Rattle.std.proofs.lemmas.Option.{none-some, same_Some, slice_get_within}
use Rattle.cov_types.specs.declared.coord.Coord.{Coord}
use Rattle.cov_types.specs.declared.seg.Seg.{Seg}
use Rattle.plane.specs.Label.{label_at, numbers_below}
use Rattle.plane.specs.Parity.{member_holds}
use Rattle.plane.specs.Point.{Point}
use Rattle.plane.specs.Region.{IsOuterRegion, IsRegionOf, far_point}
use Rattle.plane.specs.Segment.{upper, lower}
use Rattle.crossing_laws.proofs.Lists.{contains_here, contains_there}
use Rattle.crossing_laws.proofs.Located.{one_region}
use Rattle.sector_laws.specs.Sector.{HalfEdge, left, AreDistinct}
use Rattle.sector_laws.proofs.Numbers.{half_edge_side, forwards_number, back_number}
use Rattle.region_laws.proofs.Balance.{first_or_later}
use Rattle.arrangement.specs.Live.{IsLiveOverlay}
use Rattle.arrangement.specs.Overlay.{Overlay, label_of, region_above, region_below, AreBeside}
use Rattle.arrangement.proofs.LiveOverlays.{kept, kept_is, number_below, label_is}
use Rattle.shell_laws.specs.Part.{IsPartTest}
use Rattle.sound_polygons.specs.Parts.{LeadsWithin, InOnePart, IsPartOf, boundary, boundary_way}
use Rattle.sound_polygons.proofs.SameParts.{part_equivalence}
use Rattle.part_polygons.specs.Inside.{TellsInside}
use Rattle.part_polygons.proofs.PartTest.{on_left, part_test}
use Rattle.part_polygons.proofs.TestExists.{test_exists}
use Rattle.cleaned_laws.specs.Owning.{AreUnionOwners}
use Rattle.cleaned_laws.proofs.Built.{region_of}
use Rattle.cleaned_laws.proofs.Cleaned.{far_region, outer_label}

-- ---- numbered edges

pub place_of : (es : List Seg) (e : Seg) → Contains es e → (k : ℕ) × (slice_get es k ≡ Some e)
place_of [] e has = absurd (omega (arith, has.1))
place_of (x ∷ xs) e has = elim (first_or_later x xs e has) [
  | inl here ↦ (0, ap (λ (s : Seg). Some s) here)
  | inr later ↦ (let rest = place_of xs e later in (suc rest.0, rest.1))
]

numbered : (n k j : ℕ) (es : List Seg) (e : Seg) → k ≡ n + j → slice_get es j ≡ Some e → Contains (enumerate_from n es) (k, e)
numbered n k j [] e is at = absurd (none-some e at)
numbered n k zero (x ∷ xs) e is at =
    let here : n ≡ k = omega (arith, is) in
    subst (λ p. Contains ((n, x) ∷ enumerate_from (n + 1) xs) p) (λ i. (here i, same_Some _ _ at i)) (contains_here (n, x) (enumerate_from (n + 1) xs))
numbered n k (suc j) (x ∷ xs) e is at = contains_there (n, x) (k, e) (enumerate_from (n + 1) xs) (numbered (n + 1) k j xs e (omega (arith, is)) at)

-- ---- owners by labels

module _ (o : Overlay) (live : IsLiveOverlay o) (owners : ℕ → Option ℕ) (union : AreUnionOwners o owners) where
  -- who owns a region holds its points
  pub owned_held : (p : Point) (r : ℕ) → IsRegionOf o.edges p r → owners r ≡ Some 0 → (m : ℕ) × (member_holds o.uses m p ≡ true)
  owned_held p r own owned = by (label_at o.uses o.members p) (label_is o live p r own) refl
    where
      by : (label : List ℕ) → label_of o r ≡ label → label ≡ label_at o.uses o.members p → (m : ℕ) × (member_holds o.uses m p ≡ true)
      by [] is same = absurd (none-some 0 (sym (union.free r (region_of o.edges p r own) is) ∙ owned))
      by (m ∷ label) is same =
          (m, (kept_is (λ k. member_holds o.uses k p) (numbers_below o.members) m (subst (λ l. Contains l m) same (contains_here m label))).1)

  pub held_owned : (p : Point) (r m : ℕ) → IsRegionOf o.edges p r → m < o.members → member_holds o.uses m p ≡ true → owners r ≡ Some 0
  held_owned p r m own below holds =
      let listed = kept (λ k. member_holds o.uses k p) (numbers_below o.members) m (number_below o.members m below) holds in
      let in_label : Contains (label_of o r) m = subst (λ l. Contains l m) (sym (label_is o live p r own)) listed in
      let within = in_label.1 in
      union.held r (region_of o.edges p r own) (omega (arith, within))

  pub outer_free : (g : ℕ) → IsOuterRegion o.edges g → owners g ≡ Some 0 → ⊥
  outer_free g outer owned = none-some 0 (sym (union.free g (region_of o.edges far_point g (far_region o.edges g outer)) (outer_label o live g outer)) ∙ owned)

  -- ---- the part of a region

  first_owned : (a : ℕ) (way : List ℕ) (b : ℕ) → LeadsWithin o owners 0 a way b → owners a ≡ Some 0
  first_owned a [] b leads = leads.0
  first_owned a (c ∷ way) b leads = leads.0

  module _ (distinct : AreDistinct o.edges) (r : ℕ) (owned : owners r ≡ Some 0) (inside : ℕ → Bool) (is : IsPartOf o owners 0 r inside) where
    abbrev pub passes : HalfEdge → Bool
    passes = (test_exists o distinct inside).0

    pub tells : TellsInside o inside passes
    tells = (test_exists o distinct inside).1

    pub part : IsPartTest o.edges passes
    part = part_test o live.regions inside passes tells owners 0 r is (λ g outer. outer_free g outer)

    -- a half-edge with the region on its left passes
    pub region_passes : (h : HalfEdge) → Contains o.edges h.edge → IsRegionOf o.edges (left h) r → passes h ≡ true
    region_passes h has own =
        let (n, at) = on_left o live.regions inside passes tells h has in
        let same : n ≡ r = one_region o.edges (left h) n r at.own own in
        at.told ∙ ap inside same ∙ (is r).1 ([], (owned, refl))

    -- one that passes has an owned region of the part on its left
    pub passes_owned : (h : HalfEdge) → Contains o.edges h.edge → passes h ≡ true → (n : ℕ) × (IsRegionOf o.edges (left h) n × ((owners n ≡ Some 0) × InOnePart o owners 0 r n))
    passes_owned h has pass =
        let (n, at) = on_left o live.regions inside passes tells h has in
        let in_part = (is n).0 (sym at.told ∙ pass) in
        let back = (part_equivalence o owners 0).back r n in_part in
        (n, (at.own, (first_owned n back.0 r back.1, in_part)))

    -- a region beside one of the part that is owned too is in the part
    beside_in : (a b : ℕ) → AreBeside o a b → InOnePart o owners 0 r a → owners a ≡ Some 0 → owners b ≡ Some 0 → inside b ≡ true
    beside_in a b beside in_part owned_a owned_b = (is b).1 ((part_equivalence o owners 0).on r a b in_part (b ∷ [], (owned_a, beside, (owned_b, refl))))

    -- so a test that is on both sides of an edge owned is one on both sides
    module _ (e : Seg) (has : Contains o.edges e) where
      abbrev k : ℕ
      k = (place_of o.edges e has).0

      at_k : slice_get o.edges k ≡ Some e
      at_k = (place_of o.edges e has).1

      abbrev up : HalfEdge
      up = record { edge = e; forwards = true }

      abbrev down : HalfEdge
      down = record { edge = e; forwards = false }

      own_up : IsRegionOf o.edges (upper e) (region_above o k)
      own_up = live.regions.each (2 * k) _ (half_edge_side o.edges (2 * k) up (forwards_number o.edges k e at_k))

      own_down : IsRegionOf o.edges (lower e) (region_below o k)
      own_down = live.regions.each (2 * k + 1) _ (half_edge_side o.edges (2 * k + 1) down (back_number o.edges k e at_k))

      told_up : passes up ≡ inside (region_above o k)
      told_up = tells.above k e (numbered 0 k k o.edges e (omega arith) at_k)

      told_down : passes down ≡ inside (region_below o k)
      told_down = tells.below k e (numbered 0 k k o.edges e (omega arith) at_k)

      owned_inside : (n : ℕ) → inside n ≡ true → (owners n ≡ Some 0) × InOnePart o owners 0 r n
      owned_inside n told = (let in_part = (is n).0 told in let back = (part_equivalence o owners 0).back r n in_part in (first_owned n back.0 r back.1, in_part))

      pub up_down : (owners (region_above o k) ≡ Some 0 → owners (region_below o k) ≡ Some 0) → passes up ≡ true → passes down ≡ true
      up_down both pass =
          let (owned_a, in_part) = owned_inside (region_above o k) (sym told_up ∙ pass) in
          told_down ∙ beside_in (region_above o k) (region_below o k) (record { edge = k; listed = slice_get_within o.edges k e at_k; sides = inl (refl, refl) }) in_part owned_a (both owned_a)

      pub down_up : (owners (region_below o k) ≡ Some 0 → owners (region_above o k) ≡ Some 0) → passes down ≡ true → passes up ≡ true
      down_up both pass =
          let (owned_b, in_part) = owned_inside (region_below o k) (sym told_down ∙ pass) in
          told_up ∙ beside_in (region_below o k) (region_above o k) (record { edge = k; listed = slice_get_within o.edges k e at_k; sides = inr (refl, refl) }) in_part owned_b (both owned_b)

      pub regions_beside : (a : ℕ) × ((b : ℕ) × ((a ≡ region_above o k) × ((b ≡ region_below o k) × (IsRegionOf o.edges (upper e) a × IsRegionOf o.edges (lower e) b))))
      regions_beside = (region_above o k, (region_below o k, (refl, (refl, (own_up, own_down)))))

-- ---- the boundary of a part by a test on half-edges

-- the ways round edges with the part on one side
abbrev pub ways_of : (HalfEdge → Bool) → List Seg → List (Coord × Coord)
ways_of told es = flat_map (λ e. boundary_way (told (record { edge = e; forwards = true })) (told (record { edge = e; forwards = false })) e) es

pub boundary_is : (o : Overlay) (inside : ℕ → Bool) (told : HalfEdge → Bool) → TellsInside o inside told → boundary o inside ≡ ways_of told o.edges
boundary_is o inside told tells = by 0 o.edges (λ k e has. (tells.above k e has, tells.below k e has))
  where
    by : (n : ℕ) (es : List Seg) → ((k : ℕ) (e : Seg) → Contains (enumerate_from n es) (k, e)
        → (told (record { edge = e; forwards = true }) ≡ inside (region_above o k)) × (told (record { edge = e; forwards = false }) ≡ inside (region_below o k)))
        → flat_map (λ p. boundary_way (inside (region_above o p.0)) (inside (region_below o p.0)) p.1) (enumerate_from n es) ≡ ways_of told es
    by n [] each = refl
    by n (e ∷ es) each =
        let here = each n e (contains_here (n, e) (enumerate_from (n + 1) es)) in
        let rest = by (n + 1) es (λ k f has. each k f (contains_there (n, e) (k, f) (enumerate_from (n + 1) es) has)) in
        λ i. boundary_way (sym here.0 i) (sym here.1 i) e ++ rest i

-- edges with the part on both sides or none have no way
pub ways_filter : (told : HalfEdge → Bool) (test : Seg → Bool) (es : List Seg)
    → ((e : Seg) → Contains es e → test e ≡ false → told (record { edge = e; forwards = true }) ≡ told (record { edge = e; forwards = false }))
    → ways_of told (filter test es) ≡ ways_of told es
ways_filter told test [] each = refl
ways_filter told test (e ∷ es) each =
    by (test e) refl (ways_filter told test es (λ f has. each f (contains_there e f es has)))
  where
    up : Bool
    up = told (record { edge = e; forwards = true })

    down : Bool
    down = told (record { edge = e; forwards = false })

    none : (a b : Bool) → a ≡ b → boundary_way a b e ≡ []
    none true true same = refl
    none false false same = refl
    none true false same = absurd (true≢false same)
    none false true same = absurd (true≢false (sym same))

    by : (b : Bool) → test e ≡ b → ways_of told (filter test es) ≡ ways_of told es
        → ways_of told (cond b (e ∷ filter test es) (filter test es)) ≡ boundary_way up down e ++ ways_of told es
    by true is rest = ap (λ ws. boundary_way up down e ++ ws) rest
    by false is rest = rest ∙ (λ i. sym (none up down (each e (contains_here e es) is)) i ++ ways_of told es)

pub ways_agree : (told others : HalfEdge → Bool) (es : List Seg)
    → ((e : Seg) → Contains es e → (told (record { edge = e; forwards = true }) ≡ others (record { edge = e; forwards = true })) × (told (record { edge = e; forwards = false }) ≡ others (record { edge = e; forwards = false })))
    → ways_of told es ≡ ways_of others es
ways_agree told others [] each = refl
ways_agree told others (e ∷ es) each =
    let here = each e (contains_here e es) in
    let rest = ways_agree told others es (λ f has. each f (contains_there e f es has)) in
    λ i. boundary_way (here.0 i) (here.1 i) e ++ rest i
