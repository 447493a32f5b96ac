-- A part of an owner is a part for half-edges: a test that is the same at joined side points, false outside, and connected.
use mathlib.Core.List.{[], ◌∷◌}
use Rattle.std.proofs.Common.{◌≡◌, refl, sym, ◌∙◌, ap, subst, ℕ, zero, suc, ◌+◌, ◌*◌, ◌<◌, Bool, true, false, List, length, Option, Some, inl, inr, arith}
use Rattle.std.specs.Prelude.{Contains, slice_get}
use Rattle.std.specs.List.{enumerate_from}
use Rattle.std.proofs.lemmas.Bool.{false_from_ne_true}
use Rattle.std.proofs.lemmas.Option.{none-some, same_Some}
use Rattle.cov_types.specs.declared.seg.Seg.{Seg}
use Rattle.plane.specs.Joined.{Joined}
use Rattle.plane.specs.Point.{Point}
use Rattle.plane.specs.Region.{far_point, IsOuter, IsOuterRegion, IsRegionOf, AreRegions}
use Rattle.crossing_laws.proofs.Lists.{contains_here, contains_there}
use Rattle.crossing_laws.proofs.Located.{one_region, region-joined, same_region}
use Rattle.crossing_laws.proofs.Ways.{joined-sym, joined-trans}
use Rattle.sector_laws.specs.Sector.{HalfEdge, left, twin}
use Rattle.sector_laws.proofs.Numbers.{half_edge_side, half_edge_among, forwards_number, back_number}
use Rattle.region_laws.proofs.Balance.{first_or_later}
use Rattle.arrangement.specs.Overlay.{Overlay, region_above, region_below, AreBeside}
use Rattle.shell_laws.specs.Part.{LeadsAcross, IsPartTest}
use Rattle.sound_polygons.specs.Parts.{LeadsWithin, InOnePart, IsPartOf}
use Rattle.sound_polygons.proofs.SameParts.{part_equivalence}
use Rattle.part_polygons.specs.Inside.{TellsInside}

-- ---- places of edges

place_of : (es : List Seg) (e : Seg) → Contains es e → (k : ℕ) × (slice_get es k ≡ Some e)
place_of [] e has = absurd (omega (arith, has.1))
place_of (x ∷ xs) e has = elim (first_or_later x xs e has) [
  | inl here ↦ (0, ap (λ (s : Seg). Some s) here)
  | inr later ↦ (let rest = place_of xs e later in (suc rest.0, rest.1))
]

edge_at : (es : List Seg) (k : ℕ) → k < length es → (e : Seg) × (slice_get es k ≡ Some e)
edge_at [] k within = absurd (omega arith)
edge_at (x ∷ xs) zero within = (x, refl)
edge_at (x ∷ xs) (suc k) within = edge_at xs k (omega arith)

numbered : (n k j : ℕ) (es : List Seg) (e : Seg) → k ≡ n + j → slice_get es j ≡ Some e → Contains (enumerate_from n es) (k, e)
numbered n k j [] e is at = absurd (none-some e at)
numbered n k zero (x ∷ xs) e is at =
    let here : n ≡ k = omega (arith, is) in
    subst (λ p. Contains ((n, x) ∷ enumerate_from (n + 1) xs) p) (λ i. (here i, same_Some _ _ at i)) (contains_here (n, x) (enumerate_from (n + 1) xs))
numbered n k (suc j) (x ∷ xs) e is at = contains_there (n, x) (k, e) (enumerate_from (n + 1) xs) (numbered (n + 1) k j xs e (omega (arith, is)) at)

-- ---- the region on the left of a half-edge

module _ (o : Overlay) (regions : AreRegions o.edges o.numbers) (inside : ℕ → Bool) (passes : HalfEdge → Bool) (tells : TellsInside o inside passes) where
  -- n is the region on its left, and tells whether it passes
  pub record IsLeftOf (h : HalfEdge) (n : ℕ) : Type 0 where
    pub own : IsRegionOf o.edges (left h) n
    pub told : passes h ≡ inside n

  above : (k : ℕ) (e : Seg) → slice_get o.edges k ≡ Some e → IsLeftOf (record { edge = e; forwards = true }) (region_above o k)
  above k e at = record {
    own = regions.each (2 * k) _ (half_edge_side o.edges (2 * k) (record { edge = e; forwards = true }) (forwards_number o.edges k e at));
    told = tells.above k e (numbered 0 k k o.edges e (omega arith) at);
  }

  below : (k : ℕ) (e : Seg) → slice_get o.edges k ≡ Some e → IsLeftOf (record { edge = e; forwards = false }) (region_below o k)
  below k e at = record {
    own = regions.each (2 * k + 1) _ (half_edge_side o.edges (2 * k + 1) (record { edge = e; forwards = false }) (back_number o.edges k e at));
    told = tells.below k e (numbered 0 k k o.edges e (omega arith) at);
  }

  pub on_left : (h : HalfEdge) → Contains o.edges h.edge → (n : ℕ) × IsLeftOf h n
  on_left h has = let place = place_of o.edges h.edge has in by h.edge h.forwards place.0 place.1
    where
      by : (e : Seg) (b : Bool) (k : ℕ) → slice_get o.edges k ≡ Some e → (n : ℕ) × IsLeftOf (record { edge = e; forwards = b }) n
      by e true k at = (region_above o k, above k e at)
      by e false k at = (region_below o k, below k e at)

  listed : (k : ℕ) (e : Seg) → slice_get o.edges k ≡ Some e → Contains o.edges e
  listed k e at = half_edge_among o.edges (2 * k) (record { edge = e; forwards = true }) (forwards_number o.edges k e at)

  same : (h g : HalfEdge) → Contains o.edges h.edge → Contains o.edges g.edge → Joined o.edges (left h) (left g) → passes h ≡ passes g
  same h g in_h in_g j =
      let a = on_left h in_h in
      let b = on_left g in_g in
      a.1.told ∙ ap inside (one_region o.edges (left g) a.0 b.0 (region-joined o.edges (left h) (left g) a.0 j a.1.own) b.1.own) ∙ sym b.1.told

  outer_is : (p : Point) (n : ℕ) → IsRegionOf o.edges p n → IsOuter o.edges p → IsOuterRegion o.edges n
  outer_is p n own out = record {
    outer = record { at = own.joined.at; side = own.joined.side; outer = joined-trans o.edges own.joined.at p far_point (joined-sym o.edges p own.joined.at own.joined.joined) out };
    least = λ m other. own.least m (record { at = other.at; side = other.side; joined = joined-trans o.edges p far_point other.at out (joined-sym o.edges other.at far_point other.outer) });
  }

  -- ---- the part of the region r

  module _ (owners : ℕ → Option ℕ) (i r : ℕ) (is : IsPartOf o owners i r inside) where
    last_owned : (a : ℕ) (way : List ℕ) (b : ℕ) → LeadsWithin o owners i a way b → owners b ≡ Some i
    last_owned a [] b leads = subst (λ n. owners n ≡ Some i) leads.1 leads.0
    last_owned a (c ∷ way) b leads = last_owned c way b leads.2

    first_owned : (a : ℕ) (way : List ℕ) (b : ℕ) → LeadsWithin o owners i a way b → owners a ≡ Some i
    first_owned a [] b leads = leads.0
    first_owned a (c ∷ way) b leads = leads.0

    outside : ((g : ℕ) → IsOuterRegion o.edges g → owners g ≡ Some i → ⊥) → (h : HalfEdge) → Contains o.edges h.edge → IsOuter o.edges (left h) → passes h ≡ false
    outside free h has out =
        let n = on_left h has in
        false_from_ne_true (passes h) (λ pass. (
        let way = (is n.0).0 (sym n.1.told ∙ pass) in
        free n.0 (outer_is (left h) n.0 n.1.own out) (last_owned r way.0 n.0 way.1)))

    -- a half-edge along the edge beside two regions, with the first on its left
    record IsAcross (a c : ℕ) (m : HalfEdge) : Type 0 where
      has : Contains o.edges m.edge
      here : IsLeftOf m a
      there : IsLeftOf (twin m) c

    across : (a c : ℕ) → AreBeside o a c → (m : HalfEdge) × IsAcross a c m
    across a c beside =
        let found = edge_at o.edges beside.edge beside.listed in
        let e = found.0 in
        let k = beside.edge in
        elim beside.sides [
          | inl up ↦ (
            record { edge = e; forwards = true },
            record {
              has = listed k e found.1;
              here = subst (IsLeftOf (record { edge = e; forwards = true })) up.0 (above k e found.1);
              there = subst (IsLeftOf (record { edge = e; forwards = false })) up.1 (below k e found.1);
            },
          )
          | inr down ↦ (
            record { edge = e; forwards = false },
            record {
              has = listed k e found.1;
              here = subst (IsLeftOf (record { edge = e; forwards = false })) down.1 (below k e found.1);
              there = subst (IsLeftOf (record { edge = e; forwards = true })) down.0 (above k e found.1);
            },
          )
        ]

    leads : (x g : HalfEdge) (a : ℕ) (way : List ℕ) (b : ℕ) → IsLeftOf x a → IsLeftOf g b → InOnePart o owners i r a → LeadsWithin o owners i a way b → (ks : List HalfEdge) × LeadsAcross o.edges passes x ks g
    leads x g a [] b on_x on_g in_a within = ([], same_region o.edges (left x) (left g) b (subst (IsRegionOf o.edges (left x)) within.1 on_x.own) on_g.own)
    leads x g a (c ∷ way) b on_x on_g in_a within =
        let found = across a c within.1 in
        let m = found.0 in
        let step : InOnePart o owners i a c = (c ∷ [], (within.0, within.1, (first_owned c way b within.2, refl))) in
        let in_c = (part_equivalence o owners i).on r a c in_a step in
        let rest = leads (twin m) g c way b found.1.there on_g in_c within.2 in (
          m ∷ rest.0,
          (same_region o.edges (left x) (left m) a on_x.own found.1.here.own, found.1.has, found.1.here.told ∙ (is a).1 in_a, found.1.there.told ∙ (is c).1 in_c, rest.1),
        )

    connected : (h g : HalfEdge) → Contains o.edges h.edge → Contains o.edges g.edge → passes h ≡ true → passes g ≡ true → (way : List HalfEdge) × LeadsAcross o.edges passes h way g
    connected h g in_h in_g pass_h pass_g =
        let a = on_left h in_h in
        let b = on_left g in_g in
        let to_a = (is a.0).0 (sym a.1.told ∙ pass_h) in
        let to_b = (is b.0).0 (sym b.1.told ∙ pass_g) in
        let equivalence = part_equivalence o owners i in
        let on = equivalence.on a.0 r b.0 (equivalence.back r a.0 to_a) to_b in
        leads h g a.0 on.0 b.0 a.1 b.1 to_a on.1

    pub part_test : ((g : ℕ) → IsOuterRegion o.edges g → owners g ≡ Some i → ⊥) → IsPartTest o.edges passes
    part_test free = record { same = same; outside = outside free; connected = connected }
