-- The overlay that the noded and the live edges make, and that the labels are those of.
use Rattle.std.proofs.Common.{◌≡◌, inl, inr, refl, sym, ap, append-nil, subst, ℕ, ◌<◌, ◌==◌, ◌&&◌, ◌∙◌, List, [], ◌∷◌, get_or, arith}
use Rattle.std.specs.Prelude.{All, Contains, length, flat_map, option_to_list}
use Rattle.std.specs.List.{AllZip}
use Rattle.std.proofs.lemmas.Bool.{and_parts}
use Rattle.std.proofs.lemmas.Bool.Decides.{Decides-eqb}
use Rattle.std.proofs.lemmas.List.Elements.{All-contains, Contains-get_or, Contains-append_cases}
use Rattle.cov_types.specs.Coverage.{Members, AllInRange}
use Rattle.cov_types.specs.Uses.{uses_of}
use Rattle.cov_types.specs.declared.coord.Coord.{Coord}
use Rattle.cov_types.specs.declared.edge_use.EdgeUse.{EdgeUse}
use Rattle.cov_types.specs.declared.seg.Seg.{Seg}
use Rattle.cov_types.proofs.AllUses.{uses-in_range}
use Rattle.plane.specs.Snapping.{chain_edges}
use Rattle.plane.specs.Label.{label_at}
use Rattle.plane.specs.Region.{AreRegions, IsOuter, IsOuterRegion}
use Rattle.crossing_laws.specs.Across.{is_same_seg}
use Rattle.crossing_laws.proofs.Lists.{contains_here, contains_there}
use Rattle.arrangement.specs.declared.odd_use.OddUse.{OddUse}
use Rattle.arrangement.specs.Noding.{IsOdd, snapped_uses, AreLiveEdges, IsNoded, odd_uses}
use Rattle.arrangement.specs.Overlay.{Overlay, IsSnappedOverlay, label_of}
use Rattle.arrangement.proofs.OneOverlay.{one_snapped_overlay}
use Rattle.region_laws.proofs.Exists.{regions_exist}
use Rattle.owner_label.proofs.Labelling.{outer_empty}
use Rattle.cov_clean.specs.SnappedEdges.{overlay_of, AreSnappedEdges}
use Rattle.owner_label.specs.Labelled.{Labelled, IsOverlay}
use Rattle.arrangement.proofs.OddUses.{some_passes, live_again_law}
use Rattle.snap_noder.proofs.ParityLemmas.{contains_mapped}

-- ---- members

-- the member of a snapped use has a use
snapped_member : (R : EdgeUse → List Coord → Type 0) (uses : List EdgeUse) (chains : List (List Coord)) → AllZip R uses chains → (v : EdgeUse) → Contains (snapped_uses uses chains) v
    → (u : EdgeUse) × (Contains uses u × (u.member ≡ v.member))
snapped_member R [] [] each v (k, within, is) = absurd (omega arith)
snapped_member R [] (c ∷ chains) each v h = absurd each
snapped_member R (u ∷ uses) [] each v h = absurd each
snapped_member R (u ∷ uses) (c ∷ chains) each v h =
    elim (Contains-append_cases _ (snapped_uses uses chains) v h) [
      | inl here ↦ (let e = contains_mapped (λ (s : Seg). record { member = u.member; seg = s }) (chain_edges c) v here in
          (u, (contains_here u uses, ap (λ (w : EdgeUse). w.member) e.1.1)))
      | inr later ↦ (let rest = snapped_member R uses chains each.1 v later in (rest.0, (contains_there u rest.0 uses rest.1.0, rest.1.1)))
    ]

-- a member with an odd edge has a use
odd_member : (snapped : List EdgeUse) (member : ℕ) (e : Seg) → IsOdd snapped member e → (v : EdgeUse) × (Contains snapped v × (v.member ≡ member))
odd_member snapped member e is_odd =
    let found = some_passes (λ u. (u.member == member) && is_same_seg e u.seg) snapped is_odd in
    (found.0, (found.1.0, (Decides-eqb (found.0).member member).0 (and_parts _ _ found.1.1).0))

-- ---- the overlay

module _ (uses : List EdgeUse) (members : ℕ) (edges live : List Seg) (odd live_odd : List OddUse) (noded : IsNoded uses edges odd) (are_live : AreLiveEdges (odd_uses edges odd) live live_odd) where
  of_snapped : AreLiveEdges noded.snapped live live_odd
  of_snapped = live_again_law noded.snapped edges odd noded.are_edges live live_odd are_live

  -- the members of the odd pairs are members
  pub odd_members : All (λ u. u.member < members) uses → All (λ o. o.member < members) live_odd
  odd_members all k d within =
      let o = get_or live_odd k d in
      let e = (of_snapped.pairs.exact o).0 (Contains-get_or live_odd k d within) in
      let v = odd_member noded.snapped o.member e.0 e.1.1 in
      let are = noded.are_snapped in
      let u = snapped_member _ uses are.chains are.are_chains v.0 (subst (λ (us : List EdgeUse). Contains us v.0) are.made v.1.0) in
      subst (λ m. m < members) (u.1.1 ∙ v.1.1) (All-contains (λ (w : EdgeUse). w.member < members) uses u.0 all u.1.0)

  pub snapped_overlay : (numbers : List ℕ) → AreRegions live numbers → IsSnappedOverlay uses members (overlay_of live live_odd members numbers)
  snapped_overlay numbers numbered = record {
    snapped = noded.snapped;
    are_snapped = noded.are_snapped;
    overlay = record { odd = live_odd; live = of_snapped; by_odd = refl; count = refl; numbered = numbered };
  }

-- ---- of a coverage

module _ (members : Members) (in_range : AllInRange members) (edges : List Seg) (odd : List OddUse) (are : AreSnappedEdges members edges odd) where
  pub snapped_one : (o : Overlay) × (IsSnappedOverlay (uses_of members) (length members) o × (o.edges ≡ edges))
  snapped_one =
      let (numbers, regions) = regions_exist edges are.planar are.distinct in
      (overlay_of edges odd (length members) numbers, (are.overlay numbers regions, refl))

  -- the overlay of the coverage is one of the labels
  pub snapped_labels : (l : Labelled) → l ≡ record { edges = edges; odd = odd } → (o : Overlay) → IsSnappedOverlay (uses_of members) (length members) o → IsOverlay l o
  snapped_labels l same o is =
      let (numbers, regions) = regions_exist edges are.planar are.distinct in
      let first = overlay_of edges odd (length members) numbers in
      let whole : IsOverlay (record { edges = edges; odd = odd }) first = record { edges = refl; uses = refl; members = are.below; numbered = regions } in
      let one = one_snapped_overlay (uses_of members) (uses-in_range members in_range) (length members) first o (are.overlay numbers regions) is in
      subst (λ (k : Labelled). IsOverlay k o) (sym same) (subst (λ (q : Overlay). IsOverlay (record { edges = edges; odd = odd }) q) one whole)

  -- no member holds the outer region
  pub snapped_outer : (o : Overlay) → IsSnappedOverlay (uses_of members) (length members) o → (n : ℕ) → IsOuterRegion o.edges n → label_of o n ≡ []
  snapped_outer o is n outer =
      let of = snapped_labels (record { edges = edges; odd = odd }) refl o is in
      let free : label_at (odd_uses edges odd) o.members outer.outer.at ≡ [] =
      outer_empty edges odd are.planar are.even o.members outer.outer.at (subst (λ (es : List Seg). IsOuter es outer.outer.at) of.edges outer.outer.outer) in
      ap (λ found. flat_map (label_at o.uses o.members) (option_to_list found)) outer.outer.side
      ∙ append-nil (label_at o.uses o.members outer.outer.at) ∙ ap (λ us. label_at us o.members outer.outer.at) of.uses ∙ free
