-- The edges of a snapped overlay are in range and meet in ends alone.
use mathlib.Core.List.{[], ◌∷◌}
use Rattle.std.proofs.Common.{◌≡◌, inl, inr, refl, ap, subst, zero, suc, List, ◌++◌, map, get_or, arith}
use Rattle.std.specs.Prelude.{All, Contains}
use Rattle.std.specs.List.{AllZip}
use Rattle.std.proofs.lemmas.List.Elements.{All-contains, All-map, Contains-get_or, Contains-append_cases}
use Rattle.cov_types.specs.declared.coord.Coord.{Coord}
use Rattle.cov_types.specs.declared.edge_use.EdgeUse.{EdgeUse}
use Rattle.cov_types.specs.declared.seg.Seg.{Seg}
use Rattle.cov_types.specs.Range.{IsSegInRange}
use Rattle.plane.specs.Snapping.{IsChain, chain_edges}
use Rattle.plane.proofs.Sweeps.{rises-in_range}
use Rattle.crossing_laws.proofs.Lists.{contains_here, contains_there, contains-map}
use Rattle.rounding_laws.specs.Laws.{IsNodedEdge}
use Rattle.rounding_laws.proofs.Edges.{edge_in_range, chain_edge}
use Rattle.rounding_laws.proofs.Noded.{list_fully_noded}
use Rattle.sector_laws.specs.Sector.{IsPlanar}
use Rattle.arrangement.specs.Noding.{segments, snapped_uses}
use Rattle.arrangement.specs.Overlay.{Overlay, IsSnappedOverlay}
use Rattle.arrangement.proofs.OddUses.{odd_used}

-- ---- a snapped edge is one of the chain of a use

record IsOfChain (segs : List Seg) (uses : List EdgeUse) (e : Seg) : Type 0 where
  of : EdgeUse
  listed : Contains uses of
  chain : List Coord
  is_chain : IsChain segs of.seg chain
  edge : Contains (chain_edges chain) e

-- the uses of one chain have its edges
in_map : (m : _) (edges : List Seg) (e : Seg) → Contains (segments (map (λ f. record { member = m; seg = f }) edges)) e → Contains edges e
in_map m [] e (k, inside, is) = absurd (omega arith)
in_map m (f ∷ edges) e (zero, inside, is) = (0, omega arith, is)
in_map m (f ∷ edges) e (suc k, inside, is) = contains_there f e edges (in_map m edges e (k, omega arith, is))

segments_append : (us vs : List EdgeUse) → segments (us ++ vs) ≡ segments us ++ segments vs
segments_append [] vs = refl
segments_append (u ∷ us) vs = ap (λ ss. u.seg ∷ ss) (segments_append us vs)

of_chain : (segs : List Seg) (uses : List EdgeUse) (chains : List (List Coord)) → AllZip (λ u chain. IsChain segs u.seg chain) uses chains → (e : Seg) → Contains (segments (snapped_uses uses chains)) e → IsOfChain segs uses e
of_chain segs [] chains each e (k, inside, is) = absurd (omega arith)
of_chain segs (u ∷ uses) [] each e h = absurd each
of_chain segs (u ∷ uses) (c ∷ chains) each e h =
    elim (Contains-append_cases (segments (map (λ f. record { member = u.member; seg = f }) (chain_edges c))) (segments (snapped_uses uses chains)) e
    (subst (λ ss. Contains ss e) (segments_append (map (λ f. record { member = u.member; seg = f }) (chain_edges c)) (snapped_uses uses chains)) h)) [
      | inl here ↦ record { of = u; listed = contains_here u uses; chain = c; is_chain = each.0; edge = in_map u.member (chain_edges c) e here }
      | inr later ↦ (
          let rest = of_chain segs uses chains each.1 e later in
          record { of = rest.of; listed = contains_there u rest.of uses rest.listed; chain = rest.chain; is_chain = rest.is_chain; edge = rest.edge })
    ]

module _ (uses : List EdgeUse) (in_range : All (λ u. IsSegInRange u.seg) uses) (members : _) (o : Overlay) (h : IsSnappedOverlay uses members o) where
  segs_in_range : All IsSegInRange (segments uses)
  segs_in_range = All-map IsSegInRange (λ (u : EdgeUse). u.seg) uses in_range

  from_chain : (e : Seg) → Contains o.edges e → IsOfChain (segments uses) uses e
  from_chain e has =
      let odd = (h.overlay.live.exact e).0 has in
      of_chain (segments uses) uses h.are_snapped.chains h.are_snapped.are_chains e (subst (λ us. Contains (segments us) e) h.are_snapped.made (odd_used h.snapped odd.0 e odd.1))

  noded_edge : (e : Seg) → Contains o.edges e → IsNodedEdge (segments uses) e
  noded_edge e has =
      let c = from_chain e has in
      (c.of.seg, (c.chain, (contains-map (λ (u : EdgeUse). u.seg) uses c.of c.listed, c.is_chain, c.edge)))

  in_range_too : (e : Seg) → Contains o.edges e → IsSegInRange e
  in_range_too e has =
      let c = from_chain e has in
      let range = All-contains (λ (u : EdgeUse). IsSegInRange u.seg) uses c.of in_range c.listed in
      edge_in_range (segments uses) c.of.seg e range (chain_edge (segments uses) c.of.seg c.chain e (rises-in_range c.of.seg range) c.is_chain c.edge)

  pub snapped_planar : IsPlanar o.edges
  snapped_planar = record {
    in_range = λ k d within. in_range_too (get_or o.edges k d) (Contains-get_or o.edges k d within);
    noded = list_fully_noded (segments uses) segs_in_range o.edges (λ k d within. noded_edge (get_or o.edges k d) (Contains-get_or o.edges k d within));
  }
