-- The overlay of the live edges, and its rows.
use Rattle.std.proofs.Common.{◌<◌, ◌∙◌, List, length, refl, subst}
use Rattle.std.specs.Prelude.{All}
use Rattle.cov_types.specs.Uses.{uses_of}
use Rattle.cov_types.specs.declared.edge_use.EdgeUse.{EdgeUse}
use Rattle.cov_types.specs.declared.seg.Seg.{Seg}
use Rattle.sector_laws.specs.Sector.{IsPlanar}
use Rattle.region_laws.proofs.Exists.{regions_exist}
use Rattle.arrangement.specs.Noding.{IsNoded}
use Rattle.arrangement.specs.declared.odd_use.OddUse.{OddUse}
use Rattle.cov_clean.specs.SnappedEdges.{overlay_of}
use Rattle.cov_clean.proofs.Overlays.{odd_members, snapped_overlay}
use Rattle.fault_map.proofs.Overlays.{is_overlay_of}
use Rattle.cover_cli.proofs.regions.region_list.Goals as goal

pub returns : goal.returns
returns c =
    let edges : List Seg = c.in_ok-noded.noded.edges.items in
    let odd : List OddUse = c.in_ok-noded.noded.odd.items in
    let live : List Seg = c.in_ok-live.live.edges.items in
    let live_odd : List OddUse = c.in_ok-live.live.odd.items in
    let members = length c.args.c.now in
    let list : List EdgeUse = uses_of c.args.c.now in
    let noded : IsNoded list edges odd = subst (λ (us : List EdgeUse). IsNoded us edges odd) (c.deref.ensures.value ∙ c.in_ok-uses.ensures.exact) c.in_ok-noded.ensures.exact in
    let all : All (λ u. u.member < members) list = subst (λ (us : List EdgeUse). All (λ u. u.member < members) us) c.in_ok-uses.ensures.exact c.in_ok-uses.ensures.members in
    let planar : IsPlanar live = c.in_ok-live.ensures.planar (record { in_range = c.in_ok-noded.ensures.in_range; noded = c.in_ok-noded.ensures.fully_noded }) in
    let numbering = regions_exist live planar c.in_ok-live.ensures.distinct in
    let are = odd_members list members edges live odd live_odd noded c.in_ok-live.ensures.exact all in
    let overlay = overlay_of live live_odd members numbering.0 in
    record {
      done = refl;
      overlay = overlay;
      is_overlay = snapped_overlay list members edges live odd live_odd noded c.in_ok-live.ensures.exact numbering.0 numbering.1;
      rows = c.in_ok-text.ensures overlay (is_overlay_of c.in_ok-labels.labels live live_odd members numbering.0 c.in_ok-labels.ensures are numbering.1);
    }
