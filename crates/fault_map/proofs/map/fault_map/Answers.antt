-- The overlay of the live edges, and the three kinds of features.
use Rattle.std.proofs.Common.{◌≡◌, ◌<◌, ◌++◌, ◌∙◌, [], ap, append_assoc, List, length, subst, arith}
use Rattle.std.specs.Prelude.{All}
use Rattle.cov_types.specs.Uses.{uses_of}
use Rattle.cov_types.specs.declared.edge_use.EdgeUse.{EdgeUse}
use Rattle.cov_types.specs.declared.seg.Seg.{Seg}
use Rattle.sector_laws.specs.Sector.{IsPlanar}
use Rattle.region_laws.proofs.Exists.{regions_exist}
use Rattle.arrangement.specs.Noding.{IsNoded}
use Rattle.arrangement.specs.declared.odd_use.OddUse.{OddUse}
use Rattle.cov_valid.specs.declared.mark.Mark.{Mark}
use Rattle.cov_clean.specs.SnappedEdges.{overlay_of}
use Rattle.cov_clean.proofs.Overlays.{odd_members, snapped_overlay}
use Rattle.fault_text.specs.declared.feature.MapFeature.{MapFeature}
use Rattle.fault_map.specs.FaultMap.{AreAppended, IsMarkFeature}
use Rattle.fault_map.proofs.Overlays.{is_overlay_of}
use Rattle.fault_map.proofs.map.fault_map.Goals as goal

-- features at the end of others, of which there were none at first
in_three : (first second third fourth a b d : List MapFeature) → first ≡ [] → second ≡ first ++ a → third ≡ second ++ b → fourth ≡ third ++ d → fourth ≡ a ++ (b ++ d)
in_three first second third fourth a b d none one two three = three ∙ ap (λ fs. fs ++ d) (two ∙ ap (λ fs. fs ++ b) (one ∙ ap (λ fs. fs ++ a) none)) ∙ append_assoc a b d

pub returns : goal.returns
returns c =
    let edges : List Seg = c.in_ok-noded.noded.edges.items in
    let odd : List OddUse = c.in_ok-noded.noded.odd.items in
    let live : List Seg = c.in_ok-live.live.edges.items in
    let live_odd : List OddUse = c.in_ok-live.live.odd.items in
    let members = length c.args.c.now in
    let list : List EdgeUse = uses_of c.args.c.now in
    let noded : IsNoded list edges odd = subst (λ (us : List EdgeUse). IsNoded us edges odd) (c.deref-3.ensures.value ∙ c.in_ok-uses.ensures.exact) c.in_ok-noded.ensures.exact in
    let all : All (λ u. u.member < members) list = subst (λ (us : List EdgeUse). All (λ u. u.member < members) us) c.in_ok-uses.ensures.exact c.in_ok-uses.ensures.members in
    let planar : IsPlanar live = c.in_ok-live.ensures.planar (record { in_range = c.in_ok-noded.ensures.in_range; noded = c.in_ok-noded.ensures.fully_noded }) in
    let numbering = regions_exist live planar c.in_ok-live.ensures.distinct in
    let are = odd_members list members edges live odd live_odd noded c.in_ok-live.ensures.exact all in
    let overlay = overlay_of live live_odd members numbering.0 in
    let labelled = is_overlay_of c.in_ok-labels.labels live live_odd members numbering.0 c.in_ok-labels.ensures are numbering.1 in
    let marks = subst (λ (us : List EdgeUse). AreAppended (IsMarkFeature us) c.in_ok-marks.marks.items c.new-features.result.items c.append_marks.new.features.items) (c.deref.ensures.value ∙ c.in_ok-uses.ensures.exact)
    (subst (λ (ms : List Mark). AreAppended (IsMarkFeature c.deref.result.now) ms c.new-features.result.items c.append_marks.new.features.items) c.deref-2.ensures.value c.in_ok-append_marks.ensures) in
    let overlaps = c.in_ok-append_overlaps.ensures overlay labelled in
    let gaps = c.in_ok-append_gaps.ensures overlay labelled in
    record {
      marks = c.in_ok-marks.marks.items;
      are_marks = c.in_ok-marks.ensures.exact;
      count = omega (arith, c.len.ensures, c.in_ok-marks.marks.ok.0);
      overlay = overlay;
      is_overlay = snapped_overlay list members edges live odd live_odd noded c.in_ok-live.ensures.exact numbering.0 numbering.1;
      of_marks = marks.more;
      of_overlaps = overlaps.more;
      of_gaps = gaps.more;
      marks_shown = marks.each;
      overlaps_shown = overlaps.shown;
      gaps_shown = gaps.shown;
      all = in_three c.new-features.result.items c.append_marks.new.features.items c.append_overlaps.new.features.items c.append_gaps.new.features.items marks.more overlaps.more gaps.more c.new-features.ensures.items marks.all overlaps.all gaps.all;
    }
