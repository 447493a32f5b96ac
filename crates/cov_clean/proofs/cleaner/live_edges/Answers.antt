-- The edges of the snapped members.
use Rattle.std.proofs.Common.{◌<◌, ◌∙◌, List, length, subst}
use Rattle.std.specs.Prelude.{All}
use Rattle.cov_types.specs.Uses.{uses_of, HasEvenEnds}
use Rattle.cov_types.specs.declared.edge_use.EdgeUse.{EdgeUse}
use Rattle.cov_types.specs.declared.seg.Seg.{Seg}
use Rattle.arrangement.specs.Noding.{IsNoded}
use Rattle.arrangement.specs.declared.odd_use.OddUse.{OddUse}
use Rattle.cov_clean.proofs.Overlays.{odd_members, snapped_overlay}
use Rattle.cov_clean.proofs.cleaner.live_edges.Goals as goal

pub returns : goal.returns
returns c =
    let edges : List Seg = c.in_ok-noded.noded.edges.items in
    let odd : List OddUse = c.in_ok-noded.noded.odd.items in
    let live : List Seg = c.in_ok-live.field-0.edges.items in
    let live_odd : List OddUse = c.in_ok-live.field-0.odd.items in
    let members = length c.args.c.now in
    let list : List EdgeUse = uses_of c.args.c.now in
    let noded : IsNoded list edges odd = subst (λ (us : List EdgeUse). IsNoded us edges odd) (c.deref.ensures.value ∙ c.in_ok-uses.ensures.exact) c.in_ok-noded.ensures.exact in
    let all : All (λ u. u.member < members) list = subst (λ (us : List EdgeUse). All (λ u. u.member < members) us) c.in_ok-uses.ensures.exact c.in_ok-uses.ensures.members in
    let even : HasEvenEnds c.deref.result.now = rw c.deref.ensures.value c.in_ok-uses.ensures.even in
    record {
      overlay = λ numbers numbered. snapped_overlay list members edges live odd live_odd noded c.in_ok-live.ensures.exact numbers numbered;
      below = odd_members list members edges live odd live_odd noded c.in_ok-live.ensures.exact all;
      planar = c.in_ok-live.ensures.planar (record { in_range = c.in_ok-noded.ensures.in_range; noded = c.in_ok-noded.ensures.fully_noded });
      distinct = c.in_ok-live.ensures.distinct;
      even = c.in_ok-live.ensures.even (c.in_ok-noded.ensures.even even);
    }
