-- The segments of a valid coverage meet in ends alone, and so does the rim.
use Rattle.std.proofs.Common.{◌≡◌, ◌∙◌, sym, subst, length, List, IsPermutation, IsSorted}
use Rattle.cov_types.specs.Seg.{seg_cmp}
use Rattle.cov_types.specs.Uses.{uses_of}
use Rattle.cov_types.proofs.AllUses.{uses-members, uses-in_range}
use Rattle.cov_types.proofs.EvenEnds.{even-ends}
use Rattle.cov_types.specs.declared.edge_use.EdgeUse.{EdgeUse}
use Rattle.cov_types.specs.declared.seg.Seg.{Seg}
use Rattle.arrangement.specs.declared.odd_use.OddUse.{OddUse}
use Rattle.arrangement.specs.Noding.{segments}
use Rattle.cov_admit.proofs.Segments.{noded_by_uses}
use Rattle.cleaned_laws.proofs.Cleaned.{ascending_distinct}
use Rattle.cov_union.specs.Rim.{AreFirstPairs}
use Rattle.cov_union.proofs.Merged.{merged_even}
use Rattle.cov_union.proofs.RimEdges.{rim_live, rim_odd_up, rim_places, rim_used, rim_planar, rim_even}
use Rattle.cov_union.proofs.rim.rim_of.Goals as goal

pub odd_segments-requires : goal.odd_segments-requires
odd_segments-requires c = subst (IsSorted seg_cmp) (sym c.as_slice.ensures.value) c.in_ok-sorted.ensures.sorted

pub invariant_of-result : goal.invariant_of-result
invariant_of-result c =
    let uses : List EdgeUse = uses_of c.args.c.now in
    let edges : List Seg = c.in_ok-edges.edges.items in
    let shown : List Seg = c.as_slice.result.now in
    let odd : List OddUse = c.in_ok-odd.odd.items in
    let same : IsPermutation (segments uses) shown = subst (IsPermutation (segments uses)) (sym c.as_slice.ensures.value) c.in_ok-sorted.ensures.same in
    let pairs : AreFirstPairs (length edges) odd = subst (λ n. AreFirstPairs n odd) (c.len.ensures ∙ c.in_ok-edges.edges.ok.0) c.in_ok-odd.ensures in
    record {
      ascending = c.in_ok-edges.ensures.ascending;
      odd_ascending = rim_odd_up uses shown edges odd same c.in_ok-edges.ensures.exact c.in_ok-edges.ensures.ascending pairs;
      places = rim_places uses shown edges odd same c.in_ok-edges.ensures.exact c.in_ok-edges.ensures.ascending pairs;
      used = rim_used uses shown edges odd same c.in_ok-edges.ensures.exact c.in_ok-edges.ensures.ascending pairs;
    }

pub returns-clause-exact : goal.returns-clause-exact
returns-clause-exact c =
    let uses : List EdgeUse = uses_of c.args.c.now in
    let edges : List Seg = c.in_ok-edges.edges.items in
    let shown : List Seg = c.as_slice.result.now in
    let odd : List OddUse = c.in_ok-odd.odd.items in
    let same : IsPermutation (segments uses) shown = subst (IsPermutation (segments uses)) (sym c.as_slice.ensures.value) c.in_ok-sorted.ensures.same in
    let pairs : AreFirstPairs (length edges) odd = subst (λ n. AreFirstPairs n odd) (c.len.ensures ∙ c.in_ok-edges.edges.ok.0) c.in_ok-odd.ensures in
    rim_live uses shown edges odd same c.in_ok-edges.ensures.exact c.in_ok-edges.ensures.ascending pairs

pub returns-clause-planar : goal.returns-clause-planar
returns-clause-planar c =
    let uses : List EdgeUse = uses_of c.args.c.now in
    let edges : List Seg = c.in_ok-edges.edges.items in
    let shown : List Seg = c.as_slice.result.now in
    let odd : List OddUse = c.in_ok-odd.odd.items in
    let same : IsPermutation (segments uses) shown = subst (IsPermutation (segments uses)) (sym c.as_slice.ensures.value) c.in_ok-sorted.ensures.same in
    let pairs : AreFirstPairs (length edges) odd = subst (λ n. AreFirstPairs n odd) (c.len.ensures ∙ c.in_ok-edges.edges.ok.0) c.in_ok-odd.ensures in
    rim_planar uses shown edges odd same c.in_ok-edges.ensures.exact c.in_ok-edges.ensures.ascending pairs (uses-in_range c.args.c.now c.requires.in_range) (noded_by_uses uses c.requires.valid.ends)

pub returns-clause-distinct : goal.returns-clause-distinct
returns-clause-distinct c = ascending_distinct c.in_ok-edges.edges.items c.in_ok-edges.ensures.ascending

pub returns-clause-even : goal.returns-clause-even
returns-clause-even c =
    let uses : List EdgeUse = uses_of c.args.c.now in
    let edges : List Seg = c.in_ok-edges.edges.items in
    let shown : List Seg = c.as_slice.result.now in
    let odd : List OddUse = c.in_ok-odd.odd.items in
    let same : IsPermutation (segments uses) shown = subst (IsPermutation (segments uses)) (sym c.as_slice.ensures.value) c.in_ok-sorted.ensures.same in
    let pairs : AreFirstPairs (length edges) odd = subst (λ n. AreFirstPairs n odd) (c.len.ensures ∙ c.in_ok-edges.edges.ok.0) c.in_ok-odd.ensures in
    rim_even uses shown edges odd same c.in_ok-edges.ensures.exact c.in_ok-edges.ensures.ascending pairs (merged_even (length c.args.c.now) uses (uses-members c.args.c.now) (even-ends c.args.c.now))
