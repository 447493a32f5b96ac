-- The segments of a coverage without faults meet in ends alone, and the marks are those beside narrow gaps.
use Rattle.std.proofs.Common.{◌≡◌, ◌∙◌, sym, subst, ℕ, List, length}
use Rattle.std.specs.Prelude.{All, Contains, ◌↔◌}
use Rattle.std.proofs.lemmas.Result.{IfOk-weaker}
use Rattle.cov_types.proofs.AllUses.{uses-in_range, uses-members}
use Rattle.cov_types.proofs.EvenEnds.{even-ends}
use Rattle.cov_types.specs.Range.{IsSegInRange}
use Rattle.cov_types.specs.Uses.{uses_of, HasEvenEnds}
use Rattle.cov_types.specs.declared.edge_use.EdgeUse.{EdgeUse}
use Rattle.cov_types.specs.declared.seg.Seg.{Seg}
use Rattle.plane.specs.Region.{AreRegions}
use Rattle.plane.specs.Validity.{IsValid}
use Rattle.arrangement.specs.Noding.{AreLiveEdges}
use Rattle.cov_admit.proofs.Admitted.{faultless_valid}
use Rattle.cov_valid.specs.Marks.{AreMarksBy}
use Rattle.cov_marks.specs.Beside.{IsBesideAny, IsUseOf}
use Rattle.cov_marks.proofs.GapMarks.{gap_marks}
use Rattle.cov_marks.proofs.marking.gap_marks.Goals as goal

pub live_edges-requires-clause-in_range : goal.live_edges-requires-clause-in_range
live_edges-requires-clause-in_range c =
    subst (λ (us : List EdgeUse). All (λ u. IsSegInRange u.seg) us) (sym (c.deref.ensures.value ∙ c.in_ok-uses.ensures.exact)) (uses-in_range c.args.c.now c.requires.in_range)

pub live_edges-requires-clause-valid : goal.live_edges-requires-clause-valid
live_edges-requires-clause-valid c =
    subst (λ (us : List EdgeUse). IsValid us) (sym (c.deref.ensures.value ∙ c.in_ok-uses.ensures.exact))
    (faultless_valid (uses_of c.args.c.now) (uses-in_range c.args.c.now c.requires.in_range) (even-ends c.args.c.now) c.requires.faultless)

pub live_edges-requires-clause-even : goal.live_edges-requires-clause-even
live_edges-requires-clause-even c = subst (λ (us : List EdgeUse). HasEvenEnds us) (sym (c.deref.ensures.value ∙ c.in_ok-uses.ensures.exact)) (even-ends c.args.c.now)

pub returns : goal.returns
returns c =
    let list : List EdgeUse = uses_of c.args.c.now in
    let edges : List Seg = c.in_ok-live.live.edges.items in
    let gaps : List ℕ = c.in_ok-gaps.gaps.items in
    let segs : List Seg = c.in_ok-beside.beside.items in
    let live : AreLiveEdges list edges c.in_ok-live.live.odd.items = subst (λ (us : List EdgeUse). AreLiveEdges us edges c.in_ok-live.live.odd.items) (c.deref.ensures.value ∙ c.in_ok-uses.ensures.exact) c.in_ok-live.ensures.exact in
    let between : c.edges.result.now ≡ edges = c.edges.ensures.edges ∙ c.in_ok-arena.ensures ∙ c.in_ok-to_vec.ensures.items_if_clones_equal (λ x y e. e) ∙ c.deref-2.ensures.value in
    let beside : (numbers : List ℕ) → AreRegions edges numbers → (s : Seg) → Contains segs s ↔ IsBesideAny edges numbers gaps s =
    subst (λ (rs : List ℕ). (numbers : List ℕ) → AreRegions edges numbers → (s : Seg) → Contains segs s ↔ IsBesideAny edges numbers rs s) c.deref-3.ensures.value
    (subst (λ (es : List Seg). (numbers : List ℕ) → AreRegions es numbers → (s : Seg) → Contains segs s ↔ IsBesideAny es numbers c.deref-3.result.now s) between c.in_ok-beside.ensures.exact) in
    IfOk-weaker c.marks_of_segments.result _ _ (λ v are. gap_marks list (length c.args.c.now) (uses-members c.args.c.now) edges c.in_ok-live.live.odd.items live c.in_ok-live.ensures.planar c.in_ok-live.ensures.distinct
    c.in_ok-labels.labels c.in_ok-labels.ensures c.args.gap gaps c.in_ok-gaps.ensures.exact segs beside c.requires.faultless v.items
    (subst (λ (us : List EdgeUse). AreMarksBy (IsUseOf segs) us v.items) (c.deref-4.ensures.value ∙ c.in_ok-uses.ensures.exact)
    (subst (λ (ss : List Seg). AreMarksBy (IsUseOf ss) c.deref-4.result.now v.items) c.deref-5.ensures.value are))) c.marks_of_segments.ensures
