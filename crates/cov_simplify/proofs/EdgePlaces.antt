-- The segments of a valid coverage, and their places.
use mathlib.Core.List.{[], ◌∷◌}
use Rattle.std.proofs.Common.{◌≡◌, refl, sym, ◌∙◌, ap, subst, ℕ, zero, suc, ◌+◌, ◌<◌, ◌≤◌, ◌==◌, eqb, Bool, true, false, List, length, get_or, IsTrue, Some, inl, inr, arith}
use Rattle.std.specs.Prelude.{Contains, slice_get}
use Rattle.std.specs.List.{list_any}
use Rattle.std.specs.List.Sorted.{IsPartitionedBy, IsPartitionPoint}
use Rattle.std.specs.Ordering.{is_lt}
use Rattle.std.proofs.lemmas.Bool.{cases_order, true≢false, eq-eqb}
use Rattle.std.proofs.lemmas.Map.Keys.{any_passes_from_place}
use Rattle.std.proofs.lemmas.Option.{slice_get_within, slice_get-get_or, get_or_from_slice_get}
use Rattle.cov_types.specs.declared.edge_use.EdgeUse.{EdgeUse}
use Rattle.cov_types.specs.declared.seg.Seg.{Seg}
use Rattle.cov_types.specs.Seg.{is_seg_before, seg_cmp}
use Rattle.cov_types.proofs.SegOrder.{is_lt-seg_cmp, is_seg_before-irrefl, is_seg_before-trans}
use Rattle.plane.specs.Validity.{IsValid}
use Rattle.arrangement.specs.declared.odd_use.OddUse.{OddUse}
use Rattle.arrangement.specs.Noding.{IsAscending, AreEdges}
use Rattle.arrangement.proofs.ValidLive.{valid_live}
use Rattle.snap_noder.specs.Places.{AreAllUsed}

-- ---- places

module _ (edges : List Seg) (up : IsAscending edges) (e : Seg) where
  abbrev pub is_earlier : Seg → Bool
  is_earlier s = is_lt (seg_cmp s e)

  pub partitioned : IsPartitionedBy is_earlier edges
  partitioned i j d le within h = elim (cases_order i j) [
    | inl same ↦ ap (λ k. is_earlier (get_or edges k d)) same ∙ h
    | inr rest ↦ elim rest [
      | inl less ↦ is_lt-seg_cmp (get_or edges i d) e ∙ is_seg_before-trans (get_or edges i d) (get_or edges j d) e (up i j d less within) (sym (is_lt-seg_cmp (get_or edges j d) e) ∙ h)
      | inr more ↦ absurd (omega arith)
    ]
  ]

  pub place_is : Contains edges e → (r : ℕ) → IsPartitionPoint (λ s. is_earlier s ≡ true) (λ s. is_earlier s ≡ false) edges r → slice_get edges r ≡ Some e
  place_is (k, inside, is) r point =
      let at : slice_get edges k ≡ Some e = slice_get-get_or edges k e inside ∙ ap Some is in
      elim (cases_order r k) [
        | inl same ↦ ap (slice_get edges) same ∙ at
        | inr rest ↦ elim rest [
          | inl less ↦ absurd (true≢false (sym (is_lt-seg_cmp (get_or edges r e) e ∙ subst (λ s. IsTrue (is_seg_before (get_or edges r e) s)) is (up r k e less inside)) ∙ point.1 r e (omega arith) (omega arith)))
          | inr more ↦ absurd (true≢false (sym (point.0 k e (omega arith) more) ∙ ap is_earlier is ∙ is_lt-seg_cmp e e ∙ is_seg_before-irrefl e))
        ]
      ]

-- ---- each segment is one that some member has an odd number of times

pub all_used : (uses : List EdgeUse) → IsValid uses → (edges : List Seg) (odd : List OddUse) → AreEdges uses edges odd → AreAllUsed edges odd
all_used uses valid edges odd h k inside = by (some_at edges k inside)
  where
    some_at : (es : List Seg) (k : ℕ) → k < length es → (e : Seg) × (slice_get es k ≡ Some e)
    some_at [] k inside = absurd (omega arith)
    some_at (e ∷ es) zero inside = (e, refl)
    some_at (e ∷ es) (suc k) inside = some_at es k (omega arith)

    by : (e : Seg) × (slice_get edges k ≡ Some e) → IsTrue (list_any (λ o. o.edge == k) odd)
    by (e, at) =
        let live = valid_live uses valid edges odd h in
        let among : Contains edges e = (k, slice_get_within edges k e at, get_or_from_slice_get edges k e e at) in
        let (member, is_odd) = (live.exact e).0 among in
        let o : OddUse = record { member = member; edge = k } in
        let (i, within, is) = (h.pairs.exact o).1 (e, (at, is_odd)) in
        any_passes_from_place (λ (p : OddUse). p.edge == k) odd i o (slice_get-get_or odd i o within ∙ ap Some is) (eq-eqb k k refl)
