use Rattle.std.proofs.Common.{◌≡◌, sym, ◌∙◌, ap, subst, refl, ℕ, ◌+◌, ◌-◌, ◌<◌, ◌≤◌, length, get_or, List, true, false, IsTrue, Ordering, inl, inr, arith}
use Rattle.std.specs.declared.cmp.Ordering.TheVariants.{Less, Equal, Greater}
use Rattle.std.specs.Ordering.{is_lt, is_ge}
use Rattle.std.proofs.lemmas.Bool.{cases_lt, cases_eq, true≢false}
use Rattle.std.proofs.lemmas.List.{get_or_default}
use Rattle.cov_types.specs.Seg.{is_seg_before, seg_cmp}
use Rattle.cov_types.specs.declared.seg.Seg.{Seg}
use Rattle.cov_types.proofs.SegOrder.{is_lt-seg_cmp, is_seg_before-trans}
use Rattle.grid_cases.proofs.walks.are_ascending.Goals as goal

less : (r : Ordering) → is_ge r ≡ false → is_lt r ≡ true
less Less h = refl
less Equal h = absurd (true≢false h)
less Greater h = absurd (true≢false h)

ascend_more : (edges : List Seg) (i : ℕ) (e f : Seg) → 1 ≤ i → i < length edges → e ≡ get_or edges (i - 1) e → f ≡ get_or edges i f → is_ge (seg_cmp e f) ≡ false
    → ((a b : ℕ) (d : Seg) → a < b → b < i → IsTrue (is_seg_before (get_or edges a d) (get_or edges b d)))
    → (a b : ℕ) (d : Seg) → a < b → b < i + 1 → IsTrue (is_seg_before (get_or edges a d) (get_or edges b d))
ascend_more edges i e f from below at_e at_f up before a b d lt within =
    let here : get_or edges (i - 1) d ≡ e = get_or_default edges (i - 1) d e (omega arith) ∙ sym at_e in
    let next : get_or edges i d ≡ f = get_or_default edges i d f below ∙ sym at_f in
    let step : IsTrue (is_seg_before (get_or edges (i - 1) d) (get_or edges i d)) =
    subst (λ s. IsTrue (is_seg_before s (get_or edges i d))) (sym here) (subst (λ s. IsTrue (is_seg_before e s)) (sym next) (sym (is_lt-seg_cmp e f) ∙ less (seg_cmp e f) up)) in
    elim (cases_lt b i) [
      | inl early ↦ before a b d lt early
      | inr late ↦ (
          let last : b ≡ i = omega arith in
          subst (λ n. IsTrue (is_seg_before (get_or edges a d) (get_or edges n d))) (sym last)
          (elim (cases_eq a (i - 1)) [
            | inl same ↦ subst (λ n. IsTrue (is_seg_before (get_or edges n d) (get_or edges i d))) (sym same) step
            | inr apart ↦ is_seg_before-trans (get_or edges a d) (get_or edges (i - 1) d) (get_or edges i d) (before a (i - 1) d (omega arith) (omega arith)) step
          ]))
    ]

pub loop-i-preserved : goal.loop-i-preserved
loop-i-preserved c =
    ascend_more c.args.edges.now c.loop-i.i c.index-edges-i.result c.index-edges-i-in-loop-i.result c.loop-i.auto.i c.loop-i-test.true c.index-edges-i.is c.index-edges-i-in-loop-i.is
    (ap is_ge (sym c.cmp.ensures) ∙ sym c.is_ge.ensures ∙ c.if-is_ge.false) c.loop-i.invariant
