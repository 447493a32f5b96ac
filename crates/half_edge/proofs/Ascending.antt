-- Lists of edges that ascend.
use mathlib.Core.List.{List}
use Rattle.std.proofs.Common.{◌≡◌, refl, sym, ◌∙◌, ap, subst, ℕ, ◌+◌, ◌-◌, ◌<◌, ◌≤◌, length, get_or, Some, Bool, true, false, not, IsTrue, true≢false, inl, inr, arith}
use Rattle.std.proofs.lemmas.Bool.{cases_lt, cases_eq}
use Rattle.std.specs.Ordering.{is_ge, is_some_and, partial_ge, int_cmp, ordering_then, partial_ordering_then}
use Rattle.std.specs.declared.cmp.Ordering.{Ordering}
use Rattle.std.specs.declared.cmp.Ordering.TheVariants.{Less, Equal, Greater}
use Rattle.half_edge.proofs.Deciding.{ge-not_lt}
use Rattle.cov_types.specs.Coord.{coord_cmp}
use Rattle.cov_types.specs.contracts.seg.SegPartialOrd.TheImpl.{partial_cmp-value}
use Rattle.cov_types.specs.Seg.{is_seg_before, seg_cmp}
use Rattle.cov_types.specs.declared.seg.Seg.{Seg}
use Rattle.cov_types.proofs.SegOrder.{is_lt-seg_cmp, is_seg_before-irrefl, is_seg_before-trans}
use Rattle.half_edge.proofs.Places.{read_at}
use Rattle.half_edge.specs.Arranged.{AreAscending}
use Rattle.sector_laws.specs.Sector.{AreDistinct}

-- the test that an edge does not come before another one
then_is : (a b : Ordering) → partial_ordering_then (Some a) (Some b) ≡ Some (ordering_then a b)
then_is Less b = refl
then_is Equal b = refl
then_is Greater b = refl

partial_is : (s t : Seg) → partial_cmp-value.it s t ≡ Some (seg_cmp s t)
partial_is s t =
    (λ i. partial_ordering_then (then_is (int_cmp s.lo.x t.lo.x) (int_cmp s.lo.y t.lo.y) i) (then_is (int_cmp s.hi.x t.hi.x) (int_cmp s.hi.y t.hi.y) i))
    ∙ then_is (coord_cmp s.lo t.lo) (coord_cmp s.hi t.hi)

ge_is : (s t : Seg) → partial_ge partial_cmp-value.it s t ≡ not (is_seg_before s t)
ge_is s t = ap (λ o. is_some_and is_ge o) (partial_is s t) ∙ ge-not_lt (seg_cmp s t) ∙ ap not (is_lt-seg_cmp s t)

opposite : (b : Bool) → not b ≡ false → b ≡ true
opposite true h = refl
opposite false h = absurd (true≢false h)

pub before_from_test : (s t : Seg) (r : Bool) → r ≡ partial_ge partial_cmp-value.it s t → r ≡ false → IsTrue (is_seg_before s t)
before_from_test s t r test fails = opposite (is_seg_before s t) (sym (ge_is s t) ∙ sym test ∙ fails)

pub not_before_from_test : (s t : Seg) (r : Bool) → r ≡ partial_ge partial_cmp-value.it s t → r ≡ true → ¬ IsTrue (is_seg_before s t)
not_before_from_test s t r test holds up = true≢false (sym holds ∙ test ∙ ge_is s t ∙ ap not up)

-- the first edges ascend
abbrev pub AscendTo : List Seg → ℕ → Type 0
AscendTo edges n = (a b : ℕ) (d : Seg) → a < b → b < n → IsTrue (is_seg_before (get_or edges a d) (get_or edges b d))

-- one more edge, after the last of them
pub ascend_more : (edges : List Seg) (i : ℕ) (e f : Seg) → 1 ≤ i → i < length edges → e ≡ get_or edges (i - 1) e → f ≡ get_or edges i f → IsTrue (is_seg_before e f)
    → AscendTo edges i → AscendTo edges (i + 1)
ascend_more edges i e f from below at_e at_f up before a b d lt within =
    let step : IsTrue (is_seg_before (get_or edges (i - 1) d) (get_or edges i d)) =
    subst (λ s. IsTrue (is_seg_before s (get_or edges i d))) (sym (read_at edges (i - 1) e d (omega arith) at_e))
    (subst (λ s. IsTrue (is_seg_before e s)) (sym (read_at edges i f d below at_f)) up) in
    elim (cases_lt b i) [
      | inl early ↦ before a b d lt early
      | inr late ↦ (
          let last : b ≡ i = omega arith in
          subst (λ n. IsTrue (is_seg_before (get_or edges a d) (get_or edges n d))) (sym last)
          (elim (cases_eq a (i - 1)) [
            | inl here ↦ subst (λ n. IsTrue (is_seg_before (get_or edges n d) (get_or edges i d))) (sym here) step
            | inr apart ↦ is_seg_before-trans (get_or edges a d) (get_or edges (i - 1) d) (get_or edges i d) (before a (i - 1) d (omega arith) (omega arith)) step
          ])
          )
    ]

-- an edge that does not come before the one after it
pub ascend_fails : (edges : List Seg) (i : ℕ) (e f : Seg) → 1 ≤ i → i < length edges → e ≡ get_or edges (i - 1) e → f ≡ get_or edges i f → ¬ IsTrue (is_seg_before e f) → ¬ AreAscending edges
ascend_fails edges i e f from below at_e at_f not_up up =
    not_up (subst (λ s. IsTrue (is_seg_before s f)) (read_at edges (i - 1) e e (omega arith) at_e)
    (subst (λ s. IsTrue (is_seg_before (get_or edges (i - 1) e) s)) (read_at edges i f e below at_f) (up (i - 1) i e (omega arith) below)))

-- edges that ascend strictly are distinct
pub ascend_distinct : (edges : List Seg) → AreAscending edges → AreDistinct edges
ascend_distinct edges up = λ i j d lt below same.
    true≢false (sym (up i j d lt below) ∙ ap (λ s. is_seg_before s (get_or edges j d)) same ∙ is_seg_before-irrefl (get_or edges j d))
