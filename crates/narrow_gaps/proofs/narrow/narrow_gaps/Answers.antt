-- One side more.
use Rattle.std.proofs.Common.{◌≡◌, ◌∙◌, ◌+◌, ◌*◌, ◌<◌, ◌≤◌, ◌++◌, ◌∷◌, [], sym, ap, subst, List, ℕ, length, get_or, All, Vec, Global, true≢false, arith}
use Rattle.std.specs.Prelude.{AllPairs}
use Rattle.std.proofs.lemmas.List.Elements.{All-push, All-weaker}
use Rattle.std.proofs.lemmas.List.Quantifiers.{all_pairs_push}
use Rattle.cov_types.specs.declared.seg.Seg.{Seg}
use Rattle.arrangement.specs.Overlay.{Overlay, IsRegion}
use Rattle.region_owners.specs.Gap.{IsNarrow}
use Rattle.owner_label.specs.Labelled.{IsOverlay}
use Rattle.narrow_gaps.proofs.Gaps.{AreNarrowBelow, narrow_same, narrow_more, narrow_all}
use Rattle.narrow_gaps.proofs.narrow.narrow_gaps.Goals.{then-is_gap+in_ok-narrow+then-branch+in_ok-push, else-is_gap, else-is_gap-via-then-is_gap+in_ok-narrow+else-branch, else-is_gap-via-else-is_gap}
use Rattle.narrow_gaps.proofs.narrow.narrow_gaps.Goals as goal

pub narrow-requires-clause-region : goal.narrow-requires-clause-region
narrow-requires-clause-region c = subst (λ (es : List Seg). IsRegion es c.loop-side.side) (c.requires.regions ∙ sym c.in_ok-search.ensures) (c.is_gap.ensures.region c.if-is_gap.true)

more_below : (n : ℕ) (gaps : List ℕ) → All (λ k. k < n) gaps → All (λ k. k < n + 1) gaps
more_below n gaps below = All-weaker (λ k. k < n) (λ k. k < n + 1) (λ k less. omega arith) gaps below

pub loop-side-preserved : goal.loop-side-preserved
loop-side-preserved c =
    let n = c.loop-side.side in
    let before : List ℕ = c.loop-side.gaps.items in
    let inv = c.loop-side.invariant in
    elim c.if-is_gap.branch [
      | then-is_gap+in_ok-narrow+then-branch+in_ok-push w ↦
          let pushed : c.if-is_gap.gaps.items ≡ before ++ n ∷ [] = ap (λ (v : Vec ℕ Global). v.items) w.gaps-is ∙ w.in_ok-push.ensures.items in
          record {
            below = subst (λ (ns : List ℕ). All (λ k. k < n + 1) ns) (sym pushed) (All-push (λ k. k < n + 1) before n (more_below n before inv.below) (omega arith));
            ascending = subst (λ (ns : List ℕ). AllPairs (λ j k. j < k) ns) (sym pushed) (all_pairs_push (λ (j k : ℕ). j < k) before n inv.ascending (λ k d within. inv.below k d within));
            exact = λ o is. (
                let between : c.in_ok-search.search ≡ o.edges = c.in_ok-search.ensures ∙ sym (is.edges ∙ c.requires.labels) in
                let narrow = subst (λ (es : List Seg). IsNarrow es n c.args.width) between (w.in_ok-narrow.ensures.0 w.if-branch.true) in
                subst (λ (ns : List ℕ). AreNarrowBelow o c.args.width (n + 1) ns) (sym pushed)
                (narrow_more o c.args.width n before (inv.exact o is) (record { gap = (c.is_gap.ensures.gap o is).0 w.if-is_gap.true; narrow = narrow })));
          }
      | else-is_gap w ↦
          let same : c.if-is_gap.gaps.items ≡ before = ap (λ (v : Vec ℕ Global). v.items) w.gaps-is in
          record {
            below = subst (λ (ns : List ℕ). All (λ k. k < n + 1) ns) (sym same) (more_below n before inv.below);
            ascending = subst (λ (ns : List ℕ). AllPairs (λ j k. j < k) ns) (sym same) inv.ascending;
            exact = λ o is. subst (λ (ns : List ℕ). AreNarrowBelow o c.args.width (n + 1) ns) (sym same) (narrow_same o c.args.width n before (inv.exact o is) (λ gap. elim w.else-is_gap.branch [
              | else-is_gap-via-then-is_gap+in_ok-narrow+else-branch v ↦ (
                  let between : o.edges ≡ c.in_ok-search.search = is.edges ∙ c.requires.labels ∙ sym c.in_ok-search.ensures in
                  true≢false (sym (v.in_ok-narrow.ensures.1 (subst (λ (es : List Seg). IsNarrow es n c.args.width) between gap.narrow)) ∙ v.if-branch.false))
              | else-is_gap-via-else-is_gap v ↦ true≢false (sym ((c.is_gap.ensures.gap o is).1 gap.gap) ∙ v.if-is_gap.false)
            ]));
          }
    ]

pub returns-clause-exact : goal.returns-clause-exact
returns-clause-exact c = λ o is.
    narrow_all o c.args.width c.loop-side.side c.loop-side.gaps.items (let long = ap length (is.edges ∙ c.requires.labels) in omega (arith, c.loop-side-test.false, c.len-side-end.ensures.count, long)) (c.loop-side.invariant.exact o is)
