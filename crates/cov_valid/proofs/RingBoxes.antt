-- The boxes about the rings, one after the other.
use Rattle.std.proofs.Common.{◌≡◌, sym, ap, ◌∙◌, subst, ℕ, ◌+◌, ◌<◌, List, [], ◌∷◌, ◌++◌, length, get_or, arith, inl, inr}
use Rattle.std.specs.Prelude.{slice_range}
use Rattle.std.proofs.lemmas.Bool.{cases_lt}
use Rattle.std.proofs.lemmas.List.{get_or_append_left, get_or_push, length_push, get_or_default}
use Rattle.box_tree.specs.declared.rect.Rect.{Rect}
use Rattle.cov_types.specs.declared.edge_use.EdgeUse.{EdgeUse}
use Rattle.cov_types.specs.declared.ring_run.RingRun.{RingRun}
use Rattle.cov_valid.specs.Levels.{IsAbout}
use Rattle.cov_valid.specs.RunIndex.{AreRingBoxes}

-- the boxes about the first so many
pub record AreBoxesTo (uses : List EdgeUse) (runs : List RingRun) (i : ℕ) (boxes : List Rect) : Type 0 where
  pub count : length boxes ≡ i
  pub about : (k : ℕ) (d : RingRun) (b : Rect) → k < i → IsAbout (slice_range uses (get_or runs k d).from (get_or runs k d).to) (get_or boxes k b)

pub boxes_none : (uses : List EdgeUse) (runs : List RingRun) (boxes : List Rect) → boxes ≡ [] → AreBoxesTo uses runs 0 boxes
boxes_none uses runs boxes e = record { count = ap length e; about = λ k d b h. absurd (omega (arith, h)) }

pub boxes_more : (uses : List EdgeUse) (runs : List RingRun) (i : ℕ) (boxes more : List Rect) (run : RingRun) (box : Rect) → i < length runs → run ≡ get_or runs i run → more ≡ boxes ++ box ∷ [] → IsAbout (slice_range uses run.from run.to) box
    → AreBoxesTo uses runs i boxes → AreBoxesTo uses runs (i + 1) more
boxes_more uses runs i boxes more run box within at pushed about so_far =
    let count : length boxes ≡ i = so_far.count in
    subst (AreBoxesTo uses runs (i + 1)) (sym pushed)
    (record {
      count = omega (arith, length_push boxes box);
      about = λ k d b h. elim (cases_lt k i) [
        | inl earlier ↦
            subst (IsAbout (slice_range uses (get_or runs k d).from (get_or runs k d).to)) (sym (get_or_append_left boxes (box ∷ []) b k (omega arith))) (so_far.about k d b earlier)
        | inr later ↦
            let here : k ≡ i = omega arith in
            let run_is : run ≡ get_or runs k d = at ∙ (get_or_default runs i run d within ∙ ap (λ (n : ℕ). get_or runs n d) (sym here)) in
            subst (IsAbout (slice_range uses (get_or runs k d).from (get_or runs k d).to)) (sym (get_or_push boxes box b k (count ∙ sym here)))
            (subst (λ (r : RingRun). IsAbout (slice_range uses r.from r.to) box) run_is about)
      ];
    })

pub boxes_all : (uses : List EdgeUse) (runs : List RingRun) (i : ℕ) (boxes : List Rect) → i ≡ length runs → AreBoxesTo uses runs i boxes → AreRingBoxes uses runs boxes
boxes_all uses runs i boxes e are = record { count = are.count ∙ e; about = λ k d b h. are.about k d b (omega (arith, h, e)) }
