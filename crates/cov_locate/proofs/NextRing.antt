-- The next ring that holds a point.
use Rattle.std.proofs.Common.{◌≡◌, refl, sym, ap, ◌∙◌, subst, ℕ, suc, ◌+◌, ◌<◌, ◌≤◌, Bool, true, false, List, [], ◌∷◌, length, get_or, All, arith, inl, inr, ◌⊎◌}
use Prim.Native.Nat.{min}
use Rattle.std.proofs.lemmas.Bool.{cases_lt}
use Rattle.std.proofs.lemmas.List.{get_or_default}
use Rattle.box_tree.specs.declared.rect.Rect.{Rect}
use Rattle.box_tree.specs.Rect.{box_of_segment}
use Rattle.cov_locate.specs.Blocks.{IsPlaced}
use Rattle.cov_locate.specs.Parts.{AreClear, IsRunTold}
use Rattle.cov_locate.specs.Rings.{AreNumbersBelow, IsNextIn, IsNextRing, IsAboutRun}
use Rattle.cov_locate.specs.Where.{IsOnEdge}
use Rattle.cov_locate.specs.declared.block.Placed.{Placed}
use Rattle.cov_locate.specs.declared.block.Placed.TheVariants.{Beside, Higher, Near}
use Rattle.cov_locate.proofs.Passing.{ArePlaced, placed_clear, beside_run, higher_run}
use Rattle.cov_locate.proofs.Placing.{IsFar, placed_inward}
use Rattle.cov_types.specs.Range.{IsInRange, IsSegInRange}
use Rattle.cov_types.specs.Rings.{AreInRow, IsRing}
use Rattle.cov_types.specs.declared.coord.Coord.{Coord}
use Rattle.cov_types.specs.declared.edge_use.EdgeUse.{EdgeUse}
use Rattle.cov_types.specs.declared.ring_run.RingRun.{RingRun}
use Rattle.parity_laws.specs.Runs.{run_holds}
use Rattle.plane.specs.Point.{at_coord}
use Rattle.plane.specs.Segment.{IsOn}

pub lesser_of : (a b c : ℕ) → c ≡ min a b → (c ≤ a) × (c ≤ b) × ((c ≡ a) ⊎ (c ≡ b))
lesser_of a b c is = (omega (arith, is), omega (arith, is), elim (cases_lt a b) [ inl less ↦ inl (omega (arith, is, less)) | inr more ↦ inr (omega (arith, is, more)) ])

module _ (uses : List EdgeUse) (runs : List RingRun) (numbers : List ℕ) (p : Coord) (least : ℕ) where
  -- no run yet
  pub next_none : (next : ℕ) → next ≡ length runs → IsNextIn uses runs numbers p least 0 0 next
  next_none next is = record {
    clear = λ k n d low high. absurd (omega (arith, high));
    passed = λ k n d low high. absurd (omega (arith, high));
    ends = omega (arith, is);
    holds = λ d h. absurd (omega (arith, h, is));
  }

  lesser_holds : (first second next : ℕ) → (next ≡ first) ⊎ (next ≡ second)
      → ((d : RingRun) → first < length runs → (least ≤ first) × (run_holds uses (at_coord p) (get_or runs first d) ≡ true))
      → ((d : RingRun) → second < length runs → (least ≤ second) × (run_holds uses (at_coord p) (get_or runs second d) ≡ true))
      → (d : RingRun) → next < length runs → (least ≤ next) × (run_holds uses (at_coord p) (get_or runs next d) ≡ true)
  lesser_holds first second next is one other d =
      let P : ℕ → Type 0 = λ n. n < length runs → (least ≤ n) × (run_holds uses (at_coord p) (get_or runs n d) ≡ true) in
      elim is [ inl e ↦ subst P (sym e) (one d) | inr e ↦ subst P (sym e) (other d) ]

  -- two parts: the lesser of the two next runs is the next
  pub next_joined : (from middle to first second next : ℕ) → next ≤ first → next ≤ second → (next ≡ first) ⊎ (next ≡ second)
      → IsNextIn uses runs numbers p least from middle first → IsNextIn uses runs numbers p least middle to second → IsNextIn uses runs numbers p least from to next
  next_joined from middle to first second next below_first below_second is one other = record {
    clear = λ k n d low high. elim (cases_lt k middle) [ inl early ↦ one.clear k n d low early | inr late ↦ other.clear k n d late high ];
    passed = λ k n d low high up before. elim (cases_lt k middle) [
      | inl early ↦ one.passed k n d low early up (omega (arith, before, below_first))
      | inr late ↦ other.passed k n d late high up (omega (arith, before, below_second))
    ];
    ends = omega (arith, below_first, one.ends);
    holds = lesser_holds first second next is one.holds other.holds;
  }

  -- runs that have no point on a segment and do not hold it
  pub next_far : (from to next : ℕ) → next ≡ length runs
      → ((k n : ℕ) (d : RingRun) → from ≤ k → k < to → IsRunTold uses (get_or runs (get_or numbers k n) d) p false) → IsNextIn uses runs numbers p least from to next
  next_far from to next is far = record {
    clear = λ k n d low high. (far k n d low high).clear;
    passed = λ k n d low high up before. sym (far k n d low high).held;
    ends = omega (arith, is);
    holds = λ d h. absurd (omega (arith, h, is));
  }

  -- one run
  pub next_one : (from number next : ℕ) (run : RingRun) (holds : Bool) → from < length numbers → number ≡ get_or numbers from number → number < length runs → run ≡ get_or runs number run
      → IsRunTold uses run p holds → next ≤ length runs → (holds ≡ true → least ≤ number → next ≤ number)
      → (next < length runs → (holds ≡ true) × (least ≤ number) × (next ≡ number)) → IsNextIn uses runs numbers p least from (from + 1) next
  next_one from number next run holds within at inside run_at told ends first only =
      let number_is : (k n : ℕ) → from ≤ k → k < from + 1 → get_or numbers k n ≡ number =
      λ k n low high. (let here : k ≡ from = omega (arith, low, high) in ap (λ (j : ℕ). get_or numbers j n) here ∙ get_or_default numbers from n number within ∙ sym at) in
      let run_is : (k n : ℕ) (d : RingRun) → from ≤ k → k < from + 1 → run ≡ get_or runs (get_or numbers k n) d =
      λ k n d low high. run_at ∙ get_or_default runs number run d inside ∙ ap (λ (j : ℕ). get_or runs j d) (sym (number_is k n low high)) in
      record {
        clear = λ k n d low high. subst (λ (r : RingRun). AreClear uses r.from r.to p) (run_is k n d low high) told.clear;
        passed = λ k n d low high up before.
            let same : get_or numbers k n ≡ number = number_is k n low high in
            let not_held : holds ≡ false = not_true holds (λ true_is. (let late = first true_is (omega (arith, up, same)) in omega (arith, late, before, same))) in
            subst (λ (r : RingRun). run_holds uses (at_coord p) r ≡ false) (run_is k n d low high) (sym told.held ∙ not_held);
        ends = ends;
        holds = λ d h.
            let (held, up, is) = only h in (
              omega (arith, up, is),
              subst (λ (r : RingRun). run_holds uses (at_coord p) r ≡ true) (run_at ∙ get_or_default runs number run d inside ∙ ap (λ (j : ℕ). get_or runs j d) (sym is)) (sym told.held ∙ held),
            );
      }
    where
      not_true : (b : Bool) → ¬ (b ≡ true) → b ≡ false
      not_true true h = absurd (h refl)
      not_true false h = refl

-- ---- runs in a block beside or above the point

-- a run whose box is beside or above the point
pub far_run : (uses : List EdgeUse) (starts : List Coord) (run : RingRun) (b : Rect) (p : Coord) (placed : Placed) → All (λ u. IsSegInRange u.seg) uses → IsInRange p → IsRing uses starts run → IsAboutRun uses run b
    → IsPlaced b p placed → IsFar placed → IsRunTold uses run p false
far_run uses starts run b p placed in_range hp ring about is far =
    let are : ArePlaced uses run.from run.to p placed = λ k d low high. placed_inward (box_of_segment (get_or uses k d).seg) b p placed (about k d low high) is in
    record { clear = placed_clear uses run.from run.to p placed are far; held = by_place placed are far }
  where
    by_place : (q : Placed) → ArePlaced uses run.from run.to p q → IsFar q → false ≡ run_holds uses (at_coord p) run
    by_place Beside are far = sym (beside_run uses run p in_range hp ring.uses_end are)
    by_place Higher are far = sym (higher_run uses starts run p in_range ring are)
    by_place Near are far = absurd far

-- ---- all runs

-- a use is in a run
run_of_use : (i : ℕ) (runs : List RingRun) (end k : ℕ) → AreInRow i runs end → i ≤ k → k < end → (n : ℕ) × (n < length runs) × ((d : RingRun) → ((get_or runs n d).from ≤ k) × (k < (get_or runs n d).to))
run_of_use i [] end k row low high = absurd (omega (arith, row, low, high))
run_of_use i (run ∷ runs) end k (at, some, rest) low high =
    elim (cases_lt k run.to) [
      | inl here ↦ (0, omega arith, λ d. (omega (arith, at, low), here))
      | inr later ↦
          let (n, within, inside) = run_of_use run.to runs end k rest later high in
          (suc n, omega (arith, within), λ d. inside d)
    ]

-- where all runs are clear, no segment has the point
pub all_clear : (uses : List EdgeUse) (runs : List RingRun) (p : Coord) → AreInRow 0 runs (length uses) → ((n : ℕ) (d : RingRun) → n < length runs → AreClear uses (get_or runs n d).from (get_or runs n d).to p) → ¬ IsOnEdge uses p
all_clear uses runs p row clear (u, ((k, within, at), on)) =
    let (n, inside, found) = run_of_use 0 runs (length uses) k row (omega arith) within in
    let none : RingRun = record { member = 0; from = 0; to = 0 } in
    let about = found none in
    clear n none inside k u about.0 about.1 (subst (λ (v : EdgeUse). IsOn v.seg (at_coord p)) (sym at) on)

pub next_all : (uses : List EdgeUse) (runs : List RingRun) (numbers : List ℕ) (p : Coord) (least to next : ℕ) → AreInRow 0 runs (length uses) → AreNumbersBelow (length runs) numbers → length numbers ≤ to
    → IsNextIn uses runs numbers p least 0 to next → IsNextRing uses runs p least next
next_all uses runs numbers p least to next row all past are = record {
  clear = all_clear uses runs p row
      (λ n d inside. (let (k, within, at) = all.each n inside in
      subst (λ (m : ℕ). AreClear uses (get_or runs m d).from (get_or runs m d).to p) at (are.clear k n d (omega arith) (omega (arith, within, past)))));
  passed = λ n d up before. (let (k, within, at) = all.each n (omega (arith, before, are.ends)) in
      subst (λ (m : ℕ). run_holds uses (at_coord p) (get_or runs m d) ≡ false) at
      (are.passed k n d (omega arith) (omega (arith, within, past)) (omega (arith, up, at)) (omega (arith, before, at))));
  ends = are.ends;
  holds = are.holds;
}
