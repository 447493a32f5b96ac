-- Parts of a run that lie beside or above a point, and parts of one use.
use Rattle.std.proofs.Common.{◌≡◌, refl, true, sym, ◌∙◌, ap, subst, ℕ, ◌+◌, ◌<◌, ◌≤◌, Bool, false, List, [], ◌∷◌, length, get_or, map, All, arith, inl, inr}
use Rattle.std.proofs.lemmas.Bool.{cases_lt}
use Rattle.std.proofs.lemmas.List.{length-map, get_or-map, get_or_default}
use Rattle.box_tree.specs.Rect.{box_of_segment}
use Rattle.box_tree.specs.declared.rect.Rect.{Rect}
use Rattle.cov_locate.specs.Blocks.{IsPlaced}
use Rattle.cov_locate.specs.Parts.{AreClear, IsPart}
use Rattle.cov_locate.specs.declared.block.Placed.{Placed}
use Rattle.cov_locate.specs.declared.run.Part.{Part}
use Rattle.cov_locate.specs.declared.block.Placed.TheVariants.{Beside, Higher}
use Rattle.cov_locate.proofs.Placing.{IsFar, not_on, not_over, higher_is}
use Rattle.cov_types.specs.Range.{IsInRange, IsSegInRange}
use Rattle.cov_types.specs.Rings.{IsRing}
use Rattle.cov_types.specs.declared.coord.Coord.{Coord}
use Rattle.cov_types.specs.declared.edge_use.EdgeUse.{EdgeUse}
use Rattle.cov_types.specs.declared.ring_run.RingRun.{RingRun}
use Rattle.parity_laws.proofs.Parts.{part-empty, part-more, part-none_over, part-higher, run-higher}
use Rattle.parity_laws.specs.Paths.{differ, is_started}
use Rattle.parity_laws.specs.Runs.{part_holds, run_holds, place_in}
use Rattle.plane.specs.Point.{at_coord}
use Rattle.plane.specs.Ray.{is_over}
use Rattle.plane.specs.Segment.{IsOn}
use Rattle.plane.proofs.Sweeps.{rises-in_range}

-- the segments of the uses from one place to before another are so placed
abbrev pub ArePlaced : List EdgeUse → ℕ → ℕ → Coord → Placed → Type 0
ArePlaced uses from to p placed = (k : ℕ) (d : EdgeUse) → from ≤ k → k < to → IsPlaced (box_of_segment (get_or uses k d).seg) p placed

-- by the boxes of the segments
pub placed_uses : (uses : List EdgeUse) (from to : ℕ) (p : Coord) (placed : Placed) → to ≤ length uses
    → ((k : ℕ) (b : Rect) → from ≤ k → k < to → IsPlaced (get_or (map (λ u. box_of_segment u.seg) uses) k b) p placed) → ArePlaced uses from to p placed
placed_uses uses from to p placed ends boxes k d low high =
    subst (λ (b : Rect). IsPlaced b p placed) (get_or-map (λ (u : EdgeUse). box_of_segment u.seg) uses k d (box_of_segment d.seg) (omega (arith, high, ends))) (boxes k (box_of_segment d.seg) low high)

pub placed_clear : (uses : List EdgeUse) (from to : ℕ) (p : Coord) (placed : Placed) → ArePlaced uses from to p placed → IsFar placed → AreClear uses from to p
placed_clear uses from to p placed are far k d low high = not_on (get_or uses k d).seg p placed (are k d low high) far

pub beside_holds : (uses : List EdgeUse) (from to : ℕ) (p : Coord) → All (λ u. IsSegInRange u.seg) uses → IsInRange p → to ≤ length uses → ArePlaced uses from to p Beside
    → false ≡ part_holds uses from to (at_coord p)
beside_holds uses from to p in_range hp within are =
    sym (part-none_over uses from to (at_coord p) within
    (λ k u low high. not_over (get_or uses k u).seg p (in_range k u (omega (arith, high, within))) hp (are k u low high)))

pub higher_holds : (uses : List EdgeUse) (starts : List Coord) (run : RingRun) (from to : ℕ) (p : Coord) (holds : Bool) (d : Coord) → All (λ u. IsSegInRange u.seg) uses → IsRing uses starts run
    → run.from ≤ from → from ≤ to → to ≤ run.to → ArePlaced uses from to p Higher
    → holds ≡ differ (is_started (get_or starts (place_in run from) d) (at_coord p)) (is_started (get_or starts (place_in run to) d) (at_coord p)) → holds ≡ part_holds uses from to (at_coord p)
higher_holds uses starts run from to p holds d in_range ring low le high are told =
    told ∙ sym (part-higher uses starts run from to (at_coord p) d ring low le high
    (λ k u l h. (rises-in_range (get_or uses k u).seg (in_range k u (omega (arith, h, high, ring.uses_end))), higher_is (get_or uses k u).seg p (are k u l h))))

-- a whole run above the point does not hold it
pub higher_run : (uses : List EdgeUse) (starts : List Coord) (run : RingRun) (p : Coord) → All (λ u. IsSegInRange u.seg) uses → IsRing uses starts run → ArePlaced uses run.from run.to p Higher
    → run_holds uses (at_coord p) run ≡ false
higher_run uses starts run p in_range ring are =
    run-higher uses starts run (at_coord p) ring
    (λ k u l h. (rises-in_range (get_or uses k u).seg (in_range k u (omega (arith, h, ring.uses_end))), higher_is (get_or uses k u).seg p (are k u l h)))

pub beside_run : (uses : List EdgeUse) (run : RingRun) (p : Coord) → All (λ u. IsSegInRange u.seg) uses → IsInRange p → run.to ≤ length uses → ArePlaced uses run.from run.to p Beside
    → run_holds uses (at_coord p) run ≡ false
beside_run uses run p in_range hp within are = sym (beside_holds uses run.from run.to p in_range hp within are)

-- ---- starts

-- where a use of a ring begins is in range
pub start_in_range : (uses : List EdgeUse) (starts : List Coord) (run : RingRun) (k : ℕ) (d : Coord) → IsRing uses starts run → All (λ u. IsSegInRange u.seg) uses → run.from ≤ k → k < run.to → IsInRange (get_or starts k d)
start_in_range [] starts run k d ring in_range low high = absurd (omega (arith, low, high, ring.uses_end))
start_in_range (u ∷ uses) starts run k d ring in_range low high =
    let seg = in_range k u (omega (arith, high, ring.uses_end)) in
    elim (ring.closed k u d low high) [
      | inl onward ↦ subst IsInRange onward.0 seg.lo
      | inr back ↦ subst IsInRange back.1 seg.hi
    ]

-- ---- one use

differ-none : (b : Bool) → differ false b ≡ b
differ-none true = refl
differ-none false = refl

pub one_clear : (uses : List EdgeUse) (from : ℕ) (u : EdgeUse) (p : Coord) → from < length uses → u ≡ get_or uses from u → ¬ IsOn u.seg (at_coord p) → AreClear uses from (from + 1) p
one_clear uses from u p within at off k d low high on =
    let here : k ≡ from = omega (arith, low, high) in
    let same : get_or uses k d ≡ u = ap (λ (n : ℕ). get_or uses n d) here ∙ get_or_default uses from d u within ∙ sym at in
    off (subst (λ (v : EdgeUse). IsOn v.seg (at_coord p)) same on)

pub one_holds : (uses : List EdgeUse) (from : ℕ) (u : EdgeUse) (p : Coord) → from < length uses → u ≡ get_or uses from u → is_over u.seg (at_coord p) ≡ part_holds uses from (from + 1) (at_coord p)
one_holds uses from u p within at =
    sym (part-more uses from from (at_coord p) u (omega arith) within
    ∙ ap (λ b. differ b (is_over (get_or uses from u).seg (at_coord p))) (part-empty uses from from (at_coord p) (omega arith))
    ∙ differ-none (is_over (get_or uses from u).seg (at_coord p))
    ∙ ap (λ (v : EdgeUse). is_over v.seg (at_coord p)) (sym at))

-- ---- two parts

pub clear_joined : (uses : List EdgeUse) (from middle to : ℕ) (p : Coord) → AreClear uses from middle p → AreClear uses middle to p → AreClear uses from to p
clear_joined uses from middle to p first second k d low high =
    elim (cases_lt k middle) [ inl early ↦ first k d low early | inr late ↦ second k d late high ]

pub boxes_end : (uses : List EdgeUse) (to : ℕ) → to ≤ length uses → to ≤ length (map (λ u. box_of_segment u.seg) uses)
boxes_end uses to ends = omega (arith, ends, length-map uses (λ (u : EdgeUse). box_of_segment u.seg))

-- the part that ends with a block above the point
pub above_part : (uses : List EdgeUse) (starts : List Coord) (run : RingRun) (from to : ℕ) (p : Coord) (part : Part) → All (λ u. IsSegInRange u.seg) uses → IsRing uses starts run
    → run.from ≤ from → from < to → to ≤ run.to → ArePlaced uses from to p Higher → part.to ≡ to
    → part.holds ≡ differ (is_started (get_or starts (place_in run from) p) (at_coord p)) (is_started (get_or starts (place_in run to) p) (at_coord p)) → IsPart uses run from p part
above_part uses starts run from to p part in_range ring low some high are is told = record {
  begins = omega (arith, some, is);
  ends = omega (arith, high, is);
  clear = subst (λ (n : ℕ). AreClear uses from n p) (sym is) (placed_clear uses from to p Higher are tt);
  held = higher_holds uses starts run from to p part.holds p in_range ring low (omega (arith, some)) high are told ∙ ap (λ (n : ℕ). part_holds uses from n (at_coord p)) (sym is);
}
