-- The boxes about rings, one after the other.
use Rattle.std.proofs.Common.{◌≡◌, sym, ap, ◌∙◌, subst, ℕ, ◌+◌, ◌-◌, ◌<◌, ◌≤◌, List, [], ◌∷◌, ◌++◌, length, get_or, drop, map, All, arith, inl, inr, length-take, length-drop}
use Rattle.std.specs.Prelude.{slice_range}
use Rattle.std.proofs.lemmas.Bool.{cases_lt}
use Rattle.std.proofs.lemmas.List.{get_or_append_left, get_or_push, length_push, length-map, get_or-map, get_or-take, get_or-drop}
use Rattle.box_tree.specs.Rect.{IsInside, box_of_segment}
use Rattle.box_tree.specs.declared.rect.Rect.{Rect}
use Rattle.cov_locate.specs.Rings.{IsAboutRun, AreBoxesOf}
use Rattle.cov_types.specs.declared.edge_use.EdgeUse.{EdgeUse}
use Rattle.cov_types.specs.declared.ring_run.RingRun.{RingRun}

-- the boxes about the first so many of the runs with these numbers
pub record AreBoxesTo (uses : List EdgeUse) (runs : List RingRun) (numbers : List ℕ) (i : ℕ) (boxes : List Rect) : Type 0 where
  pub count : length boxes ≡ i
  pub about : (k n : ℕ) (d : RingRun) (b : Rect) → k < i → IsAboutRun uses (get_or runs (get_or numbers k n) d) (get_or boxes k b)

pub boxes_none : (uses : List EdgeUse) (runs : List RingRun) (numbers : List ℕ) (boxes : List Rect) → boxes ≡ [] → AreBoxesTo uses runs numbers 0 boxes
boxes_none uses runs numbers boxes e = record { count = ap length e; about = λ k n d b h. absurd (omega (arith, h)) }

pub boxes_more : (uses : List EdgeUse) (runs : List RingRun) (numbers : List ℕ) (i : ℕ) (boxes more : List Rect) (box : Rect) → more ≡ boxes ++ box ∷ []
    → ((n : ℕ) (d : RingRun) → IsAboutRun uses (get_or runs (get_or numbers i n) d) box) → AreBoxesTo uses runs numbers i boxes → AreBoxesTo uses runs numbers (i + 1) more
boxes_more uses runs numbers i boxes more box pushed about so_far =
    let count : length boxes ≡ i = so_far.count in
    subst (AreBoxesTo uses runs numbers (i + 1)) (sym pushed)
    (record {
      count = omega (arith, length_push boxes box);
      about = λ k n d b h. elim (cases_lt k i) [
        | inl earlier ↦
            subst (IsAboutRun uses (get_or runs (get_or numbers k n) d)) (sym (get_or_append_left boxes (box ∷ []) b k (omega arith))) (so_far.about k n d b earlier)
        | inr later ↦
            let here : k ≡ i = omega arith in
            subst (IsAboutRun uses (get_or runs (get_or numbers k n) d)) (sym (get_or_push boxes box b k (count ∙ sym here)))
            (subst (λ (j : ℕ). IsAboutRun uses (get_or runs (get_or numbers j n) d) box) (sym here) (about n d))
      ];
    })

pub boxes_all : (uses : List EdgeUse) (runs : List RingRun) (numbers : List ℕ) (i : ℕ) (boxes : List Rect) → i ≡ length numbers → AreBoxesTo uses runs numbers i boxes → AreBoxesOf uses runs numbers boxes
boxes_all uses runs numbers i boxes e are = record { count = are.count ∙ e; about = λ k n d b h. are.about k n d b (omega (arith, h, e)) }

-- ---- one run

-- a hull of the boxes of a run's segments is about the run
pub about_run : (uses : List EdgeUse) (run : RingRun) (sides : List Rect) (hull : Rect) → sides ≡ map (λ u. box_of_segment u.seg) (slice_range uses run.from run.to) → All (λ b. IsInside b hull) sides → run.to ≤ length uses
    → IsAboutRun uses run hull
about_run uses run sides hull are inside ends k d low high =
    let part = slice_range uses run.from run.to in
    let box : EdgeUse → Rect = λ u. box_of_segment u.seg in
    let j = k - run.from in
    let back : run.from + j ≡ k = omega arith in
    let within : j < length part = omega (arith, high, ends, length-take (run.to - run.from) (drop run.from uses), length-drop run.from uses) in
    let own = box_of_segment d.seg in
    let here : get_or sides j own ≡ box (get_or uses k d) =
    ap (λ (bs : List Rect). get_or bs j own) are ∙ get_or-map box part j d own within
    ∙ ap box (get_or-take (run.to - run.from) (drop run.from uses) j d (omega arith) ∙ get_or-drop run.from uses j d ∙ ap (λ n. get_or uses n d) back) in
    subst (λ (b : Rect). IsInside b hull) here (inside j own (omega (arith, within, ap length are, length-map part box)))

pub sides_some : (uses : List EdgeUse) (from to : ℕ) (sides : List Rect) → sides ≡ map (λ u. box_of_segment u.seg) (slice_range uses from to) → from < to → to ≤ length uses → 0 < length sides
sides_some uses from to sides are some ends =
    omega (arith, ap length are, length-map (slice_range uses from to) (λ (u : EdgeUse). box_of_segment u.seg), length-take (to - from) (drop from uses), length-drop from uses)
