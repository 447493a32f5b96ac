-- The current segments before and after a removable point: its two segments give way to one.
use mathlib.Core.List.{[], ◌∷◌}
use Rattle.std.proofs.Common.{◌≡◌, ◌≢◌, inl, inr, refl, sym, ◌∙◌, ap, subst, ℕ, ◌+◌, ◌<◌, Bool, false, not, ◌||◌, cond, List, ◌++◌, zip, get_or, IsTrue, Ordering, arith}
use Rattle.std.specs.Prelude.{Contains, sum_by, option_to_list, Some, slice_get, option_and_then}
use Rattle.std.specs.declared.cmp.Ordering.TheVariants.{Less, Equal, Greater}
use Rattle.std.specs.Ordering.{is_lt, ordering_reverse}
use Rattle.std.proofs.lemmas.Bool.{true≢false, cases_order}
use Rattle.std.proofs.lemmas.List.{append-nil, append_assoc}
use Rattle.std.proofs.lemmas.List.Concat.{flat_map-cons}
use Rattle.std.proofs.lemmas.List.Elements.{filter-append}
use Rattle.std.proofs.lemmas.List.Sums.{sum_by-append, sum_by-cons}
use Rattle.std.proofs.lemmas.Option.{slice_get_within, slice_get-get_or, get_or_from_slice_get}
use Rattle.cov_types.specs.declared.coord.Coord.{Coord}
use Rattle.cov_types.specs.declared.seg.Seg.{Seg}
use Rattle.cov_types.specs.Coord.{points_cmp}
use Rattle.cov_types.specs.Seg.{IsSegBetween}
use Rattle.cov_types.specs.Uses.{seg_between}
use Rattle.cov_types.proofs.Equal.{Decides-same_coords}
use Rattle.plane.specs.Snapping.{chain_edges}
use Rattle.arrangement.proofs.LiveOverlays.{kept_is}
use Rattle.arrangement.proofs.PointOrders.{points_total}
use Rattle.greedy_run.specs.Lines.{PathsAscend}
use Rattle.greedy_run.specs.Run.{Simplification, Spot, IsRemovable, is_removed, current, current_edges}
use Rattle.greedy_run.proofs.NoNodes.{no_node}
use Rattle.greedy_run.proofs.OneLine.{chain_first, one_place}
use Rattle.removal_laws.proofs.Chains.{none_gone, StandsOnce}
use Rattle.removal_laws.proofs.Removable.{stands}
use Rattle.removal_laws.proofs.Steps.{current_more}
use Rattle.kept_lines_laws.proofs.Sums.{sum_flat, one_place_sum}

-- ---- a chain without one of its points

chain_step : (x y : Coord) (rest : List Coord) → chain_edges (x ∷ y ∷ rest) ≡ option_to_list (seg_between x y) ++ chain_edges (y ∷ rest)
chain_step x y rest = flat_map-cons (λ (pair : Coord × Coord). option_to_list (seg_between pair.0 pair.1)) (x, y) (zip (y ∷ rest) rest)

-- a chain falls into two at any of its points
joined : (xs : List Coord) (p q : Coord) (ys : List Coord) → chain_edges ((xs ++ p ∷ []) ++ q ∷ ys) ≡ chain_edges (xs ++ p ∷ []) ++ chain_edges (p ∷ q ∷ ys)
joined [] p q ys = refl
joined (x ∷ []) p q ys =
    chain_step x p (q ∷ ys)
    ∙ ap (λ l. l ++ chain_edges (p ∷ q ∷ ys)) (sym (chain_step x p [] ∙ append-nil (option_to_list (seg_between x p))))
joined (x ∷ y ∷ zs) p q ys =
    chain_step x y ((zs ++ p ∷ []) ++ q ∷ ys)
    ∙ ap (λ l. option_to_list (seg_between x y) ++ l) (joined (y ∷ zs) p q ys)
    ∙ sym (append_assoc (option_to_list (seg_between x y)) (chain_edges (y ∷ zs ++ p ∷ [])) (chain_edges (p ∷ q ∷ ys)))
    ∙ ap (λ l. l ++ chain_edges (p ∷ q ∷ ys)) (sym (chain_step x y (zs ++ p ∷ [])))

chain_exchange : (f : Seg → ℕ) (xs : List Coord) (a b c : Coord) (ys : List Coord) (ab bc ac : Seg) → IsSegBetween a b ab → IsSegBetween b c bc → IsSegBetween a c ac
    → sum_by f (chain_edges ((xs ++ a ∷ []) ++ b ∷ c ∷ ys)) + f ac ≡ sum_by f (chain_edges ((xs ++ a ∷ []) ++ c ∷ ys)) + (f ab + f bc)
chain_exchange f xs a b c ys ab bc ac is_ab is_bc is_ac =
    let one = ap (sum_by f) (joined xs a b (c ∷ ys)) ∙ sum_by-append f (chain_edges (xs ++ a ∷ [])) (chain_edges (a ∷ b ∷ c ∷ ys)) in
    let two = ap (sum_by f) (chain_first a b (c ∷ ys) ab is_ab) ∙ sum_by-cons f ab (chain_edges (b ∷ c ∷ ys)) in
    let three = ap (sum_by f) (chain_first b c ys bc is_bc) ∙ sum_by-cons f bc (chain_edges (c ∷ ys)) in
    let four = ap (sum_by f) (joined xs a c ys) ∙ sum_by-append f (chain_edges (xs ++ a ∷ [])) (chain_edges (a ∷ c ∷ ys)) in
    let five = ap (sum_by f) (chain_first a c ys ac is_ac) ∙ sum_by-cons f ac (chain_edges (c ∷ ys)) in
    omega arith

-- without the point that stands once
pub without_b : (b : Coord) (points : List Coord) (a c : Coord) (h : StandsOnce b points a c) → current (b ∷ []) points ≡ (h.xs ++ a ∷ []) ++ c ∷ h.ys
without_b b points a c h =
    ap (current (b ∷ [])) h.is
    ∙ filter-append (λ p. not (is_removed (b ∷ []) p)) (h.xs ++ a ∷ []) (b ∷ c ∷ h.ys)
    ∙ (λ i. none_gone b (h.xs ++ a ∷ []) h.not_before i ++ gone i)
  where
    gone : current (b ∷ []) (b ∷ c ∷ h.ys) ≡ c ∷ h.ys
    gone =
        ap (λ (t : Bool). cond (not (t || false)) (b ∷ current (b ∷ []) (c ∷ h.ys)) (current (b ∷ []) (c ∷ h.ys))) ((Decides-same_coords b b).1 refl)
        ∙ none_gone b (c ∷ h.ys) h.not_after

-- ---- lists in order stand at one place

not_less : (r : Ordering) → r ≡ ordering_reverse r → IsTrue (is_lt r) → ⊥
not_less Less h less = true≢false (ap is_lt h)
not_less Equal h less = true≢false (sym less)
not_less Greater h less = true≢false (sym less)

pub list_place : (lists : List (List Coord)) → PathsAscend lists → (l : List Coord) (i j : ℕ) → slice_get lists i ≡ Some l → slice_get lists j ≡ Some l → i ≡ j
list_place lists ascending l i j at_i at_j =
    elim (cases_order i j) [
      | inl same ↦ same
      | inr apart ↦ elim apart [
        | inl less ↦ absurd (before i j less at_i at_j)
        | inr more ↦ absurd (before j i more at_j at_i)
      ]
    ]
  where
    before : (m n : ℕ) → m < n → slice_get lists m ≡ Some l → slice_get lists n ≡ Some l → ⊥
    before m n less at_m at_n =
        let it = ascending m n l less (slice_get_within lists n l at_n) in
        not_less (points_cmp l l) (points_total.antisymm l l)
        (subst (λ y. IsTrue (is_lt (points_cmp l y))) (get_or_from_slice_get lists n l l at_n) (subst (λ x. IsTrue (is_lt (points_cmp x (get_or lists n l)))) (get_or_from_slice_get lists m l l at_m) it))

-- ---- the current segments

module _ (s : Simplification) (removed : List Coord) (spot : Spot) (h : IsRemovable s removed spot) where
  abbrev pub points : List Coord
  points = h.triangle.points

  pub spot_line : Contains s.lines points
  spot_line = (spot.line, slice_get_within s.lines spot.line points h.triangle.line, get_or_from_slice_get s.lines spot.line points points h.triangle.line)

  here : slice_get points spot.place ≡ Some h.t.b
  here = sym (ap (option_and_then (λ l. slice_get l spot.place)) h.triangle.line) ∙ h.triangle.here

  -- b stands in this line alone
  pub one_line : (l : List Coord) → Contains s.lines l → Contains (current removed l) h.t.b → l ≡ points
  one_line l has (k, inside, is) = by (kept_is (λ p. not (is_removed removed p)) l h.t.b (k, inside, is)).0
    where
      by : Contains l h.t.b → l ≡ points
      by (j, within, at) =
          (one_place s.edges l points ((s.are_lines.exact l).0 has) ((s.are_lines.exact points).0 spot_line) h.t.b (no_node s removed spot h) j spot.place
          (slice_get-get_or l j h.t.b within ∙ ap Some at) here).line

  other_line : (j : ℕ) (l : List Coord) → slice_get s.lines j ≡ Some l → j ≢ spot.line → ¬ Contains (current removed l) h.t.b
  other_line j l at apart has =
      let in_lines : Contains s.lines l = (j, slice_get_within s.lines j l at, get_or_from_slice_get s.lines j l l at) in
      let same = one_line l in_lines has in
      apart (list_place s.lines s.are_lines.ascending points j spot.line (subst (λ m. slice_get s.lines j ≡ Some m) same at) h.triangle.line)

  -- the lines without b stay
  pub line_stays : (l : List Coord) → ¬ Contains (current removed l) h.t.b → current (h.t.b ∷ removed) l ≡ current removed l
  line_stays l none = current_more h.t.b removed l ∙ none_gone h.t.b (current removed l) none

  abbrev pub once : StandsOnce h.t.b (current removed points) h.t.a h.t.c
  once = stands s removed spot h

  -- the one with b goes on from a to c
  pub line_goes : current (h.t.b ∷ removed) points ≡ (once.xs ++ h.t.a ∷ []) ++ h.t.c ∷ once.ys
  line_goes = current_more h.t.b removed points ∙ without_b h.t.b (current removed points) h.t.a h.t.c once

  -- so ab and bc give way to ac
  pub exchanged : (f : Seg → ℕ) (ab bc ac : Seg) → IsSegBetween h.t.a h.t.b ab → IsSegBetween h.t.b h.t.c bc → IsSegBetween h.t.a h.t.c ac
      → sum_by f (current_edges s.lines removed) + f ac ≡ sum_by f (current_edges s.lines (h.t.b ∷ removed)) + (f ab + f bc)
  exchanged f ab bc ac is_ab is_bc is_ac =
      let before : List Coord → List Seg = λ l. chain_edges (current removed l) in
      let after : List Coord → List Seg = λ l. chain_edges (current (h.t.b ∷ removed) l) in
      let one = sum_flat f before s.lines in
      let two = sum_flat f after s.lines in
      let three =
      one_place_sum (λ l. sum_by f (before l)) (λ l. sum_by f (after l)) (f ac) (f ab + f bc) s.lines spot.line points h.triangle.line
      (λ j l at apart. ap (λ m. sum_by f (chain_edges m)) (sym (line_stays l (other_line j l at apart))))
      (subst (λ m. sum_by f (before points) + f ac ≡ sum_by f (chain_edges m) + (f ab + f bc)) (sym line_goes)
      (subst (λ m. sum_by f (chain_edges m) + f ac ≡ sum_by f (chain_edges ((once.xs ++ h.t.a ∷ []) ++ h.t.c ∷ once.ys)) + (f ab + f bc)) (sym once.is)
      (chain_exchange f once.xs h.t.a h.t.b h.t.c once.ys ab bc ac is_ab is_bc is_ac))) in
      omega arith
