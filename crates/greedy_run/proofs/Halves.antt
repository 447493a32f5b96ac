-- Two halves of a square are a valid coverage, and one of them twice is none.
use mathlib.Core.List.{◌∷◌}
use Rattle.std.proofs.Common.{◌≡◌, ◌⊎◌, inl, inr, refl, sym, ◌∙◌, ap, subst, ℕ, zero, suc, ◌+◌, ◌%◌, ◌==◌, ◌&&◌, cond, Bool, true, false, List, pos, ◌*ℤ◌, ◌≤◌, ◌≢◌, arith}
use Rattle.std.specs.Prelude.{AllPairs, Contains, map}
use Rattle.std.proofs.lemmas.Bool.{false≢true, false_from_ne_true}
use Rattle.std.proofs.lemmas.Bool.Decides.{Decides-eqb}
use Rattle.std.proofs.lemmas.Int.{ints}
use Rattle.std.proofs.lemmas.List.Elements.{All-from_recursion, All-contains}
use Rattle.std.proofs.lemmas.Option.{slice_get_within, get_or_from_slice_get}
use Rattle.integer_laws.proofs.Compare.{le_or_gt}
use Rattle.cov_types.specs.declared.edge_use.EdgeUse.{EdgeUse}
use Rattle.cov_types.specs.declared.seg.Seg.{Seg}
use Rattle.cov_types.specs.Uses.{uses_of}
use Rattle.cov_types.proofs.Equal.{Decides-same_segs}
use Rattle.plane.specs.Examples.{grid, segment, left, bottom, top, right}
use Rattle.plane.specs.Noded.{MeetInEnds, IsNodedFully}
use Rattle.plane.specs.Parity.{member_holds}
use Rattle.plane.specs.Point.{Point, at_coord}
use Rattle.plane.specs.Ray.{sweep, is_over}
use Rattle.plane.specs.Segment.{IsOn, side}
use Rattle.plane.specs.Validity.{IsRepeated, IsValid}
use Rattle.plane.proofs.Over.{IsOver, over-is}
use Rattle.plane.proofs.Sides.{side_zero-on}
use Rattle.crossing_laws.specs.Across.{is_same_seg}
use Rattle.arrangement.specs.Square.{square_edges}
use Rattle.arrangement.proofs.Short.{apart_by_test}
use Rattle.arrangement.proofs.Squares.{square_noded}
use Rattle.greedy_run.specs.Valid.{halves, twins, ValidExamples}

-- ---- any two edges meet in ends alone

abbrev diagonal : Seg
diagonal = segment (grid 0 0) (grid 10 10) refl

abbrev five : List Seg
five = diagonal ∷ square_edges

meet-sym : (s t : Seg) → MeetInEnds s t → MeetInEnds t s
meet-sym s t (inl same) = inl (sym same)
meet-sym s t (inr ends) = inr (λ r h. (let both = ends r (h.1, h.0) in (both.1, both.0)))

with_left : MeetInEnds diagonal left
unfolding side
with_left = inr (λ r h. (let s = side_zero-on diagonal r h.0 in let t = side_zero-on left r h.1 in (inl (omega (arith, ints), omega (arith, ints)), inl (omega (arith, ints), omega (arith, ints)))))

with_bottom : MeetInEnds diagonal bottom
unfolding side
with_bottom = inr (λ r h. (let s = side_zero-on diagonal r h.0 in let t = side_zero-on bottom r h.1 in (inl (omega (arith, ints), omega (arith, ints)), inl (omega (arith, ints), omega (arith, ints)))))

with_top : MeetInEnds diagonal top
unfolding side
with_top = inr (λ r h. (let s = side_zero-on diagonal r h.0 in let t = side_zero-on top r h.1 in (inr (omega (arith, ints), omega (arith, ints)), inr (omega (arith, ints), omega (arith, ints)))))

with_right : MeetInEnds diagonal right
unfolding side
with_right = inr (λ r h. (let s = side_zero-on diagonal r h.0 in let t = side_zero-on right r h.1 in (inr (omega (arith, ints), omega (arith, ints)), inr (omega (arith, ints), omega (arith, ints)))))

diagonal_meets : (f : Seg) → Contains square_edges f → MeetInEnds diagonal f
diagonal_meets f has = All-contains (MeetInEnds diagonal) square_edges f (All-from_recursion (MeetInEnds diagonal) square_edges (with_left, (with_bottom, (with_top, (with_right, tt))))) has

noded_with : (e : Seg) (edges : List Seg) → IsNodedFully edges → ((f : Seg) → Contains edges f → MeetInEnds e f) → IsNodedFully (e ∷ edges)
noded_with e edges noded meets f g (zero, in_f, is_f) (zero, in_g, is_g) = inl (sym is_f ∙ is_g)
noded_with e edges noded meets f g (zero, in_f, is_f) (suc j, in_g, is_g) = subst (λ s. MeetInEnds s g) is_f (meets g (j, omega arith, is_g))
noded_with e edges noded meets f g (suc i, in_f, is_f) (zero, in_g, is_g) = meet-sym g f (subst (λ s. MeetInEnds s f) is_g (meets f (i, omega arith, is_f)))
noded_with e edges noded meets f g (suc i, in_f, is_f) (suc j, in_g, is_g) = noded f g (i, omega arith, is_f) (j, omega arith, is_g)

five_noded : IsNodedFully five
five_noded = noded_with diagonal square_edges square_noded diagonal_meets

of_five : (u : EdgeUse) → Contains (uses_of halves) u → Contains five u.seg
of_five u has = All-contains (λ v. Contains five v.seg) (uses_of halves) u (All-from_recursion (λ v. Contains five v.seg) (uses_of halves) (
  (2, omega arith, refl),
  ((4, omega arith, refl), ((0, omega arith, refl), ((0, omega arith, refl), ((3, omega arith, refl), ((1, omega arith, refl), tt))))),
)) has

-- ---- no use is there twice

abbrev is_same_use : EdgeUse → EdgeUse → Bool
is_same_use u v = (u.member == v.member) && is_same_seg u.seg v.seg

both_true : (a b : Bool) → a ≡ true → b ≡ true → (a && b) ≡ true
both_true a b h k = cc

same_use : (u v : EdgeUse) → u ≡ v → is_same_use u v ≡ true
same_use u v same = both_true (u.member == v.member) (is_same_seg u.seg v.seg) ((Decides-eqb u.member v.member).1 (ap (λ w. w.member) same)) ((Decides-same_segs u.seg v.seg).1 (ap (λ w. w.seg) same))

uses_apart : AllPairs (λ u v. u ≢ v) (uses_of halves)
uses_apart = apart_by_test is_same_use same_use (uses_of halves) refl

not_twice : (uses : List EdgeUse) → AllPairs (λ u v. u ≢ v) uses → (u : EdgeUse) → ¬ IsRepeated uses u
not_twice uses apart u h =
    apart h.first h.second u h.apart (slice_get_within uses h.second u h.at_second) (get_or_from_slice_get uses h.first u u h.at_first ∙ sym (get_or_from_slice_get uses h.second u u h.at_second))

-- ---- no point is in both

module _ (p : Point) where
  over_it : (e : Seg) → is_over e p ≡ true → IsOver e p
  over_it e h = (over-is e p).0 h

  not_over_it : (e : Seg) → is_over e p ≡ false → IsOver e p → ⊥
  not_over_it e h over = false≢true (sym h ∙ (over-is e p).1 over)

  -- a point over which the bottom or the right is, is below the diagonal
  bottom_then : IsOver bottom p → IsOver diagonal p
  unfolding sweep side
  bottom_then over = let from = over.from in let to = over.to in let below = over.below in let d = p.positive in record { from = omega (arith, ints); to = omega (arith, ints); below = omega (arith, ints) }

  right_then : IsOver right p → IsOver diagonal p
  unfolding sweep side
  right_then over = let from = over.from in let to = over.to in let below = over.below in let d = p.positive in record { from = omega (arith, ints); to = omega (arith, ints); below = omega (arith, ints) }

  lower_held : member_holds (uses_of halves) 0 p ≡ true → is_over diagonal p ≡ true
  lower_held held = by (is_over bottom p) (is_over right p) (is_over diagonal p) refl refl refl held
    where
      by : (b r g : Bool) → is_over bottom p ≡ b → is_over right p ≡ r → is_over diagonal p ≡ g → ((0 + cond b 1 0 + cond r 1 0 + cond g 1 0 + 0 + 0 + 0) % 2 == 1) ≡ true → g ≡ true
      by b r true is_b is_r is_g odd = refl
      by true true false is_b is_r is_g odd = absurd (false≢true odd)
      by false false false is_b is_r is_g odd = absurd (false≢true odd)
      by true false false is_b is_r is_g odd = absurd (not_over_it diagonal is_g (bottom_then (over_it bottom is_b)))
      by false true false is_b is_r is_g odd = absurd (not_over_it diagonal is_g (right_then (over_it right is_r)))

  -- a point below the diagonal is below the top or on the right of the left
  top_or_left : IsOver diagonal p → IsOver top p ⊎ IsOver left p
  unfolding sweep side
  top_or_left over =
      let from = over.from in let to = over.to in let below = over.below in let d = p.positive in
      elim (le_or_gt (pos 10 *ℤ pos p.d) (sweep p)) [
        | inl past ↦ inl (record { from = omega (arith, ints); to = omega (arith, ints); below = omega (arith, ints) })
        | inr before ↦ inr (record { from = omega (arith, ints); to = omega (arith, ints); below = omega (arith, ints) })
      ]

  not_both : IsOver top p → IsOver left p → ⊥
  unfolding sweep side
  not_both high low = let from = high.from in let to = low.to in omega (arith, ints)

  upper_not_held : is_over diagonal p ≡ true → member_holds (uses_of halves) 1 p ≡ true → ⊥
  upper_not_held below held = by (is_over diagonal p) (is_over top p) (is_over left p) below refl refl held
    where
      by : (g t l : Bool) → g ≡ true → is_over top p ≡ t → is_over left p ≡ l → ((0 + 0 + 0 + 0 + cond g 1 0 + cond t 1 0 + cond l 1 0) % 2 == 1) ≡ true → ⊥
      by false t l is_g is_t is_l odd = false≢true is_g
      by true true true is_g is_t is_l odd = not_both (over_it top is_t) (over_it left is_l)
      by true true false is_g is_t is_l odd = false≢true odd
      by true false true is_g is_t is_l odd = false≢true odd
      by true false false is_g is_t is_l odd = elim (top_or_left (over_it diagonal below)) [
        | inl high ↦ not_over_it top is_t high
        | inr low ↦ not_over_it left is_l low
      ]

  -- no other member has a use
  none_held : (i : ℕ) → 2 ≤ i → member_holds (uses_of halves) i p ≡ true → ⊥
  none_held i past held =
      by (0 == i) (1 == i) (false_from_ne_true (0 == i) (λ t. (let same = (Decides-eqb 0 i).0 t in omega arith))) (false_from_ne_true (1 == i) (λ t. (let same = (Decides-eqb 1 i).0 t in omega arith)))
      (is_over bottom p) (is_over right p) (is_over diagonal p) (is_over diagonal p) (is_over top p) (is_over left p) held
    where
      by : (z o : Bool) → z ≡ false → o ≡ false → (b r g f t l : Bool)
          → ((0 + cond (z && b) 1 0 + cond (z && r) 1 0 + cond (z && g) 1 0 + cond (o && f) 1 0 + cond (o && t) 1 0 + cond (o && l) 1 0) % 2 == 1) ≡ true → ⊥
      by true o is_z is_o b r g f t l odd = false≢true (sym is_z)
      by false true is_z is_o b r g f t l odd = false≢true (sym is_o)
      by false false is_z is_o b r g f t l odd = false≢true odd

  one_holder : (i j : ℕ) → member_holds (uses_of halves) i p ≡ true → member_holds (uses_of halves) j p ≡ true → i ≡ j
  one_holder zero zero h k = refl
  one_holder zero (suc zero) h k = absurd (upper_not_held (lower_held h) k)
  one_holder zero (suc (suc j)) h k = absurd (none_held (suc (suc j)) (omega arith) k)
  one_holder (suc zero) zero h k = absurd (upper_not_held (lower_held k) h)
  one_holder (suc zero) (suc zero) h k = refl
  one_holder (suc zero) (suc (suc j)) h k = absurd (none_held (suc (suc j)) (omega arith) k)
  one_holder (suc (suc i)) j h k = absurd (none_held (suc (suc i)) (omega arith) h)

halves_valid : IsValid (uses_of halves)
halves_valid = record {
  ends = λ u v has_u has_v. five_noded u.seg v.seg (of_five u has_u) (of_five v has_v);
  once = not_twice (uses_of halves) uses_apart;
  apart = λ p off. one_holder p;
}

-- ---- the lower half twice

abbrev inner : Point
inner = at_coord (grid 6 3)

off_inner : (e : Seg) → Contains (map (λ u. u.seg) (uses_of twins)) e → IsOn e inner → ⊥
unfolding side
off_inner e has = All-contains (λ s. IsOn s inner → ⊥) (map (λ u. u.seg) (uses_of twins)) e (All-from_recursion (λ s. IsOn s inner → ⊥) (map (λ u. u.seg) (uses_of twins)) (
  (λ on. (let s = side_zero-on bottom inner on in omega (arith, ints))),
  (
    (λ on. (let s = side_zero-on right inner on in omega (arith, ints))),
    (
      (λ on. (let s = side_zero-on diagonal inner on in omega (arith, ints))),
      (
        (λ on. (let s = side_zero-on bottom inner on in omega (arith, ints))),
        ((λ on. (let s = side_zero-on right inner on in omega (arith, ints))), ((λ on. (let s = side_zero-on diagonal inner on in omega (arith, ints))), tt)),
      ),
    ),
  ),
)) has

twins_not_valid : ¬ IsValid (uses_of twins)
unfolding sweep side
twins_not_valid h = let same = h.apart inner off_inner 0 1 refl refl in omega arith

pub valid_examples : ValidExamples
valid_examples = record { valid = halves_valid; not_valid = twins_not_valid }
