-- The order of lists of points: where neither of two is past the other, they are one.
use mathlib.Core.List.{[], ◌∷◌}
use Rattle.std.proofs.Common.{◌≡◌, refl, sym, ◌∙◌, ap, subst, List, IsTrue, Ordering}
use Rattle.std.specs.Cmp.{IsTotalOrder}
use Rattle.std.specs.Cmp.Lexicographic.{slice_cmp}
use Rattle.std.specs.declared.cmp.Ordering.TheVariants.{Less, Equal, Greater}
use Rattle.std.specs.Ordering.{is_lt, is_le, is_gt, ordering_then, ordering_reverse}
use Rattle.std.proofs.lemmas.Bool.{true≢false, false≢true}
use Rattle.std.proofs.lemmas.Cmp.{lists_total}
use Rattle.cov_types.specs.declared.coord.Coord.{Coord}
use Rattle.cov_types.specs.Coord.{coord_cmp, points_cmp}
use Rattle.cov_types.proofs.Order.{same_from_neither}
use Rattle.cov_types.proofs.SegOrder.{is_lt-coord_cmp, is_gt-coord_cmp, coord_cmp_total}

pub then_equal : (a b : Ordering) → ordering_then a b ≡ Equal → (a ≡ Equal) × (b ≡ Equal)
then_equal Less b h = absurd (true≢false (ap is_lt h))
then_equal Equal b h = (refl, h)
then_equal Greater b h = absurd (true≢false (ap is_gt h))

pub neither_past : (a : Ordering) → IsTrue (is_le a) → IsTrue (is_le (ordering_reverse a)) → a ≡ Equal
neither_past Less h k = absurd (false≢true k)
neither_past Equal h k = refl
neither_past Greater h k = absurd (false≢true h)

equal_of : {K : Type 0} {R : K → K → Ordering} (o : IsTotalOrder R) (x y : K) → IsTrue (is_le (R x y)) → IsTrue (is_le (R y x)) → R x y ≡ Equal
equal_of o x y h k = neither_past _ h (subst (λ r. IsTrue (is_le r)) (o.antisymm y x) k)

-- ---- lists of points

same_coord : (a b : Coord) → coord_cmp a b ≡ Equal → a ≡ b
same_coord a b h = same_from_neither a b (sym (is_lt-coord_cmp a b) ∙ ap is_lt h) (sym (is_gt-coord_cmp a b) ∙ ap is_gt h)

same_points : (xs ys : List Coord) → slice_cmp coord_cmp xs ys ≡ Equal → xs ≡ ys
same_points [] [] h = refl
same_points [] (y ∷ ys) h = absurd (true≢false (ap is_lt h))
same_points (x ∷ xs) [] h = absurd (true≢false (ap is_gt h))
same_points (x ∷ xs) (y ∷ ys) h = let both = then_equal _ _ h in let first = same_coord x y both.0 in let rest = same_points xs ys both.1 in λ i. first i ∷ rest i

pub points_total : IsTotalOrder points_cmp
points_total = lists_total coord_cmp_total

pub points_same : (xs ys : List Coord) → IsTrue (is_le (points_cmp xs ys)) → IsTrue (is_le (points_cmp ys xs)) → xs ≡ ys
points_same xs ys h k = same_points xs ys (equal_of points_total xs ys h k)

less_and_less : (a : Ordering) → IsTrue (is_lt a) → IsTrue (is_lt (ordering_reverse a)) → ⊥
less_and_less Less h k = false≢true k
less_and_less Equal h k = false≢true h
less_and_less Greater h k = false≢true h

pub points_both_ways : (xs ys : List Coord) → IsTrue (is_lt (points_cmp xs ys)) → IsTrue (is_lt (points_cmp ys xs)) → ⊥
points_both_ways xs ys h k = less_and_less _ h (subst (λ r. IsTrue (is_lt r)) (points_total.antisymm ys xs) k)
