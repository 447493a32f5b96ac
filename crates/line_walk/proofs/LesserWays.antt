-- The lesser direction of a list of points.
use Rattle.std.proofs.Common.{◌≡◌, ◌∙◌, ap, sym, subst, refl, Bool, true, false, inl, inr, List, IsTrue, Ordering}
use Rattle.std.specs.Prelude.{reverse}
use Rattle.std.specs.declared.cmp.Ordering.TheVariants.{Less, Equal, Greater}
use Rattle.std.specs.Ordering.{is_le, ordering_reverse}
use Rattle.std.proofs.lemmas.Bool.{true≢false}
use Rattle.std.proofs.lemmas.List.{reverse-reverse}
use Rattle.cov_types.specs.declared.coord.Coord.{Coord}
use Rattle.cov_types.specs.Coord.{points_cmp}
use Rattle.arrangement.proofs.PointOrders.{points_total}
use Rattle.line_walk.specs.Line.{IsLesserWay}

other_way : (r : Ordering) → is_le r ≡ false → IsTrue (is_le (ordering_reverse r))
other_way Less h = absurd (true≢false h)
other_way Equal h = absurd (true≢false h)
other_way Greater h = refl

pub same_lesser : (points turned : List Coord) → turned ≡ reverse points → is_le (points_cmp points turned) ≡ true → IsLesserWay points points
same_lesser points turned is less = record { either = inl refl; direction = subst (λ ps. IsTrue (is_le (points_cmp points ps))) is less }

pub turned_lesser : (points turned : List Coord) → turned ≡ reverse points → is_le (points_cmp points turned) ≡ false → IsLesserWay points turned
turned_lesser points turned is more = record {
  either = inr is;
  direction = subst (λ ps. IsTrue (is_le (points_cmp turned ps))) (sym (ap reverse is ∙ reverse-reverse points))
      (subst (λ r. IsTrue (is_le r)) (sym (points_total.antisymm turned points)) (other_way (points_cmp points turned) more));
}

-- there is one
pub some_lesser : (points : List Coord) → (lesser : List Coord) × IsLesserWay points lesser
some_lesser points = by (is_le (points_cmp points (reverse points))) refl
  where
    by : (b : Bool) → is_le (points_cmp points (reverse points)) ≡ b → (lesser : List Coord) × IsLesserWay points lesser
    by true is = (points, same_lesser points (reverse points) refl is)
    by false is = (reverse points, turned_lesser points (reverse points) refl is)
