-- The examples, by computation.
use Rattle.std.proofs.Common.{refl, ap, inl, inr, lit≤, pos, arith}
use Rattle.std.proofs.lemmas.Int.{ints}
use Rattle.integer_laws.proofs.Ring.{lin}
use Rattle.cov_types.specs.declared.seg.Seg.{Seg}
use Rattle.plane.specs.Point.{Point, SamePoint, at_coord}
use Rattle.plane.specs.Segment.{IsEnd, side}
use Rattle.plane.specs.Ray.{sweep}
use Rattle.plane.specs.Contact.{IsOnlyCommon, HaveTwoCommon}
use Rattle.plane.specs.Examples.{grid, segment, bottom, right, top, OverExamples, SquareExamples, ContactExamples}
use Rattle.plane.proofs.Points.{same_point-refl, first_between, second_between}
use Rattle.plane.proofs.Sides.{side_zero-on}
use Rattle.plane.proofs.Along.{chained}

pub over_examples : OverExamples
unfolding side sweep
over_examples = record {
  far_above = refl;
  on_the_edge = refl;
  ray_leans_left = refl;
  at_the_greater_end = refl;
  ridge_counts_once = refl;
}

pub square_examples : SquareExamples
unfolding side sweep
square_examples = record {
  centre = refl;
  far_out = refl;
  upper_bottom = refl;
  lower_bottom = refl;
  upper_top = refl;
  lower_top = refl;
  upper_left = refl;
  lower_left = refl;
  upper_right = refl;
  lower_right = refl;
  upper_left_at_smaller_x = record { lt = tt };
}

-- ---- contacts

abbrev rising : Seg
rising = segment (grid 0 0) (grid 1 1) refl

abbrev falling : Seg
falling = segment (grid 0 1) (grid 1 0) refl

-- (1/2, 1/2)
abbrev half : Point
half = record { x = pos 1; y = pos 1; d = 2; positive = lit≤ tt }

abbrev level : Seg
level = segment (grid 0 0) (grid 4 0) refl

abbrev upright : Seg
upright = segment (grid 2 0) (grid 2 5) refl

abbrev shifted : Seg
shifted = segment (grid 2 0) (grid 6 0) refl

-- a point of which two numbers differ is no end
not_an_end : (s : Seg) (r : Point) → ¬ SamePoint r (at_coord s.lo) → ¬ SamePoint r (at_coord s.hi) → ¬ IsEnd s r
not_an_end s r not_lo not_hi e = elim e [ inl lo ↦ not_lo lo | inr hi ↦ not_hi hi ]

only_cross : IsOnlyCommon rising falling half
unfolding side
only_cross = record {
  common = (
    record { first = 1; second = 1; weighted = lit≤ tt; x = refl; y = refl },
    record { first = 1; second = 1; weighted = lit≤ tt; x = refl; y = refl },
  );
  only = λ q h. (let s = side_zero-on rising q h.0 in let t = side_zero-on falling q h.1 in (omega (arith, ints), omega (arith, ints)));
}

only_touch : IsOnlyCommon level upright (at_coord (grid 2 0))
unfolding side
only_touch = record {
  common = (
    record { first = 1; second = 1; weighted = lit≤ tt; x = refl; y = refl },
    first_between (at_coord (grid 2 0)) (at_coord (grid 2 5)),
  );
  only = λ q h. (let s = side_zero-on level q h.0 in let t = side_zero-on upright q h.1 in (omega (arith, ints), omega (arith, ints)));
}

two_overlap : HaveTwoCommon level shifted
two_overlap = record {
  one = at_coord (grid 2 0);
  other = at_coord (grid 4 0);
  one_common = (
    record { first = 1; second = 1; weighted = lit≤ tt; x = refl; y = refl },
    first_between (at_coord (grid 2 0)) (at_coord (grid 6 0)),
  );
  other_common = (
    second_between (at_coord (grid 0 0)) (at_coord (grid 4 0)),
    record { first = 1; second = 1; weighted = lit≤ tt; x = refl; y = refl },
  );
  different = λ same. (let x = same.0 in omega (arith, lin));
}

pub contact_examples : ContactExamples
unfolding side sweep
contact_examples = record {
  apart = λ q h. (let low = side_zero-on bottom q h.0 in let high = side_zero-on top q h.1 in let d = q.positive in omega (arith, ints));
  same = refl;
  common_end = chained bottom right (record { lt = tt }) (record { lt = tt }) refl;
  straight_on = chained level (segment (grid 4 0) (grid 6 0) refl) (record { lt = tt }) (record { lt = tt }) refl;
  cross = (
    half,
    (
      only_cross,
      not_an_end rising half (λ e. (let x = e.0 in omega (arith, lin))) (λ e. (let x = e.0 in omega (arith, lin))),
      not_an_end falling half (λ e. (let x = e.0 in omega (arith, lin))) (λ e. (let x = e.0 in omega (arith, lin))),
    ),
  );
  touch = (
    at_coord (grid 2 0),
    (
      only_touch,
      inr (
        not_an_end level (at_coord (grid 2 0)) (λ e. (let x = e.0 in omega (arith, lin))) (λ e. (let x = e.0 in omega (arith, lin))),
        inl (same_point-refl (at_coord (grid 2 0))),
      ),
    ),
  );
  overlap = (λ same. (let x = ap (λ s. s.lo.x) same in omega (arith, lin)), two_overlap);
}
