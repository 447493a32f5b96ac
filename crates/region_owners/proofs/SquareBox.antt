-- The box of the edges of the inside of the square of size 10.
use Rattle.std.proofs.Common.{refl, sym, inl, inr, subst, pos, ◌≤ℤ◌, arith}
use Rattle.std.proofs.lemmas.Int.{ints}
use Rattle.std.proofs.lemmas.List.Elements.{All-from_recursion, All-contains}
use Rattle.cov_types.specs.declared.coord.Coord.{Coord}
use Rattle.cov_types.specs.declared.seg.Seg.{Seg}
use Rattle.plane.specs.Examples.{grid, left, right}
use Rattle.plane.specs.Point.{at_coord}
use Rattle.arrangement.specs.Square.{square_edges}
use Rattle.arrangement.proofs.SquareRegions.{square_regions}
use Rattle.region_owners.specs.Box.{IsEdgeOf, IsCornerOf, IsInBoxOf}

pub left_edge : IsEdgeOf square_edges 1 left
left_edge = record { among = (0, omega arith, refl); beside = inr (square_regions.each 1 _ refl) }

right_edge : IsEdgeOf square_edges 1 right
right_edge = record { among = (3, omega arith, refl); beside = inl (square_regions.each 6 _ refl) }

south_west : IsCornerOf square_edges 1 (grid 0 0)
south_west = record { edge = left; of = left_edge; is = inl refl }

north_west : IsCornerOf square_edges 1 (grid 0 10)
north_west = record { edge = left; of = left_edge; is = inr refl }

south_east : IsCornerOf square_edges 1 (grid 10 0)
south_east = record { edge = right; of = right_edge; is = inl refl }

pub middle_in_box : IsInBoxOf square_edges 1 (at_coord (grid 5 5))
middle_in_box = record {
  left = (grid 0 0, (south_west, record { lt = tt }));
  right = (grid 10 0, (south_east, record { lt = tt }));
  bottom = (grid 0 0, (south_west, record { lt = tt }));
  top = (grid 0 10, (north_west, record { lt = tt }));
}

record IsUpToTen (e : Seg) : Type 0 where
  lo : e.lo.x ≤ℤ pos 10
  hi : e.hi.x ≤ℤ pos 10

up_to_ten : (c : Coord) → IsCornerOf square_edges 1 c → c.x ≤ℤ pos 10
up_to_ten c k =
    let both = All-contains IsUpToTen square_edges k.edge (All-from_recursion IsUpToTen square_edges (
      record { lo = record { le = tt }; hi = record { le = tt } },
      (record { lo = record { le = tt }; hi = record { le = tt } }, (record { lo = record { le = tt }; hi = record { le = tt } }, (record { lo = record { le = tt }; hi = record { le = tt } }, tt))),
    )) k.of.among in
    elim k.is [ inl lo ↦ subst (λ p. p.x ≤ℤ pos 10) (sym lo) both.lo | inr hi ↦ subst (λ p. p.x ≤ℤ pos 10) (sym hi) both.hi ]

pub beside_not_in_box : ¬ IsInBoxOf square_edges 1 (at_coord (grid 15 5))
beside_not_in_box h = let most = up_to_ten h.right.0 h.right.1.0 in let more = h.right.1.1 in absurd (omega (arith, ints))
