-- The owner of the square of size 10.
use mathlib.Core.List.{[], ◌∷◌}
use Rattle.std.proofs.Common.{slice_index, ◌≡◌, ◌⊎◌, inl, inr, refl, sym, ap, subst, ℕ, zero, suc, List, length, arith}
use Rattle.std.proofs.lemmas.Option.{none-some}
use Rattle.plane.specs.Examples.{left}
use Rattle.plane.specs.Point.{Point}
use Rattle.plane.specs.Ray.{sweep}
use Rattle.plane.specs.Region.{IsSide}
use Rattle.plane.specs.Segment.{side, lower}
use Rattle.crossing_laws.proofs.Located.{one_region}
use Rattle.arrangement.specs.Overlay.{IsRegion, label_of}
use Rattle.arrangement.specs.Square.{square_edges, square_numbers, lone}
use Rattle.arrangement.proofs.SquareRegions.{square_regions, outer_region, inside_not_outer}
use Rattle.region_owners.specs.Gap.{IsGap}
use Rattle.region_owners.specs.Owner.{IsOwner, AreOwners}
use Rattle.region_owners.specs.Square.{unheld, lone_owners, by_index, SquareExamples}
use Rattle.region_owners.proofs.Clearances.{narrow_is}
use Rattle.region_owners.proofs.SquareBox.{left_edge, middle_in_box, beside_not_in_box}
use Rattle.region_owners.proofs.SquareClearance.{square_clearance}

-- ---- owners

-- a region has the number 0 or 1
zero_or_one : (r : ℕ) (p : Point) → IsSide square_edges r p → r ≡ slice_index square_numbers r → (r ≡ 0) ⊎ (r ≡ 1)
zero_or_one zero p h own = inl refl
zero_or_one (suc zero) p h own = inr refl
zero_or_one (suc (suc zero)) p h own = absurd (omega arith)
zero_or_one (suc (suc (suc zero))) p h own = absurd (omega arith)
zero_or_one (suc (suc (suc (suc zero)))) p h own = absurd (omega arith)
zero_or_one (suc (suc (suc (suc (suc zero))))) p h own = absurd (omega arith)
zero_or_one (suc (suc (suc (suc (suc (suc zero)))))) p h own = absurd (omega arith)
zero_or_one (suc (suc (suc (suc (suc (suc (suc zero))))))) p h own = absurd (omega arith)
zero_or_one (suc (suc (suc (suc (suc (suc (suc (suc n)))))))) p h own = absurd (none-some p h)

region_cases : (r : ℕ) → IsRegion square_edges r → (r ≡ 0) ⊎ (r ≡ 1)
region_cases r h = zero_or_one r h.at h.side (one_region square_edges h.at r (slice_index square_numbers r) h.own (square_regions.each r h.at h.side))

not_empty : (x : ℕ) (xs : List ℕ) → (x ∷ xs) ≡ [] → ⊥
not_empty x xs e = let l = ap length e in omega arith

inside_labelled : label_of lone 1 ≡ [] → ⊥
unfolding sweep side
inside_labelled e = not_empty 0 [] e

-- where no member holds it, the inside is a gap
inside_gap : IsGap unheld 1
inside_gap = record {
  region = record { at = lower left; side = refl; own = square_regions.each 1 (lower left) refl };
  not_outer = inside_not_outer;
  empty = refl;
}

outside_owner : (w : ℕ) → IsOwner by_index 0 lone w 0 (lone_owners 0)
unfolding sweep side
outside_owner w = inr ((λ h. h.gap.not_outer outer_region), refl)

inside_owner : (w : ℕ) → IsOwner by_index 0 lone w 1 (lone_owners 1)
unfolding sweep side
inside_owner w = inr ((λ h. inside_labelled h.gap.empty), refl)

pub square_owners : (w : ℕ) → AreOwners by_index 0 lone w lone_owners
square_owners w r region =
    elim (region_cases r region) [
      | inl zero_is ↦ subst (λ r. IsOwner by_index 0 lone w r (lone_owners r)) (sym zero_is) (outside_owner w)
      | inr one_is ↦ subst (λ r. IsOwner by_index 0 lone w r (lone_owners r)) (sym one_is) (inside_owner w)
    ]

pub square_examples : SquareExamples
square_examples = record {
  edge = left_edge;
  in_box = middle_in_box;
  not_in_box = beside_not_in_box;
  clearance = square_clearance;
  narrow = (narrow_is square_edges 1 10 11 square_clearance).1 (omega arith);
  not_narrow = λ h. (let less = (narrow_is square_edges 1 10 10 square_clearance).0 h in omega arith);
  gap = inside_gap;
  no_gap = λ h. inside_labelled h.empty;
  owners = square_owners;
}
