-- A ring of half-edges that leaves its least vertex first begins at its least point.
use mathlib.Core.List.{[], ◌∷◌}
use Rattle.std.proofs.Common.{◌≡◌, sym, ◌∙◌, List, IsTrue, inl, inr, arith}
use Rattle.std.specs.Prelude.{Contains, All}
use Rattle.std.proofs.lemmas.List.Elements.{All-contains}
use Rattle.std.proofs.lemmas.Option.{same_Some}
use Rattle.cov_types.specs.declared.coord.Coord.{Coord}
use Rattle.cov_types.specs.Coord.{is_before}
use Rattle.cov_types.proofs.Order.{is_before-irrefl, is_before-asymm}
use Rattle.crossing_laws.proofs.Lists.{contains_here, contains_there}
use Rattle.sector_laws.specs.Sector.{HalfEdge, origin}
use Rattle.region_laws.proofs.Balance.{first_or_later}
use Rattle.sound_polygons.specs.Cleaned.{BeginsAtLeast}
use Rattle.part_polygons.specs.Inside.{points_of}

points_has : (way : List HalfEdge) (q : Coord) → Contains (points_of way) q → (k : HalfEdge) × (Contains way k × (origin k ≡ q))
points_has [] q has = absurd (omega (arith, has.1))
points_has (k ∷ way) q has = elim (first_or_later (origin k) (points_of way) q has) [
  | inl here ↦ (k, (contains_here k way, here))
  | inr later ↦ (let rest = points_has way q later in (rest.0, (contains_there k rest.0 way rest.1.0, rest.1.1)))
]

pub begins_at_least : (h : HalfEdge) (way : List HalfEdge) → All (λ k. IsTrue (is_before (origin h) (origin k))) way → BeginsAtLeast (points_of (h ∷ way))
begins_at_least h way least p q first has =
    let from : origin h ≡ p = same_Some _ _ first in
    elim (first_or_later (origin h) (points_of way) q has) [
      | inl here ↦ (λ i. is_before (sym here i) (sym from i)) ∙ is_before-irrefl (origin h)
      | inr later ↦ (
          let found = points_has way q later in
          let before = All-contains (λ k. IsTrue (is_before (origin h) (origin k))) way found.0 least found.1.0 in
          (λ i. is_before (sym found.1.1 i) (sym from i)) ∙ is_before-asymm (origin h) (origin found.0) before
          )
    ]
