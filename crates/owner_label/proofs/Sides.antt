-- The two sides of an edge, and their half-edges.
use mathlib.Core.List.{[], ◌∷◌}
use Rattle.std.proofs.Common.{◌≡◌, refl, sym, ◌∙◌, ap, subst, ℕ, zero, suc, ◌+◌, ◌-◌, ◌*◌, ◌/◌, ◌%◌, ◌<◌, ◌==◌, true, List, length, Contains, Some, slice_get, option_map, inl, inr, arith}
use Rattle.std.proofs.lemmas.Bool.{eq-eqb, ne_eqb, cond-true, cond-false, cases_eq}
use Rattle.std.proofs.lemmas.Option.{none-some, same_Some}
use Rattle.cov_types.specs.declared.seg.Seg.{Seg}
use Rattle.plane.specs.Point.{Point}
use Rattle.plane.specs.Region.{side_points, IsSide}
use Rattle.sector_laws.specs.Sector.{HalfEdge, twin, half_edges, IsHalfEdge, AreDistinct}
use Rattle.sector_laws.proofs.Numbers.{one_number, forwards_number}
use Rattle.region_laws.proofs.Numbered.{index, index_is}
use Rattle.half_edge.specs.Side.{across}

pub sides-length : (edges : List Seg) → length (side_points edges) ≡ 2 * length edges
sides-length [] = refl
sides-length (e ∷ es) = let rest = sides-length es in omega arith

-- two sides on
across-on : (n : ℕ) → across (suc (suc n)) ≡ suc (suc (across n))
across-on n =
    elim (cases_eq (n % 2) 0) [
      | inl even ↦
          cond-true (suc (suc n) % 2 == 0) (suc (suc n) + 1) (suc (suc n) - 1) (eq-eqb (suc (suc n) % 2) 0 (omega arith)) ∙ omega arith
          ∙ ap (λ k. suc (suc k)) (sym (cond-true (n % 2 == 0) (n + 1) (n - 1) (eq-eqb (n % 2) 0 even)))
      | inr odd ↦
          cond-false (suc (suc n) % 2 == 0) (suc (suc n) + 1) (suc (suc n) - 1) (ne_eqb (suc (suc n) % 2) 0 (λ e. odd (omega arith))) ∙ up n odd
          ∙ ap (λ k. suc (suc k)) (sym (cond-false (n % 2 == 0) (n + 1) (n - 1) (ne_eqb (n % 2) 0 odd)))
    ]
  where
    up : (n : ℕ) → (n % 2 ≡ 0 → ⊥) → suc (suc n) - 1 ≡ suc (suc (n - 1))
    up zero odd = absurd (odd refl)
    up (suc n) odd = omega arith

pub across_within : (n count : ℕ) → n < 2 * count → across n < 2 * count
across_within n count h =
    elim (cases_eq (n % 2) 0) [
      | inl even ↦ subst (λ k. k < 2 * count) (sym (cond-true (n % 2 == 0) (n + 1) (n - 1) (eq-eqb (n % 2) 0 even))) (omega arith)
      | inr odd ↦ subst (λ k. k < 2 * count) (sym (cond-false (n % 2 == 0) (n + 1) (n - 1) (ne_eqb (n % 2) 0 odd))) (omega arith)
    ]

-- ---- the edge and the twin of a half-edge by its number

pub edge_of : (edges : List Seg) (n : ℕ) (h : HalfEdge) → IsHalfEdge edges n h → slice_get edges (n / 2) ≡ Some h.edge
edge_of [] n h at = absurd (none-some h at)
edge_of (e ∷ es) zero h at = ap (λ o. option_map (λ (g : HalfEdge). g.edge) o) at
edge_of (e ∷ es) (suc zero) h at = ap (λ o. option_map (λ (g : HalfEdge). g.edge) o) at
edge_of (e ∷ es) (suc (suc n)) h at =
    let next : suc (suc n) / 2 ≡ suc (n / 2) = omega arith in
    ap (λ k. slice_get (e ∷ es) k) next ∙ edge_of es n h at

pub twin_at : (edges : List Seg) (n : ℕ) (h : HalfEdge) → IsHalfEdge edges n h → IsHalfEdge edges (across n) (twin h)
twin_at [] n h at = absurd (none-some h at)
twin_at (e ∷ es) zero h at = ap (λ o. option_map twin o) at
twin_at (e ∷ es) (suc zero) h at = ap (λ o. option_map twin o) at
twin_at (e ∷ es) (suc (suc n)) h at = ap (λ k. slice_get (half_edges (e ∷ es)) k) (across-on n) ∙ twin_at es n h at

pub index-twin : (edges : List Seg) → AreDistinct edges → (h : HalfEdge) → Contains edges h.edge → index edges (twin h) ≡ across (index edges h)
index-twin edges distinct h c =
    one_number edges distinct (index edges (twin h)) (across (index edges h)) (twin h) (index_is edges (twin h) c) (twin_at edges (index edges h) h (index_is edges h c))

-- an edge stands at one place
pub one_place : (edges : List Seg) → AreDistinct edges → (i j : ℕ) (e : Seg) → slice_get edges i ≡ Some e → slice_get edges j ≡ Some e → i ≡ j
one_place edges distinct i j e at_i at_j =
    let same = one_number edges distinct (2 * i) (2 * j) (record { edge = e; forwards = true }) (forwards_number edges i e at_i) (forwards_number edges j e at_j) in
    omega arith

pub one_side : (edges : List Seg) (n : ℕ) (p q : Point) → IsSide edges n p → IsSide edges n q → p ≡ q
one_side edges n p q h k = same_Some p q (sym h ∙ k)
