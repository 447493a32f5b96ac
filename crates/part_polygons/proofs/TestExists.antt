-- Some test tells the half-edges with regions inside on their left.
use mathlib.Core.List.{[], ◌∷◌}
use Rattle.std.proofs.Common.{◌≡◌, ap, subst, ℕ, suc, ◌+◌, ◌*◌, Bool, true, false, List, Some, inl, inr, arith}
use Rattle.std.specs.Prelude.{Contains, slice_get}
use Rattle.std.specs.List.{enumerate_from}
use Rattle.cov_types.specs.declared.seg.Seg.{Seg}
use Rattle.sector_laws.specs.Sector.{HalfEdge, AreDistinct}
use Rattle.sector_laws.proofs.Numbers.{half_edge_among, forwards_number, back_number, one_number}
use Rattle.region_laws.proofs.Balance.{first_or_later}
use Rattle.region_laws.proofs.Numbered.{index, index_is}
use Rattle.arrangement.specs.Overlay.{Overlay, numbered_edges, region_at}
use Rattle.part_polygons.specs.Inside.{TellsInside}

listed_at : (n : ℕ) (es : List Seg) (k : ℕ) (e : Seg) → Contains (enumerate_from n es) (k, e) → (j : ℕ) × ((k ≡ n + j) × (slice_get es j ≡ Some e))
listed_at n [] k e has = absurd (omega (arith, has.1))
listed_at n (x ∷ xs) k e has = elim (first_or_later (n, x) (enumerate_from (n + 1) xs) (k, e) has) [
  | inl here ↦ (let same = ap (λ (p : ℕ × Seg). p.0) here in (0, (omega (arith, same), ap (λ (p : ℕ × Seg). Some p.1) here)))
  | inr later ↦ (let rest = listed_at (n + 1) xs k e later in let is = rest.1.0 in (suc rest.0, (omega (arith, is), rest.1.1)))
]

module _ (o : Overlay) (distinct : AreDistinct o.edges) (inside : ℕ → Bool) where
  abbrev passes : HalfEdge → Bool
  passes h = inside (region_at o (index o.edges h))

  edge_of : (k : ℕ) (e : Seg) → Contains (numbered_edges o) (k, e) → slice_get o.edges k ≡ Some e
  edge_of k e has =
      let found = listed_at 0 o.edges k e has in
      let is = found.1.0 in
      let same : found.0 ≡ k = omega (arith, is) in
      subst (λ j. slice_get o.edges j ≡ Some e) same found.1.1

  pub test_exists : (test : HalfEdge → Bool) × TellsInside o inside test
  test_exists = (
    passes,
    record {
      above = λ k e has. (
          let number = forwards_number o.edges k e (edge_of k e has) in
          let h : HalfEdge = record { edge = e; forwards = true } in
          ap (λ n. inside (region_at o n)) (one_number o.edges distinct (index o.edges h) (2 * k) h (index_is o.edges h (half_edge_among o.edges (2 * k) h number)) number));
      below = λ k e has. (
          let number = back_number o.edges k e (edge_of k e has) in
          let h : HalfEdge = record { edge = e; forwards = false } in
          ap (λ n. inside (region_at o n)) (one_number o.edges distinct (index o.edges h) (2 * k + 1) h (index_is o.edges h (half_edge_among o.edges (2 * k + 1) h number)) number));
    },
  )
