-- The table of the next half-edges, link by link.
use mathlib.Core.List.{List}
use Rattle.std.proofs.Common.{◌≡◌, sym, ◌∙◌, ap, subst, ℕ, ◌+◌, ◌*◌, ◌<◌, ◌≤◌, length, set, Some, slice_get, inl, inr, arith}
use Rattle.std.proofs.lemmas.Bool.{cases_lt, cases_eq}
use Rattle.std.proofs.lemmas.Option.{same_Some, slice_get_within, slice_get-get_or}
use Rattle.cov_types.specs.declared.seg.Seg.{Seg}
use Rattle.half_edge.proofs.Counts.{number_within, some_half_edge}
use Rattle.half_edge.proofs.Latest.{read_same, read_other}
use Rattle.half_edge.specs.Arena.{IsNextTable}
use Rattle.half_edge.specs.Departures.{IsDeparture, AreDepartures}
use Rattle.half_edge.specs.Directed.{half_edge_to}
use Rattle.half_edge.specs.declared.departure.Departure.{Departure}
use Rattle.half_edge.specs.declared.side.Side.{Side}
use Rattle.sector_laws.specs.Sector.{twin, IsHalfEdge, IsNextNumber, AreDistinct}
use Rattle.sector_laws.proofs.Next.{twin-twin}
use Rattle.sector_laws.proofs.Numbers.{one_number, one_half_edge, half_edge_among, some_number}

-- for the twins of the first departures the table has the half-edges that follow
abbrev pub AreLinked : List Seg → List Departure → ℕ → List Side → Type 0
AreLinked edges list count table = (j : ℕ) (d : Departure) (w : ℕ) (id : Side) → j < count → slice_get list j ≡ Some d → IsHalfEdge edges w (twin (half_edge_to d.direction)) → slice_get table w ≡ Some id
    → IsNextNumber edges w id.number

pub linked-none : (edges : List Seg) (list : List Departure) (table : List Side) → AreLinked edges list 0 table
linked-none edges list table = λ j d w id within. absurd (omega arith)

-- one more link
pub linked-more : (edges : List Seg) → AreDistinct edges → (list : List Departure) (i : ℕ) (a : Departure) → slice_get list i ≡ Some a → (table : List Side) (m : ℕ) (g : Side)
    → IsHalfEdge edges m (twin (half_edge_to a.direction)) → IsNextNumber edges m g.number → AreLinked edges list i table → AreLinked edges list (i + 1) (set table m g)
linked-more edges distinct list i a here table m g at_m next old =
    λ j d w id within at at_w read.
    elim (cases_eq w m) [
      | inl same ↦ (
          let is : g ≡ id = read_same table m g id (subst (λ n. slice_get (set table m g) n ≡ Some id) same read) in
          subst (λ n. IsNextNumber edges n id.number) (sym same) (subst (λ (x : Side). IsNextNumber edges m x.number) is next)
          )
      | inr other ↦ elim (cases_lt j i) [
        | inl early ↦ old j d w id early at at_w (read_other table m w g id other read)
        | inr late ↦ absurd (
            let place : j ≡ i = omega arith in
            let one : a ≡ d = same_Some a d (sym here ∙ ap (λ n. slice_get list n) (sym place) ∙ at) in
            other (one_number edges distinct w m (twin (half_edge_to d.direction)) at_w (subst (λ (x : Departure). IsHalfEdge edges m (twin (half_edge_to x.direction))) one at_m))
            )
      ]
    ]

-- each half-edge is the twin of a departure
pub linked-all : (edges : List Seg) (list : List Departure) (count : ℕ) (table : List Side) → AreDepartures edges list → length list ≤ count → length table ≡ 2 * length edges
    → AreLinked edges list count table → IsNextTable edges table
linked-all edges list count table all long size linked =
    record {
      count = size;
      each = λ n id read.
          let within = slice_get_within table n id read in
          let (h, at_h) = some_half_edge edges n (omega arith) in
          let (m, at_m) = some_number edges (twin h) (half_edge_among edges n h at_h) in
          let (d, ((j, below, is), same)) = all.all m (number_within edges m (twin h) at_m) in
          let here : slice_get list j ≡ Some d = slice_get-get_or list j d below ∙ ap Some is in
          let numbered : IsHalfEdge edges m (half_edge_to d.direction) = subst (λ k. IsHalfEdge edges k (half_edge_to d.direction)) same (subst (IsDeparture edges) is (all.each j d below)) in
          let one : twin (half_edge_to d.direction) ≡ h = ap twin (one_half_edge edges m (half_edge_to d.direction) (twin h) numbered at_m) ∙ twin-twin h in
          linked j d n id (omega arith) here (subst (λ k. IsHalfEdge edges n k) (sym one) at_h) read;
    }
