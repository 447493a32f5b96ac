-- The places of edges that uses and odd pairs name.
use Rattle.std.specs.Prelude.{◌≡◌, ℕ, ◌<◌, ◌==◌, ◌&&◌, List, [], ◌∷◌, ◌++◌, length, count_by, All, Contains, IsTrue, ◌↔◌, slice_get, Some}
use Rattle.std.specs.List.{AllZip, list_any}
use Rattle.cov_types.specs.declared.edge_use.EdgeUse.{EdgeUse}
use Rattle.cov_types.specs.declared.seg.Seg.{Seg}
use Rattle.arrangement.specs.declared.odd_use.OddUse.{OddUse}
use Rattle.arrangement.specs.Noding.{IsAscending, segments}

-- each edge number is a place in the list of edges
abbrev pub HavePlaces : List Seg → List OddUse → Type 0
HavePlaces edges odd = All (λ o. o.edge < length edges) odd

-- each edge is that of some pair
abbrev pub AreAllUsed : List Seg → List OddUse → Type 0
AreAllUsed edges odd = (k : ℕ) → k < length edges → IsTrue (list_any (λ o. o.edge == k) odd)

-- how often the pair stands in the list
abbrev pub odd_times : OddUse → List OddUse → ℕ
odd_times o pairs = count_by (λ p. (p.member == o.member) && (p.edge == o.edge)) pairs

-- o has the member of u, and the place of its segment
abbrev pub HasEdgePlace : List Seg → EdgeUse → OddUse → Type 0
HasEdgePlace edges u o = (o.member ≡ u.member) × (slice_get edges o.edge ≡ Some u.seg)

-- the edges are the segments of the uses, ascending, and each use has its pair, in the order of the uses
pub record HaveEdgeNumbers (uses : List EdgeUse) (edges : List Seg) (pairs : List OddUse) : Type 0 where
  pub ascending : IsAscending edges
  pub exact : (e : Seg) → Contains edges e ↔ Contains (segments uses) e
  pub placed : AllZip (HasEdgePlace edges) uses pairs

-- x is the last of the list
abbrev pub EndsWith : {X : Type 0} → List X → X → Type 0
EndsWith {X} xs x = (front : List X) × (xs ≡ front ++ x ∷ [])
