-- Snapped members, and the noded, odd and live edges of a list of uses.
use Rattle.std.specs.Prelude.{◌≡◌, ℕ, ◌%◌, ◌==◌, ◌&&◌, ◌||◌, Bool, nat_lt, IsTrue, ◌↔◌, List, map, zip, flat_map, AllPairs, Contains, Some, slice_get, option_to_list}
use Rattle.std.specs.List.{AllZip}
use Rattle.cov_types.specs.declared.coord.Coord.{Coord}
use Rattle.cov_types.specs.declared.edge_use.EdgeUse.{EdgeUse}
use Rattle.cov_types.specs.declared.seg.Seg.{Seg}
use Rattle.cov_types.specs.Seg.{is_seg_before}
use Rattle.plane.specs.Snapping.{IsChain, chain_edges}
use Rattle.crossing_laws.specs.Across.{member_times}
use Rattle.arrangement.specs.declared.odd_use.OddUse.{OddUse}

-- the segments of the uses, in their order
abbrev pub segments : List EdgeUse → List Seg
segments uses = map (λ u. u.seg) uses

-- ---- edges with numbers

-- each edge comes before those after it, so no edge is there twice
abbrev pub IsAscending : List Seg → Type 0
IsAscending edges = AllPairs (λ e f. IsTrue (is_seg_before e f)) edges

-- the edge is odd for the member, which uses it an odd number of times
abbrev pub IsOdd : List EdgeUse → ℕ → Seg → Type 0
IsOdd uses member e = member_times e uses member % 2 ≡ 1

-- o comes before p: by member, then by the number of the edge
abbrev pub is_odd_before : OddUse → OddUse → Bool
is_odd_before o p = nat_lt o.member p.member || ((o.member == p.member) && nat_lt o.edge p.edge)

-- the ascending list of all pairs of a member and the number of an edge that is odd for it
pub record AreOddPairs (uses : List EdgeUse) (edges : List Seg) (odd : List OddUse) : Type 0 where
  pub ascending : AllPairs (λ o p. IsTrue (is_odd_before o p)) odd
  pub exact : (o : OddUse) → Contains odd o ↔ ((e : Seg) × ((slice_get edges o.edge ≡ Some e) × IsOdd uses o.member e))

-- the distinct segments of the uses, ascending, and their odd pairs
pub record AreEdges (uses : List EdgeUse) (edges : List Seg) (odd : List OddUse) : Type 0 where
  pub ascending : IsAscending edges
  pub exact : (e : Seg) → Contains edges e ↔ Contains (segments uses) e
  pub pairs : AreOddPairs uses edges odd

-- the live edges, which are odd for some member, ascending, and their odd pairs
pub record AreLiveEdges (uses : List EdgeUse) (edges : List Seg) (odd : List OddUse) : Type 0 where
  pub ascending : IsAscending edges
  pub exact : (e : Seg) → Contains edges e ↔ ((member : ℕ) × IsOdd uses member e)
  pub pairs : AreOddPairs uses edges odd

-- the uses that odd pairs stand for: each member with each edge that is odd for it, once
abbrev pub odd_uses : List Seg → List OddUse → List EdgeUse
odd_uses edges odd = flat_map (λ o. map (λ e. record { member = o.member; seg = e }) (option_to_list (slice_get edges o.edge))) odd

-- ---- snapped members

-- a chain for the segment of each use
abbrev pub AreChains : List EdgeUse → List (List Coord) → Type 0
AreChains uses chains = AllZip (λ u chain. IsChain (segments uses) u.seg chain) uses chains

-- the uses of the snapped members: of each use its member with the edges of its chain, with repeats
abbrev pub snapped_uses : List EdgeUse → List (List Coord) → List EdgeUse
snapped_uses uses chains = flat_map (λ p. map (λ e. record { member = p.0.member; seg = e }) (chain_edges p.1)) (zip uses chains)

-- snapped are the uses of the snapped members
pub record AreSnapped (uses snapped : List EdgeUse) : Type 0 where
  pub chains : List (List Coord)
  pub are_chains : AreChains uses chains
  pub made : snapped ≡ snapped_uses uses chains

-- edges and odd are the noded edges of the uses and their odd pairs: the distinct edges of the snapped members
pub record IsNoded (uses : List EdgeUse) (edges : List Seg) (odd : List OddUse) : Type 0 where
  pub snapped : List EdgeUse
  pub are_snapped : AreSnapped uses snapped
  pub are_edges : AreEdges snapped edges odd
