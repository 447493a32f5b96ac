-- Examples of the definitions of overlays, with numbers.
use Rattle.std.specs.Prelude.{◌≡◌, ℕ, List, [], ◌∷◌, ◌++◌, map, option_to_list, pos}
use Rattle.cov_types.specs.declared.coord.Coord.{Coord}
use Rattle.cov_types.specs.declared.edge_use.EdgeUse.{EdgeUse}
use Rattle.cov_types.specs.declared.seg.Seg.{Seg}
use Rattle.cov_types.specs.Uses.{seg_between, ring_uses}
use Rattle.plane.specs.Examples.{grid}
use Rattle.plane.specs.Length.{root, edge_length}
use Rattle.crossing_laws.specs.Across.{member_times}
use Rattle.arrangement.specs.declared.odd_use.OddUse.{OddUse}
use Rattle.arrangement.specs.Measure.{member_area2, region_area2, border}
use Rattle.arrangement.specs.Noding.{segments, odd_uses, snapped_uses}
use Rattle.arrangement.specs.Overlay.{Overlay, label_of}

-- ---- writing edges, rings and odd pairs

-- the edge between two grid points
abbrev pub edge : ℕ → ℕ → ℕ → ℕ → List Seg
edge x y u v = option_to_list (seg_between (grid x y) (grid u v))

-- a point of a ring or a chain
abbrev pub at : ℕ → ℕ → List Coord
at x y = grid x y ∷ []

-- the odd pairs of a member with these edges
abbrev pub pairs : ℕ → List ℕ → List OddUse
pairs member edges = map (λ k. record { member = member; edge = k }) edges

-- ---- lengths

-- lengths in 1/256 units
pub record LengthExamples : Type 0 where
  pub none : root 0 ≡ 0
  pub whole : root 164102144 ≡ 12810
  pub level : map edge_length (edge 0 0 50 1) ≡ 12802 ∷ []
  pub steeper : map edge_length (edge 0 0 50 2) ≡ 12810 ∷ []
  pub steepest : map edge_length (edge 0 0 50 3) ≡ 12823 ∷ []
  pub upright : map edge_length (edge 0 0 0 10) ≡ 2560 ∷ []

-- ---- snapped members

-- the ring (0, 0), (1, 1), (0, 1), (1, 0), whose sides cross at (1/2, 1/2), and the chains of its sides
abbrev pub half_crossing : List EdgeUse
half_crossing = ring_uses 0 (at 0 0 ++ at 1 1 ++ at 0 1 ++ at 1 0)

-- the chains of its four sides
abbrev pub half_chains : List (List Coord)
half_chains = (at 0 0 ++ at 1 1) ∷ (at 0 1 ++ at 1 1) ∷ (at 0 1 ++ at 1 1 ++ at 1 0) ∷ (at 0 0 ++ at 1 0) ∷ []

-- a thin triangle, and the chains of its sides: the long one passes the pixel of (5, 0)
abbrev pub thin : List EdgeUse
thin = ring_uses 0 (at 0 0 ++ at 5 0 ++ at 10 1)

-- the chains of its three sides
abbrev pub thin_chains : List (List Coord)
thin_chains = (at 0 0 ++ at 5 0) ∷ (at 5 0 ++ at 10 1) ∷ (at 0 0 ++ at 5 0 ++ at 10 1) ∷ []

-- how often a member has edges
abbrev pub times_in : List EdgeUse → List Seg → List ℕ
times_in uses edges = map (λ e. member_times e uses 0) edges

-- which edges the two rings have, and how often
pub record SnappedExamples : Type 0 where
  pub half_segments : segments half_crossing ≡ edge 0 0 1 1 ++ edge 0 1 1 1 ++ edge 0 1 1 0 ++ edge 0 0 1 0
  pub half_edges : segments (snapped_uses half_crossing half_chains) ≡ edge 0 0 1 1 ++ edge 0 1 1 1 ++ edge 0 1 1 1 ++ edge 1 0 1 1 ++ edge 0 0 1 0
  pub one_is_even : times_in (snapped_uses half_crossing half_chains) (edge 0 0 1 0 ++ edge 0 0 1 1 ++ edge 0 1 1 1 ++ edge 1 0 1 1) ≡ 1 ∷ 1 ∷ 2 ∷ 1 ∷ []
  pub thin_edges : segments (snapped_uses thin thin_chains) ≡ edge 0 0 5 0 ++ edge 5 0 10 1 ++ edge 0 0 5 0 ++ edge 5 0 10 1
  pub all_are_even : times_in (snapped_uses thin thin_chains) (edge 0 0 5 0 ++ edge 5 0 10 1) ≡ 2 ∷ 2 ∷ []

-- ---- two squares that overlap

-- two squares of size 10, the second moved by 5 to the right: the regions are 0 (outside), 1, 7 (in both) and 13
abbrev pub overlap_edges : List Seg
overlap_edges =
    edge 0 0 0 10 ++ edge 0 0 5 0 ++ edge 0 10 5 10 ++ edge 5 0 5 10 ++ edge 5 0 10 0 ++ edge 5 10 10 10
    ++ edge 10 0 10 10 ++ edge 10 0 15 0 ++ edge 10 10 15 10 ++ edge 15 0 15 10

-- the overlay of the two squares
abbrev pub overlap : Overlay
overlap = record {
  edges = overlap_edges;
  uses = odd_uses overlap_edges (pairs 0 (0 ∷ 1 ∷ 2 ∷ 4 ∷ 5 ∷ 6 ∷ []) ++ pairs 1 (3 ∷ 4 ∷ 5 ∷ 7 ∷ 8 ∷ 9 ∷ []));
  members = 2;
  numbers = 0 ∷ 1 ∷ 1 ∷ 0 ∷ 0 ∷ 1 ∷ 1 ∷ 7 ∷ 7 ∷ 0 ∷ 0 ∷ 7 ∷ 7 ∷ 13 ∷ 13 ∷ 0 ∷ 0 ∷ 13 ∷ 13 ∷ 0 ∷ [];
}

-- what is measured there
pub record OverlapExamples : Type 0 where
  pub labels : map (label_of overlap) (0 ∷ 1 ∷ 7 ∷ 13 ∷ []) ≡ [] ∷ (0 ∷ []) ∷ (0 ∷ 1 ∷ []) ∷ (1 ∷ []) ∷ []
  pub regions : map (region_area2 overlap) (1 ∷ 7 ∷ 13 ∷ []) ≡ pos 100 ∷ pos 100 ∷ pos 100 ∷ []
  pub members : map (member_area2 overlap.uses) (0 ∷ 1 ∷ []) ≡ pos 200 ∷ pos 200 ∷ []
  pub borders : map (border overlap 7) (0 ∷ 1 ∷ []) ≡ 2560 ∷ 2560 ∷ []
