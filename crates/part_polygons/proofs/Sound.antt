-- The rings of a part, its shell first, are a polygon that is sound for it.
use mathlib.Core.List.{[], ◌∷◌}
use Rattle.std.proofs.Common.{◌≡◌, sym, ◌∙◌, ap, subst, ℕ, Bool, true, not, List, map, flat_map, IsTrue, inl, inr, arith}
use Rattle.std.specs.Prelude.{Contains, All}
use Rattle.std.specs.List.{list_all}
use Rattle.std.proofs.lemmas.List.Elements.{All-nil, All-cons, All-contains, All-append, Contains-append_cases}
use Rattle.cov_types.specs.declared.seg.Seg.{Seg}
use Rattle.plane.specs.Noded.{IsNodedFully}
use Rattle.plane.specs.Parity.{holds}
use Rattle.crossing_laws.proofs.Lists.{contains_here, contains_there}
use Rattle.sector_laws.specs.Sector.{HalfEdge, left, AreDistinct, IsPlanar}
use Rattle.arrangement.specs.Overlay.{Overlay}
use Rattle.arrangement.proofs.LiveOverlays.{kept_is}
use Rattle.shell_laws.specs.Laws.{HasShellFirst}
use Rattle.shell_laws.specs.Part.{IsPartTest, is_part_border, part_boundary, IsTurn}
use Rattle.shell_laws.specs.Ring.{IsRingRound, ring_holds}
use Rattle.shell_laws.proofs.OneRing.{planar_fewer, planar_own, all_or_none}
use Rattle.shell_laws.proofs.Points.{no_hole}
use Rattle.shell_laws.proofs.Simple.{no_vertex_twice}
use Rattle.sound_polygons.specs.Parts.{IsSimple, is_counter_clockwise, is_clockwise, is_free_corner, corners, IsSound}
use Rattle.sound_polygons.proofs.NextWays.{Way}
use Rattle.part_polygons.specs.Inside.{TellsInside, points_of}
use Rattle.part_polygons.proofs.Boundary.{all_sides, go_round}
use Rattle.part_polygons.proofs.Corners.{free_corner}
use Rattle.part_polygons.proofs.Sides.{side_of, edges_are, left_are, all_left, all_corners, long_ring, different_points}

all_map : {X Y : Type 0} (P : Y → Type 0) (f : X → Y) (xs : List X) → ((x : X) → Contains xs x → P (f x)) → All P (map f xs)
all_map P f [] each = All-nil P
all_map P f (x ∷ xs) each = All-cons P (f x) (map f xs) (each x (contains_here x xs)) (all_map P f xs (λ y has. each y (contains_there x y xs has)))

module _ (o : Overlay) (planar : IsPlanar o.edges) (distinct : AreDistinct o.edges) (inside : ℕ → Bool) (passes : HalfEdge → Bool) (tells : TellsInside o inside passes) (part : IsPartTest o.edges passes)
    (shell : List HalfEdge) (holes : List (List HalfEdge)) (first : HasShellFirst o.edges passes shell holes) where
  abbrev rings : List (List HalfEdge)
  rings = shell ∷ holes

  abbrev border : List Seg
  border = part_boundary o.edges passes

  abbrev Ring : List HalfEdge → Type 0
  Ring ring = IsRingRound o.edges passes ring

  is_ring : (ring : List HalfEdge) → Contains rings ring → Ring ring
  is_ring ring has = All-contains Ring rings ring first.rings.each has

  of_border : (ring : List HalfEdge) → Ring ring → (k : HalfEdge) → Contains ring k → Contains border k.edge
  of_border ring is k has = All-contains (λ m. Contains border m.edge) ring k is.way.border has

  in_edges : (e : Seg) → Contains border e → Contains o.edges e
  in_edges e has = (kept_is (is_part_border passes) o.edges e has).0

  simple : (ring : List HalfEdge) → Ring ring → IsSimple (points_of ring)
  simple ring is = record {
    long = long_ring border ring is.closed is.way.once;
    different = different_points ring (no_vertex_twice o.edges planar passes part ring is.way);
    noded = subst IsNodedFully (sym (edges_are border ring is.closed)) (planar_own o.edges planar passes part ring is).noded;
  }

  -- on the left of its half-edges a ring holds what it holds of the part
  holds_left : (ring : List HalfEdge) → Ring ring → (k : HalfEdge) → Contains ring k → ring_holds ring (left k) ≡ ring_holds ring (left first.side)
  holds_left ring is k has =
      all_or_none o.edges planar passes part ring is k first.side (in_edges k.edge (of_border ring is k has)) first.among (All-contains (λ m. passes m ≡ true) ring k is.way.inside has) first.inside

  shell_counter : is_counter_clockwise (points_of shell) ≡ true
  shell_counter =
      let is = is_ring shell (contains_here shell holes) in
      (λ i. list_all (λ p. holds (edges_are border shell is.closed i) p) (left_are border shell is.closed i))
      ∙ all_left (λ p. ring_holds shell p) shell (λ k has. holds_left shell is k has ∙ first.held)

  hole_clockwise : (hole : List HalfEdge) → Contains holes hole → is_clockwise (points_of hole) ≡ true
  hole_clockwise hole listed =
      let is = is_ring hole (contains_there shell hole holes listed) in
      let none = no_hole o.edges planar distinct passes part shell holes first.rings first.side first.among first.inside first.held hole listed in
      (λ i. list_all (λ p. not (holds (edges_are border hole is.closed i) p)) (left_are border hole is.closed i))
      ∙ all_left (λ p. not (ring_holds hole p)) hole (λ k has. ap not (holds_left hole is k has ∙ none))

  -- ---- corners

  in_ring : (some : List (List HalfEdge)) → ((ring : List HalfEdge) → Contains some ring → Ring ring) → (k : HalfEdge) → Contains (flat_map (λ ring. ring) some) k → Contains border k.edge
  in_ring [] are k has = absurd (omega (arith, has.1))
  in_ring (ring ∷ some) are k has = elim (Contains-append_cases ring (flat_map (λ r. r) some) k has) [
    | inl here ↦ of_border ring (are ring (contains_here ring some)) k here
    | inr later ↦ in_ring some (λ r listed. are r (contains_there ring r some listed)) k later
  ]

  abbrev ways : List HalfEdge
  ways = flat_map (λ ring. ring) rings

  abbrev IsFree : List Way → Way × Way → Type 0
  IsFree all corner = is_free_corner all corner ≡ true

  corner : (a b : HalfEdge) → Contains border a.edge → Contains border b.edge → IsTurn border a b → IsFree (map side_of ways) (side_of a, side_of b)
  corner a b in_a in_b turn = free_corner border (planar_fewer o.edges border planar in_edges) ways (in_ring rings is_ring) a b in_a in_b turn

  free_corners : (some : List (List HalfEdge)) → ((ring : List HalfEdge) → Contains some ring → Ring ring) → All (IsFree (map side_of ways)) (flat_map corners (map points_of some))
  free_corners [] are = All-nil (IsFree (map side_of ways))
  free_corners (ring ∷ some) are =
      let is = are ring (contains_here ring some) in
      All-append (IsFree (map side_of ways)) (corners (points_of ring)) (flat_map corners (map points_of some))
      (all_corners border (IsFree (map side_of ways)) (λ k. Contains border k.edge) corner ring is.closed (of_border ring is))
      (free_corners some (λ r listed. are r (contains_there ring r some listed)))

  pub sound : IsSound o inside (map points_of rings)
  sound = record {
    round = go_round o inside passes tells rings first.rings;
    simple = all_map IsSimple points_of rings (λ ring listed. simple ring (is_ring ring listed));
    shell_first = (shell_counter, all_map (λ hole. IsTrue (is_clockwise hole)) points_of holes hole_clockwise);
    free = subst (λ all. All (IsFree all) (flat_map corners (map points_of rings))) (sym (all_sides o.edges passes rings first.rings.each)) (free_corners rings is_ring);
  }
