-- The sides of the ring of points where the half-edges of a closed way begin are those half-edges.
use mathlib.Core.List.{[], ◌∷◌}
use Rattle.std.proofs.Common.{◌≡◌, refl, sym, ◌∙◌, ap, subst, ◌≤◌, ◌<◌, Bool, true, false, cond, List, ◌++◌, length, map, zip, take, drop, flat_map, option_to_list, Option, Some, arith, ◌≢◌}
use Rattle.std.specs.Prelude.{Contains, All, AllPairs}
use Rattle.std.specs.List.{list_all}
use Rattle.std.proofs.lemmas.Bool.{and_from, false≢true}
use Rattle.std.proofs.lemmas.List.{get_or-map, length-map}
use Rattle.std.proofs.lemmas.List.Elements.{All-nil, All-cons}
use Rattle.cov_types.specs.declared.seg.Seg.{Seg}
use Rattle.cov_types.specs.Coord.{is_before}
use Rattle.cov_types.specs.Uses.{sides, seg_between}
use Rattle.cov_types.proofs.Between.{seg_between-ordered, seg_between-reversed}
use Rattle.cov_types.proofs.Equal.{same_segs}
use Rattle.cov_types.proofs.Order.{is_before-irrefl, is_before-asymm}
use Rattle.crossing_laws.proofs.Lists.{contains_here, contains_there}
use Rattle.plane.specs.Point.{Point}
use Rattle.plane.specs.Segment.{upper, lower}
use Rattle.sector_laws.specs.Sector.{HalfEdge, origin, target, left}
use Rattle.shell_laws.specs.Part.{IsTurn, AreTurns}
use Rattle.shell_laws.specs.Ring.{way_edges, IsClosed}
use Rattle.shell_laws.proofs.Simple.{by_direction, meets}
use Rattle.sound_polygons.specs.Parts.{ring_edges, left_points, corners}
use Rattle.sound_polygons.proofs.NextWays.{Way}
use Rattle.sound_polygons.proofs.Rotated.{sides_turned}
use Rattle.part_polygons.specs.Inside.{points_of}

-- a half-edge as a side: from where it begins to where it ends
abbrev pub side_of : HalfEdge → Way
side_of h = (origin h, target h)

-- ---- sides

sides_on : (boundary : List Seg) (h : HalfEdge) (rest : List HalfEdge) (end : HalfEdge) → AreTurns boundary (h ∷ (rest ++ end ∷ []))
    → zip (map origin (h ∷ rest)) (map origin rest ++ origin end ∷ []) ≡ map side_of (h ∷ rest)
sides_on boundary h [] end turns = λ i. (origin h, sym (meets boundary h end turns.0) i) ∷ []
sides_on boundary h (k ∷ ks) end turns = λ i. (origin h, sym (meets boundary h k turns.0) i) ∷ sides_on boundary k ks end turns.1 i

pub sides_are : (boundary : List Seg) (ring : List HalfEdge) → IsClosed boundary ring → sides (points_of ring) ≡ map side_of ring
sides_are boundary [] closed = absurd closed
sides_are boundary (h ∷ rest) closed = sides_on boundary h rest h closed

-- ---- edges and points on the left

pub between_is : (k : HalfEdge) → seg_between (origin k) (target k) ≡ Some k.edge
between_is = by_direction (λ k. seg_between (origin k) (target k) ≡ Some k.edge) (λ e. seg_between-ordered e.lo e.hi e refl refl) (λ e. seg_between-reversed e.hi e.lo e refl refl)

edges_on : (ring : List HalfEdge) → flat_map (λ (side : Way). option_to_list (seg_between side.0 side.1)) (map side_of ring) ≡ way_edges ring
edges_on [] = refl
edges_on (k ∷ ring) = λ i. option_to_list (between_is k i) ++ edges_on ring i

pub edges_are : (boundary : List Seg) (ring : List HalfEdge) → IsClosed boundary ring → ring_edges (points_of ring) ≡ way_edges ring
edges_are boundary ring closed = ap (flat_map (λ (side : Way). option_to_list (seg_between side.0 side.1))) (sides_are boundary ring closed) ∙ edges_on ring

left_is : (k : HalfEdge) → cond (is_before (origin k) (target k)) (upper k.edge) (lower k.edge) ≡ left k
left_is = by_direction (λ k. cond (is_before (origin k) (target k)) (upper k.edge) (lower k.edge) ≡ left k)
    (λ e. ap (λ b. cond b (upper e) (lower e)) e.ordered) (λ e. ap (λ b. cond b (upper e) (lower e)) (is_before-asymm e.lo e.hi e.ordered))

left_on : (ring : List HalfEdge) → flat_map left_points (map side_of ring) ≡ map left ring
left_on [] = refl
left_on (k ∷ ring) =
    ap (λ (o : Option Seg). flat_map (λ (e : Seg). cond (is_before (origin k) (target k)) (upper e) (lower e) ∷ []) (option_to_list o) ++ flat_map left_points (map side_of ring)) (between_is k)
    ∙ (λ i. left_is k i ∷ left_on ring i)

pub left_are : (boundary : List Seg) (ring : List HalfEdge) → IsClosed boundary ring → flat_map left_points (sides (points_of ring)) ≡ map left ring
left_are boundary ring closed = ap (flat_map left_points) (sides_are boundary ring closed) ∙ left_on ring

pub all_left : (f : Point → Bool) (ring : List HalfEdge) → ((k : HalfEdge) → Contains ring k → f (left k) ≡ true) → list_all f (map left ring) ≡ true
all_left f [] each = refl
all_left f (k ∷ ring) each = and_from _ _ (each k (contains_here k ring)) (all_left f ring (λ m has. each m (contains_there k m ring has)))

-- ---- corners

module _ (boundary : List Seg) (P : Way × Way → Type 0) (Among : HalfEdge → Type 0) (corner : (a b : HalfEdge) → Among a → Among b → IsTurn boundary a b → P (side_of a, side_of b)) where
  corners_on : (h : HalfEdge) (rest : List HalfEdge) (end : HalfEdge) → AreTurns boundary (h ∷ (rest ++ end ∷ [])) → ((k : HalfEdge) → Contains (h ∷ rest) k → Among k) → Among end
      → All P (zip (map side_of (h ∷ rest)) (map side_of rest ++ side_of end ∷ []))
  corners_on h [] end turns each last = All-cons P (side_of h, side_of end) [] (corner h end (each h (contains_here h [])) last turns.0) (All-nil P)
  corners_on h (k ∷ ks) end turns each last =
      All-cons P (side_of h, side_of k) (zip (map side_of (k ∷ ks)) (map side_of ks ++ side_of end ∷ []))
      (corner h k (each h (contains_here h (k ∷ ks))) (each k (contains_there h k (k ∷ ks) (contains_here k ks))) turns.0)
      (corners_on k ks end turns.1 (λ m has. each m (contains_there h m (k ∷ ks) has)) last)

  pub all_corners : (ring : List HalfEdge) → IsClosed boundary ring → ((k : HalfEdge) → Contains ring k → Among k) → All P (corners (points_of ring))
  all_corners [] closed each = absurd closed
  all_corners (h ∷ rest) closed each =
      subst (All P) (sym (ap (zip (sides (points_of (h ∷ rest)))) (sides_turned (points_of (h ∷ rest))) ∙ ap (λ xs. zip xs (drop 1 xs ++ take 1 xs)) (sides_are boundary (h ∷ rest) closed)))
      (corners_on h rest h closed each (each h (contains_here h rest)))

-- ---- rings have three points or more, all different

no_loop : (k : HalfEdge) → target k ≡ origin k → ⊥
no_loop = by_direction (λ k. target k ≡ origin k → ⊥) (λ e same. unordered e same) (λ e same. unordered e (sym same))
  where
    unordered : (e : Seg) → e.hi ≡ e.lo → ⊥
    unordered e same = false≢true (sym (is_before-irrefl e.lo) ∙ subst (λ c. is_before e.lo c ≡ true) same e.ordered)

there_and_back : (h g : HalfEdge) → target h ≡ origin g → target g ≡ origin h → h.edge ≡ g.edge
there_and_back h g on back = by h.edge g.edge h.forwards g.forwards on back
  where
    round : (e f : Seg) → e.hi ≡ f.lo → f.hi ≡ e.lo → ⊥
    round e f p q =
        let turned : is_before e.hi e.lo ≡ true = subst (λ c. is_before c e.lo ≡ true) (sym p) (subst (λ c. is_before f.lo c ≡ true) q f.ordered) in
        false≢true (sym (is_before-asymm e.lo e.hi e.ordered) ∙ turned)

    by : (e f : Seg) (b c : Bool) → cond b e.hi e.lo ≡ cond c f.lo f.hi → cond c f.hi f.lo ≡ cond b e.lo e.hi → e ≡ f
    by e f true true p q = absurd (round e f p q)
    by e f true false p q = same_segs e f (sym q) p
    by e f false true p q = same_segs e f p (sym q)
    by e f false false p q = absurd (round e f (sym q) (sym p))

pub long_ring : (boundary : List Seg) (ring : List HalfEdge) → IsClosed boundary ring → AllPairs (λ h g. ¬ (h.edge ≡ g.edge)) ring → 3 ≤ length (points_of ring)
long_ring boundary [] closed once = absurd closed
long_ring boundary (h ∷ []) closed once = absurd (no_loop h (meets boundary h h closed.0))
long_ring boundary (h ∷ g ∷ []) closed once = absurd (once 0 1 h (omega arith) (omega arith) (there_and_back h g (meets boundary h g closed.0) (meets boundary g h closed.1.0)))
long_ring boundary (h ∷ g ∷ k ∷ ring) closed once = omega arith

pub different_points : (ring : List HalfEdge) → AllPairs (λ h g. ¬ (origin h ≡ origin g)) ring → AllPairs (λ p q. p ≢ q) (points_of ring)
different_points [] apart i j d less within = absurd (omega arith)
different_points (h ∷ rest) apart i j d less within =
    let inside : j < length (h ∷ rest) = omega (arith, length-map (h ∷ rest) origin) in
    λ same. apart i j h less inside (sym (get_or-map origin (h ∷ rest) i h d (omega arith)) ∙ same ∙ get_or-map origin (h ∷ rest) j h d inside)
