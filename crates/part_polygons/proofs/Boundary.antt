-- The sides of a part's rings are its boundary, each once, with the part on the left.
use mathlib.Core.List.{[], ◌∷◌}
use Rattle.std.proofs.Common.{◌≡◌, refl, sym, ◌∙◌, ap, subst, ℕ, ◌+◌, Bool, true, false, not, cond, List, ◌++◌, map, filter, flat_map}
use Rattle.std.specs.Prelude.{Contains, All}
use Rattle.std.specs.List.{enumerate_from}
use Rattle.std.specs.List.Sorted.{IsPermutation}
use Rattle.std.proofs.lemmas.Bool.{false≢true}
use Rattle.std.proofs.lemmas.List.{map-append}
use Rattle.std.proofs.lemmas.List.Elements.{All-head, All-tail}
use Rattle.std.proofs.lemmas.List.Sorted.{IsPermutation-map}
use Rattle.cov_types.specs.declared.seg.Seg.{Seg}
use Rattle.cov_types.specs.Uses.{sides}
use Rattle.crossing_laws.proofs.Lists.{contains_here, contains_there}
use Rattle.sector_laws.specs.Sector.{HalfEdge}
use Rattle.arrangement.specs.Overlay.{Overlay, region_above, region_below}
use Rattle.arrangement.proofs.LiveOverlays.{kept_is}
use Rattle.shell_laws.specs.Part.{is_part_border, part_boundary}
use Rattle.shell_laws.specs.Ring.{way_edges, IsRingRound, AreRings}
use Rattle.shell_laws.proofs.Simple.{by_direction}
use Rattle.sound_polygons.specs.Parts.{boundary_way, boundary}
use Rattle.sound_polygons.proofs.NextWays.{Way}
use Rattle.part_polygons.specs.Inside.{TellsInside, points_of}
use Rattle.part_polygons.proofs.Sides.{side_of, sides_are}

-- ---- the sides of all rings

module _ (edges : List Seg) (passes : HalfEdge → Bool) where
  pub all_sides : (rings : List (List HalfEdge)) → All (IsRingRound edges passes) rings → flat_map sides (map points_of rings) ≡ map side_of (flat_map (λ ring. ring) rings)
  all_sides [] each = refl
  all_sides (ring ∷ rings) each =
      (λ i. sides_are (part_boundary edges passes) ring (All-head (IsRingRound edges passes) ring rings each).closed i ++ all_sides rings (All-tail (IsRingRound edges passes) ring rings each) i)
      ∙ sym (map-append side_of ring (flat_map (λ r. r) rings))

  -- an edge as a side with the part on its left
  abbrev way_along : Seg → Way
  way_along e = cond (passes (record { edge = e; forwards = true })) (e.lo, e.hi) (e.hi, e.lo)

  one_along : (k : HalfEdge) → passes k ≡ true → is_part_border passes k.edge ≡ true → side_of k ≡ way_along k.edge
  one_along = by_direction (λ k. passes k ≡ true → is_part_border passes k.edge ≡ true → side_of k ≡ way_along k.edge)
      (λ e pass border. sym (ap (λ b. cond {A = Way} b (e.lo, e.hi) (e.hi, e.lo)) pass))
      (λ e pass border. sym (ap (λ b. cond {A = Way} b (e.lo, e.hi) (e.hi, e.lo)) (other _ _ pass border)))
    where
      other : (a b : Bool) → b ≡ true → cond a (not b) b ≡ true → a ≡ false
      other false b h k = refl
      other true true h k = absurd (false≢true k)
      other true false h k = absurd (false≢true h)

  ring_along : (ring : List HalfEdge) → All (λ k. passes k ≡ true) ring → All (λ k. is_part_border passes k.edge ≡ true) ring → map side_of ring ≡ map way_along (way_edges ring)
  ring_along [] inside border = refl
  ring_along (k ∷ ring) inside border = λ i.
      one_along k (All-head (λ m. passes m ≡ true) k ring inside) (All-head (λ m. is_part_border passes m.edge ≡ true) k ring border) i
      ∷ ring_along ring (All-tail (λ m. passes m ≡ true) k ring inside) (All-tail (λ m. is_part_border passes m.edge ≡ true) k ring border) i

  rings_along : (rings : List (List HalfEdge)) → All (IsRingRound edges passes) rings → flat_map sides (map points_of rings) ≡ map way_along (flat_map way_edges rings)
  rings_along [] each = refl
  rings_along (ring ∷ rings) each =
      let is = All-head (IsRingRound edges passes) ring rings each in
      (λ i. (sides_are (part_boundary edges passes) ring is.closed ∙ ring_along ring is.way.inside (λ j d within. (kept_is (is_part_border passes) edges _ (is.way.border j d within)).1)) i
      ++ rings_along rings (All-tail (IsRingRound edges passes) ring rings each) i)
      ∙ sym (map-append way_along (way_edges ring) (flat_map way_edges rings))

-- ---- the boundary

module _ (o : Overlay) (inside : ℕ → Bool) (passes : HalfEdge → Bool) (tells : TellsInside o inside passes) where
  abbrev along : Seg → Way
  along e = way_along o.edges passes e

  one_way : (e : Seg) (a b : Bool) (es : List Seg) (rest : List Way) → passes (record { edge = e; forwards = true }) ≡ a → map along es ≡ rest
      → map along (cond (cond a (not b) b) (e ∷ es) es) ≡ boundary_way a b e ++ rest
  one_way e true true es rest is same = same
  one_way e false false es rest is same = same
  one_way e true false es rest is same = λ i. cond {A = Way} (is i) (e.lo, e.hi) (e.hi, e.lo) ∷ same i
  one_way e false true es rest is same = λ i. cond {A = Way} (is i) (e.lo, e.hi) (e.hi, e.lo) ∷ same i

  abbrev way_round : ℕ × Seg → List Way
  way_round p = boundary_way (inside (region_above o p.0)) (inside (region_below o p.0)) p.1

  border_ways : (n : ℕ) (es : List Seg) → ((k : ℕ) (e : Seg) → Contains (enumerate_from n es) (k, e)
      → (passes (record { edge = e; forwards = true }) ≡ inside (region_above o k)) × (passes (record { edge = e; forwards = false }) ≡ inside (region_below o k)))
      → map along (filter (is_part_border passes) es) ≡ flat_map way_round (enumerate_from n es)
  border_ways n [] each = refl
  border_ways n (e ∷ es) each =
      let here = each n e (contains_here (n, e) (enumerate_from (n + 1) es)) in
      let rest = border_ways (n + 1) es (λ k f has. each k f (contains_there (n, e) (k, f) (enumerate_from (n + 1) es) has)) in
      one_way e (passes (record { edge = e; forwards = true })) (passes (record { edge = e; forwards = false })) (filter (is_part_border passes) es) (flat_map way_round (enumerate_from (n + 1) es)) refl rest
      ∙ (λ i. boundary_way (here.0 i) (here.1 i) e ++ flat_map way_round (enumerate_from (n + 1) es))

  pub go_round : (rings : List (List HalfEdge)) → AreRings o.edges passes rings → IsPermutation (flat_map sides (map points_of rings)) (boundary o inside)
  go_round rings are =
      let from = rings_along o.edges passes rings are.each in
      let to = border_ways 0 o.edges (λ k e has. (tells.above k e has, tells.below k e has)) in
      let mapped = IsPermutation-map along (flat_map way_edges rings) (part_boundary o.edges passes) are.cover in
      subst (λ xs. IsPermutation xs (boundary o inside)) (sym from) (subst (λ ys. IsPermutation (map along (flat_map way_edges rings)) ys) to mapped)
