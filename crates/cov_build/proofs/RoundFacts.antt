-- Rings that go round a part have three points or more, in range.
use mathlib.Core.List.{List, [], ◌∷◌, ◌++◌}
use Rattle.std.proofs.Common.{◌≡◌, refl, sym, ◌∙◌, ap, subst, ℕ, ◌<◌, ◌≤◌, Bool, true, false, true≢false, cond, length, map, flat_map, zip, get_or, Contains, Option, inl, inr, arith}
use Rattle.std.proofs.lemmas.List.{length-append}
use Rattle.std.proofs.lemmas.List.Elements.{All-contains, Contains-append_left, Contains-append_right, Contains-get_or}
use Rattle.std.proofs.lemmas.List.Sorted.{Contains-permutation}
use Rattle.cov_types.specs.declared.coord.Coord.{Coord}
use Rattle.cov_types.specs.declared.seg.Seg.{Seg}
use Rattle.cov_types.specs.Coord.{is_before}
use Rattle.cov_types.specs.Coverage.{IsPolyFormed, IsPolyInRange}
use Rattle.cov_types.specs.Range.{IsInRange, IsSegInRange}
use Rattle.cov_types.specs.Uses.{sides}
use Rattle.cov_types.proofs.Equal.{same_segs}
use Rattle.cov_types.proofs.Order.{is_before-asymm, is_before-irrefl}
use Rattle.plane.specs.Region.{AreRegions}
use Rattle.arrangement.specs.Overlay.{Overlay}
use Rattle.crossing_laws.proofs.Lists.{contains_here, contains_there, contains-map}
use Rattle.region_laws.proofs.Balance.{first_or_later}
use Rattle.sector_laws.specs.Sector.{IsPlanar, AreDistinct}
use Rattle.cov_build.specs.Boundaries.{boundary_list, boundary_edges, way_round}
use Rattle.cov_build.specs.Parted.{ArePartsOf}
use Rattle.cov_build.specs.Rings.{AreBoundaryRings}
use Rattle.cov_build.specs.declared.boundary.BoundaryEdge.{BoundaryEdge}
use Rattle.cov_build.specs.declared.part.Part.{Part}
use Rattle.cov_build.proofs.MemberLists.{from_map}
use Rattle.cov_build.proofs.Passed.{some_ring}
use Rattle.cov_build.proofs.PartLists.{at_of}
use Rattle.cov_build.proofs.PartSides.{passes, HasPart, bounds_part, bounds_thinned, is_boundary}
use Rattle.cov_build.proofs.Thinned.{up, thinned_among}

pub in_flat : {X Y : Type 0} (f : X → List Y) (xs : List X) (x : X) (y : Y) → Contains xs x → Contains (f x) y → Contains (flat_map f xs) y
in_flat f [] x y c d = absurd (omega (arith, c.1))
in_flat f (z ∷ xs) x y c d = elim (first_or_later z xs x c) [
  | inl here ↦ Contains-append_left (f z) (flat_map f xs) y (subst (λ v. Contains (f v) y) (sym here) d)
  | inr later ↦ Contains-append_right (f z) (flat_map f xs) y (in_flat f xs x y later d)
]

in_zip : (xs ys : List Coord) (p : Coord) → length xs ≤ length ys → Contains xs p → (q : Coord) × Contains (zip xs ys) (p, q)
in_zip [] ys p short c = absurd (omega (arith, c.1))
in_zip (x ∷ xs) [] p short c = absurd (omega arith)
in_zip (x ∷ xs) (y ∷ ys) p short c = elim (first_or_later x xs p c) [
  | inl here ↦ (y, subst (λ v. Contains ((x, y) ∷ zip xs ys) (v, y)) here (contains_here (x, y) (zip xs ys)))
  | inr later ↦ (let (q, there) = in_zip xs ys p (omega (arith, short)) later in (q, contains_there (x, y) (p, q) (zip xs ys) there))
]

-- each point begins a side
pub in_sides : (points : List Coord) (p : Coord) → Contains points p → (q : Coord) × Contains (sides points) (p, q)
in_sides [] p c = absurd (omega (arith, c.1))
in_sides (x ∷ points) p c = in_zip (x ∷ points) (points ++ x ∷ []) p (let long = length-append points (x ∷ []) in omega (arith, long)) c

abbrev way_of : Bool → Seg → Coord × Coord
way_of t e = cond t (e.lo, e.hi) (e.hi, e.lo)

same_ends : (e : Seg) → e.lo ≡ e.hi → ⊥
same_ends e same = true≢false (sym e.ordered ∙ ap (is_before e.lo) (sym same) ∙ is_before-irrefl e.lo)

no_loop : (b : BoundaryEdge) (p : Coord) → let w : Coord × Coord = (p, p) in way_round b ≡ w → ⊥
no_loop b p is = by b.above is
  where
    by : (t : Bool) → (let w : Coord × Coord = (p, p) in way_of t b.edge ≡ w) → ⊥
    by true h = same_ends b.edge ((λ i. (h i).0) ∙ sym (λ i. (h i).1))
    by false h = same_ends b.edge ((λ i. (h i).1) ∙ sym (λ i. (h i).0))

module _ (o : Overlay) (planar : IsPlanar o.edges) (distinct : AreDistinct o.edges) (regions : AreRegions o.edges o.numbers) (owners : ℕ → Option ℕ) (parts : List (Option Part)) (are : ArePartsOf o owners parts) (p : ℕ) where
  abbrev bounds : List BoundaryEdge
  bounds = boundary_list parts p o.edges

  part_at_edge : (b : BoundaryEdge) → Contains bounds b → HasPart o planar distinct regions owners parts are p b
  part_at_edge b c = bounds_part o planar distinct regions owners parts are p c.0 b (at_of bounds b c)

  no_back : (a b : BoundaryEdge) → Contains bounds a → Contains bounds b → (p q : Coord) → (let w : Coord × Coord = (p, q) in way_round a ≡ w) → (let w : Coord × Coord = (q, p) in way_round b ≡ w) → ⊥
  no_back a b in_a in_b x y is_a is_b = by a.above b.above refl refl is_a is_b
    where
      against : (e f : Seg) → e.lo ≡ f.hi → e.hi ≡ f.lo → ⊥
      against e f first second = true≢false (sym f.ordered ∙ (λ i. is_before (sym second i) (sym first i)) ∙ is_before-asymm e.lo e.hi e.ordered)

      one_side : a.edge ≡ b.edge → a.above ≡ b.above
      one_side same = sym (part_at_edge a in_a).above ∙ ap (λ e. passes o planar distinct regions owners parts are p (up e)) same ∙ (part_at_edge b in_b).above

      by : (s t : Bool) → a.above ≡ s → b.above ≡ t → (let w : Coord × Coord = (x, y) in way_of s a.edge ≡ w) → (let w : Coord × Coord = (y, x) in way_of t b.edge ≡ w) → ⊥
      by true true s_is t_is h k = against a.edge b.edge ((λ i. (h i).0) ∙ sym (λ i. (k i).1)) ((λ i. (h i).1) ∙ sym (λ i. (k i).0))
      by false false s_is t_is h k = against a.edge b.edge ((λ i. (h i).1) ∙ sym (λ i. (k i).0)) ((λ i. (h i).0) ∙ sym (λ i. (k i).1))
      by true false s_is t_is h k = true≢false (sym s_is ∙ one_side (same_segs a.edge b.edge ((λ i. (h i).0) ∙ sym (λ i. (k i).1)) ((λ i. (h i).1) ∙ sym (λ i. (k i).0))) ∙ t_is)
      by false true s_is t_is h k = true≢false (sym t_is ∙ sym (one_side (same_segs a.edge b.edge ((λ i. (h i).1) ∙ sym (λ i. (k i).0)) ((λ i. (h i).0) ∙ sym (λ i. (k i).1)))) ∙ s_is)

  module _ (rings : List (List Coord)) (round : AreBoundaryRings bounds rings) where
    pub edge_of_side : (ring : List Coord) → Contains rings ring → (w : Coord × Coord) → Contains (sides ring) w → (b : BoundaryEdge) × (Contains bounds b × (way_round b ≡ w))
    edge_of_side ring in_rings w in_ring = from_map way_round bounds w (Contains-permutation (flat_map sides rings) (map way_round bounds) w round.sides (in_flat sides rings ring w in_rings in_ring))

    long : (ring : List Coord) → 0 < length ring → ((w : Coord × Coord) → Contains (sides ring) w → (b : BoundaryEdge) × (Contains bounds b × (way_round b ≡ w))) → 3 ≤ length ring
    long [] some edge = absurd (omega arith)
    long (x ∷ []) some edge = absurd (let (b, (in_b, is)) = edge (x, x) (contains_here (x, x) []) in no_loop b x is)
    long (x ∷ y ∷ []) some edge = absurd (
        let (a, (in_a, is_a)) = edge (x, y) (contains_here (x, y) ((y, x) ∷ [])) in
        let (b, (in_b, is_b)) = edge (y, x) (contains_there (x, y) (y, x) ((y, x) ∷ []) (contains_here (y, x) [])) in
        no_back a b in_a in_b x y is_a is_b
        )
    long (x ∷ y ∷ z ∷ ring) some edge = omega arith

    pub formed : 0 < length bounds → IsPolyFormed rings
    formed some = (
      some_ring bounds (is_boundary o planar distinct regions owners parts are p some) rings round,
      λ k d below. long (get_or rings k d) (round.some k d below) (λ w c. edge_of_side (get_or rings k d) (Contains-get_or rings k d below) w c),
    )

    pub in_range : IsPolyInRange rings
    in_range k d below j e within =
        let ring = get_or rings k d in
        let point = get_or ring j e in
        let (q, side) = in_sides ring point (Contains-get_or ring j e within) in
        let (b, (in_b, is)) = edge_of_side ring (Contains-get_or rings k d below) (point, q) side in
        let among = thinned_among (passes o planar distinct regions owners parts are p) o.edges (boundary_edges bounds) (bounds_thinned o planar distinct regions owners parts are p) b.edge (contains-map (λ (x : BoundaryEdge). x.edge) bounds b in_b) in
        of_end b.above b.edge point q is (All-contains IsSegInRange o.edges b.edge planar.in_range among)
      where
        of_end : (t : Bool) (e : Seg) (x y : Coord) → (let w : Coord × Coord = (x, y) in way_of t e ≡ w) → IsSegInRange e → IsInRange x
        of_end true e x y h range = subst IsInRange (λ i. (h i).0) range.lo
        of_end false e x y h range = subst IsInRange (λ i. (h i).0) range.hi
