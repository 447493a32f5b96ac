-- The polygons of each member correspond one to one to the parts of its regions, are sound for them, and are canonical.
use mathlib.Core.List.{List, [], ◌∷◌}
use Rattle.std.proofs.Common.{◌≡◌, refl, sym, ◌∙◌, ap, subst, ℕ, ◌<◌, ◌≤◌, Bool, true, false, length, flat_map, drop, get_or, sum_by, All, Contains, Option, None, arith, ◌^◌}
use Rattle.std.specs.Global.{Vec}
use Rattle.std.specs.List.Sorted.{IsPermutation}
use Rattle.std.proofs.lemmas.List.Elements.{Contains-get_or}
use Rattle.std.proofs.lemmas.List.Sorted.{Contains-permutation, IsPermutation-sym}
use Rattle.std.proofs.lemmas.Option.{slice_get_within, slice_get-get_or}
use Rattle.cov_types.specs.declared.coord.Coord.{Coord}
use Rattle.cov_types.specs.Coverage.{Members, IsPolyFormed, IsPolyInRange, IsFormed}
use Rattle.cov_types.specs.Uses.{sides}
use Rattle.plane.specs.Region.{IsOuterRegion, AreRegions}
use Rattle.arrangement.specs.Overlay.{Overlay}
use Rattle.sector_laws.specs.Sector.{IsPlanar, AreDistinct}
use Rattle.sound_polygons.specs.Cleaned.{IsPolyCanonical, IsSoundFor, ArePolygonsOf, IsBuilt, shell_of}
use Rattle.sound_polygons.specs.Parts.{boundary, IsShellFirst, IsSound}
use Rattle.cov_build.specs.Boundaries.{AreBoundaries, boundary_list, boundary_edges}
use Rattle.cov_build.specs.Members.{IsPartPolygon, ArePartPolygons, AreAllPartPolygons, AreShellsSorted, AreSortedMembers}
use Rattle.cov_build.specs.Parted.{ArePartsOf}
use Rattle.cov_build.specs.Rings.{AreBoundaryRings}
use Rattle.cov_build.specs.Owners.{owner_in}
use Rattle.cov_build.specs.declared.boundary.BoundaryEdge.{BoundaryEdge}
use Rattle.cov_build.specs.declared.part.Part.{Part}
use Rattle.cov_build.proofs.BoundaryLists.{some_at}
use Rattle.cov_build.proofs.BuiltParts.{boundary_at, each_sound, every_sound}
use Rattle.cov_build.proofs.Once.{holes_differ, sorted_strict, poly_ways, shells_differ, meet_one, some_way, sorted_once}
use Rattle.cov_build.proofs.Orders.{points_weak, shells_weak}
use Rattle.cov_build.proofs.PartSides.{is_boundary}
use Rattle.cov_build.proofs.RoundFacts.{formed, in_range}

same_test : (a b : Bool) → (a ≡ true → b ≡ true) → (b ≡ true → a ≡ true) → a ≡ b
same_test true b on back = sym (on refl)
same_test false true on back = back refl
same_test false false on back = refl

-- a sound polygon has a ring, and its rings have three points or more
sound_formed : (o : Overlay) (inside : ℕ → Bool) (rings : List (List Coord)) → IsSound o inside rings → IsPolyFormed rings
sound_formed o inside rings is = (some rings is.shell_first, λ k d below. (is.simple k d below).long)
  where
    some : (rs : List (List Coord)) → IsShellFirst rs → 1 ≤ length rs
    some [] first = absurd first
    some (shell ∷ holes) first = omega arith

-- two polygons that are sound for one part have a way in common
same_part_way : (o : Overlay) (owners : ℕ → Option ℕ) (i r : ℕ) (a b : List (List Coord)) → IsSoundFor o owners i r a → IsSoundFor o owners i r b
    → (w : Coord × Coord) × (Contains (flat_map sides a) w × Contains (flat_map sides b) w)
same_part_way o owners i r a b first second =
    let (w, in_a) = some_way a (sound_formed o first.inside a first.sound) in
    let same : (g : ℕ) → first.inside g ≡ second.inside g = λ g. same_test (first.inside g) (second.inside g) (λ h. (second.part g).1 ((first.part g).0 h)) (λ h. (first.part g).1 ((second.part g).0 h)) in
    let bounds : boundary o first.inside ≡ boundary o second.inside = ap (boundary o) (λ t g. same g t) in
    let in_boundary = Contains-permutation (flat_map sides a) (boundary o first.inside) w first.sound.round in_a in
    (w, (in_a, Contains-permutation (boundary o second.inside) (flat_map sides b) w (IsPermutation-sym (flat_map sides b) (boundary o second.inside) second.sound.round) (subst (λ ways. Contains ways w) bounds in_boundary)))

module _ (o : Overlay) (planar : IsPlanar o.edges) (distinct : AreDistinct o.edges) (regions : AreRegions o.edges o.numbers) (owned : List (Option ℕ)) (parts : List (Option Part)) (are : ArePartsOf o (owner_in owned) parts)
    (lists : List (Vec BoundaryEdge)) (bound : AreBoundaries parts o.edges lists) (outer : (n : ℕ) → IsOuterRegion o.edges n → owner_in owned n ≡ None) where
  distinct_boundary : (first i : ℕ) (rings : List (List Coord)) → (is : IsPartPolygon lists owned first i rings) → AreDistinct (boundary_edges is.boundary)
  distinct_boundary first i rings is =
      let same = boundary_at o planar distinct regions owned parts are lists bound i is.place is.boundary is.member_part in
      let some : 0 < length (boundary_list parts is.place o.edges) = subst (λ (bs : List BoundaryEdge). 0 < length bs) same is.member_part.some in
      subst (λ bs. AreDistinct (boundary_edges bs)) (sym same) (is_boundary o planar distinct regions (owner_in owned) parts are is.place some).distinct

  module _ (i : ℕ) (before polys : List (List (List Coord))) (of : ArePartPolygons lists owned (length lists) i before) (same : IsPermutation before polys) (sorted : AreShellsSorted polys) where
    part_of : (rings : List (List Coord)) → Contains polys rings → IsPartPolygon lists owned (length lists) i rings
    part_of rings c = of.each rings (Contains-permutation polys before rings (IsPermutation-sym before polys same) c)

    once : (w : Coord × Coord) → sum_by (poly_ways w) polys ≤ 1
    once = sorted_once before polys same of.apart (λ rings c. (let is = of.each rings c in (is.boundary, (distinct_boundary (length lists) i rings is, is.polygon.bounds))))

    pub all_formed : All IsPolyFormed polys
    all_formed = λ k d below. (
        let rings = get_or polys k d in
        let is = part_of rings (Contains-get_or polys k d below) in
        let same_boundary = boundary_at o planar distinct regions owned parts are lists bound i is.place is.boundary is.member_part in
        formed o planar distinct regions (owner_in owned) parts are is.place rings (subst (λ bs. AreBoundaryRings bs rings) same_boundary is.polygon.bounds)
        (subst (λ (bs : List BoundaryEdge). 0 < length bs) same_boundary is.member_part.some)
        )

    pub all_in_range : All IsPolyInRange polys
    all_in_range = λ k d below. (
        let rings = get_or polys k d in
        let is = part_of rings (Contains-get_or polys k d below) in
        let same_boundary = boundary_at o planar distinct regions owned parts are lists bound i is.place is.boundary is.member_part in
        in_range o planar distinct regions (owner_in owned) parts are is.place rings (subst (λ bs. AreBoundaryRings bs rings) same_boundary is.polygon.bounds)
        )

    canonical_poly : (rings : List (List Coord)) → Contains polys rings → IsPolyCanonical rings
    canonical_poly rings c =
        let is = part_of rings c in
        record {
          first_least = is.polygon.bounds.least;
          holes = sorted_strict (λ (g : List Coord). g) points_weak (drop 1 rings) is.polygon.holes (holes_differ is.boundary (distinct_boundary (length lists) i rings is) rings is.polygon.bounds);
        }

    pub member_built : ArePolygonsOf o (owner_in owned) i polys
    member_built = record {
      each = λ rings c. each_sound o planar distinct regions owned parts are lists bound outer (length lists) i rings (part_of rings c);
      every = λ r is. (
          let found = every_sound o planar distinct regions owned parts are lists bound outer i before of r is in
          (found.0, (Contains-permutation before polys found.0 same found.1.0, found.1.1))
          );
      one = λ r m n a b at_m at_n first second. (
          let (w, (in_a, in_b)) = same_part_way o (owner_in owned) i r a b first second in
          meet_one polys once m n a b at_m at_n w in_a in_b
          );
      canonical = record {
        each = λ k d below. canonical_poly (get_or polys k d) (Contains-get_or polys k d below);
        shells = sorted_strict shell_of shells_weak polys sorted (shells_differ polys once all_formed);
      };
    }

  pub built_polygons : (members : ℕ) (unsorted out : Members) → AreAllPartPolygons lists owned (length lists) members unsorted → AreSortedMembers unsorted out → IsBuilt o (owner_in owned) members out
  built_polygons members unsorted out all sorted = record {
    count = sorted.count ∙ all.count;
    each = λ i polys at. (
        let (before, at_before) = some_at unsorted i (let below = slice_get_within out i polys at in omega (arith, below, sorted.count)) in
        let (same, ascend) = sorted.each i before polys at_before at in
        member_built i before polys (all.each i before at_before) same ascend
        );
  }

  pub built_formed : (members : ℕ) (unsorted out : Members) → members < 2 ^ 32 → AreAllPartPolygons lists owned (length lists) members unsorted → AreSortedMembers unsorted out → IsFormed out
  built_formed members unsorted out few all sorted = record {
    in_range = record {
      coords = λ k d below. (let (before, (of, (same, ascend))) = parts_at k d below in all_in_range k before (get_or out k d) of same ascend);
      count = subst (λ n. n < 2 ^ 32) (sym (sorted.count ∙ all.count)) few;
    };
    shapes = λ k d below. (let (before, (of, (same, ascend))) = parts_at k d below in all_formed k before (get_or out k d) of same ascend);
  }
    where
      parts_at : (k : ℕ) (d : List (List (List Coord))) → k < length out
          → (before : List (List (List Coord))) × (ArePartPolygons lists owned (length lists) k before × (IsPermutation before (get_or out k d) × AreShellsSorted (get_or out k d)))
      parts_at k d below =
          let (before, at_before) = some_at unsorted k (omega (arith, below, sorted.count)) in
          let moved = sorted.each k before (get_or out k d) at_before (slice_get-get_or out k d below) in
          (before, (all.each k before at_before, (moved.0, moved.1)))
