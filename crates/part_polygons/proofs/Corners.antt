-- The corners of a part's rings are free: the angle on the right is the sector in which no edge of the boundary leaves.
use mathlib.Core.List.{[], ◌∷◌}
use Rattle.std.proofs.Common.{◌≡◌, refl, sym, ◌∙◌, ap, Bool, true, false, not, ◌||◌, cond, List, ◌++◌, map}
use Rattle.std.specs.Prelude.{Contains}
use Rattle.std.specs.List.{list_any}
use Rattle.std.proofs.lemmas.List.Folds.{list_any-append}
use Rattle.cov_types.specs.declared.coord.Coord.{Coord}
use Rattle.cov_types.specs.declared.seg.Seg.{Seg}
use Rattle.cov_types.specs.Coord.{is_same_coord}
use Rattle.cov_types.proofs.Equal.{Decides-same_coords}
use Rattle.crossing_laws.proofs.Lists.{contains_here, contains_there}
use Rattle.sector_laws.specs.Sector.{HalfEdge, origin, target, twin, is_in_sector, Leaves, IsPlanar}
use Rattle.sector_laws.proofs.Next.{twin-twin}
use Rattle.shell_laws.specs.Part.{IsTurn}
use Rattle.shell_laws.proofs.Simple.{twin_from, twin_to, meets}
use Rattle.sound_polygons.specs.Parts.{is_in_angle, far_ends, is_free_corner}
use Rattle.sound_polygons.proofs.Angles.{angle_is_sector}
use Rattle.part_polygons.proofs.Sides.{side_of}

module _ (boundary : List Seg) (v : Coord) (f : Coord → Bool) (none : (k : HalfEdge) → Leaves boundary v k → f (target k) ≡ false) where
  one_end : (k : HalfEdge) (w : Coord) → Contains boundary k.edge → target k ≡ w → (b : Bool) → (b ≡ true → origin k ≡ v) → list_any f (cond b (w ∷ []) []) ≡ false
  one_end k w has to false from = refl
  one_end k w has to true from = ap (λ t. t || false) (sym (ap f to) ∙ none k (record { among = has; from = from refl }))

  -- no other end of the ways passes
  no_far_end : (ways : List HalfEdge) → ((k : HalfEdge) → Contains ways k → Contains boundary k.edge) → list_any f (far_ends v (map side_of ways)) ≡ false
  no_far_end [] among = refl
  no_far_end (k ∷ ways) among =
      let has = among k (contains_here k ways) in
      let out = one_end k (target k) has refl (is_same_coord v (origin k)) (λ t. sym ((Decides-same_coords v (origin k)).0 t)) in
      let back = one_end (twin k) (origin k) has (twin_to k) (is_same_coord v (target k)) (λ t. twin_from k ∙ sym ((Decides-same_coords v (target k)).0 t)) in
      let first = cond (is_same_coord v (origin k)) (target k ∷ []) [] in
      let second = cond (is_same_coord v (target k)) (origin k ∷ []) [] in
      let rest = no_far_end ways (λ m i. among m (contains_there k m ways i)) in
      list_any-append f (first ++ second) (far_ends v (map side_of ways))
      ∙ (λ i. (list_any-append f first second ∙ (λ j. out j || back j)) i || rest i)

pub free_corner : (boundary : List Seg) → IsPlanar boundary → (ways : List HalfEdge) → ((k : HalfEdge) → Contains ways k → Contains boundary k.edge)
    → (a b : HalfEdge) → Contains boundary a.edge → Contains boundary b.edge → IsTurn boundary a b → is_free_corner (map side_of ways) (side_of a, side_of b) ≡ true
free_corner boundary planar ways among a b in_a in_b turn = ap not (no_far_end boundary v (is_in_angle v (origin a) (target b)) none ways among)
  where
    v : Coord
    v = target a

    from_v : origin b ≡ v
    from_v = sym (meets boundary a b turn)

    none : (k : HalfEdge) → Leaves boundary v k → is_in_angle v (origin a) (target b) (target k) ≡ false
    none k at =
        let back : Leaves boundary v (twin a) = record { among = in_a; from = twin_from a } in
        let on : Leaves boundary v b = record { among = in_b; from = from_v } in
        (λ i. is_in_angle v (sym (twin_to a) i) (target b) (target k))
        ∙ angle_is_sector boundary planar v (twin a) b k back on at
        ∙ ap (λ x. is_in_sector (twin a) x k) (sym (twin-twin b))
        ∙ turn.none_inside k (record { among = at.among; from = at.from ∙ sym from_v ∙ sym (twin_to b) })
