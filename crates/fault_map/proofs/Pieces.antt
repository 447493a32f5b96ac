-- The polygons of owners of one region each, one after the other, and the regions piece by piece.
use Rattle.std.proofs.Common.{◌≡◌, refl, sym, ◌∙◌, ap, subst, ℕ, suc, ◌+◌, ◌<◌, ◌≤◌, List, [], ◌∷◌, ◌++◌, length, length-append, take, drop, get_or, Option, Some, All, arith}
use Rattle.std.specs.Prelude.{AllPairs, slice_get, flat_map}
use Rattle.std.specs.List.{AllZip}
use Rattle.std.proofs.lemmas.List.{take-take, take_all, take-append-drop, drop-take, get_or-take, get_or-drop, length-take-le}
use Rattle.std.proofs.lemmas.Option.{slice_get-get_or, slice_get_within, same_Some}
use Rattle.cov_types.specs.declared.coord.Coord.{Coord}
use Rattle.cov_types.specs.declared.seg.Seg.{Seg}
use Rattle.plane.specs.Region.{AreRegions}
use Rattle.sector_laws.specs.Sector.{AreDistinct, IsPlanar}
use Rattle.region_laws.proofs.Exists.{regions_exist}
use Rattle.arrangement.specs.Overlay.{Overlay}
use Rattle.sound_polygons.specs.Cleaned.{IsBuilt}
use Rattle.fault_map.specs.Polygon.{IsRegionPolygon, ArePolygonsOfEach, AreOwnersByPlace, IsInner}
use Rattle.fault_map.proofs.Single.{single}

-- ---- the polygons of members, one after the other

-- each of the members has one polygon, and that is of the region at its place
abbrev AreSingle : (ℕ → List (List Coord) → Type 0) → List ℕ → List (List (List (List Coord))) → Type 0
AreSingle R regions built = (i r : ℕ) (polys : List (List (List Coord))) → slice_get regions i ≡ Some r → slice_get built i ≡ Some polys → (rings : List (List Coord)) × ((polys ≡ rings ∷ []) × R r rings)

in_a_row : (R : ℕ → List (List Coord) → Type 0) (regions : List ℕ) (built : List (List (List (List Coord)))) → length built ≡ length regions → AreSingle R regions built → AllZip R regions (flat_map (λ polys. polys) built)
in_a_row R [] [] count each = tt
in_a_row R [] (polys ∷ built) count each = absurd (omega (arith, count))
in_a_row R (r ∷ regions) [] count each = absurd (omega (arith, count))
in_a_row R (r ∷ regions) (polys ∷ built) count each =
    let first = each 0 r polys refl refl in
    let rest = in_a_row R regions built (omega (arith, count)) (λ i s ps at is. each (suc i) s ps at is) in
    subst (λ (ps : List (List (List Coord))). AllZip R (r ∷ regions) (ps ++ flat_map (λ qs. qs) built)) (sym first.1.0) (first.1.1, rest)

-- as many as regions
pub zip_long : {X Y : Type 0} (R : X → Y → Type 0) (xs : List X) (ys : List Y) → AllZip R xs ys → length ys ≡ length xs
zip_long R [] [] h = refl
zip_long R [] (y ∷ ys) h = absurd h
zip_long R (x ∷ xs) [] h = absurd h
zip_long R (x ∷ xs) (y ∷ ys) h = ap suc (zip_long R xs ys h.1)

-- some overlay has these edges
some_overlay : (edges : List Seg) → IsPlanar edges → AreDistinct edges → (o : Overlay) × ((o.edges ≡ edges) × AreRegions o.edges o.numbers)
some_overlay edges planar distinct = let (numbers, regions) = regions_exist edges planar distinct in (record { edges = edges; uses = []; members = 0; numbers = numbers }, (refl, regions))

-- what is built for owners by place are the polygons of the regions
pub each_built : (edges : List Seg) (regions : List ℕ) (owners : ℕ → Option ℕ) (built : List (List (List (List Coord)))) → IsPlanar edges → AreDistinct edges → All (IsInner edges) regions → AreOwnersByPlace regions owners
    → ((o : Overlay) → o.edges ≡ edges → AreRegions o.edges o.numbers → IsBuilt o owners (length regions) built) → ArePolygonsOfEach edges regions (flat_map (λ polys. polys) built)
each_built edges regions owners built planar distinct inner by_place are =
    let (o, its) = some_overlay edges planar distinct in
    record { count = zip_long (IsRegionPolygon o) regions (flat_map (λ polys. polys) built) (zipped o its.0 its.1); each = zipped }
  where
    zipped : (o : Overlay) → o.edges ≡ edges → AreRegions o.edges o.numbers → AllZip (IsRegionPolygon o) regions (flat_map (λ polys. polys) built)
    zipped o same numbered =
        let is = are o same numbered in
        in_a_row (IsRegionPolygon o) regions built is.count
        (λ i r polys at has. single o regions owners by_place i r polys at (subst (λ (es : List Seg). IsInner es r) (sym same) (subst (IsInner edges) (sym (same_at i r at)) (inner i r (slice_get_within regions i r at)))).region (is.each i polys has))
      where
        same_at : (i r : ℕ) → slice_get regions i ≡ Some r → r ≡ get_or regions i r
        same_at i r at = same_Some r (get_or regions i r) (sym at ∙ slice_get-get_or regions i r (slice_get_within regions i r at))

-- ---- piece by piece

zip_join : {X Y : Type 0} (R : X → Y → Type 0) (xs us : List X) (ys vs : List Y) → AllZip R xs ys → AllZip R us vs → AllZip R (xs ++ us) (ys ++ vs)
zip_join R [] us [] vs h k = k
zip_join R [] us (y ∷ ys) vs h k = absurd h
zip_join R (x ∷ xs) us [] vs h k = absurd h
zip_join R (x ∷ xs) us (y ∷ ys) vs h k = (h.0, zip_join R xs us ys vs h.1 k)

-- the polygons so far are those of as many first regions
pub record AreDone (edges : List Seg) (regions : List ℕ) (found : List (List (List Coord))) : Type 0 where
  pub few : length found ≤ length regions
  pub done : ArePolygonsOfEach edges (take (length found) regions) found

take_both : {X : Type 0} (n m : ℕ) (xs : List X) → take n xs ++ take m (drop n xs) ≡ take (n + m) xs
take_both n m xs = (λ i. sym (take-take n (n + m) xs (omega arith)) i ++ sym (drop-take n m xs) i) ∙ take-append-drop n (take (n + m) xs)

pub none_done : (edges : List Seg) (regions : List ℕ) → AreDone edges regions []
none_done edges regions = record { few = omega arith; done = record { count = refl; each = λ o same numbered. tt } }

pub all_done : (edges : List Seg) (regions : List ℕ) (found : List (List (List Coord))) → length regions ≤ length found → AreDone edges regions found → ArePolygonsOfEach edges regions found
all_done edges regions found past are = subst (λ rs. ArePolygonsOfEach edges rs found) (take_all (length found) regions past) are.done

-- a piece of a list
module _ (regions piece : List ℕ) (from : ℕ) (within : from + length piece ≤ length regions) (is : piece ≡ take (length piece) (drop from regions)) where
  in_piece : (k d : ℕ) → k < length piece → get_or piece k d ≡ get_or regions (from + k) d
  in_piece k d inside = ap (λ ps. get_or ps k d) is ∙ get_or-take (length piece) (drop from regions) k d inside ∙ get_or-drop from regions k d

  pub all_in_piece : (P : ℕ → Type 0) → All P regions → All P piece
  all_in_piece P all k d inside = subst P (sym (in_piece k d inside)) (all (from + k) d (omega arith))

  pub piece_ascends : AllPairs (λ m n. m < n) regions → AllPairs (λ m n. m < n) piece
  piece_ascends up j k d before inside =
      let first = in_piece j d (omega arith) in
      let second = in_piece k d inside in
      let less = up (from + j) (from + k) d (omega arith) (omega arith) in
      omega (arith, first, second, less)

  pub one_more_done : (edges : List Seg) (found more after : List (List (List Coord))) → length found ≡ from → AreDone edges regions found → ArePolygonsOfEach edges piece more → after ≡ found ++ more → AreDone edges regions after
  one_more_done edges found more after start are its appended =
      let long : length after ≡ from + length piece = ap length appended ∙ length-append found more ∙ (λ i. start i + its.count i) in
      let joined : take (length found) regions ++ piece ≡ take (length after) regions =
      (λ i. take (start i) regions ++ is i) ∙ take_both from (length piece) regions ∙ ap (λ n. take n regions) (sym long) in
      record {
        few = omega (arith, long);
        done = record {
          count = long ∙ sym (ap length (sym joined) ∙ length-append (take (length found) regions) piece ∙ (λ i. length-take-le (length found) regions are.few i + length piece) ∙ (λ i. start i + length piece));
          each = λ o same numbered. subst (λ rs. AllZip (IsRegionPolygon o) rs after) joined
              (subst (λ ps. AllZip (IsRegionPolygon o) (take (length found) regions ++ piece) ps) (sym appended) (zip_join (IsRegionPolygon o) (take (length found) regions) piece found more (are.done.each o same numbered) (its.each o same numbered)));
        };
      }
