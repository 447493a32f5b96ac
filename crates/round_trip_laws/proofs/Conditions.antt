-- The geometries of a formed coverage are read as it, and have no fault.
use Rattle.std.proofs.Common.{◌≡◌, ℕ, suc, ◌+◌, ◌-◌, ◌<◌, true, List, [], ◌∷◌, ◌++◌, length, length-append, map, take, filter, slice_get, Option, Some, None, ℤ, pos, negsuc, neg_ℤ, ◌≤ℤ◌, sym, refl, ap, ap₂, ◌∙◌, subst, arith}
use Rattle.std.specs.List.{AllByRecursion}
use Rattle.std.proofs.Math.Seq.{take-append_seam, get_or-append_seam}
use Rattle.std.proofs.lemmas.Option.{slice_get-get_or}
use Rattle.std.proofs.lemmas.List.Elements.{All-nil}
use Rattle.cov_types.specs.Range.{IsInRange}
use Rattle.cov_types.specs.declared.coord.Coord.{Coord}
use Rattle.cov_types.specs.declared.coord.TheConstants.{LIMIT}
use Rattle.geo_text.specs.Grammar.{Position, Ring, Element, Geometry}
use Rattle.geo_text.specs.Reading.{coordinate, positions, points, has_ring, member, coverage}
use Rattle.geo_text.specs.Fault.{rings_of, rings, position_numbers, ring_numbers, numbers, dimension_places, third_places, ring_extras, element_dimension, element_extras, extra_places, IsWhole, IsNumberFine, IsRingFine}
use Rattle.cov_write.specs.Written.{number_text, position_text, ring_text, polygon_text, member_line}
use Rattle.round_trip_laws.proofs.Lists.{all_append, all_weaker, flat_all, flat_nothing, all_kept}
use Rattle.round_trip_laws.proofs.Spelling.{others}
use Rattle.round_trip_laws.proofs.Tree.{position_at, ring_at, polygon_at, element_at, coverage_at}
use Rattle.round_trip_laws.proofs.Numbers.{IsSmall, number_at, value_read}
use Rattle.round_trip_laws.proofs.Spelled.{IsGoodRing, IsGoodPolygon, IsGoodMember, x_small, y_small}

-- ---- the entries of a list

others_read : {X T : Type 0} (text : X → List ℕ) (placed : ℕ → X → T) (read : T → X) (IsGood : X → Type 0) → ((at : ℕ) (x : X) → IsGood x → read (placed at x) ≡ x) → (xs : List X) (at : ℕ) → AllByRecursion IsGood xs → map read (others text placed at xs) ≡ xs
others_read text placed read IsGood each [] at h = refl
others_read text placed read IsGood each (x ∷ xs) at h = ap₂ (λ y ys. y ∷ ys) (each (at + 2) x h.0) (others_read text placed read IsGood each xs (at + 2 + length (text x)) h.1)

others_all : {X T : Type 0} (text : X → List ℕ) (placed : ℕ → X → T) (P : T → Type 0) (IsGood : X → Type 0) → ((at : ℕ) (x : X) → IsGood x → P (placed at x)) → (xs : List X) (at : ℕ) → AllByRecursion IsGood xs → AllByRecursion P (others text placed at xs)
others_all text placed P IsGood each [] at h = tt
others_all text placed P IsGood each (x ∷ xs) at h = (each (at + 2) x h.0, others_all text placed P IsGood each xs (at + 2 + length (text x)) h.1)

others_length : {X T : Type 0} (text : X → List ℕ) (placed : ℕ → X → T) (xs : List X) (at : ℕ) → length (others text placed at xs) ≡ length xs
others_length text placed [] at = refl
others_length text placed (x ∷ xs) at = ap suc (others_length text placed xs (at + 2 + length (text x)))

-- ---- numbers

is_whole : (scale : Option ℕ) (at : ℕ) (z : ℤ) → IsWhole scale (number_at scale at z)
is_whole None at z = All-nil _
is_whole (Some k) at z = tt

module _ (scale : Option ℕ) where
  -- ---- positions

  position_read : (at : ℕ) (c : Coord) → IsInRange c → coordinate scale (position_at scale at c) ≡ c
  position_read at c h = ap₂ (λ (x y : ℤ). let d : Coord = record { x = x; y = y } in d) (value_read scale at c.x (x_small c h)) (value_read scale (at + length (number_text scale c.x) + 1) c.y (y_small c h))

  number_fine : (at : ℕ) (z : ℤ) → IsSmall z → IsNumberFine scale (number_at scale at z)
  number_fine at z h = (is_whole scale at z, subst (λ (v : ℤ). ((neg_ℤ LIMIT) ≤ℤ v) × (v ≤ℤ LIMIT)) (sym (value_read scale at z h)) (h.low, h.high))

  abbrev ArePositionNumbersFine : Position → Type 0
  ArePositionNumbersFine p = AllByRecursion (IsNumberFine scale) (position_numbers p)

  position_fine : (at : ℕ) (c : Coord) → IsInRange c → ArePositionNumbersFine (position_at scale at c)
  position_fine at c h = (number_fine at c.x (x_small c h), (number_fine (at + length (number_text scale c.x) + 1) c.y (y_small c h), tt))

  abbrev IsPositionPlanar : Position → Type 0
  IsPositionPlanar p = third_places p ≡ []

  -- ---- rings

  -- the ring has no third number, its numbers are fine, and so is it
  pub record IsRingClean (r : Ring) : Type 0 where
    pub planar : ring_extras r ≡ []
    pub numeric : AllByRecursion (IsNumberFine scale) (ring_numbers r)
    pub fine : IsRingFine scale r

  -- and it is read as the points
  record IsRingRead (r : Ring) (cs : List Coord) : Type 0 where
    clean : IsRingClean r
    read : points scale r ≡ cs

  ring_read : (at : ℕ) (cs : List Coord) → IsGoodRing cs → IsRingRead (ring_at scale at cs) cs
  ring_read at [] h = absurd (omega (arith, h.long))
  ring_read at (c ∷ cs) h =
      let place = at + 1 + length (position_text scale c) in
      let r = ring_at scale at (c ∷ cs) in
      let closing : AllByRecursion IsInRange (cs ++ c ∷ []) = all_append IsInRange cs (c ∷ []) h.in_range.1 (h.in_range.0, tt) in
      let first : coordinate scale r.first ≡ c = position_read (at + 1) c h.in_range.0 in
      let values : map (coordinate scale) (positions r) ≡ (c ∷ cs) ++ c ∷ [] = ap₂ (λ y ys. y ∷ ys) first (others_read (position_text scale) (position_at scale) (coordinate scale) IsInRange position_read (cs ++ c ∷ []) place closing) in
      let count : length r.others ≡ suc (length cs) = others_length (position_text scale) (position_at scale) (cs ++ c ∷ []) place ∙ omega (arith, length-append cs (c ∷ [])) in
      let last : length (positions r) - 1 ≡ length (c ∷ cs) = omega arith in
      let within : length (c ∷ cs) < length ((c ∷ cs) ++ c ∷ []) = omega (arith, length-append cs (c ∷ [])) in
      record {
        clean = record {
          planar = flat_nothing third_places (positions r) (refl, others_all (position_text scale) (position_at scale) IsPositionPlanar IsInRange (λ i d good. refl) (cs ++ c ∷ []) place closing);
          numeric = flat_all ArePositionNumbersFine (IsNumberFine scale) position_numbers (λ p fine. fine) (positions r) (position_fine (at + 1) c h.in_range.0, others_all (position_text scale) (position_at scale) ArePositionNumbersFine IsInRange position_fine (cs ++ c ∷ []) place closing);
          fine = (omega (arith, h.long), ap₂ slice_get values last ∙ slice_get-get_or ((c ∷ cs) ++ c ∷ []) (length (c ∷ cs)) c within ∙ ap Some (get_or-append_seam (c ∷ cs) c [] c) ∙ ap Some (sym first));
        };
        read = ap₂ (λ (n : ℕ) (xs : List Coord). take n xs) last values ∙ take-append_seam (c ∷ cs) (c ∷ []);
      }

  -- ---- polygons

  record IsPolygonRead (rs : List Ring) (polygon : List (List Coord)) : Type 0 where
    clean : AllByRecursion IsRingClean rs
    some_ring : has_ring rs ≡ true
    read : map (points scale) rs ≡ polygon

  polygon_read : (at : ℕ) (polygon : List (List Coord)) → IsGoodPolygon polygon → IsPolygonRead (polygon_at scale at polygon) polygon
  polygon_read at [] h = absurd (omega (arith, h.some_ring))
  polygon_read at (r ∷ rs) h =
      let place = at + 1 + length (ring_text scale r) in
      let first = ring_read (at + 1) r h.rings_good.0 in
      record {
        clean = (first.clean, others_all (ring_text scale) (ring_at scale) IsRingClean IsGoodRing (λ i x good. (ring_read i x good).clean) rs place h.rings_good.1);
        some_ring = refl;
        read = ap₂ (λ y ys. y ∷ ys) first.read (others_read (ring_text scale) (ring_at scale) (points scale) IsGoodRing (λ i x good. (ring_read i x good).read) rs place h.rings_good.1);
      }

  -- ---- members

  record IsElementRead (e : Element) (polys : List (List (List Coord))) : Type 0 where
    clean : AllByRecursion IsRingClean (rings_of e)
    no_dimension : element_dimension e ≡ None
    read : member scale e ≡ polys

  abbrev AreRingsClean : List Ring → Type 0
  AreRingsClean rs = AllByRecursion IsRingClean rs

  abbrev HasRing : List Ring → Type 0
  HasRing rs = has_ring rs ≡ true

  abbrev rings_read : List Ring → List (List Coord)
  rings_read rs = map (points scale) rs

  one_read : (at : ℕ) (polygon : List (List Coord)) → IsGoodPolygon polygon → (b : List (List Ring)) → b ≡ polygon_at scale at polygon ∷ [] → map rings_read (filter has_ring b) ≡ polygon ∷ []
  one_read at polygon h b e =
      let read = polygon_read at polygon h in
      ap (λ (c : List (List Ring)). map rings_read (filter has_ring c)) e
      ∙ ap (map rings_read) (all_kept has_ring (polygon_at scale at polygon ∷ []) (read.some_ring, tt))
      ∙ ap (λ (x : List (List Coord)). x ∷ []) read.read

  element_read : (at : ℕ) (polys : List (List (List Coord))) → IsGoodMember polys → IsElementRead (element_at scale at polys) polys
  element_read at [] h = record { clean = tt; no_dimension = refl; read = refl }
  element_read at (p ∷ []) h = record {
    clean = all_append IsRingClean (polygon_at scale (at + 8) p) [] (polygon_read (at + 8) p h.0).clean tt;
    no_dimension = refl;
    read = one_read (at + 8) p h.0 (polygon_at scale (at + 8) p ∷ []) refl;
  }
  element_read at (p ∷ q ∷ ps) h =
      let place = at + 13 + 1 + length (polygon_text scale p) in
      let first = polygon_read (at + 13 + 1) p h.0 in
      let many = polygon_at scale (at + 13 + 1) p ∷ others (polygon_text scale) (polygon_at scale) place (q ∷ ps) in
      let kept : filter has_ring many ≡ many = all_kept has_ring many (first.some_ring, others_all (polygon_text scale) (polygon_at scale) HasRing IsGoodPolygon (λ i x good. (polygon_read i x good).some_ring) (q ∷ ps) place h.1) in
      record {
        clean = flat_all AreRingsClean IsRingClean (λ rs. rs) (λ rs clean. clean) many (first.clean, others_all (polygon_text scale) (polygon_at scale) AreRingsClean IsGoodPolygon (λ i x good. (polygon_read i x good).clean) (q ∷ ps) place h.1);
        no_dimension = refl;
        read = ap (map rings_read) kept ∙ ap₂ (λ y ys. y ∷ ys) first.read (others_read (polygon_text scale) (polygon_at scale) rings_read IsGoodPolygon (λ i x good. (polygon_read i x good).read) (q ∷ ps) place h.1);
      }

  no_extras : (e : Element) (polys : List (List (List Coord))) → IsElementRead e polys → element_extras e ≡ []
  no_extras e polys h = ap₂ (λ ds rs. ds ++ rs) (ap dimension_places h.no_dimension) (flat_nothing ring_extras (rings_of e) (all_weaker IsRingClean (λ r. ring_extras r ≡ []) (λ r clean. clean.planar) (rings_of e) h.clean))

  -- ---- coverages

  pub record IsCoverageRead (gs : List Geometry) (members : List (List (List (List Coord)))) : Type 0 where
    pub planar : extra_places gs ≡ []
    pub clean : AllByRecursion IsRingClean (rings gs)
    pub read : coverage scale gs ≡ members

  pub coverage_read : (members : List (List (List (List Coord)))) (at : ℕ) → AllByRecursion IsGoodMember members → IsCoverageRead (coverage_at scale at members) members
  coverage_read [] at h = record { planar = refl; clean = tt; read = refl }
  coverage_read (m ∷ ms) at h =
      let e = element_at scale at m in
      let gs = coverage_at scale (at + length (member_line scale m)) ms in
      let first = element_read at m h.0 in
      let behind = coverage_read ms (at + length (member_line scale m)) h.1 in
      record {
        planar = ap₂ (λ is js. is ++ js) (no_extras e m first) behind.planar;
        clean = all_append IsRingClean (rings_of e) (rings gs) first.clean behind.clean;
        read = ap₂ (λ y ys. y ∷ ys) first.read behind.read;
      }

  pub all_numeric : (gs : List Geometry) → AllByRecursion IsRingClean (rings gs) → AllByRecursion (IsNumberFine scale) (numbers gs)
  all_numeric gs h = flat_all IsRingClean (IsNumberFine scale) ring_numbers (λ r clean. clean.numeric) (rings gs) h

  pub all_fine : (gs : List Geometry) → AllByRecursion IsRingClean (rings gs) → AllByRecursion (IsRingFine scale) (rings gs)
  all_fine gs h = all_weaker IsRingClean (IsRingFine scale) (λ r clean. clean.fine) (rings gs) h
