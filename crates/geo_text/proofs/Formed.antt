-- What is read of a text without a fault is formed.
use Rattle.std.proofs.Common.{⊎_elim, refl, ℕ, ◌+◌, ◌-◌, ◌≤◌, List, [], ◌∷◌, ◌++◌, length, map, filter, flat_map, Option, Some, None, sym, ap, Result, Ok, Err, IfOk, subst, arith, length-append, length-take}
use Rattle.std.proofs.lemmas.List.{length-map}
use Rattle.std.specs.List.{AllByRecursion}
use Rattle.std.proofs.lemmas.List.Elements.{All-from_recursion, recursion_from_All, All-take}
use Rattle.cov_types.specs.Coverage.{Members, IsFormed, IsRingFormed, IsPolyFormed, IsMemberFormed, IsRingInRange, IsPolyInRange, IsMemberInRange}
use Rattle.cov_types.specs.Range.{IsInRange}
use Rattle.cov_types.specs.declared.coord.Coord.{Coord}
use Rattle.geo_text.specs.Token.{Token, Close, Comma, Spells}
use Rattle.geo_text.specs.Grammar.{Position, Two, Three, Four, Ring, Element, OnePolygon, ManyPolygons, Geometry, Single, Collection, body, dimension, element, geometry, file}
use Rattle.geo_text.specs.Reading.{coordinate, positions, points, elements, bodies, has_ring, member, coverage, Reads}
use Rattle.geo_text.specs.Fault.{position_numbers, ring_numbers, rings_of, rings, numbers, IsNumberFine, IsRingFine, HasNoFault}
use Rattle.geo_text.specs.Number.{precision_at}
use Rattle.geo_text.specs.Machine.{Gives}
use Rattle.geo_text.specs.declared.error.TextError.{TextError}
use Rattle.geo_text.specs.declared.reader.TheConstants.{LONGEST_INPUT}
use Rattle.geo_text.proofs.Options.{split_append}
use Rattle.geo_text.proofs.Spelled.{begins}
use Rattle.geo_text.proofs.OneReading.{one_reading}
use Rattle.geo_text.proofs.Verdicts.{IsClean, answer_to, clean_or_fault, ok_reads}

module _ (scale : Option ℕ) where
  -- ---- rings

  pub record IsRingClean (r : Ring) : Type 0 where
    pub fine : IsRingFine scale r
    pub numbers : AllByRecursion (IsNumberFine scale) (ring_numbers r)

  coordinate_in_range : (p : Position) → AllByRecursion (IsNumberFine scale) (position_numbers p) → IsInRange (coordinate scale p)
  coordinate_in_range (Two x y) h = record { left = h.0.1.0; right = h.0.1.1; bottom = h.1.0.1.0; top = h.1.0.1.1 }
  coordinate_in_range (Three x y z) h = record { left = h.0.1.0; right = h.0.1.1; bottom = h.1.0.1.0; top = h.1.0.1.1 }
  coordinate_in_range (Four x y z m) h = record { left = h.0.1.0; right = h.0.1.1; bottom = h.1.0.1.0; top = h.1.0.1.1 }

  coordinates_in_range : (ps : List Position) → AllByRecursion (IsNumberFine scale) (flat_map position_numbers ps) → AllByRecursion IsInRange (map (coordinate scale) ps)
  coordinates_in_range [] h = tt
  coordinates_in_range (p ∷ ps) h =
      let both = split_append (IsNumberFine scale) (position_numbers p) (flat_map position_numbers ps) h in
      (coordinate_in_range p both.0, coordinates_in_range ps both.1)

  ring_in_range : (r : Ring) → IsRingClean r → IsRingInRange (points scale r)
  ring_in_range r h = All-take IsInRange (length (positions r) - 1) (map (coordinate scale) (positions r)) (All-from_recursion IsInRange (map (coordinate scale) (positions r)) (coordinates_in_range (positions r) h.numbers))

  ring_formed : (r : Ring) → IsRingClean r → IsRingFormed (points scale r)
  ring_formed r h = omega (arith, length-take (length (positions r) - 1) (map (coordinate scale) (positions r)), length-map (positions r) (coordinate scale), h.fine.0)

  rings_clean : (rs : List Ring) → AllByRecursion (IsRingFine scale) rs → AllByRecursion (IsNumberFine scale) (flat_map ring_numbers rs) → AllByRecursion IsRingClean rs
  rings_clean [] h k = tt
  rings_clean (r ∷ rs) h k =
      let both = split_append (IsNumberFine scale) (ring_numbers r) (flat_map ring_numbers rs) k in
      (record { fine = h.0; numbers = both.0 }, rings_clean rs h.1 both.1)

  -- ---- polygons and members

  map_rings : (P : List Coord → Type 0) → ((r : Ring) → IsRingClean r → P (points scale r)) → (rs : List Ring) → AllByRecursion IsRingClean rs → AllByRecursion P (map (points scale) rs)
  map_rings P f [] h = tt
  map_rings P f (r ∷ rs) h = (f r h.0, map_rings P f rs h.1)

  -- a fact of the polygons of polygon bodies that are not EMPTY
  map_bodies : (P : List (List Coord) → Type 0) → ((r : Ring) (rs : List Ring) → AllByRecursion IsRingClean (r ∷ rs) → P (map (points scale) (r ∷ rs)))
      → (bs : List (List Ring)) → AllByRecursion IsRingClean (flat_map (λ rings. rings) bs) → AllByRecursion P (map (λ rings. map (points scale) rings) (filter has_ring bs))
  map_bodies P f [] h = tt
  map_bodies P f ([] ∷ bs) h = map_bodies P f bs h
  map_bodies P f ((r ∷ rs) ∷ bs) h =
      let both = split_append IsRingClean (r ∷ rs) (flat_map (λ rings. rings) bs) h in
      (f r rs both.0, map_bodies P f bs both.1)

  map_members : (P : List (List (List Coord)) → Type 0) → ((e : Element) → AllByRecursion IsRingClean (rings_of e) → P (member scale e)) → (es : List Element) → AllByRecursion IsRingClean (flat_map rings_of es) → AllByRecursion P (map (member scale) es)
  map_members P f [] h = tt
  map_members P f (e ∷ es) h =
      let both = split_append IsRingClean (rings_of e) (flat_map rings_of es) h in
      (f e both.0, map_members P f es both.1)

  poly_in_range : (r : Ring) (rs : List Ring) → AllByRecursion IsRingClean (r ∷ rs) → IsPolyInRange (map (points scale) (r ∷ rs))
  poly_in_range r rs h = All-from_recursion IsRingInRange (map (points scale) (r ∷ rs)) (map_rings IsRingInRange ring_in_range (r ∷ rs) h)

  poly_formed : (r : Ring) (rs : List Ring) → AllByRecursion IsRingClean (r ∷ rs) → IsPolyFormed (map (points scale) (r ∷ rs))
  poly_formed r rs h = (omega arith, All-from_recursion IsRingFormed (map (points scale) (r ∷ rs)) (map_rings IsRingFormed ring_formed (r ∷ rs) h))

  member_in_range : (e : Element) → AllByRecursion IsRingClean (rings_of e) → IsMemberInRange (member scale e)
  member_in_range e h = All-from_recursion IsPolyInRange (member scale e) (map_bodies IsPolyInRange poly_in_range (bodies e) h)

  member_formed : (e : Element) → AllByRecursion IsRingClean (rings_of e) → IsMemberFormed (member scale e)
  member_formed e h = All-from_recursion IsPolyFormed (member scale e) (map_bodies IsPolyFormed poly_formed (bodies e) h)

  -- ---- how many members there are

  -- each token has a byte
  spelled_long : (tokens : List Token) (a : ℕ) (previous : Option Token) (bytes : List ℕ) → Spells a previous tokens bytes → length tokens ≤ length bytes
  spelled_long [] a previous bytes h = omega arith
  spelled_long (token ∷ tokens) a previous bytes (white, spelling, rest, each_white, is_apart, spelled, same, more) =
      let first = begins (precision_at scale) token (a + length white) spelling spelled in
      omega (arith, spelled_long tokens (a + length white + length spelling) (Some token) rest more, ap length same, length-append white (spelling ++ rest), length-append spelling rest, ap length first.2)

  element_long : (e : Element) → 1 ≤ length (element e)
  element_long (OnePolygon d rings) = omega arith
  element_long (ManyPolygons d polygons) = omega arith

  more_long : (es : List Element) → length es ≤ length (flat_map (λ e. Comma ∷ element e) es)
  more_long [] = omega arith
  more_long (e ∷ es) = omega (arith, more_long es, length-append (Comma ∷ element e) (flat_map (λ x. Comma ∷ element x) es))

  body_long : (es : List Element) → length es ≤ length (body element es)
  body_long [] = omega arith
  body_long (e ∷ es) =
      omega (arith, more_long es, element_long e, length-append (element e) (flat_map (λ x. Comma ∷ element x) es), length-append (element e ++ flat_map (λ x. Comma ∷ element x) es) (Close ∷ []))

  -- each element has a token
  geometry_long : (g : Geometry) → length (elements g) ≤ length (geometry g)
  geometry_long (Single e) = element_long e
  geometry_long (Collection d es) = omega (arith, body_long es, length-append (dimension d) (body element es))

  file_long : (gs : List Geometry) → length (flat_map elements gs) ≤ length (file gs)
  file_long [] = omega arith
  file_long (g ∷ gs) = omega (arith, file_long gs, geometry_long g, length-append (elements g) (flat_map elements gs), length-append (geometry g) (file gs))

  -- ---- the coverage

  pub formed : (bytes : List ℕ) (gs : List Geometry) → length bytes ≤ LONGEST_INPUT → IsClean scale bytes gs → IsFormed (coverage scale gs)
  formed bytes gs h w =
      let es = flat_map elements gs in
      let clean = rings_clean (rings gs) (recursion_from_All (IsRingFine scale) (rings gs) w.rings_fine) (recursion_from_All (IsNumberFine scale) (numbers gs) w.is_numeric.numeric) in
      record {
        in_range = record {
          coords = All-from_recursion IsMemberInRange (coverage scale gs) (map_members IsMemberInRange member_in_range es clean);
          count = omega (arith, length-map es (member scale), file_long gs, spelled_long (file gs) 0 None bytes w.is_numeric.is_planar.is_file);
        };
        shapes = All-from_recursion IsMemberFormed (coverage scale gs) (map_members IsMemberFormed member_formed es clean);
      }

  pub result_formed : (bytes : List ℕ) (result : Result Members TextError) → length bytes ≤ LONGEST_INPUT → Gives result (answer_to scale bytes) → IfOk result IsFormed
  result_formed bytes (Ok c) h g = let read = ok_reads scale bytes c g in subst IsFormed (sym read.2) (formed bytes read.0 h read.1)
  result_formed bytes (Err e) h g = tt

  -- what a text without a fault is read as is formed
  pub read_formed : (bytes : List ℕ) (c : Members) → length bytes ≤ LONGEST_INPUT → Reads scale bytes c → HasNoFault scale bytes → IsFormed c
  read_formed bytes c within reads faultless =
      ⊎_elim (λ w. subst IsFormed (one_reading scale bytes (coverage scale w.0) c (w.0, w.1.is_numeric.is_planar.is_file, refl) reads) (formed bytes w.0 within w.1)) (λ f. absurd (faultless f.0 f.1)) (clean_or_fault scale bytes)
