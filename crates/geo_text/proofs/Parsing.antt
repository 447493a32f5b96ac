-- What the grammar has, the machine takes, and keeps what it is read as.
use Rattle.std.proofs.Common.{◌≡◌, is_some, ℕ, ◌-◌, Bool, true, false, List, [], ◌∷◌, ◌++◌, length, map, take, flat_map, filter, Option, Some, None, option_and_then, sym, refl, ap, ap₂, ◌∙◌, append_assoc, append-nil}
use Rattle.std.proofs.lemmas.Grind.{flat_map-append}
use Rattle.std.proofs.lemmas.List.{length-map, map-append}
use Rattle.cov_types.specs.Coverage.{Members}
use Rattle.cov_types.specs.declared.coord.Coord.{Coord}
use Rattle.geo_text.specs.Token.{Polygon, MultiPolygon, Dimension, Numeral, Token, Word, Dimensions, Number, Open, Close, Comma}
use Rattle.geo_text.specs.Grammar.{Position, Two, Three, Four, Ring, Element, OnePolygon, ManyPolygons, Geometry, Single, Collection, body, dimension, position, ring, polygon_body, multi_body, element, geometry, file}
use Rattle.geo_text.specs.Reading.{positions, elements, bodies, has_ring}
use Rattle.geo_text.specs.Fault.{rings_of, rings, position_numbers, dimension_places, third_places, ring_extras, element_extras, geometry_extras, extra_places}
use Rattle.geo_text.specs.Number.{Precision}
use Rattle.geo_text.specs.Machine.{Kept, ParserState, Symbol, Named, Axes, Numbered, Opening, Closing, Separator, at, start, step, no_faults, ring_kept, member_kept, element_end, body_end, with_extra, with_number, with_ring}
use Rattle.geo_text.specs.declared.faults.Faults.{Faults}
use Rattle.geo_text.specs.declared.place.Body.{Body}
use Rattle.geo_text.specs.declared.place.Body.TheVariants as kinds
use Rattle.geo_text.specs.declared.place.Place.{Place}
use Rattle.geo_text.specs.declared.place.Place.TheVariants.{Outside, Head, ElementStart, ElementEnd, BodyStart, BodyEnd, RingStart, PositionStart, PositionEnd, RingEnd}
use Rattle.geo_text.proofs.Keeping.{read_value, is_whole, coordinate_by, ring_points, noted, noted-append, noted-nil, with_number-noted, with_extra-noted, with_ring-noted, grown, grown-append, grown-nil, with_extra-grown}

module _ (precision : Precision) where
  -- what the machine sees of a token
  abbrev pub seen : Token → Symbol
  seen (Word name) = Named name
  seen (Dimensions d) = Axes d.at
  seen (Number n) = Numbered n.at (read_value precision n) (is_whole precision n)
  seen Open = Opening
  seen Close = Closing
  seen Comma = Separator

  -- the state behind tokens
  abbrev pub run : ParserState → List Token → Option ParserState
  run s [] = Some s
  run s (token ∷ tokens) = option_and_then (λ after. run after tokens) (step s (seen token))

  abbrev pub kept : Members → List (List (List Coord)) → List (List Coord) → List Coord → Faults → Kept
  kept ms ps rs qs f = record { members = ms; polys = ps; rings = rs; points = qs; faults = f }

  -- ---- positions

  abbrev further : Position → ℕ
  further (Two x y) = 0
  further (Three x y z) = 1
  further (Four x y z m) = 2

  note_two : (x y : Numeral) (f : Faults) → with_number y.at (read_value precision y) (is_whole precision y) (with_number x.at (read_value precision x) (is_whole precision x) f) ≡ noted precision f [] (x ∷ y ∷ [])
  note_two x y f = ap (with_number y.at (read_value precision y) (is_whole precision y)) (with_number-noted precision x f) ∙ with_number-noted precision y (noted precision f [] (x ∷ [])) ∙ noted-append precision f [] [] (x ∷ []) (y ∷ [])

  note_three : (x y z : Numeral) (f : Faults) → with_number z.at (read_value precision z) (is_whole precision z) (with_extra z.at (with_number y.at (read_value precision y) (is_whole precision y) (with_number x.at (read_value precision x) (is_whole precision x) f))) ≡ noted precision f (z.at ∷ []) (x ∷ y ∷ z ∷ [])
  note_three x y z f =
      ap (λ g. with_number z.at (read_value precision z) (is_whole precision z) (with_extra z.at g)) (note_two x y f)
      ∙ ap (with_number z.at (read_value precision z) (is_whole precision z)) (with_extra-noted precision z.at (noted precision f [] (x ∷ y ∷ [])) ∙ noted-append precision f [] (z.at ∷ []) (x ∷ y ∷ []) [])
      ∙ with_number-noted precision z (noted precision f (z.at ∷ []) (x ∷ y ∷ [])) ∙ noted-append precision f (z.at ∷ []) [] (x ∷ y ∷ []) (z ∷ [])

  note_four : (x y z m : Numeral) (f : Faults) → with_number m.at (read_value precision m) (is_whole precision m) (with_number z.at (read_value precision z) (is_whole precision z) (with_extra z.at (with_number y.at (read_value precision y) (is_whole precision y) (with_number x.at (read_value precision x) (is_whole precision x) f)))) ≡ noted precision f (z.at ∷ []) (x ∷ y ∷ z ∷ m ∷ [])
  note_four x y z m f =
      ap (with_number m.at (read_value precision m) (is_whole precision m)) (note_three x y z f)
      ∙ with_number-noted precision m (noted precision f (z.at ∷ []) (x ∷ y ∷ z ∷ [])) ∙ noted-append precision f (z.at ∷ []) [] (x ∷ y ∷ z ∷ []) (m ∷ [])

  run_position : (p : Position) (c m : Bool) (ms : Members) (ps : List (List (List Coord))) (rs : List (List Coord)) (qs : List Coord) (f : Faults) (rest : List Token)
      → run (at PositionStart c m (kept ms ps rs qs f)) (position p ++ rest) ≡ run (at (PositionEnd (further p)) c m (kept ms ps rs (qs ++ coordinate_by (read_value precision) p ∷ []) (noted precision f (third_places p) (position_numbers p)))) rest
  run_position (Two x y) c m ms ps rs qs f rest = ap (λ g. run (at (PositionEnd 0) c m (kept ms ps rs (qs ++ coordinate_by (read_value precision) (Two x y) ∷ []) g)) rest) (note_two x y f)
  run_position (Three x y z) c m ms ps rs qs f rest = ap (λ g. run (at (PositionEnd 1) c m (kept ms ps rs (qs ++ coordinate_by (read_value precision) (Two x y) ∷ []) g)) rest) (note_three x y z f)
  run_position (Four x y z w) c m ms ps rs qs f rest = ap (λ g. run (at (PositionEnd 2) c m (kept ms ps rs (qs ++ coordinate_by (read_value precision) (Two x y) ∷ []) g)) rest) (note_four x y z w f)

  -- further positions, up to the end of the ring
  run_positions : (ks : List Position) (n : ℕ) (c m : Bool) (ms : Members) (ps : List (List (List Coord))) (rs : List (List Coord)) (qs : List Coord) (f : Faults) (rest : List Token)
      → run (at (PositionEnd n) c m (kept ms ps rs qs f)) (flat_map (λ p. Comma ∷ position p) ks ++ Close ∷ rest)
      ≡ run (at RingEnd c m (ring_kept (kept ms ps rs (qs ++ map (coordinate_by (read_value precision)) ks) (noted precision f (flat_map third_places ks) (flat_map position_numbers ks))))) rest
  run_positions [] n c m ms ps rs qs f rest =
      ap₂ (λ (xs : List Coord) (g : Faults). run (at RingEnd c m (ring_kept (kept ms ps rs xs g))) rest) (sym (append-nil qs)) (sym (noted-nil precision f))
  run_positions (p ∷ ks) n c m ms ps rs qs f rest =
      ap (run (at PositionStart c m (kept ms ps rs qs f))) (append_assoc (position p) (flat_map (λ q. Comma ∷ position q) ks) (Close ∷ rest))
      ∙ run_position p c m ms ps rs qs f (flat_map (λ q. Comma ∷ position q) ks ++ Close ∷ rest)
      ∙ run_positions ks (further p) c m ms ps rs (qs ++ coordinate_by (read_value precision) p ∷ []) (noted precision f (third_places p) (position_numbers p)) rest
      ∙ ap₂ (λ (xs : List Coord) (g : Faults). run (at RingEnd c m (ring_kept (kept ms ps rs xs g))) rest)
      (append_assoc qs (coordinate_by (read_value precision) p ∷ []) (map (coordinate_by (read_value precision)) ks))
      (noted-append precision f (third_places p) (flat_map third_places ks) (position_numbers p) (flat_map position_numbers ks))

  -- ---- rings

  -- the points of a ring, without the last
  abbrev pub open_points : Ring → List Coord
  open_points r = take (length (positions r) - 1) (ring_points precision r)

  run_ring : (r : Ring) (c m : Bool) (ms : Members) (ps : List (List (List Coord))) (rs : List (List Coord)) (f : Faults) (rest : List Token)
      → run (at RingStart c m (kept ms ps rs [] f)) (ring r ++ rest) ≡ run (at RingEnd c m (kept ms ps (rs ++ open_points r ∷ []) [] (grown precision f (ring_extras r) (r ∷ [])))) rest
  run_ring r c m ms ps rs f rest =
      let more = flat_map (λ q. Comma ∷ position q) r.others in
      let regroup : ((position r.first ++ more) ++ Close ∷ []) ++ rest ≡ position r.first ++ (more ++ Close ∷ rest) = simp append_assoc in
      ap (run (at PositionStart c m (kept ms ps rs [] f))) regroup
      ∙ run_position r.first c m ms ps rs [] f (more ++ Close ∷ rest)
      ∙ run_positions r.others (further r.first) c m ms ps rs (coordinate_by (read_value precision) r.first ∷ []) (noted precision f (third_places r.first) (position_numbers r.first)) rest
      ∙ ap₂ (λ (n : ℕ) (g : Faults). run (at RingEnd c m (kept ms ps (rs ++ take (n - 1) (ring_points precision r) ∷ []) [] (with_ring (ring_points precision r) g))) rest)
      (length-map (positions r) (coordinate_by (read_value precision)))
      (noted-append precision f (third_places r.first) (flat_map third_places r.others) (position_numbers r.first) (flat_map position_numbers r.others))
      ∙ ap (λ g. run (at RingEnd c m (kept ms ps (rs ++ open_points r ∷ []) [] g)) rest) (with_ring-noted precision r f (ring_extras r))

  run_rings : (ks : List Ring) (c m : Bool) (ms : Members) (ps : List (List (List Coord))) (rs : List (List Coord)) (f : Faults) (rest : List Token)
      → run (at RingEnd c m (kept ms ps rs [] f)) (flat_map (λ r. Comma ∷ ring r) ks ++ rest)
      ≡ run (at RingEnd c m (kept ms ps (rs ++ map open_points ks) [] (grown precision f (flat_map ring_extras ks) ks))) rest
  run_rings [] c m ms ps rs f rest =
      ap₂ (λ (xs : List (List Coord)) (g : Faults). run (at RingEnd c m (kept ms ps xs [] g)) rest) (sym (append-nil rs)) (sym (grown-nil precision f))
  run_rings (r ∷ ks) c m ms ps rs f rest =
      ap (run (at RingStart c m (kept ms ps rs [] f))) (append_assoc (ring r) (flat_map (λ q. Comma ∷ ring q) ks) rest)
      ∙ run_ring r c m ms ps rs f (flat_map (λ q. Comma ∷ ring q) ks ++ rest)
      ∙ run_rings ks c m ms ps (rs ++ open_points r ∷ []) (grown precision f (ring_extras r) (r ∷ [])) rest
      ∙ ap₂ (λ (xs : List (List Coord)) (g : Faults). run (at RingEnd c m (kept ms ps xs [] g)) rest)
      (append_assoc rs (open_points r ∷ []) (map open_points ks))
      (grown-append precision f (ring_extras r) (flat_map ring_extras ks) (r ∷ []) ks)

  -- ---- polygon bodies

  -- the polygons of polygon bodies that are not EMPTY
  abbrev pub polys_of : List (List Ring) → List (List (List Coord))
  polys_of polygons = map (λ rings. map open_points rings) (filter has_ring polygons)

  abbrev pub bodies_extras : List (List Ring) → List ℕ
  bodies_extras polygons = flat_map ring_extras (flat_map (λ rings. rings) polygons)

  -- what is kept behind polygon bodies
  abbrev pub with_bodies : List (List Ring) → Members → List (List (List Coord)) → Faults → Kept
  with_bodies polygons ms ps f = kept ms (ps ++ polys_of polygons) [] [] (grown precision f (bodies_extras polygons) (flat_map (λ rings. rings) polygons))

  -- behind the bracket that opens a polygon body
  run_open_body : (r : Ring) (ks : List Ring) (c m : Bool) (ms : Members) (ps : List (List (List Coord))) (f : Faults) (rest : List Token)
      → run (at RingStart c m (kept ms ps [] [] f)) (((ring r ++ flat_map (λ q. Comma ∷ ring q) ks) ++ Close ∷ []) ++ rest) ≡ run (body_end c m (with_bodies ((r ∷ ks) ∷ []) ms ps f)) rest
  run_open_body r ks c m ms ps f rest =
      let more = flat_map (λ q. Comma ∷ ring q) ks in
      let regroup : ((ring r ++ more) ++ Close ∷ []) ++ rest ≡ ring r ++ (more ++ Close ∷ rest) = simp append_assoc in
      ap (run (at RingStart c m (kept ms ps [] [] f))) regroup
      ∙ run_ring r c m ms ps [] f (more ++ Close ∷ rest)
      ∙ run_rings ks c m ms ps (open_points r ∷ []) (grown precision f (ring_extras r) (r ∷ [])) (Close ∷ rest)
      ∙ ap (λ g. run (body_end c m (kept ms (ps ++ (open_points r ∷ map open_points ks) ∷ []) [] [] g)) rest)
      (grown-append precision f (ring_extras r) (flat_map ring_extras ks) (r ∷ []) ks
      ∙ ap₂ (λ (xs : List ℕ) (ss : List Ring). grown precision f xs ss) (ap (flat_map ring_extras) (sym (append-nil (r ∷ ks)))) (sym (append-nil (r ∷ ks))))

  with_empty : (ms : Members) (ps : List (List (List Coord))) (f : Faults) → with_bodies ([] ∷ []) ms ps f ≡ kept ms ps [] [] f
  with_empty ms ps f = ap₂ (λ (xs : List (List (List Coord))) (g : Faults). kept ms xs [] [] g) (append-nil ps) (grown-nil precision f)

  run_polygon_head : (ks : List Ring) (d c m : Bool) (ms : Members) (ps : List (List (List Coord))) (f : Faults) (rest : List Token)
      → run (at (Head kinds.Polygon d) c m (kept ms ps [] [] f)) (polygon_body ks ++ rest) ≡ run (body_end c m (with_bodies (ks ∷ []) ms ps f)) rest
  run_polygon_head [] d c m ms ps f rest = ap (λ k. run (body_end c m k) rest) (sym (with_empty ms ps f))
  run_polygon_head (r ∷ ks) d c m ms ps f rest = run_open_body r ks c m ms ps f rest

  run_body : (ks : List Ring) (c : Bool) (ms : Members) (ps : List (List (List Coord))) (f : Faults) (rest : List Token)
      → run (at BodyStart c true (kept ms ps [] [] f)) (polygon_body ks ++ rest) ≡ run (at BodyEnd c true (with_bodies (ks ∷ []) ms ps f)) rest
  run_body [] c ms ps f rest = ap (λ k. run (at BodyEnd c true k) rest) (sym (with_empty ms ps f))
  run_body (r ∷ ks) c ms ps f rest = run_open_body r ks c true ms ps f rest

  polys_of-cons : (ks : List Ring) (polygons : List (List Ring)) → polys_of (ks ∷ polygons) ≡ polys_of (ks ∷ []) ++ polys_of polygons
  polys_of-cons [] polygons = refl
  polys_of-cons (r ∷ ks) polygons = refl

  -- bodies behind bodies
  with_bodies-cons : (ks : List Ring) (polygons : List (List Ring)) (ms : Members) (ps : List (List (List Coord))) (f : Faults)
      → with_bodies polygons ms (ps ++ polys_of (ks ∷ [])) (grown precision f (bodies_extras (ks ∷ [])) (flat_map (λ rings. rings) (ks ∷ []))) ≡ with_bodies (ks ∷ polygons) ms ps f
  with_bodies-cons ks polygons ms ps f =
      let all = flat_map (λ (rings : List Ring). rings) polygons in
      let same : flat_map (λ (rings : List Ring). rings) (ks ∷ []) ≡ ks = append-nil ks in
      let places : bodies_extras (ks ∷ []) ++ bodies_extras polygons ≡ bodies_extras (ks ∷ polygons) = ap (λ (rings : List Ring). flat_map ring_extras rings ++ flat_map ring_extras all) same ∙ sym (flat_map-append ring_extras ks all) in
      ap₂ (λ (xs : List (List (List Coord))) (g : Faults). kept ms xs [] [] g)
      (append_assoc ps (polys_of (ks ∷ [])) (polys_of polygons) ∙ ap (λ xs. ps ++ xs) (sym (polys_of-cons ks polygons)))
      (grown-append precision f (bodies_extras (ks ∷ [])) (bodies_extras polygons) (flat_map (λ rings. rings) (ks ∷ [])) all
      ∙ ap₂ (λ (xs : List ℕ) (ss : List Ring). grown precision f xs ss) places (ap (λ (rings : List Ring). rings ++ all) same))

  run_bodies : (polygons : List (List Ring)) (c : Bool) (ms : Members) (ps : List (List (List Coord))) (f : Faults) (rest : List Token)
      → run (at BodyEnd c true (kept ms ps [] [] f)) (flat_map (λ rings. Comma ∷ polygon_body rings) polygons ++ Close ∷ rest) ≡ run (element_end c (with_bodies polygons ms ps f)) rest
  run_bodies [] c ms ps f rest =
      ap₂ (λ (xs : List (List (List Coord))) (g : Faults). run (element_end c (kept ms xs [] [] g)) rest) (sym (append-nil ps)) (sym (grown-nil precision f))
  run_bodies (ks ∷ polygons) c ms ps f rest =
      let more = flat_map (λ rings. Comma ∷ polygon_body rings) polygons in
      ap (run (at BodyStart c true (kept ms ps [] [] f))) (append_assoc (polygon_body ks) more (Close ∷ rest))
      ∙ run_body ks c ms ps f (more ++ Close ∷ rest)
      ∙ run_bodies polygons c ms (ps ++ polys_of (ks ∷ [])) (grown precision f (bodies_extras (ks ∷ [])) (flat_map (λ rings. rings) (ks ∷ []))) rest
      ∙ ap (λ k. run (element_end c k) rest) (with_bodies-cons ks polygons ms ps f)

  run_multi_head : (polygons : List (List Ring)) (d c m : Bool) (ms : Members) (ps : List (List (List Coord))) (f : Faults) (rest : List Token)
      → run (at (Head kinds.MultiPolygon d) c m (kept ms ps [] [] f)) (multi_body polygons ++ rest) ≡ run (element_end c (with_bodies polygons ms ps f)) rest
  run_multi_head [] d c m ms ps f rest =
      ap₂ (λ (xs : List (List (List Coord))) (g : Faults). run (element_end c (kept ms xs [] [] g)) rest) (sym (append-nil ps)) (sym (grown-nil precision f))
  run_multi_head (ks ∷ polygons) d c m ms ps f rest =
      let more = flat_map (λ rings. Comma ∷ polygon_body rings) polygons in
      let regroup : ((polygon_body ks ++ more) ++ Close ∷ []) ++ rest ≡ polygon_body ks ++ (more ++ Close ∷ rest) = simp append_assoc in
      ap (run (at BodyStart c true (kept ms ps [] [] f))) regroup
      ∙ run_body ks c ms ps f (more ++ Close ∷ rest)
      ∙ run_bodies polygons c ms (ps ++ polys_of (ks ∷ [])) (grown precision f (bodies_extras (ks ∷ [])) (flat_map (λ rings. rings) (ks ∷ []))) rest
      ∙ ap (λ k. run (element_end c k) rest) (with_bodies-cons ks polygons ms ps f)

  -- ---- elements, geometries, files

  -- the member that is read of an element
  abbrev pub member_of : Element → List (List (List Coord))
  member_of e = polys_of (bodies e)

  -- what is kept behind an element
  abbrev pub with_element : Element → Members → Faults → Kept
  with_element e ms f = kept (ms ++ member_of e ∷ []) [] [] [] (grown precision f (element_extras e) (rings_of e))

  -- behind the word of a body, its dimension
  run_dimension : (d : Option Dimension) (kind : Body) (c m : Bool) (ms : Members) (f : Faults) (rest : List Token)
      → run (at (Head kind false) c m (kept ms [] [] [] f)) (dimension d ++ rest) ≡ run (at (Head kind (is_some d)) c m (kept ms [] [] [] (grown precision f (dimension_places d) []))) rest
  run_dimension None kind c m ms f rest = ap (λ g. run (at (Head kind false) c m (kept ms [] [] [] g)) rest) (sym (grown-nil precision f))
  run_dimension (Some d) kind c m ms f rest = ap (λ g. run (at (Head kind true) c m (kept ms [] [] [] g)) rest) (with_extra-grown precision d.at f)

  element_grown : (d : Option Dimension) (polygons : List (List Ring)) (ms : Members) (f : Faults)
      → member_kept (with_bodies polygons ms [] (grown precision f (dimension_places d) [])) ≡ kept (ms ++ polys_of polygons ∷ []) [] [] [] (grown precision f (dimension_places d ++ bodies_extras polygons) (flat_map (λ rings. rings) polygons))
  element_grown d polygons ms f = ap (λ g. kept (ms ++ polys_of polygons ∷ []) [] [] [] g) (grown-append precision f (dimension_places d) (bodies_extras polygons) [] (flat_map (λ rings. rings) polygons))

  -- the state behind an element whose member was kept
  abbrev pub element_place : Bool → Place
  element_place true = ElementEnd
  element_place false = Outside

  pub element_end_is : (c : Bool) (k : Kept) → element_end c k ≡ at (element_place c) c false (member_kept k)
  element_end_is true k = refl
  element_end_is false k = refl

  -- behind the word of an element
  run_element_head : (e : Element) (c : Bool) (ms : Members) (f : Faults) (rest : List Token) (place : Place)
      → ((k : Kept) (ts : List Token) → run (at place c false k) (Word Polygon ∷ ts) ≡ run (at (Head kinds.Polygon false) c false k) ts)
      → ((k : Kept) (ts : List Token) → run (at place c false k) (Word MultiPolygon ∷ ts) ≡ run (at (Head kinds.MultiPolygon false) c false k) ts)
      → run (at place c false (kept ms [] [] [] f)) (element e ++ rest) ≡ run (at (element_place c) c false (with_element e ms f)) rest
  run_element_head (OnePolygon d ks) c ms f rest place one many =
      one (kept ms [] [] [] f) ((dimension d ++ polygon_body ks) ++ rest)
      ∙ ap (run (at (Head kinds.Polygon false) c false (kept ms [] [] [] f))) (append_assoc (dimension d) (polygon_body ks) rest)
      ∙ run_dimension d kinds.Polygon c false ms f (polygon_body ks ++ rest)
      ∙ run_polygon_head ks (is_some d) c false ms [] (grown precision f (dimension_places d) []) rest
      ∙ ap (λ s. run s rest) (element_end_is c (with_bodies (ks ∷ []) ms [] (grown precision f (dimension_places d) [])))
      ∙ ap (λ k. run (at (element_place c) c false k) rest) (element_grown d (ks ∷ []) ms f)
  run_element_head (ManyPolygons d polygons) c ms f rest place one many =
      many (kept ms [] [] [] f) ((dimension d ++ multi_body polygons) ++ rest)
      ∙ ap (run (at (Head kinds.MultiPolygon false) c false (kept ms [] [] [] f))) (append_assoc (dimension d) (multi_body polygons) rest)
      ∙ run_dimension d kinds.MultiPolygon c false ms f (multi_body polygons ++ rest)
      ∙ run_multi_head polygons (is_some d) c false ms [] (grown precision f (dimension_places d) []) rest
      ∙ ap (λ s. run s rest) (element_end_is c (with_bodies polygons ms [] (grown precision f (dimension_places d) [])))
      ∙ ap (λ k. run (at (element_place c) c false k) rest) (element_grown d polygons ms f)

  abbrev pub elements_extras : List Element → List ℕ
  elements_extras es = flat_map element_extras es

  -- what is kept behind elements
  abbrev pub with_elements : List Element → Members → Faults → Kept
  with_elements es ms f = kept (ms ++ map member_of es) [] [] [] (grown precision f (elements_extras es) (flat_map rings_of es))

  with_elements-nil : (ms : Members) (f : Faults) → kept ms [] [] [] f ≡ with_elements [] ms f
  with_elements-nil ms f = ap₂ (λ (xs : Members) (g : Faults). kept xs [] [] [] g) (sym (append-nil ms)) (sym (grown-nil precision f))

  with_elements-cons : (e : Element) (es : List Element) (ms : Members) (f : Faults) → with_elements es (ms ++ member_of e ∷ []) (grown precision f (element_extras e) (rings_of e)) ≡ with_elements (e ∷ es) ms f
  with_elements-cons e es ms f = ap₂ (λ (xs : Members) (g : Faults). kept xs [] [] [] g) (append_assoc ms (member_of e ∷ []) (map member_of es)) (grown-append precision f (element_extras e) (elements_extras es) (rings_of e) (flat_map rings_of es))

  -- further elements of a collection, and its end
  run_elements : (es : List Element) (ms : Members) (f : Faults) (rest : List Token)
      → run (at ElementEnd true false (kept ms [] [] [] f)) (flat_map (λ e. Comma ∷ element e) es ++ Close ∷ rest) ≡ run (at Outside false false (with_elements es ms f)) rest
  run_elements [] ms f rest = ap (λ k. run (at Outside false false k) rest) (with_elements-nil ms f)
  run_elements (e ∷ es) ms f rest =
      let more = flat_map (λ x. Comma ∷ element x) es in
      ap (run (at ElementStart true false (kept ms [] [] [] f))) (append_assoc (element e) more (Close ∷ rest))
      ∙ run_element_head e true ms f (more ++ Close ∷ rest) ElementStart (λ k ts. refl) (λ k ts. refl)
      ∙ run_elements es (ms ++ member_of e ∷ []) (grown precision f (element_extras e) (rings_of e)) rest
      ∙ ap (λ k. run (at Outside false false k) rest) (with_elements-cons e es ms f)

  run_collection_head : (es : List Element) (d : Bool) (ms : Members) (f : Faults) (rest : List Token)
      → run (at (Head kinds.GeometryCollection d) false false (kept ms [] [] [] f)) (body element es ++ rest) ≡ run (at Outside false false (with_elements es ms f)) rest
  run_collection_head [] d ms f rest = ap (λ k. run (at Outside false false k) rest) (with_elements-nil ms f)
  run_collection_head (e ∷ es) d ms f rest =
      let more = flat_map (λ x. Comma ∷ element x) es in
      let regroup : ((element e ++ more) ++ Close ∷ []) ++ rest ≡ element e ++ (more ++ Close ∷ rest) = simp append_assoc in
      ap (run (at ElementStart true false (kept ms [] [] [] f))) regroup
      ∙ run_element_head e true ms f (more ++ Close ∷ rest) ElementStart (λ k ts. refl) (λ k ts. refl)
      ∙ run_elements es (ms ++ member_of e ∷ []) (grown precision f (element_extras e) (rings_of e)) rest
      ∙ ap (λ k. run (at Outside false false k) rest) (with_elements-cons e es ms f)

  -- what is kept behind geometries
  abbrev pub with_geometry : Geometry → Members → Faults → Kept
  with_geometry g ms f = kept (ms ++ map member_of (elements g)) [] [] [] (grown precision f (geometry_extras g) (flat_map rings_of (elements g)))

  run_geometry : (g : Geometry) (ms : Members) (f : Faults) (rest : List Token)
      → run (at Outside false false (kept ms [] [] [] f)) (geometry g ++ rest) ≡ run (at Outside false false (with_geometry g ms f)) rest
  run_geometry (Single e) ms f rest =
      run_element_head e false ms f rest Outside (λ k ts. refl) (λ k ts. refl)
      ∙ ap (λ ss. run (at Outside false false (kept (ms ++ member_of e ∷ []) [] [] [] (grown precision f (element_extras e) ss))) rest) (sym (append-nil (rings_of e)))
  run_geometry (Collection d es) ms f rest =
      ap (run (at (Head kinds.GeometryCollection false) false false (kept ms [] [] [] f))) (append_assoc (dimension d) (body element es) rest)
      ∙ run_dimension d kinds.GeometryCollection false false ms f (body element es ++ rest)
      ∙ run_collection_head es (is_some d) ms (grown precision f (dimension_places d) []) rest
      ∙ ap (λ h. run (at Outside false false (kept (ms ++ map member_of es) [] [] [] h)) rest) (grown-append precision f (dimension_places d) (elements_extras es) [] (flat_map rings_of es))

  -- what is kept behind a file
  abbrev pub with_file : List Geometry → Members → Faults → Kept
  with_file gs ms f = kept (ms ++ map member_of (flat_map elements gs)) [] [] [] (grown precision f (extra_places gs) (rings gs))

  run_file : (gs : List Geometry) (ms : Members) (f : Faults) → run (at Outside false false (kept ms [] [] [] f)) (file gs) ≡ Some (at Outside false false (with_file gs ms f))
  run_file [] ms f = ap (λ k. Some (at Outside false false k)) (with_elements-nil ms f)
  run_file (g ∷ gs) ms f =
      run_geometry g ms f (file gs)
      ∙ run_file gs (ms ++ map member_of (elements g)) (grown precision f (geometry_extras g) (flat_map rings_of (elements g)))
      ∙ ap₂ (λ (xs : Members) (h : Faults). Some (at Outside false false (kept xs [] [] [] h)))
      (append_assoc ms (map member_of (elements g)) (map member_of (flat_map elements gs)) ∙ ap (λ xs. ms ++ xs) (sym (map-append member_of (elements g) (flat_map elements gs))))
      (grown-append precision f (geometry_extras g) (extra_places gs) (flat_map rings_of (elements g)) (rings gs)
      ∙ ap (grown precision f (extra_places (g ∷ gs))) (sym (flat_map-append rings_of (elements g) (flat_map elements gs))))

  -- the state behind a file
  abbrev pub end_of : List Geometry → ParserState
  end_of gs = at Outside false false (with_file gs [] no_faults)

  -- the machine takes each file
  pub run-file : (gs : List Geometry) → run start (file gs) ≡ Some (end_of gs)
  run-file gs = run_file gs [] no_faults
