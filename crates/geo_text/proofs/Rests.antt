-- What the machine takes, the grammar has: what is left to come at each place, up to the end of the file.
use Rattle.std.proofs.Common.{◌≡◌, ℕ, suc, ◌+◌, ◌<◌, ◌≤◌, Bool, true, false, cond, List, [], ◌∷◌, ◌++◌, length, map, flat_map, arith, zero-lt-suc, ltb, ltb-true, Option, Some, None, option_and_then, sym, refl, ap, ◌∙◌, subst, append_assoc}
use Rattle.std.proofs.lemmas.Bool.{false≢true}
use Rattle.geo_text.specs.Token.{Polygon, MultiPolygon, GeometryCollection, Empty, Dimension, Numeral, Token, Word, Dimensions, Number, Open, Close, Comma}
use Rattle.geo_text.specs.Grammar.{Position, Two, Three, Four, Ring, Element, OnePolygon, ManyPolygons, Geometry, Single, Collection, bracketed, body, dimension, position, ring, polygon_body, multi_body, element, file}
use Rattle.geo_text.specs.Number.{Precision}
use Rattle.geo_text.specs.Machine.{Kept, ParserState, at, start, body_end, element_end, member_kept}
use Rattle.geo_text.specs.declared.place.Body.TheVariants as kinds
use Rattle.geo_text.specs.declared.place.Place.{Place}
use Rattle.geo_text.specs.declared.place.Place.TheVariants.{Outside, Head, ElementStart, ElementEnd, BodyStart, BodyEnd, RingStart, PositionStart, SecondNumber, PositionEnd, RingEnd}
use Rattle.geo_text.proofs.Options.{none_some}
use Rattle.geo_text.proofs.Parsing.{run}

module _ (precision : Precision) where
  -- between geometries
  abbrev pub FileRest : List Token → Type 0
  FileRest ts = (gs : List Geometry) × (ts ≡ file gs)

  -- behind an element of a collection: further elements, and the end of the collection
  abbrev ElementsRest : List Token → Type 0
  ElementsRest ts = (es : List Element) × (rest : List Token) × (ts ≡ flat_map (λ e. Comma ∷ element e) es ++ Close ∷ rest) × FileRest rest

  -- at an element of a collection
  abbrev ElementRest : List Token → Type 0
  ElementRest ts = (e : Element) × (rest : List Token) × (ts ≡ element e ++ rest) × ElementsRest rest

  -- behind an element, of a collection or not
  abbrev ElementEndRest : Bool → List Token → Type 0
  ElementEndRest true ts = ElementsRest ts
  ElementEndRest false ts = FileRest ts

  -- behind a polygon body of a multi body
  abbrev BodiesRest : Bool → List Token → Type 0
  BodiesRest c ts = (bs : List (List Ring)) × (rest : List Token) × (ts ≡ flat_map (λ rings. Comma ∷ polygon_body rings) bs ++ Close ∷ rest) × ElementEndRest c rest

  -- at a polygon body of a multi body
  abbrev BodyRest : Bool → List Token → Type 0
  BodyRest c ts = (rings : List Ring) × (rest : List Token) × (ts ≡ polygon_body rings ++ rest) × BodiesRest c rest

  -- behind a polygon body, of a multi body or not
  abbrev BodyEndRest : Bool → Bool → List Token → Type 0
  BodyEndRest c true ts = BodiesRest c ts
  BodyEndRest c false ts = ElementEndRest c ts

  -- behind a ring: further rings, and the end of the polygon body
  abbrev RingsRest : Bool → Bool → List Token → Type 0
  RingsRest c m ts = (rs : List Ring) × (rest : List Token) × (ts ≡ flat_map (λ r. Comma ∷ ring r) rs ++ Close ∷ rest) × BodyEndRest c m rest

  -- at a ring
  abbrev RingRest : Bool → Bool → List Token → Type 0
  RingRest c m ts = (r : Ring) × (rest : List Token) × (ts ≡ ring r ++ rest) × RingsRest c m rest

  -- behind a position: further positions, and the end of the ring
  abbrev PositionsRest : Bool → Bool → List Token → Type 0
  PositionsRest c m ts = (ps : List Position) × (rest : List Token) × (ts ≡ flat_map (λ p. Comma ∷ position p) ps ++ Close ∷ rest) × RingsRest c m rest

  -- at a position
  abbrev PositionRest : Bool → Bool → List Token → Type 0
  PositionRest c m ts = (p : Position) × (rest : List Token) × (ts ≡ position p ++ rest) × PositionsRest c m rest

  -- behind two numbers of a position and n further ones: the others of the position
  abbrev FurtherRest : ℕ → Bool → Bool → List Token → Type 0
  FurtherRest n c m ts =
      (zs : List Numeral) × (rest : List Token) × (0 < length zs → length zs + n ≤ 2) × (ts ≡ map (λ z. Number z) zs ++ rest) × PositionsRest c m rest

  -- at the second number of a position
  abbrev SecondRest : Bool → Bool → List Token → Type 0
  SecondRest c m ts = (y : Numeral) × (rest : List Token) × (ts ≡ Number y ∷ rest) × FurtherRest 0 c m rest

  -- behind a word, and perhaps its dimension word
  abbrev HeadRest : {A : Type 0} → Bool → (A → List Token) → (List Token → Type 0) → List Token → Type 0
  HeadRest {A} came tokens Behind ts =
      (d : Option Dimension) × (x : A) × (rest : List Token) × (came ≡ true → d ≡ None) × (ts ≡ dimension d ++ (tokens x ++ rest)) × Behind rest

  abbrev Rest : Place → Bool → Bool → List Token → Type 0
  Rest Outside c m ts = c ≡ false → m ≡ false → FileRest ts
  Rest (Head kinds.Polygon came) c m ts = m ≡ false → HeadRest came polygon_body (ElementEndRest c) ts
  Rest (Head kinds.MultiPolygon came) c m ts = m ≡ false → HeadRest came multi_body (ElementEndRest c) ts
  Rest (Head kinds.GeometryCollection came) c m ts = c ≡ false → m ≡ false → HeadRest came (body element) FileRest ts
  Rest ElementStart c m ts = c ≡ true → m ≡ false → ElementRest ts
  Rest ElementEnd c m ts = c ≡ true → m ≡ false → ElementsRest ts
  Rest BodyStart c m ts = m ≡ true → BodyRest c ts
  Rest BodyEnd c m ts = m ≡ true → BodiesRest c ts
  Rest RingStart c m ts = RingRest c m ts
  Rest PositionStart c m ts = PositionRest c m ts
  Rest (SecondNumber x) c m ts = SecondRest c m ts
  Rest (PositionEnd n) c m ts = FurtherRest n c m ts
  Rest RingEnd c m ts = RingsRest c m ts

  -- ---- each token in front

  position_of : Numeral → Numeral → List Numeral → Position
  position_of x y [] = Two x y
  position_of x y (z ∷ []) = Three x y z
  position_of x y (z ∷ m ∷ zs) = Four x y z m

  position_of_is : (x y : Numeral) (zs : List Numeral) → (0 < length zs → length zs + 0 ≤ 2) → position (position_of x y zs) ≡ Number x ∷ Number y ∷ map (λ z. Number z) zs
  unfolding position_of
  position_of_is x y [] h = refl
  position_of_is x y (z ∷ []) h = refl
  position_of_is x y (z ∷ m ∷ []) h = refl
  position_of_is x y (z ∷ m ∷ w ∷ zs) h = absurd (omega (arith, h (zero-lt-suc _)))

  first_number : (x : Numeral) (c m : Bool) (ts : List Token) → SecondRest c m ts → PositionRest c m (Number x ∷ ts)
  first_number x c m ts (y, rest, same, (zs, more, few, same_more, behind)) =
      (position_of x y zs, more, ap (λ us. Number x ∷ us) (same ∙ ap (λ us. Number y ∷ us) same_more) ∙ ap (λ us. us ++ more) (sym (position_of_is x y zs few)), behind)

  few_more : (zs : List Numeral) (n : ℕ) → n < 2 → (0 < length zs → length zs + (n + 1) ≤ 2) → 0 < suc (length zs) → suc (length zs) + n ≤ 2
  few_more [] n h few k = omega arith
  few_more (z ∷ zs) n h few k = omega (arith, few (zero-lt-suc (length zs)))

  further_number : (z : Numeral) (n : ℕ) (c m : Bool) (ts : List Token) → n < 2 → FurtherRest (n + 1) c m ts → FurtherRest n c m (Number z ∷ ts)
  further_number z n c m ts h (zs, rest, few, same, behind) = (z ∷ zs, rest, few_more zs n h few, ap (λ us. Number z ∷ us) same, behind)

  next_position : (n : ℕ) (c m : Bool) (ts : List Token) → PositionRest c m ts → FurtherRest n c m (Comma ∷ ts)
  next_position n c m ts (p, rest, same, (ps, more, same_more, behind)) =
      ([], Comma ∷ ts, (λ h. absurd (omega arith)), refl, (p ∷ ps, more, ap (λ us. Comma ∷ us) (same ∙ ap (λ us. position p ++ us) same_more ∙ sym (append_assoc (position p) (flat_map (λ q. Comma ∷ position q) ps) (Close ∷ more))), behind))

  ring_closes : (n : ℕ) (c m : Bool) (ts : List Token) → RingsRest c m ts → FurtherRest n c m (Close ∷ ts)
  ring_closes n c m ts behind = ([], Close ∷ ts, (λ h. absurd (omega arith)), refl, ([], ts, refl, behind))

  ring_opens : (c m : Bool) (ts : List Token) → PositionRest c m ts → RingRest c m (Open ∷ ts)
  ring_opens c m ts (p, rest, same, (ps, more, same_more, behind)) =
      let others = flat_map (λ q. Comma ∷ position q) ps in
      let regroup : ((position p ++ others) ++ Close ∷ []) ++ more ≡ position p ++ (others ++ Close ∷ more) = simp append_assoc in
      (record { first = p; others = ps }, more, ap (λ us. Open ∷ us) (same ∙ ap (λ us. position p ++ us) same_more ∙ sym regroup), behind)

  next_ring : (c m : Bool) (ts : List Token) → RingRest c m ts → RingsRest c m (Comma ∷ ts)
  next_ring c m ts (r, rest, same, (rs, more, same_more, behind)) =
      (r ∷ rs, more, ap (λ us. Comma ∷ us) (same ∙ ap (λ us. ring r ++ us) same_more ∙ sym (append_assoc (ring r) (flat_map (λ q. Comma ∷ ring q) rs) (Close ∷ more))), behind)

  -- the bracket that opens a list of entries
  opens : {A : Type 0} (tokens : A → List Token) (x : A) (xs : List A) (ts rest more : List Token) → ts ≡ tokens x ++ rest → rest ≡ flat_map (λ y. Comma ∷ tokens y) xs ++ Close ∷ more → Open ∷ ts ≡ bracketed tokens x xs ++ more
  opens tokens x xs ts rest more e1 e2 =
      let others = flat_map (λ y. Comma ∷ tokens y) xs in
      let regroup : ((tokens x ++ others) ++ Close ∷ []) ++ more ≡ tokens x ++ (others ++ Close ∷ more) = simp append_assoc in
      ap (λ us. Open ∷ us) (e1 ∙ ap (λ us. tokens x ++ us) e2 ∙ sym regroup)

  -- the comma before a further entry
  follows : {A : Type 0} (tokens : A → List Token) (x : A) (xs : List A) (ts rest more : List Token) → ts ≡ tokens x ++ rest → rest ≡ flat_map (λ y. Comma ∷ tokens y) xs ++ Close ∷ more → Comma ∷ ts ≡ flat_map (λ y. Comma ∷ tokens y) (x ∷ xs) ++ Close ∷ more
  follows tokens x xs ts rest more e1 e2 =
      ap (λ us. Comma ∷ us) (e1 ∙ ap (λ us. tokens x ++ us) e2 ∙ sym (append_assoc (tokens x) (flat_map (λ y. Comma ∷ tokens y) xs) (Close ∷ more)))

  -- ---- each step

  abbrev Sound : List Token → Type 0
  Sound ts = (place : Place) (c m : Bool) (k : Kept) (f : ParserState) → run precision (at place c m k) ts ≡ Some f → f.place ≡ Outside → Rest place c m ts

  behind_element : (ts : List Token) → Sound ts → (c : Bool) (k : Kept) (f : ParserState) → run precision (element_end c k) ts ≡ Some f → f.place ≡ Outside → ElementEndRest c ts
  behind_element ts sound true k f e h = sound ElementEnd true false (member_kept k) f e h refl refl
  behind_element ts sound false k f e h = sound Outside false false (member_kept k) f e h refl refl

  behind_body : (ts : List Token) → Sound ts → (c m : Bool) (k : Kept) (f : ParserState) → run precision (body_end c m k) ts ≡ Some f → f.place ≡ Outside → BodyEndRest c m ts
  behind_body ts sound c true k f e h = sound BodyEnd c true k f e h refl
  behind_body ts sound c false k f e h = behind_element ts sound c k f e h

  -- a token that is taken only where a test holds
  taken : {A : Type 0} (b : Bool) (s : ParserState) (f : ParserState → Option A) (r : A) → option_and_then f (cond b (Some s) None) ≡ Some r → (b ≡ true) × (f s ≡ Some r)
  taken true s f r e = (refl, e)
  taken false s f r e = absurd (none_some r e)

  -- a word that begins a geometry or an element
  begins_polygon : (c : Bool) (ts : List Token) → HeadRest false polygon_body (ElementEndRest c) ts → (e : Element) × (rest : List Token) × (Word Polygon ∷ ts ≡ element e ++ rest) × ElementEndRest c rest
  begins_polygon c ts (d, rings, rest, fresh, same, behind) =
      (OnePolygon d rings, rest, ap (λ us. Word Polygon ∷ us) (same ∙ sym (append_assoc (dimension d) (polygon_body rings) rest)), behind)

  begins_multi : (c : Bool) (ts : List Token) → HeadRest false multi_body (ElementEndRest c) ts → (e : Element) × (rest : List Token) × (Word MultiPolygon ∷ ts ≡ element e ++ rest) × ElementEndRest c rest
  begins_multi c ts (d, polygons, rest, fresh, same, behind) =
      (ManyPolygons d polygons, rest, ap (λ us. Word MultiPolygon ∷ us) (same ∙ sym (append_assoc (dimension d) (multi_body polygons) rest)), behind)

  begins_collection : (ts : List Token) → HeadRest false (body element) FileRest ts → FileRest (Word GeometryCollection ∷ ts)
  begins_collection ts (d, es, rest, fresh, same, (gs, same_rest)) = (
    Collection d es ∷ gs,
    ap (λ us. Word GeometryCollection ∷ us) (same ∙ ap (λ us. dimension d ++ (body element es ++ us)) same_rest
        ∙ sym (ap (λ us. us) (simp append_assoc))),
  )

  one_element : (t : Token) (ts : List Token) → ((e : Element) × (rest : List Token) × (t ∷ ts ≡ element e ++ rest) × FileRest rest) → FileRest (t ∷ ts)
  one_element t ts (e, rest, same, (gs, same_rest)) = (Single e ∷ gs, same ∙ ap (λ us. element e ++ us) same_rest)

  next_element : (ts : List Token) → ElementRest ts → ElementsRest (Comma ∷ ts)
  next_element ts (e, rest, same, (es, more, same_more, behind)) = (e ∷ es, more, follows element e es ts rest more same same_more, behind)

  next_body : (c : Bool) (ts : List Token) → BodyRest c ts → BodiesRest c (Comma ∷ ts)
  next_body c ts (rings, rest, same, (bs, more, same_more, behind)) = (rings ∷ bs, more, follows polygon_body rings bs ts rest more same same_more, behind)

  -- an entry of its own, and its end
  open_polygon : (c m : Bool) (ts : List Token) → RingRest c m ts → (rings : List Ring) × (rest : List Token) × (Open ∷ ts ≡ polygon_body rings ++ rest) × BodyEndRest c m rest
  open_polygon c m ts (r, rest, same, (rs, more, same_more, behind)) = (r ∷ rs, more, opens ring r rs ts rest more same same_more, behind)

  open_multi : (c : Bool) (ts : List Token) → BodyRest c ts → (bs : List (List Ring)) × (rest : List Token) × (Open ∷ ts ≡ multi_body bs ++ rest) × ElementEndRest c rest
  open_multi c ts (rings, rest, same, (bs, more, same_more, behind)) = (rings ∷ bs, more, opens polygon_body rings bs ts rest more same same_more, behind)

  open_collection : (ts : List Token) → ElementRest ts → (es : List Element) × (rest : List Token) × (Open ∷ ts ≡ body element es ++ rest) × FileRest rest
  open_collection ts (e, rest, same, (es, more, same_more, behind)) = (e ∷ es, more, opens element e es ts rest more same same_more, behind)

  -- a body behind no dimension word
  bare : {A : Type 0} (came : Bool) (tokens : A → List Token) (Behind : List Token → Type 0) (ts : List Token) → ((x : A) × (rest : List Token) × (ts ≡ tokens x ++ rest) × Behind rest) → HeadRest came tokens Behind ts
  bare came tokens Behind ts (x, rest, same, behind) = (None, x, rest, (λ h. refl), same, behind)

  -- the dimension word
  dimensional : {A : Type 0} (d : Dimension) (tokens : A → List Token) (Behind : List Token → Type 0) (ts : List Token) → HeadRest true tokens Behind ts → HeadRest false tokens Behind (Dimensions d ∷ ts)
  dimensional d tokens Behind ts (nothing, x, rest, fresh, same, behind) =
      (Some d, x, rest, (λ h. absurd (false≢true h)), ap (λ us. Dimensions d ∷ us) (same ∙ ap (λ o. dimension o ++ (tokens x ++ rest)) (fresh refl)), behind)

  sound_step : (t : Token) (ts : List Token) → Sound ts → Sound (t ∷ ts)
  sound_step (Word Polygon) ts sound Outside c m k f e h = λ ec em. one_element (Word Polygon) ts (subst (λ (b : Bool). (x : Element) × (rest : List Token) × (Word Polygon ∷ ts ≡ element x ++ rest) × ElementEndRest b rest) ec (begins_polygon c ts (sound (Head kinds.Polygon false) c m k f e h em)))
  sound_step (Word MultiPolygon) ts sound Outside c m k f e h = λ ec em. one_element (Word MultiPolygon) ts (subst (λ (b : Bool). (x : Element) × (rest : List Token) × (Word MultiPolygon ∷ ts ≡ element x ++ rest) × ElementEndRest b rest) ec (begins_multi c ts (sound (Head kinds.MultiPolygon false) c m k f e h em)))
  sound_step (Word GeometryCollection) ts sound Outside c m k f e h = λ ec em. begins_collection ts (sound (Head kinds.GeometryCollection false) c m k f e h ec em)
  sound_step (Word Polygon) ts sound ElementStart c m k f e h = λ ec em. subst (λ (b : Bool). (x : Element) × (rest : List Token) × (Word Polygon ∷ ts ≡ element x ++ rest) × ElementEndRest b rest) ec (begins_polygon c ts (sound (Head kinds.Polygon false) c m k f e h em))
  sound_step (Word MultiPolygon) ts sound ElementStart c m k f e h = λ ec em. subst (λ (b : Bool). (x : Element) × (rest : List Token) × (Word MultiPolygon ∷ ts ≡ element x ++ rest) × ElementEndRest b rest) ec (begins_multi c ts (sound (Head kinds.MultiPolygon false) c m k f e h em))
  sound_step Comma ts sound ElementEnd c m k f e h = λ ec em. next_element ts (sound ElementStart c m k f e h ec em)
  sound_step Close ts sound ElementEnd c m k f e h = λ ec em. ([], ts, refl, sound Outside false m k f e h refl em)
  sound_step (Dimensions d) ts sound (Head kinds.Polygon false) c m k f e h = λ em. dimensional d polygon_body (ElementEndRest c) ts (sound (Head kinds.Polygon true) c m _ f e h em)
  sound_step (Dimensions d) ts sound (Head kinds.MultiPolygon false) c m k f e h = λ em. dimensional d multi_body (ElementEndRest c) ts (sound (Head kinds.MultiPolygon true) c m _ f e h em)
  sound_step (Dimensions d) ts sound (Head kinds.GeometryCollection false) c m k f e h = λ ec em. dimensional d (body element) FileRest ts (sound (Head kinds.GeometryCollection true) c m _ f e h ec em)
  sound_step (Word Empty) ts sound (Head kinds.Polygon came) c m k f e h = λ em. bare came polygon_body (ElementEndRest c) (Word Empty ∷ ts) ([], ts, refl, subst (λ (b : Bool). BodyEndRest c b ts) em (behind_body ts sound c m k f e h))
  sound_step Open ts sound (Head kinds.Polygon came) c m k f e h = λ em. bare came polygon_body (ElementEndRest c) (Open ∷ ts) (subst (λ (b : Bool). (x : List Ring) × (rest : List Token) × (Open ∷ ts ≡ polygon_body x ++ rest) × BodyEndRest c b rest) em (open_polygon c m ts (sound RingStart c m k f e h)))
  sound_step (Word Empty) ts sound (Head kinds.MultiPolygon came) c m k f e h = λ em. bare came multi_body (ElementEndRest c) (Word Empty ∷ ts) ([], ts, refl, behind_element ts sound c k f e h)
  sound_step Open ts sound (Head kinds.MultiPolygon came) c m k f e h = λ em. bare came multi_body (ElementEndRest c) (Open ∷ ts) (open_multi c ts (sound BodyStart c true k f e h refl))
  sound_step (Word Empty) ts sound (Head kinds.GeometryCollection came) c m k f e h = λ ec em. bare came (body element) FileRest (Word Empty ∷ ts) ([], ts, refl, sound Outside c m k f e h ec em)
  sound_step Open ts sound (Head kinds.GeometryCollection came) c m k f e h = λ ec em. bare came (body element) FileRest (Open ∷ ts) (open_collection ts (sound ElementStart true m k f e h refl em))
  sound_step (Word Empty) ts sound BodyStart c m k f e h = λ em. ([], ts, refl, sound BodyEnd c m k f e h em)
  sound_step Open ts sound BodyStart c m k f e h = λ em. subst (λ (b : Bool). (x : List Ring) × (rest : List Token) × (Open ∷ ts ≡ polygon_body x ++ rest) × BodyEndRest c b rest) em (open_polygon c m ts (sound RingStart c m k f e h))
  sound_step Comma ts sound BodyEnd c m k f e h = λ em. next_body c ts (sound BodyStart c m k f e h em)
  sound_step Close ts sound BodyEnd c m k f e h = λ em. ([], ts, refl, behind_element ts sound c k f e h)
  sound_step Open ts sound RingStart c m k f e h = ring_opens c m ts (sound PositionStart c m k f e h)
  sound_step (Number x) ts sound PositionStart c m k f e h = first_number x c m ts (sound (SecondNumber _) c m _ f e h)
  sound_step (Number y) ts sound (SecondNumber x) c m k f e h = (y, ts, refl, sound (PositionEnd 0) c m _ f e h)
  sound_step (Number z) ts sound (PositionEnd n) c m k f e h =
      let t = taken (ltb n 2) _ (λ s. run precision s ts) f e in
      further_number z n c m ts (ltb-true n 2 t.0) (sound (PositionEnd (n + 1)) c m _ f t.1 h)
  sound_step Comma ts sound (PositionEnd n) c m k f e h = next_position n c m ts (sound PositionStart c m k f e h)
  sound_step Close ts sound (PositionEnd n) c m k f e h = ring_closes n c m ts (sound RingEnd c m _ f e h)
  sound_step Comma ts sound RingEnd c m k f e h = next_ring c m ts (sound RingStart c m k f e h)
  sound_step Close ts sound RingEnd c m k f e h = ([], ts, refl, behind_body ts sound c m _ f e h)
  sound_step t ts sound (Head kinds.Polygon came) c m k f e h = absurd (none_some f e)
  sound_step t ts sound (Head kinds.MultiPolygon came) c m k f e h = absurd (none_some f e)
  sound_step t ts sound (Head kinds.GeometryCollection came) c m k f e h = absurd (none_some f e)
  sound_step t ts sound place c m k f e h = absurd (none_some f e)

  ends : (s f : ParserState) → Some s ≡ Some f → f.place ≡ Outside → s.place ≡ Outside
  ends s f e h = let same : s ≡ f = cc in ap (λ (t : ParserState). t.place) same ∙ h

  outside_only : (place : Place) (c m : Bool) → place ≡ Outside → Rest place c m []
  outside_only Outside c m e = λ ec em. ([], refl)
  outside_only (Head kinds.Polygon came) c m e = absurd (cc)
  outside_only (Head kinds.MultiPolygon came) c m e = absurd (cc)
  outside_only (Head kinds.GeometryCollection came) c m e = absurd (cc)
  outside_only place c m e = absurd (cc)

  sound : (ts : List Token) → Sound ts
  sound [] place c m k f e h = outside_only place c m (ends (at place c m k) f e h)
  sound (t ∷ ts) place c m k f e h = sound_step t ts (sound ts) place c m k f e h

  -- what the machine takes is a file
  pub file-run : (ts : List Token) (f : ParserState) → run precision start ts ≡ Some f → f.place ≡ Outside → (gs : List Geometry) × (ts ≡ file gs)
  file-run ts f e h = sound ts Outside false false start.kept f e h refl refl
