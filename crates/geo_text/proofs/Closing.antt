-- Whatever was taken so far, some bytes complete it to a file.
use Rattle.std.proofs.Common.{◌≡◌, ℕ, zero, suc, ◌+◌, ◌-◌, ◌≤◌, Bool, true, false, cond, eqb, ltb, List, [], ◌∷◌, ◌++◌, length, map, take, drop, Option, Some, None, option_and_then, ℤ, inl, inr, ⊎_elim, sym, refl, ap, ◌∙◌, subst, arith, codes, zero-lt-suc, length-drop, take_all, lit<}
use Rattle.std.proofs.lemmas.Option.{cond_some}
use Rattle.std.specs.Char.{to_ascii_uppercase}
use Rattle.std.proofs.lemmas.Bool.{false≢true}
use Rattle.geo_text.specs.Token.{Polygon, Empty, Numeral, Token, Word, Number, Open, Close, IsSpelled, Spells}
use Rattle.geo_text.specs.Decimal.{value}
use Rattle.geo_text.specs.Machine.{Kept, ParserState, Numbered, at, step, step_at, letters, symbol_of, is_complete, keyword_at, takes_number, ending, element_end, body_end, member_kept, polygon_kept, ring_kept, first_number, second_number, with_extra}
use Rattle.geo_text.specs.Number.{Precision, with_digit, fraction_on, size_on, value_of, is_fine}
use Rattle.geo_text.specs.declared.keyword.Keyword.{Keyword}
use Rattle.geo_text.specs.declared.keyword.Keyword.TheVariants as keywords
use Rattle.geo_text.specs.declared.lexeme.Lexeme.{Lexeme}
use Rattle.geo_text.specs.declared.lexeme.Lexeme.TheVariants as lexemes
use Rattle.geo_text.specs.declared.number.Number.{Number as NumberRead}
use Rattle.geo_text.specs.declared.place.Body.{Body}
use Rattle.geo_text.specs.declared.place.Body.TheVariants as kinds
use Rattle.geo_text.specs.declared.place.Place.{Place}
use Rattle.geo_text.specs.declared.place.Place.TheVariants.{Outside, Head, ElementStart, ElementEnd, BodyStart, BodyEnd, RingStart, PositionStart, SecondNumber, PositionEnd, RingEnd}
use Rattle.geo_text.proofs.Options.{none_some}
use Rattle.geo_text.proofs.Limits.{limit}
use Rattle.geo_text.proofs.Keeping.{read_value, is_whole}
use Rattle.geo_text.proofs.Parsing.{run, seen, element_end_is, element_place}
use Rattle.geo_text.proofs.Typing.{read_bytes, typing}
use Rattle.geo_text.proofs.Spelled.{Pending, read_bytes-spelled}
use Rattle.geo_text.proofs.Lexed.{pick}

module _ (precision : Precision) where
  -- ---- tokens that end the file from each place

  abbrev Closes : Place → Bool → Bool → Type 0
  Closes place c m =
      (k : Kept) (a : ℕ) (previous : Option Token)
      → (bytes : List ℕ) × (tokens : List Token) × (f : ParserState) × Spells a previous tokens bytes × (run precision (at place c m k) tokens ≡ Some f) × (f.place ≡ Outside)

  -- a token behind a space, and what ends the file from there
  closes_by : (token : ℕ → Token) (spelling : List ℕ) (place next : Place) (c m d n : Bool) (after : Kept → ℕ → Kept)
      → ((a : ℕ) → IsSpelled a (token a) spelling)
      → ((k : Kept) (a : ℕ) → step (at place c m k) (seen precision (token a)) ≡ Some (at next d n (after k a)))
      → Closes next d n → Closes place c m
  closes_by token spelling place next c m d n after spelled steps closes k a previous =
      let t = token (a + 1) in
      let more = closes (after k (a + 1)) (a + 1 + length spelling) (Some t) in (
        32 ∷ (spelling ++ more.0),
        t ∷ more.1,
        more.2,
        (32 ∷ [], spelling, more.0, (refl, tt), (λ e. zero-lt-suc 0), spelled (a + 1), refl, more.3),
        ap (option_and_then (λ s. run precision s more.1)) (steps k (a + 1)) ∙ more.4,
        more.5,
      )

  closes_outside : (c m : Bool) → Closes Outside c m
  closes_outside c m k a previous = ([], [], at Outside c m k, tt, refl, refl)

  closes_element_end : (c m : Bool) → Closes ElementEnd c m
  closes_element_end c m = closes_by (λ a. Close) (codes ")") ElementEnd Outside c m false m (λ k a. k) (λ a. refl) (λ k a. refl) (closes_outside false m)

  closes_behind_element : (c : Bool) → Closes (element_place precision c) c false
  closes_behind_element true = closes_element_end true false
  closes_behind_element false = closes_outside false false

  closes_body_end : (c m : Bool) → Closes BodyEnd c m
  closes_body_end c m = closes_by (λ a. Close) (codes ")") BodyEnd (element_place precision c) c m c false (λ k a. member_kept k) (λ a. refl) (λ k a. ap Some (element_end_is precision c k)) (closes_behind_element c)

  -- a token that ends a polygon body
  closes_body : (token : ℕ → Token) (spelling : List ℕ) (place : Place) (c m : Bool) (after : Kept → ℕ → Kept)
      → ((a : ℕ) → IsSpelled a (token a) spelling)
      → ((k : Kept) (a : ℕ) → step (at place c m k) (seen precision (token a)) ≡ Some (body_end c m (after k a)))
      → Closes place c m
  closes_body token spelling place c true after spelled steps = closes_by token spelling place BodyEnd c true c true after spelled steps (closes_body_end c true)
  closes_body token spelling place c false after spelled steps =
      closes_by token spelling place (element_place precision c) c false c false (λ k a. member_kept (after k a)) spelled (λ k a. steps k a ∙ ap Some (element_end_is precision c (after k a))) (closes_behind_element c)

  closes_head : (kind : Body) (came c m : Bool) → Closes (Head kind came) c m
  closes_head kinds.Polygon came c m = closes_body (λ a. Word Empty) (codes "EMPTY") (Head kinds.Polygon came) c m (λ k a. k) (λ a. refl) (λ k a. refl)
  closes_head kinds.MultiPolygon came c m = closes_by (λ a. Word Empty) (codes "EMPTY") (Head kinds.MultiPolygon came) (element_place precision c) c m c false (λ k a. member_kept k) (λ a. refl) (λ k a. ap Some (element_end_is precision c k)) (closes_behind_element c)
  closes_head kinds.GeometryCollection came c m = closes_by (λ a. Word Empty) (codes "EMPTY") (Head kinds.GeometryCollection came) Outside c m c m (λ k a. k) (λ a. refl) (λ k a. refl) (closes_outside c m)

  abbrev zero_at : ℕ → Numeral
  zero_at a = record { at = a; negative = false; whole = 48 ∷ []; fraction = [] }

  zero_spelled : (a : ℕ) → IsSpelled a (Number (zero_at a)) (codes "0")
  zero_spelled a = (refl, record { sign = []; point = []; is_sign = inr refl; is_point = inl (refl, refl); whole = (refl, tt); fraction = tt; some_digit = lit< tt; spelling = refl })

  closes_ring_end : (c m : Bool) → Closes RingEnd c m
  closes_ring_end c m = closes_body (λ a. Close) (codes ")") RingEnd c m (λ k a. polygon_kept k) (λ a. refl) (λ k a. refl)

  closes_position_end : (n : ℕ) (c m : Bool) → Closes (PositionEnd n) c m
  closes_position_end n c m = closes_by (λ a. Close) (codes ")") (PositionEnd n) RingEnd c m c m (λ k a. ring_kept k) (λ a. refl) (λ k a. refl) (closes_ring_end c m)

  -- the 0 is read alike wherever it stands
  zero_value : (a : ℕ) → read_value precision (zero_at a) ≡ read_value precision (zero_at 0)
  zero_value a = by_scale precision.scale
    where
      by_scale : (scale : Option ℕ) → limit precision.cap (value scale (zero_at a)) ≡ limit precision.cap (value scale (zero_at 0))
      by_scale None = refl
      by_scale (Some k) = refl

  closes_second : (x : ℤ) (c m : Bool) → Closes (SecondNumber x) c m
  closes_second x c m =
      closes_by (λ a. Number (zero_at a)) (codes "0") (SecondNumber x) (PositionEnd 0) c m c m (λ k a. second_number x a (read_value precision (zero_at a)) (is_whole precision (zero_at a)) k) zero_spelled (λ k a. refl) (closes_position_end 0 c m)

  closes_position : (c m : Bool) → Closes PositionStart c m
  closes_position c m =
      let x = read_value precision (zero_at 0) in
      closes_by (λ a. Number (zero_at a)) (codes "0") PositionStart (SecondNumber x) c m c m (λ k a. first_number a (read_value precision (zero_at a)) (is_whole precision (zero_at a)) k) zero_spelled
      (λ k a. ap (λ (v : ℤ). Some (at (SecondNumber v) c m (first_number a (read_value precision (zero_at a)) (is_whole precision (zero_at a)) k))) (zero_value a))
      (closes_second x c m)

  closes_ring : (c m : Bool) → Closes RingStart c m
  closes_ring c m = closes_by (λ a. Open) (codes "(") RingStart PositionStart c m c m (λ k a. k) (λ a. refl) (λ k a. refl) (closes_position c m)

  closes : (place : Place) (c m : Bool) → Closes place c m
  closes Outside c m = closes_outside c m
  closes (Head kind came) c m = closes_head kind came c m
  closes ElementStart c m = closes_by (λ a. Word Polygon) (codes "POLYGON") ElementStart (Head kinds.Polygon false) c m c m (λ k a. k) (λ a. refl) (λ k a. refl) (closes_head kinds.Polygon false c m)
  closes ElementEnd c m = closes_element_end c m
  closes BodyStart c m = closes_by (λ a. Word Empty) (codes "EMPTY") BodyStart BodyEnd c m c m (λ k a. k) (λ a. refl) (λ k a. refl) (closes_body_end c m)
  closes BodyEnd c m = closes_body_end c m
  closes RingStart c m = closes_ring c m
  closes PositionStart c m = closes_position c m
  closes (SecondNumber x) c m = closes_second x c m
  closes (PositionEnd n) c m = closes_position_end n c m
  closes RingEnd c m = closes_ring_end c m

  -- ---- what is being typed can be completed where it stands

  -- the word, or a number, may stand at the place
  abbrev pub Fits : Lexeme → ParserState → Type 0
  Fits lexemes.Blank s = Unit {0}
  Fits (lexemes.Word i k n) s = (letter : ℕ) × (keyword_at s.place letter ≡ Some k) × (n ≤ length (letters k))
  Fits (lexemes.Number n) s = takes_number s.place ≡ true

  abbrev Takes : Place → ℕ → Bool → Bool → Kept → Keyword → Type 0
  Takes place i c m h k = (last : ParserState) × (step_at place (symbol_of k i) c m h ≡ Some last)

  takes_empty : (kind : Body) (came : Bool) (i : ℕ) (c m : Bool) (h : Kept) → Takes (Head kind came) i c m h keywords.Empty
  takes_empty kinds.Polygon came i c m h = (body_end c m h, refl)
  takes_empty kinds.MultiPolygon came i c m h = (element_end c h, refl)
  takes_empty kinds.GeometryCollection came i c m h = (at Outside c m h, refl)

  -- where a letter begins a word, the parser takes the word
  takes_word : (place : Place) (letter i : ℕ) (k : Keyword) (c m : Bool) (h : Kept) → keyword_at place letter ≡ Some k → Takes place i c m h k
  takes_word Outside letter i k c m h e =
      ⊎_elim (λ w. subst (Takes Outside i c m h) w.1 (at (Head kinds.Polygon false) c m h, refl)) (λ e1.
      ⊎_elim (λ w. subst (Takes Outside i c m h) w.1 (at (Head kinds.MultiPolygon false) c m h, refl)) (λ e2.
      subst (Takes Outside i c m h) (cond_some (eqb letter 71) keywords.GeometryCollection k e2).1 (at (Head kinds.GeometryCollection false) c m h, refl))
      (pick precision (eqb letter 77) keywords.MultiPolygon k _ e1)) (pick precision (eqb letter 80) keywords.Polygon k _ e)
  takes_word ElementStart letter i k c m h e =
      ⊎_elim (λ w. subst (Takes ElementStart i c m h) w.1 (at (Head kinds.Polygon false) c m h, refl)) (λ e1.
      subst (Takes ElementStart i c m h) (cond_some (eqb letter 77) keywords.MultiPolygon k e1).1 (at (Head kinds.MultiPolygon false) c m h, refl))
      (pick precision (eqb letter 80) keywords.Polygon k _ e)
  takes_word (Head kind false) letter i k c m h e =
      ⊎_elim (λ w. subst (Takes (Head kind false) i c m h) w.1 (takes_empty kind false i c m h)) (λ e1.
      ⊎_elim (λ w. subst (Takes (Head kind false) i c m h) w.1 (at (Head kind true) c m (record h { faults = with_extra i h.faults }), refl)) (λ e2.
      subst (Takes (Head kind false) i c m h) (cond_some (eqb letter 90) keywords.Zm k e2).1 (at (Head kind true) c m (record h { faults = with_extra i h.faults }), refl))
      (pick precision (eqb letter 77) keywords.M k _ e1)) (pick precision (eqb letter 69) keywords.Empty k _ e)
  takes_word (Head kind true) letter i k c m h e = subst (Takes (Head kind true) i c m h) (cond_some (eqb letter 69) keywords.Empty k e).1 (takes_empty kind true i c m h)
  takes_word BodyStart letter i k c m h e = subst (Takes BodyStart i c m h) (cond_some (eqb letter 69) keywords.Empty k e).1 (at BodyEnd c m h, refl)
  takes_word place letter i k c m h e = absurd (none_some k e)

  takes_if : (b : Bool) (s : ParserState) → b ≡ true → (last : ParserState) × (cond b (Some s) None ≡ Some last)
  takes_if true s e = (s, refl)
  takes_if false s e = absurd (false≢true e)

  takes_a_number : (place : Place) (i : ℕ) (v : ℤ) (w : Bool) (c m : Bool) (h : Kept) → takes_number place ≡ true → (last : ParserState) × (step_at place (Numbered i v w) c m h ≡ Some last)
  takes_a_number PositionStart i v w c m h e = (_, refl)
  takes_a_number (SecondNumber x) i v w c m h e = (_, refl)
  takes_a_number (PositionEnd n) i v w c m h e = takes_if (ltb n 2) _ e
  takes_a_number place i v w c m h e = absurd (false≢true e)

  complete_letters : (k : Keyword) → is_complete k (length (letters k)) ≡ true
  complete_letters keywords.Polygon = refl
  complete_letters keywords.MultiPolygon = refl
  complete_letters keywords.GeometryCollection = refl
  complete_letters keywords.Empty = refl
  complete_letters keywords.M = refl
  complete_letters keywords.Zm = refl

  upper_letters : (k : Keyword) → map to_ascii_uppercase (letters k) ≡ letters k
  upper_letters keywords.Polygon = refl
  upper_letters keywords.MultiPolygon = refl
  upper_letters keywords.GeometryCollection = refl
  upper_letters keywords.Empty = refl
  upper_letters keywords.M = refl
  upper_letters keywords.Zm = refl

  map-drop : (g : ℕ → ℕ) (n : ℕ) (xs : List ℕ) → map g (drop n xs) ≡ drop n (map g xs)
  map-drop g zero xs = refl
  map-drop g (suc n) [] = refl
  map-drop g (suc n) (x ∷ xs) = map-drop g n xs

  -- some bytes lead from here to the end of a file
  abbrev pub Lives : ℕ → Lexeme → ParserState → Type 0
  Lives a l s = (more : List ℕ) × (f : ParserState) × (read_bytes precision a l s more ≡ Some f) × (f.place ≡ Outside)

  -- from a lexeme that may end here
  lives_behind : (a : ℕ) (l : Lexeme) (s last : ParserState) (previous : Option Token) → Pending precision l previous → ending precision.cap l s ≡ Some last → Lives a l s
  lives_behind a l s last previous p e =
      let w = closes last.place last.in_collection last.in_multi last.kept a previous in
      (w.0, w.2, read_bytes-spelled precision w.1 a l s last w.2 previous w.0 p e w.3 w.4, w.5)

  -- from a lexeme by further bytes
  lives_by : (a : ℕ) (l m : Lexeme) (s : ParserState) (bytes : List ℕ) → ((rest : List ℕ) → read_bytes precision a l s (bytes ++ rest) ≡ read_bytes precision (a + length bytes) m s rest) → Lives (a + length bytes) m s → Lives a l s
  lives_by a l m s bytes h (more, f, e, out) = (bytes ++ more, f, h more ∙ e, out)

  lives_word : (a i : ℕ) (k : Keyword) (n letter : ℕ) (s : ParserState) → keyword_at s.place letter ≡ Some k → n ≤ length (letters k) → Lives a (lexemes.Word i k n) s
  lives_word a i k n letter s e h =
      let typed = drop n (letters k) in
      let size : length typed ≡ length (letters k) - n = length-drop n (letters k) in
      let whole : n + length typed ≡ length (letters k) = omega arith in
      let same : map to_ascii_uppercase typed ≡ take (length typed) (drop n (letters k)) = map-drop to_ascii_uppercase n (letters k) ∙ ap (drop n) (upper_letters k) ∙ sym (take_all (length typed) typed (omega arith)) in
      let taken = takes_word s.place letter i k s.in_collection s.in_multi s.kept e in
      lives_by a (lexemes.Word i k n) (lexemes.Word i k (n + length typed)) s typed (λ rest. typing precision typed rest k n i a s same)
      (lives_behind (a + length typed) (lexemes.Word i k (n + length typed)) s taken.0 (Some (Word Polygon)) (Word Polygon, refl, refl)
      (rw whole (rw (complete_letters k) taken.1)))

  digit_of_two : (b : Bool) (x y : NumberRead) → x.some_digit ≡ true → y.some_digit ≡ true → (cond b x y).some_digit ≡ true
  digit_of_two true x y e f = e
  digit_of_two false x y e f = f

  zero_digit : (n : NumberRead) → (with_digit precision.cap n 48).some_digit ≡ true
  zero_digit n = digit_of_two n.point (record n { some_digit = true; fraction = fraction_on n.fraction 48; size = size_on precision.cap n.fraction n.size 48 }) _ refl refl

  lives_number : (a : ℕ) (n : NumberRead) (s : ParserState) → takes_number s.place ≡ true → Lives a (lexemes.Number n) s
  lives_number a n s e =
      let m = with_digit precision.cap n 48 in
      let taken = takes_a_number s.place m.at (value_of precision.cap m) (is_fine m.fraction) s.in_collection s.in_multi s.kept e in
      lives_by a (lexemes.Number n) (lexemes.Number m) s (48 ∷ []) (λ rest. refl)
      (lives_behind (a + 1) (lexemes.Number m) s taken.0 (Some (Number (zero_at 0))) (Number (zero_at 0), refl, refl) (rw (zero_digit n) taken.1))

  pub lives : (a : ℕ) (l : Lexeme) (s : ParserState) → Fits l s → Lives a l s
  lives a lexemes.Blank s h = lives_behind a lexemes.Blank s s None tt refl
  lives a (lexemes.Word i k n) s (letter, e, h) = lives_word a i k n letter s e h
  lives a (lexemes.Number n) s h = lives_number a n s h
