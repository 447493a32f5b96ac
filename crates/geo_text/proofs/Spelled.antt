-- The bytes that spell tokens which the parser takes are taken.
use Rattle.std.proofs.Common.{◌≡◌, ℕ, ◌+◌, ◌<◌, Bool, true, false, cond, ◌&&◌, ltb, List, [], ◌∷◌, ◌++◌, length, map, take, drop, Option, Some, None, ℤ, inl, inr, sym, refl, ap, ap₂, ◌∙◌, subst, arith, append-nil, codes}
use Rattle.std.proofs.lemmas.List.{length-map}
use Rattle.std.proofs.Math.Bool.{or-true}
use Rattle.std.specs.Char.{to_ascii_uppercase}
use Rattle.geo_text.specs.Token.{Name, Polygon, MultiPolygon, GeometryCollection, Empty, Axes, Z, M, ZM, Numeral, Token, Word, Dimensions, Number, Open, Close, Comma, IsWhite, IsNumeral, IsSign, IsPoint, AreDigits, IsSpelled, IsWord, letters_of, axes_letters, is_word, is_number, is_alike, Spells}
use Rattle.geo_text.specs.Machine.{Kept, ParserState, Named, Axes as AxesAt, Numbered, step, step_at, letters, symbol_of, is_complete, keyword_at, takes_number, is_number_byte, is_letter, goes_on, ending}
use Rattle.geo_text.specs.Number.{Precision}
use Rattle.geo_text.specs.declared.keyword.Keyword.{Keyword}
use Rattle.geo_text.specs.declared.keyword.Keyword.TheVariants as keywords
use Rattle.geo_text.specs.declared.lexeme.Lexeme.{Lexeme}
use Rattle.geo_text.specs.declared.lexeme.Lexeme.TheVariants as lexemes
use Rattle.geo_text.specs.declared.place.Body.TheVariants as kinds
use Rattle.geo_text.specs.declared.place.Place.{Place}
use Rattle.geo_text.specs.declared.place.Place.TheVariants.{Outside, Head, ElementStart, BodyStart, PositionStart, SecondNumber, PositionEnd}
use Rattle.geo_text.proofs.Options.{none_some, opened}
use Rattle.geo_text.proofs.Fractions.{seen_value_is}
use Rattle.geo_text.proofs.Keeping.{read_value, is_whole}
use Rattle.geo_text.proofs.Parsing.{run, seen}
use Rattle.geo_text.proofs.Typing.{read_bytes, stops, white_stops, white_first, word_begins, typing, numeral_is_read, num, kept_fraction, kept_size, letter_no_number, number_no_letter, is_capital, digit_is_number}

module _ (precision : Precision) where
  -- ---- where a word or a number stands

  abbrev pub keyword_of : Name → Keyword
  keyword_of Polygon = keywords.Polygon
  keyword_of MultiPolygon = keywords.MultiPolygon
  keyword_of GeometryCollection = keywords.GeometryCollection
  keyword_of Empty = keywords.Empty

  abbrev pub axes_keyword : Axes → Keyword
  axes_keyword Z = keywords.Zm
  axes_keyword M = keywords.M
  axes_keyword ZM = keywords.Zm

  abbrev first_letter : Name → ℕ
  first_letter Polygon = 80
  first_letter MultiPolygon = 77
  first_letter GeometryCollection = 71
  first_letter Empty = 69

  abbrev axes_letter : Axes → ℕ
  axes_letter Z = 90
  axes_letter M = 77
  axes_letter ZM = 90

  -- where the parser takes a word, its first letter begins that word
  expected_name : (name : Name) (place : Place) (c m : Bool) (k : Kept) (s : ParserState) → step_at place (Named name) c m k ≡ Some s → keyword_at place (first_letter name) ≡ Some (keyword_of name)
  expected_name Polygon Outside c m k s e = refl
  expected_name MultiPolygon Outside c m k s e = refl
  expected_name GeometryCollection Outside c m k s e = refl
  expected_name Polygon ElementStart c m k s e = refl
  expected_name MultiPolygon ElementStart c m k s e = refl
  expected_name Empty (Head kind true) c m k s e = refl
  expected_name Empty (Head kind false) c m k s e = refl
  expected_name Empty BodyStart c m k s e = refl
  expected_name name (Head kinds.Polygon d) c m k s e = absurd (none_some s e)
  expected_name name (Head kinds.MultiPolygon d) c m k s e = absurd (none_some s e)
  expected_name name (Head kinds.GeometryCollection d) c m k s e = absurd (none_some s e)
  expected_name name place c m k s e = absurd (none_some s e)

  expected_axes : (axes : Axes) (a : ℕ) (place : Place) (c m : Bool) (k : Kept) (s : ParserState) → step_at place (AxesAt a) c m k ≡ Some s → keyword_at place (axes_letter axes) ≡ Some (axes_keyword axes)
  expected_axes Z a (Head kind false) c m k s e = refl
  expected_axes M a (Head kind false) c m k s e = refl
  expected_axes ZM a (Head kind false) c m k s e = refl
  expected_axes axes a place c m k s e = absurd (none_some s e)

  when_taken : (b : Bool) (x y : ParserState) → cond b (Some x) None ≡ Some y → b ≡ true
  when_taken true x y e = refl
  when_taken false x y e = absurd (none_some y e)

  expected_number : (a : ℕ) (v : ℤ) (w : Bool) (place : Place) (c m : Bool) (k : Kept) (s : ParserState) → step_at place (Numbered a v w) c m k ≡ Some s → takes_number place ≡ true
  expected_number a v w PositionStart c m k s e = refl
  expected_number a v w (SecondNumber x) c m k s e = refl
  expected_number a v w (PositionEnd n) c m k s e = when_taken (ltb n 2) _ s e
  expected_number a v w (Head kinds.Polygon d) c m k s e = absurd (none_some s e)
  expected_number a v w (Head kinds.MultiPolygon d) c m k s e = absurd (none_some s e)
  expected_number a v w (Head kinds.GeometryCollection d) c m k s e = absurd (none_some s e)
  expected_number a v w place c m k s e = absurd (none_some s e)

  -- ---- each token

  -- the lexeme that a token's bytes leave is that token, if it is a word or a number
  abbrev pub Pending : Lexeme → Option Token → Type 0
  Pending lexemes.Blank previous = Unit {0}
  Pending (lexemes.Word a k n) previous = (t : Token) × (previous ≡ Some t) × (is_word t ≡ true)
  Pending (lexemes.Number n) previous = (t : Token) × (previous ≡ Some t) × (is_number t ≡ true)

  -- behind `a` bytes and the state s, the bytes of the token lead to a lexeme that ends with the state `last`
  record Leaves (a : ℕ) (s last : ParserState) (token : Token) (spelling : List ℕ) : Type 0 where
    lexeme : Lexeme
    state : ParserState
    ended_is : ending precision.cap lexeme state ≡ Some last
    pending : Pending lexeme (Some token)
    steps : (rest : List ℕ) → read_bytes precision a lexemes.Blank s (spelling ++ rest) ≡ read_bytes precision (a + length spelling) lexeme state rest

  leaves_word : (k : Keyword) (letter : ℕ) (others : List ℕ) (token : Token) (a : ℕ) (s last : ParserState) (spelling : List ℕ)
      → is_word token ≡ true → is_capital precision letter ≡ true → others ≡ take (length others) (drop 1 (letters k)) → is_complete k (1 + length others) ≡ true
      → keyword_at s.place letter ≡ Some k → step s (symbol_of k a) ≡ Some last → IsWord (letter ∷ others) spelling → Leaves a s last token spelling
  leaves_word k letter others token a s last [] w capital prefix complete expected e h = absurd (cc)
  leaves_word k letter others token a s last (b ∷ typed) w capital prefix complete expected e h =
      let upper : to_ascii_uppercase b ≡ letter = cc in
      let more : map to_ascii_uppercase typed ≡ others = cc in
      let size : length others ≡ length typed = ap length (sym more) ∙ length-map typed to_ascii_uppercase in
      record {
        lexeme = lexemes.Word a k (1 + length typed);
        state = s;
        ended_is = rw (← size) (rw complete e);
        pending = (token, refl, w);
        steps = λ rest.
            word_begins precision k b (typed ++ rest) a s (ap (is_capital precision) upper ∙ capital) (ap (keyword_at s.place) upper ∙ expected)
            ∙ typing precision typed rest k 1 a (a + 1) s (more ∙ prefix ∙ ap (λ n. take n (drop 1 (letters k))) size)
            ∙ ap (λ i. read_bytes precision i (lexemes.Word a k (1 + length typed)) s rest) (omega arith);
      }

  leaves_mark : (mark : ℕ) (token : Token) (a : ℕ) (s last : ParserState) → ((bytes : List ℕ) → read_bytes precision a lexemes.Blank s (mark ∷ bytes) ≡ read_bytes precision (a + 1) lexemes.Blank last bytes) → Leaves a s last token (mark ∷ [])
  leaves_mark mark token a s last h = record { lexeme = lexemes.Blank; state = last; ended_is = refl; pending = tt; steps = h }

  leaves_name : (name : Name) (a : ℕ) (s last : ParserState) (spelling : List ℕ) → step s (Named name) ≡ Some last → IsWord (letters_of name) spelling → Leaves a s last (Word name) spelling
  leaves_name Polygon a s last spelling e h = leaves_word keywords.Polygon 80 (codes "OLYGON") (Word Polygon) a s last spelling refl refl refl refl (expected_name Polygon s.place s.in_collection s.in_multi s.kept last e) e h
  leaves_name MultiPolygon a s last spelling e h = leaves_word keywords.MultiPolygon 77 (codes "ULTIPOLYGON") (Word MultiPolygon) a s last spelling refl refl refl refl (expected_name MultiPolygon s.place s.in_collection s.in_multi s.kept last e) e h
  leaves_name GeometryCollection a s last spelling e h = leaves_word keywords.GeometryCollection 71 (codes "EOMETRYCOLLECTION") (Word GeometryCollection) a s last spelling refl refl refl refl (expected_name GeometryCollection s.place s.in_collection s.in_multi s.kept last e) e h
  leaves_name Empty a s last spelling e h = leaves_word keywords.Empty 69 (codes "MPTY") (Word Empty) a s last spelling refl refl refl refl (expected_name Empty s.place s.in_collection s.in_multi s.kept last e) e h

  leaves_axes : (axes : Axes) (token : Token) (a : ℕ) (s last : ParserState) (spelling : List ℕ) → is_word token ≡ true → step s (AxesAt a) ≡ Some last → IsWord (axes_letters axes) spelling → Leaves a s last token spelling
  leaves_axes Z token a s last spelling w e h = leaves_word keywords.Zm 90 [] token a s last spelling w refl refl refl (expected_axes Z a s.place s.in_collection s.in_multi s.kept last e) e h
  leaves_axes M token a s last spelling w e h = leaves_word keywords.M 77 [] token a s last spelling w refl refl refl (expected_axes M a s.place s.in_collection s.in_multi s.kept last e) e h
  leaves_axes ZM token a s last spelling w e h = leaves_word keywords.Zm 90 (codes "M") token a s last spelling w refl refl refl (expected_axes ZM a s.place s.in_collection s.in_multi s.kept last e) e h

  leaves_number : (n : Numeral) (a : ℕ) (s last : ParserState) (spelling : List ℕ) → step s (seen precision (Number n)) ≡ Some last → n.at ≡ a → IsNumeral spelling n → Leaves a s last (Number n) spelling
  leaves_number n a s last spelling e here h =
      let read = numeral_is_read precision spelling n a h in
      let number = num precision a n.negative true read.0 (kept_fraction precision n.fraction) (kept_size precision n.whole n.fraction) in
      record {
        lexeme = lexemes.Number number;
        state = s;
        ended_is = ap₂ (λ (i : ℕ) (v : ℤ). step s (Numbered i v (is_whole precision n))) (sym here) (seen_value_is precision n h.fraction) ∙ e;
        pending = (Number n, refl, refl);
        steps = λ rest. read.1 rest s (expected_number n.at (read_value precision n) (is_whole precision n) s.place s.in_collection s.in_multi s.kept last e);
      }

  leaves : (token : Token) (a : ℕ) (s last : ParserState) (spelling : List ℕ) → step s (seen precision token) ≡ Some last → IsSpelled a token spelling → Leaves a s last token spelling
  leaves (Word name) a s last spelling e h = leaves_name name a s last spelling e h
  leaves (Dimensions d) a s last spelling e h = leaves_axes d.axes (Dimensions d) a s last spelling refl (ap (λ i. step s (AxesAt i)) (sym h.0) ∙ e) h.1
  leaves (Number n) a s last spelling e h = leaves_number n a s last spelling e h.0 h.1
  leaves Open a s last spelling e h = subst (λ (xs : List ℕ). Leaves a s last Open xs) (sym h) (leaves_mark 40 Open a s last (λ bytes. rw e refl))
  leaves Close a s last spelling e h = subst (λ (xs : List ℕ). Leaves a s last Close xs) (sym h) (leaves_mark 41 Close a s last (λ bytes. rw e refl))
  leaves Comma a s last spelling e h = subst (λ (xs : List ℕ). Leaves a s last Comma xs) (sym h) (leaves_mark 44 Comma a s last (λ bytes. rw e refl))

  -- ---- tokens apart

  -- what a token's first byte is
  abbrev pub FirstByte : Token → ℕ → Type 0
  FirstByte (Word name) b = is_letter b ≡ true
  FirstByte (Dimensions d) b = is_letter b ≡ true
  FirstByte (Number n) b = is_number_byte b ≡ true
  FirstByte Open b = b ≡ 40
  FirstByte Close b = b ≡ 41
  FirstByte Comma b = b ≡ 44

  abbrev pub Begins : Token → List ℕ → Type 0
  Begins token spelling = (b : ℕ) × (rest : List ℕ) × (spelling ≡ b ∷ rest) × FirstByte token b

  word_begins_so : (letter : ℕ) (others spelling : List ℕ) → is_capital precision letter ≡ true → IsWord (letter ∷ others) spelling → (b : ℕ) × (rest : List ℕ) × (spelling ≡ b ∷ rest) × (is_letter b ≡ true)
  word_begins_so letter others [] capital h = absurd (cc)
  word_begins_so letter others (b ∷ typed) capital h = let upper : to_ascii_uppercase b ≡ letter = cc in (b, typed, refl, ap (is_capital precision) upper ∙ capital)

  name_begins : (name : Name) (spelling : List ℕ) → IsWord (letters_of name) spelling → (b : ℕ) × (rest : List ℕ) × (spelling ≡ b ∷ rest) × (is_letter b ≡ true)
  name_begins Polygon spelling h = word_begins_so 80 (codes "OLYGON") spelling refl h
  name_begins MultiPolygon spelling h = word_begins_so 77 (codes "ULTIPOLYGON") spelling refl h
  name_begins GeometryCollection spelling h = word_begins_so 71 (codes "EOMETRYCOLLECTION") spelling refl h
  name_begins Empty spelling h = word_begins_so 69 (codes "MPTY") spelling refl h

  axes_begins : (axes : Axes) (spelling : List ℕ) → IsWord (axes_letters axes) spelling → (b : ℕ) × (rest : List ℕ) × (spelling ≡ b ∷ rest) × (is_letter b ≡ true)
  axes_begins Z spelling h = word_begins_so 90 [] spelling refl h
  axes_begins M spelling h = word_begins_so 77 [] spelling refl h
  axes_begins ZM spelling h = word_begins_so 90 (codes "M") spelling refl h

  -- digits, a point and digits begin as a number
  digits_begin : (whole point fraction : List ℕ) → AreDigits whole → AreDigits fraction → IsPoint point fraction → 0 < length whole + length fraction → (b : ℕ) × (rest : List ℕ) × (whole ++ (point ++ fraction) ≡ b ∷ rest) × (is_number_byte b ≡ true)
  digits_begin (d ∷ whole) point fraction hw hf hp some = (d, whole ++ (point ++ fraction), refl, digit_is_number precision d hw.0)
  digits_begin [] point fraction hw hf (inr dot) some = (46, fraction, ap (λ xs. xs ++ fraction) dot, refl)
  digits_begin [] point fraction hw hf (inl h) some = absurd (omega (arith, some, ap length h.1))

  sign_begins : (sign tail : List ℕ) (negative : Bool) → IsSign sign negative → ((b : ℕ) × (rest : List ℕ) × (tail ≡ b ∷ rest) × (is_number_byte b ≡ true)) → (b : ℕ) × (rest : List ℕ) × (sign ++ tail ≡ b ∷ rest) × (is_number_byte b ≡ true)
  sign_begins sign tail true h w = (45, tail, ap (λ xs. xs ++ tail) h, refl)
  sign_begins sign tail false (inl h) w = (43, tail, ap (λ xs. xs ++ tail) h, refl)
  sign_begins sign tail false (inr h) w = (w.0, w.1, ap (λ xs. xs ++ tail) h ∙ w.2, w.3)

  numeral_begins : (n : Numeral) (spelling : List ℕ) → IsNumeral spelling n → Begins (Number n) spelling
  numeral_begins n spelling h =
      let w = sign_begins h.sign (n.whole ++ (h.point ++ n.fraction)) n.negative h.is_sign (digits_begin n.whole h.point n.fraction h.whole h.fraction h.is_point h.some_digit) in
      (w.0, w.1, h.spelling ∙ w.2, w.3)

  pub begins : (token : Token) (a : ℕ) (spelling : List ℕ) → IsSpelled a token spelling → Begins token spelling
  begins (Word name) a spelling h = name_begins name spelling h
  begins (Dimensions d) a spelling h = axes_begins d.axes spelling h.1
  begins (Number n) a spelling h = numeral_begins n spelling h.1
  begins Open a spelling h = (40, [], h, refl)
  begins Close a spelling h = (41, [], h, refl)
  begins Comma a spelling h = (44, [], h, refl)

  word_alike : (previous : Option Token) (token like : Token) → previous ≡ Some like → is_word like ≡ true → is_word token ≡ true → is_alike previous token ≡ true
  word_alike previous token like p l w = rw (p, l, w) refl

  number_alike : (previous : Option Token) (token like : Token) → previous ≡ Some like → is_number like ≡ true → is_number token ≡ true → is_alike previous token ≡ true
  number_alike previous token like p l w = rw p (rw (l, w) (or-true (is_word like && is_word token)))

  -- a token of another kind than the one before it does not go on with that one's lexeme
  keeps_apart : (l : Lexeme) (previous : Option Token) (token : Token) (b : ℕ) → Pending l previous → (is_alike previous token ≡ true → ⊥) → FirstByte token b → goes_on l b ≡ false
  keeps_apart lexemes.Blank previous token b p a h = refl
  keeps_apart (lexemes.Word i k n) previous (Word name) b (like, p, w) a h = absurd (a (word_alike previous (Word name) like p w refl))
  keeps_apart (lexemes.Word i k n) previous (Dimensions d) b (like, p, w) a h = absurd (a (word_alike previous (Dimensions d) like p w refl))
  keeps_apart (lexemes.Word i k n) previous (Number z) b p a h = number_no_letter precision b h
  keeps_apart (lexemes.Word i k n) previous Open b p a h = ap is_letter h
  keeps_apart (lexemes.Word i k n) previous Close b p a h = ap is_letter h
  keeps_apart (lexemes.Word i k n) previous Comma b p a h = ap is_letter h
  keeps_apart (lexemes.Number n) previous (Word name) b p a h = letter_no_number precision b h
  keeps_apart (lexemes.Number n) previous (Dimensions d) b p a h = letter_no_number precision b h
  keeps_apart (lexemes.Number n) previous (Number z) b (like, p, w) a h = absurd (a (number_alike previous (Number z) like p w refl))
  keeps_apart (lexemes.Number n) previous Open b p a h = ap is_number_byte h
  keeps_apart (lexemes.Number n) previous Close b p a h = ap is_number_byte h
  keeps_apart (lexemes.Number n) previous Comma b p a h = ap is_number_byte h

  -- ---- all tokens

  -- a lexeme ends before the next token
  ends_before : (a : ℕ) (l : Lexeme) (s last : ParserState) (previous : Option Token) (token : Token) (white spelling rest : List ℕ) → Pending l previous → ending precision.cap l s ≡ Some last → IsWhite white → (is_alike previous token ≡ true → 0 < length white) → Begins token spelling
      → read_bytes precision a l s (white ++ (spelling ++ rest)) ≡ read_bytes precision (a + length white) lexemes.Blank last (spelling ++ rest)
  ends_before a l s last previous token (w ∷ white) spelling rest p e h apart first =
      stops precision a l s last w (white ++ (spelling ++ rest)) (white_stops precision l w h.0) e ∙ white_first precision (w ∷ white) (spelling ++ rest) a last h
  ends_before a l s last previous token [] spelling rest p e h apart (b, more, same, byte) =
      subst (λ (xs : List ℕ). read_bytes precision a l s (xs ++ rest) ≡ read_bytes precision (a + 0) lexemes.Blank last (xs ++ rest)) (sym same)
      (stops precision a l s last b (more ++ rest) (keeps_apart l previous token b p (λ t. let n : 0 < 0 = apart t in omega arith) byte) e
      ∙ ap (λ i. read_bytes precision i lexemes.Blank last (b ∷ (more ++ rest))) (omega arith))

  ends_white : (bytes : List ℕ) (a : ℕ) (l : Lexeme) (s last : ParserState) → ending precision.cap l s ≡ Some last → IsWhite bytes → read_bytes precision a l s bytes ≡ Some last
  ends_white [] a l s last e h = e
  ends_white (b ∷ bytes) a l s last e h =
      stops precision a l s last b bytes (white_stops precision l b h.0) e
      ∙ ap (read_bytes precision a lexemes.Blank last) (sym (append-nil (b ∷ bytes)))
      ∙ white_first precision (b ∷ bytes) [] a last h

  -- bytes that spell tokens which the parser takes lead to the parser's state
  pub read_bytes-spelled : (tokens : List Token) (a : ℕ) (l : Lexeme) (s last f : ParserState) (previous : Option Token) (bytes : List ℕ) → Pending l previous → ending precision.cap l s ≡ Some last → Spells a previous tokens bytes → run precision last tokens ≡ Some f → read_bytes precision a l s bytes ≡ Some f
  read_bytes-spelled [] a l s last f previous bytes p e h r = ends_white bytes a l s last e h ∙ r
  read_bytes-spelled (token ∷ tokens) a l s last f previous bytes p e (white, spelling, rest, each_white, is_apart, spelled, same, more) r =
      let stepped = opened (step last (seen precision token)) (λ after. run precision after tokens) f r in
      let left = leaves token (a + length white) last stepped.0 spelling stepped.1 spelled in
      ap (read_bytes precision a l s) same
      ∙ ends_before a l s last previous token white spelling rest p e each_white is_apart (begins token (a + length white) spelling spelled)
      ∙ left.steps rest
      ∙ read_bytes-spelled tokens (a + length white + length spelling) left.lexeme left.state stepped.0 f (Some token) rest left.pending left.ended_is more stepped.2
