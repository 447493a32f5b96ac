-- The bytes that are taken spell tokens which the parser takes.
use Rattle.std.proofs.Common.{◌≡◌, ℕ, suc, ◌+◌, ◌-◌, ◌*◌, ◌<◌, ◌≤◌, Bool, true, false, cond, ◌&&◌, ◌||◌, eqb, ltb, List, [], ◌∷◌, ◌++◌, length, map, take, get_or, Option, Some, None, option_and_then, option_map, ℤ, ◌⊎◌, inl, inr, ⊎_elim, sym, refl, ap, ◌∙◌, subst, arith, append_assoc, append-nil, codes, zero-lt-suc, eqb-true, ltb-true, add-zero}
use Rattle.std.proofs.Math.Bool.{or-true, or-false}
use Rattle.std.proofs.lemmas.Option.{cond_some}
use Rattle.std.specs.Char.{to_ascii_uppercase}
use Rattle.std.proofs.lemmas.Bool.{and_parts, or_cases, cond_both, false≢true}
use Rattle.std.proofs.lemmas.List.{take_more}
use Rattle.geo_text.specs.Token.{Polygon, MultiPolygon, GeometryCollection, Empty, Z, M, ZM, Numeral, Token, Word, Dimensions, Number, Open, Close, Comma, is_white, is_digit, IsNumeral, IsSign, IsPoint, AreDigits, IsSpelled, letters_of, axes_letters, is_word, is_number, is_alike, number_from, Spells}
use Rattle.geo_text.specs.Machine.{ParserState, Symbol, Numbered, step, letters, letter_on, symbol_of, is_complete, keyword_at, takes_number, is_number_byte, is_letter, goes_on, typed_on, ending, beginning}
use Rattle.geo_text.specs.Number.{Precision, capped, no_fraction, fraction_on, size_on, is_fine, value_of, no_number, number_on, number_begun, with_digit}
use Rattle.geo_text.specs.declared.fraction.Fraction.{Fraction}
use Rattle.geo_text.specs.declared.keyword.Keyword.{Keyword}
use Rattle.geo_text.specs.declared.keyword.Keyword.TheVariants as keywords
use Rattle.geo_text.specs.declared.lexeme.Lexeme.{Lexeme}
use Rattle.geo_text.specs.declared.lexeme.Lexeme.TheVariants as lexemes
use Rattle.geo_text.specs.declared.number.Number.{Number as NumberRead}
use Rattle.geo_text.specs.declared.place.Place.{Place}
use Rattle.geo_text.specs.declared.place.Place.TheVariants.{Outside, Head, ElementStart, BodyStart}
use Rattle.geo_text.proofs.Options.{none_some, some_equal, opened, mapped, when_so}
use Rattle.geo_text.proofs.Limits.{capped-small, capped-from, capped-capped}
use Rattle.geo_text.proofs.Fractions.{fraction_from, size_from, seen_value_is}
use Rattle.geo_text.proofs.Parsing.{run, seen}
use Rattle.geo_text.proofs.Typing.{read_bytes, through, num, kept_fraction, has_digit, one_of_two}
use Rattle.geo_text.proofs.Spelled.{FirstByte, begins}

module _ (precision : Precision) where
  -- ---- the digits of a number that was read

  pub on_digit : (n : NumberRead) (b : ℕ) → is_digit b ≡ true → number_on precision.cap n b ≡ Some (with_digit precision.cap n b)
  on_digit n b d = rw d refl

  -- digits behind the point
  behind_point : (tail : List ℕ) (a : ℕ) (negative some_digit : Bool) (f : Fraction) (size : ℕ) (m : NumberRead) → through precision (num precision a negative some_digit true f size) tail ≡ Some m
      → AreDigits tail × (m ≡ num precision a negative (some_digit || has_digit precision tail) true (fraction_from f tail) (size_from precision.cap f size tail))
  behind_point [] a negative some_digit f size m e = (tt, sym (some_equal _ m e) ∙ ap (λ (d : Bool). num precision a negative d true f size) (sym (or-false some_digit)))
  behind_point (b ∷ tail) a negative some_digit f size m e =
      let n = num precision a negative some_digit true f size in
      let first = opened (number_on precision.cap n b) (λ x. through precision x tail) m e in
      let digit : is_digit b ≡ true = ⊎_elim (λ d. d) (λ p. absurd (false≢true (and_parts (eqb b 46) false p).1)) (one_of_two precision (is_digit b) (eqb b 46 && false) (with_digit precision.cap n b) (record n { point = true }) first.0 first.1) in
      let same : with_digit precision.cap n b ≡ first.0 = some_equal (with_digit precision.cap n b) first.0 (sym (on_digit n b digit) ∙ first.1) in
      let g = fraction_on f b in
      let z = size_on precision.cap f size b in
      let more = behind_point tail a negative true g z m (ap (λ x. through precision x tail) same ∙ first.2) in
      ((digit, more.0), more.1 ∙ ap (λ (d : Bool). num precision a negative d true (fraction_from g tail) (size_from precision.cap g z tail)) (sym (or-true some_digit)))

  -- what the machine sees of a number
  abbrev symbol_seen : NumberRead → Symbol
  symbol_seen m = Numbered m.at (value_of precision.cap m) (is_fine m.fraction)

  -- of a number by its size before the point and the digits behind it
  abbrev symbol_by : ℕ → Bool → ℕ → List ℕ → Symbol
  symbol_by a negative size fraction = symbol_seen (num precision a negative true true (kept_fraction precision fraction) (size_from precision.cap (no_fraction precision.scale) size fraction))

  -- digits before the point, the point and digits
  record Digits (tail : List ℕ) (a : ℕ) (negative some_digit : Bool) (size : ℕ) (m : NumberRead) : Type 0 where
    whole : List ℕ
    point : List ℕ
    fraction : List ℕ
    whole_digits : AreDigits whole
    fraction_digits : AreDigits fraction
    is_point : IsPoint point fraction
    spelling : tail ≡ whole ++ (point ++ fraction)
    came : m.some_digit ≡ (some_digit || (has_digit precision whole || has_digit precision fraction))
    seen_as : symbol_seen m ≡ symbol_by a negative (capped precision.cap (number_from size whole)) fraction

  digit_in_front : (b : ℕ) (tail : List ℕ) (a : ℕ) (negative some_digit : Bool) (size : ℕ) (m : NumberRead) → size ≤ precision.cap → is_digit b ≡ true → Digits tail a negative true (capped precision.cap (10 * size + (b - 48))) m → Digits (b ∷ tail) a negative some_digit size m
  digit_in_front b tail a negative some_digit size m h d w = record {
    whole = b ∷ w.whole;
    point = w.point;
    fraction = w.fraction;
    whole_digits = (d, w.whole_digits);
    fraction_digits = w.fraction_digits;
    is_point = w.is_point;
    spelling = ap (λ xs. b ∷ xs) w.spelling;
    came = w.came ∙ sym (or-true some_digit);
    seen_as = w.seen_as ∙ ap (λ (z : ℕ). symbol_by a negative z w.fraction) (capped-from precision.cap w.whole (capped precision.cap (10 * size + (b - 48))) (10 * size + (b - 48)) (capped-capped precision.cap (10 * size + (b - 48))));
  }

  point_in_front : (b : ℕ) (tail : List ℕ) (a : ℕ) (negative some_digit : Bool) (size : ℕ) (m : NumberRead) → size ≤ precision.cap → b ≡ 46
      → (x : NumberRead) → number_on precision.cap (num precision a negative some_digit false (no_fraction precision.scale) size) b ≡ Some x → through precision x tail ≡ Some m → Digits (b ∷ tail) a negative some_digit size m
  point_in_front b tail a negative some_digit size m h dot x e r =
      let same : num precision a negative some_digit true (no_fraction precision.scale) size ≡ x = some_equal _ x (ap (number_on precision.cap (num precision a negative some_digit false (no_fraction precision.scale) size)) (sym dot) ∙ e) in
      let behind = behind_point tail a negative some_digit (no_fraction precision.scale) size m (ap (λ y. through precision y tail) same ∙ r) in
      record {
        whole = [];
        point = codes ".";
        fraction = tail;
        whole_digits = tt;
        fraction_digits = behind.0;
        is_point = inr refl;
        spelling = ap (λ c. c ∷ tail) dot;
        came = ap (λ (y : NumberRead). y.some_digit) behind.1;
        seen_as = ap symbol_seen behind.1 ∙ ap (λ (z : ℕ). symbol_by a negative z tail) (sym (capped-small precision.cap size h));
      }

  digits_of : (tail : List ℕ) (a : ℕ) (negative some_digit : Bool) (size : ℕ) (m : NumberRead) → size ≤ precision.cap → through precision (num precision a negative some_digit false (no_fraction precision.scale) size) tail ≡ Some m → Digits tail a negative some_digit size m
  digits_of [] a negative some_digit size m h e =
      let same : num precision a negative some_digit false (no_fraction precision.scale) size ≡ m = some_equal _ m e in
      record {
        whole = [];
        point = [];
        fraction = [];
        whole_digits = tt;
        fraction_digits = tt;
        is_point = inl (refl, refl);
        spelling = refl;
        came = ap (λ (x : NumberRead). x.some_digit) (sym same) ∙ sym (or-false some_digit);
        seen_as = ap symbol_seen (sym same) ∙ ap (λ (z : ℕ). symbol_by a negative z []) (sym (capped-small precision.cap size h));
      }
  digits_of (b ∷ tail) a negative some_digit size m h e =
      let n = num precision a negative some_digit false (no_fraction precision.scale) size in
      let first = opened (number_on precision.cap n b) (λ x. through precision x tail) m e in
      ⊎_elim (λ d. digit_in_front b tail a negative some_digit size m h d (digits_of tail a negative true (capped precision.cap (10 * size + (b - 48))) m (omega arith) (ap (λ x. through precision x tail) (some_equal (with_digit precision.cap n b) first.0 (sym (on_digit n b d) ∙ first.1)) ∙ first.2)))
      (λ p. point_in_front b tail a negative some_digit size m h (eqb-true b 46 (and_parts (eqb b 46) true p).0) first.0 first.1 first.2)
      (one_of_two precision (is_digit b) (eqb b 46 && true) (with_digit precision.cap n b) (record n { point = true }) first.0 first.1)

  -- ---- what is still to come of a lexeme, and the tokens behind it

  abbrev token_letters : Token → List ℕ
  token_letters (Word name) = letters_of name
  token_letters (Dimensions d) = axes_letters d.axes
  token_letters token = []

  -- the dimension word is at the place
  abbrev IsAt : ℕ → Token → Type 0
  IsAt a (Dimensions d) = d.at ≡ a
  IsAt a token = Unit {0}

  -- the token of a word behind n of its letters
  record IsTokenOf (k : Keyword) (at : ℕ) (token : Token) : Type 0 where
    is_word : is_word token ≡ true
    is_at : IsAt at token
    seen_as : seen precision token ≡ symbol_of k at

  -- the bytes behind `a` bytes complete the lexeme, and spell tokens behind it that the parser takes from s to f
  abbrev Lexed : ℕ → Lexeme → ParserState → ParserState → List ℕ → Type 0
  Lexed a lexemes.Blank s f bytes = (tokens : List Token) × Spells a None tokens bytes × (run precision s tokens ≡ Some f)
  Lexed a (lexemes.Word at k n) s f bytes =
      (token : Token) × (typed : List ℕ) × (rest : List ℕ) × (tokens : List Token) × IsTokenOf k at token × (token_letters token ≡ take n (letters k) ++ map to_ascii_uppercase typed)
      × (bytes ≡ typed ++ rest) × Spells (a + length typed) (Some token) tokens rest × (run precision s (token ∷ tokens) ≡ Some f)
  Lexed a (lexemes.Number n) s f bytes =
      (m : NumberRead) × (tail : List ℕ) × (rest : List ℕ) × (tokens : List Token) × (through precision n tail ≡ Some m) × (m.some_digit ≡ true)
      × (bytes ≡ tail ++ rest) × ((z : Numeral) → Spells (a + length tail) (Some (Number z)) tokens rest)
      × (option_and_then (λ after. run precision after tokens) (step s (symbol_seen m)) ≡ Some f)

  -- ---- tokens apart

  no_previous : (token : Token) → is_alike None token ≡ true → 0 < 0
  no_previous token e = absurd (false≢true e)

  -- white space in front of what the bytes spell
  white_before : (b : ℕ) → is_white b ≡ true → (tokens : List Token) (a : ℕ) (bytes : List ℕ) → Spells (a + 1) None tokens bytes → Spells a None tokens (b ∷ bytes)
  white_before b w [] a bytes h = (w, h)
  white_before b w (token ∷ tokens) a bytes (white, spelling, rest, each_white, is_apart, spelled, same, more) =
      let place : a + 1 + length white ≡ a + suc (length white) = omega arith in (
        b ∷ white,
        spelling,
        rest,
        (w, each_white),
        (λ e. zero-lt-suc (length white)),
        subst (λ (i : ℕ). IsSpelled i token spelling) place spelled,
        ap (λ xs. b ∷ xs) same,
        subst (λ (i : ℕ). Spells (i + length spelling) (Some token) tokens rest) place more,
      )

  -- behind a bracket or a comma no white space is needed
  spells_after : (token : Token) → ((next : Token) → is_alike (Some token) next ≡ false) → (tokens : List Token) (a : ℕ) (bytes : List ℕ) → Spells a None tokens bytes → Spells a (Some token) tokens bytes
  spells_after token apart [] a bytes h = h
  spells_after token apart (next ∷ tokens) a bytes (white, spelling, rest, each_white, is_apart, spelled, same, more) =
      (white, spelling, rest, each_white, (λ e. absurd (false≢true (sym (apart next) ∙ e))), spelled, same, more)

  -- nor is any where the next byte begins no token of the same kind
  spells_apart : (token : Token) (b : ℕ) → ((next : Token) → is_alike (Some token) next ≡ true → FirstByte precision next b → ⊥) → (tokens : List Token) (a : ℕ) (bytes : List ℕ) → Spells a None tokens (b ∷ bytes) → Spells a (Some token) tokens (b ∷ bytes)
  spells_apart token b stop [] a bytes h = h
  spells_apart token b stop (next ∷ tokens) a bytes ([], spelling, rest, each_white, is_apart, spelled, same, more) =
      let first = begins precision next (a + 0) spelling spelled in
      let one : b ∷ bytes ≡ first.0 ∷ (first.1 ++ rest) = same ∙ ap (λ (xs : List ℕ). xs ++ rest) first.2 in
      let byte : first.0 ≡ b = cc in
      ([], spelling, rest, each_white, (λ e. absurd (stop next e (subst (FirstByte precision next) byte first.3))), spelled, same, more)
  spells_apart token b stop (next ∷ tokens) a bytes (w ∷ white, spelling, rest, each_white, is_apart, spelled, same, more) =
      (w ∷ white, spelling, rest, each_white, (λ e. zero-lt-suc (length white)), spelled, same, more)

  -- the token that stands behind a word is no word where no letter comes, and that behind a number is no number
  no_word_number : (token : Token) → is_word token ≡ true → ((is_word token && false) || (is_number token && true)) ≡ true → ⊥
  no_word_number (Word name) w e = false≢true e
  no_word_number (Dimensions d) w e = false≢true e
  no_word_number (Number z) w e = false≢true w
  no_word_number Open w e = false≢true w
  no_word_number Close w e = false≢true w
  no_word_number Comma w e = false≢true w

  no_word_mark : (token : Token) → is_word token ≡ true → ((is_word token && false) || (is_number token && false)) ≡ true → ⊥
  no_word_mark (Word name) w e = false≢true e
  no_word_mark (Dimensions d) w e = false≢true e
  no_word_mark (Number z) w e = false≢true w
  no_word_mark Open w e = false≢true w
  no_word_mark Close w e = false≢true w
  no_word_mark Comma w e = false≢true w

  no_letter : (b : ℕ) (token : Token) → is_word token ≡ true → is_letter b ≡ false → (next : Token) → is_alike (Some token) next ≡ true → FirstByte precision next b → ⊥
  no_letter b token w g (Word name) e h = false≢true (sym g ∙ h)
  no_letter b token w g (Dimensions d) e h = false≢true (sym g ∙ h)
  no_letter b token w g (Number z) e h = no_word_number token w e
  no_letter b token w g Open e h = no_word_mark token w e
  no_letter b token w g Close e h = no_word_mark token w e
  no_letter b token w g Comma e h = no_word_mark token w e

  no_number_byte : (b : ℕ) (z : Numeral) → is_number_byte b ≡ false → (next : Token) → is_alike (Some (Number z)) next ≡ true → FirstByte precision next b → ⊥
  no_number_byte b z g (Number y) e h = false≢true (sym g ∙ h)
  no_number_byte b z g (Word name) e h = false≢true e
  no_number_byte b z g (Dimensions d) e h = false≢true e
  no_number_byte b z g Open e h = false≢true e
  no_number_byte b z g Close e h = false≢true e
  no_number_byte b z g Comma e h = false≢true e

  -- ---- a lexeme that ends before a byte

  -- the word that was typed whole
  complete_token : (k : Keyword) (n at : ℕ) → is_complete k n ≡ true → (token : Token) × IsTokenOf k at token × (token_letters token ≡ take n (letters k))
  complete_token keywords.Polygon n at h = (Word Polygon, record { is_word = refl; is_at = tt; seen_as = refl }, ap (λ i. take i (codes "POLYGON")) (sym (eqb-true n 7 h)))
  complete_token keywords.MultiPolygon n at h = (Word MultiPolygon, record { is_word = refl; is_at = tt; seen_as = refl }, ap (λ i. take i (codes "MULTIPOLYGON")) (sym (eqb-true n 12 h)))
  complete_token keywords.GeometryCollection n at h = (Word GeometryCollection, record { is_word = refl; is_at = tt; seen_as = refl }, ap (λ i. take i (codes "GEOMETRYCOLLECTION")) (sym (eqb-true n 18 h)))
  complete_token keywords.Empty n at h = (Word Empty, record { is_word = refl; is_at = tt; seen_as = refl }, ap (λ i. take i (codes "EMPTY")) (sym (eqb-true n 5 h)))
  complete_token keywords.M n at h = (Dimensions (record { at = at; axes = M }), record { is_word = refl; is_at = refl; seen_as = refl }, ap (λ i. take i (codes "M")) (sym (eqb-true n 1 h)))
  complete_token keywords.Zm n at h =
      ⊎_elim (λ one. (Dimensions (record { at = at; axes = Z }), record { is_word = refl; is_at = refl; seen_as = refl }, ap (λ i. take i (codes "ZM")) (sym (eqb-true n 1 one))))
      (λ two. (Dimensions (record { at = at; axes = ZM }), record { is_word = refl; is_at = refl; seen_as = refl }, ap (λ i. take i (codes "ZM")) (sym (eqb-true n 2 two))))
      (or_cases (eqb n 1) (eqb n 2) h)

  behind : (a : ℕ) (l : Lexeme) (s last f : ParserState) (b : ℕ) (bytes : List ℕ) → goes_on l b ≡ false → ending precision.cap l s ≡ Some last → Lexed a lexemes.Blank last f (b ∷ bytes) → Lexed a l s f (b ∷ bytes)
  behind a lexemes.Blank s last f b bytes g e w = let same : s ≡ last = some_equal s last e in subst (λ (x : ParserState). Lexed a lexemes.Blank x f (b ∷ bytes)) (sym same) w
  behind a (lexemes.Word at k n) s last f b bytes g e (tokens, spelled, r) =
      let whole = when_so (is_complete k n) (step s (symbol_of k at)) last e in
      let token = complete_token k n at whole.0 in (
        token.0,
        [],
        b ∷ bytes,
        tokens,
        token.1,
        token.2 ∙ sym (append-nil (take n (letters k))),
        refl,
        subst (λ (i : ℕ). Spells i (Some token.0) tokens (b ∷ bytes)) (sym (add-zero a)) (spells_apart token.0 b (no_letter b token.0 token.1.is_word g) tokens a bytes spelled),
        ap (option_and_then (λ after. run precision after tokens)) (ap (step s) token.1.seen_as ∙ whole.1) ∙ r,
      )
  behind a (lexemes.Number n) s last f b bytes g e (tokens, spelled, r) =
      let whole = when_so n.some_digit (step s (symbol_seen n)) last e in (
        n,
        [],
        b ∷ bytes,
        tokens,
        refl,
        whole.0,
        refl,
        (λ z. subst (λ (i : ℕ). Spells i (Some (Number z)) tokens (b ∷ bytes)) (sym (add-zero a)) (spells_apart (Number z) b (no_number_byte b z g) tokens a bytes spelled)),
        ap (option_and_then (λ after. run precision after tokens)) whole.1 ∙ r,
      )

  -- the same at the end of the bytes
  at_end : (a : ℕ) (l : Lexeme) (s f : ParserState) → ending precision.cap l s ≡ Some f → Lexed a l s f []
  at_end a lexemes.Blank s f e = ([], tt, e)
  at_end a (lexemes.Word at k n) s f e =
      let whole = when_so (is_complete k n) (step s (symbol_of k at)) f e in
      let token = complete_token k n at whole.0 in (
        token.0,
        [],
        [],
        [],
        token.1,
        token.2 ∙ sym (append-nil (take n (letters k))),
        refl,
        tt,
        ap (option_and_then (λ after. run precision after [])) (ap (step s) token.1.seen_as ∙ whole.1),
      )
  at_end a (lexemes.Number n) s f e =
      let whole = when_so n.some_digit (step s (symbol_seen n)) f e in
      (n, [], [], [], refl, whole.0, refl, (λ z. tt), ap (option_and_then (λ after. run precision after [])) whole.1)

  -- ---- a byte that goes on with a lexeme

  abbrev Known : List ℕ → Type 0
  Known bytes = (a : ℕ) (l : Lexeme) (s f : ParserState) → read_bytes precision a l s bytes ≡ Some f → Lexed a l s f bytes

  word_goes : (at a : ℕ) (k : Keyword) (n : ℕ) (s f : ParserState) (b : ℕ) (bytes : List ℕ) → n < length (letters k) → to_ascii_uppercase b ≡ get_or (letters k) n 0 → Lexed (a + 1) (lexemes.Word at k (n + 1)) s f bytes → Lexed a (lexemes.Word at k n) s f (b ∷ bytes)
  word_goes at a k n s f b bytes h u (token, typed, rest, tokens, is_token, same_letters, same, spelled, r) =
      let place : a + 1 + length typed ≡ a + suc (length typed) = omega arith in (
        token,
        b ∷ typed,
        rest,
        tokens,
        is_token,
        same_letters ∙ ap (λ xs. xs ++ map to_ascii_uppercase typed) (take_more (letters k) n 0 h) ∙ append_assoc (take n (letters k)) (get_or (letters k) n 0 ∷ []) (map to_ascii_uppercase typed) ∙ ap (λ c. take n (letters k) ++ c ∷ map to_ascii_uppercase typed) (sym u),
        ap (λ xs. b ∷ xs) same,
        subst (λ (i : ℕ). Spells i (Some token) tokens rest) place spelled,
        r,
      )

  number_goes : (a : ℕ) (n x : NumberRead) (s f : ParserState) (b : ℕ) (bytes : List ℕ) → number_on precision.cap n b ≡ Some x → Lexed (a + 1) (lexemes.Number x) s f bytes → Lexed a (lexemes.Number n) s f (b ∷ bytes)
  number_goes a n x s f b bytes e (m, tail, rest, tokens, t, digit, same, spelled, r) =
      let place : a + 1 + length tail ≡ a + suc (length tail) = omega arith in
      (m, b ∷ tail, rest, tokens, ap (option_and_then (λ y. through precision y tail)) e ∙ t, digit, ap (λ xs. b ∷ xs) same, (λ z. subst (λ (i : ℕ). Spells i (Some (Number z)) tokens rest) place (spelled z)), r)

  goes : (a : ℕ) (l : Lexeme) (s f : ParserState) (b : ℕ) (bytes : List ℕ) (more : Lexeme) → goes_on l b ≡ true → typed_on precision.cap l b ≡ Some more → Lexed (a + 1) more s f bytes → Lexed a l s f (b ∷ bytes)
  goes a lexemes.Blank s f b bytes more g e w = absurd (false≢true g)
  goes a (lexemes.Word at k n) s f b bytes more g e w =
      let typed = mapped (letter_on k n b) (λ i. lexemes.Word at k i) more e in
      let next = cond_some (ltb n (length (letters k)) && eqb (to_ascii_uppercase b) (get_or (letters k) n 0)) (n + 1) typed.0 typed.1 in
      let parts = and_parts (ltb n (length (letters k))) (eqb (to_ascii_uppercase b) (get_or (letters k) n 0)) next.0 in
      word_goes at a k n s f b bytes (ltb-true n (length (letters k)) parts.0) (eqb-true (to_ascii_uppercase b) (get_or (letters k) n 0) parts.1)
      (subst (λ (x : Lexeme). Lexed (a + 1) x s f bytes) (sym typed.2 ∙ ap (λ i. lexemes.Word at k i) (sym next.1)) w)
  goes a (lexemes.Number n) s f b bytes more g e w =
      let typed = mapped (number_on precision.cap n b) (λ m. lexemes.Number m) more e in
      number_goes a n typed.0 s f b bytes typed.1 (subst (λ (x : Lexeme). Lexed (a + 1) x s f bytes) (sym typed.2) w)

  -- ---- a byte that begins a lexeme, or is a token

  pub pick : (b : Bool) (x k : Keyword) (o : Option Keyword) → cond b (Some x) o ≡ Some k → ((b ≡ true) × (x ≡ k)) ⊎ (o ≡ Some k)
  pick true x k o e = inl (refl, some_equal x k e)
  pick false x k o e = inr e

  -- the keyword that a letter begins begins with it
  begins_with : (letter n : ℕ) (k x : Keyword) → (eqb letter n ≡ true) × (x ≡ k) → take 1 (letters x) ≡ n ∷ [] → take 1 (letters k) ≡ letter ∷ []
  begins_with letter n k x h e = ap (λ w. take 1 (letters w)) (sym h.1) ∙ e ∙ ap (λ i. i ∷ []) (sym (eqb-true letter n h.0))

  pub keyword_first : (place : Place) (letter : ℕ) (k : Keyword) → keyword_at place letter ≡ Some k → take 1 (letters k) ≡ letter ∷ []
  keyword_first Outside letter k e =
      ⊎_elim (λ h. begins_with letter 80 k keywords.Polygon h refl) (λ e1.
      ⊎_elim (λ h. begins_with letter 77 k keywords.MultiPolygon h refl) (λ e2.
      begins_with letter 71 k keywords.GeometryCollection (cond_some (eqb letter 71) keywords.GeometryCollection k e2) refl)
      (pick (eqb letter 77) keywords.MultiPolygon k _ e1)) (pick (eqb letter 80) keywords.Polygon k _ e)
  keyword_first ElementStart letter k e =
      ⊎_elim (λ h. begins_with letter 80 k keywords.Polygon h refl) (λ e1.
      begins_with letter 77 k keywords.MultiPolygon (cond_some (eqb letter 77) keywords.MultiPolygon k e1) refl) (pick (eqb letter 80) keywords.Polygon k _ e)
  keyword_first (Head kind false) letter k e =
      ⊎_elim (λ h. begins_with letter 69 k keywords.Empty h refl) (λ e1.
      ⊎_elim (λ h. begins_with letter 77 k keywords.M h refl) (λ e2.
      begins_with letter 90 k keywords.Zm (cond_some (eqb letter 90) keywords.Zm k e2) refl)
      (pick (eqb letter 77) keywords.M k _ e1)) (pick (eqb letter 69) keywords.Empty k _ e)
  keyword_first (Head kind true) letter k e = begins_with letter 69 k keywords.Empty (cond_some (eqb letter 69) keywords.Empty k e) refl
  keyword_first BodyStart letter k e = begins_with letter 69 k keywords.Empty (cond_some (eqb letter 69) keywords.Empty k e) refl
  keyword_first place letter k e = absurd (none_some k e)

  word_spelled : (token : Token) (a : ℕ) (spelling : List ℕ) → is_word token ≡ true → IsAt a token → token_letters token ≡ map to_ascii_uppercase spelling → IsSpelled a token spelling
  word_spelled (Word name) a spelling w h e = sym e
  word_spelled (Dimensions d) a spelling w h e = (h, sym e)
  word_spelled (Number z) a spelling w h e = absurd (false≢true w)
  word_spelled Open a spelling w h e = absurd (false≢true w)
  word_spelled Close a spelling w h e = absurd (false≢true w)
  word_spelled Comma a spelling w h e = absurd (false≢true w)

  -- a token at the front
  token_first : (token : Token) (a : ℕ) (b : ℕ) (typed rest bytes : List ℕ) (tokens : List Token) → IsSpelled a token (b ∷ typed) → bytes ≡ typed ++ rest → Spells (a + 1 + length typed) (Some token) tokens rest → Spells a None (token ∷ tokens) (b ∷ bytes)
  token_first token a b typed rest bytes tokens spelled same more =
      let place : a + 1 + length typed ≡ a + 0 + suc (length typed) = omega arith in (
        [],
        b ∷ typed,
        rest,
        tt,
        no_previous token,
        subst (λ (i : ℕ). IsSpelled i token (b ∷ typed)) (sym (add-zero a)) spelled,
        ap (λ xs. b ∷ xs) same,
        subst (λ (i : ℕ). Spells i (Some token) tokens rest) place more,
      )

  begins_word : (a : ℕ) (s f : ParserState) (b : ℕ) (bytes : List ℕ) (k : Keyword) → take 1 (letters k) ≡ to_ascii_uppercase b ∷ [] → Lexed (a + 1) (lexemes.Word a k 1) s f bytes → Lexed a lexemes.Blank s f (b ∷ bytes)
  begins_word a s f b bytes k first (token, typed, rest, tokens, is_token, same_letters, same, spelled, r) =
      (token ∷ tokens, token_first token a b typed rest bytes tokens (word_spelled token a (b ∷ typed) is_token.is_word is_token.is_at (same_letters ∙ ap (λ xs. xs ++ map to_ascii_uppercase typed) first)) same spelled, r)

  -- the numeral that was read
  record NumeralRead (bytes : List ℕ) (a : ℕ) (m : NumberRead) : Type 0 where
    numeral : Numeral
    is_numeral : IsNumeral bytes numeral
    here : numeral.at ≡ a
    seen_as : seen precision (Number numeral) ≡ symbol_seen m

  some_digit_of : (whole fraction : List ℕ) → (has_digit precision whole || has_digit precision fraction) ≡ true → 0 < length whole + length fraction
  some_digit_of (d ∷ whole) fraction e = omega arith
  some_digit_of [] (d ∷ fraction) e = omega arith
  some_digit_of [] [] e = absurd (false≢true e)

  numeral_from : (sign tail : List ℕ) (a : ℕ) (negative : Bool) (m : NumberRead) → IsSign sign negative → m.some_digit ≡ true → Digits tail a negative false 0 m → NumeralRead (sign ++ tail) a m
  numeral_from sign tail a negative m h digit d = record {
    numeral = record { at = a; negative = negative; whole = d.whole; fraction = d.fraction };
    is_numeral = record {
      sign = sign;
      point = d.point;
      is_sign = h;
      is_point = d.is_point;
      whole = d.whole_digits;
      fraction = d.fraction_digits;
      some_digit = some_digit_of d.whole d.fraction (sym d.came ∙ digit);
      spelling = ap (λ xs. sign ++ xs) d.spelling;
    };
    here = refl;
    seen_as = ap (λ (v : ℤ). Numbered a v (is_fine (kept_fraction precision d.fraction))) (sym (seen_value_is precision (record { at = a; negative = negative; whole = d.whole; fraction = d.fraction }) d.fraction_digits)) ∙ sym d.seen_as;
  }

  numeral_begun : (b : ℕ) (tail : List ℕ) (a : ℕ) (n m : NumberRead) → number_begun precision a b ≡ Some n → through precision n tail ≡ Some m → m.some_digit ≡ true → NumeralRead (b ∷ tail) a m
  numeral_begun b tail a n m e t digit =
      cond_both (eqb b 45) (Some (no_number precision.scale a true)) _ (λ o. o ≡ Some n → NumeralRead (b ∷ tail) a m)
      (λ minus h. subst (λ (c : ℕ). NumeralRead (c ∷ tail) a m) (sym (eqb-true b 45 minus))
      (numeral_from (codes "-") tail a true m refl digit (digits_of tail a true false 0 m (omega arith) (ap (λ x. through precision x tail) (some_equal _ n h) ∙ t))))
      (λ _. cond_both (eqb b 43) (Some (no_number precision.scale a false)) _ (λ o. o ≡ Some n → NumeralRead (b ∷ tail) a m)
      (λ plus h. subst (λ (c : ℕ). NumeralRead (c ∷ tail) a m) (sym (eqb-true b 43 plus))
      (numeral_from (codes "+") tail a false m (inl refl) digit (digits_of tail a false false 0 m (omega arith) (ap (λ x. through precision x tail) (some_equal _ n h) ∙ t))))
      (λ _ h. numeral_from [] (b ∷ tail) a false m (inr refl) digit (digits_of (b ∷ tail) a false false 0 m (omega arith) (ap (option_and_then (λ x. through precision x tail)) h ∙ t))))
      e

  begins_number : (a : ℕ) (s f : ParserState) (b : ℕ) (bytes : List ℕ) (n : NumberRead) → number_begun precision a b ≡ Some n → Lexed (a + 1) (lexemes.Number n) s f bytes → Lexed a lexemes.Blank s f (b ∷ bytes)
  begins_number a s f b bytes n e (m, tail, rest, tokens, t, digit, same, spelled, r) =
      let read = numeral_begun b tail a n m e t digit in (
        Number read.numeral ∷ tokens,
        token_first (Number read.numeral) a b tail rest bytes tokens (read.here, read.is_numeral) same (spelled read.numeral),
        ap (λ symbol. option_and_then (λ after. run precision after tokens) (step s symbol)) read.seen_as ∙ r,
      )

  begins_mark : (token : Token) (mark a : ℕ) (s last f : ParserState) (b : ℕ) (bytes : List ℕ) → ((next : Token) → is_alike (Some token) next ≡ false) → IsSpelled a token (mark ∷ []) → b ≡ mark → step s (seen precision token) ≡ Some last → Lexed (a + 1) lexemes.Blank last f bytes → Lexed a lexemes.Blank s f (b ∷ bytes)
  begins_mark token mark a s last f b bytes apart spelled here e (tokens, more, r) = (
    token ∷ tokens,
    token_first token a b [] bytes bytes tokens (subst (λ (c : ℕ). IsSpelled a token (c ∷ [])) (sym here) spelled) refl
        (subst (λ (i : ℕ). Spells i (Some token) tokens bytes) (sym (add-zero (a + 1))) (spells_after token apart tokens (a + 1) bytes more)),
    ap (option_and_then (λ after. run precision after tokens)) e ∙ r,
  )

  begins_some : (a : ℕ) (s f : ParserState) (b : ℕ) (bytes : List ℕ) → Known bytes → (p : Lexeme × ParserState) → beginning precision a s b ≡ Some p → read_bytes precision (a + 1) p.0 p.1 bytes ≡ Some f → Lexed a lexemes.Blank s f (b ∷ bytes)
  begins_some a s f b bytes known =
      let Q : (Lexeme × ParserState) → Type 0 = λ p. read_bytes precision (a + 1) p.0 p.1 bytes ≡ Some f → Lexed a lexemes.Blank s f (b ∷ bytes) in
      let P : Option (Lexeme × ParserState) → Type 0 = λ o. (p : Lexeme × ParserState) → o ≡ Some p → Q p in
      let mark : (token : Token) (c : ℕ) → ((next : Token) → is_alike (Some token) next ≡ false) → IsSpelled a token (c ∷ []) → eqb b c ≡ true → P (option_map (λ after. (lexemes.Blank, after)) (step s (seen precision token)))
      = λ token c apart spelled w p e r.
      let stepped = mapped (step s (seen precision token)) (λ after. (lexemes.Blank, after)) p e in
      begins_mark token c a s stepped.0 f b bytes apart spelled (eqb-true b c w) stepped.1 (known (a + 1) lexemes.Blank stepped.0 f (ap (λ (q : Lexeme × ParserState). read_bytes precision (a + 1) q.0 q.1 bytes) stepped.2 ∙ r)) in
      cond_both (is_white b) _ _ P (λ w p e r.
      let h = known (a + 1) lexemes.Blank s f (ap (λ (q : Lexeme × ParserState). read_bytes precision (a + 1) q.0 q.1 bytes) (some_equal (lexemes.Blank, s) p e) ∙ r) in
      (h.0, white_before b w h.0 a bytes h.1, h.2)) (λ _.
      cond_both (is_letter b) _ _ P (λ w p e r.
      let begun = mapped (keyword_at s.place (to_ascii_uppercase b)) (λ k. (lexemes.Word a k 1, s)) p e in
      begins_word a s f b bytes begun.0 (keyword_first s.place (to_ascii_uppercase b) begun.0 begun.1)
      (known (a + 1) (lexemes.Word a begun.0 1) s f (ap (λ (q : Lexeme × ParserState). read_bytes precision (a + 1) q.0 q.1 bytes) begun.2 ∙ r))) (λ _.
      cond_both (is_number_byte b) _ _ P (λ w p e r.
      let taken = when_so (takes_number s.place) (option_map (λ n. (lexemes.Number n, s)) (number_begun precision a b)) p e in
      let begun = mapped (number_begun precision a b) (λ n. (lexemes.Number n, s)) p taken.1 in
      begins_number a s f b bytes begun.0 begun.1 (known (a + 1) (lexemes.Number begun.0) s f (ap (λ (q : Lexeme × ParserState). read_bytes precision (a + 1) q.0 q.1 bytes) begun.2 ∙ r))) (λ _.
      cond_both (eqb b 40) _ _ P (mark Open 40 (λ _. refl) refl) (λ _.
      cond_both (eqb b 41) _ _ P (mark Close 41 (λ _. refl) refl) (λ _.
      cond_both (eqb b 44) _ _ P (mark Comma 44 (λ _. refl) refl) (λ _.
      λ p e r. absurd (none_some p e)))))))

  -- ---- all bytes

  by_byte : (a : ℕ) (l : Lexeme) (s f : ParserState) (b : ℕ) (bytes : List ℕ) → Known bytes → (g : Bool) → goes_on l b ≡ g
      → option_and_then (λ (p : Lexeme × ParserState). read_bytes precision (a + 1) p.0 p.1 bytes)
      (cond g (option_map (λ more. (more, s)) (typed_on precision.cap l b)) (option_and_then (λ after. beginning precision a after b) (ending precision.cap l s))) ≡ Some f
      → Lexed a l s f (b ∷ bytes)
  by_byte a l s f b bytes known true g e =
      let next = opened (option_map (λ (more : Lexeme). (more, s)) (typed_on precision.cap l b)) (λ (p : Lexeme × ParserState). read_bytes precision (a + 1) p.0 p.1 bytes) f e in
      let typed = mapped (typed_on precision.cap l b) (λ (more : Lexeme). (more, s)) next.0 next.1 in
      goes a l s f b bytes typed.0 g typed.1 (known (a + 1) typed.0 s f (ap (λ (q : Lexeme × ParserState). read_bytes precision (a + 1) q.0 q.1 bytes) typed.2 ∙ next.2))
  by_byte a l s f b bytes known false g e =
      let next = opened (option_and_then (λ after. beginning precision a after b) (ending precision.cap l s)) (λ (p : Lexeme × ParserState). read_bytes precision (a + 1) p.0 p.1 bytes) f e in
      let last = opened (ending precision.cap l s) (λ after. beginning precision a after b) next.0 next.1 in
      behind a l s last.0 f b bytes g last.1 (begins_some a last.0 f b bytes known next.0 last.2 next.2)

  lexed : (bytes : List ℕ) → Known bytes
  lexed [] a l s f e = at_end a l s f e
  lexed (b ∷ bytes) a l s f e = by_byte a l s f b bytes (lexed bytes) (goes_on l b) refl e

  -- bytes that are taken from the start spell tokens that the parser takes
  pub spelled-read_bytes : (bytes : List ℕ) (s f : ParserState) → read_bytes precision 0 lexemes.Blank s bytes ≡ Some f → (tokens : List Token) × Spells 0 None tokens bytes × (run precision s tokens ≡ Some f)
  spelled-read_bytes bytes s f e = lexed bytes 0 lexemes.Blank s f e
