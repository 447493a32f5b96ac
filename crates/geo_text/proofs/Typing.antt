-- What the bytes of one lexeme do.
use Rattle.std.proofs.Common.{◌≡◌, ℕ, zero, suc, ◌+◌, ◌-◌, ◌*◌, ◌<◌, ◌≤◌, Bool, true, false, cond, not, ◌&&◌, ◌||◌, eqb, leb, List, [], ◌∷◌, ◌++◌, length, map, take, drop, get_or, Option, Some, None, option_and_then, ◌⊎◌, inl, inr, ⊎_elim, sym, refl, ap, ap₂, ◌∙◌, subst, arith, eqb-true, eq-eqb, lt-ltb, drop-cons, add-one, length-drop, length-take, min, length-append}
use Rattle.std.proofs.lemmas.List.{length-map}
use Rattle.std.proofs.Math.Bool.{or-true, or-false}
use Rattle.std.specs.Char.{to_ascii_uppercase}
use Rattle.std.specs.List.{list_all}
use Rattle.std.proofs.lemmas.Bool.{and_parts}
use Rattle.std.proofs.lemmas.Bool.Decides.{nat_tests}
use Rattle.geo_text.specs.Token.{Numeral, is_white, is_digit, IsWhite, AreDigits, IsPoint, IsSign, IsNumeral, number_from}
use Rattle.geo_text.specs.Machine.{ParserState, letters, letter_on, is_number_byte, is_letter, goes_on, ending, read_byte, keyword_at, takes_number}
use Rattle.geo_text.specs.Number.{Precision, capped, no_fraction, fraction_on, size_on, no_number, with_digit, number_on, number_begun}
use Rattle.geo_text.specs.declared.fraction.Fraction.{Fraction}
use Rattle.geo_text.specs.declared.keyword.Keyword.{Keyword}
use Rattle.geo_text.specs.declared.keyword.Keyword.TheVariants as keywords
use Rattle.geo_text.specs.declared.lexeme.Lexeme.{Lexeme}
use Rattle.geo_text.specs.declared.lexeme.Lexeme.TheVariants as lexemes
use Rattle.geo_text.specs.declared.number.Number.{Number}
use Rattle.geo_text.proofs.Options.{none_some, opened}
use Rattle.geo_text.proofs.Limits.{capped-small, capped-from, capped-capped}
use Rattle.geo_text.proofs.Fractions.{fraction_from, size_from}

module _ (precision : Precision) where
  -- the state at the end of the bytes
  abbrev pub read_bytes : ℕ → Lexeme → ParserState → List ℕ → Option ParserState
  read_bytes a lexeme s [] = ending precision.cap lexeme s
  read_bytes a lexeme s (b ∷ bytes) = option_and_then (λ (p : Lexeme × ParserState). read_bytes (a + 1) p.0 p.1 bytes) (read_byte precision a lexeme s b)

  -- ---- bytes of each kind

  white_no_letter : (b : ℕ) → is_white b ≡ true → is_letter b ≡ false
  white_no_letter b e = grind (arith, nat_tests)

  white_no_number : (b : ℕ) → is_white b ≡ true → is_number_byte b ≡ false
  white_no_number b e = grind (arith, nat_tests)

  letter_no_white : (b : ℕ) → is_letter b ≡ true → is_white b ≡ false
  letter_no_white b e = grind (arith, nat_tests)

  pub letter_no_number : (b : ℕ) → is_letter b ≡ true → is_number_byte b ≡ false
  letter_no_number b e = grind (arith, nat_tests)

  number_no_white : (b : ℕ) → is_number_byte b ≡ true → is_white b ≡ false
  number_no_white b e = grind (arith, nat_tests)

  pub number_no_letter : (b : ℕ) → is_number_byte b ≡ true → is_letter b ≡ false
  number_no_letter b e = grind (arith, nat_tests)

  pub digit_is_number : (b : ℕ) → is_digit b ≡ true → is_number_byte b ≡ true
  digit_is_number b e = grind (arith, nat_tests)

  digit_no_sign : (b : ℕ) → is_digit b ≡ true → (eqb b 45 ≡ false) × (eqb b 43 ≡ false)
  digit_no_sign b e = (grind (arith, nat_tests), grind (arith, nat_tests))

  -- ---- white space, and the end of a lexeme

  pub white_stops : (l : Lexeme) (b : ℕ) → is_white b ≡ true → goes_on l b ≡ false
  white_stops lexemes.Blank b e = refl
  white_stops (lexemes.Word a k n) b e = white_no_letter b e
  white_stops (lexemes.Number n) b e = white_no_number b e

  -- where a byte does not go on with a lexeme, the lexeme ends
  pub stops : (a : ℕ) (l : Lexeme) (s last : ParserState) (b : ℕ) (bytes : List ℕ) → goes_on l b ≡ false → ending precision.cap l s ≡ Some last → read_bytes a l s (b ∷ bytes) ≡ read_bytes a lexemes.Blank last (b ∷ bytes)
  stops a l s last b bytes g e = rw (g, e) refl

  -- white space changes the place alone
  pub white_first : (white bytes : List ℕ) (a : ℕ) (s : ParserState) → IsWhite white → read_bytes a lexemes.Blank s (white ++ bytes) ≡ read_bytes (a + length white) lexemes.Blank s bytes
  white_first [] bytes a s h = ap (λ n. read_bytes n lexemes.Blank s bytes) (omega arith)
  white_first (b ∷ white) bytes a s h =
      let place : a + 1 + length white ≡ a + suc (length white) = omega arith in
      rw h.0 (white_first white bytes (a + 1) s h.1 ∙ ap (λ n. read_bytes n lexemes.Blank s bytes) place)

  -- ---- words

  abbrev pub is_capital : ℕ → Bool
  is_capital b = leb 65 b && leb b 90

  all_at : (p : ℕ → Bool) (xs : List ℕ) (n : ℕ) → list_all p xs ≡ true → n < length xs → p (get_or xs n 0) ≡ true
  all_at p [] n h k = absurd (omega arith)
  all_at p (x ∷ xs) zero h k = (and_parts (p x) (list_all p xs) h).0
  all_at p (x ∷ xs) (suc n) h k = all_at p xs n (and_parts (p x) (list_all p xs) h).1 (omega arith)

  letters_capital : (k : Keyword) → list_all is_capital (letters k) ≡ true
  letters_capital keywords.Polygon = refl
  letters_capital keywords.MultiPolygon = refl
  letters_capital keywords.GeometryCollection = refl
  letters_capital keywords.Empty = refl
  letters_capital keywords.M = refl
  letters_capital keywords.Zm = refl

  -- the next letter of a word is taken
  types : (k : Keyword) (b n : ℕ) → n < length (letters k) → to_ascii_uppercase b ≡ get_or (letters k) n 0 → (is_letter b ≡ true) × (letter_on k n b ≡ Some (n + 1))
  types k b n h e = (
    ap is_capital e ∙ all_at is_capital (letters k) n (letters_capital k) h,
    rw (lt-ltb n (length (letters k)) h, eq-eqb (to_ascii_uppercase b) (get_or (letters k) n 0) e) refl,
  )

  -- what is left of a list begins with its entry at n
  at_entry : (xs : List ℕ) (n c : ℕ) (cs : List ℕ) → c ∷ cs ≡ take (suc (length cs)) (drop n xs) → (n < length xs) × (c ≡ get_or xs n 0) × (cs ≡ take (length cs) (drop (n + 1) xs))
  at_entry xs n c cs e =
      let size : suc (length cs) ≡ min (suc (length cs)) (length (drop n xs)) = ap length e ∙ length-take (suc (length cs)) (drop n xs) in
      let h : n < length xs = omega (arith, length-drop n xs) in
      let parts : c ∷ cs ≡ get_or xs n 0 ∷ take (length cs) (drop (suc n) xs) = e ∙ ap (take (suc (length cs))) (drop-cons xs n 0 h) in
      (h, cc, rw add-one (cc))

  -- further letters of a word
  pub typing : (typed rest : List ℕ) (k : Keyword) (n at a : ℕ) (s : ParserState) → map to_ascii_uppercase typed ≡ take (length typed) (drop n (letters k))
      → read_bytes a (lexemes.Word at k n) s (typed ++ rest) ≡ read_bytes (a + length typed) (lexemes.Word at k (n + length typed)) s rest
  typing [] rest k n at a s e = ap₂ (λ i j. read_bytes i (lexemes.Word at k j) s rest) (omega arith) (omega arith)
  typing (b ∷ typed) rest k n at a s e =
      let size : length (map to_ascii_uppercase typed) ≡ length typed = length-map typed to_ascii_uppercase in
      let whole : to_ascii_uppercase b ∷ map to_ascii_uppercase typed ≡ take (suc (length (map to_ascii_uppercase typed))) (drop n (letters k)) = e ∙ ap (λ m. take (suc m) (drop n (letters k))) (sym size) in
      let next = at_entry (letters k) n (to_ascii_uppercase b) (map to_ascii_uppercase typed) whole in
      let typed_one = types k b n next.0 next.1 in
      let others : map to_ascii_uppercase typed ≡ take (length typed) (drop (n + 1) (letters k)) = next.2 ∙ ap (λ m. take m (drop (n + 1) (letters k))) size in
      rw (typed_one.0, typed_one.1)
      (typing typed rest k (n + 1) at (a + 1) s others
      ∙ ap₂ (λ i j. read_bytes i (lexemes.Word at k j) s rest) (omega arith) (omega arith))

  -- the first letter of a word
  pub word_begins : (k : Keyword) (b : ℕ) (bytes : List ℕ) (a : ℕ) (s : ParserState) → is_letter b ≡ true → keyword_at s.place (to_ascii_uppercase b) ≡ Some k → read_bytes a lexemes.Blank s (b ∷ bytes) ≡ read_bytes (a + 1) (lexemes.Word a k 1) s bytes
  word_begins k b bytes a s e h = rw (letter_no_white b e, e, h) refl

  -- ---- numbers

  -- a number with more of its bytes
  abbrev pub through : Number → List ℕ → Option Number
  through n [] = Some n
  through n (b ∷ bytes) = option_and_then (λ m. through m bytes) (number_on precision.cap n b)

  pub one_of_two : (d p : Bool) (x y m : Number) → cond d (Some x) (cond p (Some y) None) ≡ Some m → (d ≡ true) ⊎ (p ≡ true)
  one_of_two true p x y m e = inl refl
  one_of_two false true x y m e = inr refl
  one_of_two false false x y m e = absurd (none_some m e)

  number_on-byte : (n m : Number) (b : ℕ) → number_on precision.cap n b ≡ Some m → is_number_byte b ≡ true
  number_on-byte n m b e =
      ⊎_elim (λ d. digit_is_number b d)
      (λ p. let dot : b ≡ 46 = eqb-true b 46 (and_parts (eqb b 46) (not n.point) p).0 in ap is_number_byte dot)
      (one_of_two (is_digit b) (eqb b 46 && not n.point) (with_digit precision.cap n b) (record n { point = true }) m e)

  pub read_number : (bytes rest : List ℕ) (n m : Number) (a : ℕ) (s : ParserState) → through n bytes ≡ Some m → read_bytes a (lexemes.Number n) s (bytes ++ rest) ≡ read_bytes (a + length bytes) (lexemes.Number m) s rest
  read_number [] rest n m a s e = let same : n ≡ m = cc in ap₂ (λ i j. read_bytes i (lexemes.Number j) s rest) (omega arith) same
  read_number (b ∷ bytes) rest n m a s e =
      let first = opened (number_on precision.cap n b) (λ x. through x bytes) m e in
      rw (number_on-byte n first.0 b first.1, first.1) (read_number bytes rest first.0 m (a + 1) s first.2 ∙ ap (λ i. read_bytes i (lexemes.Number m) s rest) (omega arith))

  number_begins : (n : Number) (b : ℕ) (bytes : List ℕ) (a : ℕ) (s : ParserState) → is_number_byte b ≡ true → takes_number s.place ≡ true → number_begun precision a b ≡ Some n → read_bytes a lexemes.Blank s (b ∷ bytes) ≡ read_bytes (a + 1) (lexemes.Number n) s bytes
  number_begins n b bytes a s e t h = rw (number_no_white b e, number_no_letter b e, e, t, h) refl

  abbrev pub num : ℕ → Bool → Bool → Bool → Fraction → ℕ → Number
  num at negative some_digit point fraction size = record { at = at; negative = negative; some_digit = some_digit; point = point; fraction = fraction; size = size }

  -- the fraction and the size that are kept of digits before and behind the point
  abbrev pub kept_fraction : List ℕ → Fraction
  kept_fraction fraction = fraction_from (no_fraction precision.scale) fraction

  abbrev pub kept_size : List ℕ → List ℕ → ℕ
  kept_size whole fraction = size_from precision.cap (no_fraction precision.scale) (capped precision.cap (number_from 0 whole)) fraction

  abbrev pub has_digit : List ℕ → Bool
  has_digit [] = false
  has_digit (d ∷ ds) = true

  through_more : (o : Option Number) (xs ys : List ℕ) → ((m : Number) → through m (xs ++ ys) ≡ option_and_then (λ w. through w ys) (through m xs)) → option_and_then (λ m. through m (xs ++ ys)) o ≡ option_and_then (λ w. through w ys) (option_and_then (λ m. through m xs) o)
  through_more None xs ys h = refl
  through_more (Some m) xs ys h = h m

  through-append : (n : Number) (xs ys : List ℕ) → through n (xs ++ ys) ≡ option_and_then (λ m. through m ys) (through n xs)
  through-append n [] ys = refl
  through-append n (x ∷ xs) ys = through_more (number_on precision.cap n x) xs ys (λ m. through-append m xs ys)

  -- digits before the point
  whole_on : (ds : List ℕ) (a : ℕ) (negative some_digit : Bool) (f : Fraction) (size : ℕ) → AreDigits ds → size ≤ precision.cap → through (num a negative some_digit false f size) ds ≡ Some (num a negative (some_digit || has_digit ds) false f (capped precision.cap (number_from size ds)))
  whole_on [] a negative some_digit f size h k = ap₂ (λ (d : Bool) (z : ℕ). Some (num a negative d false f z)) (sym (or-false some_digit)) (sym (capped-small precision.cap size k))
  whole_on (d ∷ ds) a negative some_digit f size h k =
      let next = capped precision.cap (10 * size + (d - 48)) in
      rw h.0 (whole_on ds a negative true f next h.1 (omega arith)
      ∙ ap₂ (λ (x : Bool) (z : ℕ). Some (num a negative x false f z)) (sym (or-true some_digit)) (capped-from precision.cap ds next (10 * size + (d - 48)) (capped-capped precision.cap (10 * size + (d - 48)))))

  -- digits behind the point
  behind_on : (ds : List ℕ) (a : ℕ) (negative some_digit : Bool) (f : Fraction) (size : ℕ) → AreDigits ds → through (num a negative some_digit true f size) ds ≡ Some (num a negative (some_digit || has_digit ds) true (fraction_from f ds) (size_from precision.cap f size ds))
  behind_on [] a negative some_digit f size h = ap (λ (d : Bool). Some (num a negative d true f size)) (sym (or-false some_digit))
  behind_on (d ∷ ds) a negative some_digit f size h =
      let g = fraction_on f d in
      let z = size_on precision.cap f size d in
      rw h.0 (behind_on ds a negative true g z h.1 ∙ ap (λ (x : Bool). Some (num a negative x true (fraction_from g ds) (size_from precision.cap g z ds))) (sym (or-true some_digit)))

  has_digit-true : (ds : List ℕ) → 0 < length ds → has_digit ds ≡ true
  has_digit-true [] h = absurd (omega arith)
  has_digit-true (d ∷ ds) h = refl

  some_of_two : (xs ys : List ℕ) → 0 < length xs + length ys → (has_digit xs || has_digit ys) ≡ true
  some_of_two [] ys h = has_digit-true ys (omega (arith, h))
  some_of_two (x ∷ xs) ys h = refl

  through_whole : (whole rest : List ℕ) (a : ℕ) (negative : Bool) → AreDigits whole → through (no_number precision.scale a negative) (whole ++ rest) ≡ through (num a negative (has_digit whole) false (no_fraction precision.scale) (capped precision.cap (number_from 0 whole))) rest
  through_whole whole rest a negative h =
      through-append (no_number precision.scale a negative) whole rest ∙ ap (option_and_then (λ m. through m rest)) (whole_on whole a negative false (no_fraction precision.scale) 0 h (omega arith))

  -- the number behind a sign
  pub unsigned_on : (whole point fraction : List ℕ) (a : ℕ) (negative : Bool) → AreDigits whole → AreDigits fraction → IsPoint point fraction → 0 < length whole + length fraction
      → (p : Bool) × (through (no_number precision.scale a negative) (whole ++ (point ++ fraction)) ≡ Some (num a negative true p (kept_fraction fraction) (kept_size whole fraction)))
  unsigned_on whole point fraction a negative hw hf (inl (no_point, none_behind)) some =
      let digits : has_digit whole ≡ true = has_digit-true whole (omega (arith, some, ap length none_behind)) in (
        false,
        ap (through (no_number precision.scale a negative)) (ap₂ (λ (xs ys : List ℕ). whole ++ (xs ++ ys)) no_point none_behind)
            ∙ through_whole whole [] a negative hw
            ∙ ap₂ (λ (d : Bool) (xs : List ℕ). Some (num a negative d false (kept_fraction xs) (kept_size whole xs))) digits (sym none_behind),
      )
  unsigned_on whole point fraction a negative hw hf (inr dot) some = (
    true,
    ap (λ xs. through (no_number precision.scale a negative) (whole ++ (xs ++ fraction))) dot
        ∙ through_whole whole (46 ∷ fraction) a negative hw
        ∙ behind_on fraction a negative (has_digit whole) (no_fraction precision.scale) (capped precision.cap (number_from 0 whole)) hf
        ∙ ap (λ (d : Bool). Some (num a negative d true (kept_fraction fraction) (kept_size whole fraction))) (some_of_two whole fraction some),
  )

  -- the bytes are read as the number
  abbrev pub ReadsNumber : ℕ → List ℕ → Number → Type 0
  ReadsNumber a spelling n = (rest : List ℕ) (s : ParserState) → takes_number s.place ≡ true → read_bytes a lexemes.Blank s (spelling ++ rest) ≡ read_bytes (a + length spelling) (lexemes.Number n) s rest

  unsigned_first : (n m : Number) (b : ℕ) → number_on precision.cap n b ≡ Some m → (eqb b 45 ≡ false) × (eqb b 43 ≡ false)
  unsigned_first n m b e =
      ⊎_elim (λ d. digit_no_sign b d)
      (λ p. let dot : b ≡ 46 = eqb-true b 46 (and_parts (eqb b 46) (not n.point) p).0 in (ap (λ c. eqb c 45) dot, ap (λ c. eqb c 43) dot))
      (one_of_two (is_digit b) (eqb b 46 && not n.point) (with_digit precision.cap n b) (record n { point = true }) m e)

  signed_read : (mark : ℕ) (tail : List ℕ) (a : ℕ) (negative : Bool) (n : Number) → is_number_byte mark ≡ true → number_begun precision a mark ≡ Some (no_number precision.scale a negative) → through (no_number precision.scale a negative) tail ≡ Some n → ReadsNumber a (mark ∷ tail) n
  signed_read mark tail a negative n h begun e rest s t =
      number_begins (no_number precision.scale a negative) mark (tail ++ rest) a s h t begun
      ∙ read_number tail rest (no_number precision.scale a negative) n (a + 1) s e
      ∙ ap (λ i. read_bytes i (lexemes.Number n) s rest) (omega arith)

  unsigned_read : (tail : List ℕ) (a : ℕ) (n : Number) → 0 < length tail → through (no_number precision.scale a false) tail ≡ Some n → ReadsNumber a tail n
  unsigned_read [] a n some e rest s t = absurd (omega arith)
  unsigned_read (b ∷ tail) a n some e rest s t =
      let first = opened (number_on precision.cap (no_number precision.scale a false) b) (λ x. through x tail) n e in
      let unsigned = unsigned_first (no_number precision.scale a false) first.0 b first.1 in
      let begun : number_begun precision a b ≡ Some first.0 = rw (unsigned.0, unsigned.1) first.1 in
      number_begins first.0 b (tail ++ rest) a s (number_on-byte (no_number precision.scale a false) first.0 b first.1) t begun
      ∙ read_number tail rest first.0 n (a + 1) s first.2
      ∙ ap (λ i. read_bytes i (lexemes.Number n) s rest) (omega arith)

  numeral_read : (sign tail : List ℕ) (a : ℕ) (negative : Bool) (n : Number) → IsSign sign negative → 0 < length tail → through (no_number precision.scale a negative) tail ≡ Some n → ReadsNumber a (sign ++ tail) n
  numeral_read sign tail a true n h some e = subst (λ (xs : List ℕ). ReadsNumber a (xs ++ tail) n) (sym h) (signed_read 45 tail a true n refl refl e)
  numeral_read sign tail a false n (inl h) some e = subst (λ (xs : List ℕ). ReadsNumber a (xs ++ tail) n) (sym h) (signed_read 43 tail a false n refl refl e)
  numeral_read sign tail a false n (inr h) some e = subst (λ (xs : List ℕ). ReadsNumber a (xs ++ tail) n) (sym h) (unsigned_read tail a n some e)

  -- a numeral is read as the number that the machine sees of it
  pub numeral_is_read : (spelling : List ℕ) (n : Numeral) (a : ℕ) → IsNumeral spelling n
      → (p : Bool) × ReadsNumber a spelling (num a n.negative true p (kept_fraction n.fraction) (kept_size n.whole n.fraction))
  numeral_is_read spelling n a h =
      let read = unsigned_on n.whole h.point n.fraction a n.negative h.whole h.fraction h.is_point h.some_digit in
      let number = num a n.negative true read.0 (kept_fraction n.fraction) (kept_size n.whole n.fraction) in
      let tail = n.whole ++ (h.point ++ n.fraction) in
      let some : 0 < length tail = omega (arith, length-append n.whole (h.point ++ n.fraction), length-append h.point n.fraction, h.some_digit) in
      (read.0, subst (λ (xs : List ℕ). ReadsNumber a xs number) (sym h.spelling) (numeral_read h.sign tail a n.negative number h.is_sign some read.1))
