-- The bytes that some file begins with are those that are taken.
use Rattle.std.proofs.Common.{◌≡◌, ℕ, suc, ◌+◌, ◌<◌, ◌≤◌, ◌&&◌, eqb, ltb, List, [], ◌∷◌, ◌++◌, length, Option, Some, None, option_and_then, option_map, sym, refl, ap, ◌∙◌, subst, arith, get_or, ltb-true, lit≤}
use Rattle.std.proofs.lemmas.Option.{cond_some}
use Rattle.std.specs.Char.{to_ascii_uppercase}
use Rattle.std.proofs.lemmas.Bool.{and_parts, cond_both}
use Rattle.geo_text.specs.Token.{is_white, Spells}
use Rattle.geo_text.specs.Grammar.{Geometry, file, IsFile}
use Rattle.geo_text.specs.Fault.{BeginsFile}
use Rattle.geo_text.specs.Machine.{ParserState, start, step, letters, letter_on, keyword_at, takes_number, is_number_byte, is_letter, goes_on, typed_on, ending, beginning, read_byte, Opening, Closing, Separator}
use Rattle.geo_text.specs.Number.{Precision, number_on, number_begun}
use Rattle.geo_text.specs.declared.keyword.Keyword.{Keyword}
use Rattle.geo_text.specs.declared.keyword.Keyword.TheVariants as keywords
use Rattle.geo_text.specs.declared.lexeme.Lexeme.{Lexeme}
use Rattle.geo_text.specs.declared.lexeme.Lexeme.TheVariants as lexemes
use Rattle.geo_text.specs.declared.place.Place.TheVariants.{Outside}
use Rattle.geo_text.proofs.Options.{none_some, some_equal, opened, mapped}
use Rattle.geo_text.proofs.Parsing.{run-file, end_of}
use Rattle.geo_text.proofs.Rests.{file-run}
use Rattle.geo_text.proofs.Typing.{read_bytes}
use Rattle.geo_text.proofs.Spelled.{read_bytes-spelled}
use Rattle.geo_text.proofs.Lexed.{spelled-read_bytes}
use Rattle.geo_text.proofs.Closing.{Fits, lives}

module _ (precision : Precision) where
  -- ---- a file, by the machine

  pub read_bytes-file : (bytes : List ℕ) (gs : List Geometry) → IsFile bytes gs → read_bytes precision 0 lexemes.Blank start bytes ≡ Some (end_of precision gs)
  read_bytes-file bytes gs h = read_bytes-spelled precision (file gs) 0 lexemes.Blank start start (end_of precision gs) None bytes tt refl h (run-file precision gs)

  pub file-read_bytes : (bytes : List ℕ) (f : ParserState) → read_bytes precision 0 lexemes.Blank start bytes ≡ Some f → f.place ≡ Outside → (gs : List Geometry) × IsFile bytes gs
  file-read_bytes bytes f e h =
      let spelled = spelled-read_bytes precision bytes start f e in
      let read = file-run precision spelled.0 f spelled.2 h in
      (read.0, subst (λ tokens. Spells 0 None tokens bytes) read.1 spelled.1)

  -- ---- the lexeme and the parser behind bytes

  abbrev pub alive : ℕ → Lexeme → ParserState → List ℕ → Option (Lexeme × ParserState)
  alive a l s [] = Some (l, s)
  alive a l s (b ∷ bytes) = option_and_then (λ (p : Lexeme × ParserState). alive (a + 1) p.0 p.1 bytes) (read_byte precision a l s b)

  step_on : {A B : Type 0} (o : Option A) (f g : A → Option B) → ((x : A) → f x ≡ g x) → option_and_then f o ≡ option_and_then g o
  step_on None f g h = refl
  step_on (Some x) f g h = h x

  and_then-twice : {A B C : Type 0} (o : Option A) (f : A → Option B) (g : B → Option C) → option_and_then (λ x. option_and_then g (f x)) o ≡ option_and_then g (option_and_then f o)
  and_then-twice None f g = refl
  and_then-twice (Some x) f g = refl

  pub read_bytes-append : (xs ys : List ℕ) (a : ℕ) (l : Lexeme) (s : ParserState) → read_bytes precision a l s (xs ++ ys) ≡ option_and_then (λ (p : Lexeme × ParserState). read_bytes precision (a + length xs) p.0 p.1 ys) (alive a l s xs)
  read_bytes-append [] ys a l s = ap (λ i. read_bytes precision i l s ys) (omega arith)
  read_bytes-append (x ∷ xs) ys a l s =
      let place : a + 1 + length xs ≡ a + suc (length xs) = omega arith in
      step_on (read_byte precision a l s x) (λ (p : Lexeme × ParserState). read_bytes precision (a + 1) p.0 p.1 (xs ++ ys)) (λ (p : Lexeme × ParserState). option_and_then (λ (q : Lexeme × ParserState). read_bytes precision (a + suc (length xs)) q.0 q.1 ys) (alive (a + 1) p.0 p.1 xs))
      (λ p. read_bytes-append xs ys (a + 1) p.0 p.1 ∙ ap (λ i. option_and_then (λ (q : Lexeme × ParserState). read_bytes precision i q.0 q.1 ys) (alive (a + 1) p.0 p.1 xs)) place)
      ∙ and_then-twice (read_byte precision a l s x) (λ (p : Lexeme × ParserState). alive (a + 1) p.0 p.1 xs) (λ (q : Lexeme × ParserState). read_bytes precision (a + suc (length xs)) q.0 q.1 ys)

  pub alive-append : (xs ys : List ℕ) (a : ℕ) (l : Lexeme) (s : ParserState) → alive a l s (xs ++ ys) ≡ option_and_then (λ (p : Lexeme × ParserState). alive (a + length xs) p.0 p.1 ys) (alive a l s xs)
  alive-append [] ys a l s = ap (λ i. alive i l s ys) (omega arith)
  alive-append (x ∷ xs) ys a l s =
      let place : a + 1 + length xs ≡ a + suc (length xs) = omega arith in
      step_on (read_byte precision a l s x) (λ (p : Lexeme × ParserState). alive (a + 1) p.0 p.1 (xs ++ ys)) (λ (p : Lexeme × ParserState). option_and_then (λ (q : Lexeme × ParserState). alive (a + suc (length xs)) q.0 q.1 ys) (alive (a + 1) p.0 p.1 xs))
      (λ p. alive-append xs ys (a + 1) p.0 p.1 ∙ ap (λ i. option_and_then (λ (q : Lexeme × ParserState). alive i q.0 q.1 ys) (alive (a + 1) p.0 p.1 xs)) place)
      ∙ and_then-twice (read_byte precision a l s x) (λ (p : Lexeme × ParserState). alive (a + 1) p.0 p.1 xs) (λ (q : Lexeme × ParserState). alive (a + suc (length xs)) q.0 q.1 ys)

  -- ---- what is being typed stays where it may stand

  some_letters : (k : Keyword) → 1 ≤ length (letters k)
  some_letters keywords.Polygon = lit≤ tt
  some_letters keywords.MultiPolygon = lit≤ tt
  some_letters keywords.GeometryCollection = lit≤ tt
  some_letters keywords.Empty = lit≤ tt
  some_letters keywords.M = lit≤ tt
  some_letters keywords.Zm = lit≤ tt

  abbrev FitsPair : Lexeme × ParserState → Type 0
  FitsPair p = Fits precision p.0 p.1

  fits_on : (l more : Lexeme) (s : ParserState) (b : ℕ) → Fits precision l s → typed_on precision.cap l b ≡ Some more → Fits precision more s
  fits_on lexemes.Blank more s b h e = absurd (none_some more e)
  fits_on (lexemes.Word i k n) more s b (letter, at, few) e =
      let typed = mapped (letter_on k n b) (λ j. lexemes.Word i k j) more e in
      let next = cond_some (ltb n (length (letters k)) && eqb (to_ascii_uppercase b) (get_or (letters k) n 0)) (n + 1) typed.0 typed.1 in
      let below : n < length (letters k) = ltb-true n (length (letters k)) (and_parts (ltb n (length (letters k))) (eqb (to_ascii_uppercase b) (get_or (letters k) n 0)) next.0).0 in
      let far : typed.0 ≤ length (letters k) = omega (arith, next.1) in
      subst (λ (x : Lexeme). Fits precision x s) typed.2 (letter, at, far)
  fits_on (lexemes.Number n) more s b h e =
      let typed = mapped (number_on precision.cap n b) (λ m. lexemes.Number m) more e in
      subst (λ (x : Lexeme). Fits precision x s) typed.2 h

  fits_begun : (a : ℕ) (s : ParserState) (b : ℕ) (p : Lexeme × ParserState) → beginning precision a s b ≡ Some p → FitsPair p
  fits_begun a s b =
      let P : Option (Lexeme × ParserState) → Type 0 = λ o. (p : Lexeme × ParserState) → o ≡ Some p → FitsPair p in
      let mark : (o : Option ParserState) → P (option_map (λ after. (lexemes.Blank, after)) o) = λ o p e. let h = mapped o (λ (after : ParserState). (lexemes.Blank, after)) p e in subst FitsPair h.2 tt in
      cond_both (is_white b) _ _ P (λ w p e. subst FitsPair (some_equal (lexemes.Blank, s) p e) tt) (λ _.
      cond_both (is_letter b) _ _ P (λ w p e.
      let h = mapped (keyword_at s.place (to_ascii_uppercase b)) (λ k. (lexemes.Word a k 1, s)) p e in
      subst FitsPair h.2 (to_ascii_uppercase b, h.1, some_letters h.0)) (λ _.
      cond_both (is_number_byte b) _ _ P (λ w.
      cond_both (takes_number s.place) _ _ P (λ t p e. let h = mapped (number_begun precision a b) (λ n. (lexemes.Number n, s)) p e in subst FitsPair h.2 t) (λ t p e. absurd (none_some p e))) (λ _.
      cond_both (eqb b 40) _ _ P (λ w. mark (step s Opening)) (λ _.
      cond_both (eqb b 41) _ _ P (λ w. mark (step s Closing)) (λ _.
      cond_both (eqb b 44) _ _ P (λ w. mark (step s Separator)) (λ _.
      λ p e. absurd (none_some p e)))))))

  fits_byte : (a : ℕ) (l : Lexeme) (s : ParserState) (b : ℕ) (p : Lexeme × ParserState) → Fits precision l s → read_byte precision a l s b ≡ Some p → FitsPair p
  fits_byte a l s b p h =
      cond_both (goes_on l b) _ _ (λ o. o ≡ Some p → FitsPair p)
      (λ g e. let typed = mapped (typed_on precision.cap l b) (λ (more : Lexeme). (more, s)) p e in subst FitsPair typed.2 (fits_on l typed.0 s b h typed.1))
      (λ g e. let last = opened (ending precision.cap l s) (λ after. beginning precision a after b) p e in fits_begun a last.0 b p last.2)

  fits_alive : (bytes : List ℕ) (a : ℕ) (l : Lexeme) (s : ParserState) (p : Lexeme × ParserState) → Fits precision l s → alive a l s bytes ≡ Some p → FitsPair p
  fits_alive [] a l s p h e = subst FitsPair (some_equal (l, s) p e) h
  fits_alive (b ∷ bytes) a l s p h e =
      let next = opened (read_byte precision a l s b) (λ (q : Lexeme × ParserState). alive (a + 1) q.0 q.1 bytes) p e in
      fits_alive bytes (a + 1) next.0.0 next.0.1 p (fits_byte a l s b next.0 h next.1) next.2

  -- ---- what is taken begins a file, and what begins a file is taken

  pub BeginsFile-alive : (bytes : List ℕ) (p : Lexeme × ParserState) → alive 0 lexemes.Blank start bytes ≡ Some p → BeginsFile bytes
  BeginsFile-alive bytes p e =
      let life = lives precision (length bytes) p.0 p.1 (fits_alive bytes 0 lexemes.Blank start p tt e) in
      let read : read_bytes precision 0 lexemes.Blank start (bytes ++ life.0) ≡ Some life.1
      = read_bytes-append bytes life.0 0 lexemes.Blank start ∙ ap (option_and_then (λ (q : Lexeme × ParserState). read_bytes precision (0 + length bytes) q.0 q.1 life.0)) e ∙ ap (λ i. read_bytes precision i p.0 p.1 life.0) (omega arith) ∙ life.2 in
      let whole = file-read_bytes (bytes ++ life.0) life.1 read life.3 in
      (life.0, whole.0, whole.1)

  pub alive-BeginsFile : (bytes : List ℕ) → BeginsFile bytes → (p : Lexeme × ParserState) × (alive 0 lexemes.Blank start bytes ≡ Some p)
  alive-BeginsFile bytes (more, gs, is_file) =
      let read = opened (alive 0 lexemes.Blank start bytes) (λ (q : Lexeme × ParserState). read_bytes precision (0 + length bytes) q.0 q.1 more) (end_of precision gs) (sym (read_bytes-append bytes more 0 lexemes.Blank start) ∙ read_bytes-file (bytes ++ more) gs is_file) in
      (read.0, read.1)
