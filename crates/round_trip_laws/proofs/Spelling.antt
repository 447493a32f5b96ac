-- Bytes that spell tokens, piece by piece.
use Rattle.std.proofs.Common.{◌≡◌, ℕ, ◌+◌, ◌<◌, Bool, true, false, ◌&&◌, ◌||◌, List, [], ◌∷◌, ◌++◌, length, flat_map, Option, Some, None, sym, refl, ap, ap₂, ◌∙◌, subst, arith, append_assoc, length-append, add-zero, codes}
use Rattle.std.specs.List.{AllByRecursion}
use Rattle.std.specs.Prelude.{IsTrue}
use Rattle.std.proofs.lemmas.Bool.{false≢true}
use Rattle.geo_text.specs.Token.{Token, Open, Close, Comma, is_white, IsWhite, IsSpelled, is_word, is_number, is_alike, Spells}
use Rattle.geo_text.specs.Grammar.{bracketed}
use Rattle.cov_write.specs.Written.{separated, in_parentheses}
use Rattle.round_trip_laws.proofs.Lists.{all_append}

-- behind `at` bytes and the token before, the bytes spell the tokens and leave `last` before what follows
pub record Writes (at : ℕ) (previous : Option Token) (tokens : List Token) (bytes : List ℕ) (last : Option Token) : Type 0 where
  pub follows : (more : List Token) (rest : List ℕ) → Spells (at + length bytes) last more rest → Spells at previous (tokens ++ more) (bytes ++ rest)

-- the same, whatever is left before what follows
pub record Written (at : ℕ) (previous : Option Token) (tokens : List Token) (bytes : List ℕ) : Type 0 where
  pub last : Option Token
  pub writes : Writes at previous tokens bytes last

-- behind it any token may stand without white space
abbrev pub IsFree : Option Token → Type 0
IsFree previous = (token : Token) → is_alike previous token ≡ false

pub joined : (at next : ℕ) (p q r : Option Token) (ts us : List Token) (bs cs : List ℕ) → next ≡ at + length bs → Writes at p ts bs q → Writes next q us cs r → Writes at p (ts ++ us) (bs ++ cs) r
joined at next p q r ts us bs cs place v w = record {
  follows = λ more rest h.
      let there : at + length (bs ++ cs) ≡ next + length cs = omega (arith, length-append bs cs) in
      let second : Spells next q (us ++ more) (cs ++ rest) = w.follows more rest (subst (λ (i : ℕ). Spells i r more rest) there h) in
      let first : Spells at p (ts ++ (us ++ more)) (bs ++ (cs ++ rest)) = v.follows (us ++ more) (cs ++ rest) (subst (λ (i : ℕ). Spells i q (us ++ more) (cs ++ rest)) place second) in
      subst (λ (xs : List Token). Spells at p xs ((bs ++ cs) ++ rest)) (sym (append_assoc ts us more)) (subst (λ (xs : List ℕ). Spells at p (ts ++ (us ++ more)) xs) (sym (append_assoc bs cs rest)) first);
}

white_before : (at : ℕ) (p : Option Token) (white : List ℕ) → IsWhite white → 0 < length white → (tokens : List Token) (bytes : List ℕ) → Spells (at + length white) None tokens bytes → Spells at p tokens (white ++ bytes)
white_before at p white w some [] bytes h = all_append (λ b. IsTrue (is_white b)) white bytes w h
white_before at p white w some (token ∷ tokens) bytes (inner, spelling, rest, each_white, apart, spelled, same, more) =
    let place : at + length white + length inner ≡ at + length (white ++ inner) = omega (arith, length-append white inner) in
    let longer : 0 < length (white ++ inner) = omega (arith, length-append white inner) in (
      white ++ inner,
      spelling,
      rest,
      all_append (λ b. IsTrue (is_white b)) white inner w each_white,
      (λ e. longer),
      subst (λ (i : ℕ). IsSpelled i token spelling) place spelled,
      ap (λ xs. white ++ xs) same ∙ sym (append_assoc white inner (spelling ++ rest)),
      subst (λ (i : ℕ). Spells (i + length spelling) (Some token) tokens rest) place more,
    )

-- behind white space any token may stand
pub white_written : (at : ℕ) (p : Option Token) (white : List ℕ) → IsWhite white → 0 < length white → Writes at p [] white None
white_written at p white w some = record { follows = λ more rest h. white_before at p white w some more rest h }

pub token_written : (at : ℕ) (p : Option Token) (token : Token) (bytes : List ℕ) → is_alike p token ≡ false → IsSpelled at token bytes → Writes at p (token ∷ []) bytes (Some token)
token_written at p token bytes apart spelled = record {
  follows = λ more rest h.
      let place : at + length bytes ≡ at + 0 + length bytes = omega arith in
      ([], bytes, rest, tt, (λ e. absurd (false≢true (sym apart ∙ e))), subst (λ (i : ℕ). IsSpelled i token bytes) (sym (add-zero at)) spelled, refl, subst (λ (i : ℕ). Spells i (Some token) more rest) place h);
}

no_and : (b : Bool) → (b && false) ≡ false
no_and true = refl
no_and false = refl

-- a bracket or a comma may stand behind any token
pub mark_apart : (p : Option Token) (token : Token) → is_word token ≡ false → is_number token ≡ false → is_alike p token ≡ false
mark_apart None token w n = refl
mark_apart (Some q) token w n = ap₂ (λ (x y : Bool). x || y) (ap (λ (x : Bool). is_word q && x) w ∙ no_and (is_word q)) (ap (λ (x : Bool). is_number q && x) n ∙ no_and (is_number q))

-- ---- lists

-- the entries behind the first, each behind a comma and a space, at their places
abbrev pub others : {X T : Type 0} → (X → List ℕ) → (ℕ → X → T) → ℕ → List X → List T
others text placed at [] = []
others text placed at (x ∷ xs) = placed (at + 2) x ∷ others text placed (at + 2 + length (text x)) xs

module _ {X T : Type 0} (text : X → List ℕ) (placed : ℕ → X → T) (tokens : T → List Token) (IsGood : X → Type 0) (each : (at : ℕ) (p : Option Token) (x : X) → IsFree p → IsGood x → Written at p (tokens (placed at x)) (text x)) where
  others_written : (xs : List X) (at : ℕ) (p : Option Token) → AllByRecursion IsGood xs → Written at p (flat_map (λ y. Comma ∷ tokens y) (others text placed at xs)) (flat_map (λ y. codes ", " ++ text y) xs)
  others_written [] at p h = record { last = p; writes = record { follows = λ more rest s. subst (λ (i : ℕ). Spells i p more rest) (add-zero at) s } }
  others_written (x ∷ xs) at p h =
      let item = each (at + 2) None x (λ token. refl) h.0 in
      let behind = others_written xs (at + 2 + length (text x)) item.last h.1 in
      let spaced = joined (at + 1) (at + 2) (Some Comma) None item.last [] (tokens (placed (at + 2) x)) (codes " ") (text x) (omega arith) (white_written (at + 1) (Some Comma) (codes " ") (refl, tt) (omega arith)) item.writes in
      let entry = joined at (at + 1) p (Some Comma) item.last (Comma ∷ []) (tokens (placed (at + 2) x)) (codes ",") (codes " " ++ text x) (omega arith) (token_written at p Comma (codes ",") (mark_apart p Comma refl refl) refl) spaced in
      record { last = behind.last; writes = joined at (at + 2 + length (text x)) p item.last behind.last (Comma ∷ tokens (placed (at + 2) x)) (flat_map (λ y. Comma ∷ tokens y) (others text placed (at + 2 + length (text x)) xs)) (codes ", " ++ text x) (flat_map (λ y. codes ", " ++ text y) xs) (omega arith) entry behind.writes }

  pub bracketed_written : (x : X) (xs : List X) (at : ℕ) (p : Option Token) → IsGood x → AllByRecursion IsGood xs → Writes at p (bracketed tokens (placed (at + 1) x) (others text placed (at + 1 + length (text x)) xs)) (in_parentheses (separated text (x ∷ xs))) (Some Close)
  bracketed_written x xs at p g h =
      let first = each (at + 1) (Some Open) x (λ token. refl) g in
      let behind = others_written xs (at + 1 + length (text x)) first.last h in
      let ts = flat_map (λ y. Comma ∷ tokens y) (others text placed (at + 1 + length (text x)) xs) in
      let bs = flat_map (λ y. codes ", " ++ text y) xs in
      let entries = joined (at + 1) (at + 1 + length (text x)) (Some Open) first.last behind.last (tokens (placed (at + 1) x)) ts (text x) bs refl first.writes behind.writes in
      let closing = token_written (at + 1 + length (text x ++ bs)) behind.last Close (codes ")") (mark_apart behind.last Close refl refl) refl in
      let closed = joined (at + 1) (at + 1 + length (text x ++ bs)) (Some Open) behind.last (Some Close) (tokens (placed (at + 1) x) ++ ts) (Close ∷ []) (text x ++ bs) (codes ")") refl entries closing in
      joined at (at + 1) p (Some Open) (Some Close) (Open ∷ []) ((tokens (placed (at + 1) x) ++ ts) ++ Close ∷ []) (codes "(") ((text x ++ bs) ++ codes ")") (omega arith) (token_written at p Open (codes "(") (mark_apart p Open refl refl) refl) closed
