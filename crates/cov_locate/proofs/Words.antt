-- The words of a line, one after the other.
use Rattle.std.proofs.Common.{◌≡◌, refl, sym, ◌∙◌, ap, subst, ℕ, suc, ◌+◌, Bool, true, false, not, cond, List, [], ◌∷◌, length, take, drop, arith, inl, inr}
use Rattle.std.specs.Prelude.{nat_lt, filter, if◌then◌else◌}
use Rattle.std.specs.List.{slice_split, onto_first, position_or_len}
use Rattle.std.proofs.lemmas.Bool.{cases_Bool, lt-ltb}
use Rattle.std.proofs.lemmas.List.Splits.{slice_split-cons_yes, slice_split-cons_no}
use Rattle.cov_locate.specs.Points.{words_of, line_of_words, two_numbers, number_of}
use Rattle.cov_locate.specs.Reading.{IsFirstWord}
use Rattle.cov_locate.specs.declared.line.Line.TheVariants.{Blank, Syntax}
use Rattle.geo_text.specs.Token.{is_white}

abbrev some : List ℕ → Bool
some word = nat_lt 0 (length word)

-- white space in front changes nothing
white_front : (b : ℕ) (bytes : List ℕ) → is_white b ≡ true → words_of (b ∷ bytes) ≡ words_of bytes
white_front b bytes white = ap (filter some) (slice_split-cons_yes is_white b bytes white)

-- ---- where the first one that passes is

at_front : {X : Type 0} (p : X → Bool) (x : X) (xs : List X) → p x ≡ true → position_or_len p (x ∷ xs) ≡ 0
at_front p x xs passes = ap (λ t. cond (not t) (1 + position_or_len p xs) 0) passes

past_front : {X : Type 0} (p : X → Bool) (x : X) (xs : List X) → p x ≡ false → position_or_len p (x ∷ xs) ≡ suc (position_or_len p xs)
past_front p x xs fails = ap (λ t. cond (not t) (1 + position_or_len p xs) 0) fails ∙ omega arith

-- ---- the first part

-- the parts behind the first
pub record HasParts (bytes : List ℕ) : Type 0 where
  pub others : List (List ℕ)
  pub parts : slice_split is_white bytes ≡ take (position_or_len is_white bytes) bytes ∷ others
  pub words : filter some others ≡ words_of (drop (position_or_len is_white bytes) bytes)

parts_after : (b : ℕ) (bytes : List ℕ) → is_white b ≡ false → HasParts bytes → HasParts (b ∷ bytes)
parts_after b bytes black h =
    let there = past_front is_white b bytes black in record {
      others = h.others;
      parts = slice_split-cons_no is_white b bytes black ∙ ap (onto_first b) h.parts ∙ ap (λ n. take n (b ∷ bytes) ∷ h.others) (sym there);
      words = h.words ∙ ap (λ n. words_of (drop n (b ∷ bytes))) (sym there);
    }

parts_at : (b : ℕ) (bytes : List ℕ) → is_white b ≡ true → HasParts (b ∷ bytes)
parts_at b bytes white =
    let here = at_front is_white b bytes white in record {
      others = slice_split is_white bytes;
      parts = slice_split-cons_yes is_white b bytes white ∙ ap (λ n. take n (b ∷ bytes) ∷ slice_split is_white bytes) (sym here);
      words = sym (white_front b bytes white) ∙ ap (λ n. words_of (drop n (b ∷ bytes))) (sym here);
    }

parts_of : (bytes : List ℕ) → HasParts bytes
parts_of [] = record { others = []; parts = refl; words = refl }
parts_of (b ∷ bytes) =
    elim (cases_Bool (is_white b)) [
      | inl white ↦ parts_at b bytes white
      | inr black ↦ parts_after b bytes black (parts_of bytes)
    ]

-- ---- the first word

abbrev is_black : ℕ → Bool
is_black b = not (is_white b)

-- the line behind white space in front
abbrev pub behind_white : List ℕ → List ℕ
behind_white line = drop (position_or_len is_black line) line

abbrev pub word_in : List ℕ → List ℕ
word_in bytes = take (position_or_len is_white bytes) bytes

abbrev pub behind_word : List ℕ → List ℕ
behind_word bytes = drop (position_or_len is_white bytes) bytes

black_word : (b : ℕ) (bytes : List ℕ) → is_white b ≡ false → words_of (b ∷ bytes) ≡ (if some (word_in (b ∷ bytes)) then word_in (b ∷ bytes) ∷ words_of (behind_word (b ∷ bytes)) else [])
black_word b bytes black =
    let h = parts_of (b ∷ bytes) in
    let there = past_front is_white b bytes black in
    let more : some (word_in (b ∷ bytes)) ≡ true = ap (λ n. some (take n (b ∷ bytes))) there ∙ longer (take (position_or_len is_white bytes) bytes) in
    ap (filter some) h.parts
    ∙ ap (λ t. cond t (word_in (b ∷ bytes) ∷ filter some h.others) (filter some h.others)) more
    ∙ ap (λ ws. word_in (b ∷ bytes) ∷ ws) h.words
    ∙ sym (ap (λ t. cond t (word_in (b ∷ bytes) ∷ words_of (behind_word (b ∷ bytes))) []) more)
  where
    longer : (bs : List ℕ) → some (b ∷ bs) ≡ true
    longer bs = lt-ltb 0 (length (b ∷ bs)) (omega arith)

pub first_word : (line : List ℕ) → IsFirstWord line (word_in (behind_white line)) (behind_word (behind_white line))
first_word [] = refl
first_word (b ∷ bytes) =
    elim (cases_Bool (is_white b)) [
      | inl white ↦
          let there : position_or_len is_black (b ∷ bytes) ≡ suc (position_or_len is_black bytes) = past_front is_black b bytes (ap not white) in
          subst (λ (n : ℕ). IsFirstWord (b ∷ bytes) (word_in (drop n (b ∷ bytes))) (behind_word (drop n (b ∷ bytes)))) (sym there) (white_front b bytes white ∙ first_word bytes)
      | inr black ↦
          let here : position_or_len is_black (b ∷ bytes) ≡ 0 = at_front is_black b bytes (ap not black) in
          subst (λ (n : ℕ). IsFirstWord (b ∷ bytes) (word_in (drop n (b ∷ bytes))) (behind_word (drop n (b ∷ bytes)))) (sym here) (black_word b bytes black)
    ]

-- ---- what a line says, by its first words

one_more : (line word rest : List ℕ) → IsFirstWord line word rest → ¬ (length word ≡ 0) → words_of line ≡ word ∷ words_of rest
one_more line word rest first there = first ∙ ap (λ t. cond t (word ∷ words_of rest) []) (lt-ltb 0 (length word) (omega arith))

no_more : (line word rest : List ℕ) → IsFirstWord line word rest → length word ≡ 0 → words_of line ≡ []
no_more line word rest first none = first ∙ ap (λ n. cond (nat_lt 0 n) (word ∷ words_of rest) []) none

pub blank_line : (line x rest : List ℕ) → IsFirstWord line x rest → length x ≡ 0 → line_of_words (words_of line) ≡ Blank
blank_line line x rest first none = ap line_of_words (no_more line x rest first none)

pub one_word : (line x a y b : List ℕ) → IsFirstWord line x a → IsFirstWord a y b → ¬ (length x ≡ 0) → length y ≡ 0 → line_of_words (words_of line) ≡ Syntax
one_word line x a y b first second there none = ap line_of_words (one_more line x a first there ∙ ap (λ ws. x ∷ ws) (no_more a y b second none))

pub two_words : (line x a y b z c : List ℕ) → IsFirstWord line x a → IsFirstWord a y b → IsFirstWord b z c → ¬ (length x ≡ 0) → ¬ (length y ≡ 0) → length z ≡ 0
    → line_of_words (words_of line) ≡ two_numbers (number_of x) (number_of y)
two_words line x a y b z c first second third x_there y_there none =
    ap line_of_words (one_more line x a first x_there ∙ ap (λ ws. x ∷ ws) (one_more a y b second y_there ∙ ap (λ ws. y ∷ ws) (no_more b z c third none)))

pub three_words : (line x a y b z c : List ℕ) → IsFirstWord line x a → IsFirstWord a y b → IsFirstWord b z c → ¬ (length x ≡ 0) → ¬ (length y ≡ 0) → ¬ (length z ≡ 0)
    → line_of_words (words_of line) ≡ Syntax
three_words line x a y b z c first second third x_there y_there z_there =
    ap line_of_words (one_more line x a first x_there ∙ ap (λ ws. x ∷ ws) (one_more a y b second y_there ∙ ap (λ ws. y ∷ ws) (one_more b z c third z_there)))
