-- A line feed behind a text adds no token to it.
use Rattle.std.proofs.Common.{◌≡◌, ℕ, Bool, true, false, cond, ◌&&◌, List, [], ◌∷◌, ◌++◌, refl, sym, ap, ap₂, ◌∙◌, append_assoc}
use Rattle.json.specs.Token.{Token, begin_object, end_object, begin_array, end_array, key, string, number, boolean, null, bad}
use Rattle.json.specs.Word.{ends_word, word}
use Rattle.json.specs.Lex.{Lexeme, token, comma, colon, string_token, lex, between, fresh, punctuate, tokens}
use Rattle.json.specs.Print.{escape, quoted, token_text, begins, ends, separator, print_from, print, IsPrintable, ArePrintable}
use Rattle.json.proofs.Printed.Numbers.{lex-number, in_word-ended}
use Rattle.json.proofs.Printed.Strings.{content-escape, lex-escape}
use Rattle.json.proofs.Printed.Tokens.{tokens-print}

-- a word ends behind a value, with a line feed behind all and without one
value_ended : (ts : List Token) → (ends_word (print_from true ts) ≡ true) × (ends_word (print_from true ts ++ 10 ∷ []) ≡ true)
unfolding print_from
value_ended [] = (refl, refl)
value_ended (begin_object ∷ ts) = (refl, refl)
value_ended (end_object ∷ ts) = (refl, refl)
value_ended (begin_array ∷ ts) = (refl, refl)
value_ended (end_array ∷ ts) = (refl, refl)
value_ended (key s ∷ ts) = (refl, refl)
value_ended (string s ∷ ts) = (refl, refl)
value_ended (number s ∷ ts) = (refl, refl)
value_ended (boolean b ∷ ts) = (refl, refl)
value_ended (null ∷ ts) = (refl, refl)
value_ended (bad ∷ ts) = (refl, refl)

-- ---- lexemes

lex_quoted : (s r : List ℕ) → lex between (quoted s ++ r) ≡ token (string s) ∷ lex between r
unfolding lex
lex_quoted s r =
    ap (λ l. lex between (34 ∷ l)) (append_assoc (escape s) (34 ∷ []) r)
    ∙ ap₂ (λ o l. token (string_token o) ∷ l) (content-escape s r) (lex-escape s r)

-- the token has these lexemes, whatever follows its text
abbrev Lexed : Token → List Lexeme → Type 0
Lexed t ls = (r : List ℕ) → (ends t ≡ true → ends_word r ≡ true) → lex between (token_text t ++ r) ≡ ls ++ lex between r

lexed : (t : Token) → IsPrintable t → (ls : List Lexeme) × Lexed t ls
unfolding lex word
lexed begin_object h = (token begin_object ∷ [], λ r ended. refl)
lexed end_object h = (token end_object ∷ [], λ r ended. refl)
lexed begin_array h = (token begin_array ∷ [], λ r ended. refl)
lexed end_array h = (token end_array ∷ [], λ r ended. refl)
lexed (key s) h = (token (string s) ∷ colon ∷ [], λ r ended. ap (lex between) (append_assoc (quoted s) (58 ∷ []) r) ∙ lex_quoted s (58 ∷ r))
lexed (string s) h = (token (string s) ∷ [], λ r ended. lex_quoted s r)
lexed (number s) h = (token (number s) ∷ [], λ r ended. lex-number s r h (ended refl))
lexed (boolean true) h = (token (boolean true) ∷ [], λ r ended. ap₂ (λ b l. token (cond b (boolean true) bad) ∷ l) (ended refl) (in_word-ended r (ended refl)))
lexed (boolean false) h = (token (boolean false) ∷ [], λ r ended. ap₂ (λ b l. token (cond b (boolean false) bad) ∷ l) (ended refl) (in_word-ended r (ended refl)))
lexed null h = (token null ∷ [], λ r ended. ap₂ (λ b l. token (cond b null bad) ∷ l) (ended refl) (in_word-ended r (ended refl)))
lexed bad h = absurd h

behind_separator : (b : Bool) (q r : List ℕ) → lex between q ≡ lex between r → lex between (cond b (44 ∷ []) [] ++ q) ≡ lex between (cond b (44 ∷ []) [] ++ r)
unfolding lex
behind_separator true q r e = ap (λ l. comma ∷ l) e
behind_separator false q r e = e

-- ---- the line feed

no_lexeme : (after_value : Bool) (ts : List Token) → ArePrintable ts → lex between (print_from after_value ts ++ 10 ∷ []) ≡ lex between (print_from after_value ts)
unfolding lex print_from ArePrintable
no_lexeme after_value [] h = refl
no_lexeme after_value (t ∷ ts) h =
    let text = token_text t in
    let rest = print_from (ends t) ts in
    let its = lexed t h.0 in
    let same : lex between (text ++ (rest ++ 10 ∷ [])) ≡ lex between (text ++ rest) =
    its.1 (rest ++ 10 ∷ []) (λ e. ap (λ b. ends_word (print_from b ts ++ 10 ∷ [])) e ∙ (value_ended ts).1)
    ∙ ap (λ l. its.0 ++ l) (no_lexeme (ends t) ts h.1)
    ∙ sym (its.1 rest (λ e. ap (λ b. ends_word (print_from b ts)) e ∙ (value_ended ts).0)) in
    ap (lex between) (append_assoc (separator after_value t) (text ++ rest) (10 ∷ []) ∙ ap (λ l. separator after_value t ++ l) (append_assoc text rest (10 ∷ [])))
    ∙ behind_separator (after_value && begins t) (text ++ (rest ++ 10 ∷ [])) (text ++ rest) same

pub tokens_before_line_feed : (ts : List Token) → ArePrintable ts → tokens (print ts ++ 10 ∷ []) ≡ ts
tokens_before_line_feed ts h = ap (punctuate fresh) (no_lexeme false ts h) ∙ tokens-print ts h
