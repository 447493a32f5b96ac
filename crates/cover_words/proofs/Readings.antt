-- What the typed getters read of a text.
use Rattle.std.proofs.Common.{◌≡◌, ◌∙◌, ◌+◌, ◌<◌, ◌^◌, ℕ, Bool, true, false, refl, ap, arith, Option, Some, None, option_and_then}
use Rattle.std.specs.Prelude.{Result, Ok, Err}
use Rattle.std.specs.Str.{bytes_eq}
use Rattle.std.specs.Str.Parse.{ParsesUnsigned, ParsesBool, digits_value, without_leading_plus, true_text, false_text}
use Rattle.std.proofs.lemmas.Slice.Eq.{bytes_eq-Decides}
use Rattle.clap.specs.Matches.{ReadsOne}
use Rattle.clap.specs.Walk.{Text}
use Rattle.clap.specs.ValueTests.{is_unsigned_in}
use Rattle.clap.specs.declared.builder.value_parser.ValueParser.TheVariants as vp
use Rattle.clap.proofs.ValueTestLemmas.{accepts-Accepts, Accepts-accepts}
use Rattle.clap.specs.Matches.{one_text}
use Rattle.clap.specs.Walk.{one_of, rows_of}
use Rattle.clap.specs.declared.parser.matches.Found.{Found}
use Rattle.clap.proofs.WalkLemmas.{one_text-rows}
use Rattle.cover_words.specs.Values.{flag_at, number_up_to, truth_of}

-- an answer that reads the text that is there, and is none where there is none
read_at : {T E : Type 0} (gives : Text → Result T E → Type 0) (reading : Text → Option T) (o : Option Text) (r : Option T)
    → (o ≡ None → r ≡ None) → ((t : Text) → o ≡ Some t → ReadsOne gives t r) → ((t : Text) (x : Option T) → ReadsOne gives t x → x ≡ reading t)
    → r ≡ option_and_then reading o
read_at gives reading None r none some is = none refl
read_at gives reading (Some t) r none some is = is t r (some t refl)

module _ (bits most : ℕ) (end : most + 1 ≡ 2 ^ bits) (long : most < 2 ^ 64) (E : Type 0) (G : Text → Result ℕ E → Type 0) (only : (u : Text) (x : Result ℕ E) → G u x → ParsesUnsigned bits 10 u x) where
  -- a number of so many bits is read as it is written
  number_read : (text : Text) (r : Option ℕ) → ReadsOne G text r → r ≡ number_up_to most text
  number_read text (Some n) h =
      let p = only text (Ok n) h in
      let small : digits_value 10 (without_leading_plus text) < 2 ^ bits = p.0.1 in
      let fits : is_unsigned_in 0 most text ≡ true = Accepts-accepts false (vp.Unsigned 0 most) text (p.0.0, omega arith, omega arith, omega arith) in
      rw fits (ap (λ k. Some k) p.1)
  number_read text None h = go (is_unsigned_in 0 most text) refl
    where
      go : (t : Bool) → is_unsigned_in 0 most text ≡ t → None ≡ number_up_to most text
      go false e = rw e refl
      go true e =
          let fits = accepts-Accepts false (vp.Unsigned 0 most) text e in
          absurd (only text (Err h.0) h.1 (fits.0, omega arith))

-- a truth value is read as it is named
truth_read : (E : Type 0) (text : Text) (r : Option Bool) → ReadsOne {T = Bool} {E = E} ParsesBool text r → r ≡ truth_of text
truth_read E text (Some true) h = rw h refl
truth_read E text (Some false) h = rw h refl
truth_read E text None h = go (bytes_eq text true_text) (bytes_eq text false_text) refl refl
  where
    go : (a b : Bool) → bytes_eq text true_text ≡ a → bytes_eq text false_text ≡ b → None ≡ truth_of text
    go true b s t = absurd (h.1.0 ((bytes_eq-Decides text true_text).0 s))
    go false true s t = absurd (h.1.1 ((bytes_eq-Decides text false_text).0 t))
    go false false s t = rw (s, t) refl

module _ (f : Found) (id : Text) where
  same : one_text f id ≡ one_of id (rows_of f)
  same = one_text-rows f id

  -- the number of an argument, of so many bits, is read as the definition says
  pub number_found : (bits most : ℕ) → most + 1 ≡ 2 ^ bits → most < 2 ^ 64 → (E : Type 0) (G : Text → Result ℕ E → Type 0) (r : Option ℕ) → (one_text f id ≡ None → r ≡ None)
      → ((t : Text) → one_text f id ≡ Some t → ReadsOne G t r) → ((u : Text) (x : Result ℕ E) → G u x → ParsesUnsigned bits 10 u x)
      → r ≡ option_and_then (number_up_to most) (one_of id (rows_of f))
  number_found bits most end long E G r none some only =
      read_at G (number_up_to most) (one_of id (rows_of f)) r (λ e. none (same ∙ e)) (λ t e. some t (same ∙ e)) (number_read bits most end long E G only)

  -- and so is a flag
  pub flag_found : (E : Type 0) (r : Option Bool) → (one_text f id ≡ None → r ≡ None)
      → ((t : Text) → one_text f id ≡ Some t → ReadsOne {T = Bool} {E = E} ParsesBool t r) → r ≡ flag_at id (rows_of f)
  flag_found E r none some = read_at ParsesBool truth_of (one_of id (rows_of f)) r (λ e. none (same ∙ e)) (λ t e. some t (same ∙ e)) (truth_read E)
