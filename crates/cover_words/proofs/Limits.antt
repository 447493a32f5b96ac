-- The operation that words name has its lengths within the limit.
use Rattle.std.proofs.Common.{◌≡◌, ◌∙◌, ◌+◌, ◌<◌, ◌≤◌, ◌^◌, ◌||◌, pos, ℕ, Bool, cond, codes, true, false, refl, ap, sym, subst, arith, lit<, find, List, [], ◌∷◌, Option, Some, None, is_some, option_and_then, unwrap_or, true≢false}
use Rattle.std.specs.Prelude.{◌&&◌, IfOk, IfSome, Result, Ok, Err, length, nat_lt, option_map, position}
use Rattle.std.specs.List.{position_or_len}
use Rattle.std.specs.Option.{option_or}
use Rattle.std.proofs.lemmas.Bool.{ltb-true}
use Rattle.std.specs.Str.{bytes_eq}
use Rattle.clap.specs.Lexer.{without_minus}
use Rattle.clap.specs.Facts.{parser_of_value}
use Rattle.clap.specs.Values.{read_as, reading_of}
use Rattle.clap.specs.declared.builder.value_parser.ValueParser.{ValueParser}
use Rattle.clap.specs.declared.builder.value_parser.ValueParser.TheVariants as vp
use Rattle.clap.specs.ValueTests.{accepts}
use Rattle.clap.specs.Walk.{Row, Rule, Text, arg_by_id, has_row, one_of, row_text}
use Rattle.clap.specs.Simple.{App, built, matches_of}
use Rattle.clap.specs.Takes.{takes}
use Rattle.geo_text.specs.Decimal.{IsScale}
use Rattle.cover_words.specs.Accepted.{is_accepted}
use Rattle.cover_words.specs.Commands.{lengths, scales, validate_command, clean_command, simplify_command, union_command, node_command, regions_command, locate_command, sample_command, overlay_command}
use Rattle.cover_words.specs.Values.{number_at, number_up_to, scale_at, text_at}
use Rattle.cover_words.specs.declared.rule_choice.RuleChoice.{RuleChoice}
use Rattle.cover_words.specs.declared.rule_choice.RuleChoice.TheVariants.{Own, Handed}
use Rattle.cover_words.specs.declared.rule_name.RuleName.{RuleName}
use Rattle.cover_words.specs.Words.{Operation, Union, Node, Regions, Locate, Overlay, Validate, Clean, Simplify, clean_in, clean_with, locate_in, locate_with, overlay_in, overlay_with, node_in, node_with, IsWithinLimit, operation_by, operation_of, regions_in, regions_with, simplify_in, simplify_with, suits, taken, union_in, union_with, validate_in, validate_with, Sample, sample_in, sample_with, IsPlaceBelow, rule_chosen, rule_named}
use Rattle.cover_words.proofs.SoundRows.{AllOwn, Present}
use Rattle.cover_words.specs.declared.operation.Operation as code
use Rattle.cover_words.specs.Named.{IsNamed, named}
use Rattle.cover_words.proofs.AcceptedWords.{accepted, is_at, number_ranged, own_clean, own_node, own_regions, own_sample, own_simplify, own_union, own_validate, rule_at, taken_held, taken_present}

-- the number of an argument, if it is there, is at most this
abbrev IsAtMost : ℕ → Option ℕ → Type 0
IsAtMost high o = (n : ℕ) → o ≡ Some n → n ≤ high

-- a gap width or a tolerance is within the limit
abbrev AreWithin : Option ℕ → Type 0
AreWithin o = IsAtMost 1073741824 o

module _ (bits most : ℕ) (end : most + 1 ≡ 2 ^ bits) (long : most < 2 ^ 64) where
  number_most : (low high : ℕ) (t : Text) (n : ℕ) → high < 2 ^ bits → accepts false (vp.Signed (pos low) (pos high)) t ≡ true → number_up_to most (without_minus t) ≡ Some n → n ≤ high
  number_most low high t n small e is =
      let h = number_ranged bits most end long low high t small e in
      let same : h.0 ≡ n = ap (λ (o : Option ℕ). unwrap_or o n) (sym h.1 ∙ is) in
      subst (λ (k : ℕ). k ≤ high) same h.3

  number_within : (low high : ℕ) (r : Rule) (id : Text) (rows : List Row) → high < 2 ^ bits → r.id ≡ id → r.parser ≡ Some (vp.Signed (pos low) (pos high)) → Present r rows
      → IsAtMost high (option_and_then (number_up_to most) (one_of id rows))
  number_within low high r id rows small same parser p =
      let read : one_of r.id rows ≡ Some (without_minus p.text) =
      subst (λ (q : Option ValueParser). one_of r.id rows ≡ Some (read_as (reading_of (parser_of_value q)) p.text)) parser p.read in
      let passes : accepts r.ignore_case (vp.Signed (pos low) (pos high)) p.text ≡ true = subst (λ (q : Option ValueParser). accepts r.ignore_case (parser_of_value q) p.text ≡ true) parser p.passes in
      subst (λ (i : Text). IsAtMost high (option_and_then (number_up_to most) (one_of i rows))) same
      (λ n is. number_most low high p.text n small passes (sym (ap (λ (o : Option Text). option_and_then (number_up_to most) o) read) ∙ is))

-- an argument that is not there has no value
one_of_none : (id : Text) (rows : List Row) → has_row id rows ≡ false → one_of id rows ≡ None
one_of_none id [] none = refl
one_of_none id (r ∷ rs) none = go (bytes_eq r.id id) (one_of_none id rs) none
  where
    go : (t : Bool) → (has_row id rs ≡ false → one_of id rs ≡ None) → (t || has_row id rs) ≡ false
        → option_and_then row_text (cond t (Some r) (find (λ (q : Row). bytes_eq q.id id) rs)) ≡ None
    go true more e = absurd (true≢false e)
    go false more e = more e

none_at_most : (high : ℕ) (o : Option ℕ) → o ≡ None → IsAtMost high o
none_at_most high o none n is = absurd (true≢false (ap is_some (sym is ∙ none)))

some_at_most : (high : ℕ) (o : Option ℕ) → IsAtMost high o → IfSome o (λ k. k ≤ high)
some_at_most high None most = tt
some_at_most high (Some n) most = most n refl

module _ (a : App) (words : List Text) (own : AllOwn (built a).top.rules (built a).top.rules) (kept : (built a).top.subcommand_negates_reqs ≡ false) (by : takes a words ≡ true) where
  most_in : (low high : ℕ) → high < 2 ^ 32 → (id : Text) → is_at a id → (rule_at a id).parser ≡ Some (vp.Signed (pos low) (pos high)) → IsAtMost high (number_at id (matches_of a words))
  most_in low high small id at parser =
      number_within 32 4294967295 refl (lit< tt) low high (rule_at a id) id (matches_of a words) small at.2 parser (taken_present a words own kept by (rule_at a id) at.0 at.1)

  within_in : (id : Text) → is_at a id → (rule_at a id).parser ≡ Some lengths → AreWithin (number_at id (matches_of a words))
  within_in id at parser = most_in 0 1073741824 (omega arith) id at parser

  -- a scale, if there is one, is at most 7
  scale_in : (r : Rule) → r.id ≡ codes "scale" → r.parser ≡ Some scales → arg_by_id (built a).top.rules r.id ≡ Some r → IsScale (scale_at (matches_of a words))
  scale_in r same parser known = some_at_most 7 (scale_at (matches_of a words)) (go (has_row r.id (matches_of a words)) refl)
    where
      go : (t : Bool) → has_row r.id (matches_of a words) ≡ t → IsAtMost 7 (scale_at (matches_of a words))
      go true has = number_within 8 255 refl (lit< tt) 0 7 r (codes "scale") (matches_of a words) (lit< tt) same parser (taken_held a words own kept by r known has)
      go false has = none_at_most 7 (scale_at (matches_of a words)) (ap (option_and_then (number_up_to 255))
          (subst (λ (i : Text). one_of i (matches_of a words) ≡ None) same (one_of_none r.id (matches_of a words) has)))

-- ---- the place of a rule

place_within : {X : Type 0} (test : X → Bool) (xs : List X) → IfSome (position test xs) (λ place. place < length xs)
place_within test xs = by (nat_lt (position_or_len test xs) (length xs)) refl
  where
    by : (b : Bool) → nat_lt (position_or_len test xs) (length xs) ≡ b → IfSome (cond b (Some (position_or_len test xs)) None) (λ place. place < length xs)
    by true h = ltb-true (position_or_len test xs) (length xs) h
    by false h = tt

either_below : (rules : ℕ) (own : Option RuleName) (place : Option ℕ) → IfSome place (λ k. k < rules) → IfSome (option_or (option_map Own own) (option_map Handed place)) (IsPlaceBelow rules)
either_below rules (Some name) place within = tt
either_below rules None (Some k) within = within
either_below rules None None within = tt

-- a handed-in rule that a word chooses has a place among the names
chosen_below : (names : List Text) (word : Text) → IfSome (rule_chosen names word) (IsPlaceBelow (length names))
chosen_below names word = either_below (length names) (rule_named word) (position (λ name. bytes_eq name word) names) (place_within (λ name. bytes_eq name word) names)

chosen_in : (names : List Text) (word : Option Text) → IfSome (option_and_then (rule_chosen names) word) (IsPlaceBelow (length names))
chosen_in names None = tt
chosen_in names (Some word) = chosen_below names word

-- ---- operations

not_some : (o : Operation) → None ≡ Some o → ⊥
not_some o e = true≢false (sym (ap is_some e))

module _ (rules : ℕ) where
  this_one : (x o : Operation) → Some x ≡ Some o → IsWithinLimit rules x → IsWithinLimit rules o
  this_one x o e h = subst (IsWithinLimit rules) (ap (λ (y : Option Operation). unwrap_or y o) e) h

  -- what is named where this holds
  where_within : (b : Bool) (x o : Operation) → cond b (Some x) None ≡ Some o → IsWithinLimit rules x → IsWithinLimit rules o
  where_within true x o e h = this_one x o e h
  where_within false x o e h = absurd (not_some o e)

  validate_within : (f t : Option Text) (g s : Option ℕ) (o : Operation) → AreWithin g → IsScale s → validate_with f t g s ≡ Some o → IsWithinLimit rules o
  validate_within (Some f) (Some t) (Some g) s o h k e = where_within (suits s f) (Validate g s f t) o e (record { length = h g refl; scale = k; rule = tt })
  validate_within (Some f) (Some t) None s o h k e = absurd (not_some o e)
  validate_within (Some f) None g s o h k e = absurd (not_some o e)
  validate_within None t g s o h k e = absurd (not_some o e)

  clean_within : (f t : Option Text) (r : Option RuleChoice) (g : Option ℕ) (b : Option Bool) (s : Option ℕ) (o : Operation) → AreWithin g → IsScale s → IfSome r (IsPlaceBelow rules) → clean_with f t r g b s ≡ Some o → IsWithinLimit rules o
  clean_within (Some f) (Some t) (Some r) (Some g) (Some b) s o h k p e = where_within (suits s f && suits s t) (Clean r g b s f t) o e (record { length = h g refl; scale = k; rule = p })
  clean_within (Some f) (Some t) (Some r) (Some g) None s o h k p e = absurd (not_some o e)
  clean_within (Some f) (Some t) (Some r) None b s o h k p e = absurd (not_some o e)
  clean_within (Some f) (Some t) None g b s o h k p e = absurd (not_some o e)
  clean_within (Some f) None r g b s o h k p e = absurd (not_some o e)
  clean_within None t r g b s o h k p e = absurd (not_some o e)

  simplify_within : (f t : Option Text) (g : Option ℕ) (b : Option Bool) (s : Option ℕ) (o : Operation) → AreWithin g → IsScale s → simplify_with f t g b s ≡ Some o → IsWithinLimit rules o
  simplify_within (Some f) (Some t) (Some g) (Some b) s o h k e = where_within (suits s f && suits s t) (Simplify g b s f t) o e (record { length = h g refl; scale = k; rule = tt })
  simplify_within (Some f) (Some t) (Some g) None s o h k e = absurd (not_some o e)
  simplify_within (Some f) (Some t) None b s o h k e = absurd (not_some o e)
  simplify_within (Some f) None g b s o h k e = absurd (not_some o e)
  simplify_within None t g b s o h k e = absurd (not_some o e)

  union_within : (f t : Option Text) (s : Option ℕ) (o : Operation) → IsScale s → union_with f t s ≡ Some o → IsWithinLimit rules o
  union_within (Some f) (Some t) s o k e = where_within (suits s f && suits s t) (Union s f t) o e (record { length = tt; scale = k; rule = tt })
  union_within (Some f) None s o k e = absurd (not_some o e)
  union_within None t s o k e = absurd (not_some o e)

  node_within : (f t : Option Text) (s : Option ℕ) (o : Operation) → IsScale s → node_with f t s ≡ Some o → IsWithinLimit rules o
  node_within (Some f) (Some t) s o k e = where_within (suits s f) (Node s f t) o e (record { length = tt; scale = k; rule = tt })
  node_within (Some f) None s o k e = absurd (not_some o e)
  node_within None t s o k e = absurd (not_some o e)

  regions_within : (f t : Option Text) (s : Option ℕ) (o : Operation) → IsScale s → regions_with f t s ≡ Some o → IsWithinLimit rules o
  regions_within (Some f) (Some t) s o k e = where_within (suits s f) (Regions s f t) o e (record { length = tt; scale = k; rule = tt })
  regions_within (Some f) None s o k e = absurd (not_some o e)
  regions_within None t s o k e = absurd (not_some o e)

  sample_within : (n s : Option ℕ) (t : Option Text) (o : Operation) → IsAtMost 400 n → sample_with n s t ≡ Some o → IsWithinLimit rules o
  sample_within (Some n) (Some s) (Some t) o h e = this_one (Sample n s t) o e (record { length = h n refl; scale = tt; rule = tt })
  sample_within (Some n) (Some s) None o h e = absurd (not_some o e)
  sample_within (Some n) None t o h e = absurd (not_some o e)
  sample_within None s t o h e = absurd (not_some o e)

  locate_within : (f p t : Option Text) (o : Operation) → locate_with f p t ≡ Some o → IsWithinLimit rules o
  locate_within (Some f) (Some p) (Some t) o e = this_one (Locate f p t) o e (record { length = tt; scale = tt; rule = tt })
  locate_within (Some f) (Some p) None o e = absurd (not_some o e)
  locate_within (Some f) None t o e = absurd (not_some o e)
  locate_within None p t o e = absurd (not_some o e)

  overlay_within : (a b t : Option Text) (o : Operation) → overlay_with a b t ≡ Some o → IsWithinLimit rules o
  overlay_within (Some a) (Some b) (Some t) o e = this_one (Overlay a b t) o e (record { length = tt; scale = tt; rule = tt })
  overlay_within (Some a) (Some b) None o e = absurd (not_some o e)
  overlay_within (Some a) None t o e = absurd (not_some o e)
  overlay_within None b t o e = absurd (not_some o e)

  taken_within : (a : App) (f : List Row → Option Operation) (words : List Text) (o : Operation) → (takes a words ≡ true → f (matches_of a words) ≡ Some o → IsWithinLimit rules o)
      → taken a f words ≡ Some o → IsWithinLimit rules o
  taken_within a f words o h e = go (takes a words) h e
    where
      go : (t : Bool) → (t ≡ true → f (matches_of a words) ≡ Some o → IsWithinLimit rules o) → cond t (f (matches_of a words)) None ≡ Some o → IsWithinLimit rules o
      go true g is = g refl is
      go false g is = absurd (not_some o is)

  either_within : (t : Bool) (x y : Option Operation) (o : Operation) → (x ≡ Some o → IsWithinLimit rules o) → (y ≡ Some o → IsWithinLimit rules o) → cond t x y ≡ Some o → IsWithinLimit rules o
  either_within true x y o f g = f
  either_within false x y o f g = g

within_by : (names : List Text) (word : Text) (words : List Text) (o : Operation) → operation_by names word words ≡ Some o → IsWithinLimit (length names) o
within_by names word words o =
    either_within (length names) (bytes_eq word (codes "validate")) _ _ o (taken_within (length names) validate_command validate_in words o (λ by.
    validate_within (length names) _ _ _ _ o (within_in validate_command words own_validate refl by (codes "gap") (refl, refl, refl) refl)
    (scale_in validate_command words own_validate refl by (rule_at validate_command (codes "scale")) refl refl refl)))
    (either_within (length names) (bytes_eq word (codes "clean")) _ _ o (taken_within (length names) clean_command (clean_in names) words o (λ by.
    clean_within (length names) _ _ _ _ _ _ o (within_in clean_command words own_clean refl by (codes "gap") (refl, refl, refl) refl)
    (scale_in clean_command words own_clean refl by (rule_at clean_command (codes "scale")) refl refl refl)
    (chosen_in names (text_at (codes "rule") (matches_of clean_command words)))))
    (either_within (length names) (bytes_eq word (codes "simplify")) _ _ o (taken_within (length names) simplify_command simplify_in words o (λ by.
    simplify_within (length names) _ _ _ _ _ o (within_in simplify_command words own_simplify refl by (codes "tolerance") (refl, refl, refl) refl)
    (scale_in simplify_command words own_simplify refl by (rule_at simplify_command (codes "scale")) refl refl refl)))
    (either_within (length names) (bytes_eq word (codes "union")) _ _ o (taken_within (length names) union_command union_in words o (λ by.
    union_within (length names) _ _ _ o (scale_in union_command words own_union refl by (rule_at union_command (codes "scale")) refl refl refl)))
    (either_within (length names) (bytes_eq word (codes "node")) _ _ o (taken_within (length names) node_command node_in words o (λ by.
    node_within (length names) _ _ _ o (scale_in node_command words own_node refl by (rule_at node_command (codes "scale")) refl refl refl)))
    (either_within (length names) (bytes_eq word (codes "regions")) _ _ o (taken_within (length names) regions_command regions_in words o (λ by.
    regions_within (length names) _ _ _ o (scale_in regions_command words own_regions refl by (rule_at regions_command (codes "scale")) refl refl refl)))
    (either_within (length names) (bytes_eq word (codes "sample")) _ _ o (taken_within (length names) sample_command sample_in words o (λ by.
    sample_within (length names) _ _ _ o (most_in sample_command words own_sample refl by 1 400 (omega arith) (codes "N") (refl, refl, refl) refl)))
    (either_within (length names) (bytes_eq word (codes "locate")) _ _ o (taken_within (length names) locate_command locate_in words o (λ by. locate_within (length names) _ _ _ o))
    (either_within (length names) (bytes_eq word (codes "overlay")) _ _ o (taken_within (length names) overlay_command overlay_in words o (λ by. overlay_within (length names) _ _ _ o))
    (λ e. absurd (not_some o e))))))))))

within : (names words : List Text) (o : Operation) → operation_of names words ≡ Some o → IsWithinLimit (length names) o
within names [] o e = absurd (not_some o e)
within names (word ∷ rest) o e = within_by names word (word ∷ rest) o e

-- ---- the answer

-- the answer is an operation exactly where the words are accepted
pub accepted_named : {E : Type 0} (names words : List Text) (r : Result (Option code.Operation) E) → IfOk r (IsNamed (operation_of names words)) → IfOk r (λ o. is_some o ≡ is_accepted names words)
accepted_named names words (Ok (Some x)) h = sym (ap is_some h) ∙ accepted names words
accepted_named names words (Ok None) h = sym (ap is_some h) ∙ accepted names words
accepted_named names words (Err e) h = tt

-- and its lengths are within the limit
pub within_named : {E : Type 0} (names words : List Text) (r : Result (Option code.Operation) E) → IfOk r (IsNamed (operation_of names words))
    → IfOk r (λ o. IfSome o (λ x. IsWithinLimit (length names) (named x)))
within_named names words (Ok (Some x)) h = within names words (named x) h
within_named names words (Ok None) h = tt
within_named names words (Err e) h = tt
