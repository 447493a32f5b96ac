-- The words that a command takes have the values that its operation needs.
use Rattle.std.proofs.Common.{◌≡◌, ◌∙◌, ◌&&◌, ◌||◌, ◌+◌, ◌<◌, ◌≤◌, ◌^◌, pos, ℕ, Bool, cond, codes, true, false, not, refl, ap, sym, subst, arith, lit<, List, [], ◌∷◌, length, find, Option, Some, None, is_some, option_and_then, unwrap_or, true≢false}
use Rattle.std.specs.Prelude.{⊤, nat_lt}
use Rattle.std.specs.List.{list_all, list_any}
use Rattle.std.specs.Option.{option_map_or}
use Rattle.std.specs.Str.{bytes_eq}
use Rattle.std.specs.Str.Parse.{ParsesUnsigned, digits_value, without_leading_plus}
use Rattle.clap.specs.Lexer.{without_minus}
use Rattle.std.proofs.lemmas.Bool.{ltb-true}
use Rattle.clap.specs.Facts.{explicit_source, parser_of_value}
use Rattle.clap.specs.Values.{read_as, reading_of}
use Rattle.clap.specs.declared.builder.value_parser.ValueParser.{ValueParser}
use Rattle.clap.specs.Matches.{ReadsOne}
use Rattle.clap.specs.ValueTests.{accepts, is_unsigned_in}
use Rattle.clap.specs.Walk.{Names, Row, Rule, Text, arg_by_id, finished, first_of, has_row, nothing_held, one_of, settled, walk, walk_from}
use Rattle.clap.specs.Simple.{App, Shape, argument_words, built, entered, help_rule, is_simple, matches_of, names_of}
use Rattle.clap.specs.Takes.{default_passes, entered_passes, is_given, is_valid, level_passes, settle_passes, takes, walk_passes}
use Rattle.clap.specs.declared.builder.value_parser.ValueParser.TheVariants as vp
use Rattle.clap.proofs.CallerReads.{signed_reads}
use Rattle.clap.proofs.ValueTestLemmas.{accepts-Accepts, Accepts-accepts}
use Rattle.clap.proofs.WalkLemmas.{both}
use Rattle.cover_words.specs.Accepted.{AcceptedLaw, has_a_rule, is_accepted_by, suits_files, suits_input}
use Rattle.cover_words.specs.Commands.{lengths, validate_command, clean_command, simplify_command, union_command, node_command, regions_command, locate_command, sample_command, overlay_command}
use Rattle.cover_words.specs.Values.{flag_at, number_at, number_up_to, text_at, truth_of}
use Rattle.cover_words.specs.declared.rule_choice.RuleChoice.{RuleChoice}
use Rattle.cover_words.specs.Words.{Operation, Validate, Clean, Simplify, Union, Node, Regions, clean_in, clean_with, locate_in, locate_with, overlay_in, overlay_with, node_in, node_with, operation_by, regions_in, regions_with, simplify_in, simplify_with, suits, taken, union_in, union_with, validate_in, validate_with, sample_in, sample_with}
use Rattle.cover_words.proofs.SoundRows.{AllOwn, AllSound, Present, defaults_have, defaults_sound, given_has, present, settled_sound, walk_sound}

-- ---- the values of a command that takes the words

-- the argument of this id, as building leaves it
abbrev pub rule_at : App → Text → Rule
rule_at a id = unwrap_or (arg_by_id (built a).top.rules id) help_rule

required_each : (rows : List Row) (p : Rule → Bool) (xs : List Rule) (a : Rule) → find p xs ≡ Some a → list_all (λ r. not r.required || is_given r.id rows) xs ≡ true
    → a.required ≡ true → is_given a.id rows ≡ true
required_each rows p [] a e all is = absurd (true≢false (sym (ap is_some e)))
required_each rows p (x ∷ xs) a e all is =
    let parts = both (not x.required || is_given x.id rows) _ all in
    go (p x) (λ f. required_each rows p xs a f parts.1 is) parts.0 e
  where
    given : (r g : Bool) → (not r || g) ≡ true → r ≡ true → g ≡ true
    given true g h t = h
    given false g h t = absurd (true≢false (sym t))

    go : (t : Bool) → (find p xs ≡ Some a → is_given a.id rows ≡ true) → (not x.required || is_given x.id rows) ≡ true → cond t (Some x) (find p xs) ≡ Some a
        → is_given a.id rows ≡ true
    go true more here f =
        let same : x ≡ a = ap (λ o. unwrap_or o x) f in
        subst (λ (r : Rule). is_given r.id rows ≡ true) same (given x.required _ here (rw same is))
    go false more here f = more f

past_all : (a b d n h l : Bool) → n ≡ false → (a && (b && (d && ((n && h) || l)))) ≡ true → l ≡ true
past_all a b d n h l kept e =
    let x = both a _ e in
    let y = both b _ x.1 in
    let z = both d _ y.1 in
    rw kept at z.1

valid_required : (s : Shape) (rows : List Row) (has : Bool) → s.subcommand_negates_reqs ≡ false → is_valid s rows has ≡ true
    → list_all (λ r. not r.required || is_given r.id rows) s.rules ≡ true
valid_required s rows has kept e = past_all (not s.arg_required_else_help || (has || list_any (λ (r : Row). explicit_source r.source) rows)) (not s.subcommand_required || has)
    (list_all (λ (r : Rule). r.is_free) s.rules) s.subcommand_negates_reqs has (list_all (λ (r : Rule). not r.required || is_given r.id rows) s.rules) kept e

-- an argument is required, or has a default
abbrev pub is_sure : Rule → Bool
is_sure r = r.required || nat_lt 0 (length r.defaults)

module _ (s : Shape) (names : Names) (ws : List Text) (has : Bool) (own : AllOwn s.rules s.rules) (kept : s.subcommand_negates_reqs ≡ false) where
  -- the values at the end have passed their arguments' parsers
  level_sound : level_passes s names nothing_held ws has ≡ true → AllSound s.rules (finished s.rules (walk s.rules names nothing_held ws).held)
  level_sound level =
      let end = (walk s.rules names nothing_held ws).held in
      let walks = both (walk_passes s names (walk_from nothing_held) ws) _ level in
      let settles = both (settle_passes s.rules s.args_override_self end) _ walks.1 in
      let defaults = both (list_all default_passes s.rules) (is_valid s (finished s.rules end) has) settles.1 in
      defaults_sound s.rules s.rules (settled s.rules end).rows own defaults.0
      (settled_sound s.rules s.args_override_self own end settles.0 (walk_sound s names own (walk_from nothing_held) ws walks.0 tt))

  level_present : level_passes s names nothing_held ws has ≡ true → (r : Rule) → arg_by_id s.rules r.id ≡ Some r → is_sure r ≡ true
      → Present r (finished s.rules (walk s.rules names nothing_held ws).held)
  level_present level r known sure =
      let end = (walk s.rules names nothing_held ws).held in
      let rows = finished s.rules end in
      let walks = both (walk_passes s names (walk_from nothing_held) ws) _ level in
      let settles = both (settle_passes s.rules s.args_override_self end) _ walks.1 in
      let defaults = both (list_all default_passes s.rules) (is_valid s rows has) settles.1 in
      present s.rules r rows known (level_sound level) (go r.required refl sure (valid_required s rows has kept defaults.1))
    where
      go : (t : Bool) → r.required ≡ t → (t || nat_lt 0 (length r.defaults)) ≡ true
          → list_all (λ x. not x.required || is_given x.id (finished s.rules (walk s.rules names nothing_held ws).held)) s.rules ≡ true
          → has_row r.id (finished s.rules (walk s.rules names nothing_held ws).held) ≡ true
      go true is e all = given_has r.id _ (required_each _ _ s.rules r known all is)
      go false is e all = defaults_have _ s.rules (settled s.rules (walk s.rules names nothing_held ws).held).rows r known (ltb-true _ _ e)

module _ (a : App) (words : List Text) (own : AllOwn (built a).top.rules (built a).top.rules) (kept : (built a).top.subcommand_negates_reqs ≡ false) (by : takes a words ≡ true) where
  level : level_passes (built a).top (names_of (built a)) nothing_held (argument_words a words)
      (is_some (entered (built a) (walk (built a).top.rules (names_of (built a)) nothing_held (argument_words a words)).stopped)) ≡ true
  level =
      let stop = (walk (built a).top.rules (names_of (built a)) nothing_held (argument_words a words)).stopped in
      (both (entered_passes (built a) stop) _ (both (is_simple a) _ by).1).1

  -- an argument that is required or has a default has a value in words that the command takes
  pub taken_present : (r : Rule) → arg_by_id (built a).top.rules r.id ≡ Some r → is_sure r ≡ true → Present r (matches_of a words)
  taken_present = level_present (built a).top (names_of (built a)) (argument_words a words) _ own kept level

  -- an argument that is there has a value
  pub taken_held : (r : Rule) → arg_by_id (built a).top.rules r.id ≡ Some r → has_row r.id (matches_of a words) ≡ true → Present r (matches_of a words)
  taken_held r known has = present (built a).top.rules r (matches_of a words) known
      (level_sound (built a).top (names_of (built a)) (argument_words a words) _ own kept level) has

-- ---- numbers and flags

module _ (bits most : ℕ) (end : most + 1 ≡ 2 ^ bits) (long : most < 2 ^ 64) where
  pub number_reads : (t : Text) → ReadsOne {T = ℕ} {E = ⊤} (λ u x. ParsesUnsigned bits 10 u x) t (number_up_to most t)
  number_reads t = go (is_unsigned_in 0 most t) refl
    where
      go : (b : Bool) → is_unsigned_in 0 most t ≡ b → ReadsOne {T = ℕ} {E = ⊤} (λ u x. ParsesUnsigned bits 10 u x) t (cond b (Some (digits_value 10 (without_leading_plus t))) None)
      go true e =
          let fits = accepts-Accepts false (vp.Unsigned 0 most) t e in
          let within : digits_value 10 (without_leading_plus t) ≤ most = fits.3 in
          ((fits.0, omega arith), refl)
      go false e = (
        tt,
        λ h.
            let small : digits_value 10 (without_leading_plus t) < 2 ^ bits = h.1 in
            let fits = Accepts-accepts false (vp.Unsigned 0 most) t (h.0, omega arith, omega arith, omega arith) in
            true≢false (sym fits ∙ e),
      )

  -- a text that passed a range with no negative number is read as a number in it
  pub number_ranged : (low high : ℕ) (t : Text) → high < 2 ^ bits → accepts false (vp.Signed (pos low) (pos high)) t ≡ true
      → (n : ℕ) × (number_up_to most (without_minus t) ≡ Some n) × (low ≤ n) × (n ≤ high)
  number_ranged low high t small e =
      signed_reads ⊤ (λ u x. ParsesUnsigned bits 10 u x) bits low high t (number_up_to most (without_minus t)) (number_reads (without_minus t)) (λ u x g. g) small
      (accepts-Accepts false (vp.Signed (pos low) (pos high)) t e)

number_some : (low high : ℕ) (t : Text) → high < 2 ^ 32 → accepts false (vp.Signed (pos low) (pos high)) t ≡ true → is_some (number_up_to 4294967295 (without_minus t)) ≡ true
number_some low high t small e = ap is_some (number_ranged 32 4294967295 refl (lit< tt) low high t small e).1

truth_some : (t : Text) → accepts false vp.Bool t ≡ true → is_some (truth_of t) ≡ true
truth_some t e = go (bytes_eq t (codes "true")) (bytes_eq t (codes "false")) e
  where
    go : (x y : Bool) → (x || y) ≡ true → is_some (cond x (Some true) (cond y (Some false) None)) ≡ true
    go true y h = refl
    go false true h = refl
    go false false h = h

-- ---- each command

-- an operation is named where this holds
named_where : (b : Bool) (o : Operation) → is_some (cond b (Some o) None) ≡ b
named_where true o = refl
named_where false o = refl

-- a scale suits the name that was found
abbrev suits_found : Option ℕ → Option Text → Bool
suits_found s name = option_map_or (suits s) name true

validate_some : (f t : Option Text) (g s : Option ℕ) → is_some f ≡ true → is_some t ≡ true → is_some g ≡ true → is_some (validate_with f t g s) ≡ suits_found s f
validate_some (Some f) (Some t) (Some g) s x y z = named_where (suits s f) (Validate g s f t)
validate_some (Some f) (Some t) None s x y z = absurd (true≢false (sym z))
validate_some (Some f) None g s x y z = absurd (true≢false (sym y))
validate_some None t g s x y z = absurd (true≢false (sym x))

clean_some : (f t : Option Text) (r : Option RuleChoice) (g : Option ℕ) (b : Option Bool) (s : Option ℕ) → is_some f ≡ true → is_some t ≡ true → is_some g ≡ true → is_some b ≡ true
    → is_some (clean_with f t r g b s) ≡ (is_some r && (suits_found s f && suits_found s t))
clean_some (Some f) (Some t) (Some r) (Some g) (Some b) s x y z w = named_where (suits s f && suits s t) (Clean r g b s f t)
clean_some (Some f) (Some t) None g b s x y z w = refl
clean_some (Some f) (Some t) (Some r) (Some g) None s x y z w = absurd (true≢false (sym w))
clean_some (Some f) (Some t) (Some r) None b s x y z w = absurd (true≢false (sym z))
clean_some (Some f) None r g b s x y z w = absurd (true≢false (sym y))
clean_some None t r g b s x y z w = absurd (true≢false (sym x))

simplify_some : (f t : Option Text) (g : Option ℕ) (b : Option Bool) (s : Option ℕ) → is_some f ≡ true → is_some t ≡ true → is_some g ≡ true → is_some b ≡ true
    → is_some (simplify_with f t g b s) ≡ (suits_found s f && suits_found s t)
simplify_some (Some f) (Some t) (Some g) (Some b) s x y z w = named_where (suits s f && suits s t) (Simplify g b s f t)
simplify_some (Some f) (Some t) (Some g) None s x y z w = absurd (true≢false (sym w))
simplify_some (Some f) (Some t) None b s x y z w = absurd (true≢false (sym z))
simplify_some (Some f) None g b s x y z w = absurd (true≢false (sym y))
simplify_some None t g b s x y z w = absurd (true≢false (sym x))

union_some : (f t : Option Text) (s : Option ℕ) → is_some f ≡ true → is_some t ≡ true → is_some (union_with f t s) ≡ (suits_found s f && suits_found s t)
union_some (Some f) (Some t) s x y = named_where (suits s f && suits s t) (Union s f t)
union_some (Some f) None s x y = absurd (true≢false (sym y))
union_some None t s x y = absurd (true≢false (sym x))

node_some : (f t : Option Text) (s : Option ℕ) → is_some f ≡ true → is_some t ≡ true → is_some (node_with f t s) ≡ suits_found s f
node_some (Some f) (Some t) s x y = named_where (suits s f) (Node s f t)
node_some (Some f) None s x y = absurd (true≢false (sym y))
node_some None t s x y = absurd (true≢false (sym x))

regions_some : (f t : Option Text) (s : Option ℕ) → is_some f ≡ true → is_some t ≡ true → is_some (regions_with f t s) ≡ suits_found s f
regions_some (Some f) (Some t) s x y = named_where (suits s f) (Regions s f t)
regions_some (Some f) None s x y = absurd (true≢false (sym y))
regions_some None t s x y = absurd (true≢false (sym x))

sample_some : (n s : Option ℕ) (t : Option Text) → is_some n ≡ true → is_some s ≡ true → is_some t ≡ true → is_some (sample_with n s t) ≡ true
sample_some (Some n) (Some s) (Some t) x y z = refl
sample_some (Some n) (Some s) None x y z = z
sample_some (Some n) None t x y z = y
sample_some None s t x y z = x

locate_some : (f p t : Option Text) → is_some f ≡ true → is_some p ≡ true → is_some t ≡ true → is_some (locate_with f p t) ≡ true
locate_some (Some f) (Some p) (Some t) x y z = refl
locate_some (Some f) (Some p) None x y z = z
locate_some (Some f) None t x y z = y
locate_some None p t x y z = x

overlay_some : (a b t : Option Text) → is_some a ≡ true → is_some b ≡ true → is_some t ≡ true → is_some (overlay_with a b t) ≡ true
overlay_some (Some a) (Some b) (Some t) x y z = refl
overlay_some (Some a) (Some b) None x y z = z
overlay_some (Some a) None t x y z = y
overlay_some None b t x y z = x

name_there : (r : Rule) (id : Text) (rows : List Row) → r.id ≡ id → Present r rows → is_some (text_at id rows) ≡ true
name_there r id rows same p = subst (λ (i : Text). is_some (first_of i rows) ≡ true) same (ap is_some p.first)

number_there : (low high : ℕ) (r : Rule) (id : Text) (rows : List Row) → high < 2 ^ 32 → r.id ≡ id → r.parser ≡ Some (vp.Signed (pos low) (pos high)) → Present r rows
    → is_some (number_at id rows) ≡ true
number_there low high r id rows small same parser p =
    let read : one_of r.id rows ≡ Some (without_minus p.text) =
    subst (λ (q : Option ValueParser). one_of r.id rows ≡ Some (read_as (reading_of (parser_of_value q)) p.text)) parser p.read in
    let passes : accepts r.ignore_case (vp.Signed (pos low) (pos high)) p.text ≡ true = subst (λ (q : Option ValueParser). accepts r.ignore_case (parser_of_value q) p.text ≡ true) parser p.passes in
    subst (λ (i : Text). is_some (number_at i rows) ≡ true) same (ap (λ (o : Option Text). is_some (option_and_then (number_up_to 4294967295) o)) read ∙ number_some low high p.text small passes)

flag_there : (r : Rule) (id : Text) (rows : List Row) → r.id ≡ id → r.parser ≡ Some vp.Bool → Present r rows → is_some (flag_at id rows) ≡ true
flag_there r id rows same parser p =
    let read : one_of r.id rows ≡ Some p.text =
    subst (λ (q : Option ValueParser). one_of r.id rows ≡ Some (read_as (reading_of (parser_of_value q)) p.text)) parser p.read in
    let passes : accepts r.ignore_case vp.Bool p.text ≡ true = subst (λ (q : Option ValueParser). accepts r.ignore_case (parser_of_value q) p.text ≡ true) parser p.passes in
    subst (λ (i : Text). is_some (flag_at i rows) ≡ true) same (ap (λ (o : Option Text). is_some (option_and_then truth_of o)) read ∙ truth_some p.text passes)

pub own_validate : AllOwn (built validate_command).top.rules (built validate_command).top.rules
own_validate = ((refl, refl), ((refl, refl), ((refl, refl), ((refl, refl), ((refl, refl), tt)))))

pub own_clean : AllOwn (built clean_command).top.rules (built clean_command).top.rules
own_clean = ((refl, refl), ((refl, refl), ((refl, refl), ((refl, refl), ((refl, refl), ((refl, refl), ((refl, refl), tt)))))))

pub own_simplify : AllOwn (built simplify_command).top.rules (built simplify_command).top.rules
own_simplify = ((refl, refl), ((refl, refl), ((refl, refl), ((refl, refl), ((refl, refl), ((refl, refl), tt))))))

pub own_union : AllOwn (built union_command).top.rules (built union_command).top.rules
own_union = ((refl, refl), ((refl, refl), ((refl, refl), ((refl, refl), tt))))

pub own_node : AllOwn (built node_command).top.rules (built node_command).top.rules
own_node = ((refl, refl), ((refl, refl), ((refl, refl), ((refl, refl), tt))))

pub own_regions : AllOwn (built regions_command).top.rules (built regions_command).top.rules
own_regions = ((refl, refl), ((refl, refl), ((refl, refl), ((refl, refl), tt))))

pub own_sample : AllOwn (built sample_command).top.rules (built sample_command).top.rules
own_sample = ((refl, refl), ((refl, refl), ((refl, refl), ((refl, refl), tt))))

pub own_locate : AllOwn (built locate_command).top.rules (built locate_command).top.rules
own_locate = ((refl, refl), ((refl, refl), ((refl, refl), ((refl, refl), tt))))

pub own_overlay : AllOwn (built overlay_command).top.rules (built overlay_command).top.rules
own_overlay = ((refl, refl), ((refl, refl), ((refl, refl), ((refl, refl), tt))))

-- the argument of this id is one of the command, and is required or has a default
abbrev pub is_at : App → Text → Type 0
is_at a id = (arg_by_id (built a).top.rules (rule_at a id).id ≡ Some (rule_at a id)) × (is_sure (rule_at a id) ≡ true) × ((rule_at a id).id ≡ id)

module _ (a : App) (words : List Text) (own : AllOwn (built a).top.rules (built a).top.rules) (kept : (built a).top.subcommand_negates_reqs ≡ false) (by : takes a words ≡ true) where
  name_in : (id : Text) → is_at a id → is_some (text_at id (matches_of a words)) ≡ true
  name_in id at = name_there (rule_at a id) id (matches_of a words) at.2 (taken_present a words own kept by (rule_at a id) at.0 at.1)

  number_from : (low high : ℕ) (id : Text) → high < 2 ^ 32 → is_at a id → (rule_at a id).parser ≡ Some (vp.Signed (pos low) (pos high)) → is_some (number_at id (matches_of a words)) ≡ true
  number_from low high id small at parser = number_there low high (rule_at a id) id (matches_of a words) small at.2 parser (taken_present a words own kept by (rule_at a id) at.0 at.1)

  number_in : (id : Text) → is_at a id → (rule_at a id).parser ≡ Some lengths → is_some (number_at id (matches_of a words)) ≡ true
  number_in id at parser = number_from 0 1073741824 id (omega arith) at parser

  flag_in : (id : Text) → is_at a id → (rule_at a id).parser ≡ Some vp.Bool → is_some (flag_at id (matches_of a words)) ≡ true
  flag_in id at parser = flag_there (rule_at a id) id (matches_of a words) at.2 parser (taken_present a words own kept by (rule_at a id) at.0 at.1)

module _ (words : List Text) where
  validates : takes validate_command words ≡ true → is_some (validate_in (matches_of validate_command words)) ≡ suits_input validate_command words
  validates by = validate_some _ _ _ _ (name_in validate_command words own_validate refl by (codes "IN") (refl, refl, refl))
      (name_in validate_command words own_validate refl by (codes "OUT") (refl, refl, refl))
      (number_in validate_command words own_validate refl by (codes "gap") (refl, refl, refl) refl)

  cleans : (names : List Text) → takes clean_command words ≡ true → is_some (clean_in names (matches_of clean_command words)) ≡ (has_a_rule names words && suits_files clean_command words)
  cleans names by = clean_some _ _ _ _ _ _ (name_in clean_command words own_clean refl by (codes "IN") (refl, refl, refl))
      (name_in clean_command words own_clean refl by (codes "OUT") (refl, refl, refl))
      (number_in clean_command words own_clean refl by (codes "gap") (refl, refl, refl) refl)
      (flag_in clean_command words own_clean refl by (codes "gaps-too") (refl, refl, refl) refl)

  simplifies : takes simplify_command words ≡ true → is_some (simplify_in (matches_of simplify_command words)) ≡ suits_files simplify_command words
  simplifies by = simplify_some _ _ _ _ _ (name_in simplify_command words own_simplify refl by (codes "IN") (refl, refl, refl))
      (name_in simplify_command words own_simplify refl by (codes "OUT") (refl, refl, refl))
      (number_in simplify_command words own_simplify refl by (codes "tolerance") (refl, refl, refl) refl)
      (flag_in simplify_command words own_simplify refl by (codes "inner") (refl, refl, refl) refl)

  unites : takes union_command words ≡ true → is_some (union_in (matches_of union_command words)) ≡ suits_files union_command words
  unites by = union_some _ _ _ (name_in union_command words own_union refl by (codes "IN") (refl, refl, refl))
      (name_in union_command words own_union refl by (codes "OUT") (refl, refl, refl))

  nodes : takes node_command words ≡ true → is_some (node_in (matches_of node_command words)) ≡ suits_input node_command words
  nodes by = node_some _ _ _ (name_in node_command words own_node refl by (codes "IN") (refl, refl, refl))
      (name_in node_command words own_node refl by (codes "OUT") (refl, refl, refl))

  lists_regions : takes regions_command words ≡ true → is_some (regions_in (matches_of regions_command words)) ≡ suits_input regions_command words
  lists_regions by = regions_some _ _ _ (name_in regions_command words own_regions refl by (codes "IN") (refl, refl, refl))
      (name_in regions_command words own_regions refl by (codes "OUT") (refl, refl, refl))

  samples : takes sample_command words ≡ true → is_some (sample_in (matches_of sample_command words)) ≡ true
  samples by = sample_some _ _ _ (number_from sample_command words own_sample refl by 1 400 (codes "N") (omega arith) (refl, refl, refl) refl)
      (number_from sample_command words own_sample refl by 0 4294967295 (codes "SEED") (omega arith) (refl, refl, refl) refl)
      (name_in sample_command words own_sample refl by (codes "OUT") (refl, refl, refl))

  locates : takes locate_command words ≡ true → is_some (locate_in (matches_of locate_command words)) ≡ true
  locates by = locate_some _ _ _ (name_in locate_command words own_locate refl by (codes "IN") (refl, refl, refl))
      (name_in locate_command words own_locate refl by (codes "POINTS") (refl, refl, refl))
      (name_in locate_command words own_locate refl by (codes "OUT") (refl, refl, refl))

  overlays : takes overlay_command words ≡ true → is_some (overlay_in (matches_of overlay_command words)) ≡ true
  overlays by = overlay_some _ _ _ (name_in overlay_command words own_overlay refl by (codes "A") (refl, refl, refl))
      (name_in overlay_command words own_overlay refl by (codes "B") (refl, refl, refl))
      (name_in overlay_command words own_overlay refl by (codes "OUT") (refl, refl, refl))

-- ---- the law

taken_where : (a : App) (f : List Row → Option Operation) (words : List Text) (q : Bool) → (takes a words ≡ true → is_some (f (matches_of a words)) ≡ q)
    → is_some (taken a f words) ≡ (takes a words && q)
taken_where a f words q h = go (takes a words) h
  where
    go : (t : Bool) → (t ≡ true → is_some (f (matches_of a words)) ≡ q) → is_some (cond t (f (matches_of a words)) None) ≡ (t && q)
    go true e = e refl
    go false e = refl

taken_some : (a : App) (f : List Row → Option Operation) (words : List Text) → (takes a words ≡ true → is_some (f (matches_of a words)) ≡ true)
    → is_some (taken a f words) ≡ takes a words
taken_some a f words h = taken_where a f words true h ∙ go (takes a words)
  where
    go : (t : Bool) → (t && true) ≡ t
    go true = refl
    go false = refl

by_word : (t : Bool) (x y : Option Operation) (p q : Bool) → is_some x ≡ p → is_some y ≡ q → is_some (cond t x y) ≡ cond t p q
by_word true x y p q e f = e
by_word false x y p q e f = f

accepted_by : (names : List Text) (word : Text) (words : List Text) → is_some (operation_by names word words) ≡ is_accepted_by names word words
accepted_by names word words =
    by_word (bytes_eq word (codes "validate")) _ _ _ _ (taken_where validate_command validate_in words (suits_input validate_command words) (validates words))
    (by_word (bytes_eq word (codes "clean")) _ _ _ _ (taken_where clean_command (clean_in names) words (has_a_rule names words && suits_files clean_command words) (cleans words names))
    (by_word (bytes_eq word (codes "simplify")) _ _ _ _ (taken_where simplify_command simplify_in words (suits_files simplify_command words) (simplifies words))
    (by_word (bytes_eq word (codes "union")) _ _ _ _ (taken_where union_command union_in words (suits_files union_command words) (unites words))
    (by_word (bytes_eq word (codes "node")) _ _ _ _ (taken_where node_command node_in words (suits_input node_command words) (nodes words))
    (by_word (bytes_eq word (codes "regions")) _ _ _ _ (taken_where regions_command regions_in words (suits_input regions_command words) (lists_regions words))
    (by_word (bytes_eq word (codes "sample")) _ _ _ _ (taken_some sample_command sample_in words (samples words))
    (by_word (bytes_eq word (codes "locate")) _ _ _ _ (taken_some locate_command locate_in words (locates words))
    (by_word (bytes_eq word (codes "overlay")) _ _ _ _ (taken_some overlay_command overlay_in words (overlays words)) refl))))))))

-- words name an operation exactly where they are accepted
pub accepted : AcceptedLaw
accepted names [] = refl
accepted names (word ∷ rest) = accepted_by names word (word ∷ rest)
