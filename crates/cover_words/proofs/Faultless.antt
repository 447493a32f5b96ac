-- A command with no fault at the words takes them.
use Rattle.std.proofs.Common.{◌≡◌, ◌+◌, min, sym, ◌&&◌, ◌||◌, ◌==◌, ℕ, Bool, cond, codes, true, false, not, zero, suc, refl, ap, arith, List, [], ◌∷◌, length, Option, Some, None, is_some, nat_le, true≢false}
use Rattle.std.specs.Prelude.{nat_lt, slice_get}
use Rattle.std.specs.List.{list_all, list_any}
use Rattle.std.specs.Option.{option_map_or}
use Rattle.std.specs.Str.{bytes_eq, chars}
use Rattle.std.proofs.lemmas.Bool.{eqb-true, le-leb, ltb-false}
use Rattle.clap.specs.Lexer.{long_of, short_of}
use Rattle.clap.specs.Values.{refused_kind}
use Rattle.clap.specs.ValueTests.{accepts}
use Rattle.clap.specs.Matches.{count_text}
use Rattle.clap.specs.Facts.{explicit_source, parser_of_value, unwrap_or_range}
use Rattle.clap.specs.Walk.{Held, Names, Row, Rule, Step, Text, Waiting, Walk, next, trailing, subcommand, value, action_of, arg_by_id, arg_by_index, arg_by_long, arg_by_short, attached_value, count_of, finished, has_row, is_empty, is_pending, most_values, nothing_held, reacted, settled, subcommand_met, takes_several, takes_values, values_or_missing, walk, walk_from, walked, word_met}
use Rattle.clap.specs.Simple.{App, Shape, argument_words, built}
use Rattle.clap.specs.Kinds.{Kinds, check_kinds, or_else, range_kinds, value_kinds, values_kinds}
use Rattle.clap.specs.Faults.{action_fault, bundle_step_fault, check_fault, count_fault, fault_of, flag_word_fault, flags_fault, has_free_rules, is_free_app, is_simple_and_free, level_fault, long_fault, option_fault, other_fault, positional_fault, react_fault, settle_fault, short_fault, step_fault, stray_fault, turn_fault, use_fault, walk_fault, word_fault}
use Rattle.clap.specs.Takes.{action_passes, bundle_step_passes, count_passes, default_passes, flag_word_passes, flags_pass, is_given, is_valid, level_passes, long_passes, option_passes, other_passes, positional_passes, react_passes, settle_passes, short_passes, step_passes, takes, turn_passes, use_passes, walk_passes, word_passes}
use Rattle.clap.specs.declared.builder.action.ArgAction.{ArgAction}
use Rattle.clap.specs.declared.builder.action.ArgAction.TheVariants as action
use Rattle.clap.specs.declared.builder.value_parser.ValueParser.{ValueParser}
use Rattle.clap.specs.declared.error.kind.ErrorKind.{ErrorKind}
use Rattle.clap.specs.declared.error.kind.ErrorKind.TheVariants as kind
use Rattle.clap.proofs.FaultLemmas.{leaf_fault}
use Rattle.clap.proofs.SimpleLemmas.{is_nil}
use Rattle.clap.proofs.TakesLemmas.{leaf_takes}
use Rattle.clap.proofs.WalkLemmas.{both}
use Rattle.cover_words.specs.Matched.{is_plain}

-- where there is no kind of fault, the test passes
abbrev Passes : Kinds → Bool → Type 0
Passes kinds test = kinds ≡ [] → test ≡ true

one_kind : (k : ErrorKind) (ks : Kinds) (test : Bool) → Passes (k ∷ ks) test
one_kind k ks test e = let bad : suc (length ks) ≡ 0 = ap length e in absurd (omega arith)

first_none : (a b : Kinds) → or_else a b ≡ [] → a ≡ []
first_none [] b e = refl
first_none (k ∷ ks) b e = e

then_none : (a b : Kinds) → or_else a b ≡ [] → b ≡ []
then_none [] b e = e
then_none (k ∷ ks) b e = let bad : suc (length ks) ≡ 0 = ap length e in absurd (omega arith)

in_turn : (a b : Kinds) (p q : Bool) → Passes a p → Passes b q → Passes (or_else a b) (p && q)
in_turn a b p q f g e = rw (f (first_none a b e)) (g (then_none a b e))

chosen : (t : Bool) (a b : Kinds) (p q : Bool) → Passes a p → Passes b q → Passes (cond t a b) (cond t p q)
chosen true a b p q f g = f
chosen false a b p q f g = g

unless : (t : Bool) (a : Kinds) (p : Bool) → Passes a p → Passes (cond t [] a) (t || p)
unless true a p f = λ e. refl
unless false a p f = f

-- ---- one use of an argument

value_passing : (ignore_case : Bool) (p : ValueParser) (text : Text) → Passes (value_kinds ignore_case p text) (accepts ignore_case p text)
value_passing ignore_case p text = go (accepts ignore_case p text)
  where
    go : (t : Bool) → Passes (cond t [] (refused_kind p ∷ [])) t
    go true = λ e. refl
    go false = one_kind (refused_kind p) [] false

values_passing : (ignore_case : Bool) (p : ValueParser) (texts : List Text) → Passes (values_kinds ignore_case p texts) (list_all (accepts ignore_case p) texts)
values_passing ignore_case p [] = λ e. refl
values_passing ignore_case p (t ∷ ts) = in_turn _ _ _ _ (value_passing ignore_case p t) (values_passing ignore_case p ts)

count_passing : (a : Rule) (values : List Text) (rows : List Row) → Passes (count_fault a values rows) (count_passes a values rows)
count_passing a [] rows = value_passing a.ignore_case (parser_of_value a.parser) (count_text (min (count_of a.id rows + 1) 255))
count_passing a (v ∷ vs) rows = values_passing a.ignore_case (parser_of_value a.parser) (v ∷ vs)

repeat_passing : (again has : Bool) → Passes (cond (has && not again) (kind.ArgumentConflict ∷ []) []) (not has || again)
repeat_passing true true = λ e. refl
repeat_passing true false = λ e. refl
repeat_passing false true = one_kind _ _ _
repeat_passing false false = λ e. refl

set_passing : (again : Bool) (a : Rule) (values : List Text) (rows : List Row) → Passes (action_fault action.Set again a values rows) (action_passes action.Set again a values rows)
set_passing again a values rows = in_turn _ _ _ _ (repeat_passing again (has_row a.id rows)) (values_passing a.ignore_case (parser_of_value a.parser) values)

action_passing : (x : ArgAction) (again : Bool) (a : Rule) (values : List Text) (rows : List Row) → Passes (action_fault x again a values rows) (action_passes x again a values rows)
action_passing action.Set again a values rows = set_passing again a values rows
action_passing action.SetTrue again a values rows = set_passing again a values rows
action_passing action.SetFalse again a values rows = set_passing again a values rows
action_passing action.Append again a values rows = values_passing a.ignore_case (parser_of_value a.parser) values
action_passing action.Count again a values rows = count_passing a values rows
action_passing action.Help again a values rows = one_kind _ _ _
action_passing action.HelpShort again a values rows = one_kind _ _ _
action_passing action.HelpLong again a values rows = one_kind _ _ _
action_passing action.Version again a values rows = one_kind _ _ _

module _ (least most n : ℕ) where
  range_by : (none one same few many : Bool) → (least == most) ≡ one → (least == n) ≡ same → nat_lt n least ≡ few → nat_lt most n ≡ many
      → cond none (kind.InvalidValue ∷ []) (cond one (cond same [] (kind.WrongNumberOfValues ∷ [])) (cond few (kind.TooFewValues ∷ []) (cond many (kind.TooManyValues ∷ []) []))) ≡ []
      → (nat_le least n ≡ true) × (nat_le n most ≡ true)
  range_by true one same few many o s f m e = absurd (true≢false (sym (one_kind _ _ false e)))
  range_by false true true few many o s f m e =
      let bounds : least ≡ most = eqb-true _ _ o in
      let number : least ≡ n = eqb-true _ _ s in
      (le-leb _ _ (omega arith), le-leb _ _ (omega arith))
  range_by false true false few many o s f m e = absurd (true≢false (sym (one_kind _ _ false e)))
  range_by false false same true many o s f m e = absurd (true≢false (sym (one_kind _ _ false e)))
  range_by false false same false true o s f m e = absurd (true≢false (sym (one_kind _ _ false e)))
  range_by false false same false false o s f m e = (le-leb _ _ (ltb-false _ _ f), le-leb _ _ (ltb-false _ _ m))

  range_passing : range_kinds least most n ≡ [] → (nat_le least n ≡ true) × (nat_le n most ≡ true)
  range_passing = range_by (nat_lt 0 least && n == 0) (least == most) (least == n) (nat_lt n least) (nat_lt most n) refl refl refl refl

use_passing : (again : Bool) (a : Rule) (values : List Text) (rows : List Row) → Passes (use_fault again a values rows) (use_passes again a values rows)
use_passing again a values rows e =
    let range = range_passing (unwrap_or_range a.range).start_inclusive (most_values a) (length values) (first_none _ _ e) in
    rw (range.0, range.1) (action_passing (action_of a) again a (values_or_missing a values) rows (then_none _ _ e))

-- ---- a word

module _ (c : List Rule) (again : Bool) where
  settle_passing : (h : Held) → Passes (settle_fault c again h) (settle_passes c again h)
  settle_passing h = go h.pending
    where
      known : (p : Text × List Text) (o : Option Rule) → Passes (option_map_or (λ a. use_fault again a p.1 h.rows) o []) (option_map_or (λ a. use_passes again a p.1 h.rows) o true)
      known p None = λ e. refl
      known p (Some a) = use_passing again a p.1 h.rows

      go : (o : Option (Text × List Text)) → Passes
          (option_map_or (λ p. option_map_or (λ a. use_fault again a p.1 h.rows) (arg_by_id c p.0) []) o [])
          (option_map_or (λ p. option_map_or (λ a. use_passes again a p.1 h.rows) (arg_by_id c p.0) true) o true)
      go None = λ e. refl
      go (Some p) = known p (arg_by_id c p.0)

  react_passing : (a : Rule) (values : List Text) (h : Held) → Passes (react_fault c again a values h) (react_passes c again a values h)
  react_passing a values h = in_turn _ _ _ _ (settle_passing h) (use_passing again a values (settled c h).rows)

  option_passing : (a : Rule) (v : Option Text) (h : Held) → Passes (option_fault c again a v h) (option_passes c again a v h)
  option_passing a (Some v) h = react_passing a (v ∷ []) h
  option_passing a None h = settle_passing h

  flag_passing : (a : Rule) (v : Option Text) (h : Held)
      → Passes (cond (is_some v) (kind.TooManyValues ∷ []) (react_fault c again a [] h)) (not (is_some v) && react_passes c again a [] h)
  flag_passing a (Some v) h = one_kind _ _ _
  flag_passing a None h = react_passing a [] h

  long_passing : (found : Option Rule) (v : Option Text) (h : Held) → Passes (long_fault c again found v h) (long_passes c again found v h)
  long_passing None v h = one_kind _ _ _
  long_passing (Some a) v h = chosen (takes_values a) _ _ _ _ (option_passing a v h) (flag_passing a v h)

  short_passing : (found : Option Rule) (rest : Text) (h : Held) (f : Held → Kinds) (p : Held → Bool) → ((k : Held) → Passes (f k) (p k))
      → Passes (short_fault c again found rest h f) (short_passes c again found rest h p)
  short_passing None rest h f p more = one_kind _ _ _
  short_passing (Some a) rest h f p more = chosen (takes_values a) _ _ _ _ (option_passing a (attached_value rest) h)
      (in_turn _ _ _ _ (react_passing a [] h) (more (reacted c a [] h)))

  bundle_step_passing : (x : Option ℕ) (flags : Text) (skip : ℕ) (h : Held) (f : Text → ℕ → Held → Kinds) (p : Text → ℕ → Held → Bool)
      → ((t : Text) (s : ℕ) (k : Held) → Passes (f t s k) (p t s k))
      → Passes (bundle_step_fault c again x flags skip h f) (bundle_step_passes c again x flags skip h p)
  bundle_step_passing None flags skip h f p more = λ e. refl
  bundle_step_passing (Some x) flags zero h f p more = short_passing (arg_by_short c x) _ h _ _ (λ k. more _ 0 k)
  bundle_step_passing (Some x) flags (suc skip) h f p more = more _ skip h

  flags_passing : (k : ℕ) (flags : Text) (skip : ℕ) (h : Held) → Passes (flags_fault c again k flags skip h) (flags_pass c again k flags skip h)
  unfolding flags_fault flags_pass
  flags_passing zero flags skip h = λ e. refl
  flags_passing (suc k) flags skip h = bundle_step_passing (slice_get (chars flags) 0) flags skip h _ _ (flags_passing k)

  short_word_passing : (o : Option Text) (h : Held) → Passes
      (option_map_or (λ flags. flags_fault c again (length flags) flags h.skip (record h { skip = 0 })) o [])
      (option_map_or (λ flags. flags_pass c again (length flags) flags h.skip (record h { skip = 0 })) o true)
  short_word_passing None h = λ e. refl
  short_word_passing (Some flags) h = flags_passing (length flags) flags h.skip (record h { skip = 0 })

  flag_word_passing : (o : Option (Text × Option Text)) (word : Text) (h : Held) → Passes (flag_word_fault c again o word h) (flag_word_passes c again o word h)
  flag_word_passing (Some p) word h = long_passing (arg_by_long c p.0) p.1 h
  flag_word_passing None word h = short_word_passing (short_of word) h

  positional_passing : (a : Rule) (h : Held) → Passes (positional_fault c again a h) (positional_passes c again a h)
  positional_passing a h = unless (is_pending a h.pending && takes_several a) _ _ (settle_passing h)

module _ (s : Shape) (names : Names) where
  other_passing : (o : Option Text) (word : Text) (h : Held) → Passes (other_fault s o word h) (other_passes s o word h)
  other_passing (Some name) word h = go (bytes_eq name (codes "help")) s.disable_help_subcommand
    where
      go : (help disabled : Bool) → Passes (cond (help && not disabled) (kind.DisplayHelp ∷ kind.InvalidSubcommand ∷ []) []) (not help || disabled)
      go true true = λ e. refl
      go true false = one_kind _ _ _
      go false disabled = λ e. refl
  other_passing None word h = unless (bytes_eq word (45 ∷ 45 ∷ [])) _ _ (flag_word_passing s.rules s.args_override_self (long_of word) word h)

  word_passing : (is_trailing : Bool) (waiting : Waiting) (word : Text) (h : Held)
      → Passes (word_fault s names is_trailing waiting word h) (word_passes s names is_trailing waiting word h)
  word_passing is_trailing waiting word h = unless is_trailing _ _ (other_passing (subcommand_met names waiting word) word h)

  stray_passing : (leaf : Bool) → Passes (cond leaf (kind.UnknownArgument ∷ []) (kind.UnknownArgument ∷ kind.InvalidSubcommand ∷ [])) false
  stray_passing true = one_kind _ _ _
  stray_passing false = one_kind _ _ _

  step_passing : (position : ℕ) (h : Held) (step : Step) → Passes (step_fault s position h step) (step_passes s position h step)
  step_passing position h value = go (arg_by_index s.rules position)
    where
      go : (o : Option Rule) → Passes (option_map_or (λ a. positional_fault s.rules s.args_override_self a h) o (stray_fault s))
          (option_map_or (λ a. positional_passes s.rules s.args_override_self a h) o false)
      go None = stray_passing s.is_leaf
      go (Some a) = positional_passing s.rules s.args_override_self a h
  step_passing position h (next waiting) = λ e. refl
  step_passing position h (trailing k) = λ e. refl
  step_passing position h (subcommand name) = λ e. refl

  turn_passing : (w : Walk) (word : Text) → Passes (turn_fault s names w word) (turn_passes s names w word)
  turn_passing w word =
      let met = word_met s.rules names w.is_trailing w.waiting w.position word w.held in
      unless (is_some w.stopped) _ _ (in_turn _ _ _ _ (word_passing w.is_trailing w.waiting word w.held) (step_passing w.position met.0 met.1))

  walk_passing : (w : Walk) (words : List Text) → Passes (walk_fault s names w words) (walk_passes s names w words)
  unfolding walk_fault walk_passes
  walk_passing w [] = λ e. refl
  walk_passing w (word ∷ rest) = in_turn _ _ _ _ (turn_passing w word) (walk_passing (walked s.rules names w word) rest)

-- ---- after the walk

required_given : (f : Rule → Bool) (g : Rule → Bool) (rules : List Rule) → list_any (λ a. f a && not (g a)) rules ≡ false → list_all (λ a. not (f a) || g a) rules ≡ true
required_given f g [] e = refl
required_given f g (a ∷ rest) e = go (f a) (g a) (required_given f g rest) e
  where
    go : (x y : Bool) → (list_any (λ b. f b && not (g b)) rest ≡ false → list_all (λ b. not (f b) || g b) rest ≡ true)
        → ((x && not y) || list_any (λ b. f b && not (g b)) rest) ≡ false → ((not x || y) && list_all (λ b. not (f b) || g b) rest) ≡ true
    go true true more h = more h
    go true false more h = absurd (true≢false h)
    go false y more h = more h

check_passing : (help some sub negates missing free given : Bool) → free ≡ true → (missing ≡ false → given ≡ true)
    → Passes (check_kinds (true && (help && not some)) (true && sub) (not (negates && false) && missing))
    ((not help || (false || some)) && ((not sub || false) && (free && ((negates && false) || given))))
check_passing true false sub negates missing free given is all = one_kind _ _ _
check_passing true true true negates missing free given is all = one_kind _ _ _
check_passing false some true negates missing free given is all = one_kind _ _ _
check_passing true true false true true free given is all = one_kind _ _ _
check_passing true true false false true free given is all = one_kind _ _ _
check_passing false some false true true free given is all = one_kind _ _ _
check_passing false some false false true free given is all = one_kind _ _ _
check_passing true true false true false free given is all = λ e. rw (is, all refl) refl
check_passing true true false false false free given is all = λ e. rw (is, all refl) refl
check_passing false some false true false free given is all = λ e. rw (is, all refl) refl
check_passing false some false false false free given is all = λ e. rw (is, all refl) refl

valid_passing : (s : Shape) (rows : List Row) → has_free_rules s ≡ true → Passes (check_fault s rows false) (is_valid s rows false)
valid_passing s rows free = check_passing s.arg_required_else_help (list_any (λ (r : Row). explicit_source r.source) rows) s.subcommand_required s.subcommand_negates_reqs
    (list_any (λ (a : Rule). a.required && not (is_given a.id rows)) s.rules) (has_free_rules s) (list_all (λ (a : Rule). not a.required || is_given a.id rows) s.rules)
    free (required_given (λ a. a.required) (λ a. is_given a.id rows) s.rules)

level_passing : (s : Shape) (h : Held) (words : List Text) → has_free_rules s ≡ true → list_all default_passes s.rules ≡ true
    → Passes (level_fault s [] h words false []) (level_passes s [] h words false)
level_passing s h words free defaults e =
    let end = (walk s.rules [] h words).held in
    let after = then_none (walk_fault s [] (walk_from h) words) _ e in
    let walked = walk_passing s [] (walk_from h) words (first_none _ _ e) in
    let settles = settle_passing s.rules s.args_override_self end (first_none _ _ after) in
    let valid = valid_passing s (finished s.rules end) free (then_none _ _ (then_none _ _ after)) in
    rw (walked, settles, defaults, valid) refl

-- a plain command with no fault at the words takes them
pub faultless_takes : (a : App) (words : List Text) → is_plain a ≡ true → fault_of a words ≡ [] → takes a words ≡ true
faultless_takes a words plain none =
    let parts = both (is_simple_and_free a) _ plain in
    let more = both (is_empty (built a).subs) _ parts.1 in
    let simple = both _ (is_free_app (built a)) parts.0 in
    let free = both (has_free_rules (built a).top) _ simple.1 in
    let alone = is_nil (built a).subs more.0 in
    let here = rw (leaf_fault (built a) nothing_held (argument_words a words) alone) at none in
    rw simple.0 (leaf_takes (built a) nothing_held (argument_words a words) alone
    (level_passing (built a).top nothing_held (argument_words a words) free.0 more.1 here))
