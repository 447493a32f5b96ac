-- The rows of words that a command takes: each value has passed its argument's parser, and none lacks a value.
use Rattle.std.proofs.Common.{◌≡◌, ◌∙◌, ◌&&◌, ◌||◌, ◌++◌, ◌<◌, ℕ, Bool, cond, true, false, not, zero, suc, refl, ap, sym, subst, arith, List, [], ◌∷◌, length, length-append, fold, drop, find, Option, Some, None, is_some, nat_le, true≢false, unwrap_or}
use Rattle.std.specs.Prelude.{⊤, nat_lt, slice_get, encode_utf8}
use Rattle.std.specs.List.{list_all}
use Rattle.std.specs.Option.{option_map_or}
use Rattle.std.specs.Str.{bytes_eq, chars}
use Rattle.std.proofs.lemmas.Bool.{leb-true, ltb-true, ne_eqb}
use Rattle.std.proofs.lemmas.Slice.Eq.{bytes_eq-Decides}
use Rattle.clap.specs.Lexer.{long_of, short_of}
use Rattle.clap.specs.Values.{is_request, read_as}
use Rattle.clap.specs.Facts.{explicit_source, unwrap_or_range}
use Rattle.clap.specs.Walk.{Held, Names, Outcome, Row, Rule, Step, Text, Waiting, Walk, action_of, after_flag, after_step, arg_by_id, arg_by_index, arg_by_long, arg_by_short, at_row, attached_value, bundle, bundle_met, bundle_step, default_rows, done, first_of, flag_met, idle, positional, has_row, is_empty, is_pending, long_met, long_or_other, more_values, most_values, next, one_of, option, option_met, option_word, plain, plain_word, positional_held, reacted, reading_by, refused, settled, settled_rows, short_met, short_or_plain, subcommand, subcommand_met, subcommand_or_other, takes_several, takes_values, to_positional, trailing, used, used_as, used_by_id, value, values_or_missing, waits, walked, walked_from, with_default, with_values, without, word_met}
use Rattle.clap.specs.Simple.{Shape}
use Rattle.clap.specs.Takes.{action_passes, bundle_step_passes, default_passes, flag_word_passes, flags_pass, is_given, long_passes, option_passes, other_passes, positional_passes, react_passes, settle_passes, short_passes, step_passes, turn_passes, use_passes, value_passes, values_pass, walk_passes, word_passes}
use Rattle.clap.specs.declared.builder.action.ArgAction.{ArgAction}
use Rattle.clap.specs.declared.builder.action.ArgAction.TheVariants as action
use Rattle.clap.specs.declared.parser.matches.ValueSource.{ValueSource}
use Rattle.clap.specs.declared.parser.matches.ValueSource.TheVariants.{DefaultValue, CommandLine}
use Rattle.clap.proofs.WalkLemmas.{both}

-- an action that isn't a count
abbrev pub is_plain_action : ArgAction → Bool
is_plain_action action.Count = false
is_plain_action _ = true

-- a use of the argument asks for help or the version, or always has a value
abbrev pub is_valued : Rule → Bool
is_valued a = is_request (action_of a) || (is_plain_action (action_of a) && (nat_lt 0 (unwrap_or_range a.range).start_inclusive || nat_lt 0 (length a.missing)))

values_pass-append : (a : Rule) (xs ys : List Text) → values_pass a xs ≡ true → values_pass a ys ≡ true → values_pass a (xs ++ ys) ≡ true
values_pass-append a [] ys f g = g
values_pass-append a (x ∷ xs) ys f g =
    let parts = both (value_passes a x) _ f in
    rw parts.0 (values_pass-append a xs ys parts.1 g)

first_of_two : (a b : Bool) → (a || b) ≡ true → a ≡ false → b ≡ true
first_of_two true b e f = absurd (true≢false f)
first_of_two false b e f = e

module _ (c : List Rule) where
  -- the argument is the one of its id
  abbrev pub Owns : Rule → Type 0
  Owns a = (arg_by_id c a.id ≡ Some a) × (is_valued a ≡ true)

  abbrev pub AllOwn : List Rule → Type 0
  AllOwn [] = ⊤
  AllOwn (a ∷ rest) = Owns a × AllOwn rest

  abbrev pub Sound : Row → Type 0
  Sound r = (a : Rule) → arg_by_id c r.id ≡ Some a → (0 < length r.values) × (values_pass a r.values ≡ true) × (r.reading ≡ reading_by a)

  abbrev pub AllSound : List Row → Type 0
  AllSound [] = ⊤
  AllSound (r ∷ rest) = Sound r × AllSound rest

  found_owns : (p : Rule → Bool) (xs : List Rule) → AllOwn xs → (a : Rule) → find p xs ≡ Some a → Owns a
  found_owns p [] all a e = absurd (true≢false (sym (ap is_some e)))
  found_owns p (x ∷ xs) all a e = go (p x) (λ f. found_owns p xs all.1 a f) e
    where
      go : (t : Bool) → (find p xs ≡ Some a → Owns a) → cond t (Some x) (find p xs) ≡ Some a → Owns a
      go true rest f = subst Owns (ap (λ o. unwrap_or o x) f) all.0
      go false rest f = rest f

  sound-append : (xs ys : List Row) → AllSound xs → AllSound ys → AllSound (xs ++ ys)
  sound-append [] ys f g = g
  sound-append (x ∷ xs) ys f g = (f.0, sound-append xs ys f.1 g)

  at_row_sound : (id : Text) (change : Row → List Row) (missing rows : List Row) → AllSound rows → ((r : Row) → bytes_eq r.id id ≡ true → Sound r → AllSound (change r))
      → AllSound missing → AllSound (at_row id change missing rows)
  at_row_sound id change missing [] all changed none = none
  at_row_sound id change missing (r ∷ rs) all changed none = go (bytes_eq r.id id) refl (at_row_sound id change missing rs all.1 changed none)
    where
      go : (t : Bool) → bytes_eq r.id id ≡ t → AllSound (at_row id change missing rs) → AllSound (cond t (change r ++ rs) (r ∷ at_row id change missing rs))
      go true same rest = sound-append (change r) rs (changed r same all.0) all.1
      go false same rest = (all.0, rest)

  without_sound : (id : Text) (rows : List Row) → AllSound rows → AllSound (without id rows)
  without_sound id rows all = at_row_sound id (λ _. []) [] rows all (λ r same s. tt) tt

  with_values_sound : (a : Rule) (s : ValueSource) (vs : List Text) (rows : List Row) → arg_by_id c a.id ≡ Some a → 0 < length vs → values_pass a vs ≡ true
      → AllSound rows → AllSound (with_values a.id (reading_by a) s vs rows)
  with_values_sound a s vs rows own some pass all = at_row_sound a.id (more_values s vs) _ rows all changed (new, tt)
    where
      one : (b : Rule) → arg_by_id c a.id ≡ Some b → b ≡ a
      one b e = ap (λ o. unwrap_or o a) (sym e ∙ own)

      new : (b : Rule) → arg_by_id c a.id ≡ Some b → (0 < length vs) × (values_pass b vs ≡ true) × (reading_by a ≡ reading_by b)
      new b e = let same = one b e in rw same (some, pass, refl)

      changed : (r : Row) → bytes_eq r.id a.id ≡ true → Sound r → AllSound (more_values s vs r)
      changed r here sound =
          let id : r.id ≡ a.id = (bytes_eq-Decides r.id a.id).0 here in (
            (λ b e.
                let h = sound b e in
                let same : b ≡ a = one b (rw (← id) e) in
                (rw length-append (omega arith), values_pass-append b r.values vs h.1 (rw same pass), h.2)),
            tt,
          )

  module _ (again : Bool) where
    used_as_sound : (x : ArgAction) (a : Rule) (vs : List Text) (rows : List Row) → arg_by_id c a.id ≡ Some a → (is_request x ≡ false → (is_plain_action x ≡ true) × (0 < length vs))
        → action_passes x again a vs rows ≡ true → AllSound rows → AllSound (used_as x a.id (reading_by a) vs rows)
    used_as_sound action.Set a vs rows own valued pass all =
        with_values_sound a CommandLine vs _ own (valued refl).1 (both (not (has_row a.id rows) || again) _ pass).1 (without_sound a.id rows all)
    used_as_sound action.SetTrue a vs rows own valued pass all =
        with_values_sound a CommandLine vs _ own (valued refl).1 (both (not (has_row a.id rows) || again) _ pass).1 (without_sound a.id rows all)
    used_as_sound action.SetFalse a vs rows own valued pass all =
        with_values_sound a CommandLine vs _ own (valued refl).1 (both (not (has_row a.id rows) || again) _ pass).1 (without_sound a.id rows all)
    used_as_sound action.Append a vs rows own valued pass all = with_values_sound a CommandLine vs rows own (valued refl).1 pass all
    used_as_sound action.Count a vs rows own valued pass all = absurd (true≢false (sym (valued refl).0))
    used_as_sound action.Help a vs rows own valued pass all = all
    used_as_sound action.HelpShort a vs rows own valued pass all = all
    used_as_sound action.HelpLong a vs rows own valued pass all = all
    used_as_sound action.Version a vs rows own valued pass all = all

    some_value : (least : ℕ) (a : Rule) (values : List Text) → (nat_lt 0 least || nat_lt 0 (length a.missing)) ≡ true → nat_le least (length values) ≡ true
        → 0 < length (values_or_missing a values)
    some_value zero a [] e le = ltb-true _ _ e
    some_value (suc k) a [] e le = let bad = leb-true _ _ le in absurd (omega arith)
    some_value least a (v ∷ vs) e le = omega arith

    used_sound : (a : Rule) (values : List Text) (rows : List Row) → Owns a → use_passes again a values rows ≡ true → AllSound rows → AllSound (used a values rows)
    used_sound a values rows own pass all =
        let least = both (nat_le (unwrap_or_range a.range).start_inclusive (length values)) _ pass in
        let most = both (nat_le (length values) (most_values a)) _ least.1 in
        used_as_sound (action_of a) a (values_or_missing a values) rows own.0
        (λ asks.
        let valued = both (is_plain_action (action_of a)) _ (first_of_two (is_request (action_of a)) _ own.1 asks) in
        (valued.0, some_value (unwrap_or_range a.range).start_inclusive a values valued.1 least.0))
        most.1 all

    module _ (all_own : AllOwn c) where
      pub settled_sound : (h : Held) → settle_passes c again h ≡ true → AllSound h.rows → AllSound (settled c h).rows
      settled_sound h pass all = go h.pending pass
        where
          known : (p : Text × List Text) (o : Option Rule) → ((a : Rule) → o ≡ Some a → Owns a) → option_map_or (λ a. use_passes again a p.1 h.rows) o true ≡ true
              → AllSound (used_by_id o p.1 h.rows)
          known p None owns e = all
          known p (Some a) owns e = used_sound a p.1 h.rows (owns a refl) e all

          go : (o : Option (Text × List Text)) → option_map_or (λ p. option_map_or (λ a. use_passes again a p.1 h.rows) (arg_by_id c p.0) true) o true ≡ true
              → AllSound (settled_rows c o h.rows)
          go None e = all
          go (Some p) e = known p (arg_by_id c p.0) (found_owns _ c all_own) e

      reacted_sound : (a : Rule) (values : List Text) (h : Held) → Owns a → react_passes c again a values h ≡ true → AllSound h.rows → AllSound (reacted c a values h).rows
      reacted_sound a values h own pass all =
          let parts = both (settle_passes c again h) _ pass in
          used_sound a values (settled c h).rows own parts.1 (settled_sound h parts.0 all)

      option_sound : (a : Rule) (v : Option Text) (h : Held) → Owns a → option_passes c again a v h ≡ true → AllSound h.rows → AllSound (option_met c a v h).0.rows
      option_sound a (Some v) h own pass all = reacted_sound a (v ∷ []) h own pass all
      option_sound a None h own pass all = settled_sound h pass all

      flag_sound : (a : Rule) (v : Option Text) (h : Held) → Owns a → (not (is_some v) && react_passes c again a [] h) ≡ true → AllSound h.rows
          → AllSound (flag_met c a v h).0.rows
      flag_sound a (Some v) h own pass all = all
      flag_sound a None h own pass all = reacted_sound a [] h own pass all

      long_sound : (o : Option Rule) (v : Option Text) (h : Held) → ((a : Rule) → o ≡ Some a → Owns a) → long_passes c again o v h ≡ true → AllSound h.rows
          → AllSound (long_met c o v h).0.rows
      long_sound None v h owns pass all = all
      long_sound (Some a) v h owns pass all = go (takes_values a) pass
        where
          go : (t : Bool) → cond t (option_passes c again a v h) (not (is_some v) && react_passes c again a [] h) ≡ true
              → AllSound (cond t (option_met c a v h) (flag_met c a v h)).0.rows
          go true e = option_sound a v h (owns a refl) e all
          go false e = flag_sound a v h (owns a refl) e all

      short_sound : (o : Option Rule) (rest : Text) (h : Held) (f : Held → Held × Outcome) (p : Held → Bool) → ((a : Rule) → o ≡ Some a → Owns a)
          → ((k : Held) → p k ≡ true → AllSound k.rows → AllSound (f k).0.rows) → short_passes c again o rest h p ≡ true → AllSound h.rows
          → AllSound (short_met c o rest h f).0.rows
      short_sound None rest h f p owns more pass all = all
      short_sound (Some a) rest h f p owns more pass all = go (takes_values a) pass
        where
          go : (t : Bool) → cond t (option_passes c again a (attached_value rest) h) (react_passes c again a [] h && p (reacted c a [] h)) ≡ true
              → AllSound (cond t (option_met c a (attached_value rest) h) (f (reacted c a [] h))).0.rows
          go true e = option_sound a (attached_value rest) h (owns a refl) e all
          go false e =
              let parts = both (react_passes c again a [] h) _ e in
              more (reacted c a [] h) parts.1 (reacted_sound a [] h (owns a refl) parts.0 all)

      bundle_step_sound : (x : Option ℕ) (flags : Text) (skip : ℕ) (so_far : Outcome) (h : Held) (f : Text → ℕ → Outcome → Held → Held × Outcome) (p : Text → ℕ → Held → Bool)
          → ((t : Text) (s : ℕ) (o : Outcome) (k : Held) → p t s k ≡ true → AllSound k.rows → AllSound (f t s o k).0.rows)
          → bundle_step_passes c again x flags skip h p ≡ true → AllSound h.rows → AllSound (bundle_step c x flags skip so_far h f).0.rows
      bundle_step_sound None flags skip so_far h f p more pass all = all
      bundle_step_sound (Some x) flags zero so_far h f p more pass all =
          let rest = drop (length (encode_utf8 x)) flags in
          short_sound (arg_by_short c x) rest h (f rest 0 done) (p rest 0) (found_owns _ c all_own) (more rest 0 done) pass all
      bundle_step_sound (Some x) flags (suc skip) so_far h f p more pass all = more _ skip so_far h pass all

      pub bundle_sound : (k : ℕ) (flags : Text) (skip : ℕ) (so_far : Outcome) (h : Held) → flags_pass c again k flags skip h ≡ true → AllSound h.rows
          → AllSound (bundle_met c k flags skip so_far h).0.rows
      unfolding flags_pass bundle_met
      bundle_sound zero flags skip so_far h pass all = all
      bundle_sound (suc k) flags skip so_far h pass all =
          bundle_step_sound (slice_get (chars flags) 0) flags skip so_far h (bundle_met c k) (flags_pass c again k) (bundle_sound k) pass all

      option_word_rows : (o : Option Rule) (id word : Text) (h : Held) → (option_word o id word h).0.rows ≡ h.rows
      option_word_rows None id word h = refl
      option_word_rows (Some a) id word h = refl

      pub plain_rows : (w : Waiting) (word : Text) (h : Held) → (plain_word c w word h).0.rows ≡ h.rows
      plain_rows (option id) word h = option_word_rows (arg_by_id c id) id word h
      plain_rows idle word h = refl
      plain_rows positional word h = refl

      after_flag_rows : (w : Waiting) (word : Text) (h : Held) (o : Outcome) → (after_flag c w word h o).0.rows ≡ h.rows
      after_flag_rows w word h done = refl
      after_flag_rows w word h (waits id) = refl
      after_flag_rows w word h plain = plain_rows w word h
      after_flag_rows w word h refused = plain_rows w word h

      after_flag_sound : (w : Waiting) (word : Text) (h : Held) (o : Outcome) → AllSound h.rows → AllSound (after_flag c w word h o).0.rows
      after_flag_sound w word h o all = subst AllSound (sym (after_flag_rows w word h o)) all

      short_word_sound : (o : Option Text) (w : Waiting) (word : Text) (h : Held)
          → option_map_or (λ flags. flags_pass c again (length flags) flags h.skip (record h { skip = 0 })) o true ≡ true → AllSound h.rows
          → AllSound (short_or_plain c w word o h).0.rows
      short_word_sound None w word h pass all = subst AllSound (sym (plain_rows w word h)) all
      short_word_sound (Some flags) w word h pass all =
          after_flag_sound w word _ (bundle c flags h).1 (bundle_sound (length flags) flags h.skip plain (record h { skip = 0 }) pass all)

      flag_word_sound : (o : Option (Text × Option Text)) (w : Waiting) (word : Text) (h : Held) → flag_word_passes c again o word h ≡ true → AllSound h.rows
          → AllSound (long_or_other c w word o h).0.rows
      flag_word_sound (Some p) w word h pass all =
          after_flag_sound w word _ (long_met c (arg_by_long c p.0) p.1 h).1 (long_sound (arg_by_long c p.0) p.1 h (found_owns _ c all_own) pass all)
      flag_word_sound None w word h pass all = short_word_sound (short_of word) w word h pass all

      positional_sound : (a : Rule) (word : Text) (h : Held) → positional_passes c again a h ≡ true → AllSound h.rows → AllSound (positional_held c a word h).rows
      positional_sound a word h pass all = go (is_pending a h.pending && takes_several a) pass
        where
          go : (t : Bool) → (t || settle_passes c again h) ≡ true → AllSound (cond t h (settled c h)).rows
          go true e = all
          go false e = settled_sound h e all

  default_sound : (rows : List Row) (a : Rule) → Owns a → default_passes a ≡ true → AllSound rows → AllSound (with_default rows a)
  default_sound rows a own pass all = go (has_row a.id rows)
    where
      given : (values : List Text) → (is_empty values || values_pass a values) ≡ true → AllSound (default_rows a.id (reading_by a) values rows)
      given [] e = all
      given (v ∷ vs) e = with_values_sound a DefaultValue (v ∷ vs) rows own.0 (omega arith) (first_of_two (is_empty (v ∷ vs)) (values_pass a (v ∷ vs)) e (ne_eqb _ _ (λ none. omega arith))) all

      either : (x y z : Bool) → (x || (y && z)) ≡ true → (x || z) ≡ true
      either true y z e = refl
      either false y z e = (both y z e).1

      go : (t : Bool) → AllSound (cond t rows (default_rows a.id (reading_by a) a.defaults rows))
      go true = all
      go false = given a.defaults (either (is_empty a.defaults) _ (values_pass a a.defaults) pass)

  pub defaults_sound : (xs : List Rule) (rows : List Row) → AllOwn xs → list_all default_passes xs ≡ true → AllSound rows → AllSound (fold with_default rows xs)
  defaults_sound [] rows own pass all = all
  defaults_sound (x ∷ xs) rows own pass all =
      let parts = both (default_passes x) _ pass in
      defaults_sound xs (with_default rows x) own.1 parts.1 (default_sound rows x own.0 parts.0 all)

module _ (s : Shape) (names : Names) (all_own : AllOwn s.rules s.rules) where
  other_sound : (o : Option Text) (w : Waiting) (position : ℕ) (word : Text) (h : Held) → other_passes s o word h ≡ true → AllSound s.rules h.rows
      → AllSound s.rules (subcommand_or_other s.rules o w position word h).0.rows
  other_sound (Some name) w position word h pass all = all
  other_sound None w position word h pass all = go (bytes_eq word (45 ∷ 45 ∷ [])) pass
    where
      go : (t : Bool) → (t || flag_word_passes s.rules s.args_override_self (long_of word) word h) ≡ true
          → AllSound s.rules (cond t (h, trailing position) (long_or_other s.rules w word (long_of word) h)).0.rows
      go true e = all
      go false e = flag_word_sound s.rules s.args_override_self all_own (long_of word) w word h e all

  word_sound : (is_trailing : Bool) (w : Waiting) (position : ℕ) (word : Text) (h : Held) → word_passes s names is_trailing w word h ≡ true → AllSound s.rules h.rows
      → AllSound s.rules (word_met s.rules names is_trailing w position word h).0.rows
  word_sound true w position word h pass all = all
  word_sound false w position word h pass all = other_sound (subcommand_met names w word) w position word h pass all

  step_sound : (word : Text) (w : Walk) (h : Held) (step : Step) → step_passes s w.position h step ≡ true → AllSound s.rules h.rows
      → AllSound s.rules (after_step s.rules word w h step).held.rows
  step_sound word w h value pass all = go (arg_by_index s.rules w.position) pass
    where
      go : (o : Option Rule) → option_map_or (λ a. positional_passes s.rules s.args_override_self a h) o false ≡ true
          → AllSound s.rules (to_positional s.rules o word w h).held.rows
      go None e = all
      go (Some a) e = positional_sound s.rules s.args_override_self all_own a word h e all
  step_sound word w h (next waiting) pass all = all
  step_sound word w h (trailing k) pass all = all
  step_sound word w h (subcommand name) pass all = all

  turn_sound : (w : Walk) (word : Text) → turn_passes s names w word ≡ true → AllSound s.rules w.held.rows → AllSound s.rules (walked s.rules names w word).held.rows
  unfolding walked
  turn_sound w word pass all = go w.stopped pass
    where
      met : Held × Step
      met = word_met s.rules names w.is_trailing w.waiting w.position word w.held

      go : (o : Option (Text × List Text)) → (is_some o || (word_passes s names w.is_trailing w.waiting word w.held && step_passes s w.position met.0 met.1)) ≡ true
          → AllSound s.rules (walked_from s.rules names o w word).held.rows
      go (Some p) e = all
      go None e =
          let parts = both (word_passes s names w.is_trailing w.waiting word w.held) _ e in
          step_sound word w met.0 met.1 parts.1 (word_sound w.is_trailing w.waiting w.position word w.held parts.0 all)

  -- the rows of a walk that passes are sound
  pub walk_sound : (w : Walk) (words : List Text) → walk_passes s names w words ≡ true → AllSound s.rules w.held.rows
      → AllSound s.rules (fold (walked s.rules names) w words).held.rows
  unfolding walk_passes
  walk_sound w [] pass all = all
  walk_sound w (word ∷ rest) pass all =
      let parts = both (turn_passes s names w word) _ pass in
      walk_sound (walked s.rules names w word) rest parts.1 (turn_sound w word parts.0 all)

-- ---- which rows there are

with_values_keeps : (id other : Text) (how : _) (s : ValueSource) (vs : List Text) (rows : List Row) → has_row id rows ≡ true → has_row id (with_values other how s vs rows) ≡ true
with_values_keeps id other how s vs [] e = absurd (true≢false (sym e))
with_values_keeps id other how s vs (r ∷ rs) e = go (bytes_eq r.id other) (with_values_keeps id other how s vs rs)
  where
    rest : (t : Bool) (x y : Bool) → (x ≡ true → y ≡ true) → (t || x) ≡ true → (t || y) ≡ true
    rest true x y f e = refl
    rest false x y f e = f e

    go : (t : Bool) → (has_row id rs ≡ true → has_row id (with_values other how s vs rs) ≡ true)
        → has_row id (cond t (more_values s vs r ++ rs) (r ∷ with_values other how s vs rs)) ≡ true
    go true more = e
    go false more = rest (bytes_eq r.id id) (has_row id rs) (has_row id (with_values other how s vs rs)) more e

with_values_has : (id : Text) (how : _) (s : ValueSource) (vs : List Text) (rows : List Row) → has_row id (with_values id how s vs rows) ≡ true
with_values_has id how s vs [] = rw ((bytes_eq-Decides id id).1 refl) refl
with_values_has id how s vs (r ∷ rs) = go (bytes_eq r.id id) refl (with_values_has id how s vs rs)
  where
    go : (t : Bool) → bytes_eq r.id id ≡ t → has_row id (with_values id how s vs rs) ≡ true
        → has_row id (cond t (more_values s vs r ++ rs) (r ∷ with_values id how s vs rs)) ≡ true
    go true same more = rw same refl
    go false same more = rw same more

default_keeps : (id : Text) (rows : List Row) (a : Rule) → has_row id rows ≡ true → has_row id (with_default rows a) ≡ true
default_keeps id rows a e = go (has_row a.id rows) a.defaults
  where
    go : (t : Bool) (values : List Text) → has_row id (cond t rows (default_rows a.id (reading_by a) values rows)) ≡ true
    go true values = e
    go false [] = e
    go false (v ∷ vs) = with_values_keeps id a.id (reading_by a) DefaultValue (v ∷ vs) rows e

default_has : (rows : List Row) (a : Rule) → 0 < length a.defaults → has_row a.id (with_default rows a) ≡ true
default_has rows a some = go (has_row a.id rows) refl a.defaults some
  where
    go : (t : Bool) → has_row a.id rows ≡ t → (values : List Text) → 0 < length values
        → has_row a.id (cond t rows (default_rows a.id (reading_by a) values rows)) ≡ true
    go true e values lt = e
    go false e [] lt = absurd (omega arith)
    go false e (v ∷ vs) lt = with_values_has a.id (reading_by a) DefaultValue (v ∷ vs) rows

defaults_keep : (id : Text) (xs : List Rule) (rows : List Row) → has_row id rows ≡ true → has_row id (fold with_default rows xs) ≡ true
defaults_keep id [] rows e = e
defaults_keep id (x ∷ xs) rows e = defaults_keep id xs (with_default rows x) (default_keeps id rows x e)

-- an argument with a default has a row
pub defaults_have : (p : Rule → Bool) (xs : List Rule) (rows : List Row) (a : Rule) → find p xs ≡ Some a → 0 < length a.defaults → has_row a.id (fold with_default rows xs) ≡ true
defaults_have p [] rows a e some = absurd (true≢false (sym (ap is_some e)))
defaults_have p (x ∷ xs) rows a e some = go (p x) (λ f. defaults_have p xs (with_default rows x) a f some) e
  where
    go : (t : Bool) → (find p xs ≡ Some a → has_row a.id (fold with_default (with_default rows x) xs) ≡ true) → cond t (Some x) (find p xs) ≡ Some a
        → has_row a.id (fold with_default (with_default rows x) xs) ≡ true
    go true more f =
        let same : x ≡ a = ap (λ o. unwrap_or o x) f in
        defaults_keep a.id xs (with_default rows x) (rw same (default_has rows a some))
    go false more f = more f

-- an argument that was given has a row
pub given_has : (id : Text) (rows : List Row) → is_given id rows ≡ true → has_row id rows ≡ true
given_has id [] e = absurd (true≢false (sym e))
given_has id (r ∷ rs) e = go (bytes_eq r.id id) (given_has id rs) e
  where
    go : (t : Bool) → (is_given id rs ≡ true → has_row id rs ≡ true) → option_map_or (λ x. explicit_source x.source) (cond t (Some r) (find (λ x. bytes_eq x.id id) rs)) false ≡ true
        → (t || has_row id rs) ≡ true
    go true more f = refl
    go false more f = more f

-- the argument has a value, which passes its parser
pub record Present (a : Rule) (rows : List Row) : Type 0 where
  pub text : Text
  pub first : first_of a.id rows ≡ Some text
  pub read : one_of a.id rows ≡ Some (read_as (reading_by a) text)
  pub passes : value_passes a text ≡ true

pub present : (c : List Rule) (a : Rule) (rows : List Row) → arg_by_id c a.id ≡ Some a → AllSound c rows → has_row a.id rows ≡ true → Present a rows
present c a [] own all has = absurd (true≢false (sym has))
present c a (r ∷ rs) own all has = go (bytes_eq r.id a.id) refl (present c a rs own all.1)
  where
    values_of : (vs : List Text) → 0 < length vs → values_pass a vs ≡ true → (v : Text) × (slice_get vs 0 ≡ Some v) × (value_passes a v ≡ true)
    values_of [] lt e = absurd (omega arith)
    values_of (v ∷ vs) lt e = (v, refl, (both (value_passes a v) _ e).0)

    go : (t : Bool) → bytes_eq r.id a.id ≡ t → (has_row a.id rs ≡ true → Present a rs) → Present a (r ∷ rs)
    go true same more =
        let id : r.id ≡ a.id = (bytes_eq-Decides r.id a.id).0 same in
        let h = all.0 a (rw id own) in
        let v = values_of r.values h.0 h.1 in
        record { text = v.0; first = rw (same, v.1) refl; read = rw (same, v.1, h.2) refl; passes = v.2 }
    go false same more =
        let later = more (rw same at has) in
        record { text = later.text; first = rw same later.first; read = rw same later.read; passes = later.passes }
