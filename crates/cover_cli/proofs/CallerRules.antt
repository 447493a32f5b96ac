-- Where a cleaning by a handed-in rule is done, what was read for the text is what the rule was asked about.
use Rattle.std.proofs.Common.{◌≡◌, ℕ, Bool, List, [], ◌∷◌, get_or, Option, IsTrue, refl, subst}
use Rattle.cov_io.specs.State.{State}
use Rattle.feature_files.proofs.Files.{one_reading}
use Rattle.geo_json.specs.Reading.{Reading}
use Rattle.merge_rule.specs.RuleState.{RuleState, no_state}
use Rattle.cov_rules.specs.Asked.{IsAskedAll}
use Rattle.cover_cli.proofs.Inputs.{same_inputs}
use Rattle.cover_cli.specs.Answers.{HoldsText}
use Rattle.cover_cli.specs.CallerRules.{HoldsByRule, CallerRulesLaw}
use Rattle.cover_cli.specs.Clean.{IsCleaning}
use Rattle.cover_cli.specs.Handed.{HasReadAnd}
use Rattle.cover_cli.specs.Input.{AreInputs}
use Rattle.cover_cli.specs.Made.{Makes}
use Rattle.cover_cli.specs.Task.{HandedIn}
use Rattle.cover_cli.specs.Text.{IsReadAnd}
use Rattle.cover_cli.specs.declared.outcome.Outcome.TheVariants.{Done}
use Rattle.cover_words.specs.Words.{Clean}

module _ (numbers : RuleState) (gap : ℕ) (too : Bool) (scale : Option ℕ) (from to : List ℕ) (old new : State) (now : RuleState) (told : IsTrue old.tells_files)
    (h : HoldsText (Clean (HandedIn numbers) gap too scale from to) old new Done) (left : HasReadAnd old from scale (λ r. IsAskedAll r.members gap too numbers now)) where
  read : AreInputs old (from ∷ []) (left.input ∷ [])
  read = (left.held told, tt)

  -- the text was made of the input that the rule was asked about
  made : IsReadAnd from scale left.input (λ r. IsCleaning (HandedIn numbers) gap too scale to r Done h.text)
  made =
      let same = same_inputs old (from ∷ []) h.writes.inputs (left.input ∷ []) h.writes.read read in
      subst (λ inputs. Makes (Clean (HandedIn numbers) gap too scale from to) inputs Done h.text) same h.writes.makes

  -- and of its reading
  cleaning : IsCleaning (HandedIn numbers) gap too scale to left.read.reading Done h.text
  cleaning =
      let same : made.reading ≡ left.read.reading = one_reading from scale left.input made.reading left.read.reading made.reads left.read.reads in
      subst (λ (r : Reading). IsCleaning (HandedIn numbers) gap too scale to r Done h.text) same made.holds

  by_rule : HoldsByRule numbers gap too scale from to old new now
  by_rule = record {
    input = left.input;
    holds = left.held told;
    reading = left.read.reading;
    reads = left.read.reads;
    out = cleaning.out;
    cleaned = cleaning.cleaned;
    formed = cleaning.formed;
    text = h.text;
    written = cleaning.written;
    held = h.held;
    last = left.read.holds;
  }

pub caller_rules : CallerRulesLaw
caller_rules rules after place gap too scale from to old new told answer left =
    (left.0, (left.1.0, by_rule (get_or rules place no_state) gap too scale from to old new left.0 told (answer.written told refl) left.1.1))
