-- A sample is written and counted.
use Rattle.std.proofs.Common.{◌≡◌, ◌∙◌, ℕ, List, [], IsTrue, inl, inr}
use Rattle.std.specs.Prelude.{◌⊎◌}
use Rattle.std.proofs.lemmas.List.Elements.{All-nil}
use Rattle.cleaned_laws.proofs.Cleaned.{cleaned_valid}
use Rattle.cov_io.specs.Count.{Rose}
use Rattle.cov_io.specs.State.{State}
use Rattle.jittered_grid.proofs.Shapes.{length-cells}
use Rattle.jittered_grid.specs.Cells.{cells}
use Rattle.merge_rule.specs.RuleState.{no_state}
use Rattle.cover_cli.specs.Answers.{is_success, HoldsNoCause, IsSuccessUnlessFault, IsAnswer}
use Rattle.cover_cli.specs.Clean.{rule_of}
use Rattle.cover_cli.specs.SampleLaw.{HoldsSample, SampleLaw}
use Rattle.cover_words.specs.Words.{Sample}
use Rattle.cover_cli.specs.declared.outcome.Outcome.{Outcome}
use Rattle.cover_cli.specs.declared.outcome.Outcome.TheVariants.{WriteFault, NoMemory}
use Rattle.cover_words.specs.declared.rule_name.RuleName.TheVariants.{LongestBorder}

module _ (side seed : ℕ) (to : List ℕ) (old new : State) (answer : Outcome) (told : IsTrue old.tells_files) (a : IsAnswer (Sample side seed to) old new answer) where
  no_cause : HoldsNoCause (Sample side seed to) old
  no_cause = record { inputs = []; read = tt; none = λ refusal refuses. refuses }

  -- what is written is the sample
  held : IsTrue (is_success answer) → HoldsSample side seed to old new answer
  held ok =
      let h = a.written told ok in
      let m = h.writes.makes in
      record {
        out = m.out;
        sample = m.sample;
        formed = m.formed;
        valid = cleaned_valid (cells side seed) m.grid.in_range (rule_of LongestBorder) no_state 8 m.out m.sample;
        members = m.sample.built.count ∙ length-cells side seed;
        counted = m.counted;
        text = h.text;
        written = m.written;
        held = h.held;
      }

  by_cases : IsSuccessUnlessFault answer → HoldsSample side seed to old new answer ⊎ (((answer ≡ WriteFault) × Rose old.write_faults new.write_faults) ⊎ (answer ≡ NoMemory))
  by_cases (inl ok) = inl (held ok)
  by_cases (inr (inl unread)) = absurd (a.readable (All-nil _) unread)
  by_cases (inr (inr (inl unwritten))) = inr (inl (unwritten, a.write_fault unwritten))
  by_cases (inr (inr (inr none))) = inr (inr none)

-- the output holds the sample and the answer its counts, unless a write fault came or memory ran out
pub sampled_law : SampleLaw
sampled_law side seed to old new answer told a = by_cases side seed to old new answer told a (a.good told (no_cause side seed to old new answer told a))
