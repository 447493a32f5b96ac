-- For every file in the grammar and range and every points file without a fault locate tells where each point lies.
use Rattle.std.proofs.Common.{◌≡◌, ℕ, List, [], ◌∷◌, None, IsTrue, refl, sym, ◌∙◌, inl, inr, subst}
use Rattle.std.specs.Prelude.{◌⊎◌}
use Rattle.cov_io.specs.State.{State}
use Rattle.cov_locate.specs.Points.{ArePoints}
use Rattle.cov_types.specs.Uses.{uses_of}
use Rattle.cov_types.specs.declared.coord.Coord.{Coord}
use Rattle.feature_files.proofs.Files.{one_reading}
use Rattle.feature_files.specs.Reading.{IsRead}
use Rattle.geo_json.specs.Reading.{Reading}
use Rattle.cover_cli.proofs.Causes.{not_listed_and_refused}
use Rattle.cover_cli.proofs.Inputs.{same_inputs}
use Rattle.cover_cli.specs.Answers.{is_success, HoldsNoCause, HoldsText, IsSuccessUnlessFault, IsAnswer}
use Rattle.cover_cli.specs.Headline.{IsFileFault}
use Rattle.cover_cli.specs.Input.{Holds, AreInputs}
use Rattle.cover_cli.specs.Locate.{ArePlaceRows, IsLocating}
use Rattle.cover_cli.specs.Located.{HoldsPlaces}
use Rattle.cover_cli.specs.Made.{Makes}
use Rattle.cover_cli.specs.Text.{IsReadAnd}
use Rattle.cover_words.specs.Words.{Locate}
use Rattle.cover_cli.specs.declared.outcome.Outcome.{Outcome}
use Rattle.cover_cli.specs.declared.outcome.Outcome.TheVariants.{Done}

module _ (from points to input file : List ℕ) (r : Reading) (list : List Coord) (old new : State) (answer : Outcome) (told : IsTrue old.tells_files)
    (held : Holds old from input) (reads : IsRead from None input r) (points_held : Holds old points file) (are : ArePoints file list)
    (a : IsAnswer (Locate from points to) old new answer) where
  read : AreInputs old (from ∷ points ∷ []) (input ∷ file ∷ [])
  read = (held, (points_held, tt))

  no_cause : HoldsNoCause (Locate from points to) old
  no_cause = record {
    inputs = input ∷ file ∷ [];
    read = read;
    none = λ refusal refuses. not_listed_and_refused from input file (λ s. s ≡ r) list refusal are (record { reading = r; reads = reads; holds = refl }) refuses;
  }

  -- what is written was made of the input and the points
  made : (h : HoldsText (Locate from points to) old new answer) → IsReadAnd from None input (λ s. IsLocating s.members file answer h.text)
  made h =
      let same = same_inputs old (from ∷ points ∷ []) h.writes.inputs (input ∷ file ∷ []) h.writes.read read in
      subst (λ inputs. Makes (Locate from points to) inputs answer h.text) same h.writes.makes

  done : IsTrue (is_success answer) → (answer ≡ Done) × HoldsPlaces r list to old new
  done ok =
      let h = a.written told ok in
      let m = made h in
      let same = one_reading from None input m.reading r m.reads reads in
      let locating = subst (λ s. IsLocating s.members file answer h.text) same m.holds in
      let listed : locating.points ≡ list = locating.points_are.are ∙ sym are.are in
      (locating.done, record { text = h.text; rows = subst (λ (ps : List Coord). ArePlaceRows (uses_of r.members) ps h.text) listed locating.rows; held = h.held })

  by_cases : IsSuccessUnlessFault answer → ((answer ≡ Done) × HoldsPlaces r list to old new) ⊎ IsFileFault answer
  by_cases (inl ok) = inl (done ok)
  by_cases (inr fault) = inr fault

  pub located : ((answer ≡ Done) × HoldsPlaces r list to old new) ⊎ IsFileFault answer
  located = by_cases (a.good told no_cause)
