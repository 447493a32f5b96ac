-- What an operation makes of the inputs that it read.
use Rattle.std.specs.Prelude.{ℕ, List, [], ◌∷◌, None}
use Rattle.cover_cli.specs.Clean.{IsCleaning}
use Rattle.cover_cli.specs.Locate.{IsLocating, RefusesPoints}
use Rattle.cover_cli.specs.Mapping.{IsMapping}
use Rattle.cover_cli.specs.Node.{IsNoding}
use Rattle.cover_cli.specs.Overlay.{IsOverlaying, RefusesOverlay}
use Rattle.cover_cli.specs.Regions.{IsRegionList}
use Rattle.cover_cli.specs.Sample.{IsSampling}
use Rattle.cover_cli.specs.Simplify.{IsSimplifying}
use Rattle.cover_cli.specs.Text.{IsReadAnd, RefusesInput}
use Rattle.cover_cli.specs.Invalid.{RefusesInvalid}
use Rattle.cover_cli.specs.Union.{IsUniting}
use Rattle.cover_cli.specs.Validate.{IsValidation}
use Rattle.cover_cli.specs.Task.{Task}
use Rattle.cover_words.specs.Words.{Validate, MapFaults, Clean, Simplify, Union, Node, Regions, Locate, Sample, Overlay}
use Rattle.cover_cli.specs.declared.outcome.Outcome.{Outcome}

-- there is one input, and this holds of it
abbrev pub IsOneAnd : List (List ℕ) → (List ℕ → Type 0) → Type 0
IsOneAnd [] P = ⊥
IsOneAnd (input ∷ []) P = P input
IsOneAnd (input ∷ more ∷ rest) P = ⊥

-- there are two inputs, and this holds of them
abbrev pub IsTwoAnd : List (List ℕ) → (List ℕ → List ℕ → Type 0) → Type 0
IsTwoAnd [] P = ⊥
IsTwoAnd (first ∷ []) P = ⊥
IsTwoAnd (first ∷ second ∷ []) P = P first second
IsTwoAnd (first ∷ second ∷ more ∷ rest) P = ⊥

-- of these inputs the operation makes this text, and answers this success once it is written
abbrev pub Makes : Task → List (List ℕ) → Outcome → List ℕ → Type 0
Makes (Validate gap scale from to) inputs outcome text = IsOneAnd inputs (λ input. IsReadAnd from scale input (λ r. IsValidation gap scale r.members outcome text))
Makes (MapFaults gap scale from to) inputs outcome text = IsOneAnd inputs (λ input. IsReadAnd from scale input (λ r. IsMapping gap scale r.members outcome text))
Makes (Clean rule gap too scale from to) inputs outcome text = IsOneAnd inputs (λ input. IsReadAnd from scale input (λ r. IsCleaning rule gap too scale to r outcome text))
Makes (Simplify tolerance inner scale from to) inputs outcome text = IsOneAnd inputs (λ input. IsReadAnd from scale input (λ r. IsSimplifying tolerance inner scale to r outcome text))
Makes (Union scale from to) inputs outcome text = IsOneAnd inputs (λ input. IsReadAnd from scale input (λ r. IsUniting scale to r.members outcome text))
Makes (Node scale from to) inputs outcome text = IsOneAnd inputs (λ input. IsReadAnd from scale input (λ r. IsNoding scale r.members outcome text))
Makes (Regions scale from to) inputs outcome text = IsOneAnd inputs (λ input. IsReadAnd from scale input (λ r. IsRegionList r.members outcome text))
Makes (Sample side seed to) inputs outcome text = IsSampling side seed to outcome text
Makes (Locate from points to) inputs outcome text = IsTwoAnd inputs (λ input file. IsReadAnd from None input (λ r. IsLocating r.members file outcome text))
Makes (Overlay first second to) inputs outcome text = IsTwoAnd inputs (λ a b. IsReadAnd first None a (λ r. IsReadAnd second None b (λ s. IsOverlaying to r.members s.members outcome text)))

-- these inputs are a cause for the operation to refuse them with this outcome
abbrev pub Refuses : Task → List (List ℕ) → Outcome → Type 0
Refuses (Validate gap scale from to) inputs outcome = IsOneAnd inputs (λ input. RefusesInput from scale input outcome)
Refuses (MapFaults gap scale from to) inputs outcome = IsOneAnd inputs (λ input. RefusesInput from scale input outcome)
Refuses (Clean rule gap too scale from to) inputs outcome = IsOneAnd inputs (λ input. RefusesInput from scale input outcome)
Refuses (Simplify tolerance inner scale from to) inputs outcome = IsOneAnd inputs (λ input. RefusesInvalid from scale input outcome)
Refuses (Union scale from to) inputs outcome = IsOneAnd inputs (λ input. RefusesInvalid from scale input outcome)
Refuses (Node scale from to) inputs outcome = IsOneAnd inputs (λ input. RefusesInput from scale input outcome)
Refuses (Regions scale from to) inputs outcome = IsOneAnd inputs (λ input. RefusesInput from scale input outcome)
Refuses (Sample side seed to) inputs outcome = ⊥
Refuses (Locate from points to) inputs outcome = IsTwoAnd inputs (λ input file. RefusesPoints from input file outcome)
Refuses (Overlay first second to) inputs outcome = IsTwoAnd inputs (λ a b. RefusesOverlay first second a b outcome)
