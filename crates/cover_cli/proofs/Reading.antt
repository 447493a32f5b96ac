-- Reading one input after another.
use Rattle.std.proofs.Common.{◌≡◌, ◌≢◌, ℕ, ◌≤◌, ◌<◌, ◌+◌, List, [], ◌∷◌, ◌++◌, length, take, map, get_or, Some, Err, IsTrue, Bor, add-one, refl, sym, ap, subst, ◌∙◌}
use Rattle.std.proofs.Math.Seq.{take-suc}
use Rattle.std.proofs.lemmas.List.{get_or_default, map-append}
use Rattle.std.proofs.lemmas.List.Elements.{AllZip-push}
use Rattle.cov_io.proofs.Frames.{output-then}
use Rattle.cov_io.specs.Calls.{IsPromised}
use Rattle.cov_io.specs.Count.{Rose}
use Rattle.cov_io.specs.Frame.{KeepsOutput}
use Rattle.cov_io.specs.Slurp.{IsTooLong, CountsReadFault}
use Rattle.cov_io.specs.State.{State, IsTelling}
use Rattle.cov_io.specs.declared.input.SlurpError.{SlurpError}
use Rattle.cov_io.specs.declared.input.SlurpError.TheVariants.{ReadFault, TooLong, NoMemory}
use Rattle.cover_cli.specs.Input.{Holds, AreInputs}
use Rattle.geo_text.specs.declared.reader.TheConstants.{LONGEST_INPUT}
use Rattle.cover_cli.specs.Refusal.{outcome_of_slurp, IsUnread}
use Rattle.cover_cli.specs.declared.outcome.Outcome.TheVariants as outcomes
use Rattle.cover_cli.proofs.Inputs.{promised_after}

-- the files of these names were read: no file changed, no fault was counted, and the inputs are what the files held
pub record AreRead (names inputs : List (List ℕ)) (old now : State) : Type 0 where
  pub inputs_are : IsTrue old.tells_files → AreInputs old names inputs
  pub counted : now.read_faults ≡ old.read_faults
  pub kept : KeepsOutput old now

-- one file more was read
read_one : (names inputs : List (List ℕ)) (name input : List ℕ) (old now next : State) → AreRead names inputs old now
    → (IsTrue now.tells_files → now.files name ≡ Some input) → length input ≤ LONGEST_INPUT → next.read_faults ≡ now.read_faults → KeepsOutput now next
    → AreRead (names ++ name ∷ []) (inputs ++ input ∷ []) old next
read_one names inputs name input old now next so_far all within counted kept = record {
  inputs_are = λ told. AllZip-push (Holds old) names inputs name input (so_far.inputs_are told) (record { file = sym (so_far.kept.files told name) ∙ all (so_far.kept.tells.files ∙ told); within = within });
  counted = counted ∙ so_far.counted;
  kept = output-then old now next so_far.kept kept;
}

pub read_more : (names inputs more_names more_inputs : List (List ℕ)) (name input : List ℕ) (old now next : State) → AreRead names inputs old now
    → more_names ≡ names ++ name ∷ [] → more_inputs ≡ inputs ++ input ∷ []
    → (IsTrue now.tells_files → now.files name ≡ Some input) → length input ≤ LONGEST_INPUT → next.read_faults ≡ now.read_faults → KeepsOutput now next
    → AreRead more_names more_inputs old next
read_more names inputs more_names more_inputs name input old now next so_far one_name one_input all within counted kept =
    rw (one_name, one_input) (read_one names inputs name input old now next so_far all within counted kept)

-- the next file was not read
pub next_unread : (e : SlurpError) (names read inputs : List (List ℕ)) (k : ℕ) (d name : List ℕ) (old now next : State) → AreRead read inputs old now → k < length names → get_or names k d ≡ name
    → (e ≡ TooLong → IsTrue now.tells_files → IsTooLong name LONGEST_INPUT now next) → CountsReadFault {T = List ℕ} (Err e) now.read_faults next.read_faults
    → IsUnread (outcome_of_slurp e) names old next
next_unread ReadFault names read inputs k d name old now next so_far within at long counts = subst (λ (n : ℕ). Rose n next.read_faults) so_far.counted counts
next_unread TooLong names read inputs k d name old now next so_far within at long counts = (
  counts ∙ so_far.counted,
  λ told. (let too_long = long refl (so_far.kept.tells.files ∙ told) in
      (k, name, within, get_or_default names k name d within ∙ at, record { bytes = too_long.held; file = sym (so_far.kept.files told name) ∙ too_long.file; longer = too_long.longer })),
)
next_unread NoMemory names read inputs k d name old now next so_far within at long counts = counts ∙ so_far.counted

-- where a room is told, the next file has no fault
pub next_promised : (e : SlurpError) (read inputs : List (List ℕ)) (name : List ℕ) (old now : State) → IsTelling old → AreRead read inputs old now → (IsPromised name now → e ≢ ReadFault)
    → IsPromised name old → outcome_of_slurp e ≢ outcomes.ReadFault
next_promised ReadFault read inputs name old now telling so_far promised p same = promised (promised_after name old now telling so_far.kept p) refl
next_promised TooLong read inputs name old now telling so_far promised p same = cc
next_promised NoMemory read inputs name old now telling so_far promised p same = cc

-- the names up to one place further
pub names_more : (names : List (Bor (List ℕ))) (k : ℕ) (d : Bor (List ℕ)) → k < length names
    → map (λ (n : Bor (List ℕ)). n.now) (take (k + 1) names) ≡ map (λ (n : Bor (List ℕ)). n.now) (take k names) ++ (get_or names k d).now ∷ []
names_more names k d within =
    ap (λ (ns : List (Bor (List ℕ))). map (λ (n : Bor (List ℕ)). n.now) ns) (rw add-one (take-suc names k d within))
    ∙ map-append (λ (n : Bor (List ℕ)). n.now) (take k names) (get_or names k d ∷ [])
