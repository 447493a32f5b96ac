-- The words that the program takes.
use Rattle.std.specs.Prelude.{⊤, ◌<◌, ◌≤◌, ◌&&◌, not, ℕ, Bool, true, List, [], ◌∷◌, Option, Some, None, option_map, option_and_then, position, if◌then◌else◌, codes}
use Rattle.std.specs.Option.{option_or}
use Rattle.std.specs.Str.{bytes_eq}
use Rattle.clap.specs.Walk.{Row, Text}
use Rattle.clap.specs.Simple.{App, matches_of}
use Rattle.clap.specs.Takes.{takes}
use Rattle.file_form.specs.Name.{is_json}
use Rattle.geo_text.specs.Decimal.{IsScale}
use Rattle.cover_words.specs.Commands.{validate_command, clean_command, simplify_command, union_command, node_command, regions_command, locate_command, sample_command, overlay_command}
use Rattle.cover_words.specs.Values.{text_at, number_at, scale_at, flag_at}
use Rattle.cover_words.specs.declared.rule_name.RuleName.{RuleName}
use Rattle.cover_words.specs.declared.rule_name.RuleName.TheVariants.{LeastIndex, GreatestArea, LeastArea, LongestBorder}
use Rattle.cover_words.specs.declared.rule_choice.RuleChoice.{RuleChoice}
use Rattle.cover_words.specs.declared.rule_choice.RuleChoice.TheVariants.{Own, Handed}

-- an operation, with its values, the scale of its texts if they have one, and the names of the files that it works on; a cleaning goes by a rule that
-- is told as R
pub data OperationBy (R : Type 0) : Type 0 where
  -- the gap width; the scale; the input, the output
  Validate : ℕ → Option ℕ → Text → Text → OperationBy R
  -- of the program `cover_faults`: the gap width; the scale; the input, the output
  MapFaults : ℕ → Option ℕ → Text → Text → OperationBy R
  -- the rule, the gap width, whether the rule is asked for narrow gaps too; the scale; the input, the output
  Clean : R → ℕ → Bool → Option ℕ → Text → Text → OperationBy R
  -- the tolerance, whether only inner lines are simplified; the scale; the input, the output
  Simplify : ℕ → Bool → Option ℕ → Text → Text → OperationBy R
  -- the scale; the input, the output
  Union : Option ℕ → Text → Text → OperationBy R
  -- the scale; the input, the output
  Node : Option ℕ → Text → Text → OperationBy R
  -- the scale; the input, the output
  Regions : Option ℕ → Text → Text → OperationBy R
  -- the number of cells on a side, the seed; the output
  Sample : ℕ → ℕ → Text → OperationBy R
  -- the input, the points; the output
  Locate : Text → Text → Text → OperationBy R
  -- the first coverage, the second; the output
  Overlay : Text → Text → Text → OperationBy R

-- an operation as words name it, its rule by its name or its place
abbrev pub Operation : Type 0
Operation = OperationBy RuleChoice

-- the names of the files that the operation reads, in the order in which it reads them
abbrev pub inputs_of : {R : Type 0} → OperationBy R → List Text
inputs_of (Validate gap scale from to) = from ∷ []
inputs_of (MapFaults gap scale from to) = from ∷ []
inputs_of (Clean rule gap too scale from to) = from ∷ []
inputs_of (Simplify tolerance inner scale from to) = from ∷ []
inputs_of (Union scale from to) = from ∷ []
inputs_of (Node scale from to) = from ∷ []
inputs_of (Regions scale from to) = from ∷ []
inputs_of (Sample side seed to) = []
inputs_of (Locate from points to) = from ∷ points ∷ []
inputs_of (Overlay first second to) = first ∷ second ∷ []

-- the name of the file that the operation writes
abbrev pub output_of : {R : Type 0} → OperationBy R → Text
output_of (Validate gap scale from to) = to
output_of (MapFaults gap scale from to) = to
output_of (Clean rule gap too scale from to) = to
output_of (Simplify tolerance inner scale from to) = to
output_of (Union scale from to) = to
output_of (Node scale from to) = to
output_of (Regions scale from to) = to
output_of (Sample side seed to) = to
output_of (Locate from points to) = to
output_of (Overlay first second to) = to

-- the scale of the texts that the operation reads and writes, if they have one
abbrev pub scale_of : {R : Type 0} → OperationBy R → Option ℕ
scale_of (Validate gap scale from to) = scale
scale_of (MapFaults gap scale from to) = scale
scale_of (Clean rule gap too scale from to) = scale
scale_of (Simplify tolerance inner scale from to) = scale
scale_of (Union scale from to) = scale
scale_of (Node scale from to) = scale
scale_of (Regions scale from to) = scale
scale_of (Sample side seed to) = None
scale_of (Locate from points to) = None
scale_of (Overlay first second to) = None

-- the gap width or the tolerance of the operation is at most 2^30 grid units, and a sample has at most 400 cells on a side
abbrev pub IsLengthWithin : {R : Type 0} → OperationBy R → Type 0
IsLengthWithin (Validate gap scale from to) = gap ≤ 1073741824
IsLengthWithin (MapFaults gap scale from to) = gap ≤ 1073741824
IsLengthWithin (Clean rule gap too scale from to) = gap ≤ 1073741824
IsLengthWithin (Simplify tolerance inner scale from to) = tolerance ≤ 1073741824
IsLengthWithin (Sample side seed to) = side ≤ 400
IsLengthWithin _ = ⊤

-- the rule, if it is handed in, has a place below this
abbrev pub IsPlaceBelow : ℕ → RuleChoice → Type 0
IsPlaceBelow rules (Own name) = ⊤
IsPlaceBelow rules (Handed place) = place < rules

-- the same of the rule of an operation
abbrev pub IsRuleBelow : ℕ → Operation → Type 0
IsRuleBelow rules (Clean rule gap too scale from to) = IsPlaceBelow rules rule
IsRuleBelow rules _ = ⊤

-- the lengths of the operation, its scale and the place of its rule among so many are within their limits
pub record IsWithinLimit (rules : ℕ) (operation : Operation) : Type 0 where
  pub length : IsLengthWithin operation
  pub scale : IsScale (scale_of operation)
  pub rule : IsRuleBelow rules operation

-- the rule that a word names
abbrev pub rule_named : Text → Option RuleName
rule_named word =
    if bytes_eq word (codes "least-index") then Some LeastIndex
    else (if bytes_eq word (codes "greatest-area") then Some GreatestArea
    else (if bytes_eq word (codes "least-area") then Some LeastArea
    else (if bytes_eq word (codes "longest-border") then Some LongestBorder
    else None)))

-- the rule that a word chooses: that of the four which it names, or else the handed-in one of its name, by its place
abbrev pub rule_chosen : List Text → Text → Option RuleChoice
rule_chosen names word = option_or (option_map Own (rule_named word)) (option_map Handed (position (λ name. bytes_eq name word) names))

-- ---- the operation that the matches of its command name

-- a scale stands with no name of GeoJSON, which has none
abbrev pub suits : Option ℕ → Text → Bool
suits None name = true
suits (Some k) name = not (is_json name)

-- a validation of the values that were found, where all are there and the scale suits the input
abbrev pub validate_with : Option Text → Option Text → Option ℕ → Option ℕ → Option Operation
validate_with (Some from) (Some to) (Some gap) scale = if suits scale from then Some (Validate gap scale from to) else None
validate_with _ _ _ _ = None

-- a cleaning of the values that were found, where all are there and the scale suits both files
abbrev pub clean_with : Option Text → Option Text → Option RuleChoice → Option ℕ → Option Bool → Option ℕ → Option Operation
clean_with (Some from) (Some to) (Some rule) (Some gap) (Some too) scale = if suits scale from && suits scale to then Some (Clean rule gap too scale from to) else None
clean_with _ _ _ _ _ _ = None

-- a simplification of the values that were found, where all are there and the scale suits both files
abbrev pub simplify_with : Option Text → Option Text → Option ℕ → Option Bool → Option ℕ → Option Operation
simplify_with (Some from) (Some to) (Some tolerance) (Some inner) scale = if suits scale from && suits scale to then Some (Simplify tolerance inner scale from to) else None
simplify_with _ _ _ _ _ = None

-- a union of the files that were found, where both are there and the scale suits both
abbrev pub union_with : Option Text → Option Text → Option ℕ → Option Operation
union_with (Some from) (Some to) scale = if suits scale from && suits scale to then Some (Union scale from to) else None
union_with _ _ _ = None

-- a noding, where both files are there and the scale suits the input
abbrev pub node_with : Option Text → Option Text → Option ℕ → Option Operation
node_with (Some from) (Some to) scale = if suits scale from then Some (Node scale from to) else None
node_with _ _ _ = None

-- a listing of regions, where both files are there and the scale suits the input
abbrev pub regions_with : Option Text → Option Text → Option ℕ → Option Operation
regions_with (Some from) (Some to) scale = if suits scale from then Some (Regions scale from to) else None
regions_with _ _ _ = None

-- the sample of the values that were found, where all are there
abbrev pub sample_with : Option ℕ → Option ℕ → Option Text → Option Operation
sample_with (Some side) (Some seed) (Some to) = Some (Sample side seed to)
sample_with _ _ _ = None

-- the location that the values name, where all are there
abbrev pub locate_with : Option Text → Option Text → Option Text → Option Operation
locate_with (Some from) (Some points) (Some to) = Some (Locate from points to)
locate_with _ _ _ = None

-- the overlay of the files that were found, where all are there
abbrev pub overlay_with : Option Text → Option Text → Option Text → Option Operation
overlay_with (Some first) (Some second) (Some to) = Some (Overlay first second to)
overlay_with _ _ _ = None

-- the validation that the matches name, by the ids of its arguments
abbrev pub validate_in : List Row → Option Operation
validate_in rows = validate_with (text_at (codes "IN") rows) (text_at (codes "OUT") rows) (number_at (codes "gap") rows) (scale_at rows)

-- the cleaning that they name, where rules of these names are handed in
abbrev pub clean_in : List Text → List Row → Option Operation
clean_in names rows =
    clean_with (text_at (codes "IN") rows) (text_at (codes "OUT") rows) (option_and_then (rule_chosen names) (text_at (codes "rule") rows)) (number_at (codes "gap") rows)
    (flag_at (codes "gaps-too") rows) (scale_at rows)

-- the simplification that they name
abbrev pub simplify_in : List Row → Option Operation
simplify_in rows = simplify_with (text_at (codes "IN") rows) (text_at (codes "OUT") rows) (number_at (codes "tolerance") rows) (flag_at (codes "inner") rows) (scale_at rows)

-- the union that they name
abbrev pub union_in : List Row → Option Operation
union_in rows = union_with (text_at (codes "IN") rows) (text_at (codes "OUT") rows) (scale_at rows)

-- the noding that they name
abbrev pub node_in : List Row → Option Operation
node_in rows = node_with (text_at (codes "IN") rows) (text_at (codes "OUT") rows) (scale_at rows)

-- the listing of regions that they name
abbrev pub regions_in : List Row → Option Operation
regions_in rows = regions_with (text_at (codes "IN") rows) (text_at (codes "OUT") rows) (scale_at rows)

-- the sample that they name
abbrev pub sample_in : List Row → Option Operation
sample_in rows = sample_with (number_at (codes "N") rows) (number_at (codes "SEED") rows) (text_at (codes "OUT") rows)

-- the location that they name
abbrev pub locate_in : List Row → Option Operation
locate_in rows = locate_with (text_at (codes "IN") rows) (text_at (codes "POINTS") rows) (text_at (codes "OUT") rows)

-- the overlay that they name
abbrev pub overlay_in : List Row → Option Operation
overlay_in rows = overlay_with (text_at (codes "A") rows) (text_at (codes "B") rows) (text_at (codes "OUT") rows)

-- ---- the words

-- the operation that the matches name, where the command takes the words after the first
abbrev pub taken : App → (List Row → Option Operation) → List Text → Option Operation
taken command operation words = if takes command words then operation (matches_of command words) else None

-- the operation of this word that the words name, where rules of these names are handed in
abbrev pub operation_by : List Text → Text → List Text → Option Operation
operation_by names word words =
    if bytes_eq word (codes "validate") then taken validate_command validate_in words
    else (if bytes_eq word (codes "clean") then taken clean_command (clean_in names) words
    else (if bytes_eq word (codes "simplify") then taken simplify_command simplify_in words
    else (if bytes_eq word (codes "union") then taken union_command union_in words
    else (if bytes_eq word (codes "node") then taken node_command node_in words
    else (if bytes_eq word (codes "regions") then taken regions_command regions_in words
    else (if bytes_eq word (codes "sample") then taken sample_command sample_in words
    else (if bytes_eq word (codes "locate") then taken locate_command locate_in words
    else (if bytes_eq word (codes "overlay") then taken overlay_command overlay_in words
    else None))))))))

-- the operation that the words name, where rules of these names are handed in and the words are accepted
abbrev pub operation_of : List Text → List Text → Option Operation
operation_of names [] = None
operation_of names (word ∷ rest) = operation_by names word (word ∷ rest)

-- ---- the words of the program `cover_faults`

-- the mapping of the faults that a validation tells, with the same values and files
abbrev pub map_of : Operation → Option Operation
map_of (Validate gap scale from to) = Some (MapFaults gap scale from to)
map_of _ = None

-- the words of a validation in the place of these
abbrev pub validation_of : List Text → List Text
validation_of words = codes "validate" ∷ words

-- the mapping that the words name, where those of a validation in their place are accepted
abbrev pub mapping_of : List Text → Option Operation
mapping_of words = option_and_then map_of (operation_of [] (validation_of words))
