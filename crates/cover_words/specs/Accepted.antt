-- Which words are accepted, and that they name an operation.
use Rattle.std.specs.Prelude.{◌≡◌, ◌&&◌, Bool, true, false, List, [], ◌∷◌, is_some, option_and_then, if◌then◌else◌, codes}
use Rattle.std.specs.Option.{option_map_or}
use Rattle.std.specs.Str.{bytes_eq}
use Rattle.clap.specs.Walk.{Text}
use Rattle.clap.specs.Simple.{App, matches_of}
use Rattle.clap.specs.Takes.{takes}
use Rattle.cover_words.specs.Commands.{validate_command, clean_command, simplify_command, union_command, node_command, regions_command, locate_command, sample_command, overlay_command}
use Rattle.cover_words.specs.Values.{scale_at, text_at}
use Rattle.cover_words.specs.Words.{operation_of, rule_chosen, suits, validation_of, mapping_of}

-- the rule of a cleaning is one of the four, or is handed in under one of these names
abbrev pub has_a_rule : List Text → List Text → Bool
has_a_rule names words = is_some (option_and_then (rule_chosen names) (text_at (codes "rule") (matches_of clean_command words)))

-- a scale, if there is one, stands with no name of GeoJSON for the argument of this id
abbrev pub scale_suits : App → Text → List Text → Bool
scale_suits command id words = option_map_or (suits (scale_at (matches_of command words))) (text_at id (matches_of command words)) true

-- the same for the input
abbrev pub suits_input : App → List Text → Bool
suits_input command words = scale_suits command (codes "IN") words

-- the same for the input and for the output
abbrev pub suits_files : App → List Text → Bool
suits_files command words = scale_suits command (codes "IN") words && scale_suits command (codes "OUT") words

-- the word names an operation, whose command takes the words after the first; the scale suits the files that are read and written as coverages
abbrev pub is_accepted_by : List Text → Text → List Text → Bool
is_accepted_by names word words =
    if bytes_eq word (codes "validate") then takes validate_command words && suits_input validate_command words
    else (if bytes_eq word (codes "clean") then takes clean_command words && (has_a_rule names words && suits_files clean_command words)
    else (if bytes_eq word (codes "simplify") then takes simplify_command words && suits_files simplify_command words
    else (if bytes_eq word (codes "union") then takes union_command words && suits_files union_command words
    else (if bytes_eq word (codes "node") then takes node_command words && suits_input node_command words
    else (if bytes_eq word (codes "regions") then takes regions_command words && suits_input regions_command words
    else (if bytes_eq word (codes "sample") then takes sample_command words
    else (if bytes_eq word (codes "locate") then takes locate_command words
    else (if bytes_eq word (codes "overlay") then takes overlay_command words
    else false))))))))

-- there is a first word, and the words are accepted by it, where rules of these names are handed in
abbrev pub is_accepted : List Text → List Text → Bool
is_accepted names [] = false
is_accepted names (word ∷ rest) = is_accepted_by names word (word ∷ rest)

-- the words name an operation exactly where they are accepted
abbrev pub AcceptedLaw : Type 0
AcceptedLaw = (names words : List Text) → is_some (operation_of names words) ≡ is_accepted names words

-- the words of the program `cover_faults` are accepted where those of a validation in their place are
abbrev pub is_mapping_accepted : List Text → Bool
is_mapping_accepted words = is_accepted [] (validation_of words)

-- the words name a mapping exactly where they are accepted
abbrev pub MappingLaw : Type 0
MappingLaw = (words : List Text) → is_some (mapping_of words) ≡ is_mapping_accepted words
