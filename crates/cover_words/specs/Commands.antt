-- The commands that read the words after an operation's word, as their arguments make them.
use Rattle.std.specs.Prelude.{List, [], ◌∷◌, Some, true, codes, fold, pos}
use Rattle.clap.specs.Walk.{Rule, Text}
use Rattle.clap.specs.Simple.{App, new_app, new_rule, with_rule}
use Rattle.clap.specs.declared.builder.action.ArgAction.TheVariants.{SetTrue}
use Rattle.clap.specs.declared.builder.value_parser.ValueParser.{ValueParser}
use Rattle.clap.specs.declared.builder.value_parser.ValueParser.TheVariants.{Signed}

-- ---- arguments

-- the name of a file: a positional word that has to be there
abbrev pub name : Text → Rule
name id = record (new_rule id) { required = true }

-- the numbers that a gap width and a tolerance may have
abbrev pub lengths : ValueParser
lengths = Signed (pos 0) (pos 1073741824)

-- `--rule R`, which has to be there
abbrev pub rule : Rule
rule = record (new_rule (codes "rule")) { long = Some (codes "rule"); required = true }

-- `--gap W`, where W is 0 if it isn't there
abbrev pub gap : Rule
gap = record (new_rule (codes "gap")) { long = Some (codes "gap"); defaults = codes "0" ∷ []; parser = Some lengths }

-- `--gaps-too`, which has no value
abbrev pub gaps_too : Rule
gaps_too = record (new_rule (codes "gaps-too")) { long = Some (codes "gaps-too"); action = Some SetTrue }

-- `--tolerance T`, which has to be there
abbrev pub tolerance : Rule
tolerance = record (new_rule (codes "tolerance")) { long = Some (codes "tolerance"); required = true; parser = Some lengths }

-- `--inner`, which has no value
abbrev pub inner : Rule
inner = record (new_rule (codes "inner")) { long = Some (codes "inner"); action = Some SetTrue }

-- the scales: the numbers of decimal places that a text may keep
abbrev pub scales : ValueParser
scales = Signed (pos 0) (pos 7)

-- `--scale K`, which may be there
abbrev pub scale : Rule
scale = record (new_rule (codes "scale")) { long = Some (codes "scale"); parser = Some scales }

-- the numbers that a sample may have of cells on a side
abbrev pub sides : ValueParser
sides = Signed (pos 1) (pos 400)

-- `N`: a positional number of cells on a side
abbrev pub side : Rule
side = record (new_rule (codes "N")) { required = true; parser = Some sides }

-- the seeds: all numbers of 32 bits
abbrev pub seeds : ValueParser
seeds = Signed (pos 0) (pos 4294967295)

-- `SEED`: a positional number
abbrev pub seed : Rule
seed = record (new_rule (codes "SEED")) { required = true; parser = Some seeds }

-- ---- commands

-- the command of this name with an input, an output and the further arguments
abbrev pub on_files : Text → List Rule → App
on_files word more = fold with_rule (new_app word) (name (codes "IN") ∷ name (codes "OUT") ∷ more)

-- `validate IN OUT [--gap W] [--scale K]`
abbrev pub validate_command : App
validate_command = on_files (codes "validate") (gap ∷ scale ∷ [])

-- `clean IN OUT --rule R [--gap W] [--gaps-too] [--scale K]`
abbrev pub clean_command : App
clean_command = on_files (codes "clean") (rule ∷ gap ∷ gaps_too ∷ scale ∷ [])

-- `simplify IN OUT --tolerance T [--inner] [--scale K]`
abbrev pub simplify_command : App
simplify_command = on_files (codes "simplify") (tolerance ∷ inner ∷ scale ∷ [])

-- `union IN OUT [--scale K]`
abbrev pub union_command : App
union_command = on_files (codes "union") (scale ∷ [])

-- `node IN OUT [--scale K]`
abbrev pub node_command : App
node_command = on_files (codes "node") (scale ∷ [])

-- `regions IN OUT [--scale K]`
abbrev pub regions_command : App
regions_command = on_files (codes "regions") (scale ∷ [])

-- `sample N SEED OUT`
abbrev pub sample_command : App
sample_command = fold with_rule (new_app (codes "sample")) (side ∷ seed ∷ name (codes "OUT") ∷ [])

-- `locate IN POINTS OUT`
abbrev pub locate_command : App
locate_command = fold with_rule (new_app (codes "locate")) (name (codes "IN") ∷ name (codes "POINTS") ∷ name (codes "OUT") ∷ [])

-- `overlay A B OUT`
abbrev pub overlay_command : App
overlay_command = fold with_rule (new_app (codes "overlay")) (name (codes "A") ∷ name (codes "B") ∷ name (codes "OUT") ∷ [])
