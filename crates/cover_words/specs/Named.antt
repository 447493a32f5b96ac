-- The operation that words name, as the code holds it.
use Rattle.std.specs.Prelude.{◌≡◌, List, [], ◌∷◌, Option, Some, None}
use Rattle.clap.specs.Walk.{Text}
use Rattle.cover_words.specs.declared.inputs.Inputs.{Inputs}
use Rattle.cover_words.specs.declared.inputs.Inputs.TheVariants.{Nothing, One, Two}
use Rattle.cover_words.specs.declared.operation.Operation as code
use Rattle.cover_words.specs.declared.operation.Operation.TheVariants as operations
use Rattle.cover_words.specs.Words.{Operation, Validate, MapFaults, Clean, Simplify, Union, Node, Regions, Locate, Sample, Overlay}

-- the operation with the names that its texts hold
abbrev pub named : code.Operation → Operation
named (operations.Validate gap scale from to) = Validate gap scale from.now to.now
named (operations.MapFaults gap scale from to) = MapFaults gap scale from.now to.now
named (operations.Clean rule gap too scale from to) = Clean rule gap too scale from.now to.now
named (operations.Simplify tolerance inner scale from to) = Simplify tolerance inner scale from.now to.now
named (operations.Union scale from to) = Union scale from.now to.now
named (operations.Node scale from to) = Node scale from.now to.now
named (operations.Regions scale from to) = Regions scale from.now to.now
named (operations.Sample side seed to) = Sample side seed to.now
named (operations.Locate from points to) = Locate from.now points.now to.now
named (operations.Overlay first second to) = Overlay first.now second.now to.now

-- the names, as their texts
abbrev pub names_in : Inputs → List Text
names_in Nothing = []
names_in (One name) = name.now ∷ []
names_in (Two first second) = first.now ∷ second.now ∷ []

-- the answer names the same operation, or none where there is none
abbrev pub IsNamed : Option Operation → Option code.Operation → Type 0
IsNamed expected None = expected ≡ None
IsNamed expected (Some operation) = expected ≡ Some (named operation)
