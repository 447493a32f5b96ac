-- The files of the names that were gone over are read.
use Rattle.std.proofs.Common.{◌≡◌, ◌≤◌, length, map, take}
use Rattle.std.specs.Prelude.{All}
use Rattle.geo_text.specs.declared.reader.TheConstants.{LONGEST_INPUT}
use Rattle.cover_cli.proofs.Reading.{AreRead}
use Rattle.cover_cli.proofs.input.read_files.Given as goal

abbrev pub invariant-loop-name : goal.invariant-loop-name
invariant-loop-name g l = record {
  read : AreRead (map (λ n. n.now) (take l.name-index l.names)) (map (λ i. i.items) l.inputs.items) (g.F.Files.state l.initial.files) (g.F.Files.state l.files);
  count : length l.inputs.items ≡ l.name-index;
  within : All (λ i. length i.items ≤ LONGEST_INPUT) l.inputs.items;
}
