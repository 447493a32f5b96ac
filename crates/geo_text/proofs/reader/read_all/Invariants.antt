use Rattle.std.proofs.Common.{◌≡◌, ◌≤◌, drop}
use Rattle.geo_text.specs.Machine.{IsLexeme, answer, start}
use Rattle.geo_text.specs.Number.{precision_at}
use Rattle.geo_text.specs.declared.lexeme.Lexeme.TheVariants.{Blank}
use Rattle.geo_text.proofs.reader.read_all.Given as goal

-- the answer to what is left is the answer to the file
abbrev pub invariant-loop-at : goal.invariant-loop-at
invariant-loop-at l = record {
  kept : IsLexeme l.lexeme;
  room : l.parser.kept.faults.rings ≤ l.at;
  rest : answer (precision_at l.scale) l.at l.lexeme l.parser (drop l.at l.bytes) ≡ answer (precision_at l.scale) 0 Blank start l.bytes;
}
