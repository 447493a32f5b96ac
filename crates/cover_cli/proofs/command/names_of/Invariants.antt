-- The names of the rules that were gone over.
use Rattle.std.proofs.Common.{◌≡◌, map, take}
use Rattle.std.specs.String.{string_bytes}
use Rattle.cover_cli.proofs.command.names_of.Given as goal

abbrev pub invariant-loop-rule : goal.invariant-loop-rule
invariant-loop-rule g l = map (λ n. n.now) l.names.items ≡ map (λ r. string_bytes r.name) (take l.rule-index l.rules)
