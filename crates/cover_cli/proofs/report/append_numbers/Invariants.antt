-- The numbers that were gone over are appended.
use Rattle.std.proofs.Common.{◌≡◌, ◌++◌, take}
use Rattle.std.specs.String.{string_bytes}
use Rattle.cover_cli.specs.Closing.{numbers_text}
use Rattle.cover_cli.proofs.report.append_numbers.Given as goal

abbrev pub invariant-loop-number : goal.invariant-loop-number
invariant-loop-number l = string_bytes l.text ≡ string_bytes l.initial.text ++ numbers_text (take l.number-index l.numbers)
