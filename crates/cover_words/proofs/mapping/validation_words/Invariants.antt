-- The words that were gone over, behind the first.
use Rattle.std.proofs.Common.{◌≡◌, map, take}
use Rattle.std.specs.String.{string_bytes}
use Rattle.cover_words.specs.Words.{validation_of}
use Rattle.cover_words.proofs.mapping.validation_words.Given as goal

abbrev pub invariant-loop-word : goal.invariant-loop-word
invariant-loop-word l = map string_bytes l.all.items ≡ validation_of (map string_bytes (take l.word-index l.words))
