use Rattle.cover_words.proofs.AcceptedWords.{accepted}
use Rattle.cover_words.proofs.Mappings.{mapping_accepted}
use Rattle.cover_words.proofs.laws.accepted_law.Goals as goal

pub returns-clause-operations : goal.returns-clause-operations
returns-clause-operations c = accepted

pub returns-clause-mappings : goal.returns-clause-mappings
returns-clause-mappings c = mapping_accepted
