use Rattle.geo_text.proofs.Formed.{read_formed}
use Rattle.geo_text.proofs.OneReading.{one_reading}
use Rattle.geo_text.proofs.Verdicts.{one_fault, read_or_fault}
use Rattle.geo_text.proofs.reader.one_answer.Goals as goal

pub returns : goal.returns
returns c = record { reading = one_reading; fault = one_fault; either = read_or_fault; formed = read_formed }
