use Rattle.geo_json.proofs.OneAnswer.{one_reading, one_fault, read_or_fault}
use Rattle.geo_json.proofs.reader.one_answer.Goals as goal

pub returns : goal.returns
returns c = record { reading = one_reading; fault = one_fault; either = read_or_fault }
