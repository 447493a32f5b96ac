use Rattle.feature_files.proofs.Files.{one_reading, one_fault, read_or_fault, read_faultless, read_formed, read_back}
use Rattle.feature_files.proofs.Forms.{one_form}
use Rattle.feature_files.proofs.laws.one_answer.Goals as goal

pub returns : goal.returns
returns c = record { reading = one_reading; fault = one_fault; either = read_or_fault; faultless = read_faultless; formed = read_formed; form = one_form; read_back = read_back }
