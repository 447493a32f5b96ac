use Rattle.rounding_laws.proofs.InRange.{in_range_of}
use Rattle.rounding_laws.proofs.Noded.{fully_noded, list_fully_noded}
use Rattle.rounding_laws.proofs.fully_noded_law.Goals as goal

pub returns-clause-edges : goal.returns-clause-edges
returns-clause-edges x = λ segs s t c d of_s of_t. fully_noded segs s t of_s.listed of_t.listed (in_range_of segs s c of_s) (in_range_of segs t d of_t) c d of_s.chain of_t.chain

pub returns-clause-lists : goal.returns-clause-lists
returns-clause-lists x = list_fully_noded
