use Rattle.std.proofs.Common.{arith}
use Rattle.rounding_laws.proofs.InRange.{rises_of, centres_in_range}
use Rattle.rounding_laws.proofs.Ends.{centres_differ, edges_differ, even_ends, begins_at_lo, ends_at_hi}
use Rattle.rounding_laws.proofs.Unique.{chain_unique}
use Rattle.rounding_laws.proofs.chain_law.Goals as goal

pub returns-clause-unique : goal.returns-clause-unique
returns-clause-unique x = λ segs s c d of_c of_d. chain_unique segs s (rises_of segs s c of_c) c d of_c.chain of_d.chain

pub returns-clause-ends : goal.returns-clause-ends
returns-clause-ends x = λ segs s c of_s.
    let rises = rises_of segs s c of_s in
    let first = begins_at_lo segs s c rises of_s.chain of_s.listed in
    ((first s.lo).0, λ d. ((first d).1, ends_at_hi segs s c rises of_s.chain of_s.listed _ d (let some = (first d).0 in omega arith)))

pub returns-clause-in_range : goal.returns-clause-in_range
returns-clause-in_range x = centres_in_range

pub returns-clause-centres_differ : goal.returns-clause-centres_differ
returns-clause-centres_differ x = λ segs s c of_s. centres_differ segs s c (rises_of segs s c of_s) of_s.chain

pub returns-clause-edges_differ : goal.returns-clause-edges_differ
returns-clause-edges_differ x = λ segs s c of_s. edges_differ c (centres_differ segs s c (rises_of segs s c of_s) of_s.chain)

pub returns-clause-even_ends : goal.returns-clause-even_ends
returns-clause-even_ends x = λ segs s c of_s inside. even_ends segs s c (rises_of segs s c of_s) of_s.listed of_s.chain inside
