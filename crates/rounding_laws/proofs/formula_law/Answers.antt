use Rattle.plane.proofs.Sweeps.{rises-in_range}
use Rattle.rounding_laws.proofs.First.{passes-is}
use Rattle.rounding_laws.proofs.Meets.{meets-is}
use Rattle.rounding_laws.proofs.Lone.{chain_by_formulas, lone_chain}
use Rattle.rounding_laws.proofs.formula_law.Goals as goal

pub returns-clause-meets : goal.returns-clause-meets
returns-clause-meets x = meets-is

pub returns-clause-order : goal.returns-clause-order
returns-clause-order x = λ s a b in_range. passes-is s a b (rises-in_range s in_range)

pub returns-clause-chain : goal.returns-clause-chain
returns-clause-chain x = λ segs s c in_range. chain_by_formulas segs s c (rises-in_range s in_range)

pub returns-clause-lone : goal.returns-clause-lone
returns-clause-lone x = λ s in_range. lone_chain s (rises-in_range s in_range)
