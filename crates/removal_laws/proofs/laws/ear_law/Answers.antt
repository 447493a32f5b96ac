use Rattle.removal_laws.proofs.Ear.{ear}
use Rattle.removal_laws.proofs.Pasch.{pasch}
use Rattle.removal_laws.proofs.laws.ear_law.Goals as goal

pub returns-clause-pasch : goal.returns-clause-pasch
returns-clause-pasch c = pasch

pub returns-clause-third : goal.returns-clause-third
returns-clause-third c = ear
