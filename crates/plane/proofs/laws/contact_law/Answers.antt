use Rattle.plane.proofs.Contacts.{contact_unique}
use Rattle.plane.proofs.laws.contact_law.Goals as goal

pub returns : goal.returns
returns c = contact_unique
