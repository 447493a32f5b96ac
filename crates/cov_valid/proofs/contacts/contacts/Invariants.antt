use Rattle.std.proofs.Common.{◌≤◌, ◌-◌, length}
use Rattle.cov_valid.specs.Contacts.{AreContacts}
use Rattle.cov_valid.proofs.contacts.contacts.Given as goal

abbrev pub invariant-next_block : goal.invariant-next_block
invariant-next_block l = (length l.met.items ≤ length l.groups) × AreContacts l.groups (length l.met.items) l.met.items

abbrev pub decreases-next_block : goal.decreases-next_block
decreases-next_block l = length l.groups - length l.met.items
