use Rattle.std.proofs.Common.{◌≡◌}
use Rattle.box_tree.specs.Places.{places}
use Rattle.box_tree.specs.Rect.{is_touching}
use Rattle.cov_valid.specs.Contacts.{AreContacts, boxes_of}
use Rattle.cov_valid.proofs.contacts.add_block.Given as goal

abbrev pub invariant-loop-k : goal.invariant-loop-k
invariant-loop-k l = (l.near.wide.items ≡ places (is_touching l.round) 0 (boxes_of l.groups)) × AreContacts l.groups l.k l.met.items
