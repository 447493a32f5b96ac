use Rattle.std.proofs.Common.{◌≡◌, length, subst, arith}
use Rattle.cov_valid.proofs.contacts.contacts.Goals as goal
use Rattle.cov_valid.specs.Contacts.{AreContacts}

pub returns : goal.returns
returns c =
    let all : length c.next_block.met.items ≡ length c.args.groups.now = omega arith in
    subst (λ n. AreContacts c.args.groups.now n c.next_block.met.items) all c.next_block.invariant.1
