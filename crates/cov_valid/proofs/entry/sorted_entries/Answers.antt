use Rattle.cov_valid.proofs.Sorting.{sorted_entries, sorted_together}
use Rattle.cov_valid.proofs.entry.sorted_entries.Goals as goal

pub returns-clause-entries : goal.returns-clause-entries
returns-clause-entries c = sorted_entries c.args.uses.now c.in_ok-entries.entries.items c.sort_unstable.new.self.items c.sort_unstable.ensures.permutation c.in_ok-entries.ensures

pub returns-clause-together : goal.returns-clause-together
returns-clause-together c =
    sorted_together c.args.uses.now c.in_ok-entries.entries.items c.sort_unstable.new.self.items c.sort_unstable.ensures.permutation c.sort_unstable.ensures.sorted c.in_ok-entries.ensures
