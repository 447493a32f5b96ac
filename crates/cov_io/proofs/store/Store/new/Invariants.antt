use Rattle.std.proofs.Common.{◌≡◌, ◌≤◌, map, vec_capacity, All}
use Rattle.cov_io.specs.Entry.{entry_of}
use Rattle.cov_io.proofs.store.Store.new.Given as goal

abbrev pub invariant-loop-file : goal.invariant-loop-file
invariant-loop-file l = record {
  same : map entry_of l.roomy.items ≡ map entry_of l.yielded;
  room : All (λ f. l.room ≤ vec_capacity f.bytes) l.roomy.items;
}
