use Rattle.std.proofs.Common.{◌≡◌, ◌≤◌, ◌++◌, length}
use Rattle.std.specs.Prelude.{slice_range}
use Rattle.owner_label.proofs.toggle.append_part.Given as goal

abbrev pub invariant-loop-place : goal.invariant-loop-place
invariant-loop-place l = record {
  longer : length l.fn.list.items ≤ length l.list.items;
  appended : l.list.items ≡ l.fn.list.items ++ slice_range l.fn.list.items l.from l.place;
}
