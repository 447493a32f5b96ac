use Rattle.std.proofs.Common.{◌≡◌, ◌≤◌, ◌++◌, length, take}
use Rattle.owner_label.specs.Members.{members_at}
use Rattle.owner_label.proofs.toggle.append_members.Given as goal

abbrev pub invariant-loop-place : goal.invariant-loop-place
invariant-loop-place l = record {
  longer : length l.fn.list.items ≤ length l.list.items;
  appended : l.list.items ≡ l.fn.list.items ++ members_at l.odd (take l.place-index l.places);
}
