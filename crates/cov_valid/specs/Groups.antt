-- The entries of one segment.
use Rattle.std.specs.Prelude.{◌≡◌, ℕ, ◌+◌, ◌<◌, ◌≤◌, List, [], ◌∷◌, length, slice_index_or}
use Rattle.cov_valid.specs.declared.entry.Entry.{Entry}
use Rattle.cov_valid.specs.declared.group.Group.{Group}

-- the entries in the group have its segment, and no others have
pub record IsGroup (entries : List Entry) (group : Group) : Type 0 where
  pub some : group.from < group.to
  pub within : group.to ≤ length entries
  pub same : (k : ℕ) (d : Entry) → group.from ≤ k → k < group.to → (slice_index_or entries k d).seg ≡ group.seg
  pub whole : (k : ℕ) (d : Entry) → k < length entries → (slice_index_or entries k d).seg ≡ group.seg → (group.from ≤ k) × (k < group.to)

-- the groups lie one after the other from a place to another
abbrev pub AreGroupsInRow : ℕ → List Group → ℕ → Type 0
AreGroupsInRow from [] to = from ≡ to
AreGroupsInRow from (group ∷ groups) to = (group.from ≡ from) × (from < group.to) × AreGroupsInRow group.to groups to

-- the members of the entries from one place to before another
pub record AreMembers (entries : List Entry) (from to : ℕ) (members : List ℕ) : Type 0 where
  pub count : from + length members ≡ to
  pub each : (k : ℕ) (d : ℕ) (e : Entry) → k < length members → slice_index_or members k d ≡ (slice_index_or entries (from + k) e).member
