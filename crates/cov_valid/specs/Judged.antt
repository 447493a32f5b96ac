-- The kinds of the faults of uses, in the order of the entries and in that of the uses.
use Rattle.std.specs.Prelude.{◌≡◌, ℕ, ◌<◌, List, length, All, Option, MatchOption, slice_index_or}
use Rattle.cov_types.specs.Range.{IsSegInRange}
use Rattle.cov_types.specs.declared.edge_use.EdgeUse.{EdgeUse}
use Rattle.cov_valid.specs.Entries.{AreEntries, AreTogether}
use Rattle.cov_valid.specs.Groups.{IsGroup, AreGroupsInRow}
use Rattle.cov_valid.specs.Kinds.{IsFaultOf, IsFaultless}
use Rattle.cov_valid.specs.declared.entry.Entry.{Entry}
use Rattle.cov_valid.specs.declared.group.Group.{Group}
use Rattle.cov_valid.specs.declared.mark.Kind.{Kind}

-- the kind of the use's fault, or none where it is not at fault
abbrev pub IsKindOf : List EdgeUse → EdgeUse → Option Kind → Type 0
IsKindOf uses edge kind = MatchOption kind (IsFaultless uses edge) (IsFaultOf uses edge)

-- the use that an entry stands for
abbrev pub use_of : Entry → EdgeUse
use_of e = record { member = e.member; seg = e.seg }

-- the entries of uses in range, with equal segments side by side
pub record AreSorted (uses : List EdgeUse) (entries : List Entry) : Type 0 where
  pub in_range : All (λ u. IsSegInRange u.seg) uses
  pub entries_are : AreEntries uses entries
  pub together : AreTogether entries

-- all groups of the entries
pub record AreGroups (entries : List Entry) (groups : List Group) : Type 0 where
  pub each : All (IsGroup entries) groups
  pub in_row : AreGroupsInRow 0 groups (length entries)

-- the kinds of the first so many entries
pub record AreJudged (uses : List EdgeUse) (entries : List Entry) (n : ℕ) (kinds : List (Option Kind)) : Type 0 where
  pub count : length kinds ≡ n
  pub each : (k : ℕ) (d : Entry) (o : Option Kind) → k < n → IsKindOf uses (use_of (slice_index_or entries k d)) (slice_index_or kinds k o)

-- the kinds of the uses
pub record AreKinds (uses : List EdgeUse) (kinds : List (Option Kind)) : Type 0 where
  pub count : length kinds ≡ length uses
  pub each : (k : ℕ) (d : EdgeUse) (o : Option Kind) → k < length uses → IsKindOf uses (slice_index_or uses k d) (slice_index_or kinds k o)
