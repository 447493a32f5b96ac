-- How a cleaning leaves the handed-in rule that it goes by.
use Rattle.std.specs.Prelude.{◌≡◌, ◌⊎◌, ℕ, Bool, List, length}
use Rattle.arrangement.specs.Overlay.{Overlay, IsSnappedOverlay}
use Rattle.cov_types.specs.Coverage.{Members}
use Rattle.cov_types.specs.Uses.{uses_of}
use Rattle.gap_replay.specs.Replay.{HasLastState, HasAskedSome}
use Rattle.merge_rule.specs.RuleState.{RuleState}
use Rattle.cov_rules.specs.Hired.{by_kind}
use Rattle.cov_rules.specs.Kinds.{room, IsPartlyPrepared}

-- the numbers of a handed-in rule once it is prepared for so many members
abbrev pub prepared : RuleState → ℕ → RuleState
prepared numbers members = (numbers.0, room numbers.0 numbers.1 members)

-- the rule of these numbers was prepared for the members and asked for all shared regions and, where that is said, for all narrow gaps
abbrev pub IsAskedAll : Members → ℕ → Bool → RuleState → RuleState → Type 0
IsAskedAll members gap too numbers now =
    (o : Overlay) → IsSnappedOverlay (uses_of members) (length members) o → HasLastState too by_kind (prepared numbers (length members)) o gap now

-- the rule was prepared for the members and asked for the first of these, be it none of them or all
abbrev pub IsAskedSome : Members → ℕ → Bool → RuleState → RuleState → Type 0
IsAskedSome members gap too numbers now =
    (o : Overlay) → IsSnappedOverlay (uses_of members) (length members) o → HasAskedSome too by_kind (prepared numbers (length members)) o gap now

-- the rule was not prepared for want of memory: what is fixed stays, and of a chain the first parts are prepared
pub record IsUnprepared (members : ℕ) (numbers now : RuleState) : Type 0 where
  pub fixed : now.0 ≡ numbers.0
  pub partly : IsPartlyPrepared numbers.0 numbers.1 members now.1

-- memory ran out while the rule was prepared, or after that
abbrev pub IsAskedUntil : Members → ℕ → Bool → RuleState → RuleState → Type 0
IsAskedUntil members gap too numbers now = IsUnprepared (length members) numbers now ⊎ IsAskedSome members gap too numbers now
