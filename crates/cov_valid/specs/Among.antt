-- Faults of the users of a segment that nothing meets badly, told from the numbers of its users and of the members that hold its midpoint.
use Rattle.std.specs.Prelude.{◌≡◌, ℕ, ◌+◌, ◌<◌, ◌↔◌, Bool, true, false, IsTrue, List, length, Contains, Option, Some, MatchOption, slice_get, slice_index_or}
use Rattle.cov_valid.specs.declared.among.Faults.{Faults}
use Rattle.cov_valid.specs.declared.mark.Kind.{Kind}
use Rattle.cov_valid.specs.declared.mark.Kind.TheVariants.{Meets, Repeated, SameSide, Inside, NarrowGap}

-- the number stands at two places
pub record IsTwice (users : List ℕ) (member : ℕ) : Type 0 where
  pub first : ℕ
  pub second : ℕ
  pub apart : first < second
  pub at_first : slice_get users first ≡ Some member
  pub at_second : slice_get users second ≡ Some member

-- another user holds the midpoint exactly where this one does
pub record HasPeer (users holders : List ℕ) (member : ℕ) : Type 0 where
  pub other : ℕ
  pub listed : Contains users other
  pub another : ¬ (other ≡ member)
  pub alike : Contains holders other ↔ Contains holders member

-- a member that is no user holds the midpoint
abbrev pub HasGuest : List ℕ → List ℕ → Type 0
HasGuest users holders = (member : ℕ) × (Contains holders member × ¬ Contains users member)

-- the fault of the user is of this kind
abbrev pub IsFaultAmong : List ℕ → List ℕ → ℕ → Kind → Type 0
IsFaultAmong users holders member Meets = ⊥
IsFaultAmong users holders member Repeated = IsTwice users member
IsFaultAmong users holders member SameSide = ¬ IsTwice users member × HasPeer users holders member
IsFaultAmong users holders member Inside = ¬ IsTwice users member × ¬ HasPeer users holders member × HasGuest users holders
IsFaultAmong users holders member NarrowGap = ⊥

-- the user is not at fault
abbrev pub IsFaultlessAmong : List ℕ → List ℕ → ℕ → Type 0
IsFaultlessAmong users holders member = ¬ IsTwice users member × ¬ HasPeer users holders member × ¬ HasGuest users holders

-- the kind of the user's fault, or none where it is not at fault
abbrev pub IsKindAmong : List ℕ → List ℕ → ℕ → Option Kind → Type 0
IsKindAmong users holders member kind = MatchOption kind (IsFaultlessAmong users holders member) (IsFaultAmong users holders member)

-- the list tells of each number whether it is in another list
pub record ArePresent (numbers list : List ℕ) (present : List Bool) : Type 0 where
  pub count : length present ≡ length numbers
  pub each : (k : ℕ) (d : ℕ) (e : Bool) → k < length numbers → IsTrue (slice_index_or present k e) ↔ Contains list (slice_index_or numbers k d)

-- two users of different numbers, of both of which the list says this
pub record AreTwo (users : List ℕ) (held : List Bool) (side : Bool) : Type 0 where
  pub first : ℕ
  pub second : ℕ
  pub one : ℕ
  pub other : ℕ
  pub at_first : slice_get users first ≡ Some one
  pub at_second : slice_get users second ≡ Some other
  pub first_side : slice_get held first ≡ Some side
  pub second_side : slice_get held second ≡ Some side
  pub apart : ¬ (one ≡ other)

-- what is at fault among the users, where the list says which of them hold the midpoint
pub record AreFaults (users holders : List ℕ) (held : List Bool) (faults : Faults) : Type 0 where
  pub inner : IsTrue faults.inner ↔ AreTwo users held true
  pub outer : IsTrue faults.outer ↔ AreTwo users held false
  pub guest : IsTrue faults.guest ↔ HasGuest users holders

-- the kinds of the users' faults are put behind a list
pub record AddsKinds (users holders : List ℕ) (before after : List (Option Kind)) : Type 0 where
  pub count : length after ≡ length before + length users
  pub kept : (k : ℕ) (d : Option Kind) → k < length before → slice_index_or after k d ≡ slice_index_or before k d
  pub each : (k : ℕ) (d : Option Kind) (m : ℕ) → k < length users → IsKindAmong users holders (slice_index_or users k m) (slice_index_or after (length before + k) d)
