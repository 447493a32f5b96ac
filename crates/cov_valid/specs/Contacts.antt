-- Segments that are met badly, group by group.
use Rattle.std.specs.Prelude.{◌≡◌, ℕ, ◌<◌, ◌↔◌, Bool, IsTrue, List, length, map, Contains, slice_index_or}
use Rattle.box_tree.specs.Rect.{box_of_segment}
use Rattle.box_tree.specs.declared.rect.Rect.{Rect}
use Rattle.cov_types.specs.declared.seg.Seg.{Seg}
use Rattle.cov_valid.specs.declared.group.Group.{Group}
use Rattle.plane.specs.Contact.{MeetsBadly}

-- the segment of some group meets s badly
abbrev pub IsMet : List Group → Seg → Type 0
IsMet groups s = (group : Group) × (Contains groups group × MeetsBadly s group.seg)

-- the segment of a group at one of the places meets s badly
abbrev pub IsMetAt : List Group → List ℕ → Seg → Type 0
IsMetAt groups places s = (k : ℕ) × (Contains places k × ((d : Group) → MeetsBadly s (slice_index_or groups k d).seg))

-- the list says of the first so many groups whether the segment is met badly
pub record AreContacts (groups : List Group) (n : ℕ) (met : List Bool) : Type 0 where
  pub count : length met ≡ n
  pub each : (k : ℕ) (d : Group) (e : Bool) → k < n → IsTrue (slice_index_or met k e) ↔ IsMet groups (slice_index_or groups k d).seg

-- the boxes of the groups' segments
abbrev pub boxes_of : List Group → List Rect
boxes_of groups = map (λ group. box_of_segment group.seg) groups
