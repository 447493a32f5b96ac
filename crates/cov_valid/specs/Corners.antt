-- What is enough to know of uses: of the segments that begin at one vertex all but one are faultless.
use Rattle.std.specs.Prelude.{◌≡◌, ◌⊎◌, ℕ, ◌+◌, ◌<◌, List, length, Contains, slice_index_or}
use Rattle.cov_types.specs.declared.edge_use.EdgeUse.{EdgeUse}
use Rattle.cov_types.specs.declared.seg.Seg.{Seg}
use Rattle.cov_valid.specs.Kinds.{HasBadContact, IsFaultless}
use Rattle.cov_valid.specs.declared.entry.Entry.{Entry}
use Rattle.cov_valid.specs.declared.group.Group.{Group}
use Rattle.plane.specs.Validity.{IsRepeated}

-- no use of the segment is at fault
abbrev pub IsFaultlessSegment : List EdgeUse → Seg → Type 0
IsFaultlessSegment uses s = (member : ℕ) → Contains uses (record { member = member; seg = s }) → IsFaultless uses (record { member = member; seg = s })

-- nothing is met badly or repeated, and of two segments that begin at one vertex, with their lesser ends, one is faultless
pub record AreCornersFaultless (uses : List EdgeUse) : Type 0 where
  pub unmet : (u : EdgeUse) → Contains uses u → ¬ HasBadContact uses u.seg
  pub once : (u : EdgeUse) → ¬ IsRepeated uses u
  pub corners : (u v : EdgeUse) → Contains uses u → Contains uses v → u.seg.lo ≡ v.seg.lo
      → (u.seg ≡ v.seg) ⊎ (IsFaultlessSegment uses u.seg ⊎ IsFaultlessSegment uses v.seg)

-- no two entries are of one member and one segment
abbrev pub AreAlone : List Entry → Type 0
AreAlone entries = (i j : ℕ) (d : Entry) → i < j → j < length entries → (slice_index_or entries i d).seg ≡ (slice_index_or entries j d).seg
    → ¬ ((slice_index_or entries i d).member ≡ (slice_index_or entries j d).member)

-- two entries are of one member and one segment
pub record HasTwo (entries : List Entry) : Type 0 where
  pub first : ℕ
  pub second : ℕ
  pub apart : first < second
  pub within : second < length entries
  pub seg : (d : Entry) → (slice_index_or entries first d).seg ≡ (slice_index_or entries second d).seg
  pub member : (d : Entry) → (slice_index_or entries first d).member ≡ (slice_index_or entries second d).member

-- of the first so many groups each is faultless whose segment begins where that of the next one does
abbrev pub AreFirstFaultless : List EdgeUse → List Group → ℕ → Type 0
AreFirstFaultless uses groups n = (k : ℕ) (d : Group) → k + 1 < n → (slice_index_or groups k d).seg.lo ≡ (slice_index_or groups (k + 1) d).seg.lo
    → IsFaultlessSegment uses (slice_index_or groups k d).seg
