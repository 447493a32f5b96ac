-- The uses of a coverage in the order in which they are looked at: equal segments side by side, along a curve.
use Rattle.std.specs.Prelude.{◌≡◌, ℕ, ◌<◌, ◌≤◌, List, length, All, AllPairs, Contains, Some, slice_get, slice_index_or}
use Rattle.std.specs.Ordering.{nat_cmp, ordering_then}
use Rattle.std.specs.declared.cmp.Ordering.{Ordering}
use Rattle.box_tree.specs.Curve.{curve_of}
use Rattle.cov_types.specs.Seg.{seg_cmp}
use Rattle.cov_types.specs.declared.edge_use.EdgeUse.{EdgeUse}
use Rattle.cov_types.specs.declared.seg.Seg.{Seg}
use Rattle.cov_valid.specs.declared.entry.Entry.{Entry}

-- where the segment stands along the curve: its lesser end does
abbrev pub curve_of_seg : Seg → ℕ
curve_of_seg s = curve_of s.lo

-- the entry stands for the use at its place
pub record IsEntry (uses : List EdgeUse) (e : Entry) : Type 0 where
  pub at_place : slice_get uses e.place ≡ Some (record { member = e.member; seg = e.seg })
  pub curve : e.curve ≡ curve_of_seg e.seg

-- there is one entry for each use
pub record AreEntries (uses : List EdgeUse) (entries : List Entry) : Type 0 where
  pub listed : All (IsEntry uses) entries
  pub each : (k : ℕ) → k < length uses → (e : Entry) × (Contains entries e × (e.place ≡ k))
  pub once : AllPairs (λ d e. ¬ (d.place ≡ e.place)) entries

-- the entries stand for the first so many uses, in their order
pub record ArePlaced (uses : List EdgeUse) (n : ℕ) (entries : List Entry) : Type 0 where
  pub count : length entries ≡ n
  pub places : (k : ℕ) (d : Entry) → k < n → (slice_index_or entries k d).place ≡ k
  pub listed : All (IsEntry uses) entries

-- between two entries of a segment there are none of others, and its members ascend; so stand the segments that begin at one vertex
pub record AreTogether (entries : List Entry) : Type 0 where
  pub between : (i j k : ℕ) (d : Entry) → i ≤ j → j ≤ k → k < length entries → (slice_index_or entries i d).seg ≡ (slice_index_or entries k d).seg
      → (slice_index_or entries j d).seg ≡ (slice_index_or entries i d).seg
  pub ascending : (i j : ℕ) (d : Entry) → i ≤ j → j < length entries → (slice_index_or entries i d).seg ≡ (slice_index_or entries j d).seg
      → (slice_index_or entries i d).member ≤ (slice_index_or entries j d).member
  pub from_vertex : (i j k : ℕ) (d : Entry) → i ≤ j → j ≤ k → k < length entries → (slice_index_or entries i d).seg.lo ≡ (slice_index_or entries k d).seg.lo
      → (slice_index_or entries j d).seg.lo ≡ (slice_index_or entries i d).seg.lo

-- what `cmp` answers of two entries
abbrev pub entry_cmp : Entry → Entry → Ordering
entry_cmp a b = ordering_then (nat_cmp a.curve b.curve) (ordering_then (seg_cmp a.seg b.seg) (ordering_then (nat_cmp a.member b.member) (nat_cmp a.place b.place)))
