-- The segments of uses in range, and who has them.
use Rattle.std.proofs.Common.{◌≡◌, refl, sym, ◌∙◌, subst, ℕ, ◌⊎◌, true≢false, List, get_or, arith, inl, inr}
use Rattle.std.specs.Prelude.{All, Contains}
use Rattle.std.proofs.lemmas.Bool.{cases_Bool, cases_lt}
use Rattle.std.proofs.lemmas.List.Elements.{All-contains, Contains-get_or}
use Rattle.cov_types.specs.Range.{IsSegInRange}
use Rattle.cov_types.specs.declared.edge_use.EdgeUse.{EdgeUse}
use Rattle.cov_types.specs.declared.seg.Seg.{Seg}
use Rattle.cov_types.proofs.Equal.{Decides-same_segs}
use Rattle.plane.specs.Noded.{IsNodedFully, MeetInEnds}
use Rattle.arrangement.specs.Noding.{segments}
use Rattle.arrangement.proofs.Labels.{mapped}
use Rattle.crossing_laws.specs.Across.{is_same_seg, member_times}
use Rattle.crossing_laws.proofs.Lists.{contains-map}
use Rattle.removal_laws.proofs.Counts.{has_times, times_has}

-- the use that a member makes of a segment
abbrev pub use_by : ℕ → Seg → EdgeUse
use_by member s = record { member = member; seg = s }

pub same_or_not : (s t : Seg) → (s ≡ t) ⊎ ¬ (s ≡ t)
same_or_not s t = elim (cases_Bool (is_same_seg s t)) [
  | inl same ↦ inl ((Decides-same_segs s t).0 same)
  | inr other ↦ inr (λ same. true≢false (sym ((Decides-same_segs s t).1 same) ∙ other))
]

pub has_or_not : (uses : List EdgeUse) (member : ℕ) (s : Seg) → Contains uses (use_by member s) ⊎ ¬ Contains uses (use_by member s)
has_or_not uses member s = elim (cases_lt 0 (member_times s uses member)) [
  | inl some ↦ inl (times_has uses member s some)
  | inr none ↦ inr (λ has. let once = has_times uses member s has in omega (arith, once, none))
]

pub among : (uses : List EdgeUse) (u : EdgeUse) → Contains uses u → Contains (segments uses) u.seg
among uses u has = contains-map (λ (v : EdgeUse). v.seg) uses u has

-- a segment is that of a use
pub use_of_segment : (uses : List EdgeUse) (s : Seg) → Contains (segments uses) s → (u : EdgeUse) × (Contains uses u × (u.seg ≡ s))
use_of_segment uses = mapped (λ (u : EdgeUse). u.seg) (λ s. (u : EdgeUse) × (Contains uses u × (u.seg ≡ s))) uses (λ u has. (u, (has, refl)))

-- segments meet in ends alone where those of the uses do
pub noded_by_uses : (uses : List EdgeUse) → ((u v : EdgeUse) → Contains uses u → Contains uses v → MeetInEnds u.seg v.seg) → IsNodedFully (segments uses)
noded_by_uses uses each e f in_e in_f =
    let u = use_of_segment uses e in_e in
    let v = use_of_segment uses f in_f in
    subst (λ s. MeetInEnds s f) u.1.1 (subst (λ t. MeetInEnds (u.0).seg t) v.1.1 (each u.0 v.0 u.1.0 v.1.0))

module _ (uses : List EdgeUse) (in_range : All (λ u. IsSegInRange u.seg) uses) where
  pub use_in_range : (u : EdgeUse) → Contains uses u → IsSegInRange u.seg
  use_in_range u has = All-contains (λ (v : EdgeUse). IsSegInRange v.seg) uses u in_range has

  pub segments_in_range : All IsSegInRange (segments uses)
  segments_in_range = λ k d within. (
      mapped (λ (u : EdgeUse). u.seg) IsSegInRange uses use_in_range
      (get_or (segments uses) k d) (Contains-get_or (segments uses) k d within))
