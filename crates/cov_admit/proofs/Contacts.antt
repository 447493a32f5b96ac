-- Two segments that do not meet badly meet in ends alone.
use Rattle.std.proofs.Common.{◌≡◌, ◌⊎◌, inl, inr}
use Rattle.cov_types.specs.declared.seg.Seg.{Seg}
use Rattle.plane.specs.Contact.{IsCommon, MeetsBadly}
use Rattle.plane.specs.Noded.{MeetInEnds}
use Rattle.plane.specs.Point.{Point, at_coord}
use Rattle.plane.specs.Segment.{IsEnd}
use Rattle.plane.proofs.Points.{same_point-or_not}
use Rattle.cov_admit.proofs.Segments.{same_or_not}

end_or_not : (s : Seg) (r : Point) → IsEnd s r ⊎ ¬ IsEnd s r
end_or_not s r = elim (same_point-or_not r (at_coord s.lo)) [
  | inl lo ↦ inl (inl lo)
  | inr not_lo ↦ elim (same_point-or_not r (at_coord s.hi)) [
    | inl hi ↦ inl (inr hi)
    | inr not_hi ↦ inr (λ h. elim h [ inl lo ↦ not_lo lo | inr hi ↦ not_hi hi ])
  ]
]

ends_or_bad : (s t : Seg) (r : Point) → ¬ (s ≡ t) → IsCommon s t r → ¬ MeetsBadly s t → IsEnd s r × IsEnd t r
ends_or_bad s t r other common good = elim (end_or_not s r) [
  | inl end_s ↦ elim (end_or_not t r) [
    | inl end_t ↦ (end_s, end_t)
    | inr not_end ↦ absurd (good (other, (r, (common, λ ends. not_end ends.1))))
  ]
  | inr not_end ↦ absurd (good (other, (r, (common, λ ends. not_end ends.0))))
]

pub meet_in_ends : (s t : Seg) → ¬ MeetsBadly s t → MeetInEnds s t
meet_in_ends s t good = elim (same_or_not s t) [
  | inl same ↦ inl same
  | inr other ↦ inr (λ r common. ends_or_bad s t r other common good)
]
