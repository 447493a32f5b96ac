-- Of valid uses none is at fault.
use Rattle.std.proofs.Common.{◌≡◌, sym, ◌∙◌, subst, ℕ, true, false, List, arith, inl, inr}
use Rattle.std.specs.Prelude.{All, Contains}
use Rattle.std.proofs.lemmas.Bool.{cases_Bool}
use Rattle.cov_types.specs.Range.{IsSegInRange}
use Rattle.cov_types.specs.declared.edge_use.EdgeUse.{EdgeUse}
use Rattle.cov_types.specs.declared.seg.Seg.{Seg}
use Rattle.integer_laws.proofs.Ring.{lin}
use Rattle.plane.specs.Joined.{IsOff}
use Rattle.plane.specs.Parity.{member_holds}
use Rattle.plane.specs.Point.{Point, IsBetween}
use Rattle.plane.specs.Segment.{IsOn, upper, lower}
use Rattle.plane.specs.Validity.{IsValid}
use Rattle.plane.proofs.Points.{first_between, second_between}
use Rattle.plane.proofs.Sides.{side_zero-on}
use Rattle.plane.proofs.Sweeps.{rises-in_range}
use Rattle.crossing_laws.specs.Across.{AllMeetInEnds}
use Rattle.crossing_laws.proofs.Beside.{side-upper, side-lower, side_points_clear}
use Rattle.parity_laws.proofs.Middle.{member_holds-upper}
use Rattle.arrangement.specs.Noding.{segments}
use Rattle.cov_valid.specs.Kinds.{HasBadContact, IsSameSide, IsInside, IsFaultOf, AreFaultless}
use Rattle.cov_valid.specs.declared.mark.Kind.{Kind}
use Rattle.cov_valid.specs.declared.mark.Kind.TheVariants.{Meets, Repeated, SameSide, Inside, NarrowGap}
use Rattle.cov_admit.proofs.Segments.{use_by, use_in_range}
use Rattle.cov_admit.proofs.Beside.{all_meet, user_below, guest_alike}

-- ---- the side points of a segment

not_on_upper : (s : Seg) → IsSegInRange s → ¬ IsOn s (upper s)
not_on_upper s range on = let up = rises-in_range s range in omega (arith, lin, side_zero-on s (upper s) on, side-upper s)

not_on_lower : (s : Seg) → IsSegInRange s → ¬ IsOn s (lower s)
not_on_lower s range on = let up = rises-in_range s range in omega (arith, lin, side_zero-on s (lower s) on, side-lower s)

module _ (uses : List EdgeUse) (in_range : All (λ u. IsSegInRange u.seg) uses) (valid : IsValid uses) where
  not_met : (u : EdgeUse) → Contains uses u → ¬ HasBadContact uses u.seg
  not_met u has bad = elim (valid.ends u bad.other has bad.listed) [
    | inl same ↦ bad.meets.0 same
    | inr ends ↦ bad.meets.1.1.1 (ends bad.meets.1.0 bad.meets.1.1.0)
  ]

  meets : (u : EdgeUse) → Contains uses u → AllMeetInEnds u.seg (segments uses)
  meets = all_meet uses in_range valid.ends valid.once

  off_beside : (u : EdgeUse) → Contains uses u → (p : Point) → IsBetween p (lower u.seg) (upper u.seg) → ¬ IsOn u.seg p → IsOff (segments uses) p
  off_beside u has p between not_own f in_f on =
      let meet = meets u has f in_f in
      elim meet.1 [
        | inl same ↦ not_own (subst (λ (s : Seg). IsOn s p) (sym same) on)
        | inr ends ↦ (side_points_clear u.seg f (use_in_range uses in_range u has) meet.0 ends).none p between on
      ]

  -- one member at most holds the side point above a segment, and one the point below it
  one_above : (u : EdgeUse) → Contains uses u → (i j : ℕ) → member_holds uses i (upper u.seg) ≡ true → member_holds uses j (upper u.seg) ≡ true → i ≡ j
  one_above u has = valid.apart (upper u.seg) (off_beside u has (upper u.seg) (second_between (lower u.seg) (upper u.seg)) (not_on_upper u.seg (use_in_range uses in_range u has)))

  one_below : (u : EdgeUse) → Contains uses u → (i j : ℕ) → member_holds uses i (lower u.seg) ≡ true → member_holds uses j (lower u.seg) ≡ true → i ≡ j
  one_below u has = valid.apart (lower u.seg) (off_beside u has (lower u.seg) (first_between (lower u.seg) (upper u.seg)) (not_on_lower u.seg (use_in_range uses in_range u has)))

  below_too : (u : EdgeUse) → Contains uses u → member_holds uses u.member (upper u.seg) ≡ false → member_holds uses u.member (lower u.seg) ≡ true
  below_too = user_below uses in_range valid.ends valid.once

  not_alike : (u : EdgeUse) → Contains uses u → ¬ IsSameSide uses u
  not_alike u has w =
      let other : EdgeUse = use_by w.other.member u.seg in
      let same : w.other ≡ other = λ i. record { member = w.other.member; seg = w.shared i } in
      let has_too : Contains uses other = subst (Contains uses) same w.listed in
      elim (cases_Bool (member_holds uses u.member (upper u.seg))) [
        | inl above ↦ w.another (one_above u has w.other.member u.member (w.alike ∙ above) above)
        | inr not_above ↦ w.another (one_below u has w.other.member u.member (below_too other has_too (w.alike ∙ not_above)) (below_too u has not_above))
      ]

  not_inside : (u : EdgeUse) → Contains uses u → ¬ IsInside uses u.seg
  not_inside u has w =
      let above : member_holds uses w.member (upper u.seg) ≡ true = member_holds-upper uses (use_in_range uses in_range) u.seg w.member ∙ w.held in
      let below : member_holds uses w.member (lower u.seg) ≡ true = guest_alike uses in_range valid.ends valid.once u has w.member w.without ∙ above in
      let other : ¬ (w.member ≡ u.member) = λ same. w.without (subst (λ m. Contains uses (use_by m u.seg)) (sym same) has) in
      elim (cases_Bool (member_holds uses u.member (upper u.seg))) [
        | inl held ↦ other (one_above u has w.member u.member above held)
        | inr not_held ↦ other (one_below u has w.member u.member below (below_too u has not_held))
      ]

  none_at_fault : (u : EdgeUse) → Contains uses u → (kind : Kind) → ¬ IsFaultOf uses u kind
  none_at_fault u has Meets h = not_met u has h
  none_at_fault u has Repeated h = valid.once u h.1
  none_at_fault u has SameSide h = not_alike u has h.2
  none_at_fault u has Inside h = not_inside u has h.3
  none_at_fault u has NarrowGap h = h

pub valid_faultless : (uses : List EdgeUse) → All (λ u. IsSegInRange u.seg) uses → IsValid uses → AreFaultless uses
valid_faultless uses in_range valid u has = none_at_fault uses in_range valid u has
