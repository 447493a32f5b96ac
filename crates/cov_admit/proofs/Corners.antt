-- Uses whose corners are faultless are valid: where two members held a point, they would hold one beside a segment, and so one beside
-- the segments at the least vertex of its region, of which one is faultless.
use Rattle.std.proofs.Common.{◌≡◌, sym, ◌∙◌, ap, subst, ℕ, zero, suc, ◌^◌, Bool, true, false, pos, ◌-ℤ◌, ◌<ℤ◌, neg_ℤ, List, inl, inr, arith}
use Rattle.std.specs.Prelude.{All, Contains}
use Rattle.std.proofs.lemmas.Bool.{cases_eq, false≢true}
use borrow.Author.Differences.{product_is}
use Rattle.integer_laws.proofs.Ring.{lin}
use Rattle.cov_types.specs.Range.{IsInRange, IsSegInRange}
use Rattle.cov_types.specs.Uses.{HasEvenEnds}
use Rattle.cov_types.specs.declared.coord.Coord.{Coord}
use Rattle.cov_types.specs.declared.edge_use.EdgeUse.{EdgeUse}
use Rattle.cov_types.specs.declared.seg.Seg.{Seg}
use Rattle.plane.specs.Joined.{IsOff, Joined}
use Rattle.plane.specs.Noded.{MeetInEnds}
use Rattle.plane.specs.Parity.{member_holds}
use Rattle.plane.specs.Point.{Point, at_coord}
use Rattle.plane.specs.Ray.{sweep}
use Rattle.plane.specs.Region.{far_point}
use Rattle.plane.specs.Segment.{upper, lower}
use Rattle.plane.specs.Validity.{IsValid}
use Rattle.plane.proofs.Sweeps.{rises-in_range}
use Rattle.crossing_laws.proofs.Coverages.{swept_in_range}
use Rattle.crossing_laws.proofs.Sums.{member_holds-joined}
use Rattle.region_laws.proofs.Edge.{below_joined, none_below_outer}
use Rattle.region_laws.proofs.Nearest.{nearest_or_none}
use Rattle.sector_laws.specs.Sector.{HalfEdge, origin, left, IsPlanar}
use Rattle.sector_laws.proofs.Exists.{some_next}
use Rattle.sector_laws.proofs.Sectors.{next_joined}
use Rattle.arrangement.specs.Noding.{segments}
use Rattle.arrangement.proofs.Labels.{far_free}
use Rattle.cov_valid.specs.Corners.{IsFaultlessSegment, AreCornersFaultless}
use Rattle.cov_admit.proofs.Contacts.{meet_in_ends}
use Rattle.cov_admit.proofs.Segments.{among, use_of_segment, noded_by_uses, use_in_range, segments_in_range}
use Rattle.cov_admit.proofs.Beside.{user_differs, one_above, one_below}

-- the sweep values of grid points in range are within 2^60
sweep_within : (v : Coord) → IsInRange v → ((neg_ℤ (pos (2 ^ 60))) <ℤ sweep (at_coord v)) × (sweep (at_coord v) <ℤ pos (2 ^ 60))
unfolding sweep
sweep_within v r = (omega (arith, lin, product_is (pos (2 ^ 30)) v.x, r.left, r.bottom), omega (arith, lin, product_is (pos (2 ^ 30)) v.x, r.right, r.top))

module _ (uses : List EdgeUse) (in_range : All (λ u. IsSegInRange u.seg) uses) (even : HasEvenEnds uses) (c : AreCornersFaultless uses) where
  meet : (u v : EdgeUse) → Contains uses u → Contains uses v → MeetInEnds u.seg v.seg
  meet u v has_u has_v = meet_in_ends u.seg v.seg (λ bad. c.unmet u has_u (record { other = v; listed = has_v; meets = bad }))

  abbrev segs : List Seg
  segs = segments uses

  planar : IsPlanar segs
  planar = record { in_range = segments_in_range uses in_range; noded = noded_by_uses uses meet }

  range_of : (u : EdgeUse) → Contains uses u → IsSegInRange u.seg
  range_of u has = use_in_range uses in_range u has

  held_alike : (member : ℕ) (p q : Point) → Joined segs p q → member_holds uses member p ≡ member_holds uses member q
  held_alike member p q way = member_holds-joined uses member segs (among uses) (swept_in_range segs planar.in_range) (λ inside. even inside member) p q way

  held_on : (member : ℕ) (p q : Point) → Joined segs p q → member_holds uses member p ≡ true → member_holds uses member q ≡ true
  held_on member p q way held = sym (held_alike member p q way) ∙ held

  above_faultless : (u : EdgeUse) → Contains uses u → IsFaultlessSegment uses u.seg → (i j : ℕ) → member_holds uses i (upper u.seg) ≡ true → member_holds uses j (upper u.seg) ≡ true → ¬ (i ≡ j) → ⊥
  above_faultless u has faultless = one_above uses in_range meet c.once u has (c.unmet u has) faultless

  below_faultless : (u : EdgeUse) → Contains uses u → IsFaultlessSegment uses u.seg → (i j : ℕ) → member_holds uses i (lower u.seg) ≡ true → member_holds uses j (lower u.seg) ≡ true → ¬ (i ≡ j) → ⊥
  below_faultless u has faultless = one_below uses in_range meet c.once u has (c.unmet u has) faultless

  module _ (i j : ℕ) (differ : ¬ (i ≡ j)) where
    -- both hold the point
    abbrev AreBoth : Point → Type 0
    AreBoth p = (member_holds uses i p ≡ true) × (member_holds uses j p ≡ true)

    both_on : (p q : Point) → Joined segs p q → AreBoth p → AreBoth q
    both_on p q way both = (held_on i p q way both.0, held_on j p q way both.1)

    -- of two different segments that begin at one vertex, both do not hold the point below the one and the point above the other
    no_corner : (u v : EdgeUse) → Contains uses u → Contains uses v → u.seg.lo ≡ v.seg.lo → Joined segs (lower u.seg) (upper v.seg) → AreBoth (lower u.seg) → ⊥
    no_corner u v has_u has_v lo way both = elim (c.corners u v has_u has_v lo) [
      | inl same ↦
          user_differs uses in_range meet c.once u has_u
          (held_alike u.member (lower u.seg) (upper u.seg) (subst (λ (s : Seg). Joined segs (lower u.seg) (upper s)) (sym same) way))
      | inr one ↦ elim one [
        | inl first ↦ below_faultless u has_u first i j both.0 both.1 differ
        | inr second ↦ (let on = both_on (lower u.seg) (upper v.seg) way both in above_faultless v has_v second i j on.0 on.1 differ)
      ]
    ]

    -- both do not hold the point below a segment: not the one of the segment that follows round its lesser end, and so on
    none_below : (n : ℕ) (u : EdgeUse) → Contains uses u → sweep (at_coord u.seg.lo) <ℤ (pos n -ℤ pos (2 ^ 60)) → AreBoth (lower u.seg) → ⊥
    none_below zero u has low both = (let within = (sweep_within u.seg.lo (range_of u has).lo).0 in omega (arith, lin))
    none_below (suc n) u has low both =
        let back : HalfEdge = record { edge = u.seg; forwards = false } in
        let (g, next) = some_next segs planar back (among uses u has) in
        by_direction (none_below n) g.edge g.forwards next.leaves.among next.leaves.from (next_joined segs planar back g next)
      where
        by_direction : ((v : EdgeUse) → Contains uses v → sweep (at_coord v.seg.lo) <ℤ (pos n -ℤ pos (2 ^ 60)) → AreBoth (lower v.seg) → ⊥) → (f : Seg) (b : Bool) → Contains segs f
            → origin (record { edge = f; forwards = b }) ≡ u.seg.lo → Joined segs (lower u.seg) (left (record { edge = f; forwards = b })) → ⊥
        by_direction earlier f true here from way =
            let (v, (has_v, is)) = use_of_segment uses f here in
            no_corner u v has has_v (sym (ap (λ (s : Seg). s.lo) is ∙ from)) (subst (λ (s : Seg). Joined segs (lower u.seg) (upper s)) (sym is) way) both
        by_direction earlier f false here from way =
            let (v, (has_v, is)) = use_of_segment uses f here in
            let on = both_on (lower u.seg) (lower v.seg) (subst (λ (s : Seg). Joined segs (lower u.seg) (lower s)) (sym is) way) both in
            let hi : sweep (at_coord v.seg.hi) ≡ sweep (at_coord u.seg.lo) = ap (λ (s : Seg). sweep (at_coord s.hi)) is ∙ ap (λ a. sweep (at_coord a)) from in
            let up = rises-in_range v.seg (range_of v has_v) in
            earlier v has_v (omega (arith, lin, hi, up, low)) on

    never_below : (v : EdgeUse) → Contains uses v → AreBoth (lower v.seg) → ⊥
    never_below v has_v on = (let within = (sweep_within v.seg.lo (range_of v has_v).lo).1 in none_below (2 ^ 61) v has_v (omega (arith, lin, within)) on)

    -- nor the point above it: that is joined with the point below a segment, or above one that ends later
    none_above : (n : ℕ) (u : EdgeUse) → Contains uses u → (pos (2 ^ 60) -ℤ pos n) <ℤ sweep (at_coord u.seg.hi) → AreBoth (upper u.seg) → ⊥
    none_above zero u has high both = (let within = (sweep_within u.seg.hi (range_of u has).hi).1 in omega (arith, lin))
    none_above (suc n) u has high both =
        let ahead : HalfEdge = record { edge = u.seg; forwards = true } in
        let (g, next) = some_next segs planar ahead (among uses u has) in
        by_direction (none_above n) g.edge g.forwards next.leaves.among next.leaves.from (next_joined segs planar ahead g next)
      where
        by_direction : ((v : EdgeUse) → Contains uses v → (pos (2 ^ 60) -ℤ pos n) <ℤ sweep (at_coord v.seg.hi) → AreBoth (upper v.seg) → ⊥) → (f : Seg) (b : Bool) → Contains segs f
            → origin (record { edge = f; forwards = b }) ≡ u.seg.hi → Joined segs (upper u.seg) (left (record { edge = f; forwards = b })) → ⊥
        by_direction later f true here from way =
            let (v, (has_v, is)) = use_of_segment uses f here in
            let on = both_on (upper u.seg) (upper v.seg) (subst (λ (s : Seg). Joined segs (upper u.seg) (upper s)) (sym is) way) both in
            let lo : sweep (at_coord v.seg.lo) ≡ sweep (at_coord u.seg.hi) = ap (λ (s : Seg). sweep (at_coord s.lo)) is ∙ ap (λ a. sweep (at_coord a)) from in
            let up = rises-in_range v.seg (range_of v has_v) in
            later v has_v (omega (arith, lin, lo, up, high)) on
        by_direction later f false here from way =
            let (v, (has_v, is)) = use_of_segment uses f here in
            let on = both_on (upper u.seg) (lower v.seg) (subst (λ (s : Seg). Joined segs (upper u.seg) (lower s)) (sym is) way) both in
            never_below v has_v on

    none_beside : (u : EdgeUse) → Contains uses u → AreBoth (upper u.seg) → ⊥
    none_beside u has both = (let within = (sweep_within u.seg.hi (range_of u has).hi).0 in none_above (2 ^ 61) u has (omega (arith, lin, within)) both)

    none_off : (p : Point) → IsOff segs p → AreBoth p → ⊥
    none_off p off both = elim (nearest_or_none segs planar p) [
      | inl found ↦ (
          let e = found.0 in
          let (u, (has, is)) = use_of_segment uses e found.1.below.among in
          let on = both_on p (upper e) (below_joined segs planar p off e found.1) both in
          none_beside u has (subst (λ (s : Seg). AreBoth (upper s)) (sym is) on)
          )
      | inr nothing ↦ (
          let way = none_below_outer segs planar p off nothing in
          false≢true (sym (held_alike i p far_point way ∙ far_free uses planar.in_range i) ∙ both.0)
          )
    ]

  pub corners_valid : IsValid uses
  corners_valid = record {
    ends = meet;
    once = c.once;
    apart = λ p off i j held_i held_j. elim (cases_eq i j) [
      | inl same ↦ same
      | inr differ ↦ absurd (none_off i j differ p off (held_i, held_j))
    ];
  }
