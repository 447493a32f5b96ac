-- The members that hold the points beside a segment, where segments meet in ends alone and no member repeats one.
use Rattle.std.proofs.Common.{◌≡◌, refl, sym, ◌∙◌, ap, ℕ, ◌%◌, ◌<◌, ◌≤◌, Bool, true, false, List, arith, inl, inr}
use Rattle.std.specs.Prelude.{All, Contains}
use Rattle.std.proofs.lemmas.Bool.{cases_lt, cases_Bool, true_from_ne_false}
use Rattle.cov_types.specs.Range.{IsSegInRange}
use Rattle.cov_types.specs.declared.edge_use.EdgeUse.{EdgeUse}
use Rattle.plane.specs.Noded.{MeetInEnds}
use Rattle.plane.specs.Parity.{member_holds}
use Rattle.plane.specs.Segment.{upper, lower}
use Rattle.plane.specs.Validity.{IsRepeated}
use Rattle.crossing_laws.specs.Across.{AllMeetInEnds, member_times}
use Rattle.crossing_laws.proofs.Changes.{member_holds-across}
use Rattle.parity_laws.proofs.Middle.{member_holds-upper}
use Rattle.arrangement.specs.Noding.{segments}
use Rattle.arrangement.proofs.Labels.{mapped}
use Rattle.removal_laws.proofs.Counts.{has_times, times_has, repeated_of}
use Rattle.cov_valid.specs.Corners.{IsFaultlessSegment}
use Rattle.cov_valid.specs.Kinds.{HasBadContact, IsSameSide, IsInside}
use Rattle.cov_valid.specs.declared.mark.Kind.TheVariants.{SameSide, Inside}
use Rattle.cov_admit.proofs.Segments.{use_by, has_or_not, use_in_range}

-- a test that does not answer alike on the two sides
below_instead : (a b : Bool) → ¬ (a ≡ b) → b ≡ false → a ≡ true
below_instead a b differ not_b = true_from_ne_false a (λ not_a. differ (not_a ∙ sym not_b))

above_instead : (a b : Bool) → ¬ (a ≡ b) → a ≡ true → b ≡ false
above_instead a b differ is_a = elim (cases_Bool b) [
  | inl is_b ↦ absurd (differ (is_a ∙ sym is_b))
  | inr not_b ↦ not_b
]

odd_once : (n : ℕ) → 1 ≤ n → n < 2 → ¬ (n % 2 ≡ 0)
odd_once n some few even = omega arith

module _ (uses : List EdgeUse) (in_range : All (λ u. IsSegInRange u.seg) uses)
    (meet : (u v : EdgeUse) → Contains uses u → Contains uses v → MeetInEnds u.seg v.seg) (once : (u : EdgeUse) → ¬ IsRepeated uses u) where
  pub all_meet : (u : EdgeUse) → Contains uses u → AllMeetInEnds u.seg (segments uses)
  all_meet u has = mapped (λ (v : EdgeUse). v.seg) (λ f. IsSegInRange f × MeetInEnds u.seg f) uses (λ v i. (use_in_range uses in_range v i, meet u v has i))

  -- a member holds one side of a segment that it has, and both or none of another
  pub user_differs : (u : EdgeUse) → Contains uses u → ¬ (member_holds uses u.member (lower u.seg) ≡ member_holds uses u.member (upper u.seg))
  user_differs u has same =
      let few : member_times u.seg uses u.member < 2 = elim (cases_lt (member_times u.seg uses u.member) 2) [
        | inl few ↦ few
        | inr many ↦ absurd (once u (repeated_of uses u.member u.seg many))
      ] in
      odd_once (member_times u.seg uses u.member) (has_times uses u.member u.seg has) few
      ((member_holds-across u.seg uses u.member (use_in_range uses in_range u has) (all_meet u has)).0 same)

  pub guest_alike : (u : EdgeUse) → Contains uses u → (member : ℕ) → ¬ Contains uses (use_by member u.seg) → member_holds uses member (lower u.seg) ≡ member_holds uses member (upper u.seg)
  guest_alike u has member without =
      let none : member_times u.seg uses member ≡ 0 = elim (cases_lt 0 (member_times u.seg uses member)) [
        | inl some ↦ absurd (without (times_has uses member u.seg some))
        | inr none ↦ omega (arith, none)
      ] in
      (member_holds-across u.seg uses member (use_in_range uses in_range u has) (all_meet u has)).1 (ap (λ n. n % 2) none)

  pub user_below : (u : EdgeUse) → Contains uses u → member_holds uses u.member (upper u.seg) ≡ false → member_holds uses u.member (lower u.seg) ≡ true
  user_below u has = below_instead _ _ (user_differs u has)

  -- ---- a faultless segment that nothing meets badly

  module _ (u : EdgeUse) (has : Contains uses u) (unmet : ¬ HasBadContact uses u.seg) (faultless : IsFaultlessSegment uses u.seg) where
    not_alike : (member : ℕ) → Contains uses (use_by member u.seg) → ¬ IsSameSide uses (use_by member u.seg)
    not_alike member its alike = faultless member its SameSide (unmet, once (use_by member u.seg), alike)

    not_inside : ¬ IsInside uses u.seg
    not_inside inside = faultless u.member has Inside (unmet, once u, not_alike u.member has, inside)

    -- no member that doesn't have it holds a point beside it
    guest : (member : ℕ) → ¬ Contains uses (use_by member u.seg) → member_holds uses member (upper u.seg) ≡ true → ⊥
    guest member without held = not_inside (record {
      member = member;
      without = without;
      held = sym (member_holds-upper uses (use_in_range uses in_range) u.seg member) ∙ held;
    })

    -- two members that have it do not both hold the side point above it, or both not
    users_differ : (i j : ℕ) → Contains uses (use_by i u.seg) → Contains uses (use_by j u.seg) → ¬ (i ≡ j)
        → ¬ (member_holds uses j (upper u.seg) ≡ member_holds uses i (upper u.seg))
    users_differ i j has_i has_j differ alike =
        not_alike i has_i (record { other = use_by j u.seg; listed = has_j; another = λ same. differ (sym same); shared = refl; alike = alike })

    -- no two members hold the side point above it
    pub one_above : (i j : ℕ) → member_holds uses i (upper u.seg) ≡ true → member_holds uses j (upper u.seg) ≡ true → ¬ (i ≡ j) → ⊥
    one_above i j held_i held_j differ = elim (has_or_not uses i u.seg) [
      | inl has_i ↦ elim (has_or_not uses j u.seg) [
        | inl has_j ↦ users_differ i j has_i has_j differ (held_j ∙ sym held_i)
        | inr not_j ↦ guest j not_j held_j
      ]
      | inr not_i ↦ guest i not_i held_i
    ]

    guest_below : (member : ℕ) → ¬ Contains uses (use_by member u.seg) → member_holds uses member (lower u.seg) ≡ true → ⊥
    guest_below member without held = guest member without (sym (guest_alike u has member without) ∙ held)

    user_above : (member : ℕ) → Contains uses (use_by member u.seg) → member_holds uses member (lower u.seg) ≡ true → member_holds uses member (upper u.seg) ≡ false
    user_above member its = above_instead _ _ (user_differs (use_by member u.seg) its)

    -- and no two hold the one below it
    pub one_below : (i j : ℕ) → member_holds uses i (lower u.seg) ≡ true → member_holds uses j (lower u.seg) ≡ true → ¬ (i ≡ j) → ⊥
    one_below i j held_i held_j differ = elim (has_or_not uses i u.seg) [
      | inl has_i ↦ elim (has_or_not uses j u.seg) [
        | inl has_j ↦ users_differ i j has_i has_j differ (user_above j has_j held_j ∙ sym (user_above i has_i held_i))
        | inr not_j ↦ guest_below j not_j held_j
      ]
      | inr not_i ↦ guest_below i not_i held_i
    ]
