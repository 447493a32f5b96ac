-- The contact of two segments from the turns of their ends, and from the order of their ends on one line.
use Rattle.std.proofs.Common.{◌≡◌, ◌⊎◌, inl, inr, refl, sym, ◌∙◌, ap, subst, ℤ, pos, ◌<ℤ◌, Bool, true, false, IsTrue, ◌↔◌, FitsSigned, to_z, of_z, arith}
use Rattle.std.proofs.lemmas.Int.{to_z-of_z}
use Rattle.std.specs.Ordering.{partial_lt}
use mir.Syntax.{w64}
use Rattle.integer_laws.proofs.Ring.{lin}
use Rattle.integer_laws.proofs.Compare.{lt_or_ge, le_cases}
use Rattle.cov_types.specs.declared.coord.Coord.{Coord}
use Rattle.cov_types.specs.declared.seg.Seg.{Seg}
use Rattle.cov_types.specs.Range.{IsSegInRange, IsInRange}
use Rattle.cov_types.specs.contracts.coord.CoordPartialOrd.TheImpl.{partial_cmp-value}
use Rattle.plane.specs.declared.contact.Contact.{Contact}
use Rattle.plane.specs.declared.contact.Contact.TheVariants.{CommonEnd, Bad}
use Rattle.plane.specs.declared.contact.Badness.TheVariants.{Overlap}
use Rattle.plane.specs.Point.{Point, at_coord}
use Rattle.plane.specs.Segment.{turn_of}
use Rattle.plane.specs.Ray.{sweep}
use Rattle.plane.specs.Contact.{IsCommon, IsContact, MeetsBadly, is_bad}
use Rattle.plane.proofs.MeetsBadly.{bad-is}
use Rattle.plane.proofs.Sweeps.{rises-in_range, sweep-one_to_one}
use Rattle.plane.proofs.Meeting.{MeetOnce, AreOpposite, left_apart, right_apart, end_on_line}
use Rattle.plane.proofs.Along.{before_apart, chained, overlapping}
use Rattle.grid_pred.specs.Sides.{AreOnOneSide, contact_of_ends}
use Rattle.grid_pred.proofs.Order.{lt_from, not_lt_from}

-- ---- different lines

pub one_side_apart : (s t : Seg) → AreOnOneSide (turn_of s.lo s.hi t.lo) (turn_of s.lo s.hi t.hi) → (r : Point) → ¬ IsCommon s t r
one_side_apart s t (inl left) = left_apart s t left.0 left.1
one_side_apart s t (inr right) = right_apart s t right.0 right.1

pub opposite_from : (x y : ℤ) → ¬ AreOnOneSide x y → AreOpposite x y
opposite_from x y n =
    elim (lt_or_ge x (pos 0)) [
      | inl below ↦ elim (lt_or_ge y (pos 0)) [
        | inl both ↦ absurd (n (inr (below, both)))
        | inr k ↦ inl (omega (arith, lin), k)
      ]
      | inr h ↦ elim (lt_or_ge (pos 0) y) [
        | inl above ↦ elim (lt_or_ge (pos 0) x) [
          | inl both ↦ absurd (n (inl (both, above)))
          | inr k ↦ inl (k, omega (arith, lin))
        ]
        | inr k ↦ inr (h, k)
      ]
    ]

-- ---- what the tests of the code say of two turns u and v, which are held in 64 bits as x and y

passed : (P : ℤ → ℤ → Type 0) (x y u v : ℤ) → FitsSigned w64 x → FitsSigned w64 y → x ≡ u → y ≡ v → P (to_z w64 (of_z w64 x)) (to_z w64 (of_z w64 y)) → P u v
passed P x y u v f g e k h = subst (λ z. P u z) (to_z-of_z w64 y g ∙ k) (subst (λ z. P z (to_z w64 (of_z w64 y))) (to_z-of_z w64 x f ∙ e) h)

one_side_passed : (x y u v : ℤ) (b : Bool) → FitsSigned w64 x → FitsSigned w64 y → x ≡ u → y ≡ v
    → IsTrue b ↔ AreOnOneSide (to_z w64 (of_z w64 x)) (to_z w64 (of_z w64 y)) → IsTrue b ↔ AreOnOneSide u v
one_side_passed x y u v b = passed (λ z w. IsTrue b ↔ AreOnOneSide z w) x y u v

pub one_side_told : (x y u v : ℤ) (b : Bool) → FitsSigned w64 x → FitsSigned w64 y → x ≡ u → y ≡ v
    → IsTrue b ↔ AreOnOneSide (to_z w64 (of_z w64 x)) (to_z w64 (of_z w64 y)) → b ≡ true → AreOnOneSide u v
one_side_told x y u v b f g e k told h = (one_side_passed x y u v b f g e k told).0 h

pub opposite_told : (x y u v : ℤ) (b : Bool) → FitsSigned w64 x → FitsSigned w64 y → x ≡ u → y ≡ v
    → IsTrue b ↔ AreOnOneSide (to_z w64 (of_z w64 x)) (to_z w64 (of_z w64 y)) → b ≡ false → AreOpposite u v
opposite_told x y u v b f g e k told h = opposite_from u v (λ side. absurd (let t = (one_side_passed x y u v b f g e k told).1 side in cc))

pub end_told : (x y u v : ℤ) (b : Bool) → FitsSigned w64 x → FitsSigned w64 y → x ≡ u → y ≡ v
    → IsTrue b ↔ ((to_z w64 (of_z w64 x) ≡ pos 0) ⊎ (to_z w64 (of_z w64 y) ≡ pos 0)) → IsTrue b ↔ ((u ≡ pos 0) ⊎ (v ≡ pos 0))
end_told x y u v b = passed (λ z w. IsTrue b ↔ ((z ≡ pos 0) ⊎ (w ≡ pos 0))) x y u v

pub equal_told : (x y u v : ℤ) → FitsSigned w64 x → FitsSigned w64 y → x ≡ u → y ≡ v → of_z w64 x ≡ of_z w64 y → u ≡ v
equal_told x y u v f g e k h = sym e ∙ sym (to_z-of_z w64 x f) ∙ ap (to_z w64) h ∙ to_z-of_z w64 y g ∙ k

pub unequal_told : (x y u v : ℤ) → x ≡ u → y ≡ v → (of_z w64 x ≡ of_z w64 y → ⊥) → ¬ (u ≡ v)
unequal_told x y u v e k n h = n (ap (of_z w64) (e ∙ h ∙ sym k))

-- ---- one common point

-- the contact where the segments meet in one point, by whether it is an end of each
pub contact-meet_once : (s t : Seg) (m : MeetOnce s t) (end_of_s end_of_t : Bool)
    → IsTrue end_of_s ↔ ((turn_of t.lo t.hi s.lo ≡ pos 0) ⊎ (turn_of t.lo t.hi s.hi ≡ pos 0))
    → IsTrue end_of_t ↔ ((turn_of s.lo s.hi t.lo ≡ pos 0) ⊎ (turn_of s.lo s.hi t.hi ≡ pos 0))
    → IsContact s t (contact_of_ends end_of_s end_of_t)
contact-meet_once s t m true true h k = (m.at, (m.only, m.is_end (h.0 refl), m.is_end_of_other (k.0 refl)))
contact-meet_once s t m true false h k =
    (m.at, (m.only, inl (m.is_end (h.0 refl), λ e. absurd (let i = k.1 (end_on_line t s m.at m.only.common.0 e) in cc))))
contact-meet_once s t m false true h k =
    (m.at, (m.only, inr (λ e. absurd (let i = h.1 (end_on_line s t m.at m.only.common.1 e) in cc), m.is_end_of_other (k.0 refl))))
contact-meet_once s t m false false h k =
    (m.at, (m.only, λ e. absurd (let i = h.1 (end_on_line s t m.at m.only.common.1 e) in cc), λ e. absurd (let i = k.1 (end_on_line t s m.at m.only.common.0 e) in cc)))

-- ---- one line

pub before_contact : (s t : Seg) → IsSegInRange s → IsSegInRange t → IsTrue (partial_lt partial_cmp-value.it s.hi t.lo) → (r : Point) → ¬ IsCommon s t r
before_contact s t rs rt h = before_apart s t (rises-in_range s rs) (rises-in_range t rt) (lt_from s.hi t.lo rs.hi rt.lo h)

pub chained_contact : (s t : Seg) → IsSegInRange s → IsSegInRange t → s.hi ≡ t.lo → IsContact s t CommonEnd
chained_contact s t rs rt e = chained s t (rises-in_range s rs) (rises-in_range t rt) e

-- neither before nor one: after
after_from : (a b : Coord) → IsInRange a → IsInRange b → partial_lt partial_cmp-value.it a b ≡ false → ¬ (a ≡ b) → sweep (at_coord b) <ℤ sweep (at_coord a)
after_from a b ra rb h n =
    elim (le_cases (not_lt_from a b ra rb h)) [
      | inl l ↦ l
      | inr e ↦ absurd (n (sym (sweep-one_to_one b a rb ra e)))
    ]

pub overlap_contact : (s t : Seg) → IsSegInRange s → IsSegInRange t → turn_of s.lo s.hi t.lo ≡ pos 0 → turn_of s.lo s.hi t.hi ≡ pos 0 → ¬ (s ≡ t)
    → partial_lt partial_cmp-value.it s.hi t.lo ≡ false → partial_lt partial_cmp-value.it t.hi s.lo ≡ false → ¬ (s.hi ≡ t.lo) → ¬ (t.hi ≡ s.lo)
    → IsContact s t (Bad Overlap)
overlap_contact s t rs rt on_lo on_hi different before after chained_one chained_two = (
  different,
  overlapping s t (rises-in_range s rs) (rises-in_range t rt) on_lo on_hi
      (after_from s.hi t.lo rs.hi rt.lo before chained_one) (after_from t.hi s.lo rt.hi rs.lo after chained_two),
)

-- ---- bad contacts

pub bad_contact : (s t : Seg) (c : Contact) → IsSegInRange s → IsSegInRange t → IsContact s t c → IsTrue (is_bad c) ↔ MeetsBadly s t
bad_contact s t c rs rt h = bad-is s t (rises-in_range s rs) (rises-in_range t rt) c h
