-- Two segments meet in one way at most.
use Rattle.std.proofs.Common.{◌≡◌, inl, inr, refl, sym, subst, ◌∙◌, ap, Bool, true, false, arith}
use Rattle.integer_laws.proofs.Ring.{lin, mul_one}
use Rattle.cov_types.specs.declared.seg.Seg.{Seg}
use Rattle.cov_types.proofs.Order.{cases_before}
use Rattle.plane.specs.declared.contact.Contact.{Contact}
use Rattle.plane.specs.declared.contact.Contact.TheVariants.{Apart, SameSegment, CommonEnd, Bad}
use Rattle.plane.specs.declared.contact.Badness.TheVariants.{Cross, Touch, Overlap}
use Rattle.plane.specs.Point.{Point, SamePoint, at_coord}
use Rattle.plane.specs.Segment.{IsEnd}
use Rattle.plane.specs.Contact.{IsCommon, IsOnlyCommon, HaveTwoCommon, IsContact}
use Rattle.plane.proofs.Points.{same_point-sym, same_point-trans, first_between, second_between}

-- the two ends of a segment are two points
pub ends_apart : (s : Seg) → ¬ SamePoint (at_coord s.lo) (at_coord s.hi)
ends_apart s h =
    let x = h.0 in
    let y = h.1 in
    elim (cases_before s.lo s.hi s.ordered) [
      | inl by_x ↦ omega (arith, lin, mul_one s.lo.x, mul_one s.hi.x)
      | inr by_y ↦ omega (arith, lin, mul_one s.lo.y, mul_one s.hi.y)
    ]

-- a segment has its two ends in common with itself
pub two_with_itself : (s t : Seg) → s ≡ t → HaveTwoCommon s t
two_with_itself s t same = subst (λ u. HaveTwoCommon s u) same (record {
  one = at_coord s.lo;
  other = at_coord s.hi;
  one_common = (first_between (at_coord s.lo) (at_coord s.hi), first_between (at_coord s.lo) (at_coord s.hi));
  other_common = (second_between (at_coord s.lo) (at_coord s.hi), second_between (at_coord s.lo) (at_coord s.hi));
  different = ends_apart s;
})

-- one common point excludes two
pub one_is_not_two : (s t : Seg) (r : Point) → IsOnlyCommon s t r → ¬ HaveTwoCommon s t
one_is_not_two s t r o two =
    two.different (same_point-trans two.one r two.other (o.only two.one two.one_common) (same_point-sym two.other r (o.only two.other two.other_common)))

-- being an end does not depend on the fraction
pub end-same : (s : Seg) (p q : Point) → SamePoint p q → IsEnd s p → IsEnd s q
end-same s p q h e =
    let back = same_point-sym p q h in
    elim e [
      | inl lo ↦ inl (same_point-trans q p (at_coord s.lo) back lo)
      | inr hi ↦ inr (same_point-trans q p (at_coord s.hi) back hi)
    ]

-- the common points of two segments, and whether the only one is an end of each
data Meeting : Type 0 where
  None : Meeting
  One : Bool → Bool → Meeting
  Many : Bool → Meeting

-- P where the flag is set, else not P
abbrev Says : Bool → Type 0 → Type 0
Says true P = P
Says false P = ¬ P

abbrev Meets : Seg → Seg → Meeting → Type 0
Meets s t None = (r : Point) → ¬ IsCommon s t r
Meets s t (One at_s at_t) = (r : Point) × (IsOnlyCommon s t r × Says at_s (IsEnd s r) × Says at_t (IsEnd t r))
Meets s t (Many same) = HaveTwoCommon s t × Says same (s ≡ t)

abbrev contact_of : Meeting → Contact
contact_of None = Apart
contact_of (One true true) = CommonEnd
contact_of (One true false) = Bad Touch
contact_of (One false true) = Bad Touch
contact_of (One false false) = Bad Cross
contact_of (Many true) = SameSegment
contact_of (Many false) = Bad Overlap

same_said : (a b : Bool) (P Q : Type 0) → (P → Q) → (Q → P) → Says a P → Says b Q → a ≡ b
same_said true true P Q f g h k = refl
same_said true false P Q f g h k = absurd (k (f h))
same_said false true P Q f g h k = absurd (h (g k))
same_said false false P Q f g h k = refl

-- the only common points of a pair are one point
same_only : (s t : Seg) (p q : Point) → IsOnlyCommon s t p → IsOnlyCommon s t q → SamePoint p q
same_only s t p q h k = k.only p h.common

meeting_unique : (s t : Seg) (m n : Meeting) → Meets s t m → Meets s t n → m ≡ n
meeting_unique s t None None h k = refl
meeting_unique s t None (One c d) h k = absurd (h k.0 k.1.0.common)
meeting_unique s t None (Many b) h k = absurd (h k.0.one k.0.one_common)
meeting_unique s t (One a b) None h k = absurd (k h.0 h.1.0.common)
meeting_unique s t (One a b) (One c d) h k =
    let here = same_only s t h.0 k.0 h.1.0 k.1.0 in
    let back = same_point-sym h.0 k.0 here in
    let e = same_said a c (IsEnd s h.0) (IsEnd s k.0) (end-same s h.0 k.0 here) (end-same s k.0 h.0 back) h.1.1 k.1.1 in
    let f = same_said b d (IsEnd t h.0) (IsEnd t k.0) (end-same t h.0 k.0 here) (end-same t k.0 h.0 back) h.1.2 k.1.2 in
    λ i. One (e i) (f i)
meeting_unique s t (One a b) (Many c) h k = absurd (one_is_not_two s t h.0 h.1.0 k.0)
meeting_unique s t (Many b) None h k = absurd (k h.0.one h.0.one_common)
meeting_unique s t (Many b) (One c d) h k = absurd (one_is_not_two s t k.0 k.1.0 h.0)
meeting_unique s t (Many b) (Many c) h k = ap Many (same_said b c (s ≡ t) (s ≡ t) (λ x. x) (λ x. x) h.1 k.1)

-- each contact comes from a meeting
meeting_of : (s t : Seg) (c : Contact) → IsContact s t c → (m : Meeting) × (Meets s t m × (contact_of m ≡ c))
meeting_of s t Apart h = (None, (h, refl))
meeting_of s t SameSegment h = (Many true, ((two_with_itself s t h, h), refl))
meeting_of s t CommonEnd h = (One true true, ((h.0, (h.1.0, h.1.1, h.1.2)), refl))
meeting_of s t (Bad Cross) h = (One false false, ((h.0, (h.1.0, h.1.1, h.1.2)), refl))
meeting_of s t (Bad Touch) h =
    elim h.1.1 [
      | inl at_s ↦ (One true false, ((h.0, (h.1.0, at_s.0, at_s.1)), refl))
      | inr at_t ↦ (One false true, ((h.0, (h.1.0, at_t.0, at_t.1)), refl))
    ]
meeting_of s t (Bad Overlap) h = (Many false, ((h.1, h.0), refl))

pub contact_unique : (s t : Seg) (c k : Contact) → IsContact s t c → IsContact s t k → c ≡ k
contact_unique s t c k h i =
    let m = meeting_of s t c h in
    let n = meeting_of s t k i in
    sym m.1.1 ∙ ap contact_of (meeting_unique s t m.0 n.0 m.1.0 n.1.0) ∙ n.1.1
