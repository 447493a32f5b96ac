-- The segment between two points.
use Rattle.std.proofs.Common.{◌≡◌, Bool, true, false, IsTrue, Option, Some, None, refl, ap, ◌∙◌, sym, subst, true≢false}
use Rattle.cov_types.proofs.Equal.{same_segs}
use Rattle.cov_types.proofs.Order.{is_before-asymm, is_before-irrefl, same_from_neither}
use Rattle.cov_types.specs.Coord.{is_before}
use Rattle.cov_types.specs.Uses.{seg_if, seg_between}
use Rattle.cov_types.specs.declared.coord.Coord.{Coord}
use Rattle.cov_types.specs.declared.seg.Seg.{Seg}

seg_if-true : (a b : Coord) (t : Bool) (e : is_before a b ≡ t) (other : Option Seg) (s : Seg) → t ≡ true → s.lo ≡ a → s.hi ≡ b → seg_if a b t e other ≡ Some s
seg_if-true a b true e other s h p q = ap Some (same_segs _ s (sym p) (sym q))
seg_if-true a b false e other s h p q = absurd (true≢false (sym h))

seg_if-false : (a b : Coord) (t : Bool) (e : is_before a b ≡ t) (other : Option Seg) → t ≡ false → seg_if a b t e other ≡ other
seg_if-false a b true e other h = absurd (true≢false h)
seg_if-false a b false e other h = refl

-- a segment with the ends a and b is the segment between them, either way round
pub seg_between-ordered : (a b : Coord) (s : Seg) → s.lo ≡ a → s.hi ≡ b → seg_between a b ≡ Some s
seg_between-ordered a b s p q =
    let h : IsTrue (is_before a b) = subst (λ (c : Coord). IsTrue (is_before c b)) p (subst (λ (c : Coord). IsTrue (is_before s.lo c)) q s.ordered) in
    seg_if-true a b (is_before a b) refl (seg_if b a (is_before b a) refl None) s h p q

pub seg_between-reversed : (a b : Coord) (s : Seg) → s.lo ≡ b → s.hi ≡ a → seg_between a b ≡ Some s
seg_between-reversed a b s p q =
    let h : IsTrue (is_before b a) = subst (λ (c : Coord). IsTrue (is_before c a)) p (subst (λ (c : Coord). IsTrue (is_before s.lo c)) q s.ordered) in
    seg_if-false a b (is_before a b) refl (seg_if b a (is_before b a) refl None) (is_before-asymm b a h) ∙ seg_if-true b a (is_before b a) refl None s h p q

-- there is no segment between a point and itself
pub seg_between-same : (a b : Coord) → a ≡ b → seg_between a b ≡ None
seg_between-same a b e =
    let h : is_before a b ≡ false = subst (λ (c : Coord). is_before a c ≡ false) e (is_before-irrefl a) in
    let k : is_before b a ≡ false = subst (λ (c : Coord). is_before c a ≡ false) e (is_before-irrefl a) in
    seg_if-false a b (is_before a b) refl (seg_if b a (is_before b a) refl None) h ∙ seg_if-false b a (is_before b a) refl None k

-- what the ends of the segment between two points are, case by case
by_ends : (Q : Option Seg → Type 0) (a b : Coord) (t u : Bool) (e : is_before a b ≡ t) (f : is_before b a ≡ u)
    → ((s : Seg) → s.lo ≡ a → s.hi ≡ b → Q (Some s)) → ((s : Seg) → s.lo ≡ b → s.hi ≡ a → Q (Some s)) → (a ≡ b → Q None) → Q (seg_if a b t e (seg_if b a u f None))
by_ends Q a b true u e f ordered reversed same = ordered _ refl refl
by_ends Q a b false true e f ordered reversed same = reversed _ refl refl
by_ends Q a b false false e f ordered reversed same = same (same_from_neither a b e f)

pub seg_between_by_ends : (Q : Option Seg → Type 0) (a b : Coord)
    → ((s : Seg) → s.lo ≡ a → s.hi ≡ b → Q (Some s)) → ((s : Seg) → s.lo ≡ b → s.hi ≡ a → Q (Some s)) → (a ≡ b → Q None) → Q (seg_between a b)
seg_between_by_ends Q a b = by_ends Q a b (is_before a b) (is_before b a) refl refl
