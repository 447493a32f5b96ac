-- The segment from a to c meets all others in ends alone.
use Rattle.std.proofs.Common.{◌≡◌, ◌⊎◌, inl, inr, sym, ◌∙◌, ap, subst, ◌+◌, ◌*◌, pos, ◌*ℤ◌, arith}
use Rattle.integer_laws.proofs.Ring.{lin, zero_mul}
use Rattle.cov_types.specs.declared.coord.Coord.{Coord}
use Rattle.cov_types.specs.declared.seg.Seg.{Seg}
use Rattle.cov_types.specs.Seg.{IsSegBetween}
use Rattle.plane.specs.Point.{Point, SamePoint, IsBetween, at_coord}
use Rattle.plane.specs.Segment.{IsOn, IsEnd}
use Rattle.plane.proofs.Points.{between-sym}
use Rattle.greedy_run.specs.Run.{Triangle}
use Rattle.removal_laws.specs.Ear.{IsWithin, AreSides, MeetsInEndsAlone, IsFreeOf}
use Rattle.removal_laws.proofs.Pasch.{pasch}

-- the points of the sides are in the triangle
pub within_third : (t : Triangle) (p : Point) → IsBetween p (at_coord t.a) (at_coord t.c) → IsWithin t p
within_third t p h =
    let w = h.weighted in
    let total : h.first + 0 + h.second ≡ h.first * 1 + h.second * 1 = omega arith in
    record {
      first = h.first;
      second = 0;
      third = h.second;
      weighted = omega arith;
      x = ap (λ n. p.x *ℤ pos n) total ∙ h.x ∙ ap (λ s. pos p.d *ℤ s) (omega (arith, lin, zero_mul t.b.x));
      y = ap (λ n. p.y *ℤ pos n) total ∙ h.y ∙ ap (λ s. pos p.d *ℤ s) (omega (arith, lin, zero_mul t.b.y));
    }

pub within_first : (t : Triangle) (p : Point) → IsBetween p (at_coord t.a) (at_coord t.b) → IsWithin t p
within_first t p h =
    let w = h.weighted in
    let total : h.first + h.second + 0 ≡ h.first * 1 + h.second * 1 = omega arith in
    record {
      first = h.first;
      second = h.second;
      third = 0;
      weighted = omega arith;
      x = ap (λ n. p.x *ℤ pos n) total ∙ h.x ∙ ap (λ s. pos p.d *ℤ s) (omega (arith, lin, zero_mul t.c.x));
      y = ap (λ n. p.y *ℤ pos n) total ∙ h.y ∙ ap (λ s. pos p.d *ℤ s) (omega (arith, lin, zero_mul t.c.y));
    }

pub within_second : (t : Triangle) (p : Point) → IsBetween p (at_coord t.b) (at_coord t.c) → IsWithin t p
within_second t p h =
    let w = h.weighted in
    let total : 0 + h.first + h.second ≡ h.first * 1 + h.second * 1 = omega arith in
    record {
      first = 0;
      second = h.first;
      third = h.second;
      weighted = omega arith;
      x = ap (λ n. p.x *ℤ pos n) total ∙ h.x ∙ ap (λ s. pos p.d *ℤ s) (omega (arith, lin, zero_mul t.a.x));
      y = ap (λ n. p.y *ℤ pos n) total ∙ h.y ∙ ap (λ s. pos p.d *ℤ s) (omega (arith, lin, zero_mul t.a.y));
    }

-- a point of a segment is between its ends, in either order
pub between_ends : (a b : Coord) (e : Seg) (p : Point) → IsSegBetween a b e → IsOn e p → IsBetween p (at_coord a) (at_coord b)
between_ends a b e p (inl (lo, hi)) on =
    subst (λ (v : Coord). IsBetween p (at_coord a) (at_coord v)) hi (subst (λ (v : Coord). IsBetween p (at_coord v) (at_coord e.hi)) lo on)
between_ends a b e p (inr (lo, hi)) on =
    between-sym p (at_coord b) (at_coord a) (subst (λ (v : Coord). IsBetween p (at_coord b) (at_coord v)) hi (subst (λ (v : Coord). IsBetween p (at_coord v) (at_coord e.hi)) lo on))

-- an end of the segment is an end of it, in either order
pub end_of : (a b : Coord) (e : Seg) (p : Point) → IsSegBetween a b e → SamePoint p (at_coord a) ⊎ SamePoint p (at_coord b) → IsEnd e p
end_of a b e p (inl (lo, hi)) (inl same) = inl (subst (λ (v : Coord). SamePoint p (at_coord v)) (sym lo) same)
end_of a b e p (inl (lo, hi)) (inr same) = inr (subst (λ (v : Coord). SamePoint p (at_coord v)) (sym hi) same)
end_of a b e p (inr (lo, hi)) (inl same) = inr (subst (λ (v : Coord). SamePoint p (at_coord v)) (sym hi) same)
end_of a b e p (inr (lo, hi)) (inr same) = inl (subst (λ (v : Coord). SamePoint p (at_coord v)) (sym lo) same)

pub ear : (t : Triangle) (ab bc ac : Seg) → AreSides t ab bc → IsSegBetween t.a t.c ac → (s : Seg) → IsFreeOf t ab bc s → MeetsInEndsAlone s ac
ear t ab bc ac sides is_ac s h = λ r common.
    let outer = pasch t ab bc sides s h r (within_third t r (between_ends t.a t.c ac r is_ac common.1)) common.0 in
    (outer.is_end, end_of t.a t.c ac r is_ac outer.corner)
