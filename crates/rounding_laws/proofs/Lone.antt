-- A chain from what it has: the hot centres that a segment meets, in their order. A segment alone has the chain of its two ends.
use mathlib.Core.List.{[], ◌∷◌}
use Rattle.std.proofs.Common.{◌≡◌, ◌⊎◌, inl, inr, sym, subst, zero, suc, ◌↔◌, List, refl, arith}
use Rattle.std.specs.Prelude.{Contains, AllPairs}
use Rattle.integer_laws.proofs.Compare.{le_of_lt}
use Rattle.cov_types.specs.declared.coord.Coord.{Coord}
use Rattle.cov_types.specs.declared.seg.Seg.{Seg}
use Rattle.cov_types.proofs.Order.{cases_before}
use Rattle.plane.specs.Point.{Point, SamePoint, at_coord}
use Rattle.plane.specs.Segment.{IsEnd}
use Rattle.plane.specs.Ray.{Rises}
use Rattle.plane.specs.Contact.{IsOnlyCommon}
use Rattle.plane.specs.Snapping.{IsInPixel, IsHot, MeetsPixel, IsChain}
use Rattle.plane.proofs.Points.{same_point-sym, first_between}
use Rattle.rounding_laws.specs.Formulas.{ComesFirst, IsBeside}
use Rattle.rounding_laws.proofs.Near.{pixel_own, pixel_unique, pixel_same}
use Rattle.rounding_laws.proofs.First.{passes_by_centre}
use Rattle.rounding_laws.proofs.Meets.{meets-is}
use Rattle.rounding_laws.proofs.Edges.{in_one, lo_hot_met, hi_hot_met}
use Rattle.rounding_laws.proofs.Unique.{first_or_rest}

-- the hot centres that a segment meets, in the order of centres, are its chain
pub chain_by_centres : (segs : List Seg) (s : Seg) (c : List Coord) → Rises s → ((r : Coord) → Contains c r ↔ (IsHot segs r × MeetsPixel s r)) → AllPairs (ComesFirst s) c → IsChain segs s c
chain_by_centres segs s c rises members ordered = record {
  members = members;
  in_order = λ i j d before within. passes_by_centre s _ _ rises (ordered i j d before within);
}

-- the same where what it meets is told by the centres
pub chain_by_formulas : (segs : List Seg) (s : Seg) (c : List Coord) → Rises s → ((r : Coord) → Contains c r ↔ (IsHot segs r × IsBeside s r)) → AllPairs (ComesFirst s) c → IsChain segs s c
chain_by_formulas segs s c rises members ordered =
    chain_by_centres segs s c rises (λ r. (λ has. met r ((members r).0 has), λ h. (members r).1 (h.0, (meets-is s r).0 h.1))) ordered
  where
    met : (r : Coord) → IsHot segs r × IsBeside s r → IsHot segs r × MeetsPixel s r
    met r h = (h.0, (meets-is s r).1 h.1)

-- ---- the ends of a segment

-- lo comes before hi
ends_ordered : (s : Seg) → ComesFirst s s.lo s.hi
ends_ordered s = elim (cases_before s.lo s.hi s.ordered) [ inl l ↦ inl l | inr same ↦ inr (same.0, inl (le_of_lt same.1, same.1)) ]

-- the pixel of a grid point is its own
own_pixel : (p : Point) (c r : Coord) → SamePoint p (at_coord c) → IsInPixel p r → c ≡ r
own_pixel p c r same inside = pixel_unique (at_coord c) c r (pixel_own c) (pixel_same p (at_coord c) r same inside)

-- ---- a segment alone

-- a segment does not cross itself
no_self_crossing : (s : Seg) (p : Point) → IsOnlyCommon s s p → ¬ IsEnd s p → ⊥
no_self_crossing s p only inside =
    let lo = first_between (at_coord s.lo) (at_coord s.hi) in
    inside (inl (same_point-sym (at_coord s.lo) p (only.only (at_coord s.lo) (lo, lo))))

two_of : (s : Seg) (r : Coord) → (s.lo ≡ r) ⊎ (s.hi ≡ r) → Contains (s.lo ∷ s.hi ∷ []) r
two_of s r (inl e) = (0, omega arith, e)
two_of s r (inr e) = (1, omega arith, e)

-- its hot pixels are those of its ends
hot_alone : (s : Seg) (r : Coord) → IsHot (s ∷ []) r → (s.lo ≡ r) ⊎ (s.hi ≡ r)
hot_alone s r (p, (inside, inl (t, (has, is_end)))) =
    let same = in_one s t has in
    elim (subst (λ (v : Seg). IsEnd v p) (sym same) is_end) [
      | inl lo ↦ inl (own_pixel p s.lo r lo inside)
      | inr hi ↦ inr (own_pixel p s.hi r hi inside)
    ]
hot_alone s r (p, (inside, inr (t, (u, (has_t, has_u, only, not_t, not_u))))) =
    let first = sym (in_one s t has_t) in
    let second = sym (in_one s u has_u) in
    absurd (no_self_crossing s p (subst (λ (v : Seg). IsOnlyCommon s v p) second (subst (λ (v : Seg). IsOnlyCommon v u p) first only)) (subst (λ (v : Seg). ¬ IsEnd v p) first not_t))

alone_members : (s : Seg) (r : Coord) → Contains (s.lo ∷ s.hi ∷ []) r ↔ (IsHot (s ∷ []) r × MeetsPixel s r)
alone_members s r = (there, λ h. two_of s r (hot_alone s r h.0))
  where
    has : Contains (s ∷ []) s
    has = (0, omega arith, refl)

    there : Contains (s.lo ∷ s.hi ∷ []) r → IsHot (s ∷ []) r × MeetsPixel s r
    there h =
        elim (first_or_rest s.lo r (s.hi ∷ []) h) [
          | inl e ↦ subst (λ (v : Coord). IsHot (s ∷ []) v × MeetsPixel s v) e (lo_hot_met (s ∷ []) s has)
          | inr rest ↦ subst (λ (v : Coord). IsHot (s ∷ []) v × MeetsPixel s v) (in_one s.hi r rest) (hi_hot_met (s ∷ []) s has)
        ]

two_ordered : (s : Seg) → AllPairs (ComesFirst s) (s.lo ∷ s.hi ∷ [])
two_ordered s i zero d before within = absurd (omega arith)
two_ordered s zero (suc zero) d before within = ends_ordered s
two_ordered s (suc i) (suc zero) d before within = absurd (omega arith)
two_ordered s i (suc (suc j)) d before within = absurd (omega arith)

pub lone_chain : (s : Seg) → Rises s → IsChain (s ∷ []) s (s.lo ∷ s.hi ∷ [])
lone_chain s rises = chain_by_centres (s ∷ []) s (s.lo ∷ s.hi ∷ []) rises (alone_members s) (two_ordered s)
