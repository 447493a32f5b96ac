-- The edges of a chain: between neighbours, each with a piece of the segment; their ends are hot and in range.
use mathlib.Core.List.{[], ◌∷◌}
use Rattle.std.proofs.Common.{◌≡◌, ◌⊎◌, inl, inr, refl, sym, ap, subst, ℕ, zero, suc, ◌<◌, ℤ, pos, neg_ℤ, ◌+ℤ◌, ◌-ℤ◌, ◌*ℤ◌, ◌≤ℤ◌, ◌<ℤ◌, Bool, true, false, List, ◌++◌, length, get_or, Option, None, arith}
use Rattle.std.specs.Prelude.{Contains, option_to_list}
use Rattle.std.proofs.lemmas.List.Elements.{Contains-get_or, Contains-append_cases}
use Rattle.integer_laws.proofs.Ring.{lin, by_ring, Var, Lit, ◌⊕◌, ◌⊖◌, ◌⊗◌, Neg, mul_one, neg_mul}
use Rattle.cov_types.specs.declared.coord.TheConstants.{LIMIT}
use Rattle.cov_types.specs.declared.coord.Coord.{Coord}
use Rattle.cov_types.specs.declared.seg.Seg.{Seg}
use Rattle.cov_types.specs.Coord.{is_before}
use Rattle.cov_types.specs.Range.{IsInRange, IsSegInRange}
use Rattle.cov_types.specs.Seg.{IsSegBetween}
use Rattle.cov_types.specs.Uses.{seg_if, seg_between}
use Rattle.plane.specs.Point.{Point, at_coord}
use Rattle.plane.specs.Ray.{Rises}
use Rattle.plane.specs.Snapping.{IsHot, MeetsPixel, IsChain, chain_edges}
use Rattle.plane.proofs.Points.{d_positive, same_point-refl, first_between, second_between}
use Rattle.plane.proofs.Forms.{form, form_not_negative-between}
use Rattle.rounding_laws.proofs.Near.{Near, rounds_above, rounds_under, pixel-near, pixel_own}
use Rattle.rounding_laws.proofs.Pieces.{IsPiece, piece_turned, piece_at}

-- ---- the segment between two points

pub not_in_nothing : {X : Type 0} (x : X) → Contains [] x → ⊥
not_in_nothing x h = absurd (omega (arith, h.1))

-- the only element of a list
pub in_one : {X : Type 0} (y x : X) → Contains (y ∷ []) x → y ≡ x
in_one y x (zero, within, is) = is
in_one y x (suc k, within, is) = absurd (omega arith)

one_before : (a b : Coord) (t : Bool) (is : is_before a b ≡ t) (other : Option Seg) (e : Seg) → Contains (option_to_list (seg_if a b t is other)) e
    → ((e.lo ≡ a) × (e.hi ≡ b)) ⊎ Contains (option_to_list other) e
one_before a b true is other e h = let same = in_one (record { lo = a; hi = b; ordered = is }) e h in inl (sym (ap (λ s. s.lo) same), sym (ap (λ s. s.hi) same))
one_before a b false is other e h = inr h

pub seg_between-ends : (a b : Coord) (e : Seg) → Contains (option_to_list (seg_between a b)) e → IsSegBetween a b e
seg_between-ends a b e h =
    elim (one_before a b (is_before a b) refl (seg_if b a (is_before b a) refl None) e h) [
      | inl ends ↦ inl ends
      | inr other ↦ elim (one_before b a (is_before b a) refl None e other) [
        | inl ends ↦ inr ends
        | inr none ↦ absurd (not_in_nothing e none)
      ]
    ]

-- ---- the edges between neighbours

-- the edge stands between the centres at i and suc i
pub record StandsAt (c : List Coord) (e : Seg) (i : ℕ) : Type 0 where
  pub within : suc i < length c
  pub between : (d : Coord) → IsSegBetween (get_or c i d) (get_or c (suc i) d) e

chain_edges-cons : (a b : Coord) (c : List Coord) → chain_edges (a ∷ b ∷ c) ≡ option_to_list (seg_between a b) ++ chain_edges (b ∷ c)
chain_edges-cons a b c = refl

stands_later : (a : Coord) (c : List Coord) (e : Seg) (i : ℕ) → StandsAt c e i → StandsAt (a ∷ c) e (suc i)
stands_later a c e i h = record { within = (let w = h.within in omega arith); between = h.between }

pub edge_stands : (c : List Coord) (e : Seg) → Contains (chain_edges c) e → (i : ℕ) × StandsAt c e i
edge_stands [] e h = absurd (not_in_nothing e h)
edge_stands (a ∷ []) e h = absurd (not_in_nothing e h)
edge_stands (a ∷ b ∷ c) e h =
    elim (Contains-append_cases (option_to_list (seg_between a b)) (chain_edges (b ∷ c)) e h) [
      | inl here ↦ (0, record { within = omega arith; between = λ d. seg_between-ends a b e here })
      | inr later ↦ (let rest = edge_stands (b ∷ c) e later in (suc rest.0, stands_later a (b ∷ c) e rest.0 rest.1))
    ]

-- ---- their pieces

-- an edge with a piece of s between its ends, which are hot
pub record IsChainEdge (segs : List Seg) (s e : Seg) : Type 0 where
  pub piece : IsPiece segs s e.lo e.hi
  pub lo_hot : IsHot segs e.lo
  pub hi_hot : IsHot segs e.hi
  pub lo_met : MeetsPixel s e.lo
  pub hi_met : MeetsPixel s e.hi

edge_along : (segs : List Seg) (s e : Seg) (a b : Coord) → IsPiece segs s a b → IsHot segs a × MeetsPixel s a → IsHot segs b × MeetsPixel s b → a ≡ e.lo → b ≡ e.hi → IsChainEdge segs s e
edge_along segs s e a b piece at_a at_b lo hi = record {
  piece = subst (λ (v : Coord). IsPiece segs s e.lo v) hi (subst (λ (v : Coord). IsPiece segs s v b) lo piece);
  lo_hot = subst (λ (v : Coord). IsHot segs v) lo at_a.0;
  hi_hot = subst (λ (v : Coord). IsHot segs v) hi at_b.0;
  lo_met = subst (λ (v : Coord). MeetsPixel s v) lo at_a.1;
  hi_met = subst (λ (v : Coord). MeetsPixel s v) hi at_b.1;
}

pub chain_edge : (segs : List Seg) (s : Seg) (c : List Coord) (e : Seg) → Rises s → IsChain segs s c → Contains (chain_edges c) e → IsChainEdge segs s e
chain_edge segs s c e rises chain h =
    let stands = edge_stands c e h in
    let i = stands.0 in
    let within = stands.1.within in
    let d = e.lo in
    let piece = piece_at segs s c rises chain i d within in
    let at_a = (chain.members (get_or c i d)).0 (Contains-get_or c i d (omega arith)) in
    let at_b = (chain.members (get_or c (suc i) d)).0 (Contains-get_or c (suc i) d within) in
    elim (stands.1.between d) [
      | inl ends ↦ edge_along segs s e (get_or c i d) (get_or c (suc i) d) piece at_a at_b (sym ends.0) (sym ends.1)
      | inr ends ↦ edge_along segs s e (get_or c (suc i) d) (get_or c i d) (piece_turned segs s (get_or c i d) (get_or c (suc i) d) piece) at_b at_a (sym ends.0) (sym ends.1)
    ]

-- ---- the ends of a segment

-- the ends of a listed segment are hot, and it meets their pixels
pub lo_hot_met : (segs : List Seg) (s : Seg) → Contains segs s → IsHot segs s.lo × MeetsPixel s s.lo
lo_hot_met segs s has = (
  (at_coord s.lo, (pixel_own s.lo, inl (s, (has, inl (same_point-refl (at_coord s.lo)))))),
  (at_coord s.lo, (first_between (at_coord s.lo) (at_coord s.hi), pixel_own s.lo)),
)

pub hi_hot_met : (segs : List Seg) (s : Seg) → Contains segs s → IsHot segs s.hi × MeetsPixel s s.hi
hi_hot_met segs s has = (
  (at_coord s.hi, (pixel_own s.hi, inl (s, (has, inr (same_point-refl (at_coord s.hi)))))),
  (at_coord s.hi, (second_between (at_coord s.lo) (at_coord s.hi), pixel_own s.hi)),
)

-- ---- the range of centres

rounds_low : (l r x d : ℤ) → pos 0 <ℤ d → pos 0 ≤ℤ (x +ℤ (l *ℤ d)) → Near (r *ℤ d) x d → neg_ℤ l ≤ℤ r
rounds_low l r x d positive h near = rounds_above (neg_ℤ l) r x d positive (omega (arith, lin, neg_mul l d)) near

-- the forms l + x, l - x, l + y and l - y
from_left : (l : ℤ) (p : Point) → form (pos 1) (pos 0) l p ≡ p.x +ℤ (l *ℤ pos p.d)
unfolding form
from_left l p = by_ring (p.x ∷ p.y ∷ pos p.d ∷ l ∷ []) ((Lit (pos 1) ⊗ Var 0 ⊕ Lit (pos 0) ⊗ Var 1) ⊕ Var 3 ⊗ Var 2) (Var 0 ⊕ Var 3 ⊗ Var 2) refl

from_right : (l : ℤ) (p : Point) → form (neg_ℤ (pos 1)) (pos 0) l p ≡ (l *ℤ pos p.d) -ℤ p.x
unfolding form
from_right l p = by_ring (p.x ∷ p.y ∷ pos p.d ∷ l ∷ []) ((Neg (Lit (pos 1)) ⊗ Var 0 ⊕ Lit (pos 0) ⊗ Var 1) ⊕ Var 3 ⊗ Var 2) (Var 3 ⊗ Var 2 ⊖ Var 0) refl

from_bottom : (l : ℤ) (p : Point) → form (pos 0) (pos 1) l p ≡ p.y +ℤ (l *ℤ pos p.d)
unfolding form
from_bottom l p = by_ring (p.x ∷ p.y ∷ pos p.d ∷ l ∷ []) ((Lit (pos 0) ⊗ Var 0 ⊕ Lit (pos 1) ⊗ Var 1) ⊕ Var 3 ⊗ Var 2) (Var 1 ⊕ Var 3 ⊗ Var 2) refl

from_top : (l : ℤ) (p : Point) → form (pos 0) (neg_ℤ (pos 1)) l p ≡ (l *ℤ pos p.d) -ℤ p.y
unfolding form
from_top l p = by_ring (p.x ∷ p.y ∷ pos p.d ∷ l ∷ []) ((Lit (pos 0) ⊗ Var 0 ⊕ Neg (Lit (pos 1)) ⊗ Var 1) ⊕ Var 3 ⊗ Var 2) (Var 3 ⊗ Var 2 ⊖ Var 1) refl

-- the centre of a pixel that a segment in range meets is in range
pub centre_in_range : (s : Seg) (r : Coord) → IsSegInRange s → MeetsPixel s r → IsInRange r
centre_in_range s r in_range met =
    let p = met.0 in
    let on = met.1.0 in
    let near = pixel-near p r met.1.1 in
    let lo = at_coord s.lo in
    let hi = at_coord s.hi in
    let lo_range = in_range.lo in
    let hi_range = in_range.hi in
    let limit = mul_one LIMIT in
    let left = form_not_negative-between (pos 1) (pos 0) LIMIT p lo hi on (omega (arith, lin, from_left LIMIT lo)) (omega (arith, lin, from_left LIMIT hi)) in
    let right = form_not_negative-between (neg_ℤ (pos 1)) (pos 0) LIMIT p lo hi on (omega (arith, lin, from_right LIMIT lo)) (omega (arith, lin, from_right LIMIT hi)) in
    let bottom = form_not_negative-between (pos 0) (pos 1) LIMIT p lo hi on (omega (arith, lin, from_bottom LIMIT lo)) (omega (arith, lin, from_bottom LIMIT hi)) in
    let top = form_not_negative-between (pos 0) (neg_ℤ (pos 1)) LIMIT p lo hi on (omega (arith, lin, from_top LIMIT lo)) (omega (arith, lin, from_top LIMIT hi)) in
    record {
      left = rounds_low LIMIT r.x p.x (pos p.d) (d_positive p) (omega (arith, lin, from_left LIMIT p)) near.0;
      right = rounds_under LIMIT r.x p.x (pos p.d) (d_positive p) (omega (arith, lin, from_right LIMIT p)) near.0;
      bottom = rounds_low LIMIT r.y p.y (pos p.d) (d_positive p) (omega (arith, lin, from_bottom LIMIT p)) near.1;
      top = rounds_under LIMIT r.y p.y (pos p.d) (d_positive p) (omega (arith, lin, from_top LIMIT p)) near.1;
    }

-- so a chain edge of a segment in range is in range
pub edge_in_range : (segs : List Seg) (s e : Seg) → IsSegInRange s → IsChainEdge segs s e → IsSegInRange e
edge_in_range segs s e in_range h = record { lo = centre_in_range s e.lo in_range h.lo_met; hi = centre_in_range s e.hi in_range h.hi_met }
