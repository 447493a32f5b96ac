-- Segments one after the other, and segments on a common line.
use mathlib.Core.List.{[], ◌∷◌}
use Rattle.std.proofs.Common.{◌≡◌, ◌⊎◌, inl, inr, refl, sym, ◌∙◌, ap, subst, ◌^◌, ℤ, pos, ◌+ℤ◌, ◌-ℤ◌, ◌*ℤ◌, ◌<ℤ◌, ◌≤ℤ◌, arith}
use Rattle.integer_laws.proofs.Ring.{lin, by_two, Term, Var, Lit, ◌⊕◌, ◌⊖◌, ◌⊗◌, Neg, mul_one, mul_zero}
use Rattle.integer_laws.proofs.Order.{cancel_eq, lt_mul}
use Rattle.integer_laws.proofs.Compare.{lt_or_ge}
use Rattle.cov_types.specs.declared.coord.Coord.{Coord}
use Rattle.cov_types.specs.declared.seg.Seg.{Seg}
use Rattle.plane.specs.declared.contact.Contact.TheVariants.{CommonEnd}
use Rattle.plane.specs.Point.{Point, SamePoint, at_coord}
use Rattle.plane.specs.Segment.{IsOn, turn_of}
use Rattle.plane.specs.Ray.{sweep, Rises}
use Rattle.plane.specs.Contact.{IsCommon, IsOnlyCommon, HaveTwoCommon, IsContact}
use Rattle.plane.proofs.Points.{d_positive, same_point-refl, first_between, second_between}
use Rattle.plane.proofs.Sides.{side-at_coord, side_zero-on}
use Rattle.plane.proofs.Sweeps.{sweep-same, sweep-on_from, sweep-on_to, on_from_sweep, same_as_hi}
use Rattle.plane.proofs.Meeting.{turns-balance, turn_term}

-- ---- segments one after the other

-- s ends before t begins
pub before_apart : (s t : Seg) → Rises s → Rises t → sweep (at_coord s.hi) <ℤ sweep (at_coord t.lo) → (r : Point) → ¬ IsCommon s t r
before_apart s t rises rises_too l r common =
    let below = sweep-on_to s r (omega (arith, lin)) common.0 in
    let above = sweep-on_from t r (omega (arith, lin)) common.1 in
    let apart = lt_mul (pos r.d) (d_positive r) l in
    omega (arith, lin)

-- s ends where t begins
chained_only : (s t : Seg) → Rises s → Rises t → s.hi ≡ t.lo → (q : Point) → IsCommon s t q → SamePoint q (at_coord s.hi)
chained_only s t rises rises_too e q common =
    let below = sweep-on_to s q (omega (arith, lin)) common.0 in
    let above = sweep-on_from t q (omega (arith, lin)) common.1 in
    let same = ap (λ c. sweep (at_coord c) *ℤ pos q.d) e in
    same_as_hi s q rises (side_zero-on s q common.0) (omega (arith, lin))

pub chained : (s t : Seg) → Rises s → Rises t → s.hi ≡ t.lo → IsContact s t CommonEnd
chained s t rises rises_too e =
    let on_t = subst (λ (c : Coord). IsOn t (at_coord c)) (sym e) (first_between (at_coord t.lo) (at_coord t.hi)) in
    let end_of_t = subst (λ (c : Coord). SamePoint (at_coord s.hi) (at_coord c)) e (same_point-refl (at_coord s.hi)) in
    let only : IsOnlyCommon s t (at_coord s.hi) = record {
      common = (second_between (at_coord s.lo) (at_coord s.hi), on_t);
      only = chained_only s t rises rises_too e;
    } in
    (at_coord s.hi, (only, inr (same_point-refl (at_coord s.hi)), inl end_of_t))

-- the segments change places
only-exchange : (s t : Seg) (r : Point) → IsOnlyCommon t s r → IsOnlyCommon s t r
only-exchange s t r o = record { common = (o.common.1, o.common.0); only = λ q c. o.only q (c.1, c.0) }

pub common_end-exchange : (s t : Seg) → IsContact t s CommonEnd → IsContact s t CommonEnd
common_end-exchange s t c = (c.0, (only-exchange s t c.0 c.1.0, c.1.2, c.1.1))

-- ---- segments on a common line

-- the rise of ab times the turn of a against cd, in the numbers k, a, b, c, d
line_turn : (k ax ay bx by cx cy dx dy : ℤ)
    → ((bx -ℤ ax) *ℤ (cy -ℤ ay)) -ℤ ((by -ℤ ay) *ℤ (cx -ℤ ax)) ≡ pos 0
    → ((bx -ℤ ax) *ℤ (dy -ℤ ay)) -ℤ ((by -ℤ ay) *ℤ (dx -ℤ ax)) ≡ pos 0
    → (((k *ℤ bx) +ℤ by) -ℤ ((k *ℤ ax) +ℤ ay)) *ℤ (((dx -ℤ cx) *ℤ (ay -ℤ cy)) -ℤ ((dy -ℤ cy) *ℤ (ax -ℤ cx))) ≡ pos 0
line_turn k ax ay bx by cx cy dx dy on_c on_d =
    by_two (k ∷ ax ∷ ay ∷ bx ∷ by ∷ cx ∷ cy ∷ dx ∷ dy ∷ [])
    (((Var 0 ⊗ Var 3 ⊕ Var 4) ⊖ (Var 0 ⊗ Var 1 ⊕ Var 2)) ⊗ turn_term (Var 5) (Var 6) (Var 7) (Var 8) (Var 1) (Var 2)) (Lit (pos 0))
    (Neg ((Var 0 ⊗ Var 7 ⊕ Var 8) ⊖ (Var 0 ⊗ Var 1 ⊕ Var 2))) (turn_term (Var 1) (Var 2) (Var 3) (Var 4) (Var 5) (Var 6)) (Lit (pos 0))
    ((Var 0 ⊗ Var 5 ⊕ Var 6) ⊖ (Var 0 ⊗ Var 1 ⊕ Var 2)) (turn_term (Var 1) (Var 2) (Var 3) (Var 4) (Var 7) (Var 8)) (Lit (pos 0)) refl on_c on_d

-- where both ends of t are on the line of s, the ends of s are on the line of t
lo_on_line : (s t : Seg) → Rises s → turn_of s.lo s.hi t.lo ≡ pos 0 → turn_of s.lo s.hi t.hi ≡ pos 0 → turn_of t.lo t.hi s.lo ≡ pos 0
unfolding turn_of sweep
lo_on_line s t rises on_lo on_hi =
    cancel_eq (sweep (at_coord s.hi) -ℤ sweep (at_coord s.lo)) (turn_of t.lo t.hi s.lo) (pos 0) (omega (arith, lin))
    (line_turn (pos (2 ^ 30)) s.lo.x s.lo.y s.hi.x s.hi.y t.lo.x t.lo.y t.hi.x t.hi.y on_lo on_hi ∙ sym (mul_zero (sweep (at_coord s.hi) -ℤ sweep (at_coord s.lo))))

hi_on_line : (s t : Seg) → Rises s → turn_of s.lo s.hi t.lo ≡ pos 0 → turn_of s.lo s.hi t.hi ≡ pos 0 → turn_of t.lo t.hi s.hi ≡ pos 0
hi_on_line s t rises on_lo on_hi =
    let lo = lo_on_line s t rises on_lo on_hi in
    let balance = turns-balance s.lo s.hi t.lo t.hi in
    omega (arith, lin)

-- a grid point on the line of a segment, with a sweep value between those of its ends
pub on_from_turn : (s : Seg) (c : Coord) → Rises s → turn_of s.lo s.hi c ≡ pos 0
    → sweep (at_coord s.lo) ≤ℤ sweep (at_coord c) → sweep (at_coord c) ≤ℤ sweep (at_coord s.hi) → IsOn s (at_coord c)
on_from_turn s c rises on_line low high =
    on_from_sweep s (at_coord c) rises (side-at_coord s c ∙ on_line)
    (omega (arith, lin, mul_one (sweep (at_coord s.lo)))) (omega (arith, lin, mul_one (sweep (at_coord s.hi))))

pub on-turn : (s : Seg) (c : Coord) → Rises s → IsOn s (at_coord c)
    → (turn_of s.lo s.hi c ≡ pos 0) × (sweep (at_coord s.lo) ≤ℤ sweep (at_coord c)) × (sweep (at_coord c) ≤ℤ sweep (at_coord s.hi))
on-turn s c rises on =
    let low = sweep-on_from s (at_coord c) (omega (arith, lin)) on in
    let high = sweep-on_to s (at_coord c) (omega (arith, lin)) on in (
      sym (side-at_coord s c) ∙ side_zero-on s (at_coord c) on,
      omega (arith, lin, mul_one (sweep (at_coord s.lo))),
      omega (arith, lin, mul_one (sweep (at_coord s.hi))),
    )

-- of segments on one line that overlap, the later lo and the earlier hi are points of both
later_lo : (s t : Seg) → Rises s → Rises t → turn_of s.lo s.hi t.lo ≡ pos 0 → turn_of s.lo s.hi t.hi ≡ pos 0
    → sweep (at_coord t.lo) <ℤ sweep (at_coord s.hi) → sweep (at_coord s.lo) <ℤ sweep (at_coord t.hi)
    → (c : Coord) × IsCommon s t (at_coord c) × ((c ≡ s.lo) ⊎ (c ≡ t.lo))
later_lo s t rises rises_too on_lo on_hi first second =
    elim (lt_or_ge (sweep (at_coord s.lo)) (sweep (at_coord t.lo))) [
      | inl l ↦ (t.lo, (on_from_turn s t.lo rises on_lo (omega (arith, lin)) (omega (arith, lin)), first_between (at_coord t.lo) (at_coord t.hi)), inr refl)
      | inr g ↦ (s.lo, (first_between (at_coord s.lo) (at_coord s.hi), on_from_turn t s.lo rises_too (lo_on_line s t rises on_lo on_hi) (omega (arith, lin)) (omega (arith, lin))), inl refl)
    ]

earlier_hi : (s t : Seg) → Rises s → Rises t → turn_of s.lo s.hi t.lo ≡ pos 0 → turn_of s.lo s.hi t.hi ≡ pos 0
    → sweep (at_coord t.lo) <ℤ sweep (at_coord s.hi) → sweep (at_coord s.lo) <ℤ sweep (at_coord t.hi)
    → (c : Coord) × IsCommon s t (at_coord c) × ((c ≡ s.hi) ⊎ (c ≡ t.hi))
earlier_hi s t rises rises_too on_lo on_hi first second =
    elim (lt_or_ge (sweep (at_coord s.hi)) (sweep (at_coord t.hi))) [
      | inl l ↦ (s.hi, (second_between (at_coord s.lo) (at_coord s.hi), on_from_turn t s.hi rises_too (hi_on_line s t rises on_lo on_hi) (omega (arith, lin)) (omega (arith, lin))), inl refl)
      | inr g ↦ (t.hi, (on_from_turn s t.hi rises on_hi (omega (arith, lin)) (omega (arith, lin)), second_between (at_coord t.lo) (at_coord t.hi)), inr refl)
    ]

-- a lo is before a hi
lo_before_hi : (s t : Seg) (c d : Coord) → Rises s → Rises t → sweep (at_coord t.lo) <ℤ sweep (at_coord s.hi) → sweep (at_coord s.lo) <ℤ sweep (at_coord t.hi)
    → (c ≡ s.lo) ⊎ (c ≡ t.lo) → (d ≡ s.hi) ⊎ (d ≡ t.hi) → sweep (at_coord c) <ℤ sweep (at_coord d)
lo_before_hi s t c d rises rises_too first second h k =
    let value = λ (v : Coord). sweep (at_coord v) in
    elim h [
      | inl e ↦ elim k [
        | inl f ↦ (let e' = ap value e in let f' = ap value f in omega (arith, lin))
        | inr f ↦ (let e' = ap value e in let f' = ap value f in omega (arith, lin))
      ]
      | inr e ↦ elim k [
        | inl f ↦ (let e' = ap value e in let f' = ap value f in omega (arith, lin))
        | inr f ↦ (let e' = ap value e in let f' = ap value f in omega (arith, lin))
      ]
    ]

pub overlapping : (s t : Seg) → Rises s → Rises t → turn_of s.lo s.hi t.lo ≡ pos 0 → turn_of s.lo s.hi t.hi ≡ pos 0
    → sweep (at_coord t.lo) <ℤ sweep (at_coord s.hi) → sweep (at_coord s.lo) <ℤ sweep (at_coord t.hi) → HaveTwoCommon s t
overlapping s t rises rises_too on_lo on_hi first second =
    let lo = later_lo s t rises rises_too on_lo on_hi first second in
    let hi = earlier_hi s t rises rises_too on_lo on_hi first second in
    let l = lo_before_hi s t lo.0 hi.0 rises rises_too first second lo.2 hi.2 in
    record {
      one = at_coord lo.0;
      other = at_coord hi.0;
      one_common = lo.1;
      other_common = hi.1;
      different = λ same. absurd (let e = sweep-same (at_coord lo.0) (at_coord hi.0) same in omega (arith, lin, mul_one (sweep (at_coord lo.0)), mul_one (sweep (at_coord hi.0))));
    }
