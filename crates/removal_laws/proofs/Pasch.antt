-- A segment that meets two sides of a triangle in ends alone has no point in it but such an end at the third side.
use Rattle.std.proofs.Common.{◌≡◌, ◌⊎◌, inl, inr, sym, ◌∙◌, ap, subst, ◌^◌, ◌+◌, ℤ, pos, neg_ℤ, ◌*ℤ◌, ◌<ℤ◌, ◌≤ℤ◌, ⊎_elim, arith}
use Rattle.integer_laws.proofs.Ring.{lin, mul_one}
use Rattle.integer_laws.proofs.Compare.{lt_or_ge, le_of_lt, lt_excludes_le, trichotomy, eq_or_not}
use Rattle.cov_types.specs.declared.coord.Coord.{Coord}
use Rattle.cov_types.specs.declared.seg.Seg.{Seg}
use Rattle.cov_types.specs.Seg.{IsSegBetween}
use Rattle.plane.specs.Point.{Point, SamePoint, IsBetween, at_coord}
use Rattle.plane.specs.Ray.{sweep, Rises}
use Rattle.plane.specs.Segment.{IsOn, IsEnd}
use Rattle.plane.proofs.Contacts.{ends_apart}
use Rattle.plane.proofs.Forms.{form_negative-between}
use Rattle.plane.proofs.Points.{between-sym, same_point-refl}
use Rattle.plane.proofs.Sides.{side-form, turn-outer_two}
use Rattle.plane.proofs.Sweeps.{sweep-above, on_from_sweep, rises-in_range}
use Rattle.greedy_run.specs.Run.{Triangle}
use Rattle.removal_laws.specs.Ear.{IsWithin, AreSides, IsFree, MeetsInEndsAlone, IsFreeOf, IsOuterEnd}
use Rattle.removal_laws.proofs.Cuts.{HalfPlane, depth, between-trans, not_negative-same, zero-same, at_line, leave}
use Rattle.removal_laws.proofs.Inside.{left_of, left-first, left-second, left-exchanged, area, to_a, to_b, to_c, IsInside, depth-a, depth-c, within-same, within-inside, inside-within, within_not_negative, within_not_positive, on_first, on_second, inside_or_not}

-- ---- the segment from u to v

-- what the segment has in common with ab or bc is one of its ends
record IsBare (t : Triangle) (u v : Coord) : Type 0 where
  first : (x : Point) → IsBetween x (at_coord u) (at_coord v) → IsBetween x (at_coord t.a) (at_coord t.b) → SamePoint x (at_coord u) ⊎ SamePoint x (at_coord v)
  second : (x : Point) → IsBetween x (at_coord u) (at_coord v) → IsBetween x (at_coord t.b) (at_coord t.c) → SamePoint x (at_coord u) ⊎ SamePoint x (at_coord v)

bare-sym : (t : Triangle) (u v : Coord) → IsBare t u v → IsBare t v u
bare-sym t u v h = record {
  first = λ x between on. ⊎_elim inr inl (h.first x (between-sym x (at_coord v) (at_coord u) between) on);
  second = λ x between on. ⊎_elim inr inl (h.second x (between-sym x (at_coord v) (at_coord u) between) on);
}

inside-same : (t : Triangle) (p q : Point) → SamePoint p q → IsInside t p → IsInside t q
inside-same t p q same h = record {
  first = not_negative-same (to_a t) p q same h.first;
  second = not_negative-same (to_b t) p q same h.second;
  third = not_negative-same (to_c t) p q same h.third;
}

-- x between a point of a segment and an end is on the segment
pub nested_on : (x r p q : Point) → IsBetween x r q → IsBetween r p q → IsBetween x p q
nested_on x r p q h k = between-sym x q p (between-trans x q r p (between-sym x r q h) (between-sym r p q k))

corner_on_third : (t : Triangle) (u : Coord) → (u ≡ t.a) ⊎ (u ≡ t.c) → depth (to_b t) (at_coord u) ≡ pos 0
corner_on_third t u (inl e) = ap (λ (w : Coord). depth (to_b t) (at_coord w)) e ∙ left-second t.c t.a
corner_on_third t u (inr e) = ap (λ (w : Coord). depth (to_b t) (at_coord w)) e ∙ left-first t.c t.a

-- u is in the triangle and v is not
one_inside : (t : Triangle) → pos 0 <ℤ area t → (u v : Coord) → IsBare t u v → (u ≡ t.a) ⊎ (u ≡ t.c) → ¬ IsInside t (at_coord v)
    → (r : Point) → IsInside t r → IsBetween r (at_coord u) (at_coord v) → SamePoint r (at_coord u)
one_inside t positive u v bare corner outside r inside between =
    let (x, exit) = leave (to_a t) (to_b t) (to_c t) r (at_coord v) inside outside in
    let on = nested_on x r (at_coord u) (at_coord v) exit.between between in
    let not_v = λ (same : SamePoint x (at_coord v)). outside (inside-same t x (at_coord v) same exit.inside) in
    elim exit.by [
      | inl at ↦ elim (bare.second x on (on_second t x positive exit.inside at.0)) [
        | inl same ↦ at_line (to_a t) r (at_coord u) (at_coord v) between (zero-same (to_a t) x (at_coord u) same at.0) at.1 inside.first
        | inr same ↦ absurd (not_v same)
      ]
      | inr others ↦ elim others [
        | inl at ↦ at_line (to_b t) r (at_coord u) (at_coord v) between (corner_on_third t u corner) at.1 inside.second
        | inr at ↦ elim (bare.first x on (on_first t x positive exit.inside at.0)) [
          | inl same ↦ at_line (to_c t) r (at_coord u) (at_coord v) between (zero-same (to_c t) x (at_coord u) same at.0) at.1 inside.third
          | inr same ↦ absurd (not_v same)
        ]
      ]
    ]

-- neither is in the triangle: on the way from r to v, the segment leaves it by ac
leaves_by_third : (t : Triangle) → pos 0 <ℤ area t → (u v : Coord) → IsBare t u v → ¬ IsInside t (at_coord u) → ¬ IsInside t (at_coord v)
    → (r : Point) → IsInside t r → IsBetween r (at_coord u) (at_coord v) → depth (to_b t) (at_coord v) <ℤ pos 0
leaves_by_third t positive u v bare outside_u outside_v r inside between =
    let (x, exit) = leave (to_a t) (to_b t) (to_c t) r (at_coord v) inside outside_v in
    let on = nested_on x r (at_coord u) (at_coord v) exit.between between in
    let no_end : SamePoint x (at_coord u) ⊎ SamePoint x (at_coord v) → ⊥ =
    ⊎_elim (λ same. outside_u (inside-same t x (at_coord u) same exit.inside)) (λ same. outside_v (inside-same t x (at_coord v) same exit.inside)) in
    elim exit.by [
      | inl at ↦ absurd (no_end (bare.second x on (on_second t x positive exit.inside at.0)))
      | inr others ↦ elim others [
        | inl at ↦ at.1
        | inr at ↦ absurd (no_end (bare.first x on (on_first t x positive exit.inside at.0)))
      ]
    ]

none_inside : (t : Triangle) → pos 0 <ℤ area t → (u v : Coord) → IsBare t u v → ¬ IsInside t (at_coord u) → ¬ IsInside t (at_coord v)
    → (r : Point) → IsInside t r → IsBetween r (at_coord u) (at_coord v) → ⊥
none_inside t positive u v bare outside_u outside_v r inside between =
    let beyond_v = leaves_by_third t positive u v bare outside_u outside_v r inside between in
    let beyond_u = leaves_by_third t positive v u (bare-sym t u v bare) outside_v outside_u r inside (between-sym r (at_coord u) (at_coord v) between) in
    let l = to_b t in
    lt_excludes_le (form_negative-between l.a l.b l.c r (at_coord u) (at_coord v) between beyond_u beyond_v) inside.second

-- ---- a triangle to the left

pub on_between : (a b : Coord) (e : Seg) (x : Point) → IsSegBetween a b e → IsBetween x (at_coord a) (at_coord b) → IsOn e x
on_between a b e x (inl (lo, hi)) h =
    subst (λ (v : Coord). IsBetween x (at_coord e.lo) (at_coord v)) (sym hi) (subst (λ (v : Coord). IsBetween x (at_coord v) (at_coord b)) (sym lo) h)
on_between a b e x (inr (lo, hi)) h =
    subst (λ (v : Coord). IsBetween x (at_coord e.lo) (at_coord v)) (sym hi)
    (subst (λ (v : Coord). IsBetween x (at_coord v) (at_coord a)) (sym lo) (between-sym x (at_coord a) (at_coord b) h))

bare_of : (t : Triangle) (ab bc s : Seg) → IsSegBetween t.a t.b ab → IsSegBetween t.b t.c bc → MeetsInEndsAlone s ab → MeetsInEndsAlone s bc → IsBare t s.lo s.hi
bare_of t ab bc s is_ab is_bc first second = record {
  first = λ x on between. (first x (on, on_between t.a t.b ab x is_ab between)).0;
  second = λ x on between. (second x (on, on_between t.b t.c bc x is_bc between)).0;
}

-- both ends are corners of ac
both_corners : (t : Triangle) (s : Seg) → ¬ IsSegBetween t.a t.c s → (s.lo ≡ t.a) ⊎ (s.lo ≡ t.c) → (s.hi ≡ t.a) ⊎ (s.hi ≡ t.c) → ⊥
both_corners t s not_third (inl lo) (inl hi) = ends_apart s (subst (λ (v : Coord). SamePoint (at_coord s.lo) (at_coord v)) (lo ∙ sym hi) (same_point-refl (at_coord s.lo)))
both_corners t s not_third (inl lo) (inr hi) = not_third (inl (lo, hi))
both_corners t s not_third (inr lo) (inl hi) = not_third (inr (lo, hi))
both_corners t s not_third (inr lo) (inr hi) = ends_apart s (subst (λ (v : Coord). SamePoint (at_coord s.lo) (at_coord v)) (lo ∙ sym hi) (same_point-refl (at_coord s.lo)))

pasch_left : (t : Triangle) → pos 0 <ℤ area t → (s : Seg) → IsBare t s.lo s.hi → ¬ IsSegBetween t.a t.c s → IsFree t s.lo → IsFree t s.hi
    → (r : Point) → IsInside t r → IsOn s r → IsEnd s r
pasch_left t positive s bare not_third lo hi r inside on =
    elim (inside_or_not (to_a t) (to_b t) (to_c t) (at_coord s.lo)) [
      | inl in_lo ↦ (
          let corner_lo = lo (inside-within t (at_coord s.lo) positive in_lo) in
          elim (inside_or_not (to_a t) (to_b t) (to_c t) (at_coord s.hi)) [
            | inl in_hi ↦ absurd (both_corners t s not_third corner_lo (hi (inside-within t (at_coord s.hi) positive in_hi)))
            | inr out_hi ↦ inl (one_inside t positive s.lo s.hi bare corner_lo out_hi r inside on)
          ]
          )
      | inr out_lo ↦ elim (inside_or_not (to_a t) (to_b t) (to_c t) (at_coord s.hi)) [
        | inl in_hi ↦
            inr (one_inside t positive s.hi s.lo (bare-sym t s.lo s.hi bare) (hi (inside-within t (at_coord s.hi) positive in_hi)) out_lo r inside
            (between-sym r (at_coord s.lo) (at_coord s.hi) on))
        | inr out_hi ↦ absurd (none_inside t positive s.lo s.hi bare out_lo out_hi r inside on)
      ]
    ]

-- ---- flat triangles

-- the sweep value of a point of the triangle is not below one that is not above those of the corners
pub sweep_least : (t : Triangle) (r : Point) → IsWithin t r → (m : ℤ)
    → m ≤ℤ sweep (at_coord t.a) → m ≤ℤ sweep (at_coord t.b) → m ≤ℤ sweep (at_coord t.c) → (m *ℤ pos r.d) ≤ℤ sweep r
sweep_least t r h m ha hb hc =
    let l : HalfPlane = record { a = pos (2 ^ 30); b = pos 1; c = neg_ℤ m } in
    let one = mul_one m in
    let at_a = sweep-above m (at_coord t.a) in
    let at_b = sweep-above m (at_coord t.b) in
    let at_c = sweep-above m (at_coord t.c) in
    let at_r = sweep-above m r in
    let inside = within_not_negative l t r h (omega (arith, lin)) (omega (arith, lin)) (omega (arith, lin)) in
    omega (arith, lin)

pub sweep_most : (t : Triangle) (r : Point) → IsWithin t r → (m : ℤ)
    → sweep (at_coord t.a) ≤ℤ m → sweep (at_coord t.b) ≤ℤ m → sweep (at_coord t.c) ≤ℤ m → sweep r ≤ℤ (m *ℤ pos r.d)
sweep_most t r h m ha hb hc =
    let l : HalfPlane = record { a = pos (2 ^ 30); b = pos 1; c = neg_ℤ m } in
    let one = mul_one m in
    let at_a = sweep-above m (at_coord t.a) in
    let at_b = sweep-above m (at_coord t.b) in
    let at_c = sweep-above m (at_coord t.c) in
    let at_r = sweep-above m r in
    let inside = within_not_positive l t r h (omega (arith, lin)) (omega (arith, lin)) (omega (arith, lin)) in
    omega (arith, lin)

-- the points of a flat triangle are on the line of each side
pub flat_on_first : (t : Triangle) → area t ≡ pos 0 → (r : Point) → IsWithin t r → depth (to_c t) r ≡ pos 0
flat_on_first t flat r h =
    let first = left-first t.a t.b in
    let second = left-second t.a t.b in
    let third = depth-c t in
    let low = within_not_negative (to_c t) t r h (omega (arith, lin)) (omega (arith, lin)) (omega (arith, lin)) in
    let high = within_not_positive (to_c t) t r h (omega (arith, lin)) (omega (arith, lin)) (omega (arith, lin)) in
    omega (arith, lin)

-- a segment and its sweep values in the order from a to b
pub record IsUpwards (a b : Coord) (e : Seg) : Type 0 where
  pub lo : e.lo ≡ a
  pub hi : e.hi ≡ b
  pub rises : sweep (at_coord a) <ℤ sweep (at_coord b)

pub upwards_of : (a b : Coord) (e : Seg) → Rises e → IsSegBetween a b e → IsUpwards a b e ⊎ IsUpwards b a e
upwards_of a b e up (inl (lo, hi)) =
    inl (record { lo = lo; hi = hi; rises = (let low = ap (λ (v : Coord). sweep (at_coord v)) lo in let high = ap (λ (v : Coord). sweep (at_coord v)) hi in omega (arith, lin)) })
upwards_of a b e up (inr (lo, hi)) =
    inr (record { lo = lo; hi = hi; rises = (let low = ap (λ (v : Coord). sweep (at_coord v)) lo in let high = ap (λ (v : Coord). sweep (at_coord v)) hi in omega (arith, lin)) })

pub on_by_sweep : (a b : Coord) (e : Seg) (r : Point) → Rises e → IsUpwards a b e → depth (left_of a b) r ≡ pos 0
    → (sweep (at_coord a) *ℤ pos r.d) ≤ℤ sweep r → sweep r ≤ℤ (sweep (at_coord b) *ℤ pos r.d) → IsOn e r
on_by_sweep a b e r up is line low high =
    on_from_sweep e r up
    (side-form e r ∙ (λ i. depth (left_of (is.lo i) (is.hi i)) r) ∙ line)
    (subst (λ (v : Coord). (sweep (at_coord v) *ℤ pos r.d) ≤ℤ sweep r) (sym is.lo) low)
    (subst (λ (v : Coord). sweep r ≤ℤ (sweep (at_coord v) *ℤ pos r.d)) (sym is.hi) high)

line_back : (a b : Coord) (r : Point) → depth (left_of a b) r ≡ pos 0 → depth (left_of b a) r ≡ pos 0
line_back a b r h = left-exchanged a b r ∙ ap neg_ℤ h

-- the points of a flat triangle are on ab or on bc
flat_on : (t : Triangle) (ab bc : Seg) → Rises ab → Rises bc → IsSegBetween t.a t.b ab → IsSegBetween t.b t.c bc → area t ≡ pos 0
    → (r : Point) → IsWithin t r → depth (left_of t.b t.c) r ≡ pos 0 → IsOn ab r ⊎ IsOn bc r
flat_on t ab bc up_ab up_bc is_ab is_bc flat r h on_bc =
    let on_ab = flat_on_first t flat r h in
    let least = sweep_least t r h in
    let most = sweep_most t r h in
    let a = sweep (at_coord t.a) in
    let b = sweep (at_coord t.b) in
    let c = sweep (at_coord t.c) in
    elim (upwards_of t.a t.b ab up_ab is_ab) [
      | inl up ↦ elim (upwards_of t.b t.c bc up_bc is_bc) [
        | inl up_too ↦ (
            let l = up.rises in
            let m = up_too.rises in
            elim (lt_or_ge (b *ℤ pos r.d) (sweep r)) [
              | inl past ↦ inr (on_by_sweep t.b t.c bc r up_bc up_too on_bc (le_of_lt past) (most c (omega (arith, lin)) (omega (arith, lin)) (omega (arith, lin))))
              | inr before ↦ inl (on_by_sweep t.a t.b ab r up_ab up on_ab (least a (omega (arith, lin)) (omega (arith, lin)) (omega (arith, lin))) before)
            ]
            )
        | inr down ↦ (
            let l = up.rises in
            let m = down.rises in
            let below = most b (omega (arith, lin)) (omega (arith, lin)) (omega (arith, lin)) in
            elim (lt_or_ge a c) [
              | inl first ↦ inl (on_by_sweep t.a t.b ab r up_ab up on_ab (least a (omega (arith, lin)) (omega (arith, lin)) (omega (arith, lin))) below)
              | inr other ↦ inr (on_by_sweep t.c t.b bc r up_bc down (line_back t.b t.c r on_bc) (least c (omega (arith, lin)) (omega (arith, lin)) (omega (arith, lin))) below)
            ]
            )
      ]
      | inr back ↦ elim (upwards_of t.b t.c bc up_bc is_bc) [
        | inl up ↦ (
            let l = back.rises in
            let m = up.rises in
            let above = least b (omega (arith, lin)) (omega (arith, lin)) (omega (arith, lin)) in
            elim (lt_or_ge a c) [
              | inl first ↦ inr (on_by_sweep t.b t.c bc r up_bc up on_bc above (most c (omega (arith, lin)) (omega (arith, lin)) (omega (arith, lin))))
              | inr other ↦ inl (on_by_sweep t.b t.a ab r up_ab back (line_back t.a t.b r on_ab) above (most a (omega (arith, lin)) (omega (arith, lin)) (omega (arith, lin))))
            ]
            )
        | inr down ↦ (
            let l = back.rises in
            let m = down.rises in
            elim (lt_or_ge (b *ℤ pos r.d) (sweep r)) [
              | inl past ↦ inl (on_by_sweep t.b t.a ab r up_ab back (line_back t.a t.b r on_ab) (le_of_lt past) (most a (omega (arith, lin)) (omega (arith, lin)) (omega (arith, lin))))
              | inr before ↦ inr (on_by_sweep t.c t.b bc r up_bc down (line_back t.b t.c r on_bc) (least c (omega (arith, lin)) (omega (arith, lin)) (omega (arith, lin))) before)
            ]
            )
      ]
    ]

-- ---- all triangles

-- the triangle from the other side
abbrev pub mirror : Triangle → Triangle
mirror t = record { a = t.c; b = t.b; c = t.a }

pub area-mirror : (t : Triangle) → area (mirror t) ≡ neg_ℤ (area t)
area-mirror t = turn-outer_two t.a t.b t.c

pub within-mirror : (t : Triangle) (p : Point) → IsWithin t p → IsWithin (mirror t) p
within-mirror t p h =
    let w = h.weighted in
    let total : h.third + h.second + h.first ≡ h.first + h.second + h.third = omega arith in
    record {
      first = h.third;
      second = h.second;
      third = h.first;
      weighted = omega arith;
      x = ap (λ n. p.x *ℤ pos n) total ∙ h.x ∙ ap (λ s. pos p.d *ℤ s) (omega (arith, lin));
      y = ap (λ n. p.y *ℤ pos n) total ∙ h.y ∙ ap (λ s. pos p.d *ℤ s) (omega (arith, lin));
    }

pub free-mirror : (t : Triangle) (v : Coord) → IsFree t v → IsFree (mirror t) v
free-mirror t v free h = ⊎_elim inr inl (free (within-mirror (mirror t) (at_coord v) h))

pub not_third-mirror : (t : Triangle) (s : Seg) → ¬ IsSegBetween t.a t.c s → ¬ IsSegBetween t.c t.a s
not_third-mirror t s not_third h = not_third (⊎_elim inr inl h)

-- in a triangle that is not flat, the sides change places where it lies to the right
pasch_bent : (t : Triangle) (ab bc : Seg) → IsSegBetween t.a t.b ab → IsSegBetween t.b t.c bc → ¬ (area t ≡ pos 0)
    → (s : Seg) → IsFreeOf t ab bc s → (r : Point) → IsWithin t r → IsOn s r → IsEnd s r
pasch_bent t ab bc is_ab is_bc bent s h r within on =
    elim (trichotomy (area t) (pos 0)) [
      | inl right ↦ (
          let m = mirror t in
          let positive : pos 0 <ℤ area m = (let e = area-mirror t in omega (arith, lin)) in
          pasch_left m positive s (bare_of m bc ab s (⊎_elim inr inl is_bc) (⊎_elim inr inl is_ab) h.second h.first)
          (not_third-mirror t s h.free.not_third) (free-mirror t s.lo h.free.lo) (free-mirror t s.hi h.free.hi) r
          (within-inside m r (le_of_lt positive) (within-mirror t r within)) on
          )
      | inr others ↦ elim others [
        | inl flat ↦ absurd (bent flat)
        | inr left ↦
            pasch_left t left s (bare_of t ab bc s is_ab is_bc h.first h.second) h.free.not_third h.free.lo h.free.hi r (within-inside t r (le_of_lt left) within) on
      ]
    ]

pub flat_on_second : (t : Triangle) → area t ≡ pos 0 → (r : Point) → IsWithin t r → depth (to_a t) r ≡ pos 0
flat_on_second t flat r h =
    let first = left-first t.b t.c in
    let second = left-second t.b t.c in
    let third = depth-a t in
    let low = within_not_negative (to_a t) t r h (omega (arith, lin)) (omega (arith, lin)) (omega (arith, lin)) in
    let high = within_not_positive (to_a t) t r h (omega (arith, lin)) (omega (arith, lin)) (omega (arith, lin)) in
    omega (arith, lin)

-- the points of a flat triangle are on one of the two sides
pub flat_on_sides : (t : Triangle) (ab bc : Seg) → AreSides t ab bc → area t ≡ pos 0 → (r : Point) → IsWithin t r → IsOn ab r ⊎ IsOn bc r
flat_on_sides t ab bc sides flat r h =
    flat_on t ab bc (rises-in_range ab sides.first_in_range) (rises-in_range bc sides.second_in_range) sides.first sides.second flat r h (flat_on_second t flat r h)

-- an end in the triangle is a or c
outer_end : (t : Triangle) (s : Seg) → IsFree t s.lo → IsFree t s.hi → (r : Point) → IsWithin t r → IsEnd s r → IsOuterEnd t s r
outer_end t s lo hi r within e = record { is_end = e; corner = elim e [ inl same ↦ at_corner s.lo lo same | inr same ↦ at_corner s.hi hi same ] }
  where
    at_corner : (v : Coord) → IsFree t v → SamePoint r (at_coord v) → SamePoint r (at_coord t.a) ⊎ SamePoint r (at_coord t.c)
    at_corner v free same =
        elim (free (within-same t r (at_coord v) same within)) [
          | inl e ↦ inl (subst (λ (w : Coord). SamePoint r (at_coord w)) e same)
          | inr e ↦ inr (subst (λ (w : Coord). SamePoint r (at_coord w)) e same)
        ]

pub pasch : (t : Triangle) (ab bc : Seg) → AreSides t ab bc → (s : Seg) → IsFreeOf t ab bc s → (r : Point) → IsWithin t r → IsOn s r → IsOuterEnd t s r
pasch t ab bc sides s h r within on =
    outer_end t s h.free.lo h.free.hi r within
    (elim (eq_or_not (area t) (pos 0)) [
      | inl flat ↦ elim (flat_on_sides t ab bc sides flat r within) [
        | inl on_ab ↦ (h.first r (on, on_ab)).0
        | inr on_bc ↦ (h.second r (on, on_bc)).0
      ]
      | inr bent ↦ pasch_bent t ab bc sides.first sides.second bent s h r within on
    ])
