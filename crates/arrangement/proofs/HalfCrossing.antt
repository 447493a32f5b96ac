-- The crossing at (1/2, 1/2): which pixels it makes hot, and the chains of the segments.
use mathlib.Core.List.{[], ◌∷◌}
use Rattle.std.proofs.Common.{◌≡◌, ◌⊎◌, inl, inr, refl, sym, ap, subst, ℕ, zero, suc, ◌≤◌, List, ◌++◌, ℤ, pos, negsuc, ◌*ℤ◌, ◌≤ℤ◌, lit≤, arith}
use Rattle.std.specs.Prelude.{Contains}
use Rattle.std.specs.List.{AllByRecursion}
use Rattle.std.proofs.lemmas.Int.{ints}
use Rattle.std.proofs.lemmas.List.Elements.{All-from_recursion, All-contains}
use Rattle.cov_types.specs.declared.coord.Coord.{Coord}
use Rattle.cov_types.specs.declared.seg.Seg.{Seg}
use Rattle.cov_types.proofs.Order.{same_coords}
use Rattle.integer_laws.proofs.Ring.{lin}
use Rattle.plane.specs.Examples.{grid, segment}
use Rattle.plane.specs.Point.{Point, SamePoint, at_coord}
use Rattle.plane.specs.Segment.{IsOn, IsEnd, side, turn_of}
use Rattle.plane.specs.Ray.{sweep, Rises}
use Rattle.plane.specs.Contact.{IsOnlyCommon}
use Rattle.plane.specs.Snapping.{IsInPixel, IsHot, MeetsPixel, IsChain}
use Rattle.plane.proofs.Points.{d_positive, same_point-sym, first_between, second_between, between-moved}
use Rattle.plane.proofs.Sides.{side_zero-on}
use Rattle.plane.proofs.Contacts.{two_with_itself, one_is_not_two}
use Rattle.plane.proofs.Forms.{form, form_not_negative-between}
use Rattle.rounding_laws.specs.Formulas.{ComesFirst, IsBeside}
use Rattle.rounding_laws.proofs.Near.{rounds_above, rounds_under, pixel-near, pixel_unique, pixel_same, pixel_own}
use Rattle.rounding_laws.proofs.Edges.{lo_hot_met, hi_hot_met}
use Rattle.rounding_laws.proofs.Meets.{meets-is}
use Rattle.rounding_laws.proofs.Lone.{chain_by_centres}
use Rattle.arrangement.specs.Noding.{segments}
use Rattle.arrangement.specs.Examples.{at, half_crossing, half_chains}
use Rattle.arrangement.specs.Snaps.{half, wide_rising, wide_falling, wide_crossing, HotExamples, ChainExamples}
use Rattle.arrangement.proofs.Short.{PairsByRecursion, AllPairs-from_recursion, both_in}

-- ---- the pixel of the crossing

in_its_pixel : IsInPixel half (grid 1 1)
in_its_pixel = record { left = record { le = tt }; right = record { lt = tt }; bottom = record { le = tt }; top = record { lt = tt } }

-- the pixel of a grid point is its own
pub own_pixel : (p : Point) (c r : Coord) → SamePoint p (at_coord c) → IsInPixel p r → c ≡ r
own_pixel p c r same inside = pixel_unique (at_coord c) c r (pixel_own c) (pixel_same p (at_coord c) r same inside)

not_end : (s : Seg) (r : Point) → ¬ SamePoint r (at_coord s.lo) → ¬ SamePoint r (at_coord s.hi) → ¬ IsEnd s r
not_end s r not_lo not_hi e = elim e [ inl lo ↦ not_lo lo | inr hi ↦ not_hi hi ]

only_half : IsOnlyCommon wide_rising wide_falling half
unfolding side
only_half = record {
  common = (
    record { first = 1; second = 1; weighted = lit≤ tt; x = refl; y = refl },
    record { first = 1; second = 1; weighted = lit≤ tt; x = refl; y = refl },
  );
  only = λ q h. (let s = side_zero-on wide_rising q h.0 in let t = side_zero-on wide_falling q h.1 in (omega (arith, ints), omega (arith, ints)));
}

crossing_hot : IsHot wide_crossing (grid 1 1)
crossing_hot = (
  half,
  (
    in_its_pixel,
    inr (
      wide_rising,
      (
        wide_falling,
        (
          (0, omega arith, refl),
          (1, omega arith, refl),
          only_half,
          not_end wide_rising half (λ e. (let x = e.0 in omega (arith, lin))) (λ e. (let x = e.0 in omega (arith, lin))),
          not_end wide_falling half (λ e. (let x = e.0 in omega (arith, lin))) (λ e. (let x = e.0 in omega (arith, lin))),
        ),
      ),
    ),
  ),
)

-- a grid point that is an end is not (0, 0)
far_end : (p : Point) (c : Coord) → SamePoint p (at_coord c) → IsInPixel p (grid 0 0) → c ≡ grid 0 0
far_end p c same inside = own_pixel p c (grid 0 0) same inside

abbrev HasNoEndNear : Seg → Type 0
HasNoEndNear s = (p : Point) → IsEnd s p → IsInPixel p (grid 0 0) → ⊥

no_end_near : (s : Seg) → Contains wide_crossing s → HasNoEndNear s
no_end_near s has = All-contains HasNoEndNear wide_crossing s (All-from_recursion HasNoEndNear wide_crossing (
  (λ p e i. elim e [
    | inl lo ↦ (let x = ap (λ (c : Coord). c.x) (far_end p wide_rising.lo lo i) in omega (arith, lin))
    | inr hi ↦ (let x = ap (λ (c : Coord). c.x) (far_end p wide_rising.hi hi i) in omega (arith, lin))
  ]),
  (
    (λ p e i. elim e [
      | inl lo ↦ (let x = ap (λ (c : Coord). c.x) (far_end p wide_falling.lo lo i) in omega (arith, lin))
      | inr hi ↦ (let x = ap (λ (c : Coord). c.x) (far_end p wide_falling.hi hi i) in omega (arith, lin))
    ]),
    tt,
  ),
)) has

-- no crossing of a segment with itself, and that of the two is not near
abbrev CrossNotNear : Seg → Seg → Type 0
CrossNotNear s t = (p : Point) → IsOnlyCommon s t p → IsInPixel p (grid 0 0) → ⊥

not_itself : (s : Seg) → CrossNotNear s s
not_itself s p only inside = one_is_not_two s s p only (two_with_itself s s refl)

not_the_two : CrossNotNear wide_rising wide_falling
unfolding side
not_the_two p only inside =
    let s = side_zero-on wide_rising p only.common.0 in
    let t = side_zero-on wide_falling p only.common.1 in
    let right = inside.right in
    omega (arith, ints)

other_way : (s t : Seg) → CrossNotNear s t → CrossNotNear t s
other_way s t h p only inside = h p (record { common = (only.common.1, only.common.0); only = λ q c. only.only q (c.1, c.0) }) inside

no_crossing_near : (s t : Seg) → Contains wide_crossing s → Contains wide_crossing t → CrossNotNear s t
no_crossing_near s t has_s has_t = both_in CrossNotNear wide_crossing s t (
  (not_itself wide_rising, (not_the_two, tt)),
  ((other_way wide_rising wide_falling not_the_two, (not_itself wide_falling, tt)), tt),
) has_s has_t

not_hot : ¬ IsHot wide_crossing (grid 0 0)
not_hot (p, (inside, inl (s, (has, e)))) = no_end_near s has p e inside
not_hot (p, (inside, inr (s, (t, (has_s, has_t, only, not_s, not_t))))) = no_crossing_near s t has_s has_t p only inside

pub hot_examples : HotExamples
hot_examples = record {
  its_pixel = in_its_pixel;
  not_its_pixel = λ i. (let right = i.right in omega (arith, lin));
  hot = crossing_hot;
  not_hot = not_hot;
}

-- ---- the ring whose sides cross there: its hot pixels are those of (0, 0), (0, 1), (1, 0) and (1, 1)

abbrev four : List Seg
four = segments half_crossing

abbrev rising : Seg
rising = segment (grid 0 0) (grid 1 1) refl

abbrev top : Seg
top = segment (grid 0 1) (grid 1 1) refl

abbrev falling : Seg
falling = segment (grid 0 1) (grid 1 0) refl

abbrev bottom : Seg
bottom = segment (grid 0 0) (grid 1 0) refl

-- both numbers are 0 or 1
record IsInUnit (r : Coord) : Type 0 where
  left : pos 0 ≤ℤ r.x
  right : r.x ≤ℤ pos 1
  bottom : pos 0 ≤ℤ r.y
  top : r.y ≤ℤ pos 1

-- the same for a point
record IsPointInUnit (p : Point) : Type 0 where
  left : (pos 0 *ℤ pos p.d) ≤ℤ p.x
  right : p.x ≤ℤ (pos 1 *ℤ pos p.d)
  bottom : (pos 0 *ℤ pos p.d) ≤ℤ p.y
  top : p.y ≤ℤ (pos 1 *ℤ pos p.d)

point_between : (s : Seg) (p : Point) → IsInUnit s.lo → IsInUnit s.hi → IsOn s p → IsPointInUnit p
unfolding form
point_between s p lo hi on =
    let low = at_coord s.lo in
    let high = at_coord s.hi in
    let l = form_not_negative-between (pos 1) (pos 0) (pos 0) p low high on (let h = lo.left in omega (arith, ints)) (let h = hi.left in omega (arith, ints)) in
    let r = form_not_negative-between (negsuc 0) (pos 0) (pos 1) p low high on (let h = lo.right in omega (arith, ints)) (let h = hi.right in omega (arith, ints)) in
    let b = form_not_negative-between (pos 0) (pos 1) (pos 0) p low high on (let h = lo.bottom in omega (arith, ints)) (let h = hi.bottom in omega (arith, ints)) in
    let t = form_not_negative-between (pos 0) (negsuc 0) (pos 1) p low high on (let h = lo.top in omega (arith, ints)) (let h = hi.top in omega (arith, ints)) in
    record { left = omega (arith, ints); right = omega (arith, ints); bottom = omega (arith, ints); top = omega (arith, ints) }

-- so its pixel is one of the four
pixel_in_unit : (p : Point) (r : Coord) → IsPointInUnit p → IsInPixel p r → IsInUnit r
pixel_in_unit p r within inside =
    let near = pixel-near p r inside in
    record {
      left = rounds_above (pos 0) r.x p.x (pos p.d) (d_positive p) within.left near.0;
      right = rounds_under (pos 1) r.x p.x (pos p.d) (d_positive p) within.right near.0;
      bottom = rounds_above (pos 0) r.y p.y (pos p.d) (d_positive p) within.bottom near.1;
      top = rounds_under (pos 1) r.y p.y (pos p.d) (d_positive p) within.top near.1;
    }

record HasEndsInUnit (s : Seg) : Type 0 where
  lo : IsInUnit s.lo
  hi : IsInUnit s.hi

in_unit : (x y : ℕ) → x ≤ 1 → y ≤ 1 → IsInUnit (grid x y)
in_unit x y h k = record { left = omega (arith, ints); right = omega (arith, ints); bottom = omega (arith, ints); top = omega (arith, ints) }

ends_in_unit : (s : Seg) → Contains four s → HasEndsInUnit s
ends_in_unit s has = All-contains HasEndsInUnit four s (All-from_recursion HasEndsInUnit four (
  record { lo = in_unit 0 0 (omega arith) (omega arith); hi = in_unit 1 1 (omega arith) (omega arith) },
  (
    record { lo = in_unit 0 1 (omega arith) (omega arith); hi = in_unit 1 1 (omega arith) (omega arith) },
    (
      record { lo = in_unit 0 1 (omega arith) (omega arith); hi = in_unit 1 0 (omega arith) (omega arith) },
      (record { lo = in_unit 0 0 (omega arith) (omega arith); hi = in_unit 1 0 (omega arith) (omega arith) }, tt),
    ),
  ),
)) has

end_on : (s : Seg) (p : Point) → IsEnd s p → IsOn s p
end_on s p (inl same) = between-moved (at_coord s.lo) p (at_coord s.lo) (at_coord s.hi) (same_point-sym p (at_coord s.lo) same) (first_between (at_coord s.lo) (at_coord s.hi))
end_on s p (inr same) = between-moved (at_coord s.hi) p (at_coord s.lo) (at_coord s.hi) (same_point-sym p (at_coord s.hi) same) (second_between (at_coord s.lo) (at_coord s.hi))

on_four : (s : Seg) (p : Point) (r : Coord) → Contains four s → IsOn s p → IsInPixel p r → IsInUnit r
on_four s p r has on inside = let ends = ends_in_unit s has in pixel_in_unit p r (point_between s p ends.lo ends.hi on) inside

hot_in_unit : (r : Coord) → IsHot four r → IsInUnit r
hot_in_unit r (p, (inside, inl (s, (has, e)))) = on_four s p r has (end_on s p e) inside
hot_in_unit r (p, (inside, inr (s, (t, (has_s, has_t, only, not_s, not_t))))) = on_four s p r has_s only.common.0 inside

zero_or_one : (x : ℤ) → pos 0 ≤ℤ x → x ≤ℤ pos 1 → (x ≡ pos 0) ⊎ (x ≡ pos 1)
zero_or_one (pos zero) low high = inl refl
zero_or_one (pos (suc zero)) low high = inr refl
zero_or_one (pos (suc (suc n))) low high = absurd (omega (arith, ints))
zero_or_one (negsuc n) low high = absurd (omega (arith, ints))

-- a fact of the four pixels is one of each hot pixel
by_corner : (P : Coord → Type 0) → P (grid 0 0) → P (grid 0 1) → P (grid 1 0) → P (grid 1 1) → (r : Coord) → IsInUnit r → P r
by_corner P p q s t r h =
    elim (zero_or_one r.x h.left h.right) [
      | inl x ↦ elim (zero_or_one r.y h.bottom h.top) [
        | inl y ↦ subst P (sym (same_coords r (grid 0 0) x y)) p
        | inr y ↦ subst P (sym (same_coords r (grid 0 1) x y)) q
      ]
      | inr x ↦ elim (zero_or_one r.y h.bottom h.top) [
        | inl y ↦ subst P (sym (same_coords r (grid 1 0) x y)) s
        | inr y ↦ subst P (sym (same_coords r (grid 1 1) x y)) t
      ]
    ]

-- ---- the chains

-- r is hot, and the side meets its pixel
abbrev IsHotAndMet : Seg → Coord → Type 0
IsHotAndMet s r = IsHot four r × MeetsPixel s r

-- a list of hot centres that a side meets, with all of the four that it meets, is its chain
chain_of : (s : Seg) (c : List Coord) → Rises s → AllByRecursion (IsHotAndMet s) c → ((r : Coord) → IsInUnit r → MeetsPixel s r → Contains c r) → PairsByRecursion (ComesFirst s) c → IsChain four s c
chain_of s c rises each every ordered =
    chain_by_centres four s c rises
    (λ r. (λ has. All-contains (IsHotAndMet s) c r (All-from_recursion (IsHotAndMet s) c each) has, λ h. every r (hot_in_unit r h.0) h.1))
    (AllPairs-from_recursion (ComesFirst s) c ordered)

-- the sides pass over these corners
not_met : (s : Seg) (r : Coord) → (IsBeside s r → ⊥) → MeetsPixel s r → Contains (s.lo ∷ s.hi ∷ []) r
not_met s r misses met = absurd (misses ((meets-is s r).0 met))

rising_misses_left : IsBeside rising (grid 0 1) → ⊥
unfolding turn_of
rising_misses_left h = elim h.within [ inl up ↦ (let b = up.left in omega (arith, ints)) | inr down ↦ (let b = down.down in omega (arith, ints)) ]

rising_misses_right : IsBeside rising (grid 1 0) → ⊥
unfolding turn_of
rising_misses_right h = elim h.within [ inl up ↦ (let b = up.right in omega (arith, ints)) | inr down ↦ (let b = down.down in omega (arith, ints)) ]

top_misses : (x : ℕ) → IsBeside top (grid x 0) → ⊥
top_misses x h = elim h.within [ inl up ↦ (let b = up.from in omega (arith, ints)) | inr down ↦ (let b = down.down in omega (arith, ints)) ]

bottom_misses : (x : ℕ) → IsBeside bottom (grid x 1) → ⊥
bottom_misses x h = elim h.within [ inl up ↦ (let b = up.to in omega (arith, ints)) | inr down ↦ (let b = down.down in omega (arith, ints)) ]

falling_misses : IsBeside falling (grid 0 0) → ⊥
unfolding turn_of
falling_misses h = elim h.within [ inl up ↦ (let b = up.up in omega (arith, ints)) | inr down ↦ (let b = down.right in omega (arith, ints)) ]

falling_met : IsBeside falling (grid 1 1)
unfolding turn_of
falling_met = record {
  from = record { le = tt };
  to = record { le = tt };
  within = inr (record { down = record { lt = tt }; from = record { le = tt }; to = record { le = tt }; right = record { lt = tt }; left = record { le = tt } });
}

rising_chain : IsChain four rising (at 0 0 ++ at 1 1)
unfolding sweep
rising_chain =
    chain_of rising (at 0 0 ++ at 1 1) (record { lt = tt }) (lo_hot_met four rising (0, omega arith, refl), (hi_hot_met four rising (0, omega arith, refl), tt))
    (by_corner (λ r. MeetsPixel rising r → Contains (at 0 0 ++ at 1 1) r) (λ m. (0, omega arith, refl)) (not_met rising (grid 0 1) rising_misses_left) (not_met rising (grid 1 0) rising_misses_right) (λ m. (1, omega arith, refl)))
    ((inl (record { lt = tt }), tt), (tt, tt))

top_chain : IsChain four top (at 0 1 ++ at 1 1)
unfolding sweep
top_chain =
    chain_of top (at 0 1 ++ at 1 1) (record { lt = tt }) (lo_hot_met four top (1, omega arith, refl), (hi_hot_met four top (1, omega arith, refl), tt))
    (by_corner (λ r. MeetsPixel top r → Contains (at 0 1 ++ at 1 1) r) (not_met top (grid 0 0) (top_misses 0)) (λ m. (0, omega arith, refl)) (not_met top (grid 1 0) (top_misses 1)) (λ m. (1, omega arith, refl)))
    ((inl (record { lt = tt }), tt), (tt, tt))

bottom_chain : IsChain four bottom (at 0 0 ++ at 1 0)
unfolding sweep
bottom_chain =
    chain_of bottom (at 0 0 ++ at 1 0) (record { lt = tt }) (lo_hot_met four bottom (3, omega arith, refl), (hi_hot_met four bottom (3, omega arith, refl), tt))
    (by_corner (λ r. MeetsPixel bottom r → Contains (at 0 0 ++ at 1 0) r) (λ m. (0, omega arith, refl)) (not_met bottom (grid 0 1) (bottom_misses 0)) (λ m. (1, omega arith, refl)) (not_met bottom (grid 1 1) (bottom_misses 1)))
    ((inl (record { lt = tt }), tt), (tt, tt))

falling_chain : IsChain four falling (at 0 1 ++ at 1 1 ++ at 1 0)
unfolding sweep
falling_chain =
    chain_of falling (at 0 1 ++ at 1 1 ++ at 1 0) (record { lt = tt }) (
      lo_hot_met four falling (2, omega arith, refl),
      (((hi_hot_met four rising (0, omega arith, refl)).0, (meets-is falling (grid 1 1)).1 falling_met), (hi_hot_met four falling (2, omega arith, refl), tt)),
    )
    (by_corner (λ r. MeetsPixel falling r → Contains (at 0 1 ++ at 1 1 ++ at 1 0) r) (λ m. absurd (falling_misses ((meets-is falling (grid 0 0)).0 m))) (λ m. (0, omega arith, refl)) (λ m. (2, omega arith, refl)) (λ m. (1, omega arith, refl))) (
      (inl (record { lt = tt }), (inl (record { lt = tt }), tt)),
      ((inr (refl, inr (record { lt = tt }, record { lt = tt })), tt), (tt, tt)),
    )

near_five : IsBeside (segment (grid 0 0) (grid 10 1) refl) (grid 5 0)
unfolding turn_of
near_five = record {
  from = record { le = tt };
  to = record { le = tt };
  within = inl (record { up = record { le = tt }; from = record { le = tt }; to = record { le = tt }; right = record { lt = tt }; left = record { lt = tt } });
}

pub chain_examples : ChainExamples
chain_examples = record {
  half_crossing = record { chains = half_chains; are_chains = (rising_chain, (top_chain, (falling_chain, (bottom_chain, tt)))); made = refl };
  passed = (meets-is (segment (grid 0 0) (grid 10 1) refl) (grid 5 0)).1 near_five;
}
