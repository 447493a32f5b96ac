-- What uses hold of a midpoint, by where their boxes lie.
use Rattle.std.proofs.Common.{◌≡◌, sym, ◌∙◌, ap, subst, ℕ, ◌+◌, ◌*◌, ◌/◌, ◌%◌, ◌<◌, ◌≤◌, ◌==◌, Bool, true, false, ◌&&◌, cond, List, [], ◌∷◌, length, get_or, take, All, count_by, arith, inl, inr, int_le, int_lt, ℤ, pos, ◌+ℤ◌, ◌*ℤ◌, ◌<ℤ◌, ◌≤ℤ◌, true≢false}
use Rattle.std.proofs.Math.Nat.{div-mul-le_self}
use Rattle.std.proofs.lemmas.Bool.{cases_Bool, and_from}
use Rattle.std.proofs.lemmas.List.{take_more}
use Rattle.std.proofs.lemmas.List.Sums.{sum_by_push}
use Rattle.box_tree.specs.Probe.{is_above_point}
use Rattle.box_tree.specs.Rect.{IsInside, box_of_segment}
use Rattle.box_tree.specs.declared.rect.Rect.{Rect}
use Rattle.cov_types.specs.Range.{IsInRange, IsSegInRange}
use Rattle.cov_types.specs.Rings.{IsRing}
use Rattle.cov_types.specs.declared.coord.Coord.{Coord}
use Rattle.cov_types.specs.declared.edge_use.EdgeUse.{EdgeUse}
use Rattle.cov_types.specs.declared.ring_run.RingRun.{RingRun}
use Rattle.cov_types.specs.declared.seg.Seg.{Seg}
use Rattle.cov_valid.proofs.About.{in_block, block_of}
use Rattle.cov_valid.proofs.Boxes.{lesser, greater}
use Rattle.cov_valid.specs.Levels.{IsLevel, twice_middle}
use Rattle.cov_valid.specs.declared.level.Level.{Level}
use Rattle.integer_laws.proofs.Compare.{int_le_is, int_lt_is}
use Rattle.integer_laws.proofs.Ring.{lin, mul_comm, pos_times}
use Rattle.parity_laws.proofs.Parts.{odd_sum, odd_one, part-none_over, part-higher}
use Rattle.parity_laws.proofs.Under.{over_under}
use Rattle.parity_laws.specs.Paths.{differ, is_started, IsHigher, IsUnder}
use Rattle.parity_laws.specs.Runs.{part_holds, place_in}
use Rattle.plane.specs.Point.{Point}
use Rattle.plane.specs.Ray.{is_over}
use Rattle.plane.specs.Segment.{midpoint}
use Rattle.plane.proofs.Sweeps.{rises-in_range}

-- ---- one edge in a box

-- the least and the greatest numbers of the box of a segment
pub in_box : (b : Rect) (e : Seg) → IsInside (box_of_segment e) b → ((b.lo.x ≤ℤ e.lo.x) × (e.hi.x ≤ℤ b.hi.x)) × (((b.lo.y ≤ℤ e.lo.y) × (b.lo.y ≤ℤ e.hi.y)) × ((e.lo.y ≤ℤ b.hi.y) × (e.hi.y ≤ℤ b.hi.y)))
in_box b e inside =
    let least_x = lesser e.lo.x e.hi.x in
    let greatest_x = greater e.lo.x e.hi.x in
    let least_y = lesser e.lo.y e.hi.y in
    let greatest_y = greater e.lo.y e.hi.y in (
      (omega (arith, lin, inside.left, least_x.0), omega (arith, lin, inside.right, greatest_x.1)),
      ((omega (arith, lin, inside.bottom, least_y.0), omega (arith, lin, inside.bottom, least_y.1)), (omega (arith, lin, inside.top, greatest_y.0), omega (arith, lin, inside.top, greatest_y.1))),
    )

double_le : (a b : ℤ) → a ≤ℤ b → (pos 2 *ℤ a) ≤ℤ (pos 2 *ℤ b)
double_le a b h = omega (arith, lin, pos_times 2 a, pos_times 2 b)

-- the box of an edge that is over a midpoint has a point above it
pub over_above : (b : Rect) (e s : Seg) → IsInside (box_of_segment e) b → IsUnder s e → is_above_point (twice_middle s) b ≡ true
over_above b e s inside under =
    let (xs, (lows, highs)) = in_box b e inside in
    let left = double_le b.lo.x e.lo.x xs.0 in
    let right = double_le e.hi.x b.hi.x xs.1 in
    let top_lo = double_le e.lo.y b.hi.y highs.0 in
    let top_hi = double_le e.hi.y b.hi.y highs.1 in
    let top : (s.lo.y +ℤ s.hi.y) <ℤ (pos 2 *ℤ b.hi.y) = elim under.top [ inl lo ↦ omega (arith, lin) | inr hi ↦ omega (arith, lin) ] in
    and_from (int_le (pos 2 *ℤ b.lo.x) (s.lo.x +ℤ s.hi.x) && int_le (s.lo.x +ℤ s.hi.x) (pos 2 *ℤ b.hi.x)) (int_lt (s.lo.y +ℤ s.hi.y) (pos 2 *ℤ b.hi.y))
    (and_from (int_le (pos 2 *ℤ b.lo.x) (s.lo.x +ℤ s.hi.x)) (int_le (s.lo.x +ℤ s.hi.x) (pos 2 *ℤ b.hi.x))
    ((int_le_is (pos 2 *ℤ b.lo.x) (s.lo.x +ℤ s.hi.x)).1 (omega (arith, lin, under.left))) ((int_le_is (s.lo.x +ℤ s.hi.x) (pos 2 *ℤ b.hi.x)).1 (omega (arith, lin, under.right))))
    ((int_lt_is (s.lo.y +ℤ s.hi.y) (pos 2 *ℤ b.hi.y)).1 top)

-- no edge in a box beside a midpoint is over it
pub beside_not_over : (b : Rect) (e s : Seg) → IsSegInRange e → IsSegInRange s → IsInside (box_of_segment e) b → is_above_point (twice_middle s) b ≡ false → is_over e (midpoint s) ≡ false
beside_not_over b e s he hs inside beside =
    elim (cases_Bool (is_over e (midpoint s))) [
      | inl over ↦ absurd (true≢false (sym (over_above b e s inside (over_under e s he hs over)) ∙ beside))
      | inr not_over ↦ not_over
    ]

half_lt : (y n m : ℤ) → y <ℤ (pos 2 *ℤ n) → n ≤ℤ m → y <ℤ (m *ℤ pos 2)
half_lt y n m h k = omega (arith, lin, pos_times 2 n, mul_comm m (pos 2), pos_times 2 m)

-- each edge in a box above a midpoint is higher
pub higher_in : (b : Rect) (e s : Seg) → IsInside (box_of_segment e) b → (s.lo.y +ℤ s.hi.y) <ℤ (pos 2 *ℤ b.lo.y) → IsHigher (midpoint s) e
higher_in b e s inside above =
    let (xs, (lows, highs)) = in_box b e inside in
    record { lo = half_lt (s.lo.y +ℤ s.hi.y) b.lo.y e.lo.y above lows.0; hi = half_lt (s.lo.y +ℤ s.hi.y) b.lo.y e.hi.y above lows.1 }

-- ---- uses from one place to before another, all in a box

-- their segments are in the box
abbrev pub AreIn : List EdgeUse → ℕ → ℕ → Rect → Type 0
AreIn uses from to b = (k : ℕ) (u : EdgeUse) → from ≤ k → k < to → IsInside (box_of_segment (get_or uses k u).seg) b

pub beside_holds : (uses : List EdgeUse) (from to : ℕ) (b : Rect) (s : Seg) → All (λ u. IsSegInRange u.seg) uses → IsSegInRange s → to ≤ length uses → AreIn uses from to b
    → is_above_point (twice_middle s) b ≡ false → false ≡ part_holds uses from to (midpoint s)
beside_holds uses from to b s in_range hs within inside beside =
    sym (part-none_over uses from to (midpoint s) within
    (λ k u low high. beside_not_over b (get_or uses k u).seg s (in_range k u (omega (arith, high, within))) hs (inside k u low high) beside))

pub higher_holds : (uses : List EdgeUse) (starts : List Coord) (run : RingRun) (from to : ℕ) (b : Rect) (s : Seg) (holds : Bool) (d : Coord) → All (λ u. IsSegInRange u.seg) uses → IsRing uses starts run
    → run.from ≤ from → from ≤ to → to ≤ run.to → AreIn uses from to b → (s.lo.y +ℤ s.hi.y) <ℤ (pos 2 *ℤ b.lo.y)
    → holds ≡ differ (is_started (get_or starts (place_in run from) d) (midpoint s)) (is_started (get_or starts (place_in run to) d) (midpoint s)) → holds ≡ part_holds uses from to (midpoint s)
higher_holds uses starts run from to b s holds d in_range ring low le high inside above told =
    told ∙ sym (part-higher uses starts run from to (midpoint s) d ring low le high
    (λ k u l h. (rises-in_range (get_or uses k u).seg (in_range k u (omega (arith, h, high, ring.uses_end))), higher_in b (get_or uses k u).seg s (inside k u l h) above)))

-- a use is in a block of a level
pub block_within : (uses : List EdgeUse) (level : Level) (k : ℕ) → IsLevel uses level → k < length uses → k / level.width < length level.boxes.items
block_within uses level k is within =
    let floor = div-mul-le_self k level.width in
    block_of level.width level.boxes.items uses (k / level.width) is.boxes (omega (arith, floor, within))

-- those of a block of a level
pub in_level : (uses : List EdgeUse) (level : Level) (from to : ℕ) (d : Rect) → IsLevel uses level → from / level.width < length level.boxes.items → to ≤ (from / level.width) * level.width + level.width → to ≤ length uses
    → AreIn uses from to (get_or level.boxes.items (from / level.width) d)
in_level uses level from to d is within block end k u low high =
    let floor = div-mul-le_self from level.width in
    in_block level.width level.boxes.items uses (from / level.width) k d u is.boxes within (omega (arith, floor, low)) (omega (arith, high, block)) (omega (arith, high, end))

-- ---- starts

-- where a use of a ring begins is in range
pub start_in_range : (uses : List EdgeUse) (starts : List Coord) (run : RingRun) (k : ℕ) (d : Coord) → IsRing uses starts run → All (λ u. IsSegInRange u.seg) uses → run.from ≤ k → k < run.to → IsInRange (get_or starts k d)
start_in_range [] starts run k d ring in_range low high = absurd (omega (arith, low, high, ring.uses_end))
start_in_range (u ∷ uses) starts run k d ring in_range low high =
    let seg = in_range k u (omega (arith, high, ring.uses_end)) in
    elim (ring.closed k u d low high) [
      | inl onward ↦ subst IsInRange onward.0 seg.lo
      | inr back ↦ subst IsInRange back.1 seg.hi
    ]

-- ---- one use more

pub odd_more : (uses : List EdgeUse) (i : ℕ) (u : EdgeUse) (p : Point) → i < length uses → u ≡ get_or uses i u
    → (count_by (λ v. is_over v.seg p) (take (i + 1) uses) % 2 == 1) ≡ differ (count_by (λ v. is_over v.seg p) (take i uses) % 2 == 1) (is_over u.seg p)
odd_more uses i u p within at =
    let over : EdgeUse → Bool = λ v. is_over v.seg p in
    let so_far = count_by over (take i uses) in
    ap (λ us. count_by over us % 2 == 1) (take_more uses i u within)
    ∙ ap (λ n. n % 2 == 1) (sum_by_push (λ v. cond (over v) 1 0) (take i uses) (get_or uses i u))
    ∙ odd_sum so_far (cond (over (get_or uses i u)) 1 0)
    ∙ ap (differ (so_far % 2 == 1)) (odd_one (over (get_or uses i u)) ∙ ap over (sym at))
