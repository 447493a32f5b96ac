-- Edges higher than a point count by the ends of a path that they make.
use Rattle.std.proofs.Common.{◌≡◌, refl, sym, ◌∙◌, ap, ℕ, ◌+◌, ◌%◌, ◌==◌, Bool, true, false, not, ◌&&◌, cond, List, [], ◌∷◌, Contains, count_by, int_lt, pos, ◌*ℤ◌, inl, inr, arith}
use Rattle.std.proofs.lemmas.Bool.{false≢true}
use Rattle.std.proofs.lemmas.Bool.Decides.{nat_tests}
use Rattle.std.proofs.lemmas.List.Sums.{sum_by-cons}
use Rattle.cov_types.specs.Seg.{IsSegBetween}
use Rattle.cov_types.specs.declared.coord.Coord.{Coord}
use Rattle.cov_types.specs.declared.seg.Seg.{Seg}
use Rattle.crossing_laws.specs.Crossing.{IsSwept}
use Rattle.crossing_laws.proofs.Lists.{contains_here, contains_there}
use Rattle.integer_laws.proofs.Compare.{int_lt_is, int_lt_false}
use Rattle.integer_laws.proofs.Order.{lt_mul}
use Rattle.integer_laws.proofs.Ring.{lin, mul_one}
use Rattle.parity_laws.specs.Paths.{differ, is_started, IsHigher, IsPath}
use Rattle.parity_laws.proofs.Under.{right_below}
use Rattle.plane.specs.Parity.{holds}
use Rattle.plane.specs.Point.{Point, at_coord}
use Rattle.plane.specs.Ray.{sweep, sweep_below, is_over, Rises}
use Rattle.plane.specs.Segment.{side}
use Rattle.plane.proofs.Points.{d_positive}

-- ---- tests

-- a: p is before lo; b: p is before hi; c: p is on the right
one_end : (a b c : Bool) → (a ≡ true → b ≡ true) → (a ≡ false → b ≡ true → c ≡ true) → (not a && b && c) ≡ differ (not a) (not b)
one_end true true c h k = refl
one_end true false c h k = absurd (false≢true (h refl))
one_end false true true h k = refl
one_end false true false h k = absurd (false≢true (k refl refl))
one_end false false c h k = refl

pub differ-comm : (a b : Bool) → differ a b ≡ differ b a
differ-comm true true = refl
differ-comm true false = refl
differ-comm false true = refl
differ-comm false false = refl

pub differ-same : (a : Bool) → differ a a ≡ false
differ-same true = refl
differ-same false = refl

-- from a over b to c
pub differ-chain : (a b c : Bool) → differ (differ a b) (differ b c) ≡ differ a c
differ-chain true true true = refl
differ-chain true true false = refl
differ-chain true false true = refl
differ-chain true false false = refl
differ-chain false true true = refl
differ-chain false true false = refl
differ-chain false false true = refl
differ-chain false false false = refl

-- ---- one edge

-- an edge that is higher than p is over it where just one of its ends is started
over_one_end : (e : Seg) (p : Point) → Rises e → IsHigher p e → is_over e p ≡ differ (is_started e.lo p) (is_started e.hi p)
over_one_end e p up higher =
    let one = mul_one (sweep p) in
    let lo = int_lt_is (sweep p *ℤ pos 1) (sweep (at_coord e.lo) *ℤ pos p.d) in
    let hi = int_lt_is (sweep p *ℤ pos 1) (sweep (at_coord e.hi) *ℤ pos p.d) in
    let not_lo = int_lt_false (sweep p *ℤ pos 1) (sweep (at_coord e.lo) *ℤ pos p.d) in
    let rises = lt_mul (pos p.d) (d_positive p) up in
    one_end (sweep_below p (at_coord e.lo)) (sweep_below p (at_coord e.hi)) (int_lt (side e p) (pos 0))
    (λ before. let l = lo.0 before in hi.1 (omega (arith, lin)))
    (λ past before.
    let l = not_lo.0 past in
    let r = hi.0 before in
    (int_lt_is (side e p) (pos 0)).1 (right_below e p higher (omega (arith, lin)) (omega (arith, lin))))

-- whichever of its ends is named first
pub over_higher : (e : Seg) (a b : Coord) (p : Point) → Rises e → IsSegBetween a b e → IsHigher p e → is_over e p ≡ differ (is_started a p) (is_started b p)
over_higher e a b p up ends higher =
    let over = over_one_end e p up higher in
    elim ends [
      | inl onward ↦ over ∙ (λ i. differ (is_started (onward.0 i) p) (is_started (onward.1 i) p))
      | inr back ↦ over ∙ (λ i. differ (is_started (back.0 i) p) (is_started (back.1 i) p)) ∙ differ-comm (is_started b p) (is_started a p)
    ]

-- ---- a path

odd_one_more : (t : Bool) (n : ℕ) → ((cond t 1 0 + n) % 2 == 1) ≡ differ t (n % 2 == 1)
odd_one_more true n = grind (arith, nat_tests)
odd_one_more false n = grind (arith, nat_tests)

-- one edge more in front
pub holds-cons : (e : Seg) (edges : List Seg) (p : Point) → holds (e ∷ edges) p ≡ differ (is_over e p) (holds edges p)
holds-cons e edges p =
    ap (λ n. n % 2 == 1) (sum_by-cons (λ (f : Seg). cond (is_over f p) 1 0) e edges) ∙ odd_one_more (is_over e p) (count_by (λ f. is_over f p) edges)

-- the edges of a path, all higher than p, hold it where just one end of the path is started
pub path_holds : (a b : Coord) (edges : List Seg) (p : Point) → IsSwept edges → IsPath a edges b → ((e : Seg) → Contains edges e → IsHigher p e)
    → holds edges p ≡ differ (is_started a p) (is_started b p)
path_holds a b [] p up path higher = sym (differ-same (is_started b p)) ∙ ap (λ c. differ (is_started c p) (is_started b p)) (sym path)
path_holds a b (e ∷ edges) p up path higher =
    let (c, (ends, onward)) = path in
    let first = over_higher e a c p (up e (contains_here e edges)) ends (higher e (contains_here e edges)) in
    let rest = path_holds c b edges p (λ f i. up f (contains_there e f edges i)) onward (λ f i. higher f (contains_there e f edges i)) in
    holds-cons e edges p ∙ (λ i. differ (first i) (rest i)) ∙ differ-chain (is_started a p) (is_started c p) (is_started b p)
