-- The numbers of half-edges: 2k and 2k + 1 are the two of edge k, and the sides on their left.
use mathlib.Core.List.{List, [], ◌∷◌}
use Rattle.std.proofs.Common.{◌≡◌, refl, sym, ◌∙◌, ap, subst, ℕ, zero, suc, ◌+◌, ◌*◌, ◌/◌, ◌%◌, ◌<◌, ◌==◌, Bool, true, false, true≢false, map, length, Some, slice_get, option_map, Contains, inl, inr, ◌⊎◌, arith}
use Rattle.std.proofs.lemmas.Bool.{cases_eq}
use Rattle.std.proofs.lemmas.Option.{slice_get-map, slice_get-get_or, none-some, same_Some}
use Rattle.cov_types.specs.declared.seg.Seg.{Seg}
use Rattle.plane.specs.Point.{Point}
use Rattle.plane.specs.Segment.{upper, lower}
use Rattle.plane.specs.Joined.{Joined}
use Rattle.plane.specs.Region.{side_points, IsSide}
use Rattle.crossing_laws.proofs.Lists.{contains_here, contains_there}
use Rattle.sector_laws.specs.Sector.{HalfEdge, left, twin, half_edges, IsHalfEdge, IsNext, IsNextNumber, IsPlanar, AreDistinct}
use Rattle.sector_laws.proofs.Sectors.{next_joined}
use Rattle.sector_laws.proofs.Next.{one_next, next_of_one}
use Rattle.sector_laws.proofs.Exists.{some_next}

same : {X : Type 0} {x y : X} → Some x ≡ Some y → x ≡ y
same {X} {x} {y} h = same_Some x y h

-- ---- the sides on their left

pub sides_left : (edges : List Seg) → side_points edges ≡ map left (half_edges edges)
sides_left [] = refl
sides_left (e ∷ es) = ap (λ points. upper e ∷ lower e ∷ points) (sides_left es)

pub half_edge_side : (edges : List Seg) (n : ℕ) (h : HalfEdge) → IsHalfEdge edges n h → IsSide edges n (left h)
half_edge_side edges n h at = ap (λ points. slice_get points n) (sides_left edges) ∙ slice_get-map left (half_edges edges) n ∙ ap (λ o. option_map left o) at

one_side : (edges : List Seg) (n : ℕ) (p q : Point) → IsSide edges n p → IsSide edges n q → p ≡ q
one_side edges n p q h k = same (sym h ∙ k)

-- ---- the half-edges of edge k

pub forwards_number : (edges : List Seg) (k : ℕ) (e : Seg) → slice_get edges k ≡ Some e → IsHalfEdge edges (2 * k) (record { edge = e; forwards = true })
forwards_number [] k e at = absurd (none-some e at)
forwards_number (f ∷ fs) zero e at = ap (λ o. option_map (λ g. record { edge = g; forwards = true }) o) at
forwards_number (f ∷ fs) (suc k) e at =
    let twice : 2 * suc k ≡ suc (suc (2 * k)) = omega arith in
    ap (λ n. slice_get (half_edges (f ∷ fs)) n) twice ∙ forwards_number fs k e at

pub back_number : (edges : List Seg) (k : ℕ) (e : Seg) → slice_get edges k ≡ Some e → IsHalfEdge edges (2 * k + 1) (record { edge = e; forwards = false })
back_number [] k e at = absurd (none-some e at)
back_number (f ∷ fs) zero e at = ap (λ o. option_map (λ g. record { edge = g; forwards = false }) o) at
back_number (f ∷ fs) (suc k) e at =
    let twice : 2 * suc k + 1 ≡ suc (suc (2 * k + 1)) = omega arith in
    ap (λ n. slice_get (half_edges (f ∷ fs)) n) twice ∙ back_number fs k e at

-- ---- a number is of one half-edge, and of distinct edges a half-edge has one number

pub half_edge_among : (edges : List Seg) (n : ℕ) (h : HalfEdge) → IsHalfEdge edges n h → Contains edges h.edge
half_edge_among [] n h at = absurd (none-some h at)
half_edge_among (e ∷ es) zero h at = subst (λ g. Contains (e ∷ es) g.edge) (same at) (contains_here e es)
half_edge_among (e ∷ es) (suc zero) h at = subst (λ g. Contains (e ∷ es) g.edge) (same at) (contains_here e es)
half_edge_among (e ∷ es) (suc (suc n)) h at = contains_there e h.edge es (half_edge_among es n h at)

pub one_half_edge : (edges : List Seg) (n : ℕ) (h g : HalfEdge) → IsHalfEdge edges n h → IsHalfEdge edges n g → h ≡ g
one_half_edge edges n h g at_h at_g = same (sym at_h ∙ at_g)

distinct_rest : (e : Seg) (es : List Seg) → AreDistinct (e ∷ es) → AreDistinct es
distinct_rest e es h = λ i j d below within. h (suc i) (suc j) d (omega arith) (omega arith)

distinct_first : (e : Seg) (es : List Seg) (f : Seg) → AreDistinct (e ∷ es) → Contains es f → (e ≡ f) → ⊥
distinct_first e es f h (k, below, is) same = h zero (suc k) f (omega arith) (omega arith) (same ∙ sym is)

-- half-edges with numbers from 2 on are not of the first edge
later : (e : Seg) (es : List Seg) (b : Bool) (n : ℕ) (h : HalfEdge) → AreDistinct (e ∷ es) → record { edge = e; forwards = b } ≡ h → IsHalfEdge es n h → ⊥
later e es b n h distinct is at = distinct_first e es h.edge distinct (half_edge_among es n h at) (ap (λ g. g.edge) is)

opposite : (e : Seg) (h : HalfEdge) → record { edge = e; forwards = true } ≡ h → record { edge = e; forwards = false } ≡ h → ⊥
opposite e h one other = true≢false (ap (λ g. g.forwards) (one ∙ sym other))

pub one_number : (edges : List Seg) → AreDistinct edges → (n m : ℕ) (h : HalfEdge) → IsHalfEdge edges n h → IsHalfEdge edges m h → n ≡ m
one_number [] distinct n m h at_n at_m = absurd (none-some h at_n)
one_number (e ∷ es) distinct zero zero h at_n at_m = refl
one_number (e ∷ es) distinct zero (suc zero) h at_n at_m = absurd (opposite e h (same at_n) (same at_m))
one_number (e ∷ es) distinct zero (suc (suc m)) h at_n at_m = absurd (later e es true m h distinct (same at_n) at_m)
one_number (e ∷ es) distinct (suc zero) zero h at_n at_m = absurd (opposite e h (same at_m) (same at_n))
one_number (e ∷ es) distinct (suc zero) (suc zero) h at_n at_m = refl
one_number (e ∷ es) distinct (suc zero) (suc (suc m)) h at_n at_m = absurd (later e es false m h distinct (same at_n) at_m)
one_number (e ∷ es) distinct (suc (suc n)) zero h at_n at_m = absurd (later e es true n h distinct (same at_m) at_n)
one_number (e ∷ es) distinct (suc (suc n)) (suc zero) h at_n at_m = absurd (later e es false n h distinct (same at_m) at_n)
one_number (e ∷ es) distinct (suc (suc n)) (suc (suc m)) h at_n at_m = ap (λ k. suc (suc k)) (one_number es (distinct_rest e es distinct) n m h at_n at_m)

-- ---- the next, by numbers

pub sides_joined : (edges : List Seg) → IsPlanar edges → (n m : ℕ) → IsNextNumber edges n m → (p q : Point) → IsSide edges n p → IsSide edges m q → Joined edges p q
sides_joined edges planar n m next p q at_p at_q =
    let first = one_side edges n (left next.from) p (half_edge_side edges n next.from next.from_is) at_p in
    let second = one_side edges m (left next.to) q (half_edge_side edges m next.to next.to_is) at_q in
    subst (λ x. Joined edges x q) first (subst (λ x. Joined edges (left next.from) x) second (next_joined edges planar next.from next.to next.follows))

pub one_next_number : (edges : List Seg) → IsPlanar edges → AreDistinct edges → (n m k : ℕ) → IsNextNumber edges n m → IsNextNumber edges n k → m ≡ k
one_next_number edges planar distinct n m k h g =
    let from = one_half_edge edges n g.from h.from g.from_is h.from_is in
    let to = one_next edges planar h.from h.to g.to h.follows (subst (λ f. IsNext edges f g.to) from g.follows) in
    one_number edges distinct m k h.to h.to_is (subst (λ f. IsHalfEdge edges k f) (sym to) g.to_is)

pub next_of_one_number : (edges : List Seg) → IsPlanar edges → AreDistinct edges → (n k m : ℕ) → IsNextNumber edges n m → IsNextNumber edges k m → n ≡ k
next_of_one_number edges planar distinct n k m h g =
    let to = one_half_edge edges m g.to h.to g.to_is h.to_is in
    let from = next_of_one edges planar h.from g.from h.to h.follows (subst (λ f. IsNext edges g.from f) to g.follows) in
    one_number edges distinct n k h.from h.from_is (subst (λ f. IsHalfEdge edges k f) (sym from) g.from_is)

-- ---- from number to half-edge and back

even_or_odd : (n : ℕ) → (n % 2 ≡ 0) ⊎ (n % 2 ≡ 1)
even_or_odd n =
    elim (cases_eq (n % 2) 0) [
      | inl even ↦ inl even
      | inr odd ↦ inr (let small : n % 2 < 2 = omega arith in omega (arith, odd))
    ]

pub half_edge_at : (edges : List Seg) (n : ℕ) (e : Seg) → slice_get edges (n / 2) ≡ Some e → IsHalfEdge edges n (record { edge = e; forwards = n % 2 == 0 })
half_edge_at edges n e at =
    elim (even_or_odd n) [
      | inl even ↦
          subst (λ b. IsHalfEdge edges n (record { edge = e; forwards = b })) (sym (ap (λ r. r == 0) even))
          (subst (λ k. IsHalfEdge edges k (record { edge = e; forwards = true })) (omega arith) (forwards_number edges (n / 2) e at))
      | inr odd ↦
          subst (λ b. IsHalfEdge edges n (record { edge = e; forwards = b })) (sym (ap (λ r. r == 0) odd))
          (subst (λ k. IsHalfEdge edges k (record { edge = e; forwards = false })) (omega arith) (back_number edges (n / 2) e at))
    ]

pub twin_number : (edges : List Seg) (k : ℕ) (h : HalfEdge) → IsHalfEdge edges (2 * k) h → IsHalfEdge edges (2 * k + 1) (twin h)
twin_number [] k h at = absurd (none-some h at)
twin_number (e ∷ es) zero h at = ap (λ o. option_map twin o) at
twin_number (e ∷ es) (suc k) h at =
    let twice : 2 * suc k ≡ suc (suc (2 * k)) = omega arith in
    let above : 2 * suc k + 1 ≡ suc (suc (2 * k + 1)) = omega arith in
    ap (λ n. slice_get (half_edges (e ∷ es)) n) above ∙ twin_number es k h (sym (ap (λ n. slice_get (half_edges (e ∷ es)) n) twice) ∙ at)

pub some_number : (edges : List Seg) (h : HalfEdge) → Contains edges h.edge → (n : ℕ) × IsHalfEdge edges n h
some_number edges h (k, below, is) = by_direction h.forwards (slice_get-get_or edges k h.edge below ∙ ap Some is)
  where
    by_direction : (b : Bool) → slice_get edges k ≡ Some h.edge → (n : ℕ) × IsHalfEdge edges n (record { edge = h.edge; forwards = b })
    by_direction true at = (2 * k, forwards_number edges k h.edge at)
    by_direction false at = (2 * k + 1, back_number edges k h.edge at)

pub some_next_number : (edges : List Seg) → IsPlanar edges → (n : ℕ) → n < length (half_edges edges) → (m : ℕ) × IsNextNumber edges n m
some_next_number edges planar n below =
    let (h, at_n) = some_half_edge (half_edges edges) n below in
    let (g, next) = some_next edges planar h (half_edge_among edges n h at_n) in
    let (m, at_m) = some_number edges g next.leaves.among in
    (m, record { from = h; to = g; from_is = at_n; to_is = at_m; follows = next })
  where
    some_half_edge : (all : List HalfEdge) (i : ℕ) → i < length all → (h : HalfEdge) × (slice_get all i ≡ Some h)
    some_half_edge [] i lt = absurd (omega arith)
    some_half_edge (h ∷ hs) zero lt = (h, refl)
    some_half_edge (h ∷ hs) (suc i) lt = some_half_edge hs i (omega arith)
