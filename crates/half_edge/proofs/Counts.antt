-- The numbers of half-edges: how many there are, and those of twins.
use mathlib.Core.List.{List, [], ◌∷◌}
use Rattle.std.proofs.Common.{◌≡◌, refl, sym, ◌∙◌, ap, subst, ℕ, ◌+◌, ◌-◌, ◌*◌, ◌/◌, ◌%◌, ◌<◌, length, arith}
use Rattle.std.proofs.lemmas.Option.{slice_get_within}
use Rattle.cov_types.specs.declared.seg.Seg.{Seg}
use Rattle.half_edge.proofs.Tables.{some_at}
use Rattle.sector_laws.specs.Sector.{HalfEdge, origin, target, twin, half_edges, IsHalfEdge, IsNextNumber}
use Rattle.sector_laws.proofs.Next.{twin-twin}
use Rattle.sector_laws.proofs.Numbers.{twin_number, one_half_edge}

-- there are two for each edge
pub length-half_edges : (edges : List Seg) → length (half_edges edges) ≡ 2 * length edges
length-half_edges [] = refl
length-half_edges (e ∷ es) = let rest = length-half_edges es in omega (arith, rest)

pub number_within : (edges : List Seg) (n : ℕ) (h : HalfEdge) → IsHalfEdge edges n h → n < 2 * length edges
number_within edges n h at =
    let below = slice_get_within (half_edges edges) n h at in
    let count = length-half_edges edges in
    omega (arith, below, count)

pub some_half_edge : (edges : List Seg) (n : ℕ) → n < 2 * length edges → (h : HalfEdge) × IsHalfEdge edges n h
some_half_edge edges n below = (let count = length-half_edges edges in some_at (half_edges edges) n (omega (arith, below, count)))

-- the twin of an even number comes after it, and that of an odd number before it
pub twin_after : (edges : List Seg) (n : ℕ) (h : HalfEdge) → n % 2 ≡ 0 → IsHalfEdge edges n h → IsHalfEdge edges (n + 1) (twin h)
twin_after edges n h even at =
    let twice : n ≡ 2 * (n / 2) = omega (arith, even) in
    subst (λ m. IsHalfEdge edges (m + 1) (twin h)) (sym twice) (twin_number edges (n / 2) h (subst (λ m. IsHalfEdge edges m h) twice at))

pub twin_before : (edges : List Seg) (n : ℕ) (h : HalfEdge) → n % 2 ≡ 1 → IsHalfEdge edges n h → IsHalfEdge edges (n - 1) (twin h)
twin_before edges n h odd at =
    let within = number_within edges n h at in
    let above : n ≡ 2 * (n / 2) + 1 = omega (arith, odd) in
    let below : n - 1 ≡ 2 * (n / 2) = omega (arith, odd) in
    let (g, first) = some_half_edge edges (2 * (n / 2)) (omega (arith, within, above)) in
    let second : IsHalfEdge edges n (twin g) = subst (λ m. IsHalfEdge edges m (twin g)) (sym above) (twin_number edges (n / 2) g first) in
    let same : g ≡ twin h = sym (twin-twin g) ∙ ap twin (one_half_edge edges n (twin g) h second at) in
    subst (λ m. IsHalfEdge edges m (twin h)) (sym below) (subst (λ k. IsHalfEdge edges (2 * (n / 2)) k) same first)

-- the next begins where the half-edge ends
pub next_begins : (edges : List Seg) (n m : ℕ) → IsNextNumber edges n m → (f g : HalfEdge) → IsHalfEdge edges n f → IsHalfEdge edges m g → origin g ≡ target f
next_begins edges n m next f g at_f at_g =
    ap origin (one_half_edge edges m g next.to at_g next.to_is) ∙ next.follows.leaves.from ∙ ap target (one_half_edge edges n next.from f next.from_is at_f)

pub next_within : (edges : List Seg) (n m : ℕ) → IsNextNumber edges n m → m < 2 * length edges
next_within edges n m next = number_within edges m next.to next.to_is
