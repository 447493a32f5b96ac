-- Places: the sides of the edges, and the place past the range.
use mathlib.Core.List.{List}
use Rattle.std.proofs.Common.{◌≡◌, refl, sym, ◌∙◌, subst, ℕ, ◌+◌, ◌*◌, ◌<◌, length, ◌⊎◌, inl, inr, arith}
use Rattle.std.proofs.lemmas.Bool.{cases_lt}
use Rattle.cov_types.specs.declared.seg.Seg.{Seg}
use Rattle.half_edge.proofs.Counts.{number_within, some_half_edge}
use Rattle.plane.specs.Point.{Point}
use Rattle.plane.specs.Joined.{IsOff, Joined}
use Rattle.plane.specs.Region.{far_point, IsSide}
use Rattle.crossing_laws.proofs.Ways.{joined-refl, joined_off}
use Rattle.sector_laws.specs.Sector.{left, IsPlanar}
use Rattle.sector_laws.proofs.Exists.{some_next}
use Rattle.sector_laws.proofs.Numbers.{half_edge_side}
use Rattle.sector_laws.proofs.Sectors.{next_joined}
use Rattle.region_laws.proofs.Numbered.{side_half_edge}

-- ---- sides

pub side_within : (edges : List Seg) (n : ℕ) (p : Point) → IsSide edges n p → n < 2 * length edges
side_within edges n p at = (let (h, of) = side_half_edge edges n p at in number_within edges n h of.is)

pub some_side : (edges : List Seg) (n : ℕ) → n < 2 * length edges → (p : Point) × IsSide edges n p
some_side edges n below = (let (h, at) = some_half_edge edges n below in (left h, half_edge_side edges n h at))

pub one_side : (edges : List Seg) (n : ℕ) (p q : Point) → IsSide edges n p → IsSide edges n q → p ≡ q
one_side edges n p q h k = cc

-- a side point is on no edge, so it is joined with itself
pub side-joined_itself : (edges : List Seg) → IsPlanar edges → (n : ℕ) (p : Point) → IsSide edges n p → Joined edges p p
side-joined_itself edges planar n p at =
    let (h, of) = side_half_edge edges n p at in
    let (g, next) = some_next edges planar h of.among in
    joined-refl edges p (subst (λ q. IsOff edges q) of.point (joined_off edges (left h) (left g) (next_joined edges planar h g next)))

-- ---- places

-- n is a side, and p its side point; or the place past the range, and p the point there
abbrev pub IsPlace : List Seg → ℕ → Point → Type 0
IsPlace edges n p = IsSide edges n p ⊎ ((n ≡ 2 * length edges) × (p ≡ far_point))

pub some_place : (edges : List Seg) (n : ℕ) → n < 2 * length edges + 1 → (p : Point) × IsPlace edges n p
some_place edges n below =
    elim (cases_lt n (2 * length edges)) [
      | inl lt ↦ (let (p, at) = some_side edges n lt in (p, inl at))
      | inr ge ↦ (far_point, inr (omega (arith, below, ge), refl))
    ]

pub one_place : (edges : List Seg) (n : ℕ) (p q : Point) → IsPlace edges n p → IsPlace edges n q → p ≡ q
one_place edges n p q h k =
    elim h [
      | inl side ↦ elim k [
        | inl other ↦ one_side edges n p q side other
        | inr past ↦ absurd (let within = side_within edges n p side in let at = past.0 in omega (arith, within, at))
      ]
      | inr past ↦ elim k [
        | inl side ↦ absurd (let within = side_within edges n q side in let at = past.0 in omega (arith, within, at))
        | inr other ↦ past.1 ∙ sym other.1
      ]
    ]

pub side_of_place : (edges : List Seg) (n : ℕ) (p : Point) → n < 2 * length edges → IsPlace edges n p → IsSide edges n p
side_of_place edges n p below h = elim h [ inl side ↦ side | inr past ↦ absurd (let at = past.0 in omega (arith, below, at)) ]
