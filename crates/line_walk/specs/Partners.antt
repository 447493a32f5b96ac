-- The other edge at a vertex at which two edges meet.
use Rattle.std.specs.Prelude.{◌≡◌, ◌≢◌, ◌⊎◌, ℕ, cond, List, length, Option, Some, None, slice_get}
use Rattle.cov_types.specs.declared.coord.Coord.{Coord}
use Rattle.cov_types.specs.declared.seg.Seg.{Seg}
use Rattle.cov_types.specs.Coord.{is_same_coord}
use Rattle.greedy_run.specs.Lines.{degree}
use Rattle.line_walk.specs.declared.partners.Partners.{Partners}

-- the edge ends at the vertex
abbrev pub IsAtVertex : Seg → Coord → Type 0
IsAtVertex e v = (e.lo ≡ v) ⊎ (e.hi ≡ v)

-- the edge at the place ends at the vertex
abbrev pub HasEndAt : List Seg → ℕ → Coord → Type 0
HasEndAt edges k v = (e : Seg) × ((slice_get edges k ≡ Some e) × IsAtVertex e v)

-- two edges meet at the vertex, and that at place j is not the one at place k
pub record IsPartner (edges : List Seg) (v : Coord) (k j : ℕ) : Type 0 where
  pub two : degree edges v ≡ 2
  pub differs : j ≢ k
  pub ends : HasEndAt edges j v

-- the other edge at the vertex, where just two meet
abbrev pub IsPartnerOrNone : List Seg → Coord → ℕ → Option ℕ → Type 0
IsPartnerOrNone edges v k None = degree edges v ≢ 2
IsPartnerOrNone edges v k (Some j) = IsPartner edges v k j

-- the partner of the edge at the vertex
abbrev pub partner_at : Seg → Coord → Partners → Option ℕ
partner_at e v p = cond (is_same_coord e.lo v) p.at_lo p.at_hi

-- the partners of the edge with another one at the vertex
abbrev pub with_partner : Seg → Coord → Option ℕ → Partners → Partners
with_partner e v other p = cond (is_same_coord e.lo v) (record { at_lo = other; at_hi = p.at_hi }) (record { at_lo = p.at_lo; at_hi = other })

-- the partners of each edge, at each of its ends
pub record ArePartners (edges : List Seg) (partners : List Partners) : Type 0 where
  pub size : length partners ≡ length edges
  pub each : (k : ℕ) (e : Seg) (p : Partners) (v : Coord) → slice_get edges k ≡ Some e → slice_get partners k ≡ Some p → IsAtVertex e v → IsPartnerOrNone edges v k (partner_at e v p)
