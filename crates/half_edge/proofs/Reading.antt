-- What an arena's table says of a half-edge.
use mathlib.Core.List.{List}
use Rattle.std.proofs.Common.{◌≡◌, refl, ap, subst, ℕ, ◌*◌, ◌<◌, length, get_or, arith}
use Rattle.std.proofs.lemmas.Option.{slice_get_read}
use Rattle.cov_types.specs.declared.seg.Seg.{Seg}
use Rattle.half_edge.specs.Arena.{IsArena}
use Rattle.half_edge.specs.declared.side.Side.{Side}
use Rattle.sector_laws.specs.Sector.{IsNextNumber, IsPlanar, AreDistinct}

pub next_at : (edges shown : List Seg) (table : List Side) (h : ℕ) (id : Side) → IsArena edges table → edges ≡ shown → h < 2 * length shown → id ≡ get_or table h id → IsNextNumber shown h id.number
next_at edges shown table h id arena same below is =
    let count = arena.next.count in
    let long = ap length same in
    subst (λ es. IsNextNumber es h id.number) same (arena.next.each h id (slice_get_read table (length table) h id refl (omega (arith, below, count, long)) is))

pub planar_of : (edges shown : List Seg) (table : List Side) → IsArena edges table → edges ≡ shown → IsPlanar shown
planar_of edges shown table arena same = subst IsPlanar same arena.planar

pub distinct_of : (edges shown : List Seg) (table : List Side) → IsArena edges table → edges ≡ shown → AreDistinct shown
distinct_of edges shown table arena same = subst AreDistinct same arena.distinct
