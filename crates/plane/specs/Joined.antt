-- Points that are joined by a way that meets no edge.
use Rattle.std.specs.Prelude.{List, [], ◌∷◌, Contains}
use Rattle.cov_types.specs.declared.seg.Seg.{Seg}
use Rattle.plane.specs.Point.{Point, IsBetween}
use Rattle.plane.specs.Segment.{IsOn}

-- p is on no edge
abbrev pub IsOff : List Seg → Point → Type 0
IsOff edges p = (e : Seg) → Contains edges e → IsOn e p → ⊥

-- no point of the closed segment from p to q is on an edge
abbrev pub IsClear : List Seg → Point → Point → Type 0
IsClear edges p q = (e : Seg) → Contains edges e → (r : Point) → IsBetween r p q → IsOn e r → ⊥

-- the points of the way lead from p to q: each closed segment between neighbours is clear
abbrev pub Leads : List Seg → Point → List Point → Point → Type 0
Leads edges p [] q = IsClear edges p q
Leads edges p (r ∷ way) q = IsClear edges p r × Leads edges r way q

-- some way leads from p to q
abbrev pub Joined : List Seg → Point → Point → Type 0
Joined edges p q = (way : List Point) × Leads edges p way q
