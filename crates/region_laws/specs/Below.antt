-- The edges of a list below a point, and the nearest of them.
use Rattle.std.specs.Prelude.{◌≡◌, ◌⊎◌, IsTrue, List, Contains}
use Rattle.cov_types.specs.declared.seg.Seg.{Seg}
use Rattle.plane.specs.Point.{Point}
pub use Rattle.plane.specs.Below.{is_under, sweep_rise, IsNearer}

-- e is an edge of the list, and under p
pub record IsBelow (edges : List Seg) (p : Point) (e : Seg) : Type 0 where
  pub among : Contains edges e
  pub under : IsTrue (is_under e p)

-- e is below p, and nearer than each other edge below p
pub record IsNearestBelow (edges : List Seg) (p : Point) (e : Seg) : Type 0 where
  pub below : IsBelow edges p e
  pub nearest : (f : Seg) → IsBelow edges p f → (e ≡ f) ⊎ IsNearer p e f

-- no edge is below p
abbrev pub HasNoneBelow : List Seg → Point → Type 0
HasNoneBelow edges p = (e : Seg) → IsBelow edges p e → ⊥
