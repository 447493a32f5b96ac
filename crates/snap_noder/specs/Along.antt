-- Uses beside the places of their segments along a curve.
use Rattle.std.specs.Prelude.{ℕ}
use Rattle.box_tree.specs.Curve.{curve_of}
use Rattle.cov_types.specs.declared.edge_use.EdgeUse.{EdgeUse}
use Rattle.cov_types.specs.declared.seg.Seg.{Seg}

-- the place of a use's segment, and the use with its segment first
abbrev pub keyed_of : EdgeUse → ℕ × (Seg × ℕ)
keyed_of u = (curve_of u.seg.lo, (u.seg, u.member))

-- and the use itself
abbrev pub use_of : ℕ × (Seg × ℕ) → EdgeUse
use_of keyed = record { member = keyed.1.1; seg = keyed.1.0 }
