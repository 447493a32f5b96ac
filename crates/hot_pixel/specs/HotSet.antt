-- The segments of which a hot set is built.
use Rattle.std.specs.Prelude.{List, map}
use Rattle.cov_types.specs.declared.edge_use.EdgeUse.{EdgeUse}
use Rattle.cov_types.specs.declared.seg.Seg.{Seg}

-- the segments of a list of uses
abbrev pub segs_of : List EdgeUse → List Seg
segs_of uses = map (λ u. u.seg) uses
