-- A set of segments.
use Rattle.std.specs.Prelude.{◌≡◌, ◌⊎◌, ◌↔◌, Bool, true, ◌&&◌}
use Rattle.cov_types.specs.Seg.{IsSegBetween}
use Rattle.std.specs.HashSet.{HashSet, contains}
use Rattle.std.specs.declared.hash.FoldHasher.{FoldHasher}
use Rattle.std.specs.declared.hash.BuildHasherDefault.{BuildHasherDefault}
use Rattle.cov_types.specs.declared.coord.Coord.{Coord}
use Rattle.cov_types.specs.declared.seg.Seg.{Seg}
use Rattle.cov_types.specs.Coord.{is_same_coord}

-- two pairs of ends are one
abbrev pub are_same_ends : Coord × Coord → Coord × Coord → Bool
are_same_ends p q = is_same_coord p.0 q.0 && is_same_coord p.1 q.1

-- the segment is in the set of pairs of ends
abbrev pub is_among : HashSet (Coord × Coord) (BuildHasherDefault FoldHasher) → Seg → Bool
is_among ends e = contains are_same_ends ends (e.lo, e.hi)

-- some segment between the two points is there
abbrev pub IsJoined : HashSet (Coord × Coord) (BuildHasherDefault FoldHasher) → Coord → Coord → Type 0
IsJoined ends a b = (e : Seg) × ((is_among ends e ≡ true) × IsSegBetween a b e)

-- the new set has the segment between the two points besides
abbrev pub AreAdded : (old new : HashSet (Coord × Coord) (BuildHasherDefault FoldHasher)) → Coord → Coord → Type 0
AreAdded old new a b = (e : Seg) → (is_among new e ≡ true) ↔ ((is_among old e ≡ true) ⊎ IsSegBetween a b e)

-- the new set has it no more
abbrev pub AreLeft : (old new : HashSet (Coord × Coord) (BuildHasherDefault FoldHasher)) → Coord → Coord → Type 0
AreLeft old new a b = (e : Seg) → (is_among new e ≡ true) ↔ ((is_among old e ≡ true) × ¬ IsSegBetween a b e)
