-- A way and edges on two sides of a line.
use Rattle.std.proofs.Common.{List, All, ℤ, pos, ◌≤ℤ◌, ◌<ℤ◌}
use Rattle.std.proofs.lemmas.List.Elements.{All-contains}
use Rattle.cov_types.specs.declared.seg.Seg.{Seg}
use Rattle.integer_laws.proofs.Compare.{lt_excludes_le}
use Rattle.plane.specs.Point.{Point, at_coord}
use Rattle.plane.specs.Joined.{IsClear}
use Rattle.plane.proofs.Forms.{form, form_negative-between, form_not_negative-between}

-- both ends of the edge are on the side of the line where the form is not negative
pub record IsOnFarSide (a b c : ℤ) (e : Seg) : Type 0 where
  pub lo : pos 0 ≤ℤ form a b c (at_coord e.lo)
  pub hi : pos 0 ≤ℤ form a b c (at_coord e.hi)

-- a way on the other side meets none of them
pub separated : (a b c : ℤ) (edges : List Seg) (p q : Point) → form a b c p <ℤ pos 0 → form a b c q <ℤ pos 0 → All (IsOnFarSide a b c) edges → IsClear edges p q
separated a b c edges p q hp hq all = λ e i r between on.
    let beyond = All-contains (IsOnFarSide a b c) edges e all i in
    lt_excludes_le (form_negative-between a b c r p q between hp hq) (form_not_negative-between a b c r (at_coord e.lo) (at_coord e.hi) on beyond.lo beyond.hi)
