-- A line with the members beside it.
use Rattle.std.proofs.Common.{◌≡◌, ◌≢◌, refl, sym, ◌∙◌, ap, subst, ℕ, zero, suc, ◌+◌, ◌-◌, ◌*◌, ◌<◌, ◌≤◌, Bool, true, false, cond, List, length, get_or, Option, Some, None, inl, inr, arith}
use Rattle.std.specs.Prelude.{Contains, slice_get, option_map, option_and_then}
use Rattle.std.proofs.lemmas.Option.{slice_get-get_or, get_or_from_slice_get}
use Rattle.cov_types.specs.declared.coord.Coord.{Coord}
use Rattle.cov_types.specs.declared.edge_use.EdgeUse.{EdgeUse}
use Rattle.cov_types.specs.declared.seg.Seg.{Seg}
use Rattle.cov_types.specs.Coord.{is_same_coord}
use Rattle.cov_types.specs.Seg.{IsSegBetween}
use Rattle.plane.specs.Point.{Point}
use Rattle.plane.specs.Region.{IsSide}
use Rattle.plane.specs.Segment.{upper, lower}
use Rattle.plane.specs.Snapping.{chain_edges}
use Rattle.arrangement.specs.Overlay.{Overlay}
use Rattle.greedy_run.specs.Lines.{IsLine}
use Rattle.greedy_run.specs.Sides.{holder, left_from, right_from, beside_first, left_member, right_member}
use Rattle.greedy_run.proofs.OneLine.{along, edge_at}
use Rattle.greedy_run.proofs.Threads.{one_seg, no_loop}
use Rattle.owner_label.specs.Labelled.{Labelled, IsOverlay}
use Rattle.sector_laws.proofs.Numbers.{half_edge_side, forwards_number, back_number}
use Rattle.cov_simplify.specs.declared.coverage_lines.Line.{Line}
use Rattle.cov_simplify.specs.Lines.{IsSidedLine}

-- ---- the first edge of a line

module _ (edges : List Seg) (points : List Coord) (line : IsLine edges points) (x : Coord) where
  abbrev a : Coord
  a = get_or points 0 x

  abbrev b : Coord
  b = get_or points 1 x

  first_step : (e : Seg) × (Contains edges e × IsSegBetween a b e)
  first_step = let long = line.long in along edges points line.walk x 0 (omega arith)

  -- it has two ends
  pub ends_apart : a ≢ b
  ends_apart same = no_loop a first_step.0 (subst (λ q. IsSegBetween a q first_step.0) (sym same) first_step.1.1)

  module _ (e : Seg) (s : IsSegBetween a b e) where
    is_first : first_step.0 ≡ e
    is_first = one_seg a b first_step.0 e first_step.1.1 s

    pub among_edges : Contains edges e
    among_edges = subst (Contains edges) is_first first_step.1.0

    pub chain_first : slice_get (chain_edges points) 0 ≡ Some e
    chain_first = let long = line.long in edge_at edges points line.walk x 0 e (omega arith) s

    pub point_first : slice_get points 0 ≡ Some a
    point_first = let long = line.long in slice_get-get_or points 0 x (omega arith)

    module _ (uses : List EdgeUse) (members : ℕ) where
      beside : (side : Coord → Seg → Point) → option_and_then (holder uses members) (beside_first side points) ≡ holder uses members (side a e)
      beside side = ap (λ o. option_and_then (holder uses members) (option_and_then (λ p. option_map (side p) (slice_get (chain_edges points) 0)) o)) point_first
          ∙ ap (λ o. option_and_then (holder uses members) (option_map (side a) o)) chain_first

      pub left_is : left_member uses members points ≡ holder uses members (left_from a e)
      left_is = beside left_from

      pub right_is : right_member uses members points ≡ holder uses members (right_from a e)
      right_is = beside right_from

-- ---- the sides of an edge by their numbers

pub upper_side : (edges : List Seg) (k : ℕ) (e : Seg) → slice_get edges k ≡ Some e → IsSide edges (2 * k) (upper e)
upper_side edges k e at = half_edge_side edges (2 * k) (record { edge = e; forwards = true }) (forwards_number edges k e at)

pub lower_side : (edges : List Seg) (k : ℕ) (e : Seg) → slice_get edges k ≡ Some e → IsSide edges (2 * k + 1) (lower e)
lower_side edges k e at = half_edge_side edges (2 * k + 1) (record { edge = e; forwards = false }) (back_number edges k e at)

pub on_side : (edges : List Seg) (n m : ℕ) (p : Point) → n ≡ m → IsSide edges m p → IsSide edges n p
on_side edges n m p is side = subst (λ i. IsSide edges i p) (sym is) side

pub left_at_lo : (a : Coord) (e : Seg) → is_same_coord a e.lo ≡ true → left_from a e ≡ upper e
left_at_lo a e is = ap (λ t. cond t (upper e) (lower e)) is

pub left_at_hi : (a : Coord) (e : Seg) → is_same_coord a e.lo ≡ false → left_from a e ≡ lower e
left_at_hi a e is = ap (λ t. cond t (upper e) (lower e)) is

pub right_at_lo : (a : Coord) (e : Seg) → is_same_coord a e.lo ≡ true → right_from a e ≡ lower e
right_at_lo a e is = ap (λ t. cond t (lower e) (upper e)) is

pub right_at_hi : (a : Coord) (e : Seg) → is_same_coord a e.lo ≡ false → right_from a e ≡ upper e
right_at_hi a e is = ap (λ t. cond t (lower e) (upper e)) is
