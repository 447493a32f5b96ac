-- A point that can be removed is no node.
use Rattle.std.proofs.Common.{◌≡◌, sym, ◌∙◌, ap, List, arith}
use Rattle.std.specs.Prelude.{Some, slice_get, option_and_then}
use Rattle.std.proofs.lemmas.Option.{slice_get_within, get_or_from_slice_get}
use Rattle.cov_types.specs.declared.coord.Coord.{Coord}
use Rattle.greedy_run.specs.Lines.{IsNode, IsLine}
use Rattle.greedy_run.specs.Run.{Simplification, Spot, IsRemovable}

pub no_node : (s : Simplification) (removed : List Coord) (spot : Spot) (h : IsRemovable s removed spot) → ¬ IsNode s.edges h.t.b
no_node s removed spot h =
    let at = h.triangle in
    let line : IsLine s.edges at.points = (s.are_lines.exact at.points).0 (spot.line, slice_get_within s.lines spot.line at.points at.line, get_or_from_slice_get s.lines spot.line at.points at.points at.line) in
    let here : slice_get at.points spot.place ≡ Some h.t.b = sym (ap (option_and_then (λ points. slice_get points spot.place)) at.line) ∙ at.here in
    let before = at.before.before in
    let after = at.after.after in
    let within = slice_get_within at.points at.to h.t.c at.after.at in
    line.between spot.place h.t.b (omega arith) (omega arith) here
