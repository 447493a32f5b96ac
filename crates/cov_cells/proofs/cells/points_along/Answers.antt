use Rattle.std.proofs.Common.{sym, ◌∙◌, ap, subst, ℕ, List, map, IsPermutation}
use Rattle.std.proofs.lemmas.List.Sorted.{IsPermutation-map}
use Rattle.cov_types.specs.declared.coord.Coord.{Coord}
use Rattle.cov_cells.proofs.cells.points_along.Goals as goal

pub returns : goal.returns
returns c =
    subst (λ (xs : List Coord). IsPermutation xs c.in_ok-along.along.items) c.in_ok-keyed.ensures
    (subst (λ (xs : List Coord). IsPermutation (map (λ (q : ℕ × Coord). q.1) c.in_ok-keyed.keyed.items) xs) (sym (c.in_ok-along.ensures ∙ ap (map (λ (q : ℕ × Coord). q.1)) c.as_slice.ensures.value))
    (IsPermutation-map (λ (q : ℕ × Coord). q.1) c.in_ok-keyed.keyed.items c.sort_unstable.new.self.items c.sort_unstable.ensures.permutation))
