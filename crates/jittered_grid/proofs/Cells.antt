-- What the loops over corners, columns and rows have made.
use Rattle.std.proofs.Common.{◌≡◌, refl, sym, ◌∙◌, ap, subst, arith, ℕ, zero, suc, ◌+◌, ◌*◌, List, [], ◌∷◌, ◌++◌, map, flat_map}
use Rattle.std.specs.List.{range_with_len}
use Rattle.std.proofs.lemmas.List.{append_assoc, append-nil}
use Rattle.std.proofs.lemmas.List.FromFn.{map-range_with_len_more}
use Rattle.cov_types.specs.Coverage.{Members}
use Rattle.cov_types.specs.declared.coord.Coord.{Coord}
use Rattle.jittered_grid.specs.Draws.{HasDrawn}
use Rattle.jittered_grid.specs.declared.draws.Draws.{Draws}
use Rattle.jittered_grid.specs.Cells.{corner, ring, cell, cells_in_row, cells}

-- ---- a ring

-- four corners, of two draws each, are the ring
pub ring_of-corners : (seed count column row : ℕ) (a b c d : Coord)
    → a ≡ corner seed count column row → b ≡ corner seed (count + 2) (column + 1) row
    → c ≡ corner seed (count + 2 + 2) (column + 1) (row + 1) → d ≡ corner seed (count + 2 + 2 + 2) column (row + 1)
    → a ∷ b ∷ c ∷ d ∷ [] ≡ ring seed count column row
ring_of-corners seed count column row a b c d p q r s =
    let four : count + 2 + 2 ≡ count + 4 = omega arith in
    let six : count + 2 + 2 + 2 ≡ count + 6 = omega arith in
    rw (p, q, r, s, six, four) refl

-- four times two draws are eight
pub eight-drawn : (draws : Draws) (seed count : ℕ) → HasDrawn draws seed (count + 2 + 2 + 2 + 2) → HasDrawn draws seed (count + 8)
eight-drawn draws seed count h = subst (λ k. HasDrawn draws seed k) (omega arith) h

-- ---- a row

-- the cells of the row before a column were appended, if the draws began with those of the row
pub record IsPartRow (side row column : ℕ) (first draws : Draws) (before members : Members) : Type 0 where
  pub cells : (seed : ℕ) → HasDrawn first seed (8 * (row * side)) → members ≡ before ++ map (cell side seed row) (range_with_len 0 column)
  pub drawn : (seed : ℕ) → HasDrawn first seed (8 * (row * side)) → HasDrawn draws seed (8 * (row * side + column))

pub row-more : (side row column : ℕ) (first draws after : Draws) (before members : Members) (m : List (List (List Coord)))
    → ((seed count : ℕ) → HasDrawn draws seed count → m ≡ (ring seed count column row ∷ []) ∷ [])
    → ((seed count : ℕ) → HasDrawn draws seed count → HasDrawn after seed (count + 8))
    → IsPartRow side row column first draws before members → IsPartRow side row (column + 1) first after before (members ++ m ∷ [])
row-more side row column first draws after before members m is moved part = record {
  cells = λ seed h. (
      let here : m ≡ cell side seed row column = is seed (8 * (row * side + column)) (part.drawn seed h) in
      let all = map-range_with_len_more (cell side seed row) 0 column column (omega arith) in
      ap (λ (ms : Members). ms ++ m ∷ []) (part.cells seed h)
      ∙ ap (λ x. (before ++ map (cell side seed row) (range_with_len 0 column)) ++ x ∷ []) here
      ∙ append_assoc before (map (cell side seed row) (range_with_len 0 column)) (cell side seed row column ∷ [])
      ∙ ap (λ (ms : Members). before ++ ms) (sym all)
      );
  drawn = λ seed h. subst (λ k. HasDrawn after seed k) (omega arith) (moved seed (8 * (row * side + column)) (part.drawn seed h));
}

-- ---- the grid

-- the cells of the rows before a row were appended
pub record IsPartGrid (side seed row : ℕ) (draws : Draws) (members : Members) : Type 0 where
  pub cells : members ≡ flat_map (cells_in_row side seed) (range_with_len 0 row)
  pub drawn : HasDrawn draws seed (8 * (row * side))

-- the pieces of one number more
flat-range : {A : Type 0} (f : ℕ → List A) (from n : ℕ) → flat_map f (range_with_len from (suc n)) ≡ flat_map f (range_with_len from n) ++ f (from + n)
flat-range f from zero = append-nil (f from) ∙ ap f (omega arith)
flat-range f from (suc n) =
    ap (λ xs. f from ++ xs) (flat-range f (from + 1) n)
    ∙ sym (append_assoc (f from) (flat_map f (range_with_len (from + 1) n)) (f (from + 1 + n)))
    ∙ ap (λ k. (f from ++ flat_map f (range_with_len (from + 1) n)) ++ f k) (omega arith)

rows-more : (side seed row : ℕ) → flat_map (cells_in_row side seed) (range_with_len 0 (row + 1)) ≡ flat_map (cells_in_row side seed) (range_with_len 0 row) ++ cells_in_row side seed row
rows-more side seed row =
    let next : row + 1 ≡ suc row = omega arith in
    let here : 0 + row ≡ row = omega arith in
    ap (λ k. flat_map (cells_in_row side seed) (range_with_len 0 k)) next ∙ flat-range (cells_in_row side seed) 0 row
    ∙ ap (λ k. flat_map (cells_in_row side seed) (range_with_len 0 row) ++ cells_in_row side seed k) here

pub grid-more : (side seed row : ℕ) (draws after : Draws) (members more : Members)
    → ((s : ℕ) → HasDrawn draws s (8 * (row * side)) → more ≡ members ++ cells_in_row side s row)
    → ((s : ℕ) → HasDrawn draws s (8 * (row * side)) → HasDrawn after s (8 * ((row + 1) * side)))
    → IsPartGrid side seed row draws members → IsPartGrid side seed (row + 1) after more
grid-more side seed row draws after members more is moved part = record {
  cells = is seed part.drawn ∙ ap (λ (ms : Members). ms ++ cells_in_row side seed row) part.cells ∙ sym (rows-more side seed row);
  drawn = moved seed part.drawn;
}

pub grid-cells : (side seed row : ℕ) (draws : Draws) (members : Members) → row ≡ side → IsPartGrid side seed row draws members → members ≡ cells side seed
grid-cells side seed row draws members end part = part.cells ∙ ap (λ k. flat_map (cells_in_row side seed) (range_with_len 0 k)) end
