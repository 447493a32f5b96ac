-- The order in which a segment passes centres, by sorting and removing repeats: by x, then by y, upwards or downwards.
use Rattle.std.proofs.Common.{◌≡◌, ◌⊎◌, inl, inr, sym, ◌∙◌, ap, true≢false, ◌↔◌, ◌<ℤ◌, ◌≤ℤ◌, List, get_or, Bool, false, IsTrue, int_eq, ◌&&◌, Ordering, int_cmp, is_lt, IsPermutation, IsSortedBy, arith}
use Rattle.std.specs.Prelude.{AllPairs, Contains}
use Rattle.std.specs.List.{dedup}
use Rattle.std.specs.Ordering.{ordering_then, ordering_reverse}
use Rattle.std.specs.Cmp.{IsTotalOrder}
use Rattle.std.proofs.lemmas.Cmp.{int_cmp_total, then_total}
use Rattle.std.proofs.lemmas.Int.{ints}
use Rattle.integer_laws.proofs.Compare.{trichotomy}
use Rattle.cov_types.specs.Coord.{coord_cmp, is_before}
use Rattle.cov_types.specs.declared.coord.Coord.{Coord}
use Rattle.cov_types.specs.declared.seg.Seg.{Seg}
use Rattle.cov_types.proofs.Equal.{Decides-same_coords}
use Rattle.cov_types.proofs.Order.{same_coords, same_from_neither, cases_before}
use Rattle.cov_types.proofs.SegOrder.{coord_cmp_total, is_lt-coord_cmp}
use Rattle.rounding_laws.specs.Formulas.{ComesFirst}
use Rattle.hot_pixel.proofs.Ascending.{set_ascending, set_contains}

abbrev pub down_cmp : Coord → Coord → Ordering
down_cmp a b = ordering_then (int_cmp a.x b.x) (int_cmp b.y a.y)

by_x : IsTotalOrder (λ (a b : Coord). int_cmp a.x b.x)
by_x = record {
  antisymm = λ a b. int_cmp_total.antisymm a.x b.x;
  trans = λ a b c. int_cmp_total.trans a.x b.x c.x;
  congr = λ a b c. int_cmp_total.congr a.x b.x c.x;
}

by_y_down : IsTotalOrder (λ (a b : Coord). int_cmp b.y a.y)
by_y_down = record {
  antisymm = λ a b. int_cmp_total.antisymm b.y a.y;
  trans = λ a b c h k. int_cmp_total.trans c.y b.y a.y k h;
  congr = λ a b c h.
      int_cmp_total.antisymm c.y a.y ∙ ap ordering_reverse (int_cmp_total.congr a.y b.y c.y (int_cmp_total.antisymm a.y b.y ∙ ap ordering_reverse h)) ∙ sym (int_cmp_total.antisymm c.y b.y);
}

down_total : IsTotalOrder down_cmp
down_total = then_total by_x by_y_down

-- two centres of which neither comes before the other are one
not_apart_down : (a b : Coord) → is_lt (down_cmp a b) ≡ false → is_lt (down_cmp b a) ≡ false → a ≡ b
not_apart_down a b h k =
    let column : a.x ≡ b.x = grind (arith, ints) in
    let row : a.y ≡ b.y = grind (arith, ints) in
    same_coords a b column row

-- what comes first downwards
first_down : (a b : Coord) → IsTrue (is_lt (down_cmp a b)) → (a.x <ℤ b.x) ⊎ ((a.x ≡ b.x) × (b.y <ℤ a.y))
first_down a b h =
    elim (trichotomy a.x b.x) [
      | inl left ↦ inl left
      | inr rest ↦ elim rest [
        | inl column ↦ elim (trichotomy b.y a.y) [
          | inl below ↦ inr (column, below)
          | inr other ↦ absurd (grind (arith, ints))
        ]
        | inr right ↦ absurd (grind (arith, ints))
      ]
    ]

-- what the sort leaves
module _ (s : Seg) (xs moved ys : List Coord) (permuted : IsPermutation xs moved) (kept : ys ≡ dedup (λ a b. int_eq a.x b.x && int_eq a.y b.y) moved) where
  module _ (down : s.hi.y <ℤ s.lo.y) (sorted : IsSortedBy (λ (a b : Coord). is_lt (down_cmp a b)) moved) where
    pub down_in_order : AllPairs (ComesFirst s) ys
    down_in_order i j d before within =
        come (get_or ys i d) (get_or ys j d)
        (set_ascending (λ (a b : Coord). int_eq a.x b.x && int_eq a.y b.y) Decides-same_coords down_cmp down_total (λ a b. is_lt (down_cmp a b)) (λ a b i. is_lt (down_cmp a b)) not_apart_down xs moved ys permuted sorted kept i j d before within)
      where
        come : (a b : Coord) → IsTrue (is_lt (down_cmp a b)) → ComesFirst s a b
        come a b h = elim (first_down a b h) [ inl left ↦ inl left | inr under ↦ inr (under.0, inr (down, under.1)) ]

    pub down_same : (r : Coord) → Contains ys r ↔ Contains xs r
    down_same = set_contains (λ (a b : Coord). int_eq a.x b.x && int_eq a.y b.y) Decides-same_coords down_cmp down_total (λ a b. is_lt (down_cmp a b)) (λ a b i. is_lt (down_cmp a b)) not_apart_down xs moved ys permuted sorted kept

  module _ (up : s.lo.y ≤ℤ s.hi.y) (sorted : IsSortedBy (λ (a b : Coord). is_lt (coord_cmp a b)) moved) where
    pub up_in_order : AllPairs (ComesFirst s) ys
    up_in_order i j d before within =
        come (get_or ys i d) (get_or ys j d)
        (set_ascending (λ (a b : Coord). int_eq a.x b.x && int_eq a.y b.y) Decides-same_coords coord_cmp coord_cmp_total is_before is_lt-coord_cmp same_from_neither xs moved ys permuted sorted kept i j d before within)
      where
        come : (a b : Coord) → IsTrue (is_before a b) → ComesFirst s a b
        come a b h = elim (cases_before a b h) [ inl left ↦ inl left | inr above ↦ inr (above.0, inl (up, above.1)) ]

    pub up_same : (r : Coord) → Contains ys r ↔ Contains xs r
    up_same = set_contains (λ (a b : Coord). int_eq a.x b.x && int_eq a.y b.y) Decides-same_coords coord_cmp coord_cmp_total is_before is_lt-coord_cmp same_from_neither xs moved ys permuted sorted kept
