-- The boxes that reach into some columns are those of the segments that pass them.
use mathlib.Core.List.{[], ◌∷◌}
use Rattle.std.proofs.Common.{◌≡◌, refl, sym, ◌∙◌, ap, subst, ℕ, zero, suc, ◌+◌, ◌<◌, ◌≤ℤ◌, ℤ, pos, neg_ℤ, ◌+ℤ◌, ◌-ℤ◌, ◌&&◌, Bool, true, false, cond, int_le, List, map, arith}
use Rattle.std.specs.Prelude.{All}
use Rattle.std.specs.Int.{int_min, int_max}
use Rattle.std.specs.Cmp.{both_ways}
use Rattle.std.proofs.lemmas.Bool.{and_parts, and_from}
use Rattle.std.proofs.lemmas.Int.{ints, clamps}
use Rattle.integer_laws.proofs.Ring.{lin}
use Rattle.integer_laws.proofs.Compare.{int_le_is, le_trans}
use Rattle.cov_types.specs.Range.{IsInRange, IsSegInRange}
use Rattle.cov_types.specs.declared.coord.TheConstants.{LIMIT}
use Rattle.cov_types.specs.declared.edge_use.EdgeUse.{EdgeUse}
use Rattle.cov_types.specs.declared.seg.Seg.{Seg}
use Rattle.box_tree.specs.Places.{places}
use Rattle.box_tree.specs.Rect.{is_touching, box_of_segment, spanned}
use Rattle.box_tree.specs.declared.rect.Rect.{Rect}
use Rattle.box_tree.proofs.CommonPoint.{least_first, least_second, greatest_first, greatest_second}
use Rattle.box_tree.proofs.Reached.{ordered_x}
use Rattle.box_tree.proofs.Touching.{Touch, is_touching-is}
use Rattle.hot_pixel.specs.Columns.{columns_of, is_in_columns, places_in_columns}

least_is : (a b : ℤ) → a ≤ℤ b → int_min a b ≡ a
least_is a b h = omega (arith, ints, clamps)

greatest_is : (a b : ℤ) → a ≤ℤ b → int_max a b ≡ b
greatest_is a b h = omega (arith, ints, clamps)

widened : (s : Seg) → (s.lo.x -ℤ pos 1) ≤ℤ (s.hi.x +ℤ pos 1)
widened s = let order = ordered_x s in omega (arith, lin)

touch_is : (s e : Seg) → IsSegInRange e → is_touching (columns_of s) (box_of_segment e) ≡ is_in_columns s e
touch_is s e in_range = both_ways (is_touching (columns_of s) (box_of_segment e)) (is_in_columns s e) there back
  where
    there : is_touching (columns_of s) (box_of_segment e) ≡ true → is_in_columns s e ≡ true
    there h =
        let t = (is_touching-is (columns_of s) (box_of_segment e)).0 h in
        let left = t.left in
        let right = t.right in
        let from = least_is (s.lo.x -ℤ pos 1) (s.hi.x +ℤ pos 1) (widened s) in
        let to = greatest_is (s.lo.x -ℤ pos 1) (s.hi.x +ℤ pos 1) (widened s) in
        let first = least_is e.lo.x e.hi.x (ordered_x e) in
        let last = greatest_is e.lo.x e.hi.x (ordered_x e) in
        and_from (int_le (e.lo.x -ℤ pos 1) s.hi.x) (int_le (s.lo.x -ℤ pos 1) e.hi.x) ((int_le_is (e.lo.x -ℤ pos 1) s.hi.x).1 (omega (arith, lin))) ((int_le_is (s.lo.x -ℤ pos 1) e.hi.x).1 (omega (arith, lin)))

    back : is_in_columns s e ≡ true → is_touching (columns_of s) (box_of_segment e) ≡ true
    back h =
        let parts = and_parts (int_le (e.lo.x -ℤ pos 1) s.hi.x) (int_le (s.lo.x -ℤ pos 1) e.hi.x) h in
        let left = (int_le_is (e.lo.x -ℤ pos 1) s.hi.x).0 parts.0 in
        let right = (int_le_is (s.lo.x -ℤ pos 1) e.hi.x).0 parts.1 in
        let from = least_is (s.lo.x -ℤ pos 1) (s.hi.x +ℤ pos 1) (widened s) in
        let to = greatest_is (s.lo.x -ℤ pos 1) (s.hi.x +ℤ pos 1) (widened s) in
        let first = least_is e.lo.x e.hi.x (ordered_x e) in
        let last = greatest_is e.lo.x e.hi.x (ordered_x e) in
        (is_touching-is (columns_of s) (box_of_segment e)).1 (record {
          left = omega (arith, lin);
          right = omega (arith, lin);
          below = le_trans in_range.hi.bottom (greatest_second e.lo.y e.hi.y);
          above = le_trans (least_second e.lo.y e.hi.y) in_range.hi.top;
        })

pub columns_found : (s : Seg) (list : List EdgeUse) (n : ℕ) → All (λ u. IsSegInRange u.seg) list → places (is_touching (columns_of s)) n (map (λ u. box_of_segment u.seg) list) ≡ places_in_columns s n list
columns_found s [] n in_range = refl
columns_found s (u ∷ list) n in_range =
    λ i. cond (touch_is s u.seg (in_range 0 u (omega arith)) i) (n ∷ columns_found s list (n + 1) (λ k d within. in_range (suc k) d (omega arith)) i) (columns_found s list (n + 1) (λ k d within. in_range (suc k) d (omega arith)) i)
