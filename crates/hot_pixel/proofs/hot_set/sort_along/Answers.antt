use Rattle.std.proofs.Common.{◌≡◌, ap, ◌∙◌, ◌&&◌, int_eq, List, Vec, Global, arith, rules}
use Rattle.std.specs.List.{dedup}
use Rattle.std.proofs.lemmas.Int.{ints}
use Rattle.std.proofs.lemmas.List.Filters.{dedup_is}
use Rattle.std.proofs.lemmas.List.Sorted.{answers_always}
use Rattle.cov_types.specs.declared.coord.Coord.{Coord}
use Rattle.hot_pixel.proofs.Along.{down_in_order, down_same, up_in_order, up_same}
use Rattle.hot_pixel.proofs.hot_set.sort_along.Goals as goal
use Rattle.hot_pixel.proofs.hot_set.sort_along.Goals.{then-s, else-s}

kept : (c : goal.After-dedup) (moved : Vec Coord Global) → c.if-s.centres ≡ moved → c.dedup.new.self.items ≡ dedup (λ (a b : Coord). int_eq a.x b.x && int_eq a.y b.y) moved.items
kept c moved same = dedup_is _ _ _ c.dedup.ensures.filtered ∙ ap (λ (v : Vec Coord Global). dedup (λ (a b : Coord). int_eq a.x b.x && int_eq a.y b.y) v.items) same

pub returns-clause-same : goal.returns-clause-same
returns-clause-same c =
    elim c.if-s.branch [
      | then-s w ↦ down_same c.args.s _ _ _ w.sort_unstable_by_key.ensures.permutation (kept c _ w.centres-is) (omega (arith, ints, w.if-s.true))
          (w.sort_unstable_by_key.ensures.sorted (λ (r : Coord). (r.x, record { 0 = r.y })) (answers_always _ _ _ (λ f a r g h. search rules)))
      | else-s w ↦ up_same c.args.s _ _ _ w.sort_unstable.ensures.permutation (kept c _ w.centres-is) (omega (arith, ints, w.if-s.false)) w.sort_unstable.ensures.sorted
    ]

pub returns-clause-order : goal.returns-clause-order
returns-clause-order c =
    elim c.if-s.branch [
      | then-s w ↦ down_in_order c.args.s _ _ _ w.sort_unstable_by_key.ensures.permutation (kept c _ w.centres-is) (omega (arith, ints, w.if-s.true))
          (w.sort_unstable_by_key.ensures.sorted (λ (r : Coord). (r.x, record { 0 = r.y })) (answers_always _ _ _ (λ f a r g h. search rules)))
      | else-s w ↦ up_in_order c.args.s _ _ _ w.sort_unstable.ensures.permutation (kept c _ w.centres-is) (omega (arith, ints, w.if-s.false)) w.sort_unstable.ensures.sorted
    ]
