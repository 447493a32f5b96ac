use Rattle.std.proofs.Common.{sym, subst, rules, arith}
use Rattle.std.specs.List.Sorted.{IsSortedBy}
use Rattle.std.specs.Ordering.{is_lt}
use Rattle.cov_types.specs.Coord.{points_cmp}
use Rattle.std.proofs.lemmas.List.Sorted.{answers_always}
use Rattle.cov_build.proofs.Orders.{points_weak, front_same, front_is, drop-front}
use Rattle.cov_build.proofs.polygon.in_order.Goals as goal

pub returns-clause-same : goal.returns-clause-same
returns-clause-same c =
    front_same c.args.rings.list.items c.remove-first.new.self.items c.sort_by.new.self.items c.insert.new.self.items c.remove-first.result c.args.rings.shell
    (omega (arith, c.requires, c.args.rings.list.ok.0)) c.remove-first.ensures.value c.remove-first.ensures.items c.in_ok-sort_by.ensures.permutation c.in_ok-insert.ensures.items

pub returns-clause-holes : goal.returns-clause-holes
returns-clause-holes c =
    subst (λ hs. IsSortedBy (λ g h. is_lt (points_cmp g h)) hs) (sym (drop-front c.sort_by.new.self.items c.insert.new.self.items c.remove-first.result c.in_ok-insert.ensures.items))
    (c.in_ok-sort_by.ensures.sorted (λ g h. is_lt (points_cmp g h)) points_weak (answers_always _ _ _ (λ f a r g h. search rules)))

pub returns-clause-front : goal.returns-clause-front
returns-clause-front c =
    front_is c.args.rings.list.items c.remove-first.new.self.items c.sort_by.new.self.items c.insert.new.self.items c.remove-first.result c.args.rings.shell
    (omega (arith, c.requires, c.args.rings.list.ok.0)) c.remove-first.ensures.value c.remove-first.ensures.items c.in_ok-sort_by.ensures.permutation c.in_ok-insert.ensures.items
