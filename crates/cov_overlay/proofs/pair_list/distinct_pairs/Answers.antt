use Rattle.std.proofs.Common.{◌&&◌, eqb, sym, subst, List}
use Rattle.std.specs.Prelude.{Contains}
use Rattle.std.proofs.lemmas.List.Filters.{dedup_is}
use Rattle.hot_pixel.proofs.Ascending.{set_ascending, set_contains}
use Rattle.overlaid_laws.specs.declared.pair.Pair.{Pair}
use Rattle.overlaid_laws.specs.Pairs.{is_pair_before}
use Rattle.cov_overlay.proofs.PairOrder.{pair_cmp, pair_cmp_total, is_lt-pair_cmp, Decides-same_pairs, same_from_neither}
use Rattle.cov_overlay.proofs.SomePairs.{contains_some}
use Rattle.cov_overlay.proofs.pair_list.distinct_pairs.Goals as goal

pub returns-clause-ascending : goal.returns-clause-ascending
returns-clause-ascending c =
    set_ascending (λ (p q : Pair). eqb p.a q.a && eqb p.b q.b) Decides-same_pairs pair_cmp pair_cmp_total is_pair_before is_lt-pair_cmp same_from_neither c.in_ok-pairs.pairs.items c.sort_unstable.new.self.items c.dedup.new.self.items
    c.sort_unstable.ensures.permutation c.sort_unstable.ensures.sorted (dedup_is _ _ _ c.dedup.ensures.filtered)

pub returns-clause-exact : goal.returns-clause-exact
returns-clause-exact c = λ pair.
    let kept = set_contains (λ (p q : Pair). eqb p.a q.a && eqb p.b q.b) Decides-same_pairs pair_cmp pair_cmp_total is_pair_before is_lt-pair_cmp same_from_neither c.in_ok-pairs.pairs.items c.sort_unstable.new.self.items c.dedup.new.self.items
    c.sort_unstable.ensures.permutation c.sort_unstable.ensures.sorted (dedup_is _ _ _ c.dedup.ensures.filtered) pair in
    let some = contains_some c.args.by_side.now pair in (
      λ has. some.0 (subst (λ (ps : List Pair). Contains ps pair) c.in_ok-pairs.ensures (kept.0 has)),
      λ has. kept.1 (subst (λ (ps : List Pair). Contains ps pair) (sym c.in_ok-pairs.ensures) (some.1 has)),
    )
