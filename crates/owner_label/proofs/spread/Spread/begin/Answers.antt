use Rattle.std.proofs.Common.{arith}
use Rattle.std.proofs.lemmas.Option.{MatchOption-at_some}
use Rattle.owner_label.proofs.Spreading.{begun_all}
use Rattle.owner_label.proofs.spread.Spread.begin.Goals as goal

pub returns-clause-spread : goal.returns-clause-spread
returns-clause-spread c =
    let outer = MatchOption-at_some _ _ c.in-Some.region c.in-Some.is c.requires.outer in
    (begun_all c.args.map.now c.len.ensures.sided c.in_ok-spread.spread c.reach.new.self c.in-Some.region _ (c.in_ok-spread.ensures.spread c.args.map.now (omega (arith, c.len.ensures.count, c.len.ensures.sided.numbered.count)))
    c.in_ok-spread.ensures.empty (c.in_ok-spread.ensures.none c.in-Some.region) outer.0 outer.1 c.in_ok-reach.ensures).0

pub returns-clause-begun : goal.returns-clause-begun
returns-clause-begun c =
    let outer = MatchOption-at_some _ _ c.in-Some.region c.in-Some.is c.requires.outer in
    (begun_all c.args.map.now c.len.ensures.sided c.in_ok-spread.spread c.reach.new.self c.in-Some.region _ (c.in_ok-spread.ensures.spread c.args.map.now (omega (arith, c.len.ensures.count, c.len.ensures.sided.numbered.count)))
    c.in_ok-spread.ensures.empty (c.in_ok-spread.ensures.none c.in-Some.region) outer.0 outer.1 c.in_ok-reach.ensures).1
