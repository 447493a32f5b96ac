use Rattle.std.proofs.Common.{rules, tests}
use Rattle.std.proofs.lemmas.Iterator.{YieldsList-from_slice}
use Rattle.std.proofs.lemmas.Iterator.Search.{position_from_yields_List}
use Rattle.cov_locate.proofs.Positions.{place_exact, place_within}
use Rattle.cov_locate.proofs.line.end_of_word.Goals as goal
use Rattle.geo_text.specs.Token.{is_white}

pub returns-clause-exact : goal.returns-clause-exact
returns-clause-exact c =
    let bytes = c.args.bytes.now in
    place_exact (is_white) bytes c.position.result c.unwrap_or.result c.unwrap_or.ensures
    (position_from_yields_List (is_white) _ _ c.position.result c.position.ensures.ran (YieldsList-from_slice bytes c.iter.ensures.rest) (λ x b q k. search (rules, tests)))

pub returns-clause-within : goal.returns-clause-within
returns-clause-within c =
    let bytes = c.args.bytes.now in
    place_within (is_white) bytes c.position.result c.unwrap_or.result c.unwrap_or.ensures
    (position_from_yields_List (is_white) _ _ c.position.result c.position.ensures.ran (YieldsList-from_slice bytes c.iter.ensures.rest) (λ x b q k. search (rules, tests)))
