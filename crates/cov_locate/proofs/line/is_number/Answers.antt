use Rattle.std.proofs.Common.{◌&&◌, ◌∙◌, ap, length, rules, tests, sym, arith}
use Rattle.std.specs.List.{list_all}
use Rattle.std.proofs.lemmas.Bool.{lt-ltb, eqb-false}
use Rattle.std.proofs.lemmas.Iterator.{YieldsList-from_slice}
use Rattle.std.proofs.lemmas.Iterator.Search.{all_from_yields_List}
use Rattle.cov_locate.proofs.line.is_number.Goals as goal
use Rattle.geo_text.specs.Token.{is_digit}

pub returns-then-not-is_empty : goal.returns-then-not-is_empty
returns-then-not-is_empty c =
    let digits = c.args.digits.now in
    all_from_yields_List is_digit _ _ c.all.result c.all.ensures.ran (YieldsList-from_slice digits c.iter.ensures.rest) (λ x b q k. search (rules, tests))
    ∙ ap (λ t. t && list_all is_digit digits) (sym (lt-ltb 0 (length digits) (let some = eqb-false (length digits) 0 (sym c.is_empty.ensures ∙ c.if-not-is_empty.true) in omega arith)))
