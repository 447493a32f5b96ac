use Rattle.std.proofs.Common.{◌∙◌, length, sym, ap₂}
use Rattle.std.proofs.lemmas.Bool.{eqb-true, eqb-false}
use Rattle.cov_locate.proofs.Capped.{number_is, read_capped}
use Rattle.cov_locate.proofs.Words.{two_words}
use Rattle.cov_locate.proofs.line.read_line.Goals as goal
use Rattle.cov_locate.specs.Points.{two_numbers}

pub returns-in-Some-Some-clause-exact : goal.returns-in-Some-Some-clause-exact
returns-in-Some-Some-clause-exact c =
    let line = c.args.line.now in
    let x = c.split_word.result.0.now in
    let y = c.split_word-2.result.0.now in
    let more = c.split_word-3.result.0.now in
    let first = number_is x c.in-Some-Some.x (sym c.read_number.ensures ∙ c.in-Some-Some.is-0) in
    let second = number_is y c.in-Some-Some.y (sym c.read_number-2.ensures ∙ c.in-Some-Some.is-1) in
    c.point_at.ensures.exact first.negative second.negative first.size second.size (read_capped first.negative first.size c.in-Some-Some.x first.capped) (read_capped second.negative second.size c.in-Some-Some.y second.capped)
    ∙ ap₂ two_numbers (sym first.is) (sym second.is)
    ∙ sym (two_words line x c.split_word.result.1.now y c.split_word-2.result.1.now more c.split_word-3.result.1.now c.split_word.ensures c.split_word-2.ensures c.split_word-3.ensures
    (eqb-false (length x) 0 (sym c.is_empty.ensures ∙ c.if-is_empty.false))
    (eqb-false (length y) 0 (sym c.is_empty-2.ensures ∙ c.if-is_empty-2.false))
    (eqb-true (length more) 0 (sym c.is_empty-else-is_empty-2.ensures ∙ c.if-not-is_empty.false)))
