use Rattle.std.proofs.Common.{◌≡◌, ◌∙◌, ◌-◌, ℕ, List, length, take, drop, sym, ap, subst}
use Rattle.cov_locate.proofs.Positions.{rest_is}
use Rattle.cov_locate.proofs.Words.{behind_white, word_in, behind_word, first_word}
use Rattle.cov_locate.proofs.line.split_word.Goals as goal
use Rattle.cov_locate.specs.Reading.{IsFirstWord}

pub returns : goal.returns
returns c =
    let line = c.args.line.now in
    let start : ℕ = c.start_of_word.result in
    let end : ℕ = c.end_of_word.result in
    let rest : List ℕ = take (length line - start) (drop start line) in
    let rest_same : rest ≡ behind_white line = rest_is line start ∙ ap (λ (n : ℕ). drop n line) c.start_of_word.ensures.exact in
    let word : c.split_at.result.0.now ≡ word_in (behind_white line) = c.split_at.ensures.front ∙ ap (λ (n : ℕ). take n rest) c.end_of_word.ensures.exact ∙ ap word_in rest_same in
    let after : c.split_at.result.1.now ≡ behind_word (behind_white line) = c.split_at.ensures.back ∙ ap (λ (n : ℕ). drop n rest) c.end_of_word.ensures.exact ∙ ap behind_word rest_same in
    subst (λ (w : List ℕ). IsFirstWord line w c.split_at.result.1.now) (sym word)
    (subst (λ (r : List ℕ). IsFirstWord line (word_in (behind_white line)) r) (sym after) (first_word line))
