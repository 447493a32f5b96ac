use Rattle.std.proofs.Common.{◌∙◌, sym}
use Rattle.std.specs.Str.{bytes_eq}
use Rattle.cover_words.proofs.Places.{position-map}
use Rattle.cover_words.proofs.rule_choice.place_of.Goals as goal

pub returns : goal.returns
returns c = c.place_among.ensures ∙ sym (position-map (λ name. bytes_eq name c.args.word.now) (λ n. n.now) c.args.names.now)
