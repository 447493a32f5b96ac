use Rattle.std.proofs.Common.{refl, lit<}
use Rattle.std.specs.Str.Parse.{ParsesUnsigned, ExplainsUnsignedError, HasUnsignedDigitsIfOk}
use Rattle.clap.specs.Matches.{found_of}
use Rattle.cover_words.proofs.Readings.{number_found}
use Rattle.cover_words.proofs.values.number_in.Goals as goal

pub returns : goal.returns
returns c = number_found (found_of c.args.matches.now) c.args.id.now 32 4294967295 refl (lit< tt) _ (λ bs x. ParsesUnsigned 32 10 bs x × ExplainsUnsignedError 10 bs x × HasUnsignedDigitsIfOk bs x)
    c.get_one.result c.get_one.ensures.none c.get_one.ensures.value (λ u x g. g.0)
