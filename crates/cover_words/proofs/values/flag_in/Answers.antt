use Rattle.clap.specs.Matches.{found_of}
use Rattle.cover_words.proofs.Readings.{flag_found}
use Rattle.cover_words.proofs.values.flag_in.Goals as goal

pub returns : goal.returns
returns c = flag_found (found_of c.args.matches.now) c.args.id.now _ c.get_one.result c.get_one.ensures.none c.get_one.ensures.value
