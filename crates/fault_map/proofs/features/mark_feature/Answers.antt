use Rattle.std.proofs.Common.{refl}
use Rattle.std.proofs.lemmas.Option.{slice_get-get_or}
use Rattle.fault_map.proofs.features.mark_feature.Goals as goal

pub returns : goal.returns
returns c = (refl, refl, refl, (_, (slice_get-get_or c.args.uses.now c.args.mark.place c.index-uses-mark.result c.requires.place, refl)))
