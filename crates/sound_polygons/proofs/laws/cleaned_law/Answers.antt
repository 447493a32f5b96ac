use Rattle.sound_polygons.proofs.OneCleaned.{one_cleaned}
use Rattle.sound_polygons.proofs.laws.cleaned_law.Goals as goal

pub returns : goal.returns
returns g c = one_cleaned
