use Rattle.rounding_laws.proofs.Near.{pixel_of_point, pixel_unique}
use Rattle.rounding_laws.proofs.pixel_law.Goals as goal

pub returns : goal.returns
returns x = λ p. let pixel = pixel_of_point p in (pixel.0, (pixel.1, λ q h. pixel_unique p q pixel.0 h pixel.1))
