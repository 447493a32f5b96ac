use Rattle.crossing_laws.proofs.Located.{one_numbering}
use Rattle.region_laws.proofs.Exists.{regions_exist}
use Rattle.region_laws.proofs.Numbered.{walk_regions, fewer_links_regions, outer_number}
use Rattle.region_laws.proofs.number.number_law.Goals as goal

pub returns-clause-some : goal.returns-clause-some
returns-clause-some c = regions_exist

pub returns-clause-one : goal.returns-clause-one
returns-clause-one c = one_numbering

pub returns-clause-walk : goal.returns-clause-walk
returns-clause-walk c = walk_regions

pub returns-clause-fewer_links : goal.returns-clause-fewer_links
returns-clause-fewer_links c = fewer_links_regions

pub returns-clause-outer : goal.returns-clause-outer
returns-clause-outer c = outer_number
