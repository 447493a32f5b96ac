use Rattle.grid_pred.proofs.Sizes.{turn_within, square_within, rise_within, depth_within, cross_within, length_within}
use Rattle.grid_pred.proofs.laws.size_law.Goals as goal

pub returns-clause-turn : goal.returns-clause-turn
returns-clause-turn c = turn_within

pub returns-clause-square : goal.returns-clause-square
returns-clause-square c = square_within

pub returns-clause-rise : goal.returns-clause-rise
returns-clause-rise c = rise_within

pub returns-clause-depth : goal.returns-clause-depth
returns-clause-depth c = depth_within

pub returns-clause-cross : goal.returns-clause-cross
returns-clause-cross c = cross_within

pub returns-clause-length : goal.returns-clause-length
returns-clause-length c = length_within
