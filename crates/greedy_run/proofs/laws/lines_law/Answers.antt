use Rattle.greedy_run.proofs.OneLine.{common_edge, covering, one_place}
use Rattle.greedy_run.proofs.OneRun.{one_list}
use Rattle.greedy_run.proofs.laws.lines_law.Goals as goal

pub returns-clause-one : goal.returns-clause-one
returns-clause-one c = one_list

pub returns-clause-edge : goal.returns-clause-edge
returns-clause-edge c = common_edge

pub returns-clause-covering : goal.returns-clause-covering
returns-clause-covering c = covering

pub returns-clause-place : goal.returns-clause-place
returns-clause-place c = one_place
