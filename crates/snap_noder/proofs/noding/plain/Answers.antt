use Rattle.std.proofs.Common.{List, subst}
use Rattle.std.specs.Prelude.{IfOk}
use Rattle.std.proofs.lemmas.Result.{IfOk-weaker}
use Rattle.cov_types.specs.declared.edge_use.EdgeUse.{EdgeUse}
use Rattle.arrangement.specs.Noding.{AreEdges}
use Rattle.snap_noder.proofs.LiveUses.{ascending_distinct, even_odd}
use Rattle.snap_noder.proofs.ParityLemmas.{edges_within, edges_noded}
use Rattle.snap_noder.proofs.noding.plain.Goals as goal

-- the edges are those of the list
are_edges : (c : goal.After-edges_of) → IfOk c.edges_of.result (λ n. AreEdges c.args.list.now n.edges.items n.odd.items)
are_edges c = subst (λ (us : List EdgeUse). IfOk c.edges_of.result (λ n. AreEdges us n.edges.items n.odd.items)) c.in_ok-from_slice.ensures.items c.edges_of.ensures

pub returns-clause-exact : goal.returns-clause-exact
returns-clause-exact c = are_edges c

pub returns-clause-fully_noded : goal.returns-clause-fully_noded
returns-clause-fully_noded c = IfOk-weaker c.edges_of.result _ _ (λ n are. edges_noded c.args.list.now n.edges.items are.exact c.requires.noded) (are_edges c)

pub returns-clause-in_range : goal.returns-clause-in_range
returns-clause-in_range c = IfOk-weaker c.edges_of.result _ _ (λ n are. edges_within c.args.list.now n.edges.items are.exact c.requires.in_range) (are_edges c)

pub returns-clause-even : goal.returns-clause-even
returns-clause-even c = IfOk-weaker c.edges_of.result _ _ (λ n are. even_odd c.args.list.now n.edges.items n.odd.items are) (are_edges c)

pub returns-clause-distinct : goal.returns-clause-distinct
returns-clause-distinct c = IfOk-weaker c.edges_of.result _ _ (λ n are. ascending_distinct n.edges.items are.ascending) (are_edges c)
