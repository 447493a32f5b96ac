use Rattle.box_tree.proofs.Wide.{product_is, product_small}
use Rattle.box_tree.proofs.probe.product.Goals as goal

pub returns-clause-exact : goal.returns-clause-exact
returns-clause-exact c = product_is c.args.a c.args.n c.requires.a_small c.requires.n_small

pub returns-clause-small : goal.returns-clause-small
returns-clause-small c = product_small c.args.a c.args.n c.requires.a_small c.requires.n_small
