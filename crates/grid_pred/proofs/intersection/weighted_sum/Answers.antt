use Rattle.grid_pred.proofs.Weighted.{weighted_fits, weighted_is}
use Rattle.grid_pred.proofs.intersection.weighted_sum.Goals as goal

pub overflow_add-result : goal.overflow_add-result
overflow_add-result c =
    weighted_fits c.args.m c.args.a c.args.n c.args.b _ _ c.requires.m_small c.requires.a_small c.requires.n_small c.requires.b_small
    c.wide_product.ensures.exact c.wide_product-2.ensures.exact

pub returns : goal.returns
returns c =
    weighted_is c.args.m c.args.a c.args.n c.args.b _ _ c.requires.m_small c.requires.a_small c.requires.n_small c.requires.b_small
    c.wide_product.ensures.exact c.wide_product-2.ensures.exact
