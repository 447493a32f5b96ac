use Rattle.std.proofs.Common.{rules}
use Rattle.std.proofs.lemmas.List.Sorted.{answers_always}
use Rattle.line_walk.specs.declared.edge_end.EdgeEnd.{EdgeEnd}
use Rattle.line_walk.proofs.EndsOf.{together}
use Rattle.line_walk.proofs.edge_end.ends_by_vertex.Goals as goal

pub returns-clause-together : goal.returns-clause-together
returns-clause-together c =
    together c.sort_unstable_by_key.new.self.items
    (c.sort_unstable_by_key.ensures.sorted (λ (d : EdgeEnd). d.vertex) (answers_always _ _ _ (λ f a r g h. search rules)))
