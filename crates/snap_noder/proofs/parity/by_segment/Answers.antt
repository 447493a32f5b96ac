use Rattle.std.proofs.Common.{rules}
use Rattle.std.proofs.lemmas.List.Sorted.{answers_always}
use Rattle.cov_types.specs.declared.edge_use.EdgeUse.{EdgeUse}
use Rattle.snap_noder.proofs.BySegment.{sorted_by_segment}
use Rattle.snap_noder.proofs.parity.by_segment.Goals as goal

pub returns-clause-sorted : goal.returns-clause-sorted
returns-clause-sorted c =
    sorted_by_segment c.sort_unstable_by_key.new.self.items
    (c.sort_unstable_by_key.ensures.sorted (λ (u : EdgeUse). (u.seg, u.member)) (answers_always _ _ _ (λ f a r g h. search rules)))
