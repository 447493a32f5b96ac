use Rattle.std.proofs.Common.{rules}
use Rattle.std.specs.Ordering.{is_lt}
use Rattle.cov_types.specs.Coord.{points_cmp}
use Rattle.sound_polygons.specs.Cleaned.{shell_of}
use Rattle.std.proofs.lemmas.List.Sorted.{answers_always}
use Rattle.cov_build.proofs.Orders.{shells_weak}
use Rattle.cov_build.proofs.build.by_shells.Goals as goal

pub returns-clause-sorted : goal.returns-clause-sorted
returns-clause-sorted c = c.in_ok-sort_by.ensures.sorted (λ a b. is_lt (points_cmp (shell_of a) (shell_of b))) shells_weak (answers_always _ _ _ (λ f a r g h. search rules))
