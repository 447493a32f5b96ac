use Rattle.std.proofs.Common.{◌≡◌, ◌∙◌, ap, sym, false, List, rules}
use Rattle.std.specs.HashSet.{contains}
use Rattle.std.proofs.lemmas.Fn.{filter_same}
use Rattle.cov_types.specs.declared.coord.Coord.{Coord}
use Rattle.cov_types.specs.Coord.{is_same_coord}
use Rattle.greedy_run.specs.Run.{is_one_point, ring_without}
use Rattle.cov_simplify.proofs.Withouts.{ring_loses}
use Rattle.cov_simplify.proofs.without.ring_without.Goals as goal

pub returns : goal.returns
returns c = λ removed gone.
    let points : List Coord = c.ring.inside.points.items in
    let two : is_one_point points ≡ false = sym (ap is_one_point c.deref.ensures.value) ∙ sym c.is_one_point.ensures ∙ c.if-is_one_point.false in
    ring_loses (λ p. contains is_same_coord c.args.gone.now p) removed points c.retain.new.self.items gone two (filter_same _ _ _ (λ x b f' k. search rules) _ _ c.retain.ensures.filtered)
    ∙ ap (ring_without removed) c.ring.view_is
