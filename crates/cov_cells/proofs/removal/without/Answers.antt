use Rattle.std.proofs.Common.{◌∷◌, [], ◌<◌, ◌∙◌, sym, subst, ℕ}
use Rattle.std.proofs.lemmas.Option.{slice_get_within}
use Rattle.greedy_run.specs.Run.{current}
use Rattle.cov_cells.specs.Slots.{living, StandsIn}
use Rattle.cov_cells.proofs.Living.{no_slot}
use Rattle.cov_cells.proofs.removal.without.Goals as goal

pub returns-clause-left : goal.returns-clause-left
returns-clause-left g c =
    let slots = c.search.new.search.slots.items in
    let among = c.search.ensures.among in
    let p = g.B.Begin.point in
    let lacks : (k : ℕ) → ¬ StandsIn slots k p = (λ k at. c.search.ensures.settled k (subst (λ (n : ℕ). k < n) (sym among.2.cells.count) (slice_get_within slots k _ at)) at) in
    sym (no_slot slots p lacks) ∙ among.2.same ∙ (λ i. current (sym c.requires.begin.1 i ∷ []) (living (sym c.requires.begin.0 i)))
