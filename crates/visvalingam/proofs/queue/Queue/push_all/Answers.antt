use Rattle.std.proofs.Common.{◌≡◌, ◌∙◌, ap, subst, get_or, inl, inr, ◌∷◌, arith}
use Rattle.std.specs.Prelude.{Contains}
use Rattle.std.proofs.lemmas.Bool.{cases_lt}
use Rattle.std.proofs.lemmas.List.{get_or_default}
use Rattle.std.proofs.lemmas.List.Sorted.{Contains-permutation}
use Rattle.visvalingam.specs.declared.spot.QueuedSpot.{QueuedSpot}
use Rattle.visvalingam.proofs.Ready.{there, here_first}
use Rattle.visvalingam.proofs.queue.Queue.push_all.Goals as goal

pub loop-spot-preserved : goal.loop-spot-preserved
loop-spot-preserved c =
    let nil : QueuedSpot = record { size = 0; line = 0; place = 0 } in
    let spots = c.args.spots.now in
    let index = c.loop-spot.spot-index in
    let item = get_or spots index nil in
    record {
      kept = λ q has. Contains-permutation (item ∷ c.loop-spot.self) c.push.new.self q c.in_ok-push.ensures (there item c.loop-spot.self q (c.loop-spot.invariant.kept q has));
      entered = λ k d less. elim (cases_lt k index) [
        | inl before ↦ Contains-permutation (item ∷ c.loop-spot.self) c.push.new.self (get_or spots k d) c.in_ok-push.ensures (there item c.loop-spot.self (get_or spots k d) (c.loop-spot.invariant.entered k d before))
        | inr late ↦ (
            let same : index ≡ k = omega (arith, less, late) in
            Contains-permutation (item ∷ c.loop-spot.self) c.push.new.self (get_or spots k d) c.in_ok-push.ensures
            (here_first item c.loop-spot.self (get_or spots k d) (get_or_default spots index nil d c.loop-spot-test.true ∙ ap (λ n. get_or spots n d) same)))
      ];
    }

pub returns-clause-entered : goal.returns-clause-entered
returns-clause-entered c q has =
    let past = c.loop-spot-test.false in
    let within = has.1 in
    subst (Contains c.loop-spot.self) has.2 (c.loop-spot.invariant.entered has.0 q (omega arith))
