use Rattle.std.proofs.Common.{◌≡◌, refl, sym, ◌∙◌, ap, subst, List, ◌∷◌, length, arith}
use Rattle.std.proofs.lemmas.List.Sorted.{length_permutation}
use Rattle.visvalingam.specs.Ready.{IsReady}
use Rattle.visvalingam.specs.State.{gone}
use Rattle.visvalingam.specs.Waiting.{waiting_at}
use Rattle.visvalingam.specs.declared.spot.QueuedSpot.{QueuedSpot}
use Rattle.visvalingam.specs.declared.state.State.{State}
use Rattle.visvalingam.proofs.Ready.{none_left}
use Rattle.visvalingam.proofs.Stepping.{IsAlike, still_ready, found_going}
use Rattle.visvalingam.proofs.state.State.next_corner.Goals as goal

-- the state once the spot has left the queue
abbrev popped : (now : State) → List QueuedSpot → State
popped now queue = record { links = now.links; cells = now.cells; segments = now.segments; queue = queue; waiting = now.waiting; removed = now.removed }

alike_popped : (initial now : State) (queue : List QueuedSpot) → now ≡ record { links = initial.links; cells = initial.cells; segments = initial.segments; queue = now.queue; waiting = now.waiting; removed = initial.removed } → IsAlike initial (popped now queue)
alike_popped initial now queue same = record {
  links = sym (ap (λ (st : State). st.links) same);
  cells = sym (ap (λ (st : State). st.cells) same);
  segments = sym (ap (λ (st : State). st.segments) same);
  removed = sym (ap (λ (st : State). st.removed) same);
}

pub returns-in-Some-2-clause-found : goal.returns-in-Some-2-clause-found
returns-in-Some-2-clause-found c s asked tables ready =
    let initial = c.args.self.now in
    let now = c.spots.self in
    let new = c.removable.new.self in
    let found =
    found_going s c.args.task.now asked initial (popped now c.pop.new.self) (alike_popped initial now c.pop.new.self c.spots.invariant.same) now.queue (waiting_at now.waiting.spots) (waiting_at new.waiting.spots) c.in-Some.spot
    tables (c.spots.invariant.ready s asked tables ready) c.in-Some.ensures.one refl c.in_ok-corner.field-0 c.in-Some-2.corner c.in-Some-2.is (λ t r. c.in_ok-corner.ensures.settled s asked t r) c.in-Some.ensures.least in
    (found.0, found.1, subst (λ (qs : List QueuedSpot). IsReady s (gone initial) (c.in-Some.spot ∷ qs) (waiting_at new.waiting.spots)) (sym (ap (λ (st : State). st.queue) c.in_ok-corner.ensures.same)) found.2)

pub spots-smaller : goal.spots-smaller
spots-smaller c =
    let same = ap (λ (st : State). length st.queue) c.in_ok-corner.ensures.same in
    let count = length_permutation c.spots.self.queue (c.in-Some.spot ∷ c.pop.new.self) c.in-Some.ensures.one in
    omega (arith, same, count)

pub spots-preserved : goal.spots-preserved
spots-preserved c =
    let initial = c.args.self.now in
    let now = c.spots.self in
    let new = c.removable.new.self in
    let queue = sym (ap (λ (st : State). st.queue) c.in_ok-corner.ensures.same) in
    let was = c.spots.invariant.same in
    record {
      same = c.in_ok-corner.ensures.same ∙ (λ i. record { links = (was i).links; cells = (was i).cells; segments = (was i).segments; queue = queue i; waiting = new.waiting; removed = (was i).removed });
      ready = λ s asked tables ready. subst (λ (qs : List QueuedSpot). IsReady s (gone initial) qs (waiting_at new.waiting.spots)) queue
          (still_ready s c.args.task.now asked initial (popped now c.pop.new.self) (alike_popped initial now c.pop.new.self was) now.queue (waiting_at now.waiting.spots) (waiting_at new.waiting.spots) c.in-Some.spot
          tables (c.spots.invariant.ready s asked tables ready) c.in-Some.ensures.one refl c.in_ok-corner.field-0 c.in_default-2.is (λ t r. c.in_ok-corner.ensures.settled s asked t r));
    }

pub returns-clause-found : goal.returns-clause-found
returns-clause-found c s asked tables ready =
    none_left s (gone c.args.self.now) (waiting_at c.spots.self.waiting.spots)
    (subst (λ (qs : List QueuedSpot). IsReady s (gone c.args.self.now) qs (waiting_at c.spots.self.waiting.spots)) c.in_default.ensures.none (c.spots.invariant.ready s asked tables ready))
