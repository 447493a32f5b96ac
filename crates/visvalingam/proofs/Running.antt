-- The run, one point after the other.
use mathlib.Core.List.{◌∷◌}
use Rattle.std.proofs.Common.{◌≡◌, sym, ap, subst, List, Some, None}
use Rattle.cov_types.specs.declared.coord.Coord.{Coord}
use Rattle.greedy_run.specs.Run.{Simplification, Spot, IsRemovable, IsRunState, IsFinalState}
use Rattle.visvalingam.specs.Ready.{IsReady}
use Rattle.visvalingam.specs.State.{IsStateOf, AreTables, IsGoing, IsFoundSo, IsAfter, gone}
use Rattle.visvalingam.specs.Waiting.{waiting_at}
use Rattle.visvalingam.specs.declared.corner.Corner.{Corner}
use Rattle.visvalingam.specs.declared.spot.QueuedSpot.{QueuedSpot}
use Rattle.visvalingam.specs.declared.state.State.{State}
use Rattle.visvalingam.specs.declared.task.Task.{Task}
use Rattle.visvalingam.proofs.Stepping.{IsAlike, gone_alike, tables_alike}

module _ (s : Simplification) (task : Task) (old middle : State)
    (same : middle ≡ record { links = old.links; cells = old.cells; segments = old.segments; queue = middle.queue; waiting = middle.waiting; removed = old.removed }) (was : IsStateOf s task old old.queue) where
  alike : IsAlike old middle
  alike = record {
    links = sym (ap (λ (st : State). st.links) same);
    cells = sym (ap (λ (st : State). st.cells) same);
    segments = sym (ap (λ (st : State). st.segments) same);
    removed = sym (ap (λ (st : State). st.removed) same);
  }

  -- the next point goes
  pub goes_on : (new : State) (q : QueuedSpot) (corner : Corner) → IsFoundSo s old middle (Some (q, corner))
      → (AreTables s task middle → IsGoing s (gone middle) q corner → IsReady s (gone middle) (q ∷ middle.queue) (waiting_at middle.waiting.spots) → IsAfter s task middle new corner.b) → IsStateOf s task new new.queue
  goes_on new q corner found step =
      let g = gone_alike old middle alike in
      let after = step (tables_alike s task old middle alike was.tables) (subst (λ (r : List Coord). IsGoing s r q corner) g found.0) (subst (λ (r : List Coord). IsReady s r (q ∷ middle.queue) (waiting_at middle.waiting.spots)) g found.2) in
      record {
        tables = after.tables;
        run = subst (IsRunState s) (sym after.gone_is) (subst (λ (r : List Coord). IsRunState s (corner.b ∷ r)) g (was.run, found.1));
        ready = after.ready;
      }

  -- no point is left that may go
  pub ends : IsFoundSo s old middle None → IsFinalState s (gone middle)
  ends found =
      let g = gone_alike old middle alike in
      record {
        run = subst (IsRunState s) g was.run;
        done = subst (λ (r : List Coord). (spot : Spot) → ¬ IsRemovable s r spot) g found;
      }
