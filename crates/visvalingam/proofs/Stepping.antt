-- A state whose queue and waiting spots alone change.
use mathlib.Core.List.{◌∷◌}
use Rattle.std.proofs.Common.{◌≡◌, sym, ap, subst, List, All, Option, Some, None, Vec, Global, ◌↔◌, true, IsPermutation}
use Rattle.std.specs.Prelude.{Contains, reverse}
use Rattle.std.proofs.lemmas.List.Sorted.{Contains-permutation}
use Rattle.cov_types.specs.declared.coord.Coord.{Coord}
use Rattle.greedy_run.specs.Run.{Simplification, IsNextPoint, current_points, current_edges}
use Rattle.visvalingam.specs.Chains.{AreAllLinked}
use Rattle.visvalingam.specs.Queue.{IsNoLater}
use Rattle.visvalingam.specs.Ready.{IsReady}
use Rattle.visvalingam.specs.Segments.{is_among}
use Rattle.visvalingam.specs.State.{IsTaskOf, AreTables, IsGoing, IsSettledSo, gone}
use Rattle.visvalingam.specs.Waiting.{waiting_at}
use Rattle.visvalingam.specs.declared.chains.Links.{Links}
use Rattle.visvalingam.specs.declared.corner.Corner.{Corner}
use Rattle.visvalingam.specs.declared.segments.Segments.{Segments}
use Rattle.visvalingam.specs.declared.spot.QueuedSpot.{QueuedSpot}
use Rattle.visvalingam.specs.declared.state.State.{State}
use Rattle.visvalingam.specs.declared.task.Task.{Task}
use Rattle.visvalingam.proofs.Ready.{next_is, more_ready}

-- the tables of two states are the same
pub record IsAlike (old new : State) : Type 0 where
  pub links : old.links ≡ new.links
  pub cells : old.cells ≡ new.cells
  pub segments : old.segments ≡ new.segments
  pub removed : old.removed ≡ new.removed

pub gone_alike : (old new : State) → IsAlike old new → gone old ≡ gone new
gone_alike old new h = ap (λ (v : Vec Coord Global). reverse v.items) h.removed

pub tables_alike : (s : Simplification) (task : Task) (old new : State) → IsAlike old new → AreTables s task old → AreTables s task new
tables_alike s task old new h t =
    let are = gone_alike old new h in
    record {
      linked = subst (λ (r : List Coord). AreAllLinked r task.lines.now new.links.items) are (subst (λ (ls : Vec (Vec (Option Links) Global) Global). AreAllLinked (gone old) task.lines.now ls.items) h.links t.linked);
      points = λ p. subst (λ (r : List Coord). Contains new.cells p ↔ Contains (current_points s.lines r) p) are (subst (λ (cs : List Coord). Contains cs p ↔ Contains (current_points s.lines (gone old)) p) h.cells (t.points p));
      edges = λ e. subst (λ (r : List Coord). (is_among new.segments.ends e ≡ true) ↔ Contains (current_edges s.lines r) e) are (subst (λ (ss : Segments). (is_among ss.ends e ≡ true) ↔ Contains (current_edges s.lines (gone old)) e) h.segments (t.edges e));
    }

module _ (s : Simplification) (task : Task) (asked : IsTaskOf s task) (initial middle : State) (alike : IsAlike initial middle) (queue : List QueuedSpot) (waiting after : Coord → List QueuedSpot) (spot : QueuedSpot)
    (tables : AreTables s task initial) (ready : IsReady s (gone initial) queue waiting) (popped : IsPermutation queue (spot ∷ middle.queue))
    (same : waiting ≡ waiting_at middle.waiting.spots) where
  moved : IsReady s (gone middle) (spot ∷ middle.queue) (waiting_at middle.waiting.spots)
  moved =
      subst (λ (w : Coord → List QueuedSpot). IsReady s (gone middle) (spot ∷ middle.queue) w) same
      (subst (λ (r : List Coord). IsReady s r (spot ∷ middle.queue) waiting) (gone_alike initial middle alike)
      (more_ready s (gone initial) queue (spot ∷ middle.queue) waiting (λ q has. Contains-permutation queue (spot ∷ middle.queue) q popped has) ready))

  -- a spot that does not go
  pub still_ready : (answer : Option Corner) → answer ≡ None → (AreTables s task middle → IsReady s (gone middle) (spot ∷ middle.queue) (waiting_at middle.waiting.spots) → IsSettledSo s middle after spot answer)
      → IsReady s (gone initial) middle.queue after
  still_ready answer none settled =
      subst (λ (r : List Coord). IsReady s r middle.queue after) (sym (gone_alike initial middle alike))
      (subst (IsSettledSo s middle after spot) none (settled (tables_alike s task initial middle alike tables) moved))

  -- a spot that goes
  pub found_going : (answer : Option Corner) (corner : Corner) → answer ≡ Some corner → (AreTables s task middle → IsReady s (gone middle) (spot ∷ middle.queue) (waiting_at middle.waiting.spots) → IsSettledSo s middle after spot answer)
      → All (IsNoLater spot) middle.queue → IsGoing s (gone initial) spot corner × IsNextPoint s (gone initial) corner.b × IsReady s (gone initial) (spot ∷ middle.queue) after
  found_going answer corner some settled least =
      let is = subst (IsSettledSo s middle after spot) some (settled (tables_alike s task initial middle alike tables) moved) in
      let back = sym (gone_alike initial middle alike) in
      let next = subst (λ (c : Coord). IsNextPoint s (gone middle) c) is.0.b (next_is s (gone middle) spot middle.queue (waiting_at middle.waiting.spots) moved least is.0.removable) in (
        subst (λ (r : List Coord). IsGoing s r spot corner) back is.0,
        subst (λ (r : List Coord). IsNextPoint s r corner.b) back next,
        subst (λ (r : List Coord). IsReady s r (spot ∷ middle.queue) after) back (subst (λ (w : Coord → List QueuedSpot). IsReady s (gone middle) (spot ∷ middle.queue) w) (sym is.1) moved),
      )
