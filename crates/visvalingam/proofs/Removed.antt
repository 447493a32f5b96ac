-- A state after a point went.
use mathlib.Core.List.{[], ◌∷◌}
use Rattle.std.proofs.Common.{◌≡◌, ◌≢◌, inl, inr, refl, sym, ◌∙◌, ap, subst, ℕ, zero, suc, List, length, true, cond, Option, Some, Vec, Global, ◌↔◌, slice_get, slice_set, length-set, arith}
use Rattle.std.specs.Prelude.{Contains, option_and_then}
use Rattle.std.proofs.lemmas.Bool.{cases_order}
use Rattle.std.proofs.lemmas.Option.{none-some, same_Some}
use Rattle.cov_types.specs.Coord.{is_same_coord}
use Rattle.cov_types.specs.declared.coord.Coord.{Coord}
use Rattle.greedy_run.specs.Run.{Simplification, IsRemovable, current, current_points, current_edges}
use Rattle.visvalingam.specs.Chains.{AreAllLinked, AreChanged, AreLinked, IsCornerAt, unlinked}
use Rattle.visvalingam.specs.Queue.{at_spot}
use Rattle.visvalingam.specs.Ready.{IsOpen, IsReady}
use Rattle.visvalingam.specs.Segments.{is_among, AreLeft, AreAdded}
use Rattle.visvalingam.specs.State.{IsTaskOf, IsAfter, IsGoing, AreTables, gone}
use Rattle.visvalingam.specs.Waiting.{waiting_at}
use Rattle.visvalingam.specs.declared.chains.Links.{Links}
use Rattle.visvalingam.specs.declared.corner.Corner.{Corner}
use Rattle.visvalingam.specs.declared.segments.Segments.{Segments}
use Rattle.visvalingam.specs.declared.spot.QueuedSpot.{QueuedSpot}
use Rattle.visvalingam.specs.declared.state.State.{State}
use Rattle.visvalingam.specs.declared.task.Task.{Task}
use Rattle.visvalingam.proofs.Chained.{linked_without, linked_elsewhere}
use Rattle.visvalingam.proofs.Ready.{removal_ready, b_once, IsEntered}
use Rattle.visvalingam.proofs.Removing.{edges_after, points_after}
use Rattle.visvalingam.proofs.Spots.{line_is}

set_same : {X : Type 0} (xs : List X) (i : ℕ) (y z : X) → slice_get (slice_set xs i y) i ≡ Some z → y ≡ z
set_same [] i y z at = absurd (none-some z at)
set_same (x ∷ xs) zero y z at = same_Some y z at
set_same (x ∷ xs) (suc i) y z at = set_same xs i y z at

set_other : {X : Type 0} (xs : List X) (i j : ℕ) (y : X) → j ≢ i → slice_get (slice_set xs i y) j ≡ slice_get xs j
set_other [] i j y apart = refl
set_other (x ∷ xs) zero zero y apart = absurd (apart refl)
set_other (x ∷ xs) zero (suc j) y apart = refl
set_other (x ∷ xs) (suc i) zero y apart = refl
set_other (x ∷ xs) (suc i) (suc j) y apart = set_other xs i j y (λ e. apart (ap suc e))

module _ (s : Simplification) (task : Task) (asked : IsTaskOf s task) (removed : List Coord) (q : QueuedSpot) (h : IsRemovable s removed (at_spot q)) where
  abbrev corner : Corner
  corner = record { a = h.t.a; b = h.t.b; c = h.t.c; before = h.triangle.from; after = h.triangle.to }

  -- the links of all lines
  pub all_linked_after : (links : List (Vec (Option Links) Global)) (own new : Vec (Option Links) Global) → AreAllLinked removed task.lines.now links → slice_get links q.line ≡ Some own → length new.items ≡ length own.items
      → AreChanged (unlinked q.place h.triangle.from h.triangle.to) own.items new.items → AreAllLinked (h.t.b ∷ removed) task.lines.now (slice_set links q.line new)
  all_linked_after links own new linked at_line long changed = (length-set links q.line new ∙ linked.0, each)
    where
      once : (i : ℕ) (points : Vec Coord Global) → slice_get task.lines.now i ≡ Some points → (j : ℕ) → slice_get points.items j ≡ Some h.t.b → (i ≡ q.line) × ((points.items ≡ h.triangle.points) × (j ≡ q.place))
      once i points at j at_b = b_once s removed (at_spot q) h i points.items j (line_is s task asked removed i points at) at_b

      here : (points : Vec Coord Global) → slice_get task.lines.now q.line ≡ Some points → IsCornerAt removed points.items q.place corner
      here points at =
          let same : h.triangle.points ≡ points.items = same_Some h.triangle.points points.items (sym h.triangle.line ∙ line_is s task asked removed q.line points at) in
          subst (λ ps. IsCornerAt removed ps q.place corner) same (record {
            here = sym (ap (option_and_then (λ l. slice_get l q.place)) h.triangle.line) ∙ h.triangle.here;
            there = h.triangle.there;
            before = h.triangle.before;
            after = h.triangle.after;
          })

      each : (i : ℕ) (points : Vec Coord Global) (own_i : Vec (Option Links) Global) → slice_get task.lines.now i ≡ Some points → slice_get (slice_set links q.line new) i ≡ Some own_i → AreLinked (h.t.b ∷ removed) points.items own_i.items
      each i points own_i at at_i = elim (cases_order i q.line) [
        | inl same ↦ (
            let at_q = subst (λ n. slice_get task.lines.now n ≡ Some points) same at in
            let is : new ≡ own_i = set_same links q.line new own_i (subst (λ n. slice_get (slice_set links q.line new) n ≡ Some own_i) same at_i) in
            subst (λ (v : Vec (Option Links) Global). AreLinked (h.t.b ∷ removed) points.items v.items) is
            (linked_without removed points.items q.place corner (here points at_q) (λ j at_b. (once q.line points at_q j at_b).1.1) own.items new.items long changed
            (linked.1 q.line points own at_q at_line)))
        | inr other ↦ (
            let apart : i ≢ q.line = λ e. elim other [ inl less ↦ omega (arith, e, less) | inr more ↦ omega (arith, e, more) ] in
            linked_elsewhere removed points.items h.t.b own_i.items (λ j at_b. apart (once i points at j at_b).0) (linked.1 i points own_i at (sym (set_other links q.line i new apart) ∙ at_i)))
      ]

-- what the step does to the tables, to the queue and to the waiting spots
pub record IsStep (s : Simplification) (task : Task) (old new : State) (q : QueuedSpot) (corner : Corner) : Type 0 where
  pub own : Vec (Option Links) Global
  pub changed : Vec (Option Links) Global
  pub first : Segments
  pub second : Segments
  pub at_line : slice_get old.links.items q.line ≡ Some own
  pub links_are : new.links.items ≡ slice_set old.links.items q.line changed
  pub long : length changed.items ≡ length own.items
  pub unlinks : AreChanged (unlinked q.place corner.before corner.after) own.items changed.items
  pub without_ab : AreLeft old.segments.ends first.ends corner.a corner.b
  pub without_bc : AreLeft first.ends second.ends corner.b corner.c
  pub with_ac : AreAdded second.ends new.segments.ends corner.a corner.c
  pub cells_are : new.cells ≡ current (corner.b ∷ []) old.cells
  pub gone_is : gone new ≡ corner.b ∷ gone old
  pub kept : (r : QueuedSpot) → Contains old.queue r → Contains new.queue r
  pub before : (removed : List Coord) (r : QueuedSpot) → AreAllLinked removed task.lines.now new.links.items → r.line ≡ q.line → r.place ≡ corner.before → IsOpen s removed (at_spot r) → Contains new.queue r
  pub after : (removed : List Coord) (r : QueuedSpot) → AreAllLinked removed task.lines.now new.links.items → r.line ≡ q.line → r.place ≡ corner.after → IsOpen s removed (at_spot r) → Contains new.queue r
  pub woken : (r : QueuedSpot) → Contains (waiting_at old.waiting.spots corner.b) r → Contains new.queue r
  pub left : (p : Coord) → waiting_at new.waiting.spots p ≡ cond (is_same_coord corner.b p) [] (waiting_at old.waiting.spots p)

module _ (s : Simplification) (task : Task) (asked : IsTaskOf s task) (old new : State) (q : QueuedSpot) (tables : AreTables s task old)
    (ready : IsReady s (gone old) (q ∷ old.queue) (waiting_at old.waiting.spots)) where
  after_own : (h : IsRemovable s (gone old) (at_spot q)) → IsStep s task old new q (record { a = h.t.a; b = h.t.b; c = h.t.c; before = h.triangle.from; after = h.triangle.to }) → IsAfter s task old new h.t.b
  after_own h step = record {
    gone_is = step.gone_is;
    tables = record {
      linked = subst (λ (r : List Coord). AreAllLinked r task.lines.now new.links.items) (sym step.gone_is) linked;
      points = λ p. subst (λ (r : List Coord). Contains new.cells p ↔ Contains (current_points s.lines r) p) (sym step.gone_is)
          (subst (λ (cs : List Coord). Contains cs p ↔ Contains (current_points s.lines (h.t.b ∷ gone old)) p) (sym step.cells_are) (points_after s.lines (gone old) old.cells h.t.b tables.points p));
      edges = λ e. subst (λ (r : List Coord). (is_among new.segments.ends e ≡ true) ↔ Contains (current_edges s.lines r) e) (sym step.gone_is)
          (edges_after s (gone old) q h (is_among old.segments.ends) (is_among step.first.ends) (is_among step.second.ends) (is_among new.segments.ends) tables.edges step.without_ab step.without_bc step.with_ac e);
    };
    ready = subst (λ (r : List Coord). IsReady s r new.queue (waiting_at new.waiting.spots)) (sym step.gone_is)
        (removal_ready s (gone old) (at_spot q) h q refl old.queue new.queue (waiting_at old.waiting.spots) (waiting_at new.waiting.spots) ready step.kept entered step.left);
  }
    where
      linked : AreAllLinked (h.t.b ∷ gone old) task.lines.now new.links.items
      linked =
          subst (λ (ls : List (Vec (Option Links) Global)). AreAllLinked (h.t.b ∷ gone old) task.lines.now ls) (sym step.links_are)
          (all_linked_after s task asked (gone old) q h old.links.items step.own step.changed tables.linked step.at_line step.long step.unlinks)

      entered : IsEntered s (gone old) (at_spot q) h new.queue (waiting_at old.waiting.spots h.t.b)
      entered = record {
        at_from = λ r line place k. step.before (h.t.b ∷ gone old) r linked line place k;
        at_to = λ r line place k. step.after (h.t.b ∷ gone old) r linked line place k;
        woken = step.woken;
      }

  pub after_removal : (corner : Corner) → IsGoing s (gone old) q corner → IsStep s task old new q corner → IsAfter s task old new corner.b
  after_removal corner going step =
      let h = going.removable in
      let own : Corner = record { a = h.t.a; b = h.t.b; c = h.t.c; before = h.triangle.from; after = h.triangle.to } in
      let is : own ≡ corner = λ i. record { a = going.a i; b = going.b i; c = going.c i; before = going.before i; after = going.after i } in
      subst (λ (k : Corner). IsAfter s task old new k.b) is (after_own h (subst (IsStep s task old new q) (sym is) step))
