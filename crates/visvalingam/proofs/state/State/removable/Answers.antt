use Rattle.std.proofs.Common.{refl, sym, ◌∙◌, subst, List, Option, Vec, Global, true≢false, arith}
use Rattle.std.proofs.lemmas.Option.{slice_get_within}
use Rattle.greedy_run.specs.Run.{Triangle}
use Rattle.cov_cells.specs.Way.{IsInWay, IsFirstInWay}
use Rattle.visvalingam.specs.Chains.{IsAnswerIn, AreAllLinked}
use Rattle.visvalingam.specs.Ready.{IsSpanned}
use Rattle.visvalingam.specs.State.{gone}
use Rattle.visvalingam.specs.Waiting.{waiting_at}
use Rattle.visvalingam.specs.declared.corner.Corner.{Corner}
use Rattle.visvalingam.specs.declared.chains.Links.{Links}
use Rattle.visvalingam.proofs.Chained.{some_at}
use Rattle.visvalingam.proofs.Ready.{stale_ready, spanned_ready, waiting_ready}
use Rattle.visvalingam.proofs.Spots.{triangle_of, none_open, open_size, open_allowed, at_answer, going}
use Rattle.visvalingam.proofs.state.State.removable.Goals as goal

pub returns-in_default-clause-settled : goal.returns-in_default-clause-settled
returns-in_default-clause-settled c s asked tables ready =
    let self = c.args.self.now in
    let task = c.args.task.now in
    let linked = subst (λ (ls : List (Vec (Option Links) Global)). AreAllLinked (gone self) task.lines.now ls) (sym c.as_slice.ensures.value) tables.linked in
    let answer = subst (λ (r : Option Corner). IsAnswerIn (gone self) task.lines.now c.args.spot.line c.args.spot.place r) c.in_default.is (c.corner_at.ensures.answer (gone self) linked) in
    stale_ready s (gone self) c.args.spot self.queue (waiting_at self.waiting.spots) (none_open s task asked (gone self) c.args.spot.line c.args.spot.place answer c.args.spot refl refl) ready

pub returns-then-size-spot-clause-settled : goal.returns-then-size-spot-clause-settled
returns-then-size-spot-clause-settled c s asked tables ready =
    let self = c.args.self.now in
    let task = c.args.task.now in
    let linked = subst (λ (ls : List (Vec (Option Links) Global)). AreAllLinked (gone self) task.lines.now ls) (sym c.as_slice.ensures.value) tables.linked in
    let answer = subst (λ (r : Option Corner). IsAnswerIn (gone self) task.lines.now c.args.spot.line c.args.spot.place r) c.in-Some.is (c.corner_at.ensures.answer (gone self) linked) in
    stale_ready s (gone self) c.args.spot self.queue (waiting_at self.waiting.spots)
    (λ h. (let size = open_size s task asked (gone self) c.args.spot.line c.args.spot.place c.in-Some.corner answer c.args.spot refl refl h in c.if-size-spot.true (c.size.ensures ∙ sym size))) ready

pub returns-then-not-is_allowed-clause-settled : goal.returns-then-not-is_allowed-clause-settled
returns-then-not-is_allowed-clause-settled c s asked tables ready =
    let self = c.args.self.now in
    stale_ready s (gone self) c.args.spot self.queue (waiting_at self.waiting.spots)
    (λ h. true≢false (sym (c.is_allowed.ensures.1 (open_allowed s c.args.task.now asked (gone self) c.args.spot h)) ∙ c.if-not-is_allowed.true)) ready

pub returns-then-joins-clause-settled : goal.returns-then-joins-clause-settled
returns-then-joins-clause-settled c s asked tables ready =
    let self = c.args.self.now in
    let task = c.args.task.now in
    let linked = subst (λ (ls : List (Vec (Option Links) Global)). AreAllLinked (gone self) task.lines.now ls) (sym c.as_slice.ensures.value) tables.linked in
    let answer = subst (λ (r : Option Corner). IsAnswerIn (gone self) task.lines.now c.args.spot.line c.args.spot.place r) c.in-Some.is (c.corner_at.ensures.answer (gone self) linked) in
    let joined = c.joins.ensures.0 c.if-joins.true in
    spanned_ready s (gone self) c.args.spot self.queue (waiting_at self.waiting.spots)
    (λ t at. subst (IsSpanned s (gone self)) (at_answer s task asked (gone self) c.args.spot c.in-Some.corner answer t at) (joined.0, ((tables.edges joined.0).0 joined.1.0, joined.1.1))) ready

pub returns-in_ok-push-in-Some-first_in-clause-settled : goal.returns-in_ok-push-in-Some-first_in-clause-settled
returns-in_ok-push-in-Some-first_in-clause-settled c s asked tables ready =
    let self = c.args.self.now in
    let task = c.args.task.now in
    let corner = c.in-Some.corner in
    let linked = subst (λ (ls : List (Vec (Option Links) Global)). AreAllLinked (gone self) task.lines.now ls) (sym c.as_slice.ensures.value) tables.linked in
    let answer = subst (λ (r : Option Corner). IsAnswerIn (gone self) task.lines.now c.args.spot.line c.args.spot.place r) c.in-Some.is (c.corner_at.ensures.answer (gone self) linked) in
    let first = subst (IsFirstInWay self.cells (triangle_of corner)) c.in-Some-first_in.is c.first_in.ensures in
    waiting_ready s (gone self) c.args.spot self.queue (waiting_at self.waiting.spots) (waiting_at c.push.new.self.spots) c.in-Some-first_in.p ((tables.points c.in-Some-first_in.p).0 first.0)
    (λ t at. subst (λ (t : Triangle). IsInWay t c.in-Some-first_in.p) (at_answer s task asked (gone self) c.args.spot corner answer t at) first.1) c.in_ok-push-in-Some-first_in.ensures ready

pub returns-in-None-clause-settled : goal.returns-in-None-clause-settled
returns-in-None-clause-settled c s asked tables ready =
    let self = c.args.self.now in
    let task = c.args.task.now in
    let corner = c.in-Some.corner in
    let linked = subst (λ (ls : List (Vec (Option Links) Global)). AreAllLinked (gone self) task.lines.now ls) (sym c.as_slice.ensures.value) tables.linked in
    let answer = subst (λ (r : Option Corner). IsAnswerIn (gone self) task.lines.now c.args.spot.line c.args.spot.place r) c.in-Some.is (c.corner_at.ensures.answer (gone self) linked) in
    let none = subst (IsFirstInWay self.cells (triangle_of corner)) c.in-None.is c.first_in.ensures in
    let standing = c.in-Some.ensures.standing in
    let count = linked.0 in
    let within = slice_get_within c.as_slice.result.now c.args.spot.line standing.own standing.at in
    let points = some_at task.lines.now c.args.spot.line (omega arith) in (
      going s task asked (gone self) c.args.spot points.0 corner points.1 (answer points.0 points.1) (sym c.size.ensures ∙ c.if-size-spot.false) (c.is_allowed.ensures.0 c.if-not-is_allowed.false)
          (λ p has. none p ((tables.points p).1 has))
          (λ spanned. true≢false (sym (c.joins.ensures.1 (spanned.0, ((tables.edges spanned.0).1 spanned.1.0, spanned.1.1))) ∙ c.if-joins.false)),
      refl,
    )
