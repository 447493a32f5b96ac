use mathlib.Core.List.{[], ◌∷◌}
use Rattle.std.proofs.Common.{◌≡◌, refl, sym, ◌∙◌, ap, subst, ℕ, ◌<◌, List, length, Option, Some, Vec, Global, reverse, arith}
use Rattle.std.proofs.lemmas.List.{with_items_is, reverse-append}
use Rattle.std.proofs.lemmas.Option.{get_or_from_slice_get}
use Rattle.std.specs.Vec.{with_item, with_items}
use Rattle.cov_types.specs.declared.coord.Coord.{Coord}
use Rattle.visvalingam.specs.Chains.{AreChanged, unlinked, count_left}
use Rattle.visvalingam.specs.State.{IsAfter}
use Rattle.visvalingam.specs.declared.chains.Links.{Links}
use Rattle.visvalingam.specs.declared.state.State.{State}
use Rattle.visvalingam.proofs.Fewer.{fewer_left}
use Rattle.visvalingam.proofs.Removed.{after_removal}
use Rattle.visvalingam.proofs.state.State.remove.Goals as goal

-- the changed list, as the vector has it
changed_is : (own : Vec (Option Links) Global) (shown new : List (Option Links)) (place before after : ℕ) → shown ≡ own.items → length new ≡ length shown → AreChanged (unlinked place before after) shown new
    → (length (with_items own new).items ≡ length own.items) × AreChanged (unlinked place before after) own.items (with_items own new).items
changed_is own shown new place before after shows long changed =
    let kept = with_items_is own new (long ∙ ap length shows ∙ omega (arith, own.ok.0)) in (
      ap length kept ∙ long ∙ ap length shows,
      subst (AreChanged (unlinked place before after) own.items) (sym kept) (subst (λ (xs : List (Option Links)). AreChanged (unlinked place before after) xs new) shows changed),
    )

pub returns-clause-fewer : goal.returns-clause-fewer
returns-clause-fewer c =
    let standing = c.requires.standing in
    let own = c.index_mut.result.now in
    let links = c.args.self.now.links.items in
    let is : standing.own ≡ own = sym (get_or_from_slice_get links c.args.spot.line standing.own own standing.at) ∙ sym c.index_mut.ensures.value in
    let corner = c.args.corner in
    let place = c.args.spot.place in
    let made = changed_is own c.as_mut_slice.result.now c.unlink.new.links place corner.before corner.after c.as_mut_slice.ensures.value c.unlink.auto.links c.unlink.ensures in
    subst (λ (n : ℕ). n < count_left links) (sym (ap (λ (st : State). count_left st.links.items) c.in_ok-enter_again.ensures.same))
    (fewer_left links c.args.spot.line place corner.before corner.after standing.own (with_items own c.unlink.new.links) standing.standing.own standing.at standing.standing.here
    (subst (λ (v : Vec (Option Links) Global). AreChanged (unlinked place corner.before corner.after) v.items (with_items own c.unlink.new.links).items) (sym is) made.1))

pub returns-clause-after : goal.returns-clause-after
returns-clause-after c s asked tables going ready =
    let standing = c.requires.standing in
    let old = c.args.self.now in
    let now = c.enter_again.new.self in
    let own = c.index_mut.result.now in
    let links = old.links.items in
    let is : standing.own ≡ own = sym (get_or_from_slice_get links c.args.spot.line standing.own own standing.at) ∙ sym c.index_mut.ensures.value in
    let corner = c.args.corner in
    let place = c.args.spot.place in
    let made = changed_is own c.as_mut_slice.result.now c.unlink.new.links place corner.before corner.after c.as_mut_slice.ensures.value c.unlink.auto.links c.unlink.ensures in
    let same = c.in_ok-enter_again.ensures.same in
    let step : State = record {
      links = with_item old.links c.args.spot.line (with_items own c.unlink.new.links);
      cells = c.remove-3.new.self;
      segments = c.add.new.self;
      queue = now.queue;
      waiting = now.waiting;
      removed = c.push.new.self;
    } in
    subst (λ (st : State). IsAfter s c.args.task.now old st corner.b) (sym same)
    (after_removal s c.args.task.now asked old step c.args.spot tables ready corner going (record {
      own = own;
      changed = with_items own c.unlink.new.links;
      first = c.remove.new.self;
      second = c.remove-2.new.self;
      at_line = standing.at ∙ ap Some is;
      links_are = refl;
      long = made.0;
      unlinks = made.1;
      without_ab = c.remove.ensures;
      without_bc = c.remove-2.ensures;
      with_ac = c.in_ok-add.ensures;
      cells_are = c.remove-3.ensures;
      gone_is = ap (λ (ps : List Coord). reverse ps) c.in_ok-push.ensures.items ∙ reverse-append old.removed.items (corner.b ∷ []);
      kept = c.in_ok-enter_again.ensures.kept;
      before = λ removed r linked line place k. c.in_ok-enter_again.ensures.before s removed r asked linked line place k;
      after = λ removed r linked line place k. c.in_ok-enter_again.ensures.after s removed r asked linked line place k;
      woken = c.in_ok-enter_again.ensures.woken;
      left = c.in_ok-enter_again.ensures.left;
    }))
