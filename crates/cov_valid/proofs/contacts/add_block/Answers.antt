use Rattle.std.proofs.Common.{◌≡◌, ◌≤◌, length, ap, ◌∙◌, arith, ◌<◌}
use Rattle.std.proofs.lemmas.List.{length-map}
use Rattle.box_tree.specs.Places.{places}
use Rattle.box_tree.specs.Rect.{is_touching, box_of_segment}
use Rattle.cov_valid.proofs.Meeting.{in_hull, near_within, met_here, contacts_more}
use Rattle.cov_valid.proofs.contacts.add_block.Goals as goal
use Rattle.cov_valid.specs.Contacts.{boxes_of}
use Rattle.cov_valid.specs.declared.group.Group.{Group}

pub narrow_into-requires-clause-about : goal.narrow_into-requires-clause-about
narrow_into-requires-clause-about c =
    let boxes = c.boxes-boxes.result.now in
    let same : boxes ≡ boxes_of c.args.groups.now = c.boxes-boxes.ensures ∙ c.requires.boxed in
    let end : c.min-to.result ≤ length boxes = omega (arith, ap length same, length-map c.args.groups.now (λ (g : Group). box_of_segment g.seg)) in
    in_hull boxes c.len-from.result c.min-to.result c.loop-k.k c.hull_of-round.result c.index-boxes-k.result c.hull_of-round.ensures c.loop-k.auto.k c.loop-k-test.true end c.index-boxes-k.is

pub is_met_at-requires-clause-within : goal.is_met_at-requires-clause-within
is_met_at-requires-clause-within c =
    let same : c.boxes-boxes.result.now ≡ boxes_of c.args.groups.now = c.boxes-boxes.ensures ∙ c.requires.boxed in
    near_within c.args.groups.now c.index-boxes-k.result c.deref-in-loop-k.result.now
    (c.deref-in-loop-k.ensures.value ∙ c.in_ok-narrow_into.ensures ∙ ap (places (is_touching c.index-boxes-k.result) 0) same)

pub loop-k-preserved : goal.loop-k-preserved
loop-k-preserved c =
    let groups = c.args.groups.now in
    let same : c.boxes-boxes.result.now ≡ boxes_of groups = c.boxes-boxes.ensures ∙ c.requires.boxed in
    let within : c.loop-k.k < length groups = omega arith in
    let near : c.deref-in-loop-k.result.now ≡ places (is_touching c.index-boxes-k.result) 0 c.boxes-boxes.result.now = c.deref-in-loop-k.ensures.value ∙ c.in_ok-narrow_into.ensures in (
      c.loop-k.invariant.0,
      contacts_more groups c.loop-k.k c.loop-k.met.items c.push.new.self.items c.is_met_at.result c.in_ok-push.ensures.items
          (met_here groups c.boxes-boxes.result.now c.deref-in-loop-k.result.now c.loop-k.k c.index-boxes-k.result c.index-groups-k.result c.is_met_at.result same within c.index-boxes-k.is near c.is_met_at.ensures)
          c.loop-k.invariant.1,
    )
