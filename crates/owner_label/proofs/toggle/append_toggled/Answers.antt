use Rattle.std.proofs.Common.{◌≤◌, ◌<◌, ◌⊎◌, ◌∙◌, ap, length, inl, inr, ◌++◌, arith}
use Rattle.std.proofs.lemmas.List.{get_or_read, take_rest}
use Rattle.std.proofs.lemmas.Result.{on_ok_weaker}
use Rattle.owner_label.specs.Members.{members_at}
use Rattle.owner_label.proofs.Merging.{merging-less, merging-more, merging-same, merging-end, toggled_onto, member_read, members-length, members-drop}
use Rattle.owner_label.proofs.toggle.append_toggled.Goals.{then-loop-i-test+else-j-places, else-loop-i-test}
use Rattle.owner_label.proofs.toggle.append_toggled.Goals as goal

pub loop-i-preserved-then-held-member : goal.loop-i-preserved-then-held-member
loop-i-preserved-then-held-member c =
    let are = c.loop-i.invariant in
    let in_j : c.loop-i.j < length (members_at c.args.odd.now c.args.places.now) = omega (arith, members-length c.args.odd.now c.args.places.now, c.if-j-places.true) in
    let held = get_or_read c.loop-i.list.items c.loop-i.i c.index-held.result.now (omega (arith, c.loop-i-test.true, c.requires.within, are.longer)) c.index-held.ensures 0 in
    let member = member_read c.args.odd.now c.args.places.now c.loop-i.j _ c.if-j-places.true (c.requires.places c.loop-i.j 0 c.if-j-places.true) in
    merging-less c.args.list.now.items c.args.label _ c.loop-i.list.items c.loop-i.i c.loop-i.j c.requires.within are c.loop-i-test.true in_j c.index-held.result.now _ held member c.if-held-member.true _ c.in_ok-push.ensures.items

pub loop-i-preserved-then-member-held : goal.loop-i-preserved-then-member-held
loop-i-preserved-then-member-held c =
    let are = c.loop-i.invariant in
    let in_j : c.loop-i.j < length (members_at c.args.odd.now c.args.places.now) = omega (arith, members-length c.args.odd.now c.args.places.now, c.if-j-places.true) in
    let held = get_or_read c.loop-i.list.items c.loop-i.i c.index-held.result.now (omega (arith, c.loop-i-test.true, c.requires.within, are.longer)) c.index-held.ensures 0 in
    let member = member_read c.args.odd.now c.args.places.now c.loop-i.j _ c.if-j-places.true (c.requires.places c.loop-i.j 0 c.if-j-places.true) in
    merging-more c.args.list.now.items c.args.label _ c.loop-i.list.items c.loop-i.i c.loop-i.j c.requires.within are c.loop-i-test.true in_j c.index-held.result.now _ held member c.if-member-held.true _ c.in_ok-push-2.ensures.items

pub loop-i-preserved : goal.loop-i-preserved
loop-i-preserved c =
    let are = c.loop-i.invariant in
    let in_j : c.loop-i.j < length (members_at c.args.odd.now c.args.places.now) = omega (arith, members-length c.args.odd.now c.args.places.now, c.if-j-places.true) in
    let held = get_or_read c.loop-i.list.items c.loop-i.i c.index-held.result.now (omega (arith, c.loop-i-test.true, c.requires.within, are.longer)) c.index-held.ensures 0 in
    let member = member_read c.args.odd.now c.args.places.now c.loop-i.j _ c.if-j-places.true (c.requires.places c.loop-i.j 0 c.if-j-places.true) in
    merging-same c.args.list.now.items c.args.label _ c.loop-i.list.items c.loop-i.i c.loop-i.j c.requires.within are c.loop-i-test.true in_j c.index-held.result.now _ held member c.if-held-member.false c.if-member-held.false

pub returns-clause-toggled : goal.returns-clause-toggled
returns-clause-toggled c =
    let members = members_at c.args.odd.now c.args.places.now in
    let end : (c.args.label.to ≤ c.loop-i.i) ⊎ (length members ≤ c.loop-i.j) =
    elim c.loop-i-test.branch [
      | then-loop-i-test+else-j-places w ↦ inr (omega (arith, w.if-j-places.false, members-length c.args.odd.now c.args.places.now))
      | else-loop-i-test w ↦ inl w.loop-i-test.false
    ] in
    on_ok_weaker c.append_members.result (λ all.
    toggled_onto c.args.list.now.items _ members c.append_members.new.list.items c.requires.label c.requires.members
    (merging-end c.args.list.now.items c.args.label members c.loop-i.list.items c.loop-i.i c.loop-i.j c.requires.within c.loop-i.invariant end c.append_part.new.list.items c.append_members.new.list.items
    c.in_ok-append_part.ensures.appended
    (all ∙ ap (λ ps. c.append_part.new.list.items ++ members_at c.args.odd.now ps) (take_rest c.args.places.now c.loop-i.j) ∙ ap (λ ms. c.append_part.new.list.items ++ ms) (members-drop c.args.odd.now c.args.places.now c.loop-i.j))))
    c.append_members.ensures.appended
