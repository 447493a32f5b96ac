use Rattle.std.proofs.Common.{◌≡◌, ◌∙◌, refl, sym, subst, ◌+◌, ◌*◌, ◌<◌, ◌⊎◌, true, true≢false, IsTrue, filter, inl, inr, arith}
use Rattle.std.proofs.lemmas.Bool.{ltb-true}
use Rattle.clearance_laws.specs.Block.{centre}
use Rattle.gap_width.specs.Search.{size, IsRoom, IsBest, IsKnown, asked_for}
use Rattle.gap_width.proofs.Blocks.{dropped, outside, centre_within, in_region, single, fewer_are, small_kept, handed, bounded_is, is_within, two_is, if_ok, some_room, asked_none}
use Rattle.gap_width.proofs.search.+most_room.Goals as goal
use Rattle.gap_width.proofs.search.+most_room.Goals.{then-block, else-block+then-inside, else-block+else-inside}

pub returns-then-room-far-clause-best : goal.returns-then-room-far-clause-best
returns-then-room-far-clause-best t c = λ edges r are stand know.
    let s = c.args.here.block in
    dropped edges r c.args.own.now c.args.near.now s are stand (centre s.lo s.hi) refl c.half_diagonal-far.result c.args.here.room c.requires.here.block c.half_diagonal-far.ensures.reaches c.requires.here.room
    (asked_for c.args.finest c.args.enough) c.args.best (omega (arith, c.if-room-far.true))

pub returns-then-not-inside-clause-best : goal.returns-then-not-inside-clause-best
returns-then-not-inside-clause-best t c = λ edges r are stand know.
    let at = c.centre-centre.ensures.exact in
    let decided = c.does_decide-decides.ensures.0 c.if-decides.true in
    outside edges r c.args.own.now c.args.near.now c.args.here.block are stand c.centre-centre.result at c.half_diagonal-far.result c.args.here.room c.requires.here.block c.half_diagonal-far.ensures.reaches
    (subst (λ p. IsRoom c.args.near.now p c.args.here.room) (sym at) c.requires.here.room)
    decided.0 (asked_for c.args.finest c.args.enough) c.args.best decided.1 (c.is_inside-inside.ensures.outside c.if-not-inside.true c.if-decides.true)

pub returns-then-size-eq0-clause-best : goal.returns-then-size-eq0-clause-best
returns-then-size-eq0-clause-best t c = λ edges r are stand know.
    let s = c.args.here.block in
    let room = c.args.here.room in
    let far = c.half_diagonal-far.result in
    let at = c.centre-centre.ensures.exact in
    let is = subst (λ p. IsRoom c.args.near.now p room) (sym at) c.requires.here.room in
    let zero : size s ≡ 0 = sym c.size-size.ensures ∙ c.if-size-eq0.true in
    let none = c.half_diagonal-far.ensures.none zero in
    let more : c.args.best < room = omega (arith, none, c.if-room-far.false) in
    let decides = c.does_decide-decides.ensures.1 (omega (arith, more), omega (arith, none)) in
    let inside : c.is_inside-inside.result ≡ true = elim c.else-decides.either [
      | inl both ↦ both.1
      | inr not ↦ absurd (true≢false (sym decides ∙ not))
    ] in
    let within = centre_within edges r c.args.own.now c.args.near.now s are stand c.centre-centre.result at far room c.requires.here.block c.half_diagonal-far.ensures.reaches is
    c.is_inside-inside.result c.does_decide-decides.result know c.is_inside-inside.ensures.inside (λ d. (c.does_decide-decides.ensures.0 d).0) inside in
    single edges r c.args.own.now c.args.near.now s are stand c.centre-centre.result at far room c.requires.here.block c.half_diagonal-far.ensures.reaches is
    zero none (asked_for c.args.finest c.args.enough) c.args.best more within

pub returns-then-is_bounded-clause-best : goal.returns-then-is_bounded-clause-best
returns-then-is_bounded-clause-best t c = λ edges r are stand know.
    let s = c.args.here.block in
    let near = c.args.near.now in
    let room = c.args.here.room in
    let far = c.half_diagonal-far.result in
    let centre_is = c.centre-centre.result in
    let at = c.centre-centre.ensures.exact in
    let is = subst (λ p. IsRoom near p room) (sym at) c.requires.here.room in
    let limit = room + 1 + 2 * far in
    let few = filter (is_within centre_is limit) near in
    bounded_is edges r (asked_for c.args.finest c.args.enough) c.args.own.now few s c.args.best are
    (handed edges r c.args.own.now near s are stand centre_is at far room c.requires.here.block c.half_diagonal-far.ensures.reaches is s (λ q in_s. in_s) limit refl few (inr refl))
    (c.is_bounded.ensures c.if-is_bounded.true)

pub halves_by_room-requires-clause-edges : goal.halves_by_room-requires-clause-edges
halves_by_room-requires-clause-edges t c =
    let limit = c.args.here.room + 1 + 2 * c.half_diagonal-far.result in
    let fewer = fewer_are c.centre-centre.result limit c.args.near.now c.in_ok-near_centre.near_centre.items c.deref.result.now c.some_or_all-near.result.now c.deref.ensures.value c.in_ok-near_centre.ensures c.some_or_all-near.ensures in
    small_kept c.centre-centre.result limit c.args.near.now c.some_or_all-near.result.now fewer c.requires.near

pub most_room-requires : goal.most_room-requires
most_room-requires t c =
    let limit = c.args.here.room + 1 + 2 * c.half_diagonal-far.result in
    let fewer = fewer_are c.centre-centre.result limit c.args.near.now c.in_ok-near_centre.near_centre.items c.deref.result.now c.some_or_all-near.result.now c.deref.ensures.value c.in_ok-near_centre.ensures c.some_or_all-near.ensures in
    let less = c.halves_by_room.ensures.halves.first_less in
    let falls : size c.halves_by_room.result.0.block < t = omega (arith, c.decreases, less) in
    (falls, (c.requires.own, (small_kept c.centre-centre.result limit c.args.near.now c.some_or_all-near.result.now fewer c.requires.near, (c.halves_by_room.ensures.first, c.requires.best))))

pub most_room-requires-2 : goal.most_room-requires-2
most_room-requires-2 t c =
    let limit = c.args.here.room + 1 + 2 * c.half_diagonal-far.result in
    let fewer = fewer_are c.centre-centre.result limit c.args.near.now c.in_ok-near_centre.near_centre.items c.deref.result.now c.some_or_all-near.result.now c.deref.ensures.value c.in_ok-near_centre.ensures c.some_or_all-near.ensures in
    let less = c.halves_by_room.ensures.halves.second_less in
    let falls : size c.halves_by_room.result.1.block < t = omega (arith, c.decreases, less) in
    (falls, (c.requires.own, (small_kept c.centre-centre.result limit c.args.near.now c.some_or_all-near.result.now fewer c.requires.near, (c.halves_by_room.ensures.second, c.in_ok-best.ensures.small))))

pub returns-then-far-finest-clause-best : goal.returns-then-far-finest-clause-best
returns-then-far-finest-clause-best t c = λ edges r are stand know.
    let s = c.args.here.block in
    let room = c.args.here.room in
    let far = c.half_diagonal-far.result in
    let at = c.centre-centre.ensures.exact in
    let is = subst (λ p. IsRoom c.args.near.now p room) (sym at) c.requires.here.room in
    let limit = room + 1 + 2 * far in
    let fewer = fewer_are c.centre-centre.result limit c.args.near.now c.in_ok-near_centre.near_centre.items c.deref.result.now c.some_or_all-near.result.now c.deref.ensures.value c.in_ok-near_centre.ensures c.some_or_all-near.ensures in
    let is_known : IsTrue c.if-block.known → IsTrue s.inside ⊎ (IsTrue c.is_inside-inside.result × far < room) = λ h. elim c.if-block.branch [
      | then-block w ↦ inl w.if-block.true
      | else-block+then-inside w ↦ inr (w.if-inside.true, ltb-true far room (sym w.known-is ∙ h))
      | else-block+else-inside w ↦ absurd (true≢false (sym h ∙ w.known-is ∙ w.if-inside.false))
    ] in
    let all_in = in_region edges r c.args.own.now c.args.near.now s are stand c.centre-centre.result at far room c.requires.here.block c.half_diagonal-far.ensures.reaches is
    c.is_inside-inside.result c.does_decide-decides.result know c.is_inside-inside.ensures.inside (λ d. (c.does_decide-decides.ensures.0 d).0) c.if-block.known is_known in
    let halves = c.halves_by_room.ensures.halves in
    let first = c.halves_by_room.result.0.block in
    let stand1 = handed edges r c.args.own.now c.args.near.now s are stand c.centre-centre.result at far room c.requires.here.block c.half_diagonal-far.ensures.reaches is
    first halves.first limit refl c.some_or_all-near.result.now fewer in
    let know1 : IsKnown edges r first = λ h p in_p. all_in (sym halves.first_inside ∙ h) p (halves.first p in_p) in
    let first_best = c.in_ok-best.ensures.best edges r are stand1 know1 in
    let none = asked_none c.args.finest c.args.enough far c.if-far-finest.true in
    subst (λ n. IsBest edges r n s c.args.best c.in_ok-best.best) (sym none) (some_room edges r (asked_for c.args.finest c.args.enough) s first c.args.best c.in_ok-best.best first_best)

pub returns-clause-best : goal.returns-clause-best
returns-clause-best t c = λ edges r are stand know.
    let s = c.args.here.block in
    let room = c.args.here.room in
    let far = c.half_diagonal-far.result in
    let at = c.centre-centre.ensures.exact in
    let is = subst (λ p. IsRoom c.args.near.now p room) (sym at) c.requires.here.room in
    let limit = room + 1 + 2 * far in
    let fewer = fewer_are c.centre-centre.result limit c.args.near.now c.in_ok-near_centre.near_centre.items c.deref.result.now c.some_or_all-near.result.now c.deref.ensures.value c.in_ok-near_centre.ensures c.some_or_all-near.ensures in
    let is_known : IsTrue c.if-block.known → IsTrue s.inside ⊎ (IsTrue c.is_inside-inside.result × far < room) = λ h. elim c.if-block.branch [
      | then-block w ↦ inl w.if-block.true
      | else-block+then-inside w ↦ inr (w.if-inside.true, ltb-true far room (sym w.known-is ∙ h))
      | else-block+else-inside w ↦ absurd (true≢false (sym h ∙ w.known-is ∙ w.if-inside.false))
    ] in
    let all_in = in_region edges r c.args.own.now c.args.near.now s are stand c.centre-centre.result at far room c.requires.here.block c.half_diagonal-far.ensures.reaches is
    c.is_inside-inside.result c.does_decide-decides.result know c.is_inside-inside.ensures.inside (λ d. (c.does_decide-decides.ensures.0 d).0) c.if-block.known is_known in
    let halves = c.halves_by_room.ensures.halves in
    let first = c.halves_by_room.result.0.block in
    let second = c.halves_by_room.result.1.block in
    let stand1 = handed edges r c.args.own.now c.args.near.now s are stand c.centre-centre.result at far room c.requires.here.block c.half_diagonal-far.ensures.reaches is
    first halves.first limit refl c.some_or_all-near.result.now fewer in
    let stand2 = handed edges r c.args.own.now c.args.near.now s are stand c.centre-centre.result at far room c.requires.here.block c.half_diagonal-far.ensures.reaches is
    second halves.second limit refl c.some_or_all-near.result.now fewer in
    let know1 : IsKnown edges r first = λ h p in_p. all_in (sym halves.first_inside ∙ h) p (halves.first p in_p) in
    let know2 : IsKnown edges r second = λ h p in_p. all_in (sym halves.second_inside ∙ h) p (halves.second p in_p) in
    let first_best = c.in_ok-best.ensures.best edges r are stand1 know1 in
    if_ok (IsBest edges r (asked_for c.args.finest c.args.enough) second c.in_ok-best.best) (IsBest edges r (asked_for c.args.finest c.args.enough) s c.args.best) c.most_room-2.result (c.most_room-2.ensures.best edges r are stand2 know2)
    (λ found last. two_is edges r (asked_for c.args.finest c.args.enough) s first second halves.cover c.args.best c.in_ok-best.best found first_best last)
