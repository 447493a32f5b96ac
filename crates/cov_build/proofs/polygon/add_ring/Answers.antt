use Rattle.std.proofs.Common.{◌≡◌, ◌∙◌, sym, ap, subst, ◌<◌, ◌*◌, length, get_or, cond, arith, List, ◌∷◌, [], ◌++◌}
use Rattle.std.proofs.lemmas.List.{get_or_read}
use Rattle.cov_types.specs.declared.coord.Coord.{Coord}
use Rattle.cov_build.specs.declared.polygon.RingList.{RingList}
use Rattle.cov_build.specs.Rings.{AreClosedRings, IsClosedFrom}
use Rattle.cov_build.proofs.ClosedRings.{closed_more}
use Rattle.cov_build.proofs.Passed.{rings_more}
use Rattle.cov_build.proofs.Walking.{leads_within}
use Rattle.cov_build.proofs.polygon.add_ring.Goals.{then-opens_down, else-opens_down}
use Rattle.cov_build.proofs.polygon.add_ring.Goals as goal

pub opens_down-requires : goal.opens_down-requires
opens_down-requires c =
    let way = c.args.way.items in
    let last = c.least_end-last.result in
    let within : last < length way = subst (λ xs. last < length xs) c.deref.ensures.value c.least_end-last.ensures.within in
    let read : c.index.result.now ≡ get_or way last 0 = get_or_read way last c.index.result.now within c.index.ensures 0 in
    record { within = subst (λ n. n < 2 * length c.args.a.now) (sym read) (leads_within c.args.a.now way _ c.requires.round.leads last 0 within) }

pub returns-clause-rings : goal.returns-clause-rings
returns-clause-rings c = λ passed are.
    let same : c.if-opens_down.rings.list.items ≡ c.args.rings.now.list.items = elim c.if-opens_down.branch [ then-opens_down w ↦ ap (λ (r : RingList). r.list.items) w.rings-is | else-opens_down w ↦ ap (λ (r : RingList). r.list.items) w.rings-is ] in
    rings_more c.args.a.now passed c.args.way.items c.args.rings.now.list.items c.push.new.self.items c.in_ok-ring.ring c.in_ok-ring.ensures.back
    (c.in_ok-push.ensures.items ∙ ap (λ (rs : List (List Coord)). rs ++ c.in_ok-ring.ring ∷ []) same) are

pub returns-clause-closed : goal.returns-clause-closed
returns-clause-closed c = λ are.
    let edges = c.args.a.now in
    let rings = c.args.rings.now.list.items in
    let last = c.least_end-last.result in
    let within : last < length c.args.way.items = subst (λ xs. last < length xs) c.deref.ensures.value c.least_end-last.ensures.within in
    let read : c.index.result.now ≡ get_or c.args.way.items last 0 = get_or_read c.args.way.items last c.index.result.now within c.index.ensures 0 in
    let from : IsClosedFrom edges c.index.result.now c.in_ok-ring.ring = subst (λ n. IsClosedFrom edges n c.in_ok-ring.ring) (sym read) c.in_ok-ring.ensures.closed in
    let same : c.if-opens_down.rings.list.items ≡ rings = elim c.if-opens_down.branch [ then-opens_down w ↦ ap (λ (r : RingList). r.list.items) w.rings-is | else-opens_down w ↦ ap (λ (r : RingList). r.list.items) w.rings-is ] in
    let place : c.if-opens_down.rings.shell ≡ cond c.opens_down.result (length rings) c.args.rings.now.shell = elim c.if-opens_down.branch [
      | then-opens_down w ↦ ap (λ (r : RingList). r.shell) w.rings-is ∙ omega (arith, c.len-place.ensures, c.args.rings.now.list.ok.0) ∙ ap (λ b. cond b (length rings) c.args.rings.now.shell) (sym w.if-opens_down.true)
      | else-opens_down w ↦ ap (λ (r : RingList). r.shell) w.rings-is ∙ ap (λ b. cond b (length rings) c.args.rings.now.shell) (sym w.if-opens_down.false)
    ] in
    subst (λ k. AreClosedRings edges k c.push.new.self.items) (sym place)
    (closed_more edges c.index.result.now c.opens_down.result c.args.rings.now.shell rings c.push.new.self.items c.in_ok-ring.ring from c.opens_down.ensures
    (c.in_ok-push.ensures.items ∙ ap (λ (rs : List (List Coord)). rs ++ c.in_ok-ring.ring ∷ []) same) are)
