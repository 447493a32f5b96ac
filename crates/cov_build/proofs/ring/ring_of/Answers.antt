use Rattle.std.proofs.Common.{◌≡◌, ◌∙◌, ap, map, take, drop, ◌++◌, ◌+◌, arith}
use mathlib.Core.List.{reverse}
use Rattle.std.proofs.lemmas.List.{take_all}
use Rattle.cov_build.specs.Walks.{target_of}
use Rattle.cov_build.proofs.ClosedRings.{closed_from}
use Rattle.cov_build.proofs.RingSides.{ring_is, turned_within, points_more}
use Rattle.cov_build.proofs.Walking.{leads_within}
use Rattle.cov_build.proofs.ring.ring_of.Goals as goal

pub loop-h-init : goal.loop-h-init
loop-h-init c = c.new-points.ensures.items

pub target-requires : goal.target-requires
target-requires c =
    let way = c.args.way.items in
    let is : c.deref-h-items.result.now ≡ reverse (drop (c.args.last + 1) way ++ take (c.args.last + 1) way) = c.deref-h-items.ensures.value ∙ c.reverse.ensures.items ∙ ap reverse c.rotate_left.ensures.items in
    turned_within c.args.a.now way c.args.last c.deref-h-items.result.now (leads_within c.args.a.now way _ c.requires.round.leads) is c.loop-h.h-index 0 c.loop-h-test.true

pub loop-h-preserved : goal.loop-h-preserved
loop-h-preserved c =
    points_more c.args.a.now c.deref-h-items.result.now c.loop-h.h-index c.target.result c.loop-h.points.items c.push.new.self.items c.loop-h-test.true c.target.ensures c.loop-h.invariant c.in_ok-push.ensures.items

pub returns-clause-back : goal.returns-clause-back
returns-clause-back c =
    let way = c.args.way.items in
    let is : c.deref-h-items.result.now ≡ reverse (drop (c.args.last + 1) way ++ take (c.args.last + 1) way) = c.deref-h-items.ensures.value ∙ c.reverse.ensures.items ∙ ap reverse c.rotate_left.ensures.items in
    let all : take c.loop-h.h-index c.deref-h-items.result.now ≡ c.deref-h-items.result.now = take_all c.loop-h.h-index c.deref-h-items.result.now c.loop-h-test.false in
    ring_is c.args.a.now way c.args.last c.requires.round (omega (arith, c.requires.last, c.args.way.ok.0)) c.requires.least c.loop-h.points.items (c.loop-h.invariant ∙ ap (map (target_of c.args.a.now)) (all ∙ is))

pub returns-clause-closed : goal.returns-clause-closed
returns-clause-closed c =
    let way = c.args.way.items in
    let is : c.deref-h-items.result.now ≡ reverse (drop (c.args.last + 1) way ++ take (c.args.last + 1) way) = c.deref-h-items.ensures.value ∙ c.reverse.ensures.items ∙ ap reverse c.rotate_left.ensures.items in
    let all : take c.loop-h.h-index c.deref-h-items.result.now ≡ c.deref-h-items.result.now = take_all c.loop-h.h-index c.deref-h-items.result.now c.loop-h-test.false in
    closed_from c.args.a.now way c.args.last c.requires.round (omega (arith, c.requires.last, c.args.way.ok.0)) c.loop-h.points.items (c.loop-h.invariant ∙ ap (map (target_of c.args.a.now)) (all ∙ is))
