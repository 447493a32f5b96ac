use Rattle.std.proofs.Common.{sym, subst, true, set, List, ℕ, arith}
use Rattle.cov_build.proofs.Walking.{IsWalking, walk_none, walk_more, walk_end, fewer_free}
use Rattle.cov_build.proofs.ring.walk.Goals as goal

pub round-init : goal.round-init
round-init c = walk_none c.args.a.now c.requires.planar c.requires.distinct c.args.start c.args.seen.now c.requires.flags c.requires.within c.new-way.result.items c.new-way.ensures.items

pub bounds-seen-h : goal.bounds-seen-h
bounds-seen-h c = omega (arith, c.round.invariant.within, c.round.invariant.count)

pub bounds-seen-h-in-round : goal.bounds-seen-h-in-round
bounds-seen-h-in-round c = omega (arith, c.round.invariant.within, c.round.invariant.count)

pub next-h-requires : goal.next-h-requires
next-h-requires c = record { within = c.round.invariant.within }

pub round-preserved : goal.round-preserved
round-preserved c =
    subst (λ (w : List ℕ). IsWalking c.args.a.now c.args.start c.args.seen.now c.next-h.result w (set c.round.seen c.round.h true)) (sym c.in_ok-push.ensures.items)
    (walk_more c.args.a.now c.requires.planar c.requires.distinct c.args.start c.args.seen.now c.round.h c.next-h.result c.round.way.items c.round.seen c.round-test.true c.next-h.ensures.next c.round.invariant)

pub round-smaller : goal.round-smaller
round-smaller c = fewer_free c.round.h c.round.seen (omega (arith, c.round.invariant.within, c.round.invariant.count)) c.round-test.true

pub returns : goal.returns
returns c = walk_end c.args.a.now c.requires.planar c.requires.distinct c.args.start c.args.seen.now c.round.h c.round.way.items c.round.seen c.requires.free c.round-test.false c.round.invariant
