use Rattle.std.proofs.Common.{◌∙◌, ap, sym, subst, ℕ, ◌+◌, arith}
use Rattle.std.specs.Global.{Vec}
use Rattle.face_walk.proofs.Linking.{AreOverRayTo, over_same, over_push, over_all}
use Rattle.face_walk.proofs.links.sides_over_ray.Goals as goal
use Rattle.face_walk.proofs.links.sides_over_ray.Goals.{in-Some+in_ok-push, in_default}

pub loop-h-preserved : goal.loop-h-preserved
loop-h-preserved c =
    let edges = c.args.a.now in
    let of = c.args.cycles.now.of.items in
    let list = c.args.cycles.now.list.items in
    elim c.match-side_over_ray.branch [
      | in-Some+in_ok-push w ↦
          over_push edges of list c.loop-h.h w.in-Some.side c.loop-h.sides.items c.match-side_over_ray.sides.items w.in-Some.ensures
          (ap (λ (v : Vec ℕ). v.items) w.sides-is ∙ w.in_ok-push.ensures.items) c.loop-h.invariant
      | in_default w ↦
          subst (λ (v : Vec ℕ). AreOverRayTo edges of list (c.loop-h.h + 1) v.items) (sym w.sides-is)
          (over_same edges of list c.loop-h.h c.loop-h.sides.items w.in_default.ensures c.loop-h.invariant)
    ]

pub returns : goal.returns
returns c =
    let count = c.len-h-end.ensures.count in
    let stop = c.loop-h-test.false in
    over_all c.args.a.now c.args.cycles.now.of.items c.args.cycles.now.list.items c.loop-h.h c.loop-h.sides.items (omega (arith, count, stop)) c.loop-h.invariant
