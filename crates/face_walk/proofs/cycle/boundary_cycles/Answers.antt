use Rattle.std.proofs.Common.{◌≡◌, sym, ◌∙◌, ap, subst, ◌+◌, ◌++◌, [], ◌∷◌, ◌*◌, ◌<◌, length, get_or, List, ℕ, arith}
use Rattle.std.proofs.lemmas.List.{with_items_is, get_or_read}
use Rattle.std.specs.Global.{Vec}
use Rattle.face_walk.specs.Cycles.{IsBeforeMarks, IsMarkedRound}
use Rattle.face_walk.specs.declared.cycle.Cycle.{Cycle}
use Rattle.face_walk.proofs.Cycles.{AreCyclesTo, cycles_none, before_marks, cycles_same, cycles_more, cycles_all}
use Rattle.face_walk.proofs.cycle.boundary_cycles.Goals.{then-index-unmarked+in_ok-push, else-index-unmarked}
use Rattle.face_walk.proofs.cycle.boundary_cycles.Goals as goal

pub loop-h-init : goal.loop-h-init
loop-h-init c =
    cycles_none c.args.a.now c.len.result c.len-unmarked.result c.in_ok-of.of.items c.new-list.result.items c.len.ensures.count c.len-unmarked.ensures.count
    (c.in_ok-of.ensures.items_if_clones_equal (λ y is. is)) c.new-list.ensures.items

pub walk-first-requires-clause-before : goal.walk-first-requires-clause-before
walk-first-requires-clause-before c =
    let edges = c.args.a.now in
    let below : c.loop-h.h < 2 * length edges = omega (arith, c.loop-h-test.true, c.len-h-end.ensures.count) in
    let long = c.loop-h.invariant.long in
    let read : c.index.result.now ≡ get_or c.loop-h.of.items c.loop-h.h 0 = get_or_read c.loop-h.of.items c.loop-h.h c.index.result.now (omega (arith, below, long)) c.index.ensures 0 in
    let free : get_or c.loop-h.of.items c.loop-h.h 0 ≡ 2 * length edges = sym read ∙ c.if-index-unmarked.true ∙ c.len-unmarked.ensures.count in
    subst (λ (ms : List ℕ). IsBeforeMarks edges c.loop-h.h ms) (sym c.deref_mut.ensures.value)
    (before_marks edges c.loop-h.h c.loop-h.of.items c.loop-h.list.items below c.loop-h.invariant free)

pub loop-h-preserved : goal.loop-h-preserved
loop-h-preserved c =
    let edges = c.args.a.now in
    let h = c.loop-h.h in
    let below : h < 2 * length edges = omega (arith, c.loop-h-test.true, c.len-h-end.ensures.count) in
    let long = c.loop-h.invariant.long in
    let read : c.index.result.now ≡ get_or c.loop-h.of.items h 0 = get_or_read c.loop-h.of.items h c.index.result.now (omega (arith, below, long)) c.index.ensures 0 in
    elim c.if-index-unmarked.branch [
      | then-index-unmarked+in_ok-push w ↦ (
          let marks = w.walk-first.new.marks in
          let was : w.deref_mut.result.now ≡ c.loop-h.of.items = w.deref_mut.ensures.value in
          let size : length marks ≡ length c.loop-h.of.items = w.walk-first.auto.marks ∙ ap (λ (xs : List ℕ). length xs) was in
          let made : c.if-index-unmarked.of.items ≡ marks = ap (λ (v : Vec ℕ). v.items) w.of-is ∙ with_items_is c.loop-h.of marks (size ∙ omega (arith, c.loop-h.of.ok.0)) in
          let listed : c.if-index-unmarked.list.items ≡ c.loop-h.list.items ++ record { least = h; first = w.walk-first.result } ∷ [] =
          ap (λ (v : Vec Cycle). v.items) w.list-is ∙ w.in_ok-push.ensures.items in
          let place : w.len-then-index-unmarked.result ≡ length c.loop-h.list.items = omega (arith, w.len-then-index-unmarked.ensures) in
          let round : IsMarkedRound edges h (length c.loop-h.list.items) w.walk-first.result c.loop-h.of.items marks =
          subst (λ (n : ℕ). IsMarkedRound edges h n w.walk-first.result c.loop-h.of.items marks) place
          (subst (λ (ms : List ℕ). IsMarkedRound edges h w.len-then-index-unmarked.result w.walk-first.result ms marks) was w.walk-first.ensures) in
          subst (λ (cs : List Cycle). AreCyclesTo edges (h + 1) c.if-index-unmarked.of.items cs) (sym listed)
          (subst (λ (ms : List ℕ). AreCyclesTo edges (h + 1) ms (c.loop-h.list.items ++ record { least = h; first = w.walk-first.result } ∷ [])) (sym made)
          (cycles_more edges h c.loop-h.of.items c.loop-h.list.items below c.loop-h.invariant w.walk-first.result marks round))
          )
      | else-index-unmarked w ↦
          subst (λ (v : Vec Cycle). AreCyclesTo edges (h + 1) c.if-index-unmarked.of.items v.items) (sym w.list-is)
          (subst (λ (v : Vec ℕ). AreCyclesTo edges (h + 1) v.items c.loop-h.list.items) (sym w.of-is)
          (cycles_same edges h c.loop-h.of.items c.loop-h.list.items below c.loop-h.invariant (λ free. w.if-index-unmarked.false (read ∙ free ∙ sym c.len-unmarked.ensures.count))))
    ]

pub returns : goal.returns
returns c = (let count = c.len-h-end.ensures.count in let stop = c.loop-h-test.false in cycles_all c.args.a.now c.loop-h.h c.loop-h.of.items c.loop-h.list.items (omega (arith, count, stop)) c.loop-h.invariant)
