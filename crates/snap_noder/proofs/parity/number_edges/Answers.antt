use mathlib.Core.List.{[]}
use Rattle.std.proofs.Common.{ap, ◌∙◌, ◌-◌, ◌++◌, ◌∷◌, Vec, Global}
use Rattle.cov_types.specs.declared.seg.Seg.{Seg}
use Rattle.snap_noder.proofs.Lasts.{told_last, told_not_last}
use Rattle.snap_noder.proofs.Numbering.{numbered_start, numbered_all, numbered_again, numbered_new}
use Rattle.snap_noder.proofs.parity.number_edges.Goals as goal
use Rattle.snap_noder.proofs.parity.number_edges.Goals.{then-not-is_last_edge+in_ok-push, else-not-is_last_edge}

pub loop-u-init : goal.loop-u-init
loop-u-init c = numbered_start c.new-edges.result.items c.new-pairs.result.items c.new-edges.ensures.items c.new-pairs.ensures.items

pub loop-u-preserved : goal.loop-u-preserved
loop-u-preserved c =
    let edges = c.if-not-is_last_edge.edges in
    let pushed =
    c.in_ok-push-2.ensures.items
    ∙ ap (λ n. c.loop-u.pairs.items ++ record { member = c.u-item.result.member; edge = n - 1 } ∷ []) (c.len.ensures ∙ edges.ok.0) in
    elim c.if-not-is_last_edge.branch [
      | then-not-is_last_edge+in_ok-push w ↦ numbered_new c.args.uses.now c.loop-u.edges.items c.loop-u.pairs.items c.loop-u.u-index c.u-item.result c.loop-u-test.true c.u-item.is c.requires c.loop-u.invariant _ _
          (ap (λ (v : Vec Seg Global). v.items) w.edges-is ∙ w.in_ok-push.ensures.items) pushed (told_not_last _ _ _ _ c.as_slice.ensures.value c.is_last_edge.ensures w.if-not-is_last_edge.true)
      | else-not-is_last_edge w ↦ numbered_again c.args.uses.now c.loop-u.edges.items c.loop-u.pairs.items c.loop-u.u-index c.u-item.result c.loop-u-test.true c.u-item.is c.requires c.loop-u.invariant _ _
          (ap (λ (v : Vec Seg Global). v.items) w.edges-is) pushed (told_last _ _ _ _ c.as_slice.ensures.value c.is_last_edge.ensures w.if-not-is_last_edge.false)
    ]

pub returns : goal.returns
returns c = numbered_all c.args.uses.now c.loop-u.edges.items c.loop-u.pairs.items c.loop-u.u-index c.loop-u-test.false c.loop-u.invariant
