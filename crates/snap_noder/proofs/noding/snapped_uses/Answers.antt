use Rattle.std.proofs.Common.{ap, subst, sym, refl, ◌∙◌, List, Vec, Global}
use Rattle.cov_types.specs.declared.seg.Seg.{Seg}
use Rattle.plane.specs.Snapping.{IsChain}
use Rattle.cov_types.specs.declared.coord.Coord.{Coord}
use Rattle.snap_noder.proofs.Snapping.{snapped_start, snapped_more, snapped_all, chain_before_none, chain_again, chain_kept}
use Rattle.snap_noder.proofs.noding.snapped_uses.Goals as goal
use Rattle.snap_noder.proofs.noding.snapped_uses.Goals.{then-not-has_segment_before+in_ok-chain, else-not-has_segment_before}

pub loop-i-init : goal.loop-i-init
loop-i-init c = record {
  same = refl;
  so_far = snapped_start c.args.hot.now c.new-snapped.result.items c.new-snapped.ensures.items;
  chain = chain_before_none c.args.hot.now c.args.uses.now c.new-chain.result.items;
}

-- the chain that the loop has is that of the use
is_chain : (c : goal.In_ok-add_chain) → IsChain c.args.hot.now c.index-uses-i.result.seg c.if-not-has_segment_before.chain.items
is_chain c =
    elim c.if-not-has_segment_before.branch [
      | then-not-has_segment_before+in_ok-chain w ↦ subst (λ (v : Vec Coord Global). IsChain c.args.hot.now c.index-uses-i.result.seg v.items) (sym w.chain-is)
          (subst (λ (segs : List Seg). IsChain segs c.index-uses-i.result.seg w.in_ok-chain.chain.items) (c.gather_at.ensures ∙ c.loop-i.invariant.same) w.in_ok-chain.ensures)
      | else-not-has_segment_before w ↦ chain_again c.args.hot.now c.args.uses.now c.loop-i.i c.index-uses-i.result c.loop-i.chain.items _ c.loop-i-test.true c.index-uses-i.is c.loop-i.invariant.chain
          (c.has_segment_before.ensures.0 w.if-not-has_segment_before.false) (ap (λ (v : Vec Coord Global). v.items) w.chain-is)
    ]

pub loop-i-preserved : goal.loop-i-preserved
loop-i-preserved c = record {
  same = c.gather_at.ensures ∙ c.loop-i.invariant.same;
  so_far = snapped_more c.args.hot.now c.args.uses.now c.loop-i.snapped.items c.add_chain.new.uses.items c.loop-i.i c.index-uses-i.result c.if-not-has_segment_before.chain.items c.as_slice.result.now c.loop-i-test.true
      c.index-uses-i.is c.loop-i.invariant.so_far (is_chain c) c.as_slice.ensures.value c.in_ok-add_chain.ensures;
  chain = chain_kept c.args.hot.now c.args.uses.now c.loop-i.i c.index-uses-i.result c.if-not-has_segment_before.chain.items c.index-uses-i.is (is_chain c);
}

pub returns : goal.returns
returns c = snapped_all c.args.hot.now c.args.uses.now c.loop-i.snapped.items c.loop-i.i c.loop-i-test.false c.loop-i.invariant.so_far
