use Rattle.std.proofs.Common.{◌≡◌, ◌↔◌, ◌⊎◌, sym, ◌∙◌, ap, subst, true, true≢false, List, Vec, Global, flat_map, arith}
use Rattle.std.specs.Prelude.{Contains}
use Rattle.std.proofs.lemmas.List.{take_all}
use Rattle.cov_types.specs.declared.coord.Coord.{Coord}
use Rattle.cov_types.specs.declared.seg.Seg.{Seg}
use Rattle.plane.specs.Snapping.{chain_edges}
use Rattle.visvalingam.specs.Segments.{is_among}
use Rattle.visvalingam.proofs.Begun.{all_edges, pieces_more}
use Rattle.visvalingam.proofs.begin.first_segments.Goals as goal

pub loop-line-init : goal.loop-line-init
loop-line-init c e = (λ h. absurd (true≢false (sym h ∙ c.new-segments.ensures e)), λ has. absurd (omega (arith, has.1)))

pub loop-line-preserved : goal.loop-line-preserved
loop-line-preserved c e =
    pieces_more (λ (v : Vec Coord Global). chain_edges v.items) c.args.lines.now c.loop-line.line-index c.line-item.result c.loop-line-test.true (sym c.line-item.is) e (is_among c.loop-line.segments.ends e) (is_among c.add_chain.new.self.ends e) (c.loop-line.invariant e)
    (subst (λ (ps : List Coord). (is_among c.add_chain.new.self.ends e ≡ true) ↔ ((is_among c.loop-line.segments.ends e ≡ true) ⊎ Contains (chain_edges ps) e)) c.as_slice.ensures.value (c.in_ok-add_chain.ensures e))

pub returns : goal.returns
returns c e =
    let all = take_all c.loop-line.line-index c.args.lines.now c.loop-line-test.false in
    subst (λ (es : List Seg). (is_among c.loop-line.segments.ends e ≡ true) ↔ Contains es e) (ap (flat_map (λ (v : Vec Coord Global). chain_edges v.items)) all ∙ all_edges c.args.lines.now) (c.loop-line.invariant e)
