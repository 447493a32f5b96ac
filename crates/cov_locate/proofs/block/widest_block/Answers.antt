use Rattle.std.proofs.Common.{◌≡◌, ◌∙◌, ap, sym, subst, arith}
use Rattle.std.proofs.lemmas.Bool.{false≢true}
use Rattle.cov_locate.specs.Blocks.{is_near}
use Rattle.cov_locate.specs.declared.block.Placed.TheVariants.{Near}
use Rattle.box_tree.specs.Rect.{IsInside}
use Rattle.cov_locate.proofs.Hulls.{hull_within, in_level}
use Rattle.cov_locate.proofs.Placing.{placed_inward, placed_within}
use Rattle.cov_locate.proofs.block.widest_block.Goals as goal
use Rattle.cov_locate.specs.Levels.{IsLevel}
use Rattle.std.proofs.Common.{get_or}

pub index-requires : goal.index-requires
index-requires c =
    let (boxes, (are, ends)) = c.requires.levels in
    let level = c.level-item.result in
    let is : IsLevel boxes level = subst (IsLevel boxes) (sym c.level-item.is) (are c.loop-level.level-index level c.loop-level-test.true) in
    let block = hull_within boxes level c.args.from is (omega (arith, ends, c.requires.some)) in
    omega (arith, block)

pub loop-level-preserved : goal.loop-level-preserved
loop-level-preserved c =
    let far : ¬ (c.place_of-placed.result ≡ Near) = λ near. false≢true (sym c.if-is_near.false ∙ c.is_near.ensures ∙ ap is_near near) in
    let level = c.level-item.result in
    let from = c.args.from in
    let to = c.end_of_block-to.result in
    let b = c.index.result.now in
    let end = c.end_of_block-to.ensures in (
      omega (arith, end.begins),
      end.within,
      λ near. absurd (far near),
      λ boxes p are ends inside.
          let is : IsLevel boxes level = subst (IsLevel boxes) (sym c.level-item.is) (are c.loop-level.level-index level c.loop-level-test.true) in
          record {
            some = omega (arith, end.begins);
            ends = end.within;
            one = λ near. absurd (far near);
            placed = λ k d low high.
                placed_inward (get_or boxes k d) b p c.place_of-placed.result
                (subst (IsInside (get_or boxes k d)) (sym c.index.ensures) (in_level boxes level from to k b d is end.block (omega (arith, end.within, ends)) low high))
                (placed_within b c.args.round p c.place_of-placed.result inside c.place_of-placed.ensures);
          },
    )
