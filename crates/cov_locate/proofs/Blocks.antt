-- Blocks of a run, one after the other.
use Rattle.std.proofs.Common.{◌≡◌, sym, ◌∙◌, ap, subst, ℕ, zero, suc, ◌+◌, ◌<◌, ◌≤◌, List, [], ◌∷◌, ◌++◌, length, get_or, drop, arith, append_assoc, append-nil}
use Rattle.box_tree.specs.declared.rect.Rect.{Rect}
use Rattle.cov_locate.specs.Blocks.{IsBlock, AreBlocks}
use Rattle.cov_locate.specs.declared.block.Block.{Block}
use Rattle.cov_types.specs.declared.coord.Coord.{Coord}

module _ (boxes : List Rect) (end : ℕ) (p : Coord) where
  -- the block with this number and those behind it
  block_at : (from i : ℕ) (d : Block) (blocks : List Block) → i < length blocks → AreBlocks boxes from end p (drop i blocks)
      → IsBlock boxes from end p (get_or blocks i d) × AreBlocks boxes (get_or blocks i d).to end p (drop (suc i) blocks)
  block_at from i d [] within are = absurd (omega (arith, within))
  block_at from zero d (block ∷ blocks) within are = are
  block_at from (suc i) d (block ∷ blocks) within are = block_at from i d blocks (omega (arith, within)) are

  pub next_block : (from i : ℕ) (d : Block) (blocks : List Block) → i < length blocks → AreBlocks boxes from end p (drop i blocks)
      → IsBlock boxes from end p (get_or blocks i d) × AreBlocks boxes (get_or blocks i d).to end p (drop (i + 1) blocks)
  next_block from i d blocks within are =
      let at = block_at from i d blocks within are in
      let more : suc i ≡ i + 1 = omega arith in
      (at.0, subst (λ (n : ℕ). AreBlocks boxes (get_or blocks i d).to end p (drop n blocks)) more at.1)

  -- no block is left
  pub no_block : (from i : ℕ) (blocks : List Block) → length blocks ≤ i → AreBlocks boxes from end p (drop i blocks) → from ≡ end
  no_block from zero [] past are = are
  no_block from (suc i) [] past are = are
  no_block from zero (block ∷ blocks) past are = absurd (omega (arith, past))
  no_block from (suc i) (block ∷ blocks) past are = no_block from i blocks (omega (arith, past)) are

  -- one block more; what is still needed begins where it ends
  pub blocks_more : (start from : ℕ) (blocks more : List Block) (block : Block) → more ≡ blocks ++ block ∷ [] → IsBlock boxes from end p block
      → ((later : List Block) → AreBlocks boxes from end p later → AreBlocks boxes start end p (blocks ++ later)) → (later : List Block) → AreBlocks boxes block.to end p later
      → AreBlocks boxes start end p (more ++ later)
  blocks_more start from blocks more block pushed is so_far later h =
      subst (AreBlocks boxes start end p) (sym (append_assoc blocks (block ∷ []) later) ∙ ap (λ l. l ++ later) (sym pushed)) (so_far (block ∷ later) (is, h))

  pub blocks_all : (start from : ℕ) (blocks : List Block) → from ≡ end → ((later : List Block) → AreBlocks boxes from end p later → AreBlocks boxes start end p (blocks ++ later)) → AreBlocks boxes start end p blocks
  blocks_all start from blocks all so_far = subst (AreBlocks boxes start end p) (append-nil blocks) (so_far [] all)
