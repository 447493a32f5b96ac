use Rattle.std.proofs.Common.{◌≡◌, inl, inr, ◌-◌, ◌<◌, length, get_or, List, sym, subst, ◌∙◌, ap, arith}
use Rattle.std.proofs.lemmas.Bool.{cases_lt}
use Rattle.std.proofs.lemmas.Option.{slice_get-get_or}
use Rattle.box_tree.specs.Levels.{level_at, number_above}
use Rattle.box_tree.specs.declared.rect.Rect.{Rect}
use Rattle.box_tree.proofs.LevelsHold.{level_at-read}
use Rattle.box_tree.proofs.Under.{inside_above, number_within, block_within, in_block}
use Rattle.box_tree.proofs.search.+search_under.Goals.{then-may_matter, else-may_matter}
use Rattle.box_tree.proofs.search.+search_under.Goals as goal

pub overflow_step-child : goal.overflow_step-child
overflow_step-child g t c =
    let v = c.index-levels-level.result in
    let begins = block_within c.args.levels.now c.args.level c.args.place v c.requires.packed c.requires.level c.if-level-eq0.false c.requires.place c.index-levels-level.is in
    omega (arith, begins, v.small)

pub overflow_mul-place : goal.overflow_mul-place
overflow_mul-place g t c =
    let v = c.index-levels-level.result in
    let begins = block_within c.args.levels.now c.args.level c.args.place v c.requires.packed c.requires.level c.if-level-eq0.false c.requires.place c.index-levels-level.is in
    omega (arith, begins, v.small)

pub overflow_add-place : goal.overflow_add-place
overflow_add-place g t c =
    let v = c.index-levels-level.result in
    let begins = block_within c.args.levels.now c.args.level c.args.place v c.requires.packed c.requires.level c.if-level-eq0.false c.requires.place c.index-levels-level.is in
    omega (arith, begins, v.small)

pub search_under-requires : goal.search_under-requires
search_under-requires g t c κs within =
    let v = c.index-levels-level.result in
    let below = c.requires.level in
    let up = c.if-level-eq0.false in
    let under = level_at-read c.args.levels.now (c.args.level - 1) v (omega (arith, below)) c.index-levels-level.is in
    let size = ap (λ (bs : List Rect). length bs) under in
    let test = c.loop-child-test.true in
    let least = c.min-child-end.ensures in
    let falls : c.args.level - 1 < t = omega (arith, c.decreases, up) in
    (falls, (within, (c.requires.packed, (omega (arith, below), (omega (arith, test, least, ap (λ (bs : List Rect). length bs) c.as_slice-below.ensures.value, size, v.ok.0), c.loop-child.invariant.among)))))

pub returns-clause-settled : goal.returns-clause-settled
returns-clause-settled g t c =
    let levels = c.args.levels.now in
    let v = c.index-levels-level.result in
    let below = c.requires.level in
    let under = level_at-read levels (c.args.level - 1) v (omega (arith, below)) c.index-levels-level.is in
    let size = ap (λ (bs : List Rect). length bs) under in
    λ k lt above.
    let (from, to) = in_block c.args.level c.args.place k c.if-level-eq0.false above in
    let within = number_within levels c.requires.packed k (c.args.level - 1) lt (omega (arith, below)) in
    let stop = c.loop-child-test.false in
    let least = c.min-child-end.ensures in
    c.loop-child.invariant.settled k lt from (omega (arith, to, within, stop, least, ap (λ (bs : List Rect). length bs) c.as_slice-below.ensures.value, size, v.ok.0))

pub loop-child-preserved : goal.loop-child-preserved
loop-child-preserved g t c =
    let levels = c.args.levels.now in
    let child = c.loop-child.child in
    let inv = c.loop-child.invariant in
    elim c.if-may_matter.branch [
      | then-may_matter w ↦ (record {
        among = subst (λ (s : g.row.S.Denot). g.S.Search.is_among s (level_at levels 0)) (sym w.search-is) w.search_under.ensures.among;
        kept = λ j settled. subst (λ (s : g.row.S.Denot). g.S.Search.is_settled s j) (sym w.search-is) (w.search_under.ensures.kept j (inv.kept j settled));
        settled = λ k lt from to. subst (λ (s : g.row.S.Denot). g.S.Search.is_settled s k) (sym w.search-is) (elim (cases_lt (number_above (c.args.level - 1) k) child) [
          | inl less ↦ w.search_under.ensures.kept k (inv.settled k lt from less)
          | inr past ↦ w.search_under.ensures.settled k lt (omega (arith, to, past))
        ]);
      })
      | else-may_matter w ↦ (
          let v = c.index-levels-level.result in
          let hull = c.index-below-child.result in
          let below = c.requires.level in
          let here = level_at-read levels (c.args.level - 1) v (omega (arith, below)) c.index-levels-level.is in
          record {
            among = subst (λ (s : g.row.S.Denot). g.S.Search.is_among s (level_at levels 0)) (sym w.search-is) inv.among;
            kept = λ j settled. subst (λ (s : g.row.S.Denot). g.S.Search.is_settled s j) (sym w.search-is) (inv.kept j settled);
            settled = λ k lt from to. subst (λ (s : g.row.S.Denot). g.S.Search.is_settled s k) (sym w.search-is) (elim (cases_lt (number_above (c.args.level - 1) k) child) [
              | inl less ↦ inv.settled k lt from less
              | inr past ↦ (
                  let above : number_above (c.args.level - 1) k ≡ child = omega (arith, to, past) in
                  let b = get_or (level_at levels 0) k hull in
                  let at = slice_get-get_or (level_at levels 0) k hull lt in
                  let read : hull ≡ get_or (level_at levels (c.args.level - 1)) (number_above (c.args.level - 1) k) hull =
                  c.index-below-child.is ∙ ap (λ (bs : List Rect). get_or bs child hull) (c.as_slice-below.ensures.value ∙ sym here) ∙ ap (λ n. get_or (level_at levels (c.args.level - 1)) n hull) (sym above) in
                  c.may_matter.ensures w.if-may_matter.false (level_at levels 0) k b inv.among at (inside_above levels c.requires.packed k b at (c.args.level - 1) hull (omega (arith, below)) read)
                  )
            ]);
          }
          )
    ]
