use Rattle.std.proofs.Common.{◌≡◌, ◌==◌, sym, ◌∙◌, ap, ℕ, ◌+◌, ◌*◌, length, slice_index, count_by, Bool, arith}
use Rattle.std.proofs.lemmas.List.{get_or_read}
use Rattle.plane.specs.Label.{numbers_below}
use Rattle.face_walk.proofs.Reading.{numbered-shown, same_passes, other_fails, count_more_yes, count_more_no, count_numbered}
use Rattle.face_walk.proofs.region.Regions.count.Goals as goal
use Rattle.face_walk.proofs.region.Regions.count.Goals.{then-index-side, else-index-side}

pub loop-side-preserved : goal.loop-side-preserved
loop-side-preserved c =
    let table = c.self.inside.least.items in
    let side = c.loop-side.side in
    let low = c.loop-side.invariant.low in
    let passes : ℕ → Bool = λ n. slice_index table n == n in
    let size : c.len-side-end.result ≡ length table = omega (arith, c.len-side-end.ensures) in
    let test = c.loop-side-test.true in
    let number : c.index.result.now ≡ slice_index table side = get_or_read table side c.index.result.now (omega (arith, test, size)) c.index.ensures 0 in
    elim c.if-index-side.branch [
      | then-index-side w ↦ (
          let more = w.count-is in
          let yes = same_passes (slice_index table side) side (sym number ∙ w.if-index-side.true) in
          record {
            low = omega (arith, low, more);
            counted = more ∙ ap (λ n. n + 1) c.loop-side.invariant.counted ∙ sym (count_more_yes passes side yes);
          }
          )
      | else-index-side w ↦ (
          let kept = w.count-is in
          let no = other_fails (slice_index table side) side (λ same. w.if-index-side.false (number ∙ same)) in
          record {
            low = omega (arith, low, kept);
            counted = kept ∙ c.loop-side.invariant.counted ∙ sym (count_more_no passes side no);
          }
          )
    ]

pub returns-clause-count : goal.returns-clause-count
returns-clause-count c =
    λ numbers h.
    let edges = c.args.self.now in
    let table = c.self.inside.least.items in
    let numbered = numbered-shown c.self.inside.edges.now edges table c.self.inside.outer c.self.view_is c.self.invariant in
    let size : c.len-side-end.result ≡ length table = omega (arith, c.len-side-end.ensures) in
    let count = numbered.regions.count in
    let stop = c.loop-side-test.false in
    let far = c.loop-side.auto.side-end in
    let all : c.loop-side.side ≡ 2 * length edges = omega (arith, size, count, stop, far) in
    c.loop-side.invariant.counted ∙ ap (λ n. count_by (λ k. slice_index table k == k) (numbers_below n)) all ∙ count_numbered edges table numbers numbered.regions h

pub returns-clause-numbered : goal.returns-clause-numbered
returns-clause-numbered c =
    let table = c.self.inside.least.items in
    let numbered = numbered-shown c.self.inside.edges.now c.args.self.now table c.self.inside.outer c.self.view_is c.self.invariant in
    (table, numbered.regions)
