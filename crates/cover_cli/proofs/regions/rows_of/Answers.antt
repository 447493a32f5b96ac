-- One side more: the row of its region comes next, where the side is its region's number.
use Rattle.std.proofs.Common.{◌≡◌, ◌<◌, ◌+◌, ◌*◌, length, ap, ◌∙◌, sym, subst, Vec, Global, ℕ, List, arith}
use Rattle.cov_types.specs.declared.seg.Seg.{Seg}
use Rattle.plane.specs.Region.{AreRegions}
use Rattle.cover_cli.specs.Regions.{AreRows}
use Rattle.cover_cli.proofs.RegionRows.{regions_below, own_region, rows_start, rows_more, rows_same, rows_all}
use Rattle.cover_cli.proofs.regions.rows_of.Goals as goal
use Rattle.cover_cli.proofs.regions.rows_of.Goals.{then-region_of-side+in_ok-append_row, else-region_of-side}

pub append_row-requires-clause-region : goal.append_row-requires-clause-region
append_row-requires-clause-region c =
    let within : c.loop-side.side < 2 * length c.args.regions.now = omega (arith, ap length c.requires.regions) in
    own_region c.args.regions.now c.loop-side.side c.region_of.result within c.region_of.ensures.region c.if-region_of-side.true

pub loop-side-init : goal.loop-side-init
loop-side-init c = λ o is_overlay. rows_start o c.new-text.result.items c.new-text.ensures.items

pub loop-side-preserved : goal.loop-side-preserved
loop-side-preserved c = λ o is_overlay.
    (let numbered : AreRegions c.args.regions.now o.numbers = subst (λ (es : List Seg). AreRegions es o.numbers) (is_overlay.edges ∙ c.requires.labels ∙ sym c.requires.regions) is_overlay.numbered in
    let number = c.region_of.ensures.numbering o.numbers numbered in
    elim c.if-region_of-side.branch as (λ _. AreRows o (regions_below o (c.loop-side.side + 1)) c.if-region_of-side.text.items) [
      | then-region_of-side+in_ok-append_row w ↦
          (let row = w.in_ok-append_row.ensures o is_overlay in
          rows_more o c.loop-side.side c.loop-side.text.items c.if-region_of-side.text.items row.0 (sym number ∙ w.if-region_of-side.true) (c.loop-side.invariant o is_overlay) row.1.0
          (ap (λ (v : Vec ℕ Global). v.items) w.text-is ∙ row.1.1))
      | else-region_of-side w ↦
          (let same = ap (λ (v : Vec ℕ Global). v.items) w.text-is in
          rows_same o c.loop-side.side c.if-region_of-side.text.items (λ own. w.if-region_of-side.false (number ∙ own))
          (subst (λ (text : List ℕ). AreRows o (regions_below o c.loop-side.side) text) (sym same) (c.loop-side.invariant o is_overlay)))
    ])

pub returns : goal.returns
returns c = λ o is_overlay.
    (let same : length o.edges ≡ length c.args.arena.now = ap length (is_overlay.edges ∙ c.requires.labels) in
    rows_all o c.loop-side.side c.loop-side.text.items (omega arith) (c.loop-side.invariant o is_overlay))
