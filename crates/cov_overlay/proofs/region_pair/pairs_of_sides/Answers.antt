use Rattle.std.proofs.Common.{◌≡◌, sym, ◌∙◌, ap, subst, ℕ, ◌*◌, ◌<◌, List, length, map, arith}
use Rattle.std.specs.Prelude.{slice_index}
use Rattle.cov_types.specs.declared.seg.Seg.{Seg}
use Rattle.crossing_laws.proofs.Located.{one_numbering}
use Rattle.plane.specs.Label.{numbers_below}
use Rattle.plane.specs.Region.{AreRegions}
use Rattle.arrangement.specs.Overlay.{IsRegion}
use Rattle.owner_label.proofs.Overlays.{answered_region}
use Rattle.cov_clean.proofs.Numbers.{made_more}
use Rattle.cov_overlay.specs.SidePairs.{side_pair}
use Rattle.cov_overlay.proofs.region_pair.pairs_of_sides.Goals as goal

pub pair_of_side-requires : goal.pair_of_side-requires
pair_of_side-requires c =
    let edges : List Seg = c.args.regions.now in
    let are = c.numbers-numbers.ensures.regions in
    let side = c.loop-side.side in
    let within : side < 2 * length edges = (let count = are.count in omega (arith, count, c.loop-side-test.true)) in
    let region : ℕ = slice_index c.numbers-numbers.result.now side in
    subst (λ (es : List Seg). IsRegion es region) (sym c.requires) (answered_region edges side region within (are.each side))

pub loop-side-preserved : goal.loop-side-preserved
loop-side-preserved c = λ o is.
    (let edges : List Seg = c.args.regions.now in
    let numbers = c.numbers-numbers.result.now in
    let side = c.loop-side.side in
    let numbered : AreRegions edges o.numbers = subst (λ (es : List Seg). AreRegions es o.numbers) (is.edges ∙ c.requires) is.numbered in
    let one : numbers ≡ o.numbers = one_numbering edges numbers o.numbers c.numbers-numbers.ensures.regions numbered in
    made_more (side_pair c.args.first o) side c.loop-side.pairs.items c.push.new.self.items c.pair_of_side.result (c.loop-side.invariant o is) c.in_ok-push.ensures.items
    (c.pair_of_side.ensures o is (ap (λ (ns : List ℕ). slice_index ns side) one)))

pub returns : goal.returns
returns c = λ o is.
    (let count = c.numbers-numbers.ensures.regions.count in
    let edges = ap length (is.edges ∙ c.requires) in
    let all : c.loop-side.side ≡ 2 * length o.edges = omega (arith, count, edges, c.loop-side-test.false, c.loop-side.auto) in
    c.loop-side.invariant o is ∙ ap (λ n. map (side_pair c.args.first o) (numbers_below n)) all)
