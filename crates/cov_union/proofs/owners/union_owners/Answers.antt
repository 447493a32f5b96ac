-- The numbers of the sides are regions, and they are those of each overlay.
use Rattle.std.proofs.Common.{◌≡◌, sym, ◌∙◌, ap, subst, ℕ, ◌*◌, ◌<◌, List, length, take, arith}
use Rattle.std.specs.Prelude.{slice_index}
use Rattle.std.proofs.lemmas.List.{take_all}
use Rattle.cov_types.specs.declared.seg.Seg.{Seg}
use Rattle.crossing_laws.proofs.Located.{one_numbering}
use Rattle.plane.specs.Region.{AreRegions}
use Rattle.arrangement.specs.Overlay.{IsRegion}
use Rattle.owner_label.proofs.Overlays.{answered_region}
use Rattle.cov_union.specs.Owners.{union_owners}
use Rattle.cov_union.proofs.owners.union_owners.Goals as goal

pub owner_by_label-requires : goal.owner_by_label-requires
owner_by_label-requires c =
    let edges : List Seg = c.args.regions.now in
    let are = c.numbers-numbers.ensures.regions in
    let side = c.loop-side.side in
    let within : side < 2 * length edges = (let count = are.count in omega (arith, count, c.loop-side-test.true)) in
    let region : ℕ = slice_index c.numbers-numbers.result.now side in
    subst (λ (es : List Seg). IsRegion es region) (sym c.requires) (answered_region edges side region within (are.each side))

pub returns : goal.returns
returns c = λ o is.
    (let edges : List Seg = c.args.regions.now in
    let numbers = c.numbers-numbers.result.now in
    let numbered : AreRegions edges o.numbers = subst (λ (es : List Seg). AreRegions es o.numbers) (is.edges ∙ c.requires) is.numbered in
    let all : take c.loop-side.side numbers ≡ numbers = take_all c.loop-side.side numbers (omega (arith, c.loop-side-test.false)) in
    c.loop-side.invariant o is ∙ ap (union_owners o) (all ∙ one_numbering edges numbers o.numbers c.numbers-numbers.ensures.regions numbered))
