use Rattle.std.proofs.Common.{◌≡◌, ◌∙◌, ap, sym, subst, ◌*◌, ◌<◌, ℕ, List, length}
use Rattle.std.specs.Prelude.{slice_get}
use Rattle.cov_types.specs.declared.seg.Seg.{Seg}
use Rattle.plane.specs.Region.{IsSide, IsRegionOf}
use Rattle.arrangement.specs.Overlay.{IsRegion}
use Rattle.owner_label.proofs.Overlays.{answered_region}
use Rattle.cov_simplify.proofs.side_holder.side_holder.Goals as goal

pub label-requires : goal.label-requires
label-requires c =
    let edges : List Seg = c.args.regions.now in
    let within : c.number.result < 2 * length edges = subst (λ n. n < 2 * length edges) (sym c.number.ensures) c.requires.within in
    record { region = subst (λ (es : List Seg). IsRegion es c.region_of.result) (sym c.requires.regions) (answered_region edges c.number.result c.region_of.result within c.region_of.ensures.region) }

pub returns : goal.returns
returns c = λ o p is side.
    (let edges : List Seg = c.args.regions.now in
    let own = c.region_of.ensures.region p (subst (λ n. IsSide edges n p) (sym c.number.ensures) side) in
    let label = c.label.ensures.points o p is (subst (λ (es : List Seg). IsRegionOf es p c.region_of.result) (sym c.requires.regions) own) in
    c.copied.ensures ∙ c.first.ensures.value ∙ ap (λ xs. slice_get xs 0) label)
