use Rattle.std.proofs.Common.{◌≡◌, ◌*◌, sym, subst, ◌∙◌, length, arith}
use Rattle.counting_sort.specs.Grouped.{IsGrouped}
use Rattle.owner_label.proofs.Building.{outer_from, built_labels}
use Rattle.owner_label.proofs.Spreading.{regions_below}
use Rattle.owner_label.proofs.labels.Labels.build.Goals as goal

pub labels_of_regions-requires-clause-outer : goal.labels_of_regions-requires-clause-outer
labels_of_regions-requires-clause-outer c =
    outer_from c.build-map.result c.regions.ensures.sided c.args.r.now (c.requires.regions ∙ c.requires.arena ∙ sym c.build-map.ensures.edges) c.outer.result c.outer.ensures.none c.outer.ensures.outer c.outer.ensures.region

pub build-requires : goal.build-requires
build-requires c = record { below = rw c.regions.ensures.regions (regions_below _ c.regions.ensures.sided _ (omega (arith, c.len.ensures.count))) }

pub invariant_of-result : goal.invariant_of-result
invariant_of-result c =
    let all : 2 * c.len.result ≡ length c.build-map.result.regions = omega (arith, c.len.ensures.count, c.regions.ensures.sided.numbered.count) in
    let sides = subst (λ n. IsGrouped c.build-map.result.regions n c.in_ok-sides.sides) all (rw c.regions.ensures.regions at c.in_ok-sides.ensures) in
    built_labels c.build-map.result _ c.args.r.now _ _ (c.build-map.ensures.edges ∙ sym c.requires.arena ∙ sym c.edges.ensures.edges) (c.build-map.ensures.odd ∙ sym c.deref.ensures.value)
    (c.requires.regions ∙ sym c.edges.ensures.edges) c.regions.ensures.sided c.in_ok-labels.ensures sides
