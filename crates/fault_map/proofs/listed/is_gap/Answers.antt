-- A side with the number of its own region, which is not outer and has the empty label.
use Rattle.std.proofs.Common.{◌≡◌, ◌∙◌, refl, sym, subst, List, true≢false}
use Rattle.std.proofs.lemmas.Bool.{eq-eqb}
use Rattle.cov_types.specs.declared.seg.Seg.{Seg}
use Rattle.plane.specs.Region.{IsOuterRegion}
use Rattle.arrangement.specs.Overlay.{IsRegion}
use Rattle.owner_label.proofs.Overlays.{answered_region}
use Rattle.narrow_gaps.proofs.Gaps.{own_region, outer_is, no_gap, gap_by_label}
use Rattle.fault_map.proofs.listed.is_gap.Goals as goal

pub returns-then-region_of-side-clause-exact : goal.returns-then-region_of-side-clause-exact
returns-then-region_of-side-clause-exact c = λ o is. no_gap o c.args.side (λ gap.
    c.if-region_of-side.true (own_region c.args.r.now c.region_of.result c.args.side c.region_of.ensures.region (subst (λ (es : List Seg). IsRegion es c.args.side) (is.edges ∙ c.requires.labels) gap.region)))

pub label-requires : goal.label-requires
label-requires c =
    let region = answered_region c.args.r.now c.args.side c.region_of.result c.requires.within c.region_of.ensures.region in
    record { region = subst (λ (es : List Seg). IsRegion es c.args.side) (sym c.requires.labels) (subst (IsRegion c.args.r.now) c.if-region_of-side.false region) }

pub returns-clause-inner : goal.returns-clause-inner
returns-clause-inner c = λ _.
    (let region = answered_region c.args.r.now c.args.side c.region_of.result c.requires.within c.region_of.ensures.region in
    let own : IsRegion c.args.r.now c.args.side = subst (IsRegion c.args.r.now) c.if-region_of-side.false region in
    record {
      region = own;
      not_outer = λ outer. (
          let same = outer_is c.args.r.now c.outer.result c.args.side c.outer.ensures.region c.outer.ensures.none.0 own outer in
          let eq = rw same at c.eq.ensures in
          true≢false (sym (eq-eqb c.args.side c.args.side refl) ∙ sym eq ∙ c.if-eq.false));
    })

pub returns-clause-exact : goal.returns-clause-exact
returns-clause-exact c = λ o is.
    (let region = answered_region c.args.r.now c.args.side c.region_of.result c.requires.within c.region_of.ensures.region in
    let own : IsRegion c.args.r.now c.args.side = subst (IsRegion c.args.r.now) c.if-region_of-side.false region in
    let between : c.args.r.now ≡ o.edges = sym (is.edges ∙ c.requires.labels) in
    let unless_equal = λ (region : IsRegion c.args.r.now c.args.side) (outer : IsOuterRegion c.args.r.now c.args.side).
    (let same = outer_is c.args.r.now c.outer.result c.args.side c.outer.ensures.region c.outer.ensures.none.0 region outer in
    let eq = rw same at c.eq.ensures in
    true≢false (sym (eq-eqb c.args.side c.args.side refl) ∙ sym eq ∙ c.if-eq.false)) in
    gap_by_label o c.args.side c.label.result.now (c.label.ensures.label o is) (subst (λ (es : List Seg). IsRegion es c.args.side) between own)
    (λ outer. unless_equal own (subst (λ (es : List Seg). IsOuterRegion es c.args.side) (sym between) outer))
    c.is_empty.result c.is_empty.ensures)
