use Rattle.std.proofs.Common.{◌∙◌, sym, ap, subst, List, length, arith}
use Rattle.std.proofs.lemmas.Bool.{false≢true, leb-true, le-leb}
use Rattle.cov_types.specs.declared.seg.Seg.{Seg}
use Rattle.plane.specs.Region.{IsOuterRegion}
use Rattle.arrangement.specs.Overlay.{IsRegion}
use Rattle.owner_label.proofs.Overlays.{answered_region}
use Rattle.narrow_gaps.proofs.Gaps.{own_region}
use Rattle.fault_map.proofs.listed.is_shared.Goals as goal

pub returns-then-region_of-side-clause-exact : goal.returns-then-region_of-side-clause-exact
returns-then-region_of-side-clause-exact c = λ o is. (
  (λ t. absurd (false≢true t)),
  (λ shared. absurd (c.if-region_of-side.true (own_region c.args.r.now c.region_of.result c.args.side c.region_of.ensures.region (subst (λ (es : List Seg). IsRegion es c.args.side) (is.edges ∙ c.requires.labels) shared.region)))),
)

pub label-requires : goal.label-requires
label-requires c =
    let region = answered_region c.args.r.now c.args.side c.region_of.result c.requires.within c.region_of.ensures.region in
    record { region = subst (λ (es : List Seg). IsRegion es c.args.side) (sym c.requires.labels) (subst (IsRegion c.args.r.now) c.if-region_of-side.false region) }

own : (c : goal.After-label) → IsRegion c.args.r.now c.args.side
own c = subst (IsRegion c.args.r.now) c.if-region_of-side.false (answered_region c.args.r.now c.args.side c.region_of.result c.requires.within c.region_of.ensures.region)

pub returns-clause-inner : goal.returns-clause-inner
returns-clause-inner c = λ several. record {
  region = own c;
  not_outer = λ outer.
      (let none = ap length (c.label.ensures.outer (subst (λ (es : List Seg). IsOuterRegion es c.args.side) (sym c.requires.labels) outer)) in
      let two = leb-true 2 (length c.label.result.now) several in
      omega (arith, none, two));
}

pub returns-clause-exact : goal.returns-clause-exact
returns-clause-exact c = λ o is.
    (let label = ap length (c.label.ensures.label o is) in (
      (λ t. record { region = subst (λ (es : List Seg). IsRegion es c.args.side) (sym (is.edges ∙ c.requires.labels)) (own c); several = (let two = leb-true 2 (length c.label.result.now) t in omega (arith, two, label)) }),
      (λ shared. (let two = shared.several in le-leb 2 (length c.label.result.now) (omega (arith, two, label)))),
    ))
