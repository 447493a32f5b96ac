use Rattle.std.proofs.Common.{◌≡◌, ◌∙◌, ◌+◌, ◌++◌, ◌∷◌, [], sym, ap, subst, ℕ, List, length, Vec, Global, true≢false, arith}
use Rattle.cov_types.specs.declared.seg.Seg.{Seg}
use Rattle.crossing_laws.proofs.Located.{side_within}
use Rattle.fault_map.specs.FaultMap.{IsShared}
use Rattle.fault_map.proofs.Listing.{IsListing, listing_none, listing_same, listing_more, listing_all}
use Rattle.fault_map.proofs.listed.shared_regions.Goals.{then-is_shared+in_ok-push, else-is_shared}
use Rattle.fault_map.proofs.listed.shared_regions.Goals as goal

pub loop-side-init : goal.loop-side-init
loop-side-init c = subst (IsListing c.args.r.now c.args.labels.now IsShared 0) (sym c.new-listed.ensures.items) (listing_none c.args.r.now c.args.labels.now IsShared)

pub loop-side-preserved : goal.loop-side-preserved
loop-side-preserved c =
    let n = c.loop-side.side in
    let before = c.loop-side.listed.items in
    elim c.if-is_shared.branch [
      | then-is_shared+in_ok-push w ↦
          let pushed : c.if-is_shared.listed.items ≡ before ++ n ∷ [] = ap (λ (v : Vec ℕ Global). v.items) w.listed-is ∙ w.in_ok-push.ensures.items in
          subst (IsListing c.args.r.now c.args.labels.now IsShared (n + 1)) (sym pushed)
          (listing_more c.args.r.now c.args.labels.now IsShared n before c.loop-side.invariant (c.is_shared.ensures.inner w.if-is_shared.true) (λ o is. (c.is_shared.ensures.exact o is).0 w.if-is_shared.true))
      | else-is_shared w ↦
          let same : c.if-is_shared.listed.items ≡ before = ap (λ (v : Vec ℕ Global). v.items) w.listed-is in
          subst (IsListing c.args.r.now c.args.labels.now IsShared (n + 1)) (sym same)
          (listing_same c.args.r.now c.args.labels.now IsShared n before c.loop-side.invariant (λ o is listed. true≢false (sym ((c.is_shared.ensures.exact o is).1 listed) ∙ w.if-is_shared.false)))
    ]

pub returns-clause-inner : goal.returns-clause-inner
returns-clause-inner c = c.loop-side.invariant.inner

pub returns-clause-ascending : goal.returns-clause-ascending
returns-clause-ascending c = c.loop-side.invariant.ascending

pub returns-clause-exact : goal.returns-clause-exact
returns-clause-exact c = λ o is.
    listing_all c.args.r.now c.args.labels.now IsShared c.loop-side.side c.loop-side.listed.items c.loop-side.invariant o is (λ r listed.
    (let within = side_within o.edges r listed.region.at listed.region.side in
    let long = ap (λ (es : List Seg). length es) (is.edges ∙ c.requires.labels) in
    let past = c.loop-side-test.false in
    let count = c.numbers-side-end.ensures.regions.count in
    omega (arith, within, long, past, count)))
