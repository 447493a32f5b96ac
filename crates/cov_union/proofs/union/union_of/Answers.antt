-- What is built of the regions with a label is the union.
use Rattle.std.proofs.Common.{◌≡◌, sym, ◌∙◌, ap, subst, ℕ, ◌*◌, ◌<◌, List, [], ◌∷◌, length, Option, rules}
use Rattle.std.specs.Prelude.{All, IfSome}
use Rattle.cov_types.specs.Coverage.{Members, AllInRange}
use Rattle.cov_types.specs.Uses.{uses_of}
use Rattle.plane.specs.Validity.{IsValid}
use Rattle.cov_types.specs.declared.seg.Seg.{Seg}
use Rattle.plane.specs.Region.{IsOuterRegion}
use Rattle.cov_build.specs.Owners.{owner_in}
use Rattle.cov_union.specs.United.{IsUnited}
use Rattle.cov_union.proofs.UnionOverlay.{count, below, outer_free, united_by, united_holds, united_valid}
use Rattle.cov_union.proofs.union.union_of.Goals as goal

pub polygons-requires-clause-count : goal.polygons-requires-clause-count
polygons-requires-clause-count c =
    let edges : List Seg = c.in_ok-rim.rim.edges.items in
    let between : c.in_ok-arena.arena ≡ edges = search rules in
    ap length c.deref-2.ensures.value
    ∙ count c.coverage.result.now edges c.in_ok-rim.rim.odd.items c.in_ok-rim.ensures.exact c.in_ok-rim.ensures.planar c.in_ok-rim.ensures.distinct c.in_ok-labels.labels c.in_ok-labels.ensures c.in_ok-owners.owners.items c.in_ok-owners.ensures
    ∙ ap (λ (es : List Seg). 2 * length es) (sym between)

pub polygons-requires-clause-below : goal.polygons-requires-clause-below
polygons-requires-clause-below c =
    let edges : List Seg = c.in_ok-rim.rim.edges.items in
    subst (λ (os : List (Option ℕ)). All (λ owner. IfSome owner (λ i. i < 1)) os) (sym c.deref-2.ensures.value)
    (below c.coverage.result.now edges c.in_ok-rim.rim.odd.items c.in_ok-rim.ensures.exact c.in_ok-rim.ensures.planar c.in_ok-rim.ensures.distinct c.in_ok-labels.labels c.in_ok-labels.ensures c.in_ok-owners.owners.items c.in_ok-owners.ensures)

pub polygons-requires-clause-outer : goal.polygons-requires-clause-outer
polygons-requires-clause-outer c = λ n outer.
    (let edges : List Seg = c.in_ok-rim.rim.edges.items in
    let between : c.in_ok-arena.arena ≡ edges = search rules in
    ap (λ (os : List (Option ℕ)). owner_in os n) c.deref-2.ensures.value
    ∙ outer_free c.coverage.result.now edges c.in_ok-rim.rim.odd.items c.in_ok-rim.ensures.exact c.in_ok-rim.ensures.planar c.in_ok-rim.ensures.distinct c.in_ok-labels.labels c.in_ok-labels.ensures c.in_ok-owners.owners.items c.in_ok-owners.ensures
    n (subst (λ (es : List Seg). IsOuterRegion es n) between outer))

pub only_member-requires : goal.only_member-requires
only_member-requires c =
    let edges : List Seg = c.in_ok-rim.rim.edges.items in
    let between : c.in_ok-arena.arena ≡ edges = search rules in
    let whole : IsUnited c.coverage.result.now c.in_ok-union.union =
    united_by c.coverage.result.now edges c.in_ok-rim.rim.odd.items c.in_ok-rim.ensures.exact c.in_ok-rim.ensures.planar c.in_ok-rim.ensures.distinct c.in_ok-labels.labels c.in_ok-labels.ensures c.in_ok-owners.owners.items c.in_ok-owners.ensures
    (subst AllInRange (sym c.coverage.ensures.coverage) c.coverage.ensures.formed.in_range) (subst (λ (ms : Members). IsValid (uses_of ms)) (sym c.coverage.ensures.coverage) c.coverage.ensures.valid)
    c.in_ok-arena.arena c.deref-2.result.now between c.deref-2.ensures.value c.in_ok-union.union c.in_ok-union.ensures.polygons in
    whole.built.count

pub returns-clause-polygons : goal.returns-clause-polygons
returns-clause-polygons c =
    let edges : List Seg = c.in_ok-rim.rim.edges.items in
    let between : c.in_ok-arena.arena ≡ edges = search rules in
    let whole : IsUnited c.coverage.result.now c.in_ok-union.union =
    united_by c.coverage.result.now edges c.in_ok-rim.rim.odd.items c.in_ok-rim.ensures.exact c.in_ok-rim.ensures.planar c.in_ok-rim.ensures.distinct c.in_ok-labels.labels c.in_ok-labels.ensures c.in_ok-owners.owners.items c.in_ok-owners.ensures
    (subst AllInRange (sym c.coverage.ensures.coverage) c.coverage.ensures.formed.in_range) (subst (λ (ms : Members). IsValid (uses_of ms)) (sym c.coverage.ensures.coverage) c.coverage.ensures.valid)
    c.in_ok-arena.arena c.deref-2.result.now between c.deref-2.ensures.value c.in_ok-union.union c.in_ok-union.ensures.polygons in
    subst (λ (members : Members). IsUnited members (c.only_member.result ∷ [])) c.coverage.ensures.coverage (subst (IsUnited c.coverage.result.now) c.only_member.ensures whole)

pub returns-clause-union : goal.returns-clause-union
returns-clause-union c = united_holds c.args.v.now c.coverage.ensures.formed.in_range c.coverage.ensures.valid (c.only_member.result ∷ []) (returns-clause-polygons c)

pub returns-clause-valid : goal.returns-clause-valid
returns-clause-valid c = united_valid c.args.v.now c.coverage.ensures.formed.in_range c.coverage.ensures.valid (c.only_member.result ∷ []) (returns-clause-polygons c)
