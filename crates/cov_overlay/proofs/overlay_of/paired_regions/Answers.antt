-- What is built of the places of pairs is the overlay.
use Rattle.std.proofs.Common.{◌≡◌, inr, sym, ◌∙◌, ap, subst, ℕ, ◌*◌, ◌<◌, ◌↔◌, List, length, rules, arith}
use Rattle.std.specs.Prelude.{All, Contains, Option, Some, IfSome}
use Rattle.std.proofs.lemmas.Result.{err_from_is_err_and}
use Rattle.cov_types.specs.declared.seg.Seg.{Seg}
use Rattle.plane.specs.Region.{IsOuterRegion}
use Rattle.cov_build.specs.Owners.{owner_in}
use Rattle.overlaid_laws.specs.declared.pair.Pair.{Pair}
use Rattle.overlaid_laws.proofs.Joint.{joint_in_range}
use Rattle.cov_overlay.specs.Places.{ArePlaces}
use Rattle.cov_overlay.proofs.BuiltPairs.{joint_pairs, among, owners_count, owners_below, outer_free, overlaid_by}
use Rattle.cov_overlay.proofs.overlay_of.paired_regions.Goals as goal

pub returns-in_err-count-clause-refused : goal.returns-in_err-count-clause-refused
returns-in_err-count-clause-refused c =
    let a = c.args.a.now in
    let b = c.args.b.now in
    let by_side : List (Option Pair) = c.in_ok-by_side.by_side.items in
    let pairs : List Pair = c.in_ok-pairs.pairs.items in
    let first : c.len.result ≡ length a = search rules in
    let exact = subst (λ (bs : List (Option Pair)). (pair : Pair) → Contains pairs pair ↔ Contains bs (Some pair)) c.deref-2.ensures.value c.in_ok-pairs.ensures.exact in
    let long : c.len-2.result ≡ length pairs = search rules in
    let p = err_from_is_err_and c.from_residual-in_err-count.result c.from_residual-in_err-count.ensures.1 in
    rw (p.1, p.2, c.in_err-count.ensures.many.1)
    (inr (record { few = c.requires.few; pairs = pairs; are_pairs = joint_pairs a b (joint_in_range a b c.requires.first c.requires.second c.requires.few) c.in_ok-live.live.edges.items c.in_ok-live.live.odd.items c.in_ok-live.ensures c.in_ok-labels.labels c.in_ok-labels.ensures c.len.result first by_side c.in_ok-by_side.ensures pairs c.in_ok-pairs.ensures.ascending exact; many = omega (arith, long, c.in_err-count.ensures.many.0); counted = long }))

pub places_of-requires-clause-among : goal.places_of-requires-clause-among
places_of-requires-clause-among c =
    let a = c.args.a.now in
    let b = c.args.b.now in
    let by_side : List (Option Pair) = c.in_ok-by_side.by_side.items in
    let pairs : List Pair = c.in_ok-pairs.pairs.items in
    let first : c.len.result ≡ length a = search rules in
    let exact = subst (λ (bs : List (Option Pair)). (pair : Pair) → Contains pairs pair ↔ Contains bs (Some pair)) c.deref-2.ensures.value c.in_ok-pairs.ensures.exact in
    subst (λ (bs : List (Option Pair)). All (λ pair. IfSome pair (Contains c.deref-4.result.now)) bs) (sym c.deref-3.ensures.value)
    (subst (λ (ps : List Pair). All (λ pair. IfSome pair (Contains ps)) by_side) (sym c.deref-4.ensures.value)
    (among a b (joint_in_range a b c.requires.first c.requires.second c.requires.few) c.in_ok-live.live.edges.items c.in_ok-live.live.odd.items c.in_ok-live.ensures c.in_ok-labels.labels c.in_ok-labels.ensures c.len.result first by_side c.in_ok-by_side.ensures pairs c.in_ok-pairs.ensures.ascending exact))

pub polygons-requires-clause-count : goal.polygons-requires-clause-count
polygons-requires-clause-count c =
    let a = c.args.a.now in
    let b = c.args.b.now in
    let by_side : List (Option Pair) = c.in_ok-by_side.by_side.items in
    let pairs : List Pair = c.in_ok-pairs.pairs.items in
    let first : c.len.result ≡ length a = search rules in
    let exact = subst (λ (bs : List (Option Pair)). (pair : Pair) → Contains pairs pair ↔ Contains bs (Some pair)) c.deref-2.ensures.value c.in_ok-pairs.ensures.exact in
    let owners : List (Option ℕ) = c.in_ok-owners.owners.items in
    let places = subst (λ (ps : List Pair). ArePlaces ps by_side owners) c.deref-4.ensures.value (subst (λ (bs : List (Option Pair)). ArePlaces c.deref-4.result.now bs owners) c.deref-3.ensures.value c.in_ok-owners.ensures) in
    let between : c.in_ok-arena.arena ≡ c.in_ok-live.live.edges.items = search rules in
    ap length c.deref-5.ensures.value
    ∙ owners_count a b (joint_in_range a b c.requires.first c.requires.second c.requires.few) c.in_ok-live.live.edges.items c.in_ok-live.live.odd.items c.in_ok-live.ensures c.in_ok-labels.labels c.in_ok-labels.ensures c.len.result first by_side c.in_ok-by_side.ensures pairs c.in_ok-pairs.ensures.ascending exact owners places
    ∙ ap (λ (es : List Seg). 2 * length es) (sym between)

pub polygons-requires-clause-below : goal.polygons-requires-clause-below
polygons-requires-clause-below c =
    let a = c.args.a.now in
    let b = c.args.b.now in
    let by_side : List (Option Pair) = c.in_ok-by_side.by_side.items in
    let pairs : List Pair = c.in_ok-pairs.pairs.items in
    let first : c.len.result ≡ length a = search rules in
    let exact = subst (λ (bs : List (Option Pair)). (pair : Pair) → Contains pairs pair ↔ Contains bs (Some pair)) c.deref-2.ensures.value c.in_ok-pairs.ensures.exact in
    let owners : List (Option ℕ) = c.in_ok-owners.owners.items in
    let places = subst (λ (ps : List Pair). ArePlaces ps by_side owners) c.deref-4.ensures.value (subst (λ (bs : List (Option Pair)). ArePlaces c.deref-4.result.now bs owners) c.deref-3.ensures.value c.in_ok-owners.ensures) in
    let long : c.len-2.result ≡ length pairs = search rules in
    let many : length pairs ≡ c.in_ok-count.count = sym (c.in_ok-count.ensures.few.0 ∙ long) in
    subst (λ (os : List (Option ℕ)). All (λ owner. IfSome owner (λ i. i < c.in_ok-count.count)) os) (sym c.deref-5.ensures.value)
    (subst (λ (n : ℕ). All (λ owner. IfSome owner (λ i. i < n)) owners) many
    (owners_below a b (joint_in_range a b c.requires.first c.requires.second c.requires.few) c.in_ok-live.live.edges.items c.in_ok-live.live.odd.items c.in_ok-live.ensures c.in_ok-labels.labels c.in_ok-labels.ensures c.len.result first by_side c.in_ok-by_side.ensures pairs c.in_ok-pairs.ensures.ascending exact owners places))

pub polygons-requires-clause-outer : goal.polygons-requires-clause-outer
polygons-requires-clause-outer c = λ n outer.
    (let a = c.args.a.now in
    let b = c.args.b.now in
    let by_side : List (Option Pair) = c.in_ok-by_side.by_side.items in
    let pairs : List Pair = c.in_ok-pairs.pairs.items in
    let first : c.len.result ≡ length a = search rules in
    let exact = subst (λ (bs : List (Option Pair)). (pair : Pair) → Contains pairs pair ↔ Contains bs (Some pair)) c.deref-2.ensures.value c.in_ok-pairs.ensures.exact in
    let owners : List (Option ℕ) = c.in_ok-owners.owners.items in
    let places = subst (λ (ps : List Pair). ArePlaces ps by_side owners) c.deref-4.ensures.value (subst (λ (bs : List (Option Pair)). ArePlaces c.deref-4.result.now bs owners) c.deref-3.ensures.value c.in_ok-owners.ensures) in
    let between : c.in_ok-arena.arena ≡ c.in_ok-live.live.edges.items = search rules in
    ap (λ (os : List (Option ℕ)). owner_in os n) c.deref-5.ensures.value
    ∙ outer_free a b (joint_in_range a b c.requires.first c.requires.second c.requires.few) c.in_ok-live.live.edges.items c.in_ok-live.live.odd.items c.in_ok-live.ensures c.in_ok-labels.labels c.in_ok-labels.ensures c.len.result first by_side c.in_ok-by_side.ensures pairs c.in_ok-pairs.ensures.ascending exact owners places
    n (subst (λ (es : List Seg). IsOuterRegion es n) between outer))

pub returns-clause-overlaid : goal.returns-clause-overlaid
returns-clause-overlaid c =
    let a = c.args.a.now in
    let b = c.args.b.now in
    let by_side : List (Option Pair) = c.in_ok-by_side.by_side.items in
    let pairs : List Pair = c.in_ok-pairs.pairs.items in
    let first : c.len.result ≡ length a = search rules in
    let exact = subst (λ (bs : List (Option Pair)). (pair : Pair) → Contains pairs pair ↔ Contains bs (Some pair)) c.deref-2.ensures.value c.in_ok-pairs.ensures.exact in
    let owners : List (Option ℕ) = c.in_ok-owners.owners.items in
    let places = subst (λ (ps : List Pair). ArePlaces ps by_side owners) c.deref-4.ensures.value (subst (λ (bs : List (Option Pair)). ArePlaces c.deref-4.result.now bs owners) c.deref-3.ensures.value c.in_ok-owners.ensures) in
    let between : c.in_ok-arena.arena ≡ c.in_ok-live.live.edges.items = search rules in
    let long : c.len-2.result ≡ length pairs = search rules in
    overlaid_by a b (joint_in_range a b c.requires.first c.requires.second c.requires.few) c.in_ok-live.live.edges.items c.in_ok-live.live.odd.items c.in_ok-live.ensures c.in_ok-labels.labels c.in_ok-labels.ensures c.len.result first by_side c.in_ok-by_side.ensures pairs c.in_ok-pairs.ensures.ascending exact owners places
    c.in_ok-arena.arena c.deref-5.result.now c.in_ok-count.count between c.deref-5.ensures.value (c.in_ok-count.ensures.few.0 ∙ long) c.in_ok-coverage.coverage c.in_ok-coverage.ensures.polygons
