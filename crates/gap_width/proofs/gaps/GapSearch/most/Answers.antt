use Rattle.std.proofs.Common.{◌≡◌, ◌∙◌, sym, subst, ◌*◌, ◌<◌, List, length, true≢false, arith}
use Rattle.std.proofs.lemmas.Option.{same_Some}
use Rattle.crossing_laws.proofs.Located.{side_within}
use Rattle.counting_sort.specs.Grouped.{places_of}
use Rattle.gap_width.specs.Own.{AreOwn}
use Rattle.distance_laws.specs.Room.{doubled}
use Rattle.gap_width.specs.declared.own.OwnEdge.{OwnEdge}
use Rattle.gap_width.specs.Search.{IsWithinBlock, StandFor, IsKnown, IsBest, IsMost}
use Rattle.gap_width.proofs.OwnSides.{are_own}
use Rattle.gap_width.proofs.Blocks.{if_ok, after_some, stand_for_all}
use Rattle.gap_width.proofs.Most.{most_is, none_is, places_below, has_edge, some_of}
use Rattle.gap_width.proofs.gaps.GapSearch.most.Goals as goal

pub group-requires : goal.group-requires
group-requires c =
    let region = rw (← c.self.view_is) at c.requires.region in
    let below = side_within c.self.inside.edges.now c.args.region region.at region.side in
    record { within = omega (arith, below, c.self.invariant.grouped.long) }

pub own_edges-requires-clause-within : goal.own_edges-requires-clause-within
own_edges-requires-clause-within c =
    let region = rw (← c.self.view_is) at c.requires.region in
    let below = side_within c.self.inside.edges.now c.args.region region.at region.side in
    let sides_are : c.group.result.now ≡ places_of c.self.invariant.numbers c.args.region = same_Some _ _ (sym c.group.ensures ∙ c.self.invariant.grouped.each c.args.region below) in
    places_below c.self.invariant.numbers c.args.region (2 * length c.self.inside.edges.now) c.group.result.now c.self.invariant.regions.count sides_are

pub block_inside-requires-clause-some : goal.block_inside-requires-clause-some
block_inside-requires-clause-some c =
    let region = rw (← c.self.view_is) at c.requires.region in
    let below = side_within c.self.inside.edges.now c.args.region region.at region.side in
    let sides_are : c.group.result.now ≡ places_of c.self.invariant.numbers c.args.region = same_Some _ _ (sym c.group.ensures ∙ c.self.invariant.grouped.each c.args.region below) in
    let inner = rw (← c.self.view_is) at c.requires.not_outer in
    let own = are_own c.self.inside.edges.now c.self.invariant.planar c.self.invariant.distinct c.args.region inner c.self.invariant.numbers c.self.invariant.regions c.group.result.now c.in_ok-own.own.items sides_are c.in_ok-own.ensures in
    let (e, edge) = has_edge c.self.inside.edges.now c.args.region region in
    subst (λ xs. 0 < length xs) (sym c.deref.ensures.value) (some_of c.in_ok-own.own.items e ((own.each e).0 edge))

pub measure-whole-requires-clause-some : goal.measure-whole-requires-clause-some
measure-whole-requires-clause-some c =
    let region = rw (← c.self.view_is) at c.requires.region in
    let below = side_within c.self.inside.edges.now c.args.region region.at region.side in
    let sides_are : c.group.result.now ≡ places_of c.self.invariant.numbers c.args.region = same_Some _ _ (sym c.group.ensures ∙ c.self.invariant.grouped.each c.args.region below) in
    let inner = rw (← c.self.view_is) at c.requires.not_outer in
    let own = are_own c.self.inside.edges.now c.self.invariant.planar c.self.invariant.distinct c.args.region inner c.self.invariant.numbers c.self.invariant.regions c.group.result.now c.in_ok-own.own.items sides_are c.in_ok-own.ensures in
    let (e, edge) = has_edge c.self.inside.edges.now c.args.region region in
    subst (λ xs. 0 < length xs) (sym c.deref-in-Some.ensures.value) (some_of c.in_ok-own.own.items e ((own.each e).0 edge))

pub returns-in-None-clause-most : goal.returns-in-None-clause-most
returns-in-None-clause-most c =
    rw (← c.self.view_is) (
    let region = rw (← c.self.view_is) at c.requires.region in
    let below = side_within c.self.inside.edges.now c.args.region region.at region.side in
    let sides_are : c.group.result.now ≡ places_of c.self.invariant.numbers c.args.region = same_Some _ _ (sym c.group.ensures ∙ c.self.invariant.grouped.each c.args.region below) in
    let inner = rw (← c.self.view_is) at c.requires.not_outer in
    let edges = c.self.inside.edges.now in
    let r = c.args.region in
    let own = are_own edges c.self.invariant.planar c.self.invariant.distinct r inner c.self.invariant.numbers c.self.invariant.regions c.group.result.now c.in_ok-own.own.items sides_are c.in_ok-own.ensures in
    none_is edges c.self.invariant.planar c.self.invariant.distinct r inner c.args.enough c.args.best (c.in-None.ensures.wide edges r (subst (AreOwn edges r) (sym c.deref.ensures.value) own)))

pub returns-clause-most : goal.returns-clause-most
returns-clause-most c =
    rw (← c.self.view_is) (
    let region = rw (← c.self.view_is) at c.requires.region in
    let below = side_within c.self.inside.edges.now c.args.region region.at region.side in
    let sides_are : c.group.result.now ≡ places_of c.self.invariant.numbers c.args.region = same_Some _ _ (sym c.group.ensures ∙ c.self.invariant.grouped.each c.args.region below) in
    let inner = rw (← c.self.view_is) at c.requires.not_outer in
    let edges = c.self.inside.edges.now in
    let r = c.args.region in
    let own = are_own edges c.self.invariant.planar c.self.invariant.distinct r inner c.self.invariant.numbers c.self.invariant.regions c.group.result.now c.in_ok-own.own.items sides_are c.in_ok-own.ensures in
    let same : c.deref-in-Some-3.result.now ≡ c.deref-in-Some-4.result.now = c.deref-in-Some-3.ensures.value ∙ sym c.deref-in-Some-4.ensures.value in
    let whole = c.measure-whole.result.block in
    let is_whole = c.measure-whole.ensures.block in
    let stand : StandFor c.deref-in-Some-3.result.now c.deref-in-Some-4.result.now whole = subst (λ xs. StandFor c.deref-in-Some-3.result.now xs whole) same (stand_for_all c.deref-in-Some-3.result.now whole) in
    let unknown : (xs : List OwnEdge) → AreOwn edges r xs → IsKnown edges r whole = λ xs are t. absurd (true≢false (sym t ∙ (λ i. (is_whole i).inside) ∙ c.in-Some.ensures.unknown)) in
    let own3 = subst (AreOwn edges r) (sym c.deref-in-Some-3.ensures.value) own in
    let own2 = subst (AreOwn edges r) (sym c.deref-in-Some-2.ensures.value) own in
    let before = c.in_ok-most-in-Some.ensures.some edges r own2 (unknown _ own2) in
    if_ok (IsBest edges r c.args.enough whole c.in_ok-most-in-Some.most) (IsMost edges r c.args.enough c.args.best) c.most_room.result
    (c.most_room.ensures.best edges r own3 stand (unknown _ own3))
    (λ found best. most_is edges c.self.invariant.planar c.self.invariant.distinct r inner c.args.enough c.args.best found whole
    (λ q in_box. subst (λ b. IsWithinBlock b (doubled q)) (sym is_whole) (c.in-Some.ensures.wide edges r (subst (AreOwn edges r) (sym c.deref.ensures.value) own) q in_box))
    (after_some edges r c.args.enough whole c.args.best c.in_ok-most-in-Some.most found before best)))
