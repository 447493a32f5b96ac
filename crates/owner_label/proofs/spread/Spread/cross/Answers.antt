use Rattle.std.proofs.Common.{refl, ap, sym, ◌∙◌, arith}
use Rattle.std.proofs.lemmas.List.{get_or_read}
use Rattle.std.proofs.lemmas.Result.{on_ok_weaker}
use Rattle.counting_sort.specs.Grouped.{places_of}
use Rattle.owner_label.specs.Members.{pair_edges}
use Rattle.owner_label.specs.Sided.{region_on}
use Rattle.owner_label.proofs.Spreading.{label_ascends, pairs_ready, reach_over, crossed_one}
use Rattle.owner_label.proofs.spread.Spread.cross.Goals as goal

pub toggle-requires-clause-places : goal.toggle-requires-clause-places
toggle-requires-clause-places c = rw c.odd.ensures.odd (pairs_ready c.args.map.now c.odd.ensures.sided c.args.pairs.now c.requires.pairs _ c.group.result.now c.group.ensures).1

pub toggle-requires-clause-label : goal.toggle-requires-clause-label
toggle-requires-clause-label c =
    label_ascends c.args.map.now c.odd.ensures.sided c.args.self.now c.requires.spread c.args.side.number c.requires.within c.requires.reached c.region-from.result c.region-from.ensures.region

pub toggle-requires-clause-members : goal.toggle-requires-clause-members
toggle-requires-clause-members c = rw c.odd.ensures.odd (pairs_ready c.args.map.now c.odd.ensures.sided c.args.pairs.now c.requires.pairs _ c.group.result.now c.group.ensures).2

pub returns-clause-spread : goal.returns-clause-spread
returns-clause-spread c =
    let places = (pairs_ready c.args.map.now c.odd.ensures.sided c.args.pairs.now c.requires.pairs _ c.group.result.now c.group.ensures).0 ∙ ap (places_of (pair_edges c.args.map.now.odd)) c.edge.ensures in
    let over = c.region-over.ensures.region ∙ ap (region_on c.args.map.now) c.twin.ensures.across in
    let fresh = sym (get_or_read c.args.self.now.reached.items c.region-over.result c.index.result.now (omega (arith, c.region-over.ensures.within, c.requires.spread.reached, c.odd.ensures.sided.numbered.count)) c.index.ensures _) ∙ c.if-index.false in
    let toggled = rw c.odd.ensures.odd at c.in_ok-toggle.ensures in
    on_ok_weaker c.reach.result (λ now. (reach_over c.args.map.now c.odd.ensures.sided c.args.self.now c.requires.spread c.args.side.number c.requires.within c.requires.reached c.region-from.result c.region-from.ensures.region
    _ c.reach.new.self c.region-over.result c.group.result.now places over fresh toggled refl refl now).0) c.reach.ensures

pub returns-clause-grows : goal.returns-clause-grows
returns-clause-grows c =
    let places = (pairs_ready c.args.map.now c.odd.ensures.sided c.args.pairs.now c.requires.pairs _ c.group.result.now c.group.ensures).0 ∙ ap (places_of (pair_edges c.args.map.now.odd)) c.edge.ensures in
    let over = c.region-over.ensures.region ∙ ap (region_on c.args.map.now) c.twin.ensures.across in
    let fresh = sym (get_or_read c.args.self.now.reached.items c.region-over.result c.index.result.now (omega (arith, c.region-over.ensures.within, c.requires.spread.reached, c.odd.ensures.sided.numbered.count)) c.index.ensures _) ∙ c.if-index.false in
    let toggled = rw c.odd.ensures.odd at c.in_ok-toggle.ensures in
    on_ok_weaker c.reach.result (λ now. (reach_over c.args.map.now c.odd.ensures.sided c.args.self.now c.requires.spread c.args.side.number c.requires.within c.requires.reached c.region-from.result c.region-from.ensures.region
    _ c.reach.new.self c.region-over.result c.group.result.now places over fresh toggled refl refl now).1) c.reach.ensures

pub returns-clause-crossed : goal.returns-clause-crossed
returns-clause-crossed c =
    let places = (pairs_ready c.args.map.now c.odd.ensures.sided c.args.pairs.now c.requires.pairs _ c.group.result.now c.group.ensures).0 ∙ ap (places_of (pair_edges c.args.map.now.odd)) c.edge.ensures in
    let over = c.region-over.ensures.region ∙ ap (region_on c.args.map.now) c.twin.ensures.across in
    let fresh = sym (get_or_read c.args.self.now.reached.items c.region-over.result c.index.result.now (omega (arith, c.region-over.ensures.within, c.requires.spread.reached, c.odd.ensures.sided.numbered.count)) c.index.ensures _) ∙ c.if-index.false in
    let toggled = rw c.odd.ensures.odd at c.in_ok-toggle.ensures in
    on_ok_weaker c.reach.result (λ now. crossed_one c.args.map.now c.reach.new.self c.args.side.number c.region-over.result over (reach_over c.args.map.now c.odd.ensures.sided c.args.self.now c.requires.spread c.args.side.number c.requires.within c.requires.reached c.region-from.result c.region-from.ensures.region
    _ c.reach.new.self c.region-over.result c.group.result.now places over fresh toggled refl refl now).2) c.reach.ensures
