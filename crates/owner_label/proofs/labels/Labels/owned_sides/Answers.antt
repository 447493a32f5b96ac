use Rattle.std.proofs.Common.{◌≡◌, ◌∙◌, ◌++◌, ◌∷◌, [], ◌+◌, ap, sym, subst, All, List, Vec, Global, take, sum_by, arith}
use Rattle.std.proofs.lemmas.List.{take_all}
use Rattle.std.proofs.lemmas.List.Elements.{All-push}
use Rattle.owner_label.specs.Labelled.{owner_in}
use Rattle.owner_label.specs.Lists.{sided_of}
use Rattle.owner_label.specs.OwnedSides.{IsOwnedSide, owned_length}
use Rattle.owner_label.specs.Sides.{side_length, is_owned}
use Rattle.owner_label.specs.declared.owned_side.OwnedSide.{OwnedSide}
use Rattle.owner_label.proofs.OwnedSides.{owned_same, owned_more}
use Rattle.owner_label.proofs.Overlays.{sides_within, sides_here, sides_small}
use Rattle.owner_label.proofs.Ready.{tables_of}
use Rattle.owner_label.proofs.Sums.{border_is}
use Rattle.owner_label.proofs.labels.Labels.owned_sides.Goals.{in-Some+in_ok-push, in_default}
use Rattle.owner_label.proofs.labels.Labels.owned_sides.Goals as goal

pub group-side-items-requires : goal.group-side-items-requires
group-side-items-requires c =
    let region = rw (← c.self.view_is) at c.requires.region in
    record { within = sides_within (sided_of (record { edges = c.self.inside.edges.now; odd = c.self.inside.odd.now }) c.self.invariant.numbers) c.self.invariant.tables.sided c.self.inside.sides c.self.invariant.tables.sides c.args.region region }

pub owned_side-requires-clause-within : goal.owned_side-requires-clause-within
owned_side-requires-clause-within c = rw (← c.self.view_is) (omega (arith, c.of_number.ensures, (sides_small (sided_of (record { edges = c.self.inside.edges.now; odd = c.self.inside.odd.now }) c.self.invariant.numbers) c.self.invariant.tables.sided c.self.inside.sides c.self.invariant.tables.sides c.args.region c.group-side-items.result.now c.group-side-items.ensures) c.loop-side.side-index 0 c.loop-side-test.true))

pub loop-side-preserved : goal.loop-side-preserved
loop-side-preserved c =
    let items = c.group-side-items.result.now in
    let before : List OwnedSide = c.loop-side.list.items in
    elim c.match-owned_side.branch [
      | in-Some+in_ok-push w ↦
          let pushed : c.match-owned_side.list.items ≡ before ++ w.in-Some.owned ∷ [] = ap (λ (v : Vec OwnedSide Global). v.items) w.list-is ∙ w.in_ok-push.ensures.items in
          record {
            sum = λ o member overlay. owned_more (side_length o (is_owned o (owner_in c.args.owners.now) member)) items c.loop-side.side-index member before c.loop-side-test.true (c.loop-side.invariant.sum o member overlay)
                c.owned_side.result w.in-Some.owned c.match-owned_side.list.items w.in-Some.is (c.owned_side.ensures.exact o member overlay ∙ ap (side_length o (is_owned o (owner_in c.args.owners.now) member)) c.of_number.ensures) pushed;
            each = subst (λ (xs : List OwnedSide). All (IsOwnedSide c.args.owners.now) xs) (sym pushed) (All-push (IsOwnedSide c.args.owners.now) before w.in-Some.owned c.loop-side.invariant.each w.in-Some.ensures.each);
          }
      | in_default w ↦
          let same : c.match-owned_side.list.items ≡ before = ap (λ (v : Vec OwnedSide Global). v.items) w.list-is in
          record {
            sum = λ o member overlay. subst (λ (xs : List OwnedSide). owned_length xs member ≡ sum_by (side_length o (is_owned o (owner_in c.args.owners.now) member)) (take (c.loop-side.side-index + 1) items)) (sym same)
                (owned_same (side_length o (is_owned o (owner_in c.args.owners.now) member)) items c.loop-side.side-index member before c.loop-side-test.true (c.loop-side.invariant.sum o member overlay)
                c.owned_side.result w.in_default.is (c.owned_side.ensures.exact o member overlay ∙ ap (side_length o (is_owned o (owner_in c.args.owners.now) member)) c.of_number.ensures));
            each = subst (λ (xs : List OwnedSide). All (IsOwnedSide c.args.owners.now) xs) (sym same) c.loop-side.invariant.each;
          }
    ]

pub returns-clause-borders : goal.returns-clause-borders
returns-clause-borders c =
    let sum = rw (← c.self.view_is) at c.loop-side.invariant.sum in
    rw (← c.self.view_is) (λ o member overlay.
    let tables = tables_of (record { edges = c.self.inside.edges.now; odd = c.self.inside.odd.now }) c.self.inside.regions.now c.self.inside.labels c.self.inside.sides c.self.invariant o overlay in
    let items = sides_here (sided_of (record { edges = c.self.inside.edges.now; odd = c.self.inside.odd.now }) o.numbers) tables.sided c.self.inside.sides tables.sides c.args.region c.group-side-items.result.now c.group-side-items.ensures in
    sum o member overlay ∙ ap (λ ns. sum_by (side_length o (is_owned o (owner_in c.args.owners.now) member)) ns) (take_all c.loop-side.side-index c.group-side-items.result.now c.loop-side-test.false)
    ∙ border_is (record { edges = c.self.inside.edges.now; odd = c.self.inside.odd.now }) o overlay tables.sided c.args.region (is_owned o (owner_in c.args.owners.now) member) c.group-side-items.result.now items)
