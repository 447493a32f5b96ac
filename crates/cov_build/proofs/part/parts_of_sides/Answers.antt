use Rattle.std.proofs.Common.{◌≡◌, sym, ◌∙◌, ap, subst, ℕ, ◌*◌, ◌+◌, ◌<◌, length, List, arith}
use Rattle.std.specs.Prelude.{option_map, IfSome, slice_index}
use Rattle.std.proofs.lemmas.List.{length_push}
use Rattle.std.proofs.lemmas.List.Elements.{All-push}
use Rattle.components.specs.Connected.{AreComponents}
use Rattle.plane.specs.Region.{AreRegions}
use Rattle.cov_build.specs.Parted.{AreOwnerLinks, IsPartAt, AreBelow}
use Rattle.cov_build.specs.Owners.{owner_in}
use Rattle.cov_build.proofs.OwnerLinks.{ArePartsTo, part_is, part_below, parts_more, parts_all}
use Rattle.cov_build.proofs.part.parts_of_sides.Goals as goal

pub loop-side-preserved : goal.loop-side-preserved
loop-side-preserved c =
    let side = c.loop-side.side in
    let region = c.region_of-region.result in
    let owners = c.args.owners.now in
    let pushed = c.in_ok-push.ensures.items in
    let part = c.part_of_region.result in
    let connected : AreComponents (2 * c.args.edges) c.in_ok-links.links.items c.in_ok-least.least.items =
    subst (λ links. AreComponents (2 * c.args.edges) links c.in_ok-least.least.items) c.deref.ensures.value c.in_ok-least.ensures in
    let found : part ≡ option_map (λ (i : ℕ). record { least = slice_index c.in_ok-least.least.items region }) (owner_in owners region) =
    c.part_of_region.ensures ∙ ap (λ (xs : List ℕ). option_map (λ (i : ℕ). record { least = slice_index xs region }) (owner_in owners region)) c.deref-in-loop-side.ensures.value in
    let below : region < 2 * c.args.edges = omega (arith, c.region_of-region.ensures.within, c.requires.edges) in
    record {
      parts = λ o same regions. (
          let is : region ≡ slice_index o.numbers side = c.region_of-region.ensures.numbering o.numbers (subst (λ es. AreRegions es o.numbers) same regions) in
          let count : c.args.edges ≡ length o.edges = omega (arith, c.requires.edges, ap length same) in
          let links = subst (λ n. AreOwnerLinks o (owner_in owners) n c.in_ok-links.links.items) count (c.in_ok-links.ensures.links o same regions) in
          subst (ArePartsTo o (owner_in owners) (side + 1)) (sym pushed)
          (parts_more o (owner_in owners) side c.loop-side.parts.items part
          (subst (IsPartAt o (owner_in owners) (slice_index o.numbers side)) (sym found)
          (subst (λ n. IsPartAt o (owner_in owners) n (option_map (λ (i : ℕ). record { least = slice_index c.in_ok-least.least.items region }) (owner_in owners region))) is
          (part_is o (owner_in owners) c.in_ok-links.links.items links (2 * c.args.edges) c.in_ok-least.least.items connected region below)))
          (c.loop-side.invariant.parts o same regions))
          );
      count = ap length pushed ∙ length_push c.loop-side.parts.items part ∙ ap (λ n. n + 1) c.loop-side.invariant.count;
      below = subst (λ ps. AreBelow ps (2 * c.args.edges)) (sym pushed) (All-push (λ p. IfSome p (λ q. q.least < 2 * c.args.edges)) c.loop-side.parts.items part c.loop-side.invariant.below
          (subst (λ p. IfSome p (λ q. q.least < 2 * c.args.edges)) (sym found) (part_below c.in_ok-links.links.items (2 * c.args.edges) c.in_ok-least.least.items connected region below (owner_in owners region))));
    }

pub returns-clause-parts : goal.returns-clause-parts
returns-clause-parts c = λ o same regions. parts_all o (owner_in c.args.owners.now) c.loop-side.side c.loop-side.parts.items (omega (arith, c.loop-side-test.false, c.loop-side.auto.side-end, c.requires.edges, ap length same)) (c.loop-side.invariant.parts o same regions)

pub returns-clause-count : goal.returns-clause-count
returns-clause-count c = omega (arith, c.loop-side.invariant.count, c.loop-side-test.false, c.loop-side.auto.side-end)
