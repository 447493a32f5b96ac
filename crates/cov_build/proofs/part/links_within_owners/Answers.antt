use Rattle.std.proofs.Common.{◌≡◌, sym, ◌∙◌, ap, subst, ◌*◌, ◌+◌, ◌<◌, ◌++◌, [], ◌∷◌, length, List, arith, true≢false}
use Rattle.std.proofs.lemmas.List.Elements.{All-push}
use Rattle.std.specs.Global.{Vec}
use Rattle.components.specs.declared.link.Link.{Link}
use Rattle.components.specs.Connected.{AreLinksWithin}
use Rattle.plane.specs.Region.{AreRegions}
use Rattle.cov_build.specs.Parted.{AreOwnerLinks}
use Rattle.cov_build.specs.Owners.{owner_in}
use Rattle.cov_build.proofs.OwnerLinks.{owner_is, links_none, links_same, links_more}
use Rattle.cov_build.proofs.part.links_within_owners.Goals.{then-have_one_owner+in_ok-push, else-have_one_owner}
use Rattle.cov_build.proofs.part.links_within_owners.Goals as goal

pub loop-edge-preserved : goal.loop-edge-preserved
loop-edge-preserved c =
    let k = c.loop-edge.edge in
    let from = c.region_of-from.result in
    let to = c.region_of-to.result in
    let owners = c.args.owners.now in
    let more : List Link = c.loop-edge.links.items ++ record { from = from; to = to } ∷ [] in
    elim c.if-have_one_owner.branch [
      | then-have_one_owner+in_ok-push w ↦ (
          let pushed = w.in_ok-push.ensures.items in
          let is : c.if-have_one_owner.links.items ≡ more = ap (λ (v : Vec Link). v.items) w.links-is ∙ pushed in
          let one = c.have_one_owner.ensures.one w.if-have_one_owner.true in
          record {
            links = λ o same regions. subst (AreOwnerLinks o (owner_in owners) (k + 1)) (sym is)
                (links_more o (owner_in owners) k c.loop-edge.links.items (omega (arith, c.loop-edge-test.true, c.requires.edges, ap length same)) from to
                (c.region_of-from.ensures.numbering o.numbers (subst (λ es. AreRegions es o.numbers) same regions)) (c.region_of-to.ensures.numbering o.numbers (subst (λ es. AreRegions es o.numbers) same regions))
                (c.loop-edge.invariant.links o same regions) one.0 (owner_is owners from ∙ one.1.0) (owner_is owners to ∙ one.1.1));
            within = subst (AreLinksWithin (2 * c.args.edges)) (sym is) (All-push (λ l. (l.from < 2 * c.args.edges) × (l.to < 2 * c.args.edges)) c.loop-edge.links.items (record { from = from; to = to })
                c.loop-edge.invariant.within (omega (arith, c.region_of-from.ensures.within, c.requires.edges), omega (arith, c.region_of-to.ensures.within, c.requires.edges)));
          }
          )
      | else-have_one_owner w ↦ (
          let is : c.if-have_one_owner.links.items ≡ c.loop-edge.links.items = ap (λ (v : Vec Link). v.items) w.links-is in
          record {
            links = λ o same regions. subst (AreOwnerLinks o (owner_in owners) (k + 1)) (sym is)
                (links_same o (owner_in owners) k c.loop-edge.links.items (omega (arith, c.loop-edge-test.true, c.requires.edges, ap length same)) from to
                (c.region_of-from.ensures.numbering o.numbers (subst (λ es. AreRegions es o.numbers) same regions)) (c.region_of-to.ensures.numbering o.numbers (subst (λ es. AreRegions es o.numbers) same regions))
                (c.loop-edge.invariant.links o same regions)
                (λ i a b. true≢false (sym (c.have_one_owner.ensures.any i (sym (owner_is owners from) ∙ a) (sym (owner_is owners to) ∙ b)) ∙ w.if-have_one_owner.false)));
            within = subst (AreLinksWithin (2 * c.args.edges)) (sym is) c.loop-edge.invariant.within;
          }
          )
    ]

pub loop-edge-init : goal.loop-edge-init
loop-edge-init c = record {
  links = λ o same regions. links_none o (owner_in c.args.owners.now) c.new-links.result.items c.new-links.ensures.items;
  within = (let none = c.new-links.ensures.items in λ i d below. absurd (omega (arith, below, ap length none)));
}
