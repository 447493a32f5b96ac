-- The sides of each region, by its number.
use Rattle.std.proofs.Common.{◌≡◌, ◌∙◌, ◌*◌, ◌<◌, sym, ap, subst, ℕ, List, length, get_or, All, arith}
use Rattle.std.specs.Prelude.{Contains}
use Rattle.cov_types.specs.declared.seg.Seg.{Seg}
use Rattle.plane.specs.Region.{AreRegions}
use Rattle.crossing_laws.proofs.Located.{one_numbering}
use Rattle.counting_sort.specs.Grouped.{IsGrouped, places_of}
use Rattle.owner_label.proofs.Listing.{group_is, group_contains, group_within}
use Rattle.fault_map.specs.Beyond.{AreSidesByRegion}

module _ (edges : List Seg) (numbers : List ℕ) (groups : List (List ℕ)) (regions : AreRegions edges numbers) (grouped : IsGrouped numbers (length numbers) groups) where
  pub grouped_sides : AreSidesByRegion edges groups
  grouped_sides = record {
    count = grouped.long ∙ regions.count;
    within = λ r sides at.
        let is = group_is numbers (length numbers) groups grouped r sides at in
        subst (λ ns. All (λ n. n < 2 * length edges) ns) (sym is) (subst (λ many. All (λ n. n < many) (places_of numbers r)) regions.count (group_within numbers r));
    each = λ o same numbered r sides at n.
        let is = group_is numbers (length numbers) groups grouped r sides at in
        let own : numbers ≡ o.numbers = one_numbering edges numbers o.numbers regions (subst (λ (es : List Seg). AreRegions es o.numbers) same numbered) in
        let long : length numbers ≡ 2 * length o.edges = regions.count ∙ ap (λ (es : List Seg). 2 * length es) (sym same) in
        let has = group_contains numbers r n in (
          (λ h. (let its = has.0 (subst (λ ns. Contains ns n) is h) in (omega (arith, its.0, long), ap (λ ns. get_or ns n 0) (sym own) ∙ its.1))),
          (λ h. subst (λ ns. Contains ns n) (sym is) (has.1 (omega (arith, h.0, long), ap (λ ns. get_or ns n 0) own ∙ h.1))),
        );
  }
