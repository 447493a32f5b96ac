-- The sides of live edges, with their regions.
use mathlib.Core.List.{[], ◌∷◌}
use Rattle.std.proofs.Common.{◌≡◌, refl, ◌∙◌, ap, subst, ℕ, ◌<◌, ◌==◌, ◌↔◌, true, false, List, length, IsTrue, Option, Some, None, inl, inr}
use Rattle.std.specs.Prelude.{All, IsNone, IfSome}
use Rattle.std.specs.List.{list_any}
use Rattle.std.proofs.lemmas.Bool.{both_ways, cases_Bool, or_cases}
use Rattle.cov_types.specs.declared.seg.Seg.{Seg}
use Rattle.cov_types.specs.Uses.{HasEvenEnds}
use Rattle.plane.specs.Point.{Point}
use Rattle.plane.specs.Region.{IsRegionOf, IsOuter, IsOuterRegion, AreRegions}
use Rattle.crossing_laws.proofs.Located.{one_region}
use Rattle.sector_laws.specs.Sector.{IsPlanar, AreDistinct}
use Rattle.arrangement.specs.declared.odd_use.OddUse.{OddUse}
use Rattle.arrangement.specs.Noding.{odd_uses}
use Rattle.counting_sort.specs.Grouped.{IsGrouped}
use Rattle.owner_label.specs.Labelled.{Labelled}
use Rattle.owner_label.specs.Lists.{AreRegionLabels, sided_of, AreLabels}
use Rattle.owner_label.specs.Members.{has, members_of}
use Rattle.owner_label.specs.Sided.{Sided, AreSided, region_on, IsOuterOf}
use Rattle.owner_label.proofs.Ascending.{has_first}
use Rattle.owner_label.proofs.Toggles.{AreOddAscending, members_chosen, members_skipped}

-- an edge that some odd pair names is odd for its member
used_member : (odd : List OddUse) (k : ℕ) → list_any (λ o. o.edge == k) odd ≡ true → (m : ℕ) × (has (members_of odd k) m ≡ true)
used_member [] k h = absurd (both_ways false refl h)
used_member (o ∷ odd) k h =
    elim (cases_Bool (o.edge == k)) [
      | inl is ↦ (o.member, ap (λ xs. has xs o.member) (members_chosen o odd k is) ∙ has_first o.member (members_of odd k))
      | inr other ↦ elim (or_cases (o.edge == k) (list_any (λ p. p.edge == k) odd) h) [
        | inl is ↦ absurd (both_ways (o.edge == k) other is)
        | inr later ↦ (let (m, in_rest) = used_member odd k later in (m, ap (λ xs. has xs m) (members_skipped o odd k other) ∙ in_rest))
      ]
    ]

pub built : (edges : List Seg) (odd : List OddUse) (regions : List ℕ) → IsPlanar edges → AreDistinct edges → AreOddAscending odd → All (λ o. o.edge < length edges) odd
    → ((k : ℕ) → k < length edges → IsTrue (list_any (λ o. o.edge == k) odd)) → HasEvenEnds (odd_uses edges odd) → AreRegions edges regions
    → AreSided (record { edges = edges; odd = odd; regions = regions })
built edges odd regions planar distinct ascending places used even numbered = record {
  planar = planar;
  distinct = distinct;
  ascending = ascending;
  places = places;
  used = λ k inside. used_member odd k (used k inside);
  even = even;
  numbered = numbered;
}

-- the same of the edges that were walked
pub built_from : (edges walked : List Seg) (odd : List OddUse) (regions : List ℕ) → walked ≡ edges
    → IsPlanar walked → AreDistinct walked → AreOddAscending odd → All (λ o. o.edge < length edges) odd → ((k : ℕ) → k < length edges → IsTrue (list_any (λ o. o.edge == k) odd))
    → HasEvenEnds (odd_uses edges odd) → AreRegions walked regions → AreSided (record { edges = edges; odd = odd; regions = regions })
built_from edges walked odd regions is_walked planar distinct ascending places used even numbered =
    built edges odd regions (subst (λ es. IsPlanar es) is_walked planar) (subst (λ es. AreDistinct es) is_walked distinct) ascending places used even
    (subst (λ es. AreRegions es regions) is_walked numbered)

-- the outer region of the regions
pub outer_of : (s : Sided) → AreSided s → (outer : Option ℕ) → (IsNone outer ↔ (s.edges ≡ [])) → IfSome outer (λ r. IsOuterRegion s.edges r)
    → IfSome outer (λ r. (p : Point) → IsOuter s.edges p → IsRegionOf s.edges p r) → IsOuterOf s outer
outer_of s sided None none outer region = none.0 refl
outer_of s sided (Some r) none outer region = let side = outer.outer in (outer, one_region s.edges side.at (region_on s r) r (sided.numbered.each r side.at side.side) (region side.at side.outer))

pub outer_from : (s : Sided) → AreSided s → (edges : List Seg) → edges ≡ s.edges → (outer : Option ℕ) → (IsNone outer ↔ (edges ≡ [])) → IfSome outer (λ r. IsOuterRegion edges r)
    → IfSome outer (λ r. (p : Point) → IsOuter edges p → IsRegionOf edges p r) → IsOuterOf s outer
outer_from s sided edges same outer none is region =
    outer_of s sided outer (subst (λ es. IsNone outer ↔ (es ≡ [])) same none) (subst (λ es. IfSome outer (λ r. IsOuterRegion es r)) same is)
    (subst (λ es. IfSome outer (λ r. (p : Point) → IsOuter es p → IsRegionOf es p r)) same region)

-- the labels of the sides are those of the edges and the odd pairs
pub built_labels : (s : Sided) (l : Labelled) (walked : List Seg) (table groups : List (List ℕ)) → s.edges ≡ l.edges → s.odd ≡ l.odd → walked ≡ l.edges → AreSided s → AreRegionLabels s table
    → IsGrouped s.regions (length s.regions) groups → AreLabels l walked table groups
built_labels s l walked table groups edges odd walks sided labels sides =
    let same : s ≡ sided_of l s.regions = λ i. record { edges = edges i; odd = odd i; regions = s.regions } in
    record { walked_edges = walks; numbers = s.regions; tables = record { sided = subst AreSided same sided; labels = subst (λ t. AreRegionLabels t table) same labels; sides = sides } }
