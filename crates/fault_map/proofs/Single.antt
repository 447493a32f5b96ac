-- The one polygon of an owner of one region.
use Rattle.std.proofs.Common.{◌≡◌, refl, sym, ◌∙◌, subst, ℕ, ◌==◌, Bool, List, [], ◌∷◌, Option, Some, arith}
use Rattle.std.specs.Prelude.{Contains, slice_get}
use Rattle.std.specs.Cmp.{both_ways}
use Rattle.std.proofs.lemmas.Bool.{eqb-true, eq-eqb}
use Rattle.std.proofs.lemmas.List.Elements.{All-head}
use Rattle.std.proofs.lemmas.Option.{same_Some}
use Rattle.cov_types.specs.declared.coord.Coord.{Coord}
use Rattle.crossing_laws.proofs.Lists.{contains_here, contains_there}
use Rattle.arrangement.specs.Overlay.{Overlay, IsRegion}
use Rattle.sound_polygons.specs.Cleaned.{IsPolyCanonical, IsSoundFor, ArePolygonsOf}
use Rattle.sound_polygons.specs.Parts.{LeadsWithin, IsPartOf, IsSound}
use Rattle.fault_map.specs.Polygon.{IsRegionPolygon, AreOwnersByPlace}

module _ (o : Overlay) (regions : List ℕ) (owners : ℕ → Option ℕ) (by_place : AreOwnersByPlace regions owners) where
  -- two regions of one owner are one
  same_owner : (i r s : ℕ) → owners r ≡ Some i → owners s ≡ Some i → r ≡ s
  same_owner i r s first second = same_Some r s (sym (by_place.owned i r first) ∙ by_place.owned i s second)

  first_owned : (i r s : ℕ) (way : List ℕ) → LeadsWithin o owners i r way s → owners r ≡ Some i
  first_owned i r s [] h = h.0
  first_owned i r s (g ∷ way) h = h.0

  -- so a way within them ends where it begins
  stays : (i r s : ℕ) (way : List ℕ) → LeadsWithin o owners i r way s → r ≡ s
  stays i r s [] h = h.1
  stays i r s (g ∷ way) h = same_owner i r g h.0 (first_owned i g s way h.2) ∙ stays i g s way h.2

  -- and its part is the region alone
  only_itself : (i r : ℕ) (inside : ℕ → Bool) → owners r ≡ Some i → IsPartOf o owners i r inside → (g : ℕ) → inside g ≡ (g == r)
  only_itself i r inside owned part g =
      both_ways (inside g) (g == r) (λ t. (let joined = (part g).0 t in eq-eqb g r (sym (stays i r g joined.0 joined.1)))) (λ t. (part g).1 ([], (owned, sym (eqb-true g r t))))

  alone : (i r : ℕ) (rings : List (List Coord)) → owners r ≡ Some i → IsSoundFor o owners i r rings → IsSound o (λ g. g == r) rings
  alone i r rings owned for = subst (λ (f : ℕ → Bool). IsSound o f rings) (λ k g. only_itself i r for.inside owned for.part g k) for.sound

  -- each polygon of an owner is sound for the region
  for_region : (i r : ℕ) (polys : List (List (List Coord))) → owners r ≡ Some i → ArePolygonsOf o owners i polys → (rings : List (List Coord)) → Contains polys rings → IsSoundFor o owners i r rings
  for_region i r polys owned are rings has =
      let found = are.each rings has in
      subst (λ (s : ℕ). IsSoundFor o owners i s rings) (same_owner i found.0 r found.1.0.owned owned) found.1.1

  -- so it has one
  pub single : (i r : ℕ) (polys : List (List (List Coord))) → slice_get regions i ≡ Some r → IsRegion o.edges r → ArePolygonsOf o owners i polys
      → (rings : List (List Coord)) × ((polys ≡ rings ∷ []) × IsRegionPolygon o r rings)
  single i r [] at region are =
      let found = are.every r (record { region = region; owned = by_place.listed i r at }) in
      absurd (omega (arith, found.1.0.1))
  single i r (rings ∷ []) at region are =
      let owned = by_place.listed i r at in
      let for = for_region i r (rings ∷ []) owned are rings (contains_here rings []) in
      (rings, (refl, record { sound = alone i r rings owned for; canonical = All-head IsPolyCanonical rings [] are.canonical.each }))
  single i r (rings ∷ other ∷ more) at region are =
      let owned = by_place.listed i r at in
      let polys = rings ∷ other ∷ more in
      let first = for_region i r polys owned are rings (contains_here rings (other ∷ more)) in
      let second = for_region i r polys owned are other (contains_there rings other (other ∷ more) (contains_here other more)) in
      let same : 0 ≡ 1 = are.one r 0 1 rings other refl refl first second in
      absurd (omega (arith, same))
