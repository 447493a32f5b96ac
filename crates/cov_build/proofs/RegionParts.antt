-- The part of an owned region, as a test on regions.
use mathlib.Core.List.{List, [], ◌∷◌}
use Rattle.std.proofs.Common.{◌≡◌, refl, sym, ◌∙◌, ap, subst, ℕ, zero, suc, ◌+◌, ◌*◌, ◌<◌, ◌≤◌, ◌==◌, ◌&&◌, Bool, true, false, length, Option, Some, None, inl, inr, arith}
use Rattle.std.proofs.lemmas.Bool.{eqb-true, eq-eqb, and_parts}
use Rattle.std.proofs.lemmas.Option.{none-some, same_Some}
use Rattle.plane.specs.Region.{IsRegionOf, AreRegions}
use Rattle.crossing_laws.proofs.Located.{region-joined, one_region, side_at, side_within}
use Rattle.arrangement.specs.Overlay.{Overlay, region_at, IsRegion}
use Rattle.sector_laws.specs.Sector.{IsPlanar, AreDistinct}
use Rattle.sound_polygons.specs.Parts.{InOnePart, LeadsWithin, IsPartOf}
use Rattle.sound_polygons.proofs.SameParts.{part_equivalence}
use Rattle.cov_build.specs.Parted.{IsLeastInPart, IsPartAt, ArePartsOf, part_at, is_part}
use Rattle.cov_build.specs.declared.part.Part.{Part}
use Rattle.cov_build.proofs.BoundaryLists.{is_part_some}
use Rattle.cov_build.proofs.PartSides.{same_part}

starts_owned : (o : Overlay) (owners : ℕ → Option ℕ) (i r : ℕ) (way : List ℕ) (s : ℕ) → LeadsWithin o owners i r way s → owners r ≡ Some i
starts_owned o owners i r [] s leads = leads.0
starts_owned o owners i r (g ∷ way) s leads = leads.0

pub ends_owned : (o : Overlay) (owners : ℕ → Option ℕ) (i r s : ℕ) → InOnePart o owners i r s → owners s ≡ Some i
ends_owned o owners i r s h = (let back = (part_equivalence o owners i).back r s h in starts_owned o owners i s back.0 r back.1)

pub part_long : (parts : List (Option Part)) (n : ℕ) (q : Part) → part_at parts n ≡ Some q → n < length parts
part_long [] n q at = absurd (none-some q at)
part_long (p ∷ parts) zero q at = omega arith
part_long (p ∷ parts) (suc n) q at = let rest = part_long parts n q at in omega (arith, rest)

module _ (o : Overlay) (planar : IsPlanar o.edges) (distinct : AreDistinct o.edges) (regions : AreRegions o.edges o.numbers) (owners : ℕ → Option ℕ) (parts : List (Option Part)) (are : ArePartsOf o owners parts) where
  -- r is the number of a region
  pub record IsOwn (r : ℕ) : Type 0 where
    pub within : r < 2 * length o.edges
    pub same : region_at o r ≡ r

  pub region_own : (n : ℕ) → n < 2 * length o.edges → IsOwn (region_at o n)
  region_own n below =
      let (p, at) = side_at o.edges n below in
      let region = regions.each n p at in
      let joined = region.joined in
      let own = region-joined o.edges p joined.at (region_at o n) joined.joined region in
      record {
        within = side_within o.edges (region_at o n) joined.at joined.side;
        same = one_region o.edges joined.at (region_at o (region_at o n)) (region_at o n) (regions.each (region_at o n) joined.at joined.side) own;
      }

  pub own_of : (r : ℕ) → IsRegion o.edges r → IsOwn r
  own_of r is = record { within = side_within o.edges r is.at is.side; same = one_region o.edges is.at (region_at o r) r (regions.each r is.at is.side) is.own }

  pub region_of : (r : ℕ) → IsOwn r → IsRegion o.edges r
  region_of r own = (let (p, at) = side_at o.edges r own.within in record { at = p; side = at; own = subst (IsRegionOf o.edges p) own.same (regions.each r p at) })

  pub reached_own : (i r : ℕ) (way : List ℕ) (s : ℕ) → LeadsWithin o owners i r way s → IsOwn r → IsOwn s
  reached_own i r [] s leads own = subst IsOwn leads.1 own
  reached_own i r (g ∷ way) s leads own = reached_own i g way s leads.2 (elim leads.1.sides [
    | inl on ↦ subst IsOwn on.1 (region_own (2 * leads.1.edge + 1) (let listed = leads.1.listed in omega (arith, listed)))
    | inr back ↦ subst IsOwn back.0 (region_own (2 * leads.1.edge) (let listed = leads.1.listed in omega (arith, listed)))
  ])

  -- ---- the part as a test

  pub inside_of : ℕ → ℕ → Bool
  inside_of p g = is_part (part_at parts g) p && (region_at o g == g)

  true_and : (a b : Bool) → b ≡ true → (a && b) ≡ a
  true_and true b is = is
  true_and false b is = refl

  pub inside_at : (p n : ℕ) → n < 2 * length o.edges → inside_of p (region_at o n) ≡ is_part (part_at parts n) p
  unfolding inside_of
  inside_at p n below =
      let own = region_own n below in
      true_and (is_part (part_at parts (region_at o n)) p) (region_at o (region_at o n) == region_at o n) (eq-eqb (region_at o (region_at o n)) (region_at o n) own.same)
      ∙ ap (λ q. is_part q p) (same_part o planar distinct regions owners parts are p (region_at o n) n own.within below own.same)

  -- the part at a region of its own
  pub part_own : (g : ℕ) → IsOwn g → IsPartAt o owners g (part_at parts g)
  part_own g own = subst (λ r. IsPartAt o owners r (part_at parts g)) own.same (are.each g own.within)

  pub least_own : (r : ℕ) → IsOwn r → (part : Part) → part_at parts r ≡ Some part → IsLeastInPart o owners r part.least
  least_own r own part at = subst (IsPartAt o owners r) at (part_own r own)

  pub part_inside : (i r : ℕ) → IsOwn r → (part : Part) → part_at parts r ≡ Some part → owners r ≡ Some i → IsPartOf o owners i r (inside_of part.least)
  unfolding inside_of
  part_inside i r own part at owned g =
      let p = part.least in
      let laws = part_equivalence o owners i in
      let least = least_own r own part at in
      let same_owner : least.owner ≡ i = same_Some least.owner i (sym least.owned ∙ owned) in
      let to_p : InOnePart o owners i r p = subst (λ j. InOnePart o owners j r p) same_owner least.in_part in (
        (λ inside.
            let both = and_parts (is_part (part_at parts g) p) (region_at o g == g) inside in
            let at_g = is_part_some (part_at parts g) p both.0 in
            let own_g : IsOwn g = record { within = (let long = part_long parts g (record { least = p }) at_g in let count = are.count in omega (arith, long, count)); same = eqb-true (region_at o g) g both.1 } in
            let least_g = least_own g own_g (record { least = p }) at_g in
            let owner_g : least_g.owner ≡ i = same_Some least_g.owner i (sym (ends_owned o owners least_g.owner g p least_g.in_part) ∙ ends_owned o owners i r p to_p) in
            laws.on r p g to_p (laws.back g p (subst (λ j. InOnePart o owners j g p) owner_g least_g.in_part))),
        (λ in_part.
            let own_g = reached_own i r in_part.0 g in_part.1 own in
            let owned_g = ends_owned o owners i r g in_part in
            let is_in : is_part (part_at parts g) p ≡ true = by (part_at parts g) (part_own g own_g) owned_g in_part to_p (λ s. least.least s) same_owner in
            both_true is_in (eq-eqb (region_at o g) g own_g.same)),
      )
    where
      both_true : {a b : Bool} → a ≡ true → b ≡ true → (a && b) ≡ true
      both_true {a} {b} h k = (λ t. h t && k t)

      by : (q : Option Part) → IsPartAt o owners g q → owners g ≡ Some i → InOnePart o owners i r g → InOnePart o owners i r part.least
          → {j : ℕ} → ((s : ℕ) → InOnePart o owners j r s → part.least ≤ s) → j ≡ i → is_part q part.least ≡ true
      by None is own_g in_part to_p least same = absurd (none-some i (sym is ∙ own_g))
      by (Some q) is own_g in_part to_p {j} least same =
          let laws = part_equivalence o owners i in
          let owner : is.owner ≡ i = same_Some is.owner i (sym is.owned ∙ own_g) in
          let to_q : InOnePart o owners i r q.least = laws.on r g q.least in_part (subst (λ k. InOnePart o owners k g q.least) owner is.in_part) in
          let first = least q.least (subst (λ k. InOnePart o owners k r q.least) (sym same) to_q) in
          let second = is.least part.least (subst (λ k. InOnePart o owners k g part.least) (sym owner) (laws.on g r part.least (laws.back r g in_part) to_p)) in
          eq-eqb q.least part.least (omega (arith, first, second))
