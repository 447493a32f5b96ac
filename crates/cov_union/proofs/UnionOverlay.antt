-- The overlay of the rim of a valid coverage, and what is built of it.
use Rattle.std.proofs.Common.{◌≡◌, refl, sym, ◌∙◌, ap, subst, ℕ, ◌*◌, ◌<◌, ◌==◌, ◌&&◌, List, length, get_or, Option, None}
use Rattle.std.specs.Prelude.{All, IfSome}
use Rattle.std.proofs.lemmas.Bool.{and_parts}
use Rattle.std.proofs.lemmas.Bool.Decides.{Decides-eqb}
use Rattle.std.proofs.lemmas.List.Elements.{All-contains, Contains-get_or}
use Rattle.cov_types.specs.Coverage.{Members, AllInRange}
use Rattle.cov_types.specs.Uses.{uses_of}
use Rattle.cov_types.specs.declared.edge_use.EdgeUse.{EdgeUse}
use Rattle.cov_types.specs.declared.seg.Seg.{Seg}
use Rattle.cov_types.proofs.AllUses.{uses-members}
use Rattle.cov_types.proofs.EvenEnds.{even-ends}
use Rattle.plane.specs.Region.{AreRegions, IsOuterRegion}
use Rattle.plane.specs.Validity.{IsValid}
use Rattle.crossing_laws.specs.Across.{is_same_seg}
use Rattle.sector_laws.specs.Sector.{AreDistinct, IsPlanar}
use Rattle.region_laws.proofs.Exists.{regions_exist}
use Rattle.arrangement.specs.declared.odd_use.OddUse.{OddUse}
use Rattle.arrangement.specs.Noding.{AreLiveEdges, odd_uses}
use Rattle.arrangement.specs.Overlay.{Overlay, IsOverlayOf}
use Rattle.arrangement.proofs.LiveOverlays.{live_overlay}
use Rattle.arrangement.proofs.OddUses.{some_passes}
use Rattle.cleaned_laws.proofs.Union.{union_holds, union_valid}
use Rattle.cov_build.specs.Owners.{owner_in}
use Rattle.owner_label.specs.Labelled.{Labelled, IsOverlay}
use Rattle.sound_polygons.specs.Cleaned.{IsBuilt}
use Rattle.sound_polygons.specs.Holding.{IsUnionOf}
use Rattle.cov_union.specs.Owners.{union_owners}
use Rattle.cov_union.specs.Rim.{merged}
use Rattle.cov_union.specs.United.{IsUnited}
use Rattle.cov_union.proofs.Existing.{overlay_exists}
use Rattle.cov_union.proofs.Merged.{merged_below, merged_even}
use Rattle.cov_union.proofs.RimUnion.{rim_built}
use Rattle.cov_union.proofs.ByLabel.{owners_below, owners_count, are_union_owners, outer_unowned}

-- the members of the odd pairs of uses are those of uses
odd_below : (uses : List EdgeUse) (members : ℕ) (edges : List Seg) (odd : List OddUse) → AreLiveEdges uses edges odd → All (λ u. u.member < members) uses → All (λ o. o.member < members) odd
odd_below uses members edges odd live below k d within =
    let o = get_or odd k d in
    let e = (live.pairs.exact o).0 (Contains-get_or odd k d within) in
    let found = some_passes (λ u. (u.member == o.member) && is_same_seg e.0 u.seg) uses e.1.1 in
    subst (λ m. m < members) ((Decides-eqb (found.0).member o.member).0 (and_parts _ _ found.1.1).0) (All-contains (λ u. u.member < members) uses found.0 below found.1.0)

module _ (members : Members) (edges : List Seg) (odd : List OddUse) (live : AreLiveEdges (merged (uses_of members)) edges odd) (planar : IsPlanar edges) (distinct : AreDistinct edges)
    (l : Labelled) (same : l ≡ record { edges = edges; odd = odd }) (owners : List (Option ℕ)) (by_label : (o : Overlay) → IsOverlay l o → owners ≡ union_owners o o.numbers) where
  numbering : (numbers : List ℕ) × AreRegions edges numbers
  numbering = regions_exist edges planar distinct

  abbrev o : Overlay
  o = record { edges = edges; uses = odd_uses edges odd; members = 1; numbers = numbering.0 }

  is_overlay : IsOverlayOf (merged (uses_of members)) 1 o
  is_overlay = record { odd = odd; live = live; by_odd = refl; count = refl; numbered = numbering.1 }

  -- the labels of the edges are its labels
  labelled : IsOverlay l o
  labelled =
      let whole : IsOverlay (record { edges = edges; odd = odd }) o = record { edges = refl; uses = refl; members = odd_below (merged (uses_of members)) 1 edges odd live (merged_below (uses_of members)); numbered = numbering.1 } in
      subst (λ (k : Labelled). IsOverlay k o) (sym same) whole

  are : owners ≡ union_owners o o.numbers
  are = by_label o labelled

  pub count : length owners ≡ 2 * length edges
  count = ap length are ∙ owners_count o o.numbers ∙ numbering.1.count

  pub below : All (λ owner. IfSome owner (λ i. i < 1)) owners
  below = subst (λ (os : List (Option ℕ)). All (λ owner. IfSome owner (λ i. i < 1)) os) (sym are) (owners_below o o.numbers)

  pub outer_free : (n : ℕ) → IsOuterRegion edges n → owner_in owners n ≡ None
  outer_free n outer =
      ap (λ (os : List (Option ℕ)). owner_in os n) are
      ∙ outer_unowned o (live_overlay (merged (uses_of members)) 1 o is_overlay planar (merged_even (length members) (uses_of members) (uses-members members) (even-ends members)) (merged_below (uses_of members))) n outer

  module _ (in_range : AllInRange members) (valid : IsValid (uses_of members)) where
    united : (out : Members) → ((q : Overlay) → q.edges ≡ edges → AreRegions q.edges q.numbers → IsBuilt q (owner_in owners) 1 out) → IsUnited members out
    united out built =
        let (whole, is) = overlay_exists members in_range valid in
        let on_rim : IsBuilt o (owner_in (union_owners o o.numbers)) 1 out = subst (λ (os : List (Option ℕ)). IsBuilt o (owner_in os) 1 out) are (built o refl numbering.1) in
        record {
          overlay = whole;
          is_overlay = is;
          owners = owner_in (union_owners whole whole.numbers);
          are_owners = are_union_owners whole is.numbered;
          built =
              rim_built members in_range valid whole is o is_overlay (owner_in (union_owners whole whole.numbers)) (are_union_owners whole is.numbered)
              (owner_in (union_owners o o.numbers)) (are_union_owners o numbering.1) out on_rim;
        }

    -- the same of the edges and the owners as they were given
    pub united_by : (between : List Seg) (given : List (Option ℕ)) → between ≡ edges → given ≡ owners → (out : Members)
        → ((q : Overlay) → q.edges ≡ between → AreRegions q.edges q.numbers → IsBuilt q (owner_in given) 1 out) → IsUnited members out
    united_by between given is own out built =
        united out (λ q same_edges regions. subst (λ (os : List (Option ℕ)). IsBuilt q (owner_in os) 1 out) own (built q (same_edges ∙ sym is) regions))

-- what is united holds what the coverage holds, and is valid
module _ (members : Members) (in_range : AllInRange members) (valid : IsValid (uses_of members)) (out : Members) (u : IsUnited members out) where
  pub united_holds : IsUnionOf members out
  united_holds = union_holds members in_range valid u.overlay u.is_overlay u.owners u.are_owners out u.built

  pub united_valid : IsValid (uses_of out)
  united_valid = union_valid members in_range valid u.overlay u.is_overlay u.owners u.are_owners out u.built
