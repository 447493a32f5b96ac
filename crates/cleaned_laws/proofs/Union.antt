-- What is built of a valid coverage's overlay for one owner of all regions with a label is the union of the coverage.
use mathlib.Core.List.{[], ◌∷◌}
use Rattle.std.proofs.Common.{◌≡◌, inl, inr, refl, sym, ◌∙◌, ap, subst, ℕ, ◌<◌, ◌%◌, ◌==◌, ◌&&◌, ◌↔◌, true, List, filter, length, arith}
use Rattle.std.specs.Prelude.{All, Contains, Option, Some, get_or, unwrap_or, count_by}
use Rattle.std.proofs.lemmas.Bool.{false≢true, and_parts}
use Rattle.std.proofs.lemmas.Bool.Decides.{Decides-eqb}
use Rattle.std.proofs.lemmas.List.Elements.{All-contains, All-map, Contains-get_or}
use Rattle.std.proofs.lemmas.Option.{none-some}
use Rattle.cov_types.specs.declared.edge_use.EdgeUse.{EdgeUse}
use Rattle.cov_types.specs.declared.seg.Seg.{Seg}
use Rattle.cov_types.specs.Coverage.{Members, AllInRange}
use Rattle.cov_types.specs.Range.{IsSegInRange}
use Rattle.cov_types.specs.Uses.{uses_of}
use Rattle.cov_types.proofs.AllUses.{uses-members, uses-in_range}
use Rattle.plane.specs.Joined.{IsOff}
use Rattle.plane.specs.Label.{label_at, numbers_below}
use Rattle.plane.specs.Noded.{MeetInEnds}
use Rattle.plane.specs.Parity.{member_holds}
use Rattle.plane.specs.Point.{Point}
use Rattle.plane.specs.Ray.{is_over}
use Rattle.plane.specs.Region.{far_point, IsOuter, IsRegionOf}
use Rattle.plane.specs.Validity.{IsValid}
use Rattle.crossing_laws.proofs.Coverages.{swept_in_range, uses_even}
use Rattle.crossing_laws.proofs.Sums.{member_holds-joined}
use Rattle.crossing_laws.proofs.Lists.{contains_here}
use Rattle.sector_laws.specs.Sector.{IsPlanar}
use Rattle.arrangement.specs.Live.{IsLiveOverlay}
use Rattle.arrangement.specs.Noding.{segments}
use Rattle.arrangement.specs.Overlay.{Overlay, IsRegion, IsOverlayOf, label_of}
use Rattle.arrangement.proofs.Labels.{mapped, far_free}
use Rattle.arrangement.proofs.LiveOverlays.{kept, kept_is, number_below, label_is, live_overlay}
use Rattle.arrangement.proofs.OddUses.{odd_used, some_passes, live_uses_law}
use Rattle.sound_polygons.specs.Cleaned.{IsBuilt}
use Rattle.sound_polygons.specs.Holding.{IsUnionOf}
use Rattle.cleaned_laws.specs.Owning.{AreMemberOwners, AreUnionOwners}
use Rattle.cleaned_laws.proofs.Built.{held_is, in_edges, region_of}
use Rattle.cleaned_laws.proofs.Cleaned.{ascending_distinct, far_region, outer_label}
use Rattle.cleaned_laws.proofs.Holders.{outer_free, region_or_outer}
use Rattle.cleaned_laws.proofs.Valid.{built_valid}

some_listed : (xs : List ℕ) → 0 < length xs → (x : ℕ) × Contains xs x
some_listed [] some = absurd (omega (arith, some))
some_listed (x ∷ xs) some = (x, contains_here x xs)

module _ (members : Members) (in_range : AllInRange members) (valid : IsValid (uses_of members)) (o : Overlay) (h : IsOverlayOf (uses_of members) (length members) o) where
  abbrev uses : List EdgeUse
  uses = uses_of members

  -- the edges are segments of the coverage
  of_segment : (e : Seg) → Contains o.edges e → Contains (segments uses) e
  of_segment e has = let odd = (h.live.exact e).0 has in odd_used uses odd.0 e odd.1

  segs_range : All IsSegInRange (segments uses)
  segs_range = All-map IsSegInRange (λ (u : EdgeUse). u.seg) uses (uses-in_range members in_range)

  -- and so they meet in ends alone
  pub planar : IsPlanar o.edges
  planar = record {
    in_range = λ k d within. All-contains IsSegInRange (segments uses) (get_or o.edges k d) segs_range (of_segment (get_or o.edges k d) (Contains-get_or o.edges k d within));
    noded = λ e f in_e in_f.
        mapped (λ (u : EdgeUse). u.seg) (λ e. MeetInEnds e f) uses
        (λ u in_u. mapped (λ (v : EdgeUse). v.seg) (λ f. MeetInEnds u.seg f) uses (λ v in_v. valid.ends u v in_u in_v) f (of_segment f in_f)) e (of_segment e in_e);
  }

  live : IsLiveOverlay o
  live = live_overlay uses (length members) o h planar (λ inside m. uses_even members m inside) (uses-members members)

  off_edges : (p : Point) → IsOff (segments uses) p → IsOff o.edges p
  off_edges p off = λ e has. off e (of_segment e has)

  -- the uses of the overlay hold what those of the coverage do
  same_holders : (m : ℕ) (p : Point) → member_holds o.uses m p ≡ member_holds uses m p
  same_holders m p = ap (λ us. member_holds us m p) h.by_odd ∙ live_uses_law uses o.edges h.odd h.live m p

  -- the label of a region is that of its points
  region_label : (p : Point) (r : ℕ) → IsRegionOf o.edges p r → label_of o r ≡ label_at uses (length members) p
  region_label p r own =
      label_is o live p r own
      ∙ (λ i. filter (λ m. same_holders m p i) (numbers_below (h.count i)))

  -- ---- labels and holders

  holder_listed : (p : Point) (m : ℕ) → member_holds uses m p ≡ true → Contains (label_at uses (length members) p) m
  holder_listed p m holds =
      let odd = (Decides-eqb (count_by (λ u. (u.member == m) && is_over u.seg p) uses % 2) 1).0 holds in
      let u = some_passes (λ u. (u.member == m) && is_over u.seg p) uses odd in
      let its = (Decides-eqb (u.0).member m).0 (and_parts _ _ u.1.1).0 in
      let below = All-contains (λ u. u.member < length members) uses u.0 (uses-members members) u.1.0 in
      kept (λ k. member_holds uses k p) (numbers_below (length members)) m (number_below (length members) m (omega (arith, its, below))) holds

  listed_holder : (p : Point) (m : ℕ) → Contains (label_at uses (length members) p) m → member_holds uses m p ≡ true
  listed_holder p m has = (kept_is (λ k. member_holds uses k p) (numbers_below (length members)) m has).1

  outer_held : (p : Point) → IsOuter o.edges p → (m : ℕ) → member_holds uses m p ≡ true → ⊥
  outer_held p outer m holds =
      let far = member_holds-joined o.uses m o.edges live.listed (swept_in_range o.edges planar.in_range) (λ inside. live.even inside m) p far_point outer in
      false≢true (sym (sym (same_holders m p) ∙ far ∙ same_holders m far_point ∙ far_free uses segs_range m) ∙ holds)

  module _ (owners : ℕ → Option ℕ) (union : AreUnionOwners o owners) where
    -- a region has no owner, or member 0 and a label
    owner_is : (r i : ℕ) → IsRegion o.edges r → owners r ≡ Some i → (i ≡ 0) × (0 < length (label_of o r))
    owner_is r i region owned = by (label_of o r) refl
      where
        by : (xs : List ℕ) → label_of o r ≡ xs → (i ≡ 0) × (0 < length (label_of o r))
        by [] none = absurd (none-some i (sym (union.free r region none) ∙ owned))
        by (x ∷ xs) is =
            let count = ap length is in
            let some : 0 < length (label_of o r) = omega (arith, count) in
            (ap (λ y. unwrap_or y 0) (sym owned ∙ union.held r region some), some)

    member_owners : AreMemberOwners o owners 1
    member_owners = record {
      planar = planar;
      distinct = ascending_distinct o.edges h.live.ascending;
      regions = h.numbered;
      below = λ r i region owned. (let is = (owner_is r i region owned).0 in omega (arith, is));
      outer_free = λ r i outer owned. (
          let some = (owner_is r i (region_of o.edges far_point r (far_region o.edges r outer)) owned).1 in
          let none = ap length (outer_label o live r outer) in
          omega (arith, some, none)
          );
    }

    module _ (out : Members) (built : IsBuilt o owners 1 out) where
      union_at : (p : Point) (r : ℕ) → IsRegionOf o.edges p r → (member_holds (uses_of out) 0 p ≡ true) ↔ ((m : ℕ) × (member_holds uses m p ≡ true))
      union_at p r own =
          let region = region_of o.edges p r own in
          let held = held_is o owners 1 member_owners out built p r own 0 in
          let same = region_label p r own in (
            (λ holds. (
                let some = (owner_is r 0 region (held.0 holds)).1 in
                let m = some_listed (label_of o r) some in
                (m.0, listed_holder p m.0 (subst (λ xs. Contains xs m.0) same m.1))
                )),
            (λ some. (
                let listed = subst (λ xs. Contains xs some.0) (sym same) (holder_listed p some.0 some.1) in
                let within = listed.1 in
                held.1 (union.held r region (omega (arith, within)))
                )),
          )

      union_out : (p : Point) → IsOuter o.edges p → (member_holds (uses_of out) 0 p ≡ true) ↔ ((m : ℕ) × (member_holds uses m p ≡ true))
      union_out p outer = (
        (λ holds. absurd (outer_free o owners 1 member_owners out built o.edges planar.in_range (in_edges o owners 1 member_owners out built) 0 p outer holds)),
        (λ some. absurd (outer_held p outer some.0 some.1)),
      )

      pub union_holds : IsUnionOf members out
      union_holds = record {
        one = built.count;
        holds = λ p off. elim (region_or_outer o owners 1 member_owners p (off_edges p off)) [
          | inl there ↦ union_at p there.0 there.1
          | inr outer ↦ union_out p outer
        ];
      }

      pub union_valid : IsValid (uses_of out)
      union_valid = built_valid o owners 1 member_owners out built
