-- What is built of owners is valid.
use Rattle.std.proofs.Common.{◌≡◌, inl, inr, refl, sym, ◌∙◌, ap, ℕ, ◌==◌, ◌&&◌, true, cond, List, arith}
use Rattle.std.specs.Prelude.{Contains, Option, unwrap_or}
use Rattle.std.proofs.lemmas.Bool.{and_from}
use Rattle.std.proofs.lemmas.Bool.Decides.{Decides-eqb}
use Rattle.cov_types.specs.declared.edge_use.EdgeUse.{EdgeUse}
use Rattle.cov_types.specs.declared.seg.Seg.{Seg}
use Rattle.cov_types.specs.Coverage.{Members}
use Rattle.cov_types.specs.Uses.{uses_of}
use Rattle.cov_types.proofs.Equal.{Decides-same_segs}
use Rattle.plane.specs.Joined.{IsOff}
use Rattle.plane.specs.Parity.{member_holds}
use Rattle.plane.specs.Point.{Point}
use Rattle.plane.specs.Segment.{upper}
use Rattle.plane.specs.Validity.{IsRepeated, IsValid}
use Rattle.crossing_laws.specs.Across.{is_same_seg}
use Rattle.crossing_laws.proofs.Lists.{contains-map}
use Rattle.sector_laws.specs.Sector.{IsPlanar}
use Rattle.region_laws.proofs.Edge.{below_joined, none_below_outer}
use Rattle.region_laws.proofs.Nearest.{nearest_or_none}
use Rattle.arrangement.specs.Noding.{segments}
use Rattle.arrangement.specs.Overlay.{Overlay}
use Rattle.arrangement.proofs.Labels.{mapped}
use Rattle.sound_polygons.specs.Cleaned.{IsBuilt}
use Rattle.cleaned_laws.specs.Owning.{AreMemberOwners}
use Rattle.cleaned_laws.proofs.Built.{held_is, in_edges, used_once}
use Rattle.cleaned_laws.proofs.Holders.{segs_in_range, upper_region, held_alike, outer_free}
use Rattle.cleaned_laws.proofs.Sums.{two_counted}

module _ (o : Overlay) (owners : ℕ → Option ℕ) (members : ℕ) (are : AreMemberOwners o owners members) (out : Members) (built : IsBuilt o owners members out) where
  abbrev segs : List Seg
  segs = segments (uses_of out)

  seg_in_edges : (e : Seg) → Contains segs e → Contains o.edges e
  seg_in_edges = mapped (λ (u : EdgeUse). u.seg) (Contains o.edges) (uses_of out) (in_edges o owners members are out built)

  among : (u : EdgeUse) → Contains (uses_of out) u → Contains segs u.seg
  among u has = contains-map (λ (v : EdgeUse). v.seg) (uses_of out) u has

  segs_planar : IsPlanar segs
  segs_planar = record {
    in_range = segs_in_range o owners members are out built;
    noded = λ e f in_e in_f. are.planar.noded e f (seg_in_edges e in_e) (seg_in_edges f in_f);
  }

  not_repeated : (u : EdgeUse) → ¬ IsRepeated (uses_of out) u
  not_repeated u twice =
      let once = used_once o owners members are out built u.member u.seg in
      let itself = ap (λ b. cond {A = ℕ} b 1 0) (and_from _ _ ((Decides-eqb u.member u.member).1 refl) ((Decides-same_segs u.seg u.seg).1 refl)) in
      let two = two_counted (λ v. cond ((v.member == u.member) && is_same_seg u.seg v.seg) 1 0) (uses_of out) twice.first twice.second u u twice.apart twice.at_first twice.at_second (omega (arith, itself)) (omega (arith, itself)) in
      omega (arith, once, two)

  -- a point off the segments is joined with the side above one of them, or is outer, and the side is off all edges
  one_holder : (p : Point) → IsOff segs p → (i j : ℕ) → member_holds (uses_of out) i p ≡ true → member_holds (uses_of out) j p ≡ true → i ≡ j
  one_holder p off i j holds_i holds_j = elim (nearest_or_none segs segs_planar p) [
    | inl found ↦ (
        let e = found.0 in
        let there = upper_region o owners members are e (seg_in_edges e found.1.below.among) in
        let way = below_joined segs segs_planar p off e found.1 in
        let alike = λ (m : ℕ). held_alike o owners members are out built segs segs_planar.in_range among m p (upper e) way in
        let owned_i = (held_is o owners members are out built (upper e) there.0 there.1 i).0 (sym (alike i) ∙ holds_i) in
        let owned_j = (held_is o owners members are out built (upper e) there.0 there.1 j).0 (sym (alike j) ∙ holds_j) in
        ap (λ x. unwrap_or x 0) (sym owned_i ∙ owned_j)
        )
    | inr none ↦ absurd (outer_free o owners members are out built segs segs_planar.in_range among i p (none_below_outer segs segs_planar p off none) holds_i)
  ]

  pub built_valid : IsValid (uses_of out)
  built_valid = record {
    ends = λ u v in_u in_v. segs_planar.noded u.seg v.seg (among u in_u) (among v in_v);
    once = not_repeated;
    apart = one_holder;
  }
