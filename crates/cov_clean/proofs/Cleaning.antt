-- The owners of the sides between the live edges of a coverage, what is built of them, and the states of the rule.
use mathlib.Core.List.{[]}
use Rattle.std.proofs.Common.{◌≡◌, inl, inr, refl, sym, ◌∙◌, ap, subst, ℕ, zero, suc, ◌*◌, ◌<◌, Bool, true, false, List, length, map, take, get_or, Option, None, IfSome, arith}
use Rattle.std.specs.Prelude.{All, AllPairs, Contains, ◌↔◌}
use Rattle.std.proofs.lemmas.List.{take_all}
use Rattle.std.proofs.lemmas.List.Elements.{Contains-get_or}
use Rattle.cov_types.specs.declared.seg.Seg.{Seg}
use Rattle.cov_types.specs.Coverage.{Members, AllInRange}
use Rattle.cov_types.specs.Uses.{uses_of}
use Rattle.plane.specs.Label.{numbers_below}
use Rattle.plane.specs.Region.{IsOuterRegion, AreRegions}
use Rattle.arrangement.specs.declared.odd_use.OddUse.{OddUse}
use Rattle.arrangement.specs.Overlay.{Overlay, IsRegion, IsSnappedOverlay}
use Rattle.region_owners.specs.Owner.{Rule, IsLawful, IsNarrowGap, label_owner, last_state}
use Rattle.region_owners.proofs.Neighbours.{gap_neighbour}
use Rattle.owner_label.specs.Labelled.{Labelled, IsOverlay}
use Rattle.cov_build.specs.Owners.{owner_in}
use Rattle.cleaned_laws.proofs.Cleaned.{cleaned_valid}
use Rattle.cleaned_laws.proofs.SnappedLive.{snapped_live}
use Rattle.gap_replay.specs.Cleaned.{IsCleanedBy}
use Rattle.gap_replay.specs.Replay.{AreNarrowGaps, state_after_gaps, last_state_over, HasAskedFirst, HasAskedSome, HasLastState}
use Rattle.gap_replay.proofs.GapCandidates.{is_neighbour}
use Rattle.gap_replay.proofs.Held.{replay_valid}
use Rattle.plane.specs.Validity.{IsValid}
use Rattle.cov_clean.specs.Asked.{side_owner}
use Rattle.cov_clean.specs.Filled.{AreFilled, asked_gaps, filler_by, HasFilledFirst, HasNeighbour}
use Rattle.sound_polygons.specs.Cleaned.{IsBuilt}
use Rattle.cov_clean.specs.SnappedEdges.{AreSnappedEdges}
use Rattle.cov_clean.proofs.Overlays.{snapped_one, snapped_labels, snapped_outer}
use Rattle.cov_clean.proofs.Asking.{asked_all}
use Rattle.cov_clean.proofs.Filling.{filled_owners, replayed_owners, filled_below, filler_below, filled_outer, gap_region, state_same_owners}
use Rattle.cov_clean.proofs.Neighbour.{owned_same}
use Rattle.cov_clean.proofs.SideOwners.{owners_count, of_region, owners_below, owners_outer}

module _ {State : Type 0} (rule : Rule State) (state : State) (members : Members) (in_range : AllInRange members) (edges : List Seg) (odd : List OddUse) (are : AreSnappedEdges members edges odd)
    (l : Labelled) (same : l ≡ record { edges = edges; odd = odd }) (sides : ℕ) (all : sides ≡ 2 * length edges) (owners : List (Option ℕ))
    (made : (o : Overlay) → IsOverlay l o → owners ≡ map (side_owner rule state o) (numbers_below sides)) where
  of : (o : Overlay) → IsSnappedOverlay (uses_of members) (length members) o → owners ≡ map (side_owner rule state o) (numbers_below (2 * length o.edges))
  of o is =
      let labels = snapped_labels members in_range edges odd are l same o is in
      made o labels ∙ ap (λ n. map (side_owner rule state o) (numbers_below n)) (all ∙ ap (λ (es : List Seg). 2 * length es) (sym (labels.edges ∙ ap (λ (k : Labelled). k.edges) same)))

  pub sides_count : length owners ≡ 2 * length edges
  sides_count =
      let (o, (is, between)) = snapped_one members in_range edges odd are in
      owners_count rule state o is.overlay.numbered owners (of o is) ∙ ap (λ (es : List Seg). 2 * length es) between

  pub sides_below : All (λ found. IfSome found (λ i. i < length members)) owners
  sides_below =
      let (o, (is, between)) = snapped_one members in_range edges odd are in
      subst (λ (n : ℕ). All (λ found. IfSome found (λ i. i < n)) owners) is.overlay.count (owners_below rule state o is.overlay.numbered owners (of o is))

  pub sides_outer : (n : ℕ) → IsOuterRegion edges n → owner_in owners n ≡ None
  sides_outer n outer =
      let (o, (is, between)) = snapped_one members in_range edges odd are in
      owners_outer rule state o is.overlay.numbered owners (of o is) (snapped_outer members in_range edges odd are o is) n (subst (λ (es : List Seg). IsOuterRegion es n) (sym between) outer)

  module _ (w : ℕ) (gaps : List ℕ) (exact : (o : Overlay) → IsOverlay l o → (r : ℕ) → Contains gaps r ↔ IsNarrowGap o r w) where
    -- gaps are regions of the edges
    pub gaps_regions : All (IsRegion l.edges) gaps
    gaps_regions =
        let (o, (is, between)) = snapped_one members in_range edges odd are in
        let labels = snapped_labels members in_range edges odd are l same o is in
        subst (λ (es : List Seg). All (IsRegion es) gaps) labels.edges (gap_region o w gaps (exact o labels))

    -- and have neighbours
    pub gaps_beside : IsLawful rule → All (HasNeighbour l (length members) owners) gaps
    gaps_beside law k d within =
        let (o, (is, between)) = snapped_one members in_range edges odd are in
        let labels = snapped_labels members in_range edges odd are l same o is in
        let g = get_or gaps k d in
        let narrow = (exact o labels g).0 (Contains-get_or gaps k d within) in
        let live = snapped_live members in_range o is in
        let beside = gap_neighbour rule state o g live law narrow.gap in
        let by_label = of_region rule state o is.overlay.numbered owners (of o is) in
        let border = owned_same o is.overlay.numbered (owner_in owners) (label_owner rule state o) by_label g beside.0 in
        let has = is_neighbour o (owner_in owners) g beside.0 beside.1.below (let some = beside.1.border in omega (arith, border, some)) in
        record { overlay = o; is_overlay = labels; count = is.overlay.count; some = (let inside = has.1 in omega (arith, inside)) }

    module _ (too : Bool) (ascending : AllPairs (λ m n. m < n) gaps) (filled : List (Option ℕ))
        (fills : (o : Overlay) → IsOverlay l o → o.members ≡ length members → AreFilled (filler_by too rule (last_state rule state o) o (owner_in owners) gaps) owners gaps filled) where
      pub filled_count : length filled ≡ 2 * length edges
      filled_count =
          let (o, (is, between)) = snapped_one members in_range edges odd are in
          (fills o (snapped_labels members in_range edges odd are l same o is) is.overlay.count).count ∙ sides_count

      pub members_below : All (λ found. IfSome found (λ i. i < length members)) filled
      members_below =
          let (o, (is, between)) = snapped_one members in_range edges odd are in
          let below : All (λ found. IfSome found (λ i. i < o.members)) owners = subst (λ (n : ℕ). All (λ found. IfSome found (λ i. i < n)) owners) (sym is.overlay.count) sides_below in
          subst (λ (n : ℕ). All (λ found. IfSome found (λ i. i < n)) filled) is.overlay.count
          (filled_below o.members (filler_by too rule (last_state rule state o) o (owner_in owners) gaps) (filler_below too rule (last_state rule state o) o (owner_in owners) gaps)
          owners gaps filled (fills o (snapped_labels members in_range edges odd are l same o is) is.overlay.count) below)

      pub outer_unfilled : (n : ℕ) → IsOuterRegion edges n → owner_in filled n ≡ None
      outer_unfilled n outer =
          let (o, (is, between)) = snapped_one members in_range edges odd are in
          let labels = snapped_labels members in_range edges odd are l same o is in
          filled_outer o w gaps (exact o labels) (filler_by too rule (last_state rule state o) o (owner_in owners) gaps) owners filled (fills o labels is.overlay.count)
          n (subst (λ (es : List Seg). IsOuterRegion es n) (sym between) outer) (sides_outer n outer)

    -- the coverage that is built of them is the cleaned one
    pub cleaned : (too : Bool) → AllPairs (λ m n. m < n) gaps → (filled : List (Option ℕ))
        → ((o : Overlay) → IsOverlay l o → o.members ≡ length members → AreFilled (filler_by too rule (last_state rule state o) o (owner_in owners) gaps) owners gaps filled)
        → (out : Members) → ((o : Overlay) → o.edges ≡ edges → AreRegions o.edges o.numbers → IsBuilt o (owner_in filled) (length members) out) → IsCleanedBy too members rule state w out
    cleaned false ascending filled fills out built =
        let (o, (is, between)) = snapped_one members in_range edges odd are in
        let labels = snapped_labels members in_range edges odd are l same o is in
        record {
          overlay = o;
          is_overlay = is;
          owners = owner_in filled;
          are_owners = filled_owners rule state o is.overlay.numbered owners (of_region rule state o is.overlay.numbered owners (of o is)) gaps filled w (exact o labels) (fills o labels is.overlay.count);
          built = built o between is.overlay.numbered;
        }
    cleaned true ascending filled fills out built =
        let (o, (is, between)) = snapped_one members in_range edges odd are in
        let labels = snapped_labels members in_range edges odd are l same o is in
        record {
          overlay = o;
          is_overlay = is;
          gaps = gaps;
          are_gaps = record { ascending = ascending; exact = exact o labels };
          owners = owner_in filled;
          are_owners = replayed_owners rule state o is.overlay.numbered owners (of_region rule state o is.overlay.numbered owners (of o is)) gaps filled (fills o labels is.overlay.count);
          built = built o between is.overlay.numbered;
        }

    -- ---- the states of the rule

    module _ (ascending : AllPairs (λ m n. m < n) gaps) (o : Overlay) (is : IsSnappedOverlay (uses_of members) (length members) o) (after : State) (asked : after ≡ last_state rule state o) where
      by_owners : (some : List ℕ) → state_after_gaps rule after o (owner_in owners) some ≡ last_state_over rule state o some
      by_owners some =
          ap (λ (now : State). state_after_gaps rule now o (owner_in owners) some) asked
          ∙ state_same_owners o is.overlay.numbered (owner_in owners) (label_owner rule state o) (of_region rule state o is.overlay.numbered owners (of o is)) rule (last_state rule state o) some

      are_gaps : AreNarrowGaps o w gaps
      are_gaps = record { ascending = ascending; exact = exact o (snapped_labels members in_range edges odd are l same o is) }

      pub has_last : (too : Bool) (now : State) → now ≡ state_after_gaps rule after o (owner_in owners) (asked_gaps too gaps) → HasLastState too rule state o w now
      has_last false now reached = reached ∙ asked
      has_last true now reached = record { gaps = gaps; are_gaps = are_gaps; reached = reached ∙ by_owners gaps }

      pub has_some : (too : Bool) (now : State) → HasFilledFirst rule after o (owner_in owners) (asked_gaps too gaps) now → HasAskedSome too rule state o w now
      has_some false now first = asked_all o rule state now (first.reached ∙ none_taken first.count ∙ asked)
        where
          none_taken : (count : ℕ) → state_after_gaps rule after o (owner_in owners) (take count []) ≡ after
          none_taken zero = refl
          none_taken (suc count) = refl
      has_some true now first = inr (record { gaps = gaps; are_gaps = are_gaps; count = first.count; reached = first.reached ∙ by_owners (take first.count gaps) })

      pub has_all : (too : Bool) (now : State) → now ≡ state_after_gaps rule after o (owner_in owners) (asked_gaps too gaps) → HasAskedSome too rule state o w now
      has_all too now reached = has_some too now (record {
        count = length (asked_gaps too gaps);
        reached = reached ∙ ap (state_after_gaps rule after o (owner_in owners)) (sym (take_all (length (asked_gaps too gaps)) (asked_gaps too gaps) (omega arith)));
      })

  pub built_count : (filled : List (Option ℕ)) (out : Members) → ((o : Overlay) → o.edges ≡ edges → AreRegions o.edges o.numbers → IsBuilt o (owner_in filled) (length members) out) → length out ≡ length members
  built_count filled out built =
      let (o, (is, between)) = snapped_one members in_range edges odd are in
      let round = built o between is.overlay.numbered in
      round.count

-- ---- whichever way gaps are filled

pub cleaned_by_valid : {State : Type 0} (too : Bool) (members : Members) → AllInRange members → (rule : Rule State) (state : State) (w : ℕ) (out : Members) → IsCleanedBy too members rule state w out → IsValid (uses_of out)
cleaned_by_valid false members in_range rule state w out h = cleaned_valid members in_range rule state w out h
cleaned_by_valid true members in_range rule state w out h = replay_valid members in_range rule state w out h

-- the rule was asked for the first shared regions, and for no gap
pub some_first : {State : Type 0} (too : Bool) (rule : Rule State) (state : State) (o : Overlay) (w : ℕ) (now : State) → HasAskedFirst rule state o now → HasAskedSome too rule state o w now
some_first false rule state o w now first = first
some_first true rule state o w now first = inl first
