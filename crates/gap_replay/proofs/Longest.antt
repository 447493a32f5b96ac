-- By the longest border it is all one whether the rule is asked for gaps.
use mathlib.Core.List.{[], ◌∷◌}
use Rattle.std.proofs.Common.{◌≡◌, ◌⊎◌, inl, inr, refl, sym, ◌∙◌, ap, ℕ, ◌+◌, Bool, ◌||◌, not, cond, nat_lt, List, map}
use Rattle.std.specs.Prelude.{◌↔◌, Option, slice_get}
use Rattle.std.specs.List.{list_any, position_or_len}
use Rattle.cov_types.specs.Coverage.{Members, AllInRange}
use Rattle.arrangement.specs.Overlay.{Overlay}
use Rattle.region_owners.specs.declared.candidate.Candidate.{Candidate}
use Rattle.region_owners.specs.Owner.{rule_by, first_best, longest_border, last_state, label_owner, neighbours_of, neighbour_of, IsNarrowGap, IsOwner}
use Rattle.sound_polygons.specs.Cleaned.{IsCleaned}
use Rattle.gap_replay.specs.Cleaned.{IsCleanedWithGaps}
use Rattle.gap_replay.specs.Replay.{AreNarrowGaps, gap_candidates, state_after_gaps, last_state_over, picked_filler, IsOwnerByReplay}
use Rattle.gap_replay.proofs.Fillers.{candidate_is}
use Rattle.gap_replay.proofs.GapCandidates.{as_candidate}
use Rattle.gap_replay.proofs.NarrowGaps.{narrow_gaps_exist}

-- ---- the first best of what is made of a list

any_map : {X Y : Type 0} (test : Y → Bool) (f : X → Y) (xs : List X) → list_any test (map f xs) ≡ list_any (λ x. test (f x)) xs
any_map test f [] = refl
any_map test f (x ∷ xs) = ap (λ b. test (f x) || b) (any_map test f xs)

position_map : {X Y : Type 0} (test : Y → Bool) (f : X → Y) (xs : List X) → position_or_len test (map f xs) ≡ position_or_len (λ x. test (f x)) xs
position_map test f [] = refl
position_map test f (x ∷ xs) = ap (λ n. cond (not (test (f x))) (1 + n) 0) (position_map test f xs)

first_best_map : {X Y : Type 0} (beats : Y → Y → Bool) (f : X → Y) (xs : List X) → first_best beats (map f xs) ≡ first_best (λ x y. beats (f x) (f y)) xs
first_best_map beats f xs =
    position_map (λ y. not (list_any (λ z. beats z y) (map f xs))) f xs
    ∙ ap (λ test. position_or_len test xs) (λ i x. not (any_map (λ z. beats z (f x)) f xs i))

-- ---- picks

module _ {State : Type 0} (state : State) (o : Overlay) where
  abbrev by_label : ℕ → Option ℕ
  by_label = label_owner (rule_by longest_border) state o

  -- the candidate with the longest border is the neighbour
  filler_neighbour : (gaps : List ℕ) (r : ℕ) → picked_filler (rule_by longest_border) state o gaps r ≡ neighbour_of o by_label r
  filler_neighbour gaps r =
      candidate_is o by_label r (longest_border (gap_candidates o by_label r))
      ∙ ap (slice_get (neighbours_of o by_label r)) (first_best_map (λ (c d : Candidate). nat_lt d.border c.border) (as_candidate o by_label r) (neighbours_of o by_label r))

  module _ (w : ℕ) (gaps : List ℕ) (are : AreNarrowGaps o w gaps) (r : ℕ) (owner : Option ℕ) where
    as_owner : IsOwnerByReplay (rule_by longest_border) state o gaps r owner → IsOwner (rule_by longest_border) state o w r owner
    as_owner (inl filled) = inl ((are.exact r).0 filled.0, filled.1 ∙ filler_neighbour gaps r)
    as_owner (inr labelled) = inr ((λ narrow. labelled.0 ((are.exact r).1 narrow)), labelled.1)

    by_replay : IsOwner (rule_by longest_border) state o w r owner → IsOwnerByReplay (rule_by longest_border) state o gaps r owner
    by_replay (inl narrow) = inl ((are.exact r).1 narrow.0, narrow.1 ∙ sym (filler_neighbour gaps r))
    by_replay (inr labelled) = inr ((λ has. labelled.0 ((are.exact r).0 has)), labelled.1)

  same_state : (now : State) (owners : ℕ → Option ℕ) (gaps : List ℕ) → state_after_gaps (rule_by longest_border) now o owners gaps ≡ now
  same_state now owners [] = refl
  same_state now owners (g ∷ gaps) = same_state now owners gaps

  pub longest_state : (gaps : List ℕ) → last_state_over (rule_by longest_border) state o gaps ≡ last_state (rule_by longest_border) state o
  longest_state gaps = same_state (last_state (rule_by longest_border) state o) by_label gaps

-- ---- the cleaned coverage

told_by : {State : Type 0} (state : State) (o : Overlay) (w r : ℕ) (owner : Option ℕ) → IsOwner (rule_by longest_border) state o w r owner → IsNarrowGap o r w ⊎ (IsNarrowGap o r w → ⊥)
told_by state o w r owner (inl narrow) = inl narrow.0
told_by state o w r owner (inr labelled) = inr labelled.0

pub longest_replay : {State : Type 0} (members : Members) → AllInRange members → (state : State) (w : ℕ) (out : Members)
    → IsCleanedWithGaps members (rule_by longest_border) state w out ↔ IsCleaned members (rule_by longest_border) state w out
longest_replay {State} members in_range state w out = (without_gaps, with_gaps)
  where
    without_gaps : IsCleanedWithGaps members (rule_by longest_border) state w out → IsCleaned members (rule_by longest_border) state w out
    without_gaps h = record {
      overlay = h.overlay;
      is_overlay = h.is_overlay;
      owners = h.owners;
      are_owners = λ r region. as_owner state h.overlay w h.gaps h.are_gaps r (h.owners r) (h.are_owners r region);
      built = h.built;
    }

    with_gaps : IsCleaned members (rule_by longest_border) state w out → IsCleanedWithGaps members (rule_by longest_border) state w out
    with_gaps h =
        let gaps = narrow_gaps_exist h.overlay w h.is_overlay.overlay.numbered (λ r region. told_by state h.overlay w r (h.owners r) (h.are_owners r region)) in
        record {
          overlay = h.overlay;
          is_overlay = h.is_overlay;
          gaps = gaps.0;
          are_gaps = gaps.1;
          owners = h.owners;
          are_owners = λ r region. by_replay state h.overlay w gaps.0 gaps.1 r (h.owners r) (h.are_owners r region);
          built = h.built;
        }
