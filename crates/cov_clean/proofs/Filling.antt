-- Gaps that are filled one after the other, and the owners then.
use mathlib.Core.List.{[], ◌∷◌}
use Rattle.std.proofs.Common.{◌≡◌, ◌⊎◌, refl, sym, ◌∙◌, ap, subst, ℕ, zero, suc, ◌+◌, ◌<◌, ◌≤◌, List, ◌++◌, length, get_or, set, take, map, filter, fold, nat_lt, Bool, true, false, Option, Some, None, IfSome, inl, inr, arith}
use Rattle.std.specs.Prelude.{All, Contains, ◌↔◌, option_map, slice_get}
use Rattle.std.proofs.lemmas.Bool.{cases_eq}
use Rattle.std.proofs.lemmas.List.{length-set, get_or_default, get_or-set_same, get_or-set_other, take_more, take_all}
use Rattle.std.proofs.lemmas.List.Elements.{Contains-append_left, Contains-get_or, Contains-push, Contains-push_cases}
use Rattle.std.proofs.lemmas.Option.{none-some, same_Some, slice_get_within, get_or_from_slice_get, unwrap_or-slice_get}
use Rattle.crossing_laws.proofs.Lists.{contains_here, contains_there}
use Rattle.plane.specs.Label.{numbers_below}
use Rattle.plane.specs.Region.{IsOuterRegion, AreRegions}
use Rattle.arrangement.specs.Measure.{member_area2, region_area2, owned_border}
use Rattle.arrangement.proofs.Ascending.{ascend_filter, ascend_mapped, numbers_ascend}
use Rattle.arrangement.specs.Overlay.{Overlay, IsRegion}
use Rattle.region_owners.proofs.Neighbours.{has_length}
use Rattle.region_owners.specs.declared.candidate.Candidate.{Candidate}
use Rattle.region_owners.specs.Facts.{RegionFacts}
use Rattle.region_owners.specs.Owner.{Rule, IsNarrowGap, label_owner, last_state, neighbour_of, AreOwners}
use Rattle.gap_replay.specs.Replay.{gap_facts, state_after_gaps, AreOwnersByReplay}
use Rattle.gap_replay.proofs.Fillers.{candidate_below}
use Rattle.owner_label.specs.Labelled.{owner_in}
use Rattle.owner_label.specs.OwnedSides.{IsOwnedSide, owned_length}
use Rattle.owner_label.specs.declared.owned_side.OwnedSide.{OwnedSide}
use Rattle.cov_clean.specs.Filled.{AreFilled, filler_by}
use Rattle.cov_clean.specs.Longest.{IsLongest}
use Rattle.cov_clean.proofs.LongestSides.{seen_or_none}
use Rattle.cov_clean.proofs.Neighbour.{longest_is, neighbour_below, neighbour_same, owned_same}

-- ---- one gap more

none_in : (x : ℕ) → Contains [] x → ⊥
none_in x has = (let within = has.1 in omega arith)

pub filled_none : (filler : ℕ → Option ℕ) (owners filled : List (Option ℕ)) → filled ≡ owners → AreFilled filler owners [] filled
filled_none filler owners filled same = record {
  count = ap length same;
  fillers = λ r has. absurd (none_in r has);
  others = λ r other. ap (λ xs. owner_in xs r) same;
}

module _ (filler : ℕ → Option ℕ) (owners : List (Option ℕ)) (gaps : List ℕ) (k g : ℕ) (inside : k < length gaps) (at : g ≡ get_or gaps k g) (filled : List (Option ℕ)) (so_far : AreFilled filler owners (take k gaps) filled)
    (there : g < length owners) (owner : Option ℕ) (its : owner ≡ filler g) where
  grown : take (k + 1) gaps ≡ take k gaps ++ g ∷ []
  grown = take_more gaps k g inside ∙ ap (λ n. take k gaps ++ n ∷ []) (sym at)

  abbrev now : List (Option ℕ)
  now = set filled g owner

  read_same : (r : ℕ) → g ≡ r → owner_in now r ≡ filler r
  read_same r same =
      unwrap_or-slice_get now r None ∙ ap (λ n. get_or now n None) (sym same) ∙ get_or-set_same filled g owner None (let long = so_far.count in omega (arith, long, there)) ∙ its ∙ ap filler same

  read_other : (r : ℕ) → (r ≡ g → ⊥) → owner_in now r ≡ owner_in filled r
  read_other r other = unwrap_or-slice_get now r None ∙ get_or-set_other filled g r owner None other ∙ sym (unwrap_or-slice_get filled r None)

  old_or_new : (r : ℕ) → Contains (take (k + 1) gaps) r → Contains (take k gaps) r ⊎ (g ≡ r)
  old_or_new r has = Contains-push_cases (take k gaps) g r (subst (λ xs. Contains xs r) grown has)

  pub filled_more : AreFilled filler owners (take (k + 1) gaps) now
  filled_more = record {
    count = length-set filled g owner ∙ so_far.count;
    fillers = λ r has. elim (cases_eq r g) [
      | inl same ↦ read_same r (sym same)
      | inr other ↦ elim (old_or_new r has) [
        | inl old ↦ read_other r other ∙ so_far.fillers r old
        | inr new ↦ absurd (other (sym new))
      ]
    ];
    others = λ r out.
        (let other : r ≡ g → ⊥ = λ same. out (subst (λ xs. Contains xs r) (sym grown) (subst (Contains (take k gaps ++ g ∷ [])) (sym same) (Contains-push (take k gaps) g))) in
        read_other r other ∙ so_far.others r (λ old. out (subst (λ xs. Contains xs r) (sym grown) (Contains-append_left (take k gaps) (g ∷ []) r old))));
  }

-- ---- the sides of a gap

pub sides_long : (owners : List (Option ℕ)) (sides : List OwnedSide) → All (IsOwnedSide owners) sides → All (λ (s : OwnedSide). 0 < s.length) sides
sides_long owners sides are k d within =
    let side : IsOwnedSide owners (get_or sides k d) = are k d within in
    let some = has_length side.edge in
    let is = side.long in
    omega (arith, some, is)

-- who owns beyond a side is a member
owner_below : (owners : List (Option ℕ)) (n : ℕ) → All (λ found. IfSome found (λ i. i < n)) owners → (m : ℕ) → Contains owners (Some m) → m < n
owner_below owners n below m has = subst (λ found. IfSome found (λ i. i < n)) has.2 (below has.0 (Some m) has.1)

-- a member with a length owns beyond a side
pub length_below : (owners : List (Option ℕ)) (sides : List OwnedSide) (n : ℕ) → All (IsOwnedSide owners) sides → All (λ found. IfSome found (λ i. i < n)) owners
    → (m : ℕ) → 0 < owned_length sides m → m < n
length_below owners sides n are below m some = elim (seen_or_none sides m) [
  | inl seen ↦ (
      let within = slice_get_within sides seen.place seen.side seen.listed in
      let at = get_or_from_slice_get sides seen.place seen.side seen.side seen.listed in
      let side : IsOwnedSide owners seen.side = subst (IsOwnedSide owners) at (are seen.place seen.side within) in
      let low = owner_below owners n below seen.side.member side.owner in
      let its = seen.its in
      omega (arith, low, its))
  | inr none ↦ absurd (omega (arith, none, some))
]

pub longest_below : (owners : List (Option ℕ)) (sides : List OwnedSide) (n : ℕ) → All (IsOwnedSide owners) sides → All (λ found. IfSome found (λ i. i < n)) owners
    → (found : Option ℕ) → IsLongest (owned_length sides) found → (m : ℕ) → found ≡ Some m → m < n
longest_below owners sides n are below None longest m is = absurd (none-some m is)
longest_below owners sides n are below (Some j) longest m is = subst (λ i. i < n) (same_Some j m is) (length_below owners sides n are below j longest.0)

-- the member with the longest sides is the neighbour
pub longest_owner : (o : Overlay) (owners : List (Option ℕ)) (g : ℕ) (sides : List OwnedSide) (found : Option ℕ) → ((member : ℕ) → owned_length sides member ≡ owned_border o (owner_in owners) g member)
    → ((m : ℕ) → found ≡ Some m → m < o.members) → IsLongest (owned_length sides) found → found ≡ neighbour_of o (owner_in owners) g
longest_owner o owners g sides found borders below longest =
    longest_is o (owner_in owners) g found below (subst (λ (f : ℕ → ℕ). IsLongest f found) (λ i member. borders member i) longest)

pub filled_all : (filler : ℕ → Option ℕ) (owners : List (Option ℕ)) (gaps : List ℕ) (k : ℕ) (filled : List (Option ℕ)) → length gaps ≤ k → AreFilled filler owners (take k gaps) filled → AreFilled filler owners gaps filled
filled_all filler owners gaps k filled past are = subst (λ gs. AreFilled filler owners gs filled) (take_all k gaps past) are

-- ---- all owners

pub contains_or_not : (xs : List ℕ) (x : ℕ) → Contains xs x ⊎ (Contains xs x → ⊥)
contains_or_not [] x = inr (none_in x)
contains_or_not (y ∷ ys) x = elim (cases_eq y x) [
  | inl same ↦ inl (subst (Contains (y ∷ ys)) same (contains_here y ys))
  | inr other ↦ elim (contains_or_not ys x) [
    | inl has ↦ inl (contains_there y x ys has)
    | inr none ↦ inr (λ h. by h.0 h.1 h.2 other none)
  ]
]
  where
    by : (k : ℕ) → k < length (y ∷ ys) → get_or (y ∷ ys) k x ≡ x → (y ≡ x → ⊥) → (Contains ys x → ⊥) → ⊥
    by zero within is other none = other is
    by (suc k) within is other none = none (k, omega arith, is)

module _ (o : Overlay) (w : ℕ) (gaps : List ℕ) (exact : (r : ℕ) → Contains gaps r ↔ IsNarrowGap o r w) where
  -- gaps are regions
  pub gap_region : All (IsRegion o.edges) gaps
  gap_region k d within = ((exact (get_or gaps k d)).0 (Contains-get_or gaps k d within)).gap.region

  pub filled_outer : (filler : ℕ → Option ℕ) (owners filled : List (Option ℕ)) → AreFilled filler owners gaps filled → (n : ℕ) → IsOuterRegion o.edges n → owner_in owners n ≡ None → owner_in filled n ≡ None
  filled_outer filler owners filled are n outer none = are.others n (λ has. ((exact n).0 has).gap.not_outer outer) ∙ none

module _ (n : ℕ) (filler : ℕ → Option ℕ) (filler_below : (r i : ℕ) → filler r ≡ Some i → i < n) (owners : List (Option ℕ)) (gaps : List ℕ) (filled : List (Option ℕ)) (are : AreFilled filler owners gaps filled) where
  here : (k : ℕ) (d : Option ℕ) → k < length filled → owner_in filled k ≡ get_or filled k d
  here k d within = unwrap_or-slice_get filled k None ∙ get_or_default filled k None d within

  some_below : (k : ℕ) → ((i : ℕ) → owner_in filled k ≡ Some i → i < n) → IfSome (owner_in filled k) (λ i. i < n)
  some_below k below = by (owner_in filled k) refl
    where
      by : (found : Option ℕ) → owner_in filled k ≡ found → IfSome found (λ i. i < n)
      by None is = tt
      by (Some i) is = below i is

  pub filled_below : All (λ found. IfSome found (λ i. i < n)) owners → All (λ found. IfSome found (λ i. i < n)) filled
  filled_below below k d within = elim (contains_or_not gaps k) [
    | inl has ↦ subst (λ found. IfSome found (λ i. i < n)) (here k d within) (some_below k (λ i is. filler_below k i (sym (are.fillers k has) ∙ is)))
    | inr other ↦ subst (λ found. IfSome found (λ i. i < n)) (sym (unwrap_or-slice_get owners k None) ∙ sym (are.others k other) ∙ here k d within) (below k None (let long = are.count in omega (arith, long, within)))
  ]

-- ---- the fillers by the owners of regions alone

module _ (o : Overlay) (regions : AreRegions o.edges o.numbers) (f g : ℕ → Option ℕ) (same : (r : ℕ) → IsRegion o.edges r → f r ≡ g r) where
  facts_same : (r : ℕ) → gap_facts o f r ≡ gap_facts o g r
  facts_same r = ap told (λ j i. owned_same o regions f g same r i j)
    where
      told : (ℕ → ℕ) → RegionFacts
      told lengths = record {
        candidates = map (λ i. record { member = i; area2 = member_area2 o.uses i; border = lengths i }) (filter (λ i. nat_lt 0 (lengths i)) (numbers_below o.members));
        region_area2 = region_area2 o r;
        ascending = ascend_mapped (λ c. c.member) _ (filter (λ i. nat_lt 0 (lengths i)) (numbers_below o.members)) (ascend_filter (λ k. k) (λ i. nat_lt 0 (lengths i)) (numbers_below o.members) (numbers_ascend o.members));
      }

  module _ {State : Type 0} (rule : Rule State) (state : State) where
    pub state_same_owners : (gaps : List ℕ) → state_after_gaps rule state o f gaps ≡ state_after_gaps rule state o g gaps
    state_same_owners gaps = ap (λ (told : ℕ → RegionFacts). fold (λ now r. rule.next now (told r)) state gaps) (λ j r. facts_same r j)

    pub filler_same : (too : Bool) (gaps : List ℕ) (r : ℕ) → filler_by too rule state o f gaps r ≡ filler_by too rule state o g gaps r
    filler_same false gaps r = neighbour_same o regions f g same r
    filler_same true gaps r =
        ap (λ (told : ℕ → RegionFacts). option_map (λ (c : Candidate). c.member) (slice_get (told r).candidates
        (rule.pick (fold (λ now h. rule.next now (told h)) state (filter (λ h. nat_lt h r) gaps)) (told r)))) (λ j h. facts_same h j)

pub filler_below : {State : Type 0} (too : Bool) (rule : Rule State) (state : State) (o : Overlay) (owners : ℕ → Option ℕ) (gaps : List ℕ) (r i : ℕ) → filler_by too rule state o owners gaps r ≡ Some i → i < o.members
filler_below false rule state o owners gaps r i is = neighbour_below o owners r i is
filler_below true rule state o owners gaps r i is = candidate_below o owners r _ i is

-- each region has its owner
module _ {State : Type 0} (rule : Rule State) (state : State) (o : Overlay) (regions : AreRegions o.edges o.numbers) (owners : List (Option ℕ)) (by_label : (r : ℕ) → IsRegion o.edges r → owner_in owners r ≡ label_owner rule state o r)
    (gaps : List ℕ) (filled : List (Option ℕ)) where
  pub filled_owners : (w : ℕ) → ((r : ℕ) → Contains gaps r ↔ IsNarrowGap o r w) → AreFilled (filler_by false rule (last_state rule state o) o (owner_in owners) gaps) owners gaps filled
      → AreOwners rule state o w (owner_in filled)
  filled_owners w exact are r region = elim (contains_or_not gaps r) [
    | inl has ↦ inl ((exact r).0 has, are.fillers r has ∙ filler_same o regions (owner_in owners) (label_owner rule state o) by_label rule (last_state rule state o) false gaps r)
    | inr other ↦ inr ((λ narrow. other ((exact r).1 narrow)), are.others r other ∙ by_label r region)
  ]

  pub replayed_owners : AreFilled (filler_by true rule (last_state rule state o) o (owner_in owners) gaps) owners gaps filled → AreOwnersByReplay rule state o gaps (owner_in filled)
  replayed_owners are r region = elim (contains_or_not gaps r) [
    | inl has ↦ inl (has, are.fillers r has ∙ filler_same o regions (owner_in owners) (label_owner rule state o) by_label rule (last_state rule state o) true gaps r)
    | inr other ↦ inr (other, are.others r other ∙ by_label r region)
  ]
