-- A list of regions while it grows, one side after the other.
use mathlib.Core.List.{[], ◌∷◌}
use Rattle.std.proofs.Common.{◌≡◌, subst, ℕ, ◌+◌, ◌<◌, ◌↔◌, List, ◌++◌, inl, inr, All, arith}
use Rattle.std.specs.Prelude.{AllPairs, Contains}
use Rattle.std.proofs.lemmas.Bool.{cases_lt}
use Rattle.std.proofs.lemmas.List.Elements.{All-push, All-weaker, Contains-append_left, Contains-push, Contains-push_cases}
use Rattle.std.proofs.lemmas.List.Quantifiers.{all_pairs_push}
use Rattle.cov_types.specs.declared.seg.Seg.{Seg}
use Rattle.arrangement.specs.Overlay.{Overlay}
use Rattle.owner_label.specs.Labelled.{Labelled, IsOverlay}
use Rattle.fault_map.specs.FaultMap.{AreListed}
use Rattle.fault_map.specs.Polygon.{IsInner}

-- the list has exactly those that are to be listed and are below the number
abbrev pub AreListedBelow : (ℕ → Type 0) → ℕ → List ℕ → Type 0
AreListedBelow IsListed n list = (r : ℕ) → Contains list r ↔ ((r < n) × IsListed r)

module _ (IsListed : ℕ → Type 0) (n : ℕ) (list : List ℕ) (are : AreListedBelow IsListed n list) where
  below_same : ¬ IsListed n → AreListedBelow IsListed (n + 1) list
  below_same other r = (
    (λ has. (let h = (are r).0 has in (let low = h.0 in omega arith, h.1))),
    (λ h. elim (cases_lt r n) [
      | inl less ↦ (are r).1 (less, h.1)
      | inr past ↦ (let low = h.0 in let same : r ≡ n = omega arith in absurd (other (subst IsListed same h.1)))
    ]),
  )

  below_more : IsListed n → AreListedBelow IsListed (n + 1) (list ++ n ∷ [])
  below_more now r = (
    (λ has. elim (Contains-push_cases list n r has) [
      | inl old ↦ (let h = (are r).0 old in (let low = h.0 in omega arith, h.1))
      | inr new ↦ (omega (arith, new), subst IsListed new now)
    ]),
    (λ h. elim (cases_lt r n) [
      | inl less ↦ Contains-append_left list (n ∷ []) r ((are r).1 (less, h.1))
      | inr past ↦ (let low = h.0 in let same : n ≡ r = omega arith in subst (Contains (list ++ n ∷ [])) same (Contains-push list n))
    ]),
  )

-- the list has exactly the regions below the number that are to be listed in each overlay of the labels, ascending, and none is outer
pub record IsListing (edges : List Seg) (l : Labelled) (IsListed : Overlay → ℕ → Type 0) (n : ℕ) (list : List ℕ) : Type 0 where
  pub below : All (λ k. k < n) list
  pub inner : All (IsInner edges) list
  pub ascending : AllPairs (λ j k. j < k) list
  pub exact : (o : Overlay) → IsOverlay l o → AreListedBelow (IsListed o) n list

module _ (edges : List Seg) (l : Labelled) (IsListed : Overlay → ℕ → Type 0) where
  pub listing_none : IsListing edges l IsListed 0 []
  listing_none = record {
    below = λ k d within. absurd (omega (arith, within));
    inner = λ k d within. absurd (omega (arith, within));
    ascending = λ i j d before within. absurd (omega (arith, within));
    exact = λ o is r. ((λ has. absurd (omega (arith, has.1))), (λ h. absurd (omega (arith, h.0))));
  }

  more_below : (n : ℕ) (list : List ℕ) → All (λ k. k < n) list → All (λ k. k < n + 1) list
  more_below n list below = All-weaker (λ k. k < n) (λ k. k < n + 1) (λ k less. omega arith) list below

  pub listing_same : (n : ℕ) (list : List ℕ) → IsListing edges l IsListed n list → ((o : Overlay) → IsOverlay l o → ¬ IsListed o n) → IsListing edges l IsListed (n + 1) list
  listing_same n list are other = record {
    below = more_below n list are.below;
    inner = are.inner;
    ascending = are.ascending;
    exact = λ o is. below_same (IsListed o) n list (are.exact o is) (other o is);
  }

  pub listing_more : (n : ℕ) (list : List ℕ) → IsListing edges l IsListed n list → IsInner edges n → ((o : Overlay) → IsOverlay l o → IsListed o n) → IsListing edges l IsListed (n + 1) (list ++ n ∷ [])
  listing_more n list are inner now = record {
    below = All-push (λ k. k < n + 1) list n (more_below n list are.below) (omega arith);
    inner = All-push (IsInner edges) list n are.inner inner;
    ascending = all_pairs_push (λ (j k : ℕ). j < k) list n are.ascending (λ k d within. are.below k d within);
    exact = λ o is. below_more (IsListed o) n list (are.exact o is) (now o is);
  }

  -- after the last number it has all
  pub listing_all : (n : ℕ) (list : List ℕ) → IsListing edges l IsListed n list → (o : Overlay) → IsOverlay l o → ((r : ℕ) → IsListed o r → r < n) → AreListed (IsListed o) list
  listing_all n list are o is past = record {
    ascending = are.ascending;
    exact = λ r. ((λ has. ((are.exact o is r).0 has).1), (λ h. (are.exact o is r).1 (past r h, h)));
  }
