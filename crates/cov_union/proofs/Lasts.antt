-- The last element of a list, and what comes after the elements of an ascending list.
use mathlib.Core.List.{[], ◌∷◌}
use Rattle.std.proofs.Common.{◌≡◌, inl, inr, sym, ◌∙◌, ap, subst, true≢false, ◌+◌, ◌-◌, ◌<◌, ◌↔◌, Bool, false, List, ◌++◌, length, get_or, take, IsTrue, Decides, Some, is_some, slice_get, arith}
use Rattle.std.specs.Prelude.{AllPairs, Contains}
use Rattle.std.proofs.lemmas.Bool.{cases_Bool, cases_lt, false≢true}
use Rattle.std.proofs.lemmas.Option.{get_or_from_slice_get, slice_get-get_or}
use Rattle.std.proofs.lemmas.List.{take_more, take_all, length-append}
use Rattle.std.proofs.lemmas.List.Elements.{Contains-get_or}
use Rattle.std.proofs.Math.Seq.{get_or-append_seam}
use Rattle.snap_noder.specs.Places.{EndsWith}

-- a list is empty or ends in the element at its last place
pub last_of : {X : Type 0} (xs : List X) (d : X) → 0 < length xs → xs ≡ take (length xs - 1) xs ++ get_or xs (length xs - 1) d ∷ []
last_of xs d some = sym (take_all (length xs - 1 + 1) xs (omega arith)) ∙ take_more xs (length xs - 1) d (omega arith)

-- the last element is what the code reads there
last_is : {X : Type 0} (xs : List X) (last : X) → Some last ≡ slice_get xs (length xs - 1) → (x : X) → (last ≡ x) ↔ EndsWith xs x
last_is [] last read x = absurd (false≢true (ap is_some (sym read)))
last_is {X} (y ∷ xs) last read x = (there, back)
  where
    at_last : get_or (y ∷ xs) (length (y ∷ xs) - 1) last ≡ last
    at_last = get_or_from_slice_get (y ∷ xs) (length (y ∷ xs) - 1) last last (sym read)

    there : last ≡ x → EndsWith (y ∷ xs) x
    there same = (take (length (y ∷ xs) - 1) (y ∷ xs), last_of (y ∷ xs) last (omega arith) ∙ ap (λ (u : X). take (length (y ∷ xs) - 1) (y ∷ xs) ++ u ∷ []) (at_last ∙ same))

    back : EndsWith (y ∷ xs) x → last ≡ x
    back (front, split) =
        let long : length (y ∷ xs) ≡ length front + 1 = ap length split ∙ length-append front (x ∷ []) in
        let place : length (y ∷ xs) - 1 ≡ length front = omega arith in
        sym at_last ∙ (λ i. get_or (split i) (place i) last) ∙ get_or-append_seam front x [] last

module _ {X : Type 0} (same : X → X → Bool) (decides : (a b : X) → Decides (same a b) (a ≡ b)) where
  pub is_last_told : (xs : List X) (last x : X) (b : Bool) → Some last ≡ slice_get xs (length xs - 1) → b ≡ same last x → IsTrue b ↔ EndsWith xs x
  is_last_told xs last x b read told =
      let is = last_is xs last read x in
      (λ h. is.0 ((decides last x).0 (sym told ∙ h)), λ h. told ∙ (decides last x).1 (is.1 h))

pub not_both : (t : Bool) → IsTrue t → t ≡ false → ⊥
not_both t h k = true≢false (sym h ∙ k)

-- x comes before none of an ascending list, and is not its last: so all of them come before x
module _ {X : Type 0} (before : X → X → Bool) (joined : (a b : X) → before a b ≡ false → before b a ≡ false → a ≡ b) (xs : List X) (x : X) (up : AllPairs (λ a b. IsTrue (before a b)) xs)
    (not_after : (y : X) → Contains xs y → before x y ≡ false) (not_last : ¬ EndsWith xs x) where
  pub not_there : ¬ Contains xs x
  not_there (k, inside, at) =
      elim (cases_lt k (length xs - 1)) [
        | inl earlier ↦ not_both (before x (get_or xs (length xs - 1) x))
            (subst (λ (u : X). IsTrue (before u (get_or xs (length xs - 1) x))) at (up k (length xs - 1) x earlier (omega arith)))
            (not_after (get_or xs (length xs - 1) x) (Contains-get_or xs (length xs - 1) x (omega arith)))
        | inr late ↦ (
            let here : k ≡ length xs - 1 = omega arith in
            not_last (take (length xs - 1) xs, last_of xs x (omega arith) ∙ ap (λ (u : X). take (length xs - 1) xs ++ u ∷ []) (ap (λ n. get_or xs n x) (sym here) ∙ at)))
      ]

  pub all_before : (y : X) → Contains xs y → IsTrue (before y x)
  all_before y has =
      elim (cases_Bool (before y x)) [
        | inl first ↦ first
        | inr none ↦ absurd (not_there (subst (λ (u : X). Contains xs u) (joined y x none (not_after y has)) has))
      ]

-- what a test of a list that the code read through a slice tells of the list
pub told_not_last : {X : Type 0} (shown xs : List X) (x : X) (b : Bool) → shown ≡ xs → (IsTrue b ↔ EndsWith shown x) → b ≡ false → ¬ EndsWith xs x
told_not_last {X} shown xs x b same told h last = not_both b (told.1 (subst (λ (ys : List X). EndsWith ys x) (sym same) last)) h
