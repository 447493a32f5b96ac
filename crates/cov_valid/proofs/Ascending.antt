-- Lists that ascend by a number of each element.
use Rattle.std.proofs.Common.{◌≡◌, ℕ, zero, suc, ◌<◌, List, [], ◌∷◌, Contains, refl, sym, ap, ◌∙◌, subst, arith, ◌⊎◌, inl, inr}
use Rattle.std.specs.Prelude.{AllPairs}

-- an element of a list is its first or one of the rest
Contains-cases : {X : Type 0} (x y : X) (xs : List X) → Contains (x ∷ xs) y → (x ≡ y) ⊎ Contains xs y
Contains-cases x y xs (zero, within, at) = inl at
Contains-cases x y xs (suc k, within, at) = inr (k, omega (arith, within), at)

Contains-first : {X : Type 0} (x : X) (xs : List X) → Contains (x ∷ xs) x
Contains-first x xs = (0, omega arith, refl)

Contains-rest : {X : Type 0} (x y : X) (xs : List X) → Contains xs y → Contains (x ∷ xs) y
Contains-rest x y xs h = (suc h.0, omega (arith, h.1), h.2)

module _ {X : Type 0} (number : X → ℕ) where
  abbrev AreAscending : List X → Type 0
  AreAscending xs = AllPairs (λ a b. number a < number b) xs

  -- the first element of an ascending list is before each of the rest, and the rest ascends
  first_before : (x y : X) (xs : List X) → AreAscending (x ∷ xs) → Contains xs y → number x < number y
  first_before x y xs up h = subst (λ (z : X). number x < number z) h.2 (up 0 (suc h.0) y (omega arith) (omega (arith, h.1)))

  rest_ascends : (x : X) (xs : List X) → AreAscending (x ∷ xs) → AreAscending xs
  rest_ascends x xs up i j d h k = up (suc i) (suc j) d (omega (arith, h)) (omega (arith, k))

  -- two ascending lists with the same elements have the same first
  same_first : (x y : X) (xs ys : List X) → AreAscending (x ∷ xs) → AreAscending (y ∷ ys) → Contains (y ∷ ys) x → Contains (x ∷ xs) y → x ≡ y
  same_first x y xs ys up_x up_y has_x has_y =
      elim (Contains-cases y x ys has_x) [
        | inl same ↦ sym same
        | inr later_x ↦ elim (Contains-cases x y xs has_y) [
          | inl same ↦ same
          | inr later_y ↦ absurd (omega (arith, first_before y x ys up_y later_x, first_before x y xs up_x later_y))
        ]
      ]

  -- an element of the rest of one is an element of the rest of the other
  rest_within : (x y z : X) (xs ys : List X) → x ≡ y → AreAscending (x ∷ xs) → ((m : X) → Contains (x ∷ xs) m → Contains (y ∷ ys) m) → Contains xs z → Contains ys z
  rest_within x y z xs ys same up within h =
      elim (Contains-cases y z ys (within z (Contains-rest x z xs h))) [
        | inl first ↦ let place : number x ≡ number z = ap number (same ∙ first) in absurd (omega (arith, first_before x z xs up h, place))
        | inr later ↦ later
      ]

  -- two ascending lists with the same elements are one
  pub same_ascending : (xs ys : List X) → AllPairs (λ a b. number a < number b) xs → AllPairs (λ a b. number a < number b) ys → ((m : X) → Contains xs m → Contains ys m) → ((m : X) → Contains ys m → Contains xs m) → xs ≡ ys
  same_ascending [] [] up_x up_y there back = refl
  same_ascending [] (y ∷ ys) up_x up_y there back = absurd (omega (arith, (back y (Contains-first y ys)).1))
  same_ascending (x ∷ xs) [] up_x up_y there back = absurd (omega (arith, (there x (Contains-first x xs)).1))
  same_ascending (x ∷ xs) (y ∷ ys) up_x up_y there back =
      let first : x ≡ y = same_first x y xs ys up_x up_y (there x (Contains-first x xs)) (back y (Contains-first y ys)) in
      let rest : xs ≡ ys = same_ascending xs ys (rest_ascends x xs up_x) (rest_ascends y ys up_y)
      (λ m h. rest_within x y m xs ys first up_x there h)
      (λ m h. rest_within y x m ys xs (sym first) up_y back h) in
      λ i. first i ∷ rest i
