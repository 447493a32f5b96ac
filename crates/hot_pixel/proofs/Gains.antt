-- Lists of centres that gain elements, one step of a loop at a time.
use mathlib.Core.List.{[], ◌∷◌}
use Rattle.std.proofs.Common.{◌≡◌, ◌⊎◌, inl, inr, sym, ap, subst, ℕ, ◌+◌, ◌<◌, ◌≤◌, ◌↔◌, List, ◌++◌, length, get_or, take, Option, Some, unwrap_or, arith}
use Rattle.std.specs.Prelude.{Contains, Any}
use Rattle.std.proofs.lemmas.List.{take_more, take_all}
use Rattle.std.proofs.lemmas.List.Elements.{Contains-append_left, Contains-push, Contains-push_cases}
use Rattle.cov_types.specs.declared.coord.Coord.{Coord}
use Rattle.cov_types.specs.declared.seg.Seg.{Seg}
use Rattle.hot_pixel.specs.Centres.{Gains, HasEnd}

pub contains_none : {X : Type 0} (x : X) → Contains [] x → ⊥
contains_none x (k, within, is) = absurd (omega arith)

-- ---- some element of a list that has one more

pub any_push : {X : Type 0} (P : X → Type 0) (xs : List X) (y : X) → Any P (xs ++ y ∷ []) ↔ (Any P xs ⊎ P y)
any_push P xs y = (there, back)
  where
    there : Any P (xs ++ y ∷ []) → Any P xs ⊎ P y
    there (k, x, within, is, holds) =
        elim (Contains-push_cases xs y x (k, within, is)) [ inl h ↦ inl (h.0, x, h.1, h.2, holds) | inr e ↦ inr (subst P (sym e) holds) ]

    back : Any P xs ⊎ P y → Any P (xs ++ y ∷ [])
    back (inl (k, x, within, is, holds)) = let h = Contains-append_left xs (y ∷ []) x (k, within, is) in (h.0, x, h.1, h.2, holds)
    back (inr holds) = let h = Contains-push xs y in (h.0, y, h.1, h.2, holds)

pub any_more : {X : Type 0} (P : X → Type 0) (xs : List X) (i : ℕ) (d : X) → i < length xs → Any P (take (i + 1) xs) ↔ (Any P (take i xs) ⊎ P (get_or xs i d))
any_more P xs i d h = subst (λ ys. Any P ys ↔ (Any P (take i xs) ⊎ P (get_or xs i d))) (sym (take_more xs i d h)) (any_push P (take i xs) (get_or xs i d))

-- ---- one step after another

pub gains_then : (P Q R : Coord → Type 0) (start middle end : List Coord) → Gains start middle P → Gains middle end Q → ((r : Coord) → R r ↔ (P r ⊎ Q r)) → Gains start end R
gains_then P Q R start middle end first second both r = (there, back)
  where
    there : Contains end r → Contains start r ⊎ R r
    there h =
        elim ((second r).0 h) [
          | inl m ↦ elim ((first r).0 m) [ inl s ↦ inl s | inr p ↦ inr ((both r).1 (inl p)) ]
          | inr q ↦ inr ((both r).1 (inr q))
        ]

    back : Contains start r ⊎ R r → Contains end r
    back (inl s) = (second r).1 (inl ((first r).1 (inl s)))
    back (inr h) = elim ((both r).0 h) [ inl p ↦ (second r).1 (inl ((first r).1 (inr p))) | inr q ↦ (second r).1 (inr q) ]

pub gains_nothing : (P : Coord → Type 0) (xs : List Coord) → ((r : Coord) → ¬ P r) → Gains xs xs P
gains_nothing P xs none r = (inl, back)
  where
    back : Contains xs r ⊎ P r → Contains xs r
    back (inl h) = h
    back (inr p) = absurd (none r p)

gains_push : (xs : List Coord) (y : Coord) → Gains xs (xs ++ y ∷ []) (λ r. y ≡ r)
gains_push xs y r = (Contains-push_cases xs y r, back)
  where
    back : Contains xs r ⊎ (y ≡ r) → Contains (xs ++ y ∷ []) r
    back (inl h) = Contains-append_left xs (y ∷ []) r h
    back (inr e) = subst (λ (v : Coord). Contains (xs ++ y ∷ []) v) e (Contains-push xs y)

-- both ends of a segment
pub gains_ends : (s : Seg) (start middle end : List Coord) → middle ≡ start ++ s.lo ∷ [] → end ≡ middle ++ s.hi ∷ [] → Gains start end (HasEnd s)
gains_ends s start middle end e f =
    gains_then (λ r. s.lo ≡ r) (λ r. s.hi ≡ r) (HasEnd s) start middle end
    (subst (λ (ys : List Coord). Gains start ys (λ r. s.lo ≡ r)) (sym e) (gains_push start s.lo))
    (subst (λ (ys : List Coord). Gains middle ys (λ r. s.hi ≡ r)) (sym f) (gains_push middle s.hi)) (λ r. (λ h. h, λ h. h))

-- a centre of which alone P holds
pub gains_one : (P : Coord → Type 0) (xs ys : List Coord) (y : Coord) → ys ≡ xs ++ y ∷ [] → ((r : Coord) → P r ↔ (y ≡ r)) → Gains xs ys P
gains_one P xs ys y e only r = (there, back)
  where
    pushed : Gains xs ys (λ r. y ≡ r)
    pushed = subst (λ (zs : List Coord). Gains xs zs (λ r. y ≡ r)) (sym e) (gains_push xs y)

    there : Contains ys r → Contains xs r ⊎ P r
    there h = elim ((pushed r).0 h) [ inl k ↦ inl k | inr same ↦ inr ((only r).1 same) ]

    back : Contains xs r ⊎ P r → Contains ys r
    back (inl h) = (pushed r).1 (inl h)
    back (inr p) = (pushed r).1 (inr ((only r).0 p))

-- the answer of a search for that centre
pub gains_found : (P : Coord → Type 0) (xs ys : List Coord) (y : Coord) → ys ≡ xs ++ y ∷ [] → ((r : Coord) → (Some y ≡ Some r) ↔ P r) → Gains xs ys P
gains_found P xs ys y e found =
    gains_one P xs ys y e (λ r. (λ p. ap (λ (o : Option Coord). unwrap_or o y) ((found r).1 p), λ same. (found r).0 (ap Some same)))

pub gains_not_found : (P : Coord → Type 0) (xs ys : List Coord) → ys ≡ xs → ((r : Coord) → ¬ P r) → Gains xs ys P
gains_not_found P xs ys e none = subst (λ (zs : List Coord). Gains xs zs P) (sym e) (gains_nothing P xs none)

-- ---- a loop over a list, of which each element adds the centres that are its own

module _ {X : Type 0} (P : X → Coord → Type 0) where
  pub gains_start : (xs : List Coord) → Gains xs xs (λ r. Any (λ x. P x r) [])
  gains_start xs = gains_nothing (λ r. Any (λ x. P x r) []) xs (λ r any. contains_none any.1 (any.0, any.2, any.3))

  -- x is the element at i
  pub gains_more : (start middle end : List Coord) (xs : List X) (i : ℕ) (x : X) → i < length xs → x ≡ get_or xs i x
      → Gains start middle (λ r. Any (λ y. P y r) (take i xs)) → Gains middle end (P x) → Gains start end (λ r. Any (λ y. P y r) (take (i + 1) xs))
  gains_more start middle end xs i x within is before now =
      gains_then (λ r. Any (λ y. P y r) (take i xs)) (P x) (λ r. Any (λ y. P y r) (take (i + 1) xs)) start middle end before now
      (λ r. subst (λ z. Any (λ y. P y r) (take (i + 1) xs) ↔ (Any (λ y. P y r) (take i xs) ⊎ P z r)) (sym is) (any_more (λ y. P y r) xs i x within))

  pub gains_all : (start end : List Coord) (xs : List X) (i : ℕ) → length xs ≤ i → Gains start end (λ r. Any (λ x. P x r) (take i xs)) → Gains start end (λ r. Any (λ x. P x r) xs)
  gains_all start end xs i past h = subst (λ ys. Gains start end (λ r. Any (λ x. P x r) ys)) (take_all i xs past) h

-- what a list gains from the start is all that it has
pub gains_from_none : (P : Coord → Type 0) (start end : List Coord) → start ≡ [] → Gains start end P → (r : Coord) → Contains end r ↔ P r
gains_from_none P start end empty gains r = (there, λ p. (gains r).1 (inr p))
  where
    of_both : Contains start r ⊎ P r → P r
    of_both (inl none) = absurd (contains_none r (subst (λ (xs : List Coord). Contains xs r) empty none))
    of_both (inr p) = p

    there : Contains end r → P r
    there has = of_both ((gains r).0 has)

-- the same of facts that hold of the same centres
pub gains_alike : (P Q : Coord → Type 0) (start end : List Coord) → ((r : Coord) → P r ↔ Q r) → Gains start end P → Gains start end Q
gains_alike P Q start end alike gains r = (λ has. there ((gains r).0 has), λ h. (gains r).1 (back h))
  where
    there : Contains start r ⊎ P r → Contains start r ⊎ Q r
    there (inl s) = inl s
    there (inr p) = inr ((alike r).0 p)

    back : Contains start r ⊎ Q r → Contains start r ⊎ P r
    back (inl s) = inl s
    back (inr q) = inr ((alike r).1 q)
