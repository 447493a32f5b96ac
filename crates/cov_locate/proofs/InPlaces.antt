-- Places that are told one after the other, in any order.
use Rattle.std.proofs.Common.{◌≡◌, sym, ◌∙◌, ap, subst, ℕ, suc, ◌+◌, ◌≤◌, ◌<◌, List, [], ◌∷◌, ◌++◌, length, get_or, set, Contains, arith, inl, inr, ◌⊎◌}
use Rattle.std.specs.List.{AllZip}
use Rattle.std.proofs.lemmas.Bool.{cases_eq}
use Rattle.std.proofs.lemmas.List.{get_or-set_same, get_or-set_other, get_or_default}
use Rattle.std.proofs.lemmas.List.Elements.{Contains-append_cases}
use Rattle.box_tree.specs.Rect.{IsInside, box_of_point}
use Rattle.box_tree.specs.declared.rect.Rect.{Rect}
use Rattle.cov_locate.specs.Places.{IsRightAt}
use Rattle.cov_locate.specs.Where.{IsWhere}
use Rattle.cov_locate.specs.declared.place.Where.{Where}
use Rattle.cov_types.specs.declared.coord.Coord.{Coord}
use Rattle.cov_types.specs.declared.edge_use.EdgeUse.{EdgeUse}

module _ (uses : List EdgeUse) (points : List Coord) where
  -- the place that is written is right
  pub right_here : (places : List Where) (m : ℕ) (c : Coord) (w : Where) → length places ≡ length points → IsWhere uses (get_or points m c) w → IsRightAt uses points (set places m w) m
  right_here places m c w count is d e within =
      subst (IsWhere uses (get_or points m d)) (sym (get_or-set_same places m w e (omega (arith, within, count)))) (subst (λ (q : Coord). IsWhere uses q w) (get_or_default points m c d within) is)

  -- the others stay right
  pub right_still : (places : List Where) (m n : ℕ) (c : Coord) (w : Where) → length places ≡ length points → IsWhere uses (get_or points m c) w → IsRightAt uses points places n → IsRightAt uses points (set places m w) n
  right_still places m n c w count is right =
      elim (cases_eq n m) [
        | inl e ↦ subst (IsRightAt uses points (set places m w)) (sym e) (right_here places m c w count is)
        | inr apart ↦ λ d e within. subst (IsWhere uses (get_or points n d)) (sym (get_or-set_other places m n w e apart)) (right d e within)
      ]

  -- each point waits or is right
  abbrev pub AreTold : List ℕ → List Where → Type 0
  AreTold rest places = (n : ℕ) → n < length points → Contains rest n ⊎ IsRightAt uses points places n

  pub told_group : (rest group others : List ℕ) (old new : List Where) → rest ≡ group ++ others → ((n : ℕ) → Contains group n → IsRightAt uses points new n) → ((n : ℕ) → IsRightAt uses points old n → IsRightAt uses points new n)
      → AreTold rest old → AreTold others new
  told_group rest group others old new split own kept told n within =
      elim (told n within) [
        | inl waits ↦ elim (Contains-append_cases group others n (subst (λ (xs : List ℕ). Contains xs n) split waits)) [ inl now ↦ inr (own n now) | inr later ↦ inl later ]
        | inr right ↦ inr (kept n right)
      ]

-- the point that was looked at last is in the box
pub point_inside : (points : List Coord) (group : List ℕ) (i k n : ℕ) (c d : Coord) (b : Rect) → k < i + 1 → i ≤ k → i < length group → get_or group i 0 < length points
    → IsInside (box_of_point (get_or points (get_or group i 0) c)) b → IsInside (box_of_point (get_or points (get_or group k n) d)) b
point_inside points group i k n c d b below above within inside h =
    let here : i ≡ k = omega (arith, below, above) in
    let same : get_or group i 0 ≡ get_or group k n = get_or_default group i 0 n within ∙ ap (λ (j : ℕ). get_or group j n) here in
    subst (λ (m : ℕ). IsInside (box_of_point (get_or points m d)) b) same (subst (λ (q : Coord). IsInside (box_of_point q) b) (get_or_default points (get_or group i 0) c d inside) h)

zip_all : {A B : Type 0} (R : A → B → Type 0) (xs : List A) (ys : List B) → length ys ≡ length xs → ((n : ℕ) (d : A) (e : B) → n < length xs → R (get_or xs n d) (get_or ys n e)) → AllZip R xs ys
zip_all R [] [] count each = tt
zip_all R [] (y ∷ ys) count each = absurd (omega (arith, count))
zip_all R (x ∷ xs) [] count each = absurd (omega (arith, count))
zip_all R (x ∷ xs) (y ∷ ys) count each = (each 0 x y (omega arith), zip_all R xs ys (omega (arith, count)) (λ n d e h. each (suc n) d e (omega (arith, h))))

-- no point waits
pub told_all : (uses : List EdgeUse) (points : List Coord) (rest : List ℕ) (places : List Where) → length places ≡ length points → length rest ≡ 0 → AreTold uses points rest places → AllZip (IsWhere uses) points places
told_all uses points rest places count none told =
    zip_all (IsWhere uses) points places count
    (λ n d e within. elim (told n within) [ inl waits ↦ absurd (omega (arith, waits.1, none)) | inr right ↦ right d e within ])
