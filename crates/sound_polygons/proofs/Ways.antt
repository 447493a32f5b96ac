-- Lists of ways along edges that are one list in another order, by a test.
use mathlib.Core.List.{[], ◌∷◌}
use Rattle.std.proofs.Common.{◌≡◌, refl, sym, ap, subst, ◌==◌, Bool, true, false, cond, List, Option, Some, None, arith}
use Rattle.std.specs.Prelude.{length, option_map, unwrap_or}
use Rattle.std.specs.List.Sorted.{IsPermutation}
use Rattle.std.proofs.lemmas.Bool.{and_parts, false≢true}
use Rattle.std.proofs.lemmas.Bool.Decides.{Decides-eqb}
use Rattle.std.proofs.lemmas.List.Sorted.{IsPermutation-refl, IsPermutation-sym, IsPermutation-cons, IsPermutation-trans, IsPermutation-middle}
use Rattle.std.proofs.lemmas.Option.{none-some}
use Rattle.cov_types.specs.declared.coord.Coord.{Coord}
use Rattle.cov_types.proofs.Equal.{Decides-same_coords}
use Rattle.sound_polygons.specs.Examples.{is_same_way, without, is_reordered}

is_some : {X : Type 0} (a b : X) → Some a ≡ Some b → a ≡ b
is_some a b h = ap (λ o. unwrap_or o a) h

module _ {X : Type 0} (same : X → X → Bool) (decides : (a b : X) → same a b ≡ true → a ≡ b) where
  taken_out : (x : X) (ys rest : List X) → without same x ys ≡ Some rest → IsPermutation ys (x ∷ rest)
  taken_out x [] rest h = absurd (none-some rest h)
  taken_out x (y ∷ ys) rest h = by (taken_out x ys) (same x y) refl (without same x ys) refl h
    where
      by : ((zs : List X) → without same x ys ≡ Some zs → IsPermutation ys (x ∷ zs)) → (b : Bool) → same x y ≡ b
          → (found : Option (List X)) → without same x ys ≡ found → cond b (Some ys) (option_map (λ zs. y ∷ zs) found) ≡ Some rest → IsPermutation (y ∷ ys) (x ∷ rest)
      by later true e found f k = subst (λ zs. IsPermutation (y ∷ ys) (x ∷ zs)) (is_some ys rest k) (subst (λ z. IsPermutation (y ∷ ys) (z ∷ ys)) (sym (decides x y e)) (IsPermutation-refl (y ∷ ys)))
      by later false e None f k = absurd (none-some rest k)
      by later false e (Some zs) f k =
          subst (λ r. IsPermutation (y ∷ ys) (x ∷ r)) (is_some (y ∷ zs) rest k)
          (IsPermutation-trans (y ∷ ys) (y ∷ x ∷ zs) (x ∷ y ∷ zs) (IsPermutation-cons y ys (x ∷ zs) (later zs f)) (IsPermutation-middle (y ∷ []) x zs))

  no_length : (ys : List X) → (length ys == 0) ≡ true → [] ≡ ys
  no_length [] h = refl
  no_length (y ∷ ys) h = let none = (Decides-eqb (length (y ∷ ys)) 0).0 h in absurd (omega arith)

  pub reordered : (xs ys : List X) → is_reordered same xs ys ≡ true → IsPermutation xs ys
  reordered [] ys h = subst (IsPermutation []) (no_length ys h) (IsPermutation-refl [])
  reordered (x ∷ xs) ys h = by (reordered xs) (without same x ys) refl h
    where
      by : ((zs : List X) → is_reordered same xs zs ≡ true → IsPermutation xs zs) → (found : Option (List X)) → without same x ys ≡ found
          → unwrap_or (option_map (is_reordered same xs) found) false ≡ true → IsPermutation (x ∷ xs) ys
      by rest None f k = absurd (false≢true k)
      by rest (Some zs) f k =
          IsPermutation-trans (x ∷ xs) (x ∷ zs) ys (IsPermutation-cons x xs zs (rest zs k)) (IsPermutation-sym ys (x ∷ zs) (taken_out x ys zs f))

pub ways_reordered : (xs ys : List (Coord × Coord)) → is_reordered is_same_way xs ys ≡ true → IsPermutation xs ys
ways_reordered = reordered is_same_way (λ a b h. (let parts = and_parts _ _ h in
    let first = (Decides-same_coords a.0 b.0).0 parts.0 in
    let second = (Decides-same_coords a.1 b.1).0 parts.1 in
    λ i. (first i, second i)))
