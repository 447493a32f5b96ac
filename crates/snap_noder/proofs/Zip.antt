-- Two lists side by side, one more element at a time.
use mathlib.Core.List.{[], ◌∷◌}
use Rattle.std.proofs.Common.{◌≡◌, refl, sym, ◌∙◌, ap, subst, ℕ, ◌+◌, ◌<◌, ◌≤◌, List, ◌++◌, get_or, length, take}
use Rattle.std.specs.Prelude.{zip}
use Rattle.std.specs.List.{AllZip}
use Rattle.std.proofs.lemmas.List.{take_more, take_all}

pub zip_push : {A B : Type 0} (R : A → B → Type 0) (xs : List A) (ys : List B) (x : A) (y : B) → AllZip R xs ys → R x y → AllZip R (xs ++ x ∷ []) (ys ++ y ∷ [])
zip_push R [] [] x y each now = (now, tt)
zip_push R [] (b ∷ ys) x y each now = absurd each
zip_push R (a ∷ xs) [] x y each now = absurd each
zip_push R (a ∷ xs) (b ∷ ys) x y each now = (each.0, zip_push R xs ys x y each.1 now)

-- x is the element at i
pub zip_more : {A B : Type 0} (R : A → B → Type 0) (xs : List A) (ys : List B) (i : ℕ) (x : A) (y : B) → i < length xs → x ≡ get_or xs i x → AllZip R (take i xs) ys → R x y → AllZip R (take (i + 1) xs) (ys ++ y ∷ [])
zip_more R xs ys i x y within is each now =
    subst (λ zs. AllZip R zs (ys ++ y ∷ [])) (ap (λ z. take i xs ++ z ∷ []) is ∙ sym (take_more xs i x within)) (zip_push R (take i xs) ys x y each now)

pub zip_all : {A B : Type 0} (R : A → B → Type 0) (xs : List A) (ys : List B) (i : ℕ) → length xs ≤ i → AllZip R (take i xs) ys → AllZip R xs ys
zip_all R xs ys i past each = subst (λ zs. AllZip R zs ys) (take_all i xs past) each

pub zipped_push : {A B : Type 0} (R : A → B → Type 0) (xs : List A) (ys : List B) (x : A) (y : B) → AllZip R xs ys → zip (xs ++ x ∷ []) (ys ++ y ∷ []) ≡ zip xs ys ++ (x, y) ∷ []
zipped_push R [] [] x y each = refl
zipped_push R [] (b ∷ ys) x y each = absurd each
zipped_push R (a ∷ xs) [] x y each = absurd each
zipped_push R (a ∷ xs) (b ∷ ys) x y each = ap (λ zs. (a, b) ∷ zs) (zipped_push R xs ys x y each.1)
