-- Lists that say something of each of the first numbers.
use mathlib.Core.List.{List, [], ◌∷◌}
use Rattle.std.proofs.Common.{◌≡◌, refl, sym, ◌∙◌, ap, subst, ℕ, zero, suc, ◌+◌, ◌<◌, ◌++◌, length, Some, slice_get, inl, inr, ◌⊎◌, arith}
use Rattle.std.proofs.lemmas.Option.{none-some, same_Some}

-- the list has n elements, and each is in the relation with its place
pub record IsTable {X : Type 0} (P : ℕ → X → Type 0) (xs : List X) (n : ℕ) : Type 0 where
  pub count : length xs ≡ n
  pub each : (i : ℕ) (x : X) → slice_get xs i ≡ Some x → P i x

pub table-none : {X : Type 0} (P : ℕ → X → Type 0) → IsTable P [] 0
table-none P = record { count = refl; each = λ i x at. absurd (none-some x at) }

pub last_or_before : {X : Type 0} (xs : List X) (y : X) (i : ℕ) (x : X) → slice_get (xs ++ y ∷ []) i ≡ Some x → (slice_get xs i ≡ Some x) ⊎ ((i ≡ length xs) × (y ≡ x))
last_or_before [] y zero x at = inr (refl, same_Some y x at)
last_or_before [] y (suc i) x at = absurd (none-some x at)
last_or_before (z ∷ zs) y zero x at = inl at
last_or_before (z ∷ zs) y (suc i) x at = elim (last_or_before zs y i x at) [ inl before ↦ inl before | inr last ↦ inr (ap suc last.0, last.1) ]

length-pushed : {X : Type 0} (xs : List X) (y : X) → length (xs ++ y ∷ []) ≡ length xs + 1
length-pushed [] y = refl
length-pushed (x ∷ xs) y = let rest = length-pushed xs y in omega (arith, rest)

pub table-push : {X : Type 0} (P : ℕ → X → Type 0) (xs : List X) (n : ℕ) (y : X) → IsTable P xs n → P n y → IsTable P (xs ++ y ∷ []) (n + 1)
table-push P xs n y table is =
    record {
      count = length-pushed xs y ∙ ap (λ k. k + 1) table.count;
      each = λ i x at. elim (last_or_before xs y i x at) [
        | inl before ↦ table.each i x before
        | inr last ↦ subst (λ k. P k x) (sym (last.0 ∙ table.count)) (subst (λ z. P n z) last.1 is)
      ];
    }

-- there is an element at each place
pub some_at : {X : Type 0} (xs : List X) (i : ℕ) → i < length xs → (x : X) × (slice_get xs i ≡ Some x)
some_at [] i below = absurd (omega (arith, below))
some_at (x ∷ xs) zero below = (x, refl)
some_at (x ∷ xs) (suc i) below = some_at xs i (omega (arith, below))
