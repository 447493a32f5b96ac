-- What holds of the elements before a place, and of the one there.
use mathlib.Core.List.{List}
use Rattle.std.proofs.Common.{ap, Some, slice_get, ◌∙◌, ◌≡◌, refl, sym, subst, ℕ, ◌+◌, ◌<◌, length, get_or, inl, inr, arith}
use Rattle.std.proofs.lemmas.Bool.{cases_lt}
use Rattle.std.proofs.lemmas.Option.{slice_get_read, get_or_from_slice_get}
use Rattle.std.specs.List.{AllWithin}

pub read_at : {X : Type 0} (xs : List X) (i : ℕ) (x d : X) → i < length xs → x ≡ get_or xs i x → get_or xs i d ≡ x
read_at xs i x d below is = get_or_from_slice_get xs i x d (slice_get_read xs (length xs) i x refl below is)

pub all_more : {X : Type 0} (P : X → Type 0) (xs : List X) (i : ℕ) (x : X) → AllWithin P xs 0 i → i < length xs → x ≡ get_or xs i x → P x → AllWithin P xs 0 (i + 1)
all_more P xs i x before below is p =
    λ k d from lt.
    elim (cases_lt k i) [
      | inl early ↦ before k d from early
      | inr late ↦ (
          let same : k ≡ i = omega (arith, lt, late) in
          subst (λ n. P (get_or xs n d)) (sym same) (subst P (sym (read_at xs i x d below is)) p)
          )
    ]

-- the element of a list that another name shows
pub item_at : {X : Type 0} (shown xs : List X) (i : ℕ) (x : X) → shown ≡ xs → i < length shown → x ≡ get_or shown i x → slice_get xs i ≡ Some x
item_at shown xs i x same below is = ap (λ l. slice_get l i) (sym same) ∙ slice_get_read shown (length shown) i x refl below is
