-- Which numbers of an ascending list are in another.
use Rattle.std.proofs.Common.{◌≡◌, sym, ap, ◌∙◌, subst, ℕ, ◌+◌, ◌<◌, ◌≤◌, ◌↔◌, Bool, IsTrue, List, [], ◌∷◌, ◌++◌, length, get_or, Contains, arith, inl, inr, Some}
use Rattle.std.specs.Prelude.{AllPairs, slice_get}
use Rattle.std.proofs.lemmas.Bool.{cases_lt}
use Rattle.std.proofs.lemmas.List.{get_or_append_left, get_or_push, length_push}
use Rattle.std.proofs.lemmas.Option.{slice_get-get_or, slice_get_within, get_or_from_slice_get}
use Rattle.cov_valid.specs.Among.{ArePresent}

-- the number at a place, as lists are read
pub listed_at : (list : List ℕ) (at n : ℕ) → slice_get list at ≡ Some n → Contains list n
listed_at list at n is = (at, slice_get_within list at n is, get_or_from_slice_get list at n n is)

-- after all lesser numbers stands the number, where it is in the list at all
pub present_is : (list : List ℕ) (at n : ℕ) (b : Bool) → AllPairs (λ i j. i ≤ j) list → ((k d : ℕ) → k < at → get_or list k d < n) → ((d : ℕ) → at < length list → n ≤ get_or list at d)
    → IsTrue b ↔ (slice_get list at ≡ Some n) → IsTrue b ↔ Contains list n
present_is list at n b up below found told = (
  λ h. listed_at list at n (told.0 h),
  λ (k, within, is). told.1
      (elim (cases_lt k at) [
        | inl before ↦ absurd (omega (arith, below k n before, is))
        | inr later ↦
            let here : at < length list = omega (arith, later, within) in
            let most : get_or list at n ≤ get_or list k n = elim (cases_lt at k) [
              | inl earlier ↦ up at k n earlier within
              | inr past ↦ let same : at ≡ k = omega (arith, later, past) in omega (arith, ap (λ j. get_or list j n) same)
            ] in
            let same : get_or list at n ≡ n = omega (arith, most, is, found n here) in
            slice_get-get_or list at n here ∙ ap (λ (m : ℕ). Some m) same
      ]),
)

-- it is told of the first so many numbers
pub record ArePresentTo (numbers list : List ℕ) (i : ℕ) (present : List Bool) : Type 0 where
  pub count : length present ≡ i
  pub each : (k : ℕ) (d : ℕ) (e : Bool) → k < i → IsTrue (get_or present k e) ↔ Contains list (get_or numbers k d)

pub present_none : (numbers list : List ℕ) (present : List Bool) → present ≡ [] → ArePresentTo numbers list 0 present
present_none numbers list present e = record { count = ap length e; each = λ k d b h. absurd (omega (arith, h)) }

pub present_more : (numbers list : List ℕ) (i : ℕ) (present more : List Bool) (b : Bool) → more ≡ present ++ b ∷ [] → ((d : ℕ) → IsTrue b ↔ Contains list (get_or numbers i d)) → ArePresentTo numbers list i present
    → ArePresentTo numbers list (i + 1) more
present_more numbers list i present more b pushed is so_far =
    subst (ArePresentTo numbers list (i + 1)) (sym pushed)
    (record {
      count = omega (arith, length_push present b, so_far.count);
      each = λ k d e h. elim (cases_lt k i) [
        | inl earlier ↦
            subst (λ (t : Bool). IsTrue t ↔ Contains list (get_or numbers k d)) (sym (get_or_append_left present (b ∷ []) e k (omega (arith, earlier, so_far.count)))) (so_far.each k d e earlier)
        | inr later ↦
            let here : k ≡ i = omega (arith, later, h) in
            let same : get_or (present ++ b ∷ []) k e ≡ b = get_or_push present b e k (so_far.count ∙ sym here) in
            subst (λ (t : Bool). IsTrue t ↔ Contains list (get_or numbers k d)) (sym same) (subst (λ (j : ℕ). IsTrue b ↔ Contains list (get_or numbers j d)) (sym here) (is d))
      ];
    })

pub present_all : (numbers list : List ℕ) (i : ℕ) (present : List Bool) → i ≡ length numbers → ArePresentTo numbers list i present → ArePresent numbers list present
present_all numbers list i present e are = record { count = are.count ∙ e; each = λ k d b h. are.each k d b (omega (arith, h, e)) }

-- what is less than a number is less than the numbers after it
pub still_below : (numbers list : List ℕ) (i at : ℕ) → AllPairs (λ i j. i ≤ j) numbers → ((k d e : ℕ) → k < at → get_or list k d < get_or numbers i e)
    → (k d e j : ℕ) → k < at → i + 1 ≤ j → j < length numbers → get_or list k d < get_or numbers j e
still_below numbers list i at up below k d e j h later within =
    let most : get_or numbers i e ≤ get_or numbers j e = up i j e (omega (arith, later)) within in
    omega (arith, below k d e h, most)
