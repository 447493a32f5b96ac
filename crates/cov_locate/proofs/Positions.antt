-- Where the first byte that passes a test stands.
use Rattle.std.proofs.Common.{◌≡◌, ◌∙◌, ap, ℕ, ◌+◌, ◌-◌, ◌≤◌, Bool, true, false, not, cond, List, [], ◌∷◌, length, take, drop, arith, inl, inr, length-drop}
use Rattle.std.specs.Prelude.{Option, Some, None, nat_lt, unwrap_or}
use Rattle.std.specs.List.{position_or_len}
use Rattle.std.proofs.lemmas.Bool.{cases_lt, lt-ltb, le-ltb}
use Rattle.std.proofs.lemmas.List.{take_all}

within_more : (t : Bool) (n m : ℕ) → n ≤ m → cond t (1 + n) 0 ≤ m + 1
within_more true n m h = omega (arith, h)
within_more false n m h = omega arith

pub position_within : (p : ℕ → Bool) (bytes : List ℕ) → position_or_len p bytes ≤ length bytes
position_within p [] = omega arith
position_within p (b ∷ bytes) = (let rest = within_more (not (p b)) (position_or_len p bytes) (length bytes) (position_within p bytes) in omega (arith, rest))

-- the place that is found, or the length
pub found_or_len : (n len : ℕ) (r : Option ℕ) → n ≤ len → r ≡ cond (nat_lt n len) (Some n) None → unwrap_or r len ≡ n
found_or_len n len r within is =
    elim (cases_lt n len) [
      | inl less ↦ ap (λ (o : Option ℕ). unwrap_or o len) (is ∙ ap (λ t. cond t (Some n) None) (lt-ltb n len less))
      | inr more ↦ ap (λ (o : Option ℕ). unwrap_or o len) (is ∙ ap (λ t. cond t (Some n) None) (le-ltb n len more)) ∙ omega (arith, within, more)
    ]

-- by the clauses of `position` and `unwrap_or`
pub place_exact : (p : ℕ → Bool) (bytes : List ℕ) (r : Option ℕ) (n : ℕ) → n ≡ unwrap_or r (length bytes) → r ≡ cond (nat_lt (position_or_len p bytes) (length bytes)) (Some (position_or_len p bytes)) None → n ≡ position_or_len p bytes
place_exact p bytes r n is found = is ∙ found_or_len (position_or_len p bytes) (length bytes) r (position_within p bytes) found

pub place_within : (p : ℕ → Bool) (bytes : List ℕ) (r : Option ℕ) (n : ℕ) → n ≡ unwrap_or r (length bytes) → r ≡ cond (nat_lt (position_or_len p bytes) (length bytes)) (Some (position_or_len p bytes)) None → n ≤ length bytes
place_within p bytes r n is found = omega (arith, place_exact p bytes r n is found, position_within p bytes)

-- all of the rest
pub rest_is : (bytes : List ℕ) (n : ℕ) → take (length bytes - n) (drop n bytes) ≡ drop n bytes
rest_is bytes n = take_all (length bytes - n) (drop n bytes) (omega (arith, length-drop n bytes))
