-- The digits of a remainder, one after the other, up to the last that is not 0.
use Rattle.std.proofs.Common.{◌≡◌, ◌≢◌, ◌++◌, ◌+◌, ◌*◌, ◌/◌, ◌%◌, ◌^◌, ◌<◌, ◌≤◌, ℕ, zero, suc, Bool, true, false, eqb, List, [], ◌∷◌, refl, ap, ◌∙◌, sym, arith, append_assoc, append-nil, subst, ap₂, ◌-◌}
use Rattle.std.specs.List.{list_all}
use Rattle.std.proofs.lemmas.Bool.{and_parts, false_from_ne_true}
use Rattle.std.proofs.lemmas.Bool.Decides.{nat_tests}
use Rattle.std.proofs.lemmas.Nat.{div-add-mod', mod_below, div_below}
use Rattle.std.proofs.Math.Nat.{one-le-pow, pow-succ', zero-div}
use Rattle.cov_write.specs.Written.{places, without_end_zeros}

abbrev pub is_zero : ℕ → Bool
is_zero b = eqb b 48

pub some_power : (k : ℕ) → 0 < 10 ^ k
some_power k = one-le-pow k 10 (omega arith)

no_rest : (k : ℕ) → 0 % 10 ^ k ≡ 0
no_rest k = omega (arith, div-add-mod' 0 (10 ^ k))

no_digit : (k : ℕ) → 0 / 10 ^ k ≡ 0
no_digit k = zero-div (10 ^ k)

-- the digits of 0 are zeros
zeros : (k : ℕ) → list_all is_zero (places k 0) ≡ true
zeros zero = refl
zeros (suc k) = rw (no_digit k, no_rest k) (zeros k)

-- and only those
only_zeros : (k r : ℕ) → r < 10 ^ k → list_all is_zero (places k r) ≡ true → r ≡ 0
only_zeros zero r h e = omega (arith, h)
only_zeros (suc k) r h e =
    let both = and_parts (eqb (48 + r / 10 ^ k) 48) (list_all is_zero (places k (r % 10 ^ k))) e in
    let first : 48 + r / 10 ^ k ≡ 48 = grind (arith, nat_tests) in
    let none : r / 10 ^ k ≡ 0 = omega (arith, first) in
    let rest : r % 10 ^ k ≡ 0 = only_zeros k (r % 10 ^ k) (mod_below r (10 ^ k) (some_power k)) both.1 in
    let nothing : r / 10 ^ k * 10 ^ k ≡ 0 * 10 ^ k = ap (λ n. n * 10 ^ k) none in
    omega (arith, div-add-mod' r (10 ^ k), nothing, rest)

pub nothing_left : (k : ℕ) → without_end_zeros (places k 0) ≡ []
nothing_left zero = refl
nothing_left (suc k) = rw (zeros (suc k)) refl

-- the first digit, where not all are zeros
pub first_place : (k r : ℕ) → 0 < r → r < 10 ^ suc k → without_end_zeros (places (suc k) r) ≡ (48 + r / 10 ^ k) ∷ without_end_zeros (places k (r % 10 ^ k))
first_place k r some h =
    let not_all : list_all is_zero (places (suc k) r) ≡ false = false_from_ne_true (list_all is_zero (places (suc k) r)) (λ e. let none = only_zeros (suc k) r h e in omega arith) in
    rw not_all refl

-- a digit that is written
pub digit_small : (k r : ℕ) → r < 10 ^ suc k → r / 10 ^ k ≤ 9
digit_small k r h = let below : r / 10 ^ k < 10 = div_below r (10 ^ k) 10 (some_power k) (omega (arith, h, pow-succ' 10 k)) in omega (arith, below)

-- where something is left, so is a place
pub some_place : (k r : ℕ) → 0 < r → r < 10 ^ k → 0 < k
some_place zero r some h = absurd (omega (arith, some, h))
some_place (suc k) r some h = omega arith

pub rest_below : (k r : ℕ) → r % 10 ^ k < 10 ^ k
rest_below k r = mod_below r (10 ^ k) (some_power k)

-- one digit more is written, and the rest is to come
pub place_written : (text before after : List ℕ) (k left rest digit remains : ℕ) → 0 < rest → rest < 10 ^ k → left + 1 ≡ k → digit ≡ 48 + rest / 10 ^ left → remains ≡ rest % 10 ^ left
    → text ≡ before ++ without_end_zeros (places k rest) → after ≡ before ++ digit ∷ [] → text ≡ after ++ without_end_zeros (places left remains)
place_written text before after k left rest digit remains some h one d m e a =
    let next : k ≡ suc left = omega (arith, one) in
    e ∙ ap (λ n. before ++ without_end_zeros (places n rest)) next
    ∙ ap (λ xs. before ++ xs) (first_place left rest some (subst (λ n. rest < 10 ^ n) next h))
    ∙ ap₂ (λ x y. before ++ x ∷ without_end_zeros (places left y)) (sym d) (sym m)
    ∙ sym (append_assoc before (digit ∷ []) (without_end_zeros (places left remains)))
    ∙ ap (λ xs. xs ++ without_end_zeros (places left remains)) (sym a)

-- as the code divides, by a power of ten that it holds
pub step_written : (text before after : List ℕ) (left rest unit power digit : ℕ) → 0 < rest → rest < 10 ^ left → power ≡ left - 1 → unit ≡ 10 ^ power → digit ≡ 48 + rest / unit
    → text ≡ before ++ without_end_zeros (places left rest) → after ≡ before ++ digit ∷ [] → text ≡ after ++ without_end_zeros (places (left - 1) (rest % unit))
step_written text before after left rest unit power digit some h one u d e a =
    let place = some_place left rest some h in
    let next : left - 1 + 1 ≡ left = omega (arith, place) in
    let same : unit ≡ 10 ^ (left - 1) = u ∙ ap (λ n. 10 ^ n) one in
    place_written text before after left (left - 1) rest digit (rest % unit) some h next (d ∙ ap (λ n. 48 + rest / n) same) (ap (λ n. rest % n) same) e a

pub some_unit : (unit power : ℕ) → unit ≡ 10 ^ power → 0 < unit
some_unit unit power u = rw u (some_power power)

pub unit_below : (n unit power left : ℕ) → power ≡ left → unit ≡ 10 ^ power → n % unit < 10 ^ left
unit_below n unit power left one u = rw (u, one) (rest_below left n)

pub all_written : (text before : List ℕ) (left rest : ℕ) → rest ≡ 0 → text ≡ before ++ without_end_zeros (places left rest) → before ≡ text
all_written text before left rest none e =
    sym (e ∙ ap (λ n. before ++ without_end_zeros (places left n)) none ∙ ap (λ xs. before ++ xs) (nothing_left left) ∙ append-nil before)
