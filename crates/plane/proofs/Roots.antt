-- The root is the whole part of the square root.
use Rattle.std.proofs.Common.{◌≡◌, ◌↔◌, subst, ℕ, ◌+◌, ◌*◌, ◌<◌, ◌≤◌, inl, inr, arith}
use Rattle.std.proofs.lemmas.Bool.{cases_order}
use lib.Ieee.Root.{whole_part}
use Rattle.plane.specs.Length.{root}
use Rattle.plane.specs.Laws.{IsRoot}

pub root_is : (n : ℕ) → IsRoot n (root n)
unfolding root
root_is n = record { at_most = (whole_part n).0; next_more = (whole_part n).1 }

-- of two numbers the lesser one and one more is not past the other
squares_apart : (n r s : ℕ) → r < s → s * s ≤ n → n < (r + 1) * (r + 1) → ⊥
squares_apart n r s below at_most more =
    let k : (r + 1) * (r + 1) ≤ s * s = squares (r + 1) s (omega arith) in omega arith
  where
    squares : (a b : ℕ) → a ≤ b → a * a ≤ b * b
    squares a b h = grind (arith)

pub root_unique : (n r s : ℕ) → IsRoot n r → IsRoot n s → r ≡ s
root_unique n r s h k =
    elim (cases_order r s) [
      | inl same ↦ same
      | inr apart ↦ elim apart [
        | inl below ↦ absurd (squares_apart n r s below k.at_most h.next_more)
        | inr above ↦ absurd (squares_apart n s r above h.at_most k.next_more)
      ]
    ]

pub root_law : (n r : ℕ) → (root n ≡ r) ↔ IsRoot n r
root_law n r = (λ e. subst (IsRoot n) e (root_is n), λ h. root_unique n (root n) r (root_is n) h)
