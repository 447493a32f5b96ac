-- Overlay labels.
use Rattle.std.specs.Prelude.{ℕ, ◌==◌, ◌&&◌, Bool, List, [], ◌∷◌, ◌++◌, filter, nat_eq, zero, suc}
use Rattle.std.specs.Cmp.Lexicographic.{pointwise}
use Rattle.cov_types.specs.declared.edge_use.EdgeUse.{EdgeUse}
use Rattle.plane.specs.Point.{Point}
use Rattle.plane.specs.Parity.{member_holds}

-- the numbers below a count, ascending
abbrev pub numbers_below : ℕ → List ℕ
numbers_below zero = []
numbers_below (suc n) = numbers_below n ++ n ∷ []

-- the label of p: the members that hold it, ascending
abbrev pub label_at : List EdgeUse → ℕ → Point → List ℕ
label_at uses members p = filter (λ member. member_holds uses member p) (numbers_below members)

-- the label of p is this member alone
abbrev pub is_single_at : List EdgeUse → ℕ → ℕ → Point → Bool
is_single_at uses members member p = pointwise nat_eq (label_at uses members p) (member ∷ [])
