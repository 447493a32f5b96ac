-- Lists that ascend by a number of their elements.
use Rattle.std.specs.Prelude.{ℕ, Bool, true, ◌&&◌, nat_lt, List, [], ◌∷◌}
use Rattle.std.specs.List.{list_all}

-- the numbers of the elements ascend strictly
abbrev pub ascend_by : {X : Type 0} → (X → ℕ) → List X → Bool
ascend_by key [] = true
ascend_by key (x ∷ xs) = list_all (λ y. nat_lt (key x) (key y)) xs && ascend_by key xs
