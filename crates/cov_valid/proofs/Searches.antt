-- What a search through a list answers.
use Rattle.std.proofs.Common.{ℕ, ◌≤◌, List, length, Contains, sym, subst, arith}
use Rattle.std.specs.List.{AllWithin}

-- where no element of the list has the fact before its end, none has it
pub none_among : {X : Type 0} (P : X → Type 0) (xs : List X) (i : ℕ) → length xs ≤ i → AllWithin (λ x. ¬ P x) xs 0 i → (x : X) → Contains xs x → P x → ⊥
none_among P xs i past none x listed holds = none listed.0 x (omega arith) (omega (arith, listed.1)) (subst P (sym listed.2) holds)
