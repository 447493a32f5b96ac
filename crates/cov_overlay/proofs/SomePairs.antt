-- The pairs of the sides that have one.
use mathlib.Core.List.{[], ◌∷◌}
use Rattle.std.proofs.Common.{inl, inr, subst, ◌↔◌, List, Option, Some, None, arith}
use Rattle.std.specs.Prelude.{Contains}
use Rattle.std.specs.List.{filter_map}
use Rattle.std.proofs.lemmas.Option.{none-some, same_Some}
use Rattle.crossing_laws.proofs.Lists.{contains_here, contains_there}
use Rattle.region_laws.proofs.Balance.{first_or_later}
use Rattle.overlaid_laws.specs.declared.pair.Pair.{Pair}

abbrev pub some_pairs : List (Option Pair) → List Pair
some_pairs by_side = filter_map (λ pair. pair) by_side

of_side : (by_side : List (Option Pair)) (pair : Pair) → Contains (some_pairs by_side) pair → Contains by_side (Some pair)
of_side [] pair has = absurd (let within = has.1 in omega (arith, within))
of_side (None ∷ by_side) pair has = contains_there None (Some pair) by_side (of_side by_side pair has)
of_side (Some q ∷ by_side) pair has = elim (first_or_later q (some_pairs by_side) pair has) [
  | inl here ↦ subst (λ (r : Pair). Contains (Some q ∷ by_side) (Some r)) here (contains_here (Some q) by_side)
  | inr later ↦ contains_there (Some q) (Some pair) by_side (of_side by_side pair later)
]

among_some : (by_side : List (Option Pair)) (pair : Pair) → Contains by_side (Some pair) → Contains (some_pairs by_side) pair
among_some [] pair has = absurd (let within = has.1 in omega (arith, within))
among_some (None ∷ by_side) pair has = elim (first_or_later None by_side (Some pair) has) [
  | inl here ↦ absurd (none-some pair here)
  | inr later ↦ among_some by_side pair later
]
among_some (Some q ∷ by_side) pair has = elim (first_or_later (Some q) by_side (Some pair) has) [
  | inl here ↦ subst (λ (r : Pair). Contains (q ∷ some_pairs by_side) r) (same_Some q pair here) (contains_here q (some_pairs by_side))
  | inr later ↦ contains_there q pair (some_pairs by_side) (among_some by_side pair later)
]

-- a pair is among them exactly where some side has it
pub contains_some : (by_side : List (Option Pair)) (pair : Pair) → Contains (some_pairs by_side) pair ↔ Contains by_side (Some pair)
contains_some by_side pair = (of_side by_side pair, among_some by_side pair)
