-- The lengths of sides by member, as a list of the members that have one.
use Rattle.std.specs.Prelude.{◌≡◌, ◌⊎◌, ℕ, ◌+◌, ◌-◌, ◌<◌, ◌↔◌, List, [], ◌∷◌, ◌++◌, length, get_or, slice_set, AllPairs, Contains, ℤ, pos}
use Rattle.owner_label.specs.declared.owned_side.OwnedSide.{OwnedSide}
use Rattle.region_owners.specs.declared.candidate.Candidate.{Candidate}

-- the runs are the members that have a length, ascending, each with its length
pub record AreRuns (lengths : ℕ → ℕ) (runs : List OwnedSide) : Type 0 where
  pub ascending : AllPairs (λ a b. a.member < b.member) runs
  pub exact : (run : OwnedSide) → Contains runs run ↔ ((0 < run.length) × (run.length ≡ lengths run.member))

-- the last of the runs is not of the side's member, and the side is one run more
pub record IsNewRun (runs : List OwnedSide) (side : OwnedSide) (after : List OwnedSide) : Type 0 where
  pub other : 0 < length runs → ¬ ((get_or runs (length runs - 1) side).member ≡ side.member)
  pub pushed : after ≡ runs ++ side ∷ []

-- the last of the runs is of the side's member, and is longer by it
pub record IsLongerRun (runs : List OwnedSide) (side : OwnedSide) (after : List OwnedSide) : Type 0 where
  pub some : 0 < length runs
  pub same : (get_or runs (length runs - 1) side).member ≡ side.member
  pub put : after ≡ slice_set runs (length runs - 1) (record { member = side.member; length = (get_or runs (length runs - 1) side).length + side.length })

-- the runs with one side more
abbrev pub IsAdded : List OwnedSide → OwnedSide → List OwnedSide → Type 0
IsAdded runs side after = IsNewRun runs side after ⊎ IsLongerRun runs side after

-- a run as a candidate, by the doubled areas of the members
abbrev pub run_candidate : List ℤ → OwnedSide → Candidate
run_candidate areas run = record { member = run.member; area2 = get_or areas run.member (pos 0); border = run.length }
