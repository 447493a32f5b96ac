-- The members that hold a point, told while its rings are gone over by ascending members.
use Rattle.std.specs.Prelude.{◌≡◌, ℕ, ◌==◌, not, true, false, if◌then◌else◌, Bool, ◌+◌, ◌<◌, ◌≤◌, List}
use Rattle.cov_locate.specs.Parts.{IsRunTold}
use Rattle.cov_locate.specs.declared.near.NearRing.{NearRing}
use Rattle.cov_locate.specs.declared.tally.Tally.{Tally}
use Rattle.cov_locate.specs.declared.tally.Told.{Told}
use Rattle.cov_types.specs.declared.coord.Coord.{Coord}
use Rattle.cov_types.specs.declared.edge_use.EdgeUse.{EdgeUse}

-- with one ring of the owner more that holds the point: it is the end of the member before, where that had an odd number of them
abbrev pub counted : Tally → ℕ → Tally
counted t owner =
    if t.settled then t
    else if owner == t.member then record { settled = false; member = t.member; odd = not t.odd }
    else if t.odd then record { settled = true; member = t.member; odd = true }
    else record { settled = false; member = owner; odd = true }

-- no ring yet
abbrev pub nothing_told : Told
nothing_told = record { passed = 0; tally = record { settled = false; member = 0; odd = false } }

-- with one ring more, if that was not told before: no segment of it has the point, and it is counted where it holds the point
pub record IsToldWith (uses : List EdgeUse) (ring : NearRing) (p : Coord) (so_far next : Told) : Type 0 where
  pub skipped : ring.number < so_far.passed → next ≡ so_far
  pub passed : so_far.passed ≤ ring.number → next.passed ≡ ring.number + 1
  pub told : so_far.passed ≤ ring.number → (holds : Bool) × (IsRunTold uses ring.run p holds × (next.tally ≡ (if holds then counted so_far.tally ring.run.member else so_far.tally)))
