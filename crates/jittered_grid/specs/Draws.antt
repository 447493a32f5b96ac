-- A linear congruential generator, and what is drawn from it.
use Rattle.std.specs.Prelude.{◌≡◌, ℕ, zero, suc, ◌+◌, ◌*◌, ◌/◌, ◌%◌, ◌^◌, ℤ, pos, ◌-ℤ◌}
use Rattle.jittered_grid.specs.declared.draws.Draws.{Draws}

-- the state that follows a state
abbrev pub next_state : ℕ → ℕ
next_state x = (1664525 * x + 1013904223) % 2 ^ 32

-- the state after so many steps from the seed
abbrev pub state_after : ℕ → ℕ → ℕ
state_after seed zero = seed
state_after seed (suc steps) = next_state (state_after seed steps)

-- the draw at a state, of its four highest bits: -1, 0 or 1
abbrev pub draw_at : ℕ → ℤ
draw_at x = pos (x / 2 ^ 28 % 3) -ℤ pos 1

-- the draw of this number, counted from 0: each draw takes a step first
abbrev pub draw : ℕ → ℕ → ℤ
draw seed number = draw_at (state_after seed (number + 1))

-- so many draws were taken from the seed
abbrev pub HasDrawn : Draws → ℕ → ℕ → Type 0
HasDrawn draws seed count = draws.state ≡ state_after seed count
