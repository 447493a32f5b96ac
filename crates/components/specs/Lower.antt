-- Nodes that each have a lower one, or themselves, so that a way down leads from each node.
use Rattle.std.specs.Prelude.{◌≡◌, ℕ, ◌<◌, ◌≤◌, List, length, slice_index}
use Rattle.components.specs.declared.link.Link.{Link}
use Rattle.components.specs.Connected.{IsConnected}

-- no node has a later one
abbrev pub AreLow : List ℕ → Type 0
AreLow lower = (x : ℕ) → x < length lower → slice_index lower x ≤ x

-- links connect each node with the one that it has
abbrev pub AreConnected : List Link → List ℕ → Type 0
AreConnected links lower = (x : ℕ) → x < length lower → IsConnected links x (slice_index lower x)

-- each node has the number of the one that it has
abbrev pub AreKept : List ℕ → (ℕ → ℕ) → Type 0
AreKept lower number = (x : ℕ) → x < length lower → number x ≡ number (slice_index lower x)
