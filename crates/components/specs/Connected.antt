-- Nodes that links connect, and the least node of each component.
use Rattle.std.specs.Prelude.{◌≡◌, ◌⊎◌, ℕ, ◌<◌, ◌≤◌, List, All, [], ◌∷◌, length, Contains, slice_index}
use Rattle.components.specs.declared.link.Link.{Link}

-- each link ties two of so many nodes
abbrev pub AreLinksWithin : ℕ → List Link → Type 0
AreLinksWithin nodes links = All (λ l. (l.from < nodes) × (l.to < nodes)) links

-- a link of the list ties x and y, in either direction
pub record IsTied (links : List Link) (x y : ℕ) : Type 0 where
  pub link : Link
  pub among : Contains links link
  pub ends : ((link.from ≡ x) × (link.to ≡ y)) ⊎ ((link.from ≡ y) × (link.to ≡ x))

-- the nodes of the way lead from x to y: each is tied with the next
abbrev pub LeadsAlong : List Link → ℕ → List ℕ → ℕ → Type 0
LeadsAlong links x [] y = x ≡ y
LeadsAlong links x (z ∷ way) y = IsTied links x z × LeadsAlong links z way y

-- some way leads from x to y
abbrev pub IsConnected : List Link → ℕ → ℕ → Type 0
IsConnected links x y = (way : List ℕ) × LeadsAlong links x way y

-- each of so many nodes has the number of the least node that it is connected with
pub record AreComponents (nodes : ℕ) (links : List Link) (numbers : List ℕ) : Type 0 where
  pub count : length numbers ≡ nodes
  pub own : (x : ℕ) → x < nodes → IsConnected links x (slice_index numbers x)
  pub least : (x y : ℕ) → x < nodes → IsConnected links x y → slice_index numbers x ≤ y
