-- The part of each side: the least region of the part of its region.
use Rattle.std.specs.Prelude.{◌≡◌, ℕ, ◌*◌, ◌<◌, ◌≤◌, ◌==◌, Bool, false, List, length, All, Contains, Option, Some, None, slice_get, unwrap_or, IfSome}
use Rattle.components.specs.declared.link.Link.{Link}
use Rattle.arrangement.specs.Overlay.{Overlay, region_at, region_above, region_below}
use Rattle.sound_polygons.specs.Parts.{InOnePart}
use Rattle.cov_build.specs.declared.part.Part.{Part}

-- ---- links

-- the link leads over an edge between two regions of one owner
pub record IsOwnerLink (o : Overlay) (owners : ℕ → Option ℕ) (link : Link) : Type 0 where
  pub edge : ℕ
  pub listed : edge < length o.edges
  pub from : link.from ≡ region_above o edge
  pub to : link.to ≡ region_below o edge
  pub owner : ℕ
  pub owns_from : owners link.from ≡ Some owner
  pub owns_to : owners link.to ≡ Some owner

-- the links of the first edges that have regions of one owner on their two sides
pub record AreOwnerLinks (o : Overlay) (owners : ℕ → Option ℕ) (first : ℕ) (links : List Link) : Type 0 where
  pub sound : (link : Link) → Contains links link → IsOwnerLink o owners link
  pub complete : (k i : ℕ) → k < first → owners (region_above o k) ≡ Some i → owners (region_below o k) ≡ Some i
      → Contains links (record { from = region_above o k; to = region_below o k })

-- ---- parts

-- n is the least region in one part with r, which somebody owns
pub record IsLeastInPart (o : Overlay) (owners : ℕ → Option ℕ) (r n : ℕ) : Type 0 where
  pub owner : ℕ
  pub owned : owners r ≡ Some owner
  pub in_part : InOnePart o owners owner r n
  pub least : (s : ℕ) → InOnePart o owners owner r s → n ≤ s

-- the part of the region r, and none where nobody owns it
abbrev pub IsPartAt : Overlay → (ℕ → Option ℕ) → ℕ → Option Part → Type 0
IsPartAt o owners r None = owners r ≡ None
IsPartAt o owners r (Some part) = IsLeastInPart o owners r part.least

-- the part of a side by its number, and none past the end of the list
abbrev pub part_at : List (Option Part) → ℕ → Option Part
part_at parts n = unwrap_or (slice_get parts n) None

-- each side has the part of its region
pub record ArePartsOf (o : Overlay) (owners : ℕ → Option ℕ) (parts : List (Option Part)) : Type 0 where
  pub count : length parts ≡ 2 * length o.edges
  pub each : (n : ℕ) → n < 2 * length o.edges → IsPartAt o owners (region_at o n) (part_at parts n)

-- the numbers of the parts are below n
abbrev pub AreBelow : List (Option Part) → ℕ → Type 0
AreBelow parts n = All (λ part. IfSome part (λ p. p.least < n)) parts

-- whether it is the part with the number
abbrev pub is_part : Option Part → ℕ → Bool
is_part None p = false
is_part (Some part) p = part.least == p
