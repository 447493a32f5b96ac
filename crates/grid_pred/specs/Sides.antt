-- Points on the sides of a line, and the contact of segments with one common point.
use Rattle.std.specs.Prelude.{ℤ, pos, ◌<ℤ◌, ◌⊎◌, Bool, true, false}
use Rattle.plane.specs.declared.contact.Contact.{Contact}
use Rattle.plane.specs.declared.contact.Contact.TheVariants.{CommonEnd, Bad}
use Rattle.plane.specs.declared.contact.Badness.TheVariants.{Cross, Touch}

-- two points whose turns against a line are x and y are both strictly on its left, or both strictly on its right
abbrev pub AreOnOneSide : ℤ → ℤ → Type 0
AreOnOneSide x y = ((pos 0 <ℤ x) × (pos 0 <ℤ y)) ⊎ ((x <ℤ pos 0) × (y <ℤ pos 0))

-- the contact of two segments with one common point, by whether it is an end of the first and of the second
abbrev pub contact_of_ends : Bool → Bool → Contact
contact_of_ends true true = CommonEnd
contact_of_ends true false = Bad Touch
contact_of_ends false true = Bad Touch
contact_of_ends false false = Bad Cross
