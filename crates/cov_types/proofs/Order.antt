-- The order of coordinates.
use Rattle.std.proofs.Common.{◌≡◌, ◌<ℤ◌, true, false, ◌⊎◌, IsTrue, inl, inr, refl, arith}
use Rattle.std.proofs.lemmas.Int.{ints}
use Rattle.cov_types.specs.Coord.{is_before}
use Rattle.cov_types.specs.declared.coord.Coord.{Coord}

-- a coordinate that comes before another has the lesser x, or the same x and the lesser y
pub cases_before : (a b : Coord) → IsTrue (is_before a b) → (a.x <ℤ b.x) ⊎ ((a.x ≡ b.x) × (a.y <ℤ b.y))
cases_before a b h = grind (arith, ints)

pub before_by_x : (a b : Coord) → a.x <ℤ b.x → IsTrue (is_before a b)
before_by_x a b h = grind (arith, ints)

pub before_by_y : (a b : Coord) → a.x ≡ b.x → a.y <ℤ b.y → IsTrue (is_before a b)
before_by_y a b e h = grind (arith, ints)

-- nothing comes before itself
pub is_before-irrefl : (a : Coord) → is_before a a ≡ false
is_before-irrefl a = grind (arith, ints)

pub is_before-asymm : (a b : Coord) → IsTrue (is_before a b) → is_before b a ≡ false
is_before-asymm a b h = grind (arith, ints)

pub is_before-trans : (a b c : Coord) → IsTrue (is_before a b) → IsTrue (is_before b c) → IsTrue (is_before a c)
is_before-trans a b c h k = grind (arith, ints)

-- two coordinates with the same numbers are one
pub same_coords : (a b : Coord) → a.x ≡ b.x → a.y ≡ b.y → a ≡ b
same_coords a b e f = λ i. record { x = e i; y = f i }

-- two coordinates of which neither comes before the other are one
pub same_from_neither : (a b : Coord) → is_before a b ≡ false → is_before b a ≡ false → a ≡ b
same_from_neither a b h k =
    let e : a.x ≡ b.x = grind (arith, ints) in
    let f : a.y ≡ b.y = grind (arith, ints) in
    same_coords a b e f

-- of two coordinates one comes first, or they are one
pub cases_coords : (a b : Coord) → IsTrue (is_before a b) ⊎ ((a ≡ b) ⊎ IsTrue (is_before b a))
cases_coords a b =
    elim (is_before a b) as (λ t. is_before a b ≡ t → IsTrue (is_before a b) ⊎ ((a ≡ b) ⊎ IsTrue (is_before b a))) [
      | true ↦ λ h. inl h
      | false ↦ λ h. elim (is_before b a) as (λ t. is_before b a ≡ t → IsTrue (is_before a b) ⊎ ((a ≡ b) ⊎ IsTrue (is_before b a))) [
        | true ↦ λ k. inr (inr k)
        | false ↦ λ k. inr (inl (same_from_neither a b h k))
      ] refl
    ] refl
