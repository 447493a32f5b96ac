-- The turn of three points from two products, and these from four differences.
use Rattle.std.proofs.Common.{◌≡◌, ◌∙◌, sym, subst, ◌^◌, ℤ, ◌-ℤ◌, ◌*ℤ◌, FitsSigned, lit≤}
use mir.Syntax.{w32, w64}
use Rattle.integer_laws.proofs.Bound.{IsWithin, within_product, within_more}
use Rattle.cov_types.specs.declared.coord.Coord.{Coord}
use Rattle.plane.specs.Segment.{turn_of}
use Rattle.grid_pred.proofs.Small.{read, times_read, difference_is}

-- the numbers of a coordinate fit 32 bits
pub record FitsCoord (c : Coord) : Type 0 where
  pub x : FitsSigned w32 c.x
  pub y : FitsSigned w32 c.y

-- x is a difference as the code answers it
pub record IsDifference (x a b : ℤ) : Type 0 where
  pub exact : x ≡ read w32 a -ℤ read w32 b
  pub small : IsWithin (2 ^ 32) x

product_of : (p x y : ℤ) → IsWithin (2 ^ 32) x → IsWithin (2 ^ 32) y → p ≡ read w64 x *ℤ read w64 y → p ≡ x *ℤ y
product_of p x y hx hy is = times_read p x y (within_more (lit≤ tt) hx) (within_more (lit≤ tt) hy) is

-- the product of two differences
pub wide_within : (p x y : ℤ) → IsWithin (2 ^ 32) x → IsWithin (2 ^ 32) y → p ≡ read w64 x *ℤ read w64 y → IsWithin (2 ^ 64) p
wide_within p x y hx hy is = subst (IsWithin (2 ^ 64)) (sym (product_of p x y hx hy is)) (within_product hx hy)

pub turn_by : (a b c : Coord) (p q u v w z : ℤ) → FitsCoord a → FitsCoord b → FitsCoord c → p ≡ read w64 u *ℤ read w64 v → q ≡ read w64 w *ℤ read w64 z
    → IsDifference u b.x a.x → IsDifference v c.y a.y → IsDifference w b.y a.y → IsDifference z c.x a.x → p -ℤ q ≡ turn_of a b c
unfolding turn_of
turn_by a b c p q u v w z fa fb fc hp hq hu hv hw hz =
    let first = product_of p u v hu.small hv.small hp in
    let second = product_of q w z hw.small hz.small hq in
    let to_x = difference_is u b.x a.x fb.x fa.x hu.exact in
    let to_y = difference_is w b.y a.y fb.y fa.y hw.exact in
    let on_x = difference_is z c.x a.x fc.x fa.x hz.exact in
    let on_y = difference_is v c.y a.y fc.y fa.y hv.exact in
    (λ i. first i -ℤ second i) ∙ (λ i. (to_x i *ℤ on_y i) -ℤ (to_y i *ℤ on_x i))
