-- The region of a point, by the points that are joined with it, and the one numbering of the regions.
use mathlib.Core.List.{[], ◌∷◌}
use Rattle.std.proofs.Common.{◌≡◌, refl, sym, ◌∙◌, subst, ℕ, zero, suc, ◌*◌, ◌<◌, List, length, le_antisymm, arith}
use Rattle.std.proofs.lemmas.List.{ext_get_or}
use Rattle.std.proofs.lemmas.Option.{none-some}
use Rattle.cov_types.specs.declared.seg.Seg.{Seg}
use Rattle.plane.specs.Point.{Point}
use Rattle.plane.specs.Joined.{Joined}
use Rattle.plane.specs.Region.{IsSide, IsJoinedSide, IsRegionOf, AreRegions}
use Rattle.plane.specs.Segment.{upper, lower}
use Rattle.crossing_laws.proofs.Ways.{joined-sym, joined-trans}

-- a side whose side point is joined with p is one for each point joined with p
joined_side-joined : (edges : List Seg) (p q : Point) (n : ℕ) → Joined edges p q → IsJoinedSide edges p n → IsJoinedSide edges q n
joined_side-joined edges p q n j h = record { at = h.at; side = h.side; joined = joined-trans edges q p h.at (joined-sym edges p q j) h.joined }

pub region-joined : (edges : List Seg) (p q : Point) (r : ℕ) → Joined edges p q → IsRegionOf edges p r → IsRegionOf edges q r
region-joined edges p q r j h = record {
  joined = joined_side-joined edges p q r j h.joined;
  least = λ n k. h.least n (joined_side-joined edges q p n (joined-sym edges p q j) k);
}

pub one_region : (edges : List Seg) (p : Point) (r s : ℕ) → IsRegionOf edges p r → IsRegionOf edges p s → r ≡ s
one_region edges p r s h k = le_antisymm (h.least s k.joined) (k.least r h.joined)

-- a side has one side point
one_side : (edges : List Seg) (n : ℕ) (p q : Point) → IsSide edges n p → IsSide edges n q → p ≡ q
one_side edges n p q h k = cc

pub same_region : (edges : List Seg) (p q : Point) (r : ℕ) → IsRegionOf edges p r → IsRegionOf edges q r → Joined edges p q
same_region edges p q r h k =
    let same = one_side edges r h.joined.at k.joined.at h.joined.side k.joined.side in
    joined-trans edges p h.joined.at q h.joined.joined (joined-sym edges q h.joined.at (subst (λ at. Joined edges q at) (sym same) k.joined.joined))

-- ---- the sides, and their numbers

pub side_at : (edges : List Seg) (n : ℕ) → n < 2 * length edges → (p : Point) × IsSide edges n p
side_at [] n within = absurd (omega arith)
side_at (e ∷ edges) zero within = (upper e, refl)
side_at (e ∷ edges) (suc zero) within = (lower e, refl)
side_at (e ∷ edges) (suc (suc n)) within = side_at edges n (omega arith)

pub side_within : (edges : List Seg) (n : ℕ) (p : Point) → IsSide edges n p → n < 2 * length edges
side_within [] n p at = absurd (none-some p at)
side_within (e ∷ edges) zero p at = omega arith
side_within (e ∷ edges) (suc zero) p at = omega arith
side_within (e ∷ edges) (suc (suc n)) p at = let rest = side_within edges n p at in omega arith

pub one_numbering : (edges : List Seg) (numbers others : List ℕ) → AreRegions edges numbers → AreRegions edges others → numbers ≡ others
one_numbering edges numbers others h k =
    ext_get_or 0 numbers others (h.count ∙ sym k.count)
    (λ n within. (let count = h.count in let (p, at) = side_at edges n (omega arith) in one_region edges p _ _ (h.each n p at) (k.each n p at)))
