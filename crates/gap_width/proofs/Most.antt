-- From the search in the whole range to clearances and widths.
use Rattle.std.proofs.Common.{◌≡◌, sym, subst, ℕ, ◌-◌, ◌*◌, ◌<◌, ◌≤◌, ◌↔◌, Bool, true, false, List, length, All, Contains, Option, Some, IfSome, nat_lt, IsTrue, inl, inr, ◌⊎◌, ◌==◌, get_or, arith}
use Rattle.std.proofs.lemmas.Bool.{cases_lt, ltb-true, lt-ltb}
use Rattle.std.proofs.lemmas.List.{length-map}
use Rattle.std.proofs.lemmas.List.Elements.{Contains-get_or}
use Rattle.cov_types.specs.declared.coord.Coord.{Coord}
use Rattle.cov_types.specs.declared.seg.Seg.{Seg}
use Rattle.plane.specs.Label.{numbers_below}
use Rattle.plane.specs.Point.{Point, at_coord}
use Rattle.plane.specs.Segment.{upper, lower}
use Rattle.plane.specs.Region.{IsSide, IsOuterRegion, IsRegionOf}
use Rattle.crossing_laws.proofs.Located.{side_at, region-joined}
use Rattle.sector_laws.specs.Sector.{left, AreDistinct, IsPlanar}
use Rattle.region_laws.proofs.Numbered.{side_half_edge}
use Rattle.arrangement.specs.Overlay.{IsRegion}
use Rattle.arrangement.proofs.LiveOverlays.{kept_is, below_number}
use Rattle.counting_sort.specs.Grouped.{places_of}
use Rattle.distance_laws.specs.Room.{doubled}
use Rattle.distance_laws.proofs.Reach.{doubled_room}
use Rattle.region_owners.specs.Box.{IsEdgeOf, IsInBoxOf}
use Rattle.region_owners.specs.Gap.{IsClearance, IsNarrow}
use Rattle.region_owners.proofs.RegionBox.{in_box}
use Rattle.clearance_laws.specs.Block.{IsInBlock}
use Rattle.clearance_laws.proofs.Near.{less_room}
use Rattle.gap_width.specs.declared.own.OwnEdge.{OwnEdge}
use Rattle.gap_width.specs.declared.block.Block.{Block}
use Rattle.gap_width.specs.Own.{edges_in}
use Rattle.gap_width.specs.Search.{IsBest, IsMost}

-- ---- the points of a region

module _ (edges : List Seg) (planar : IsPlanar edges) (distinct : AreDistinct edges) (r : ℕ) (inner : ¬ IsOuterRegion edges r) where
  -- what the search finds in the block of all grid points inside the box of the region is the most room
  pub most_is : (enough best found : ℕ) (s : Block) → ((q : Coord) → IsInBoxOf edges r (at_coord q) → IsInBlock s.lo s.hi (doubled q))
      → IsBest edges r enough s best found → IsMost edges r enough best found
  most_is enough best found s wide is = record {
    no_less = is.no_less;
    reached = is.reached;
    greatest = λ less w has. is.greatest less has.at w (wide has.at (in_box edges planar distinct r inner (at_coord has.at) has.within)) has.within (λ e of. has.room e of.among);
  }

  -- where no grid point is inside the box, there is no room
  pub none_is : (enough best : ℕ) → ((q : Coord) → IsInBoxOf edges r (at_coord q) → ⊥) → IsMost edges r enough best best
  none_is enough best none = record {
    no_less = omega arith;
    reached = λ more. absurd (omega (arith, more));
    greatest = λ less w has. absurd (none has.at (in_box edges planar distinct r inner (at_coord has.at) has.within));
  }

-- ---- clearances and widths

pub clearance_from : (edges : List Seg) (r found enough : ℕ) → IsMost edges r enough 0 found → found < enough → IsClearance edges r found
clearance_from edges r found enough is less = record {
  reached = λ some. is.reached (omega (arith, some));
  greatest = λ v some has. is.greatest less v has;
}

pub narrow_from : (edges : List Seg) (r found w : ℕ) → 1 ≤ w → IsMost edges r w (w - 1) found → IsTrue (nat_lt found w) ↔ IsNarrow edges r w
narrow_from edges r found w some is = (
  λ t. record { wide = some; no_room = λ has. (let less = ltb-true found w t in let le = is.greatest less w has in absurd (omega (arith, less, le))) },
  λ narrow. elim (cases_lt found w) [
    | inl less ↦ lt-ltb found w less
    | inr more ↦ absurd (narrow.no_room (
        let has = is.reached (omega (arith, some, more)) in
        record { at = has.at; within = has.within; room = λ e c. (doubled_room has.at w e).1 (less_room (doubled has.at) w found e more ((doubled_room has.at found e).0 (has.room e c))) }))
  ],
)

-- ---- the sides of a region

pub places_below : (numbers : List ℕ) (r m : ℕ) (sides : List ℕ) → length numbers ≡ m → sides ≡ places_of numbers r → All (λ n. n < m) sides
places_below numbers r m sides long is = λ k d below.
    let listed = subst (λ ns. Contains ns (get_or sides k d)) is (Contains-get_or sides k d below) in
    let lt = below_number (length numbers) (get_or sides k d) (kept_is (λ i. get_or numbers i 0 == r) (numbers_below (length numbers)) (get_or sides k d) listed).0 in
    omega (arith, lt, long)

-- a region has an edge
pub has_edge : (edges : List Seg) (r : ℕ) → IsRegion edges r → (e : Seg) × IsEdgeOf edges r e
has_edge edges r is =
    let (h, found) = side_half_edge edges r is.at is.side in
    (h.edge, record { among = found.among; beside = by h.edge h.forwards (subst (λ p. IsRegionOf edges p r) (sym found.point) is.own) })
  where
    by : (e : Seg) (b : Bool) → IsRegionOf edges (left (record { edge = e; forwards = b })) r → IsRegionOf edges (upper e) r ⊎ IsRegionOf edges (lower e) r
    by e true its = inl its
    by e false its = inr its

pub some_of : (own : List OwnEdge) (e : Seg) → Contains (edges_in own) e → 0 < length own
some_of own e (k, below, _) = omega (arith, below, length-map own (λ o. o.edge))

-- the region of a side is a region
pub region_from : (edges : List Seg) (side r : ℕ) → side < 2 * length edges → ((p : Point) → IsSide edges side p → IsRegionOf edges p r) → IsRegion edges r
region_from edges side r below is =
    let (p, at) = side_at edges side below in
    let its = is p at in
    record { at = its.joined.at; side = its.joined.side; own = region-joined edges p its.joined.at r its.joined.joined its }

-- one region is outer
pub one_outer : (edges : List Seg) (r s : ℕ) → IsOuterRegion edges r → IsOuterRegion edges s → r ≡ s
one_outer edges r s a b = (let first = a.least s b.outer in let second = b.least r a.outer in omega (arith, first, second))

pub outer_at : (P : ℕ → Type 0) (o : Option ℕ) (n : ℕ) → o ≡ Some n → IfSome o P → P n
outer_at P o n is h = subst (λ x. IfSome x P) is h
