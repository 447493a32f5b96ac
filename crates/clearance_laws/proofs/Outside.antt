-- A way from a region to a point that is not in it meets one of the region's own edges, so room on both ends is bounded by its length.
use mathlib.Core.List.{[], ◌∷◌}
use Rattle.std.proofs.Common.{◌≡◌, refl, sym, ◌∙◌, subst, ℕ, ◌+◌, ◌*◌, ◌≤◌, ◌<◌, Bool, List, ◌↔◌, ℤ, pos, ◌+ℤ◌, ◌-ℤ◌, ◌*ℤ◌, ◌≤ℤ◌, ◌<ℤ◌, inl, inr, arith}
use Rattle.cov_types.specs.declared.coord.Coord.{Coord}
use Rattle.cov_types.specs.declared.seg.Seg.{Seg}
use Rattle.integer_laws.proofs.Cast.{pos_add, pos_mul, pos_nonneg}
use Rattle.integer_laws.proofs.Compare.{le_or_gt, lt_excludes_le}
use Rattle.integer_laws.proofs.Order.{mul_le, cancel_le, mul_lt_mul}
use Rattle.integer_laws.proofs.Ring.{lin, by_ring, by_two, Var, Lit, ◌⊕◌, ◌⊖◌, ◌⊗◌, Neg}
use Rattle.integer_laws.proofs.Sign.{nonneg_times_nonneg, positive_times_positive, square_nonneg}
use Rattle.plane.specs.Joined.{IsClear}
use Rattle.plane.specs.Point.{Point, at_coord, SamePoint, IsBetween}
use Rattle.plane.specs.Region.{IsOuterRegion, IsRegionOf}
use Rattle.plane.specs.Segment.{IsOn}
use Rattle.plane.proofs.Points.{d_positive, second_between, same_point-sym}
use Rattle.crossing_laws.proofs.Ways.{joined_by_clear, joined-same}
use Rattle.sector_laws.specs.Sector.{HalfEdge, AreDistinct, IsPlanar}
use Rattle.region_owners.specs.Box.{IsEdgeOf}
use Rattle.region_owners.proofs.OwnEdges.{passes, passes_own, own_passes}
use Rattle.region_owners.proofs.NearestOwn.{fewer, fewer_is, sum_way}
use Rattle.region_laws.proofs.Exists.{regions_exist}
use Rattle.clearance_laws.specs.Inside.{half_point, TellsSides, IsOffOwn}
use Rattle.clearance_laws.specs.Near.{IsNear}
use Rattle.distance_laws.specs.Room.{doubled, half_distance, HasHalfRoom}
use Rattle.clearance_laws.proofs.Inside.{side_test, sum_inside, own_of, inside_is}
use Rattle.clearance_laws.proofs.Near.{le_or_more}
use Rattle.distance_laws.proofs.Reach.{squares_are}

-- ---- over plain variables: r/d is the mean of a/2 and b/2 with the weights m and n

gap_first : (a b r d m n total : ℤ) → r *ℤ total ≡ d *ℤ ((m *ℤ a) +ℤ (n *ℤ b)) → total ≡ (m +ℤ n) *ℤ pos 2 → (m +ℤ n) *ℤ ((a *ℤ d) -ℤ (pos 2 *ℤ r)) ≡ d *ℤ (n *ℤ (a -ℤ b))
gap_first a b r d m n total mean sum =
    by_two (a ∷ b ∷ r ∷ d ∷ m ∷ n ∷ total ∷ [])
    ((Var 4 ⊕ Var 5) ⊗ (Var 0 ⊗ Var 3 ⊖ Lit (pos 2) ⊗ Var 2)) (Var 3 ⊗ (Var 5 ⊗ (Var 0 ⊖ Var 1)))
    (Neg (Lit (pos 1))) (Var 2 ⊗ Var 6) (Var 3 ⊗ (Var 4 ⊗ Var 0 ⊕ Var 5 ⊗ Var 1)) (Var 2) (Var 6) ((Var 4 ⊕ Var 5) ⊗ Lit (pos 2)) refl mean sum

gap_second : (a b r d m n total : ℤ) → r *ℤ total ≡ d *ℤ ((m *ℤ a) +ℤ (n *ℤ b)) → total ≡ (m +ℤ n) *ℤ pos 2 → (m +ℤ n) *ℤ ((b *ℤ d) -ℤ (pos 2 *ℤ r)) ≡ d *ℤ (m *ℤ (b -ℤ a))
gap_second a b r d m n total mean sum =
    by_two (a ∷ b ∷ r ∷ d ∷ m ∷ n ∷ total ∷ [])
    ((Var 4 ⊕ Var 5) ⊗ (Var 1 ⊗ Var 3 ⊖ Lit (pos 2) ⊗ Var 2)) (Var 3 ⊗ (Var 4 ⊗ (Var 1 ⊖ Var 0)))
    (Neg (Lit (pos 1))) (Var 2 ⊗ Var 6) (Var 3 ⊗ (Var 4 ⊗ Var 0 ⊕ Var 5 ⊗ Var 1)) (Var 2) (Var 6) ((Var 4 ⊕ Var 5) ⊗ Lit (pos 2)) refl mean sum

pub root_le : (x y : ℤ) → pos 0 ≤ℤ y → (x *ℤ x) ≤ℤ (y *ℤ y) → x ≤ℤ y
root_le x y h squares = elim (le_or_gt x y) [
  | inl le ↦ le
  | inr more ↦ absurd (lt_excludes_le (mul_lt_mul {x = y} {y = x} {u = y} {v = x} h more h more) squares)
]

-- room v, at a gap that is the n-th part of k of a way of at most s
part_le : (v k d n s way x : ℤ) → pos 0 ≤ℤ n → pos 0 ≤ℤ s → pos 0 <ℤ d → (k *ℤ k) *ℤ x ≡ (d *ℤ d) *ℤ ((n *ℤ n) *ℤ way) → ((v *ℤ v) *ℤ (d *ℤ d)) ≤ℤ x → way ≤ℤ (s *ℤ s) → (k *ℤ v) ≤ℤ (n *ℤ s)
part_le v k d n s way x n_not_negative s_not_negative positive is room near =
    let first = mul_le (k *ℤ k) (square_nonneg k) room in
    let second = mul_le (d *ℤ d) (square_nonneg d) (mul_le (n *ℤ n) (square_nonneg n) near) in
    let left : (k *ℤ k) *ℤ ((v *ℤ v) *ℤ (d *ℤ d)) ≡ (d *ℤ d) *ℤ ((k *ℤ v) *ℤ (k *ℤ v)) = by_ring (v ∷ k ∷ d ∷ []) ((Var 1 ⊗ Var 1) ⊗ ((Var 0 ⊗ Var 0) ⊗ (Var 2 ⊗ Var 2))) ((Var 2 ⊗ Var 2) ⊗ ((Var 1 ⊗ Var 0) ⊗ (Var 1 ⊗ Var 0))) refl in
    let right : (d *ℤ d) *ℤ ((n *ℤ n) *ℤ (s *ℤ s)) ≡ (d *ℤ d) *ℤ ((n *ℤ s) *ℤ (n *ℤ s)) = by_ring (n ∷ s ∷ d ∷ []) ((Var 2 ⊗ Var 2) ⊗ ((Var 0 ⊗ Var 0) ⊗ (Var 1 ⊗ Var 1))) ((Var 2 ⊗ Var 2) ⊗ ((Var 0 ⊗ Var 1) ⊗ (Var 0 ⊗ Var 1))) refl in
    root_le (k *ℤ v) (n *ℤ s) (nonneg_times_nonneg n_not_negative s_not_negative)
    (cancel_le (d *ℤ d) ((k *ℤ v) *ℤ (k *ℤ v)) ((n *ℤ s) *ℤ (n *ℤ s)) (positive_times_positive positive positive) (omega (arith, lin)))

-- ---- points: room v of a/2 and w of b/2, at one point of the way between them

module _ (a b : Coord) (s v w : ℕ) (near : IsNear a b s) (p : Point) (h : IsBetween p (half_point a) (half_point b)) where
  abbrev m : ℤ
  m = pos h.first

  abbrev n : ℤ
  n = pos h.second

  abbrev d : ℤ
  d = pos p.d

  total_is : pos (h.first * 2 + h.second * 2) ≡ (m +ℤ n) *ℤ pos 2
  total_is = pos_add (h.first * 2) (h.second * 2) ∙ (λ i. pos_mul h.first 2 i +ℤ pos_mul h.second 2 i) ∙ by_ring (m ∷ n ∷ []) (Var 0 ⊗ Lit (pos 2) ⊕ Var 1 ⊗ Lit (pos 2)) ((Var 0 ⊕ Var 1) ⊗ Lit (pos 2)) refl

  abbrev way : ℤ
  way = ((b.x -ℤ a.x) *ℤ (b.x -ℤ a.x)) +ℤ ((b.y -ℤ a.y) *ℤ (b.y -ℤ a.y))

  squares_first : ((m +ℤ n) *ℤ (m +ℤ n)) *ℤ half_distance a p ≡ (d *ℤ d) *ℤ ((n *ℤ n) *ℤ way)
  unfolding half_distance
  squares_first =
      squares_are (m +ℤ n) d ((a.x *ℤ d) -ℤ (pos 2 *ℤ p.x)) ((a.y *ℤ d) -ℤ (pos 2 *ℤ p.y)) (n *ℤ (a.x -ℤ b.x)) (n *ℤ (a.y -ℤ b.y))
      (gap_first a.x b.x p.x d m n _ h.x total_is) (gap_first a.y b.y p.y d m n _ h.y total_is)
      ∙ by_ring (a.x ∷ a.y ∷ b.x ∷ b.y ∷ d ∷ n ∷ [])
      ((Var 4 ⊗ Var 4) ⊗ ((Var 5 ⊗ (Var 0 ⊖ Var 2)) ⊗ (Var 5 ⊗ (Var 0 ⊖ Var 2)) ⊕ (Var 5 ⊗ (Var 1 ⊖ Var 3)) ⊗ (Var 5 ⊗ (Var 1 ⊖ Var 3))))
      ((Var 4 ⊗ Var 4) ⊗ ((Var 5 ⊗ Var 5) ⊗ ((Var 2 ⊖ Var 0) ⊗ (Var 2 ⊖ Var 0) ⊕ (Var 3 ⊖ Var 1) ⊗ (Var 3 ⊖ Var 1)))) refl

  squares_second : ((m +ℤ n) *ℤ (m +ℤ n)) *ℤ half_distance b p ≡ (d *ℤ d) *ℤ ((m *ℤ m) *ℤ way)
  unfolding half_distance
  squares_second =
      squares_are (m +ℤ n) d ((b.x *ℤ d) -ℤ (pos 2 *ℤ p.x)) ((b.y *ℤ d) -ℤ (pos 2 *ℤ p.y)) (m *ℤ (b.x -ℤ a.x)) (m *ℤ (b.y -ℤ a.y))
      (gap_second a.x b.x p.x d m n _ h.x total_is) (gap_second a.y b.y p.y d m n _ h.y total_is)
      ∙ by_ring (a.x ∷ a.y ∷ b.x ∷ b.y ∷ d ∷ m ∷ [])
      ((Var 4 ⊗ Var 4) ⊗ ((Var 5 ⊗ (Var 2 ⊖ Var 0)) ⊗ (Var 5 ⊗ (Var 2 ⊖ Var 0)) ⊕ (Var 5 ⊗ (Var 3 ⊖ Var 1)) ⊗ (Var 5 ⊗ (Var 3 ⊖ Var 1))))
      ((Var 4 ⊗ Var 4) ⊗ ((Var 5 ⊗ Var 5) ⊗ ((Var 2 ⊖ Var 0) ⊗ (Var 2 ⊖ Var 0) ⊕ (Var 3 ⊖ Var 1) ⊗ (Var 3 ⊖ Var 1)))) refl

  pub rooms_le : (pos (v * v) *ℤ pos (p.d * p.d)) ≤ℤ half_distance a p → (pos (w * w) *ℤ pos (p.d * p.d)) ≤ℤ half_distance b p → v + w ≤ s
  rooms_le room_a room_b =
      let square : (u : ℕ) → pos (u * u) *ℤ pos (p.d * p.d) ≡ (pos u *ℤ pos u) *ℤ (d *ℤ d) = λ u i. pos_mul u u i *ℤ pos_mul p.d p.d i in
      let within = subst (λ z. way ≤ℤ z) (pos_mul s s) near in
      let first = part_le (pos v) (m +ℤ n) d n (pos s) way (half_distance a p) (pos_nonneg h.second) (pos_nonneg s) (d_positive p) squares_first (subst (λ z. z ≤ℤ half_distance a p) (square v) room_a) within in
      let second = part_le (pos w) (m +ℤ n) d m (pos s) way (half_distance b p) (pos_nonneg h.first) (pos_nonneg s) (d_positive p) squares_second (subst (λ z. z ≤ℤ half_distance b p) (square w) room_b) within in
      let left : (m +ℤ n) *ℤ (pos v +ℤ pos w) ≡ ((m +ℤ n) *ℤ pos v) +ℤ ((m +ℤ n) *ℤ pos w) = by_ring (m ∷ n ∷ pos v ∷ pos w ∷ []) ((Var 0 ⊕ Var 1) ⊗ (Var 2 ⊕ Var 3)) ((Var 0 ⊕ Var 1) ⊗ Var 2 ⊕ (Var 0 ⊕ Var 1) ⊗ Var 3) refl in
      let right : (m +ℤ n) *ℤ pos s ≡ (n *ℤ pos s) +ℤ (m *ℤ pos s) = by_ring (m ∷ n ∷ pos s ∷ []) ((Var 0 ⊕ Var 1) ⊗ Var 2) (Var 1 ⊗ Var 2 ⊕ Var 0 ⊗ Var 2) refl in
      let some : pos 0 <ℤ (m +ℤ n) = (let weighted = h.weighted in omega (arith, lin)) in
      let sum = cancel_le (m +ℤ n) (pos v +ℤ pos w) (pos s) some (omega (arith, lin)) in
      omega (arith, lin, sum)

-- each point has room 0
no_room : (b : Coord) (x : Point) → (pos (0 * 0) *ℤ pos (x.d * x.d)) ≤ℤ half_distance b x
unfolding half_distance
no_room b x =
    let first = square_nonneg ((b.x *ℤ pos x.d) -ℤ (pos 2 *ℤ x.x)) in
    let second = square_nonneg ((b.y *ℤ pos x.d) -ℤ (pos 2 *ℤ x.y)) in
    let none : pos (0 * 0) *ℤ pos (x.d * x.d) ≡ pos 0 = by_ring (pos (x.d * x.d) ∷ []) (Lit (pos 0) ⊗ Var 0) (Lit (pos 0)) refl in
    omega (arith, lin)

-- ---- regions

module _ (edges : List Seg) (planar : IsPlanar edges) (distinct : AreDistinct edges) (r : ℕ) (inner : ¬ IsOuterRegion edges r) where
  -- where no own edge meets the way from a point of the region, its other end is in the region too
  pub stays : (p q : Point) → IsRegionOf edges p r → ((e : Seg) → IsEdgeOf edges r e → (x : Point) → IsBetween x p q → IsOn e x → ⊥) → IsRegionOf edges q r
  stays p q own none =
      let some = regions_exist edges planar distinct in
      let inside : HalfEdge → Bool = passes edges planar distinct r inner some.0 some.1 in
      let tells : TellsSides edges r inside = λ h c. (passes_own edges planar distinct r inner some.0 some.1 h c, own_passes edges planar distinct r inner some.0 some.1 h c) in
      let clear : IsClear (fewer inside edges) p q = λ f in_f x between on. (let is = fewer_is inside edges f in_f in none f (own_of edges planar distinct r inner inside tells f is.0 is.1) x between on) in
      let same = sum_way edges planar distinct inside (side_test edges planar distinct r inner inside tells) p q (joined_by_clear (fewer inside edges) p q clear) in
      let off : IsOffOwn edges r q = λ e its on. none e its q (second_between p q) on in
      (inside_is edges planar distinct r inner inside tells q off).1 (sym same ∙ sum_inside edges planar distinct r inner inside tells p own)

  pub room_to_outside : (a b : Coord) (s v w : ℕ) → IsNear a b s → IsRegionOf edges (half_point a) r → (IsRegionOf edges (half_point b) r → ⊥)
      → ((e : Seg) → IsEdgeOf edges r e → HasHalfRoom a v e) → ((e : Seg) → IsEdgeOf edges r e → HasHalfRoom b w e) → v + w ≤ s
  room_to_outside a b s v w near own out rooms_a rooms_b = elim (le_or_more (v + w) s) [
    | inl le ↦ le
    | inr more ↦ absurd (out (stays (half_point a) (half_point b) own (λ e its x between on. (
        let le = rooms_le a b s v w near x between (rooms_a e its x on) (rooms_b e its x on) in
        absurd (omega (arith, le, more))))))
  ]

  pub stays_inside : (a b : Coord) (s v : ℕ) → IsNear a b s → IsRegionOf edges (half_point a) r → s < v → ((e : Seg) → IsEdgeOf edges r e → HasHalfRoom a v e) → IsRegionOf edges (half_point b) r
  stays_inside a b s v near own more rooms =
      stays (half_point a) (half_point b) own (λ e its x between on. (
      let zero_room : (pos (0 * 0) *ℤ pos (x.d * x.d)) ≤ℤ half_distance b x = no_room b x in
      let le = rooms_le a b s v 0 near x between (rooms e its x on) zero_room in
      absurd (omega (arith, le, more))))

-- ---- grid points

half_same : (q : Coord) → SamePoint (at_coord q) (half_point (doubled q))
half_same q = (by_ring (q.x ∷ []) (Var 0 ⊗ Lit (pos 2)) ((Lit (pos 2) ⊗ Var 0) ⊗ Lit (pos 1)) refl, by_ring (q.y ∷ []) (Var 0 ⊗ Lit (pos 2)) ((Lit (pos 2) ⊗ Var 0) ⊗ Lit (pos 1)) refl)

moved : (edges : List Seg) (p q : Point) (r : ℕ) → SamePoint p q → IsRegionOf edges p r → IsRegionOf edges q r
moved edges p q r same own = record {
  joined = record { at = own.joined.at; side = own.joined.side; joined = joined-same edges p q own.joined.at same own.joined.joined };
  least = λ n o. own.least n (record { at = o.at; side = o.side; joined = joined-same edges q p o.at (same_point-sym p q same) o.joined });
}

pub half_region : (edges : List Seg) (q : Coord) (r : ℕ) → IsRegionOf edges (at_coord q) r ↔ IsRegionOf edges (half_point (doubled q)) r
half_region edges q r = (moved edges (at_coord q) (half_point (doubled q)) r (half_same q), moved edges (half_point (doubled q)) (at_coord q) r (same_point-sym (at_coord q) (half_point (doubled q)) (half_same q)))
