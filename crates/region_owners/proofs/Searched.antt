-- A region that is not outer has a clearance: its grid points are in the box of its edges, so there are finitely many, and none has much room.
use Rattle.std.proofs.Common.{◌≡◌, ◌⊎◌, sym, ◌∙◌, subst, ℕ, zero, suc, ◌+◌, ◌*◌, ◌<◌, ◌≤◌, ◌^◌, Bool, List, IsTrue, ◌↔◌, inl, inr, ℤ, pos, ◌+ℤ◌, ◌-ℤ◌, ◌*ℤ◌, ◌≤ℤ◌, arith}
use Rattle.std.specs.Prelude.{Contains}
use Rattle.std.proofs.lemmas.Bool.{cases_lt, true≢false}
use Rattle.std.proofs.lemmas.Nat.{mul-le}
use Rattle.std.proofs.lemmas.List.Elements.{All-contains}
use Rattle.cov_types.specs.declared.coord.Coord.{Coord}
use Rattle.cov_types.specs.declared.seg.Seg.{Seg}
use Rattle.cov_types.specs.Range.{IsInRange, IsSegInRange}
use Rattle.cov_types.proofs.Order.{same_coords}
use Rattle.integer_laws.proofs.Bound.{IsWithin, within_product}
use Rattle.integer_laws.proofs.Cast.{natural}
use Rattle.integer_laws.proofs.Ring.{lin, mul_one, pos_times}
use Rattle.plane.specs.Point.{at_coord}
use Rattle.plane.specs.Region.{IsOuterRegion, IsRegionOf}
use Rattle.plane.specs.Segment.{IsOn}
use Rattle.plane.proofs.Points.{first_between, second_between}
use Rattle.sector_laws.specs.Sector.{AreDistinct, IsPlanar}
use Rattle.sector_laws.proofs.Angles.{true_or_false}
use Rattle.region_owners.specs.Box.{IsCornerOf}
use Rattle.distance_laws.specs.Room.{squared_distance}
use Rattle.region_owners.specs.Gap.{HasRoomWithin, IsClearance}
use Rattle.region_owners.specs.Laws.{IsWithRoom}
use Rattle.region_owners.proofs.RegionBox.{in_box}

-- ---- searching

abbrev Decided : Type 0 → Type 0
Decided X = X ⊎ ¬ X

-- what is decided of each number is decided of some number below n
some_below : (Holds : ℕ → Type 0) → ((i : ℕ) → Decided (Holds i)) → (n : ℕ) → ((i : ℕ) × Holds i) ⊎ ((i : ℕ) → i < n → ¬ Holds i)
some_below Holds decide zero = inr (λ i less. absurd (omega arith))
some_below Holds decide (suc n) = elim (decide n) [
  | inl here ↦ inl (n, here)
  | inr not_here ↦ elim (some_below Holds decide n) [
    | inl found ↦ inl found
    | inr none ↦ inr (λ i less holds. elim (cases_lt i n) [
      | inl before ↦ none i before holds
      | inr from ↦ (let same : i ≡ n = omega arith in not_here (subst Holds same holds))
    ])
  ]
]

-- a clearance is found from a bound down
clearance_below : (edges : List Seg) (r : ℕ) → ((w : ℕ) → Decided (HasRoomWithin edges r w)) → (n : ℕ) → ((w : ℕ) → HasRoomWithin edges r w → w < n) → (w : ℕ) × IsClearance edges r w
clearance_below edges r decide zero less = (0, record { reached = λ some. absurd (omega arith); greatest = λ v some room. (let below = less v room in absurd (omega arith)) })
clearance_below edges r decide (suc n) less = elim (decide n) [
  | inl room ↦ (n, record { reached = λ some. room; greatest = λ v some more. (let below = less v more in omega arith) })
  | inr none ↦ clearance_below edges r decide n (λ w room. elim (cases_lt w n) [
    | inl before ↦ before
    | inr from ↦ (
        let below = less w room in
        let same : w ≡ n = omega arith in
        absurd (none (subst (HasRoomWithin edges r) same room))
        )
  ])
]

-- ---- the grid points of the range, by numbers

abbrev coord_at : ℕ → ℕ → Coord
coord_at i j = record { x = pos i -ℤ pos (2 ^ 28); y = pos j -ℤ pos (2 ^ 28) }

number_of : (x : ℤ) → (pos 0 -ℤ pos (2 ^ 28)) ≤ℤ x → x ≤ℤ pos (2 ^ 28) → (i : ℕ) × (i < 2 ^ 29 + 1) × (x ≡ pos i -ℤ pos (2 ^ 28))
number_of x from to =
    let (i, is) = natural (x +ℤ pos (2 ^ 28)) (omega (arith, lin)) in
    (i, omega (arith, lin), omega (arith, lin))

-- over plain variables: room within this distance
too_near : (w : ℕ) (s : ℤ) → s ≤ℤ pos (2 ^ 59) → (pos (w * w) *ℤ pos 1) ≤ℤ (pos 4 *ℤ s) → w < 2 ^ 31
too_near w s far room =
    let one = mul_one (pos (w * w)) in
    let four = pos_times 4 s in
    elim (cases_lt w (2 ^ 31)) [
      | inl less ↦ less
      | inr more ↦ (let big = mul-le (2 ^ 31) (2 ^ 31) w w more more in absurd (omega (arith, lin)))
    ]

module _ (edges : List Seg) (planar : IsPlanar edges) (distinct : AreDistinct edges) (r : ℕ) (inner : ¬ IsOuterRegion edges r) where
  -- an end of an edge of the region is a point of the edge, in range
  record IsEndPoint (c : Coord) : Type 0 where
    edge : Seg
    among : Contains edges edge
    on : IsOn edge (at_coord c)
    in_range : IsInRange c

  end_point : (c : Coord) → IsCornerOf edges r c → IsEndPoint c
  end_point c k =
      let range = All-contains IsSegInRange edges k.edge planar.in_range k.of.among in
      elim k.is [
        | inl lo ↦ record {
          edge = k.edge;
          among = k.of.among;
          on = subst (λ x. IsOn k.edge (at_coord x)) (sym lo) (first_between (at_coord k.edge.lo) (at_coord k.edge.hi));
          in_range = subst IsInRange (sym lo) range.lo;
        }
        | inr hi ↦ record {
          edge = k.edge;
          among = k.of.among;
          on = subst (λ x. IsOn k.edge (at_coord x)) (sym hi) (second_between (at_coord k.edge.lo) (at_coord k.edge.hi));
          in_range = subst IsInRange (sym hi) range.hi;
        }
      ]

  within_range : (q : Coord) → IsRegionOf edges (at_coord q) r → IsInRange q
  within_range q own =
      let box = in_box edges planar distinct r inner (at_coord q) own in
      let left = (end_point box.left.0 box.left.1.0).in_range in
      let right = (end_point box.right.0 box.right.1.0).in_range in
      let bottom = (end_point box.bottom.0 box.bottom.1.0).in_range in
      let top = (end_point box.top.0 box.top.1.0).in_range in
      record {
        left = omega (arith, lin, left.left, box.left.1.1, mul_one box.left.0.x);
        right = omega (arith, lin, right.right, box.right.1.1, mul_one box.right.0.x);
        bottom = omega (arith, lin, bottom.bottom, box.bottom.1.1, mul_one box.bottom.0.y);
        top = omega (arith, lin, top.top, box.top.1.1, mul_one box.top.0.y);
      }

  -- ---- room has a bound

  distance_within : (q c : Coord) → IsInRange q → IsInRange c → squared_distance q (at_coord c) ≤ℤ pos (2 ^ 59)
  unfolding squared_distance
  distance_within q c hq hc =
      let q_x = mul_one q.x in
      let q_y = mul_one q.y in
      let dx : IsWithin (2 ^ 29) ((q.x *ℤ pos 1) -ℤ c.x) = record { low = omega (arith, lin, hq.left, hc.right); high = omega (arith, lin, hq.right, hc.left) } in
      let dy : IsWithin (2 ^ 29) ((q.y *ℤ pos 1) -ℤ c.y) = record { low = omega (arith, lin, hq.bottom, hc.top); high = omega (arith, lin, hq.top, hc.bottom) } in
      let xx = (within_product dx dx).high in
      let yy = (within_product dy dy).high in
      omega (arith, lin)

  room_below : (w : ℕ) → HasRoomWithin edges r w → w < 2 ^ 31
  room_below w h =
      let range = within_range h.at h.within in
      let box = in_box edges planar distinct r inner (at_coord h.at) h.within in
      let c = box.left.0 in
      let end = end_point c box.left.1.0 in
      let far = distance_within h.at c range end.in_range in
      let room = h.room end.edge end.among (at_coord c) end.on in
      too_near w (squared_distance h.at (at_coord c)) far room

  -- ---- whether there is room

  module _ (has_room : Coord → ℕ → Bool) (tells : (q : Coord) (w : ℕ) → IsTrue (has_room q w) ↔ IsWithRoom edges r w q) where
    at_point : (w : ℕ) (q : Coord) → Decided (IsWithRoom edges r w q)
    at_point w q = elim (true_or_false (has_room q w)) [
      | inl t ↦ inl ((tells q w).0 t)
      | inr f ↦ inr (λ room. true≢false (sym ((tells q w).1 room) ∙ f))
    ]

    -- some grid point of the column has room
    abbrev HasRoomInColumn : ℕ → ℕ → ℕ → Type 0
    HasRoomInColumn n w i = (j : ℕ) × ((j < n) × IsWithRoom edges r w (coord_at i j))

    point_below : (n w i j : ℕ) → (j < n) ⊎ (n ≤ j) → Decided (IsWithRoom edges r w (coord_at i j)) → Decided ((j < n) × IsWithRoom edges r w (coord_at i j))
    point_below n w i j (inl less) (inl room) = inl (less, room)
    point_below n w i j (inl less) (inr none) = inr (λ both. none both.1)
    point_below n w i j (inr more) d = inr (λ both. (let less = both.0 in absurd (omega arith)))

    in_column : (n w i : ℕ) → Decided (HasRoomInColumn n w i)
    in_column n w i = elim (some_below (λ j. (j < n) × IsWithRoom edges r w (coord_at i j)) (λ j. point_below n w i j (cases_lt j n) (at_point w (coord_at i j))) n) [
      | inl found ↦ inl found
      | inr none ↦ inr (λ h. none h.0 h.1.0 h.1)
    ]

    decide_by : (n : ℕ) → ((q : Coord) → IsRegionOf edges (at_coord q) r → (i : ℕ) × ((j : ℕ) × ((i < n) × (j < n) × (q ≡ coord_at i j)))) → (w : ℕ) → Decided (HasRoomWithin edges r w)
    decide_by n places w = elim (some_below (HasRoomInColumn n w) (in_column n w) n) [
      | inl found ↦ (let room = found.1.1.1 in inl (record { at = coord_at found.0 found.1.0; within = room.within; room = room.room }))
      | inr none ↦ inr (λ h. (
          let place = places h.at h.within in
          let at = place.1.1 in
          none place.0 at.0 (place.1.0, (at.1, subst (IsWithRoom edges r w) at.2 (record { within = h.within; room = h.room })))))
    ]

    place_of : (q : Coord) → IsRegionOf edges (at_coord q) r → (i : ℕ) × ((j : ℕ) × ((i < 2 ^ 29 + 1) × (j < 2 ^ 29 + 1) × (q ≡ coord_at i j)))
    place_of q own =
        let range = within_range q own in
        let (i, i_below, x_is) = number_of q.x (omega (arith, lin, range.left)) (omega (arith, lin, range.right)) in
        let (j, j_below, y_is) = number_of q.y (omega (arith, lin, range.bottom)) (omega (arith, lin, range.top)) in
        (i, (j, (i_below, j_below, same_coords q (coord_at i j) x_is y_is)))

    exists : (w : ℕ) × IsClearance edges r w
    exists = clearance_below edges r (decide_by (2 ^ 29 + 1) place_of) (2 ^ 31) room_below

pub clearance_exists : (edges : List Seg) → IsPlanar edges → AreDistinct edges → (r : ℕ) → ¬ IsOuterRegion edges r
    → (has_room : Coord → ℕ → Bool) → ((q : Coord) (w : ℕ) → IsTrue (has_room q w) ↔ IsWithRoom edges r w q) → (w : ℕ) × IsClearance edges r w
clearance_exists edges planar distinct r inner has_room tells = exists edges planar distinct r inner has_room tells
