-- The search for the nearest edge below a point: what its boxes rule out, and how its places and boxes are made.
use mathlib.Core.List.{List, [], ◌∷◌, ◌++◌}
use Rattle.std.proofs.Common.{◌≡◌, sym, ◌∙◌, ap, subst, ℕ, ◌+◌, ◌<◌, ℤ, neg_ℤ, ◌-ℤ◌, ◌≤ℤ◌, ◌<ℤ◌, length, map, Contains, Option, Some, None, slice_get, IsPermutation, inl, inr, false, true≢false, ◌&&◌, int_le, int_lt, arith}
use Rattle.std.proofs.lemmas.Bool.{cases_lt, and_from}
use Rattle.std.proofs.lemmas.List.{map-append}
use Rattle.std.proofs.lemmas.List.Elements.{All-nil, All-push, Contains-push, Contains-append_left}
use Rattle.std.proofs.lemmas.List.Sorted.{Contains-permutation, All-permutation, IsPermutation-map}
use Rattle.std.proofs.lemmas.Option.{same_Some, slice_get_within, slice_get-get_or}
use Rattle.integer_laws.proofs.Compare.{le_trans, le_lt_trans, lt_or_ge, le_or_gt, int_le_is, int_lt_is}
use Rattle.integer_laws.proofs.Ring.{lin}
use Rattle.cov_types.specs.declared.coord.TheConstants.{LIMIT}
use Rattle.cov_types.specs.declared.coord.Coord.{Coord}
use Rattle.cov_types.specs.declared.seg.Seg.{Seg}
use Rattle.half_edge.proofs.Tables.{IsTable, table-none, table-push, some_at}
use Rattle.plane.specs.Point.{at_coord}
use Rattle.sector_laws.specs.Sector.{IsPlanar}
use Rattle.box_tree.specs.Rect.{IsInside, box_of_segment}
use Rattle.box_tree.specs.declared.rect.Rect.{Rect}
use Rattle.box_tree.proofs.CommonPoint.{least_first, least_second, greatest_first, greatest_second}
use Rattle.face_walk.specs.Boxes.{AreFirstPlaces, AreBoxesAt, AreEdgeBoxes, IsFloor, IsSearchBelow, IsBoxSettled, IsRowsDown, is_in_reach}
use Rattle.face_walk.specs.Nearest.{IsNearestAnswer}
use Rattle.face_walk.proofs.Depth.{under_row, under_from, under_to, nearer_by_row}
use Rattle.face_walk.proofs.Nearer.{in_range_of}
use Rattle.face_walk.proofs.Settling.{contains_at, nearest_of_all}

-- ---- what cannot matter

module _ (edges : List Seg) (places : List ℕ) (boxes : List Rect) (p : Coord) (nearest : Option ℕ) (row : ℤ) (made : AreEdgeBoxes edges places boxes) (so_far : IsSearchBelow edges p nearest row) where
  -- a hull beside the column of p, or not below p, or wholly below the row has no edge that is nearer
  pub settled_outside : (hull : Rect) → (hull.lo.x ≤ℤ p.x → p.x ≤ℤ hull.hi.x → hull.lo.y <ℤ p.y → row ≤ℤ hull.hi.y → ⊥)
      → (k : ℕ) (b : Rect) → slice_get boxes k ≡ Some b → IsInside b hull → IsBoxSettled edges places p nearest k
  settled_outside hull apart k b at_k in_hull place at f at_f under =
      let is : b ≡ box_of_segment f = same_Some b (box_of_segment f) (sym at_k ∙ made.at_places.each k place f at at_f) in
      let inside : IsInside (box_of_segment f) hull = subst (λ (x : Rect). IsInside x hull) is in_hull in
      let rf = in_range_of edges made.planar f (contains_at edges place f at_f) in
      let left = le_trans inside.left (le_trans (least_first f.lo.x f.hi.x) (under_from f p rf so_far.in_range under)) in
      let right = le_trans (under_to f p rf so_far.in_range under) (le_trans (greatest_second f.lo.x f.hi.x) inside.right) in
      elim (lt_or_ge hull.lo.y p.y) [
        | inr high ↦ absurd (under_row f p under
            (le_trans high (le_trans inside.bottom (least_first f.lo.y f.hi.y)))
            (le_trans high (le_trans inside.bottom (least_second f.lo.y f.hi.y))))
        | inl bottom ↦ elim (le_or_gt row hull.hi.y) [
          | inl top ↦ absurd (apart left right bottom top)
          | inr low ↦ so_far.floor place f at_f under
              (le_lt_trans (le_trans (greatest_first f.lo.y f.hi.y) inside.top) low)
              (le_lt_trans (le_trans (greatest_second f.lo.y f.hi.y) inside.top) low)
        ]
      ]

pub outside_reach : (p q : Coord) (row : ℤ) (hull : Rect) → p ≡ q → is_in_reach p row hull ≡ false → hull.lo.x ≤ℤ q.x → q.x ≤ℤ hull.hi.x → hull.lo.y <ℤ q.y → row ≤ℤ hull.hi.y → ⊥
outside_reach p q row hull same outside left right bottom top =
    let columns = and_from (int_le hull.lo.x q.x) (int_le q.x hull.hi.x) ((int_le_is hull.lo.x q.x).1 left) ((int_le_is q.x hull.hi.x).1 right) in
    let below = and_from (int_le hull.lo.x q.x && int_le q.x hull.hi.x) (int_lt hull.lo.y q.y) columns ((int_lt_is hull.lo.y q.y).1 bottom) in
    let inside = and_from ((int_le hull.lo.x q.x && int_le q.x hull.hi.x) && int_lt hull.lo.y q.y) (int_le row hull.hi.y) below ((int_le_is row hull.hi.y).1 top) in
    true≢false (sym inside ∙ subst (λ (c : Coord). is_in_reach c row hull ≡ false) same outside)

-- ---- floors

pub floor_none : (edges : List Seg) (p : Coord) (row : ℤ) → IsPlanar edges → row ≡ neg_ℤ LIMIT → IsFloor edges (at_coord p) None row
floor_none edges p row planar is k f at under low high =
    let rf = in_range_of edges planar f (contains_at edges k f at) in
    let bottom = rf.lo.bottom in
    omega (arith, lin)

pub floor_some : (edges : List Seg) (p : Coord) (place : ℕ) (e : Seg) (rows row : ℤ) → IsPlanar edges → slice_get edges place ≡ Some e → IsRowsDown e p rows → row ≡ p.y -ℤ rows
    → IsFloor edges (at_coord p) (Some place) row
floor_some edges p place e rows row planar at_e down is k f at under low high = (
  e,
  (
    at_e,
    inr (nearer_by_row e f p rows (in_range_of edges planar e (contains_at edges place e at_e)) (in_range_of edges planar f (contains_at edges k f at)) under down
        (subst (λ r. f.lo.y <ℤ r) is low) (subst (λ r. f.hi.y <ℤ r) is high)),
  ),
)

-- ---- all boxes

-- where all boxes are settled, the answer is the nearest
pub nearest_of_boxes : (edges : List Seg) (places : List ℕ) (boxes : List Rect) (p : Coord) (nearest : Option ℕ) (row : ℤ) → AreEdgeBoxes edges places boxes → IsSearchBelow edges p nearest row
    → ((k : ℕ) → k < length boxes → IsBoxSettled edges places p nearest k) → IsNearestAnswer edges (at_coord p) nearest
nearest_of_boxes edges places boxes p nearest row made so_far settled =
    nearest_of_all edges (at_coord p) nearest so_far.candidate
    (λ place lt.
    let (k, below, is) = made.each.each place lt in
    let count = made.at_places.count in
    settled k (omega (arith, below, count)) place (slice_get-get_or places k place below ∙ ap Some is))

-- ---- the places

abbrev pub places_of : List (ℕ × ℕ) → List ℕ
places_of keyed = map (λ p. p.1) keyed

pub first_none : (keyed : List (ℕ × ℕ)) → keyed ≡ [] → AreFirstPlaces 0 (places_of keyed)
first_none keyed is = subst (λ (ks : List (ℕ × ℕ)). AreFirstPlaces 0 (places_of ks)) (sym is) (record { within = All-nil (λ (place : ℕ). place < 0); each = λ place lt. absurd (omega (arith, lt)) })

first_push : (count : ℕ) (places : List ℕ) → AreFirstPlaces count places → AreFirstPlaces (count + 1) (places ++ count ∷ [])
first_push count places so_far = record {
  within = All-push (λ (place : ℕ). place < count + 1) places count (λ i d lt. (let old = so_far.within i d lt in omega (arith, old))) (omega arith);
  each = λ place lt. elim (cases_lt place count) [
    | inl early ↦ Contains-append_left places (count ∷ []) place (so_far.each place early)
    | inr late ↦ (let last : count ≡ place = omega (arith, lt, late) in subst (λ n. Contains (places ++ count ∷ []) n) last (Contains-push places count))
  ];
}

pub first_more : (count key : ℕ) (keyed after : List (ℕ × ℕ)) → after ≡ keyed ++ (key, count) ∷ [] → AreFirstPlaces count (places_of keyed) → AreFirstPlaces (count + 1) (places_of after)
first_more count key keyed after is so_far = subst (λ (places : List ℕ). AreFirstPlaces (count + 1) places)
    (sym (ap places_of is ∙ map-append (λ (p : ℕ × ℕ). p.1) keyed ((key, count) ∷ []))) (first_push count (places_of keyed) so_far)

pub first_sorted : (count n : ℕ) (made sorted : List (ℕ × ℕ)) (places : List ℕ) → n ≡ count → AreFirstPlaces n (places_of made) → IsPermutation made sorted → places ≡ places_of sorted
    → AreFirstPlaces count places
first_sorted count n made sorted places all so_far moved is =
    let permuted : IsPermutation (places_of made) places = subst (λ (xs : List ℕ). IsPermutation (places_of made) xs) (sym is) (IsPermutation-map (λ (p : ℕ × ℕ). p.1) made sorted moved) in
    let first : AreFirstPlaces count (places_of made) = subst (λ k. AreFirstPlaces k (places_of made)) all so_far in
    record {
      within = All-permutation (λ (place : ℕ). place < count) (places_of made) places permuted first.within;
      each = λ place lt. Contains-permutation (places_of made) places place permuted (first.each place lt);
    }

-- ---- the boxes

abbrev pub AreBoxesTo : List Seg → List ℕ → ℕ → List Rect → Type 0
AreBoxesTo edges places count boxes = IsTable (λ (k : ℕ) (b : Rect). (place : ℕ) (e : Seg) → slice_get places k ≡ Some place → slice_get edges place ≡ Some e → b ≡ box_of_segment e) boxes count

pub boxes_none : (edges : List Seg) (places : List ℕ) (boxes : List Rect) → boxes ≡ [] → AreBoxesTo edges places 0 boxes
boxes_none edges places boxes is = subst (λ (bs : List Rect). AreBoxesTo edges places 0 bs) (sym is)
    (table-none (λ (k : ℕ) (b : Rect). (place : ℕ) (e : Seg) → slice_get places k ≡ Some place → slice_get edges place ≡ Some e → b ≡ box_of_segment e))

pub boxes_more : (edges : List Seg) (places : List ℕ) (k place : ℕ) (e : Seg) (b : Rect) (boxes after : List Rect) → slice_get places k ≡ Some place → slice_get edges place ≡ Some e → b ≡ box_of_segment e
    → after ≡ boxes ++ b ∷ [] → AreBoxesTo edges places k boxes → AreBoxesTo edges places (k + 1) after
boxes_more edges places k place e b boxes after at at_e box is so_far = subst (λ (bs : List Rect). AreBoxesTo edges places (k + 1) bs) (sym is)
    (table-push (λ (k : ℕ) (b : Rect). (place : ℕ) (e : Seg) → slice_get places k ≡ Some place → slice_get edges place ≡ Some e → b ≡ box_of_segment e) boxes k b so_far
    (λ other f at_other at_f.
    let same : place ≡ other = same_Some place other (sym at ∙ at_other) in
    box ∙ ap box_of_segment (same_Some e f (sym at_e ∙ ap (slice_get edges) same ∙ at_f))))

pub boxes_all : (edges : List Seg) (places : List ℕ) (count : ℕ) (boxes : List Rect) → count ≡ length places → AreBoxesTo edges places count boxes → AreBoxesAt edges places boxes
boxes_all edges places count boxes all so_far = record {
  count = so_far.count ∙ all;
  each = λ k place e at at_e.
      let size = so_far.count in
      let (b, at_b) = some_at boxes k (let below = slice_get_within places k place at in omega (arith, below, size, all)) in
      at_b ∙ ap Some (so_far.each k b at_b place e at at_e);
}
