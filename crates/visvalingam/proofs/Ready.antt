-- The queue of a state takes care of each spot that may become removable: what popping, waiting and a removal keep of that.
use mathlib.Core.List.{[], ◌∷◌}
use Rattle.std.proofs.Common.{◌≡◌, ◌≢◌, ◌⊎◌, inl, inr, refl, sym, ◌∙◌, ap, subst, ℕ, zero, suc, ◌<◌, List, ◌++◌, All, Bool, true, false, cond, not, ◌||◌, get_or, IsTrue, Some, slice_get, true≢false, arith}
use Rattle.std.specs.Prelude.{Contains, option_and_then, AllPairs}
use Rattle.std.specs.Ordering.{is_le, is_lt, nat_cmp, ordering_then}
use Rattle.std.proofs.lemmas.Bool.{or_cases, or_left, or_right, cases_order}
use Rattle.std.proofs.lemmas.Bool.Decides.{nat_tests}
use Rattle.std.specs.declared.cmp.Ordering.{Ordering}
use Rattle.std.proofs.lemmas.Option.{same_Some, slice_get_within, get_or_from_slice_get}
use Rattle.std.proofs.lemmas.List.Elements.{All-contains, Contains-append_left, Contains-append_right}
use Rattle.cov_types.specs.declared.coord.Coord.{Coord}
use Rattle.cov_types.specs.declared.seg.Seg.{Seg}
use Rattle.cov_types.specs.Coord.{is_same_coord, points_cmp}
use Rattle.cov_types.specs.Seg.{IsSegBetween}
use Rattle.cov_types.proofs.Equal.{Decides-same_coords}
use Rattle.arrangement.proofs.PointOrders.{points_both_ways}
use Rattle.greedy_run.specs.Lines.{IsLine}
use Rattle.greedy_run.specs.Run.{Triangle, Spot, Simplification, point_at, is_removed, current, current_points, IsLastBefore, IsFirstAfter, point_before, point_after, IsTriangleAt, IsRemovable, IsNextPoint}
use Rattle.greedy_run.proofs.Kept.{before_is, after_is}
use Rattle.greedy_run.proofs.NoNodes.{no_node}
use Rattle.greedy_run.proofs.OneLine.{one_place}
use Rattle.removal_laws.proofs.Removable.{next_stays}
use Rattle.removal_laws.proofs.Bridge.{of_flat_map, to_flat_map}
use Rattle.cov_cells.specs.Way.{IsInWay}
use Rattle.visvalingam.specs.Queue.{at_spot, IsNoLater}
use Rattle.visvalingam.specs.Ready.{IsOpen, IsWaiting, IsSpanned, IsReady}
use Rattle.visvalingam.specs.declared.spot.QueuedSpot.{QueuedSpot}

-- ---- elements

pub first_or_later : {X : Type 0} (x : X) (xs : List X) (y : X) → Contains (x ∷ xs) y → (x ≡ y) ⊎ Contains xs y
first_or_later x xs y (zero, inside, is) = inl is
first_or_later x xs y (suc k, inside, is) = inr (k, omega arith, is)

pub here_first : {X : Type 0} (x : X) (xs : List X) (y : X) → x ≡ y → Contains (x ∷ xs) y
here_first x xs y is = (0, omega arith, is)

pub there : {X : Type 0} (x : X) (xs : List X) (y : X) → Contains xs y → Contains (x ∷ xs) y
there x xs y (k, inside, is) = (suc k, omega arith, is)

-- ---- a removable spot is open, and free

open_of : (s : Simplification) (removed : List Coord) (spot : Spot) → IsRemovable s removed spot → IsOpen s removed spot
open_of s removed spot h = record { t = h.t; triangle = h.triangle; sized = h.sized; small = h.small; inner = h.inner }

unfoldable pub removable_of : (s : Simplification) (removed : List Coord) (spot : Spot) (h : IsOpen s removed spot) → ((p : Coord) → Contains (current_points s.lines removed) p → ¬ IsInWay h.t p) → ¬ IsSpanned s removed h.t → IsRemovable s removed spot
removable_of s removed spot h free apart = record {
  t = h.t;
  triangle = h.triangle;
  sized = h.sized;
  small = h.small;
  free = λ p has not_a not_b not_c inside. free p has (record { inside = inside; not_a = not_a; not_b = not_b; not_c = not_c });
  open_side = λ e has between. apart (e, (has, between));
  inner = h.inner;
}

-- ---- one triangle at a spot

pub one_triangle : (lines : List (List Coord)) (removed : List Coord) (spot : Spot) (t u : Triangle) → IsTriangleAt lines removed spot t → IsTriangleAt lines removed spot u → t ≡ u
one_triangle lines removed spot t u h k =
    let points : h.points ≡ k.points = same_Some h.points k.points (sym h.line ∙ k.line) in
    let b : t.b ≡ u.b = same_Some t.b u.b (sym h.here ∙ k.here) in
    let a : t.a ≡ u.a = same_Some t.a u.a (sym ((before_is removed h.points spot.place t.a).1 (h.from, h.before)) ∙ ap (λ ps. point_before removed ps spot.place) points ∙ (before_is removed k.points spot.place u.a).1 (k.from, k.before)) in
    let c : t.c ≡ u.c = same_Some t.c u.c (sym ((after_is removed h.points spot.place t.c).1 (h.to, h.after)) ∙ ap (λ ps. point_after removed ps spot.place) points ∙ (after_is removed k.points spot.place u.c).1 (k.to, k.after)) in
    λ i. record { a = a i; b = b i; c = c i }

-- ---- the order

-- a spot is not past itself
not_past_itself : (q : QueuedSpot) → IsNoLater q q
not_past_itself q = by (nat_cmp q.size q.size) (same q.size) (nat_cmp q.line q.line) (same q.line) (nat_cmp q.place q.place) (same q.place)
  where
    same : (n : ℕ) → nat_cmp n n ≡ nat_cmp 0 0
    same n = grind (arith, nat_tests)

    by : (x : Ordering) → x ≡ nat_cmp 0 0 → (y : Ordering) → y ≡ nat_cmp 0 0 → (z : Ordering) → z ≡ nat_cmp 0 0 → IsTrue (is_le (ordering_then x (ordering_then y z)))
    by x e y f z g = subst (λ v. IsTrue (is_le (ordering_then v (ordering_then y z)))) (sym e) (subst (λ v. IsTrue (is_le (ordering_then (nat_cmp 0 0) (ordering_then v z)))) (sym f) (subst (λ v. IsTrue (is_le (ordering_then (nat_cmp 0 0) (ordering_then (nat_cmp 0 0) v)))) (sym g) refl))

-- ---- the state of the queue

module _ (s : Simplification) (removed : List Coord) where
  -- a removable spot is in the queue
  in_queue : (queue : List QueuedSpot) (waiting : Coord → List QueuedSpot) → IsReady s removed queue waiting → (spot : Spot) → IsRemovable s removed spot → Contains queue (record { size = spot.size; line = spot.line; place = spot.place })
  unfolding open_of
  in_queue queue waiting ready spot r =
      elim (ready (record { size = spot.size; line = spot.line; place = spot.place }) (open_of s removed spot r)) [
        | inl has ↦ has
        | inr other ↦ elim other [
          | inl w ↦ absurd (r.free w.vertex w.there w.in_way.not_a w.in_way.not_b w.in_way.not_c w.in_way.inside)
          | inr spanned ↦ absurd (r.open_side spanned.0 spanned.1.0 spanned.1.1)
        ]
      ]

  -- a removable spot that is least is the next
  pub next_is : (q : QueuedSpot) (rest : List QueuedSpot) (waiting : Coord → List QueuedSpot) → IsReady s removed (q ∷ rest) waiting → All (IsNoLater q) rest → (h : IsRemovable s removed (at_spot q)) → IsNextPoint s removed h.t.b
  next_is q rest waiting ready least h = record {
    spot = at_spot q;
    removable = h;
    least = λ other r. elim (first_or_later q rest (record { size = other.size; line = other.line; place = other.place }) (in_queue (q ∷ rest) waiting ready other r)) [
      | inl same ↦ subst (λ (o : QueuedSpot). IsNoLater q o) same (not_past_itself q)
      | inr later ↦ All-contains (IsNoLater q) rest (record { size = other.size; line = other.line; place = other.place }) least later
    ];
    is = h.triangle.here;
  }

  -- with an empty queue nothing is removable
  pub none_left : (waiting : Coord → List QueuedSpot) → IsReady s removed [] waiting → (spot : Spot) → ¬ IsRemovable s removed spot
  none_left waiting ready spot r = let has = in_queue [] waiting ready spot r in omega (arith, has.1)

  -- more in the queue
  pub more_ready : (queue more : List QueuedSpot) (waiting : Coord → List QueuedSpot) → ((q : QueuedSpot) → Contains queue q → Contains more q) → IsReady s removed queue waiting → IsReady s removed more waiting
  more_ready queue more waiting kept ready q h = elim (ready q h) [ inl has ↦ inl (kept q has) | inr other ↦ inr other ]

  -- a spot that is not open is let go
  pub stale_ready : (q : QueuedSpot) (rest : List QueuedSpot) (waiting : Coord → List QueuedSpot) → ¬ IsOpen s removed (at_spot q) → IsReady s removed (q ∷ rest) waiting → IsReady s removed rest waiting
  stale_ready q rest waiting stale ready r h =
      elim (ready r h) [
        | inl has ↦ elim (first_or_later q rest r has) [
          | inl same ↦ absurd (stale (subst (λ (o : QueuedSpot). IsOpen s removed (at_spot o)) (sym same) h))
          | inr later ↦ inl later
        ]
        | inr other ↦ inr other
      ]

  -- and so is one whose third side is current
  pub spanned_ready : (q : QueuedSpot) (rest : List QueuedSpot) (waiting : Coord → List QueuedSpot) → ((t : Triangle) → IsTriangleAt s.lines removed (at_spot q) t → IsSpanned s removed t) → IsReady s removed (q ∷ rest) waiting → IsReady s removed rest waiting
  spanned_ready q rest waiting spanned ready r h =
      elim (ready r h) [
        | inl has ↦ elim (first_or_later q rest r has) [
          | inl same ↦ inr (inr (spanned h.t (subst (λ (o : QueuedSpot). IsTriangleAt s.lines removed (at_spot o) h.t) (sym same) h.triangle)))
          | inr later ↦ inl later
        ]
        | inr other ↦ inr other
      ]

  -- one with a vertex in its way waits for that
  pub waiting_ready : (q : QueuedSpot) (rest : List QueuedSpot) (old new : Coord → List QueuedSpot) (p : Coord) → Contains (current_points s.lines removed) p → ((t : Triangle) → IsTriangleAt s.lines removed (at_spot q) t → IsInWay t p)
      → ((x : Coord) → new x ≡ cond (is_same_coord p x) (old p ++ q ∷ []) (old x)) → IsReady s removed (q ∷ rest) old → IsReady s removed rest new
  waiting_ready q rest old new p has_p in_way pushed ready r h =
      elim (ready r h) [
        | inl has ↦ elim (first_or_later q rest r has) [
          | inl same ↦ inr (inl (record {
            vertex = p;
            there = has_p;
            in_way = in_way h.t (subst (λ (o : QueuedSpot). IsTriangleAt s.lines removed (at_spot o) h.t) (sym same) h.triangle);
            waits = subst (Contains (new p)) same (own_pushed (is_same_coord p p) ((Decides-same_coords p p).1 refl) (pushed p));
          }))
          | inr later ↦ inl later
        ]
        | inr other ↦ elim other [
          | inl w ↦ inr (inl (record {
            vertex = w.vertex;
            there = w.there;
            in_way = w.in_way;
            waits = still w.vertex (is_same_coord p w.vertex) refl (pushed w.vertex) w.waits;
          }))
          | inr side ↦ inr (inr side)
        ]
      ]
    where
      own_pushed : (b : Bool) → b ≡ true → new p ≡ cond b (old p ++ q ∷ []) (old p) → Contains (new p) q
      own_pushed true e is = subst (λ xs. Contains xs q) (sym is) (Contains-append_right (old p) (q ∷ []) q (0, omega arith, refl))
      own_pushed false e is = absurd (true≢false (sym e))

      still : (v : Coord) (b : Bool) → is_same_coord p v ≡ b → new v ≡ cond b (old p ++ q ∷ []) (old v) → Contains (old v) r → Contains (new v) r
      still v false e is has = subst (λ xs. Contains xs r) (sym is) has
      still v true e is has = subst (λ xs. Contains xs r) (sym is) (Contains-append_left (old p) (q ∷ []) r (subst (λ (c : Coord). Contains (old c) r) (sym ((Decides-same_coords p v).0 e)) has))

-- ---- removed points

pub removed_cases : (removed : List Coord) (b y : Coord) → is_removed (b ∷ removed) y ≡ true → (y ≡ b) ⊎ (is_removed removed y ≡ true)
removed_cases removed b y h = elim (or_cases (is_same_coord y b) (is_removed removed y) h) [ inl same ↦ inl ((Decides-same_coords y b).0 same) | inr before ↦ inr before ]

pub not_removed : (removed : List Coord) (b y : Coord) → is_removed (b ∷ removed) y ≡ false → (y ≢ b) × (is_removed removed y ≡ false)
not_removed removed b y h = by (is_same_coord y b) (is_removed removed y) (λ e. (Decides-same_coords y b).1 e) h
  where
    by : (c d : Bool) → (y ≡ b → c ≡ true) → (c || d) ≡ false → (y ≢ b) × (d ≡ false)
    by true d own k = absurd (true≢false k)
    by false d own k = (λ e. true≢false (sym (own e)), k)

pub still_removed : (removed : List Coord) (b y : Coord) → is_removed removed y ≡ true → is_removed (b ∷ removed) y ≡ true
still_removed removed b y h = or_right (is_same_coord y b) (is_removed removed y) h

pub now_removed : (removed : List Coord) (b : Coord) → is_removed (b ∷ removed) b ≡ true
now_removed removed b = or_left (is_same_coord b b) (is_removed removed b) ((Decides-same_coords b b).1 refl)

pub still_there : (removed : List Coord) (b y : Coord) → y ≢ b → is_removed removed y ≡ false → is_removed (b ∷ removed) y ≡ false
still_there removed b y apart h = by (is_same_coord y b) (λ e. apart ((Decides-same_coords y b).0 e))
  where
    by : (c : Bool) → (c ≡ true → ⊥) → (c || is_removed removed y) ≡ false
    by true n = absurd (n refl)
    by false n = h

-- a vertex that is left stays, but for b
pub kept_point : (b : Coord) (removed points : List Coord) (p : Coord) → p ≢ b → Contains (current removed points) p → Contains (current (b ∷ removed) points) p
kept_point b removed [] p apart has = absurd (omega (arith, has.1))
kept_point b removed (x ∷ points) p apart has = by (kept_point b removed points p apart) (is_removed removed x) refl has
  where
    later : (c : Bool) → Contains (current (b ∷ removed) points) p → Contains (cond (not c) (x ∷ current (b ∷ removed) points) (current (b ∷ removed) points)) p
    later true k = k
    later false k = there x (current (b ∷ removed) points) p k

    here : (c : Bool) → c ≡ false → x ≡ p → Contains (cond (not c) (x ∷ current (b ∷ removed) points) (current (b ∷ removed) points)) p
    here true e is = absurd (true≢false e)
    here false e is = (0, omega arith, is)

    by : (Contains (current removed points) p → Contains (current (b ∷ removed) points) p) → (c : Bool) → is_removed removed x ≡ c → Contains (cond (not c) (x ∷ current removed points) (current removed points)) p
        → Contains (current (b ∷ removed) (x ∷ points)) p
    by rest true e k = later (is_removed (b ∷ removed) x) (rest k)
    by rest false e k = elim (first_or_later x (current removed points) p k) [
      | inl is ↦ here (is_removed (b ∷ removed) x) (still_there removed b x (λ same. apart (sym is ∙ same)) e) is
      | inr k ↦ later (is_removed (b ∷ removed) x) (rest k)
    ]

pub kept_points : (b : Coord) (removed : List Coord) (lines : List (List Coord)) (p : Coord) → p ≢ b → Contains (current_points lines removed) p → Contains (current_points lines (b ∷ removed)) p
kept_points b removed lines p apart has =
    let (line, found) = of_flat_map (current removed) lines p has in
    to_flat_map (current (b ∷ removed)) lines line p found.0 (kept_point b removed line p apart found.1)

-- ---- a removal

-- a list stands at one place of ascending lists
line_once : (lines : List (List Coord)) → AllPairs (λ l m. IsTrue (is_lt (points_cmp l m))) lines → (i j : ℕ) (points : List Coord) → slice_get lines i ≡ Some points → slice_get lines j ≡ Some points → i ≡ j
line_once lines ascending i j points at_i at_j =
    elim (cases_order i j) [
      | inl same ↦ same
      | inr apart ↦ elim apart [
        | inl less ↦ absurd (past i j less at_i at_j)
        | inr more ↦ absurd (past j i more at_j at_i)
      ]
    ]
  where
    past : (a b : ℕ) → a < b → slice_get lines a ≡ Some points → slice_get lines b ≡ Some points → ⊥
    past a b less at_a at_b =
        let h = ascending a b points less (slice_get_within lines b points at_b) in
        let own = subst (λ m. IsTrue (is_lt (points_cmp points m))) (get_or_from_slice_get lines b points points at_b) (subst (λ l. IsTrue (is_lt (points_cmp l (get_or lines b points)))) (get_or_from_slice_get lines a points points at_a) h) in
        points_both_ways points points own own

module _ (s : Simplification) (removed : List Coord) (spot : Spot) (h : IsRemovable s removed spot) where
  abbrev b : Coord
  b = h.t.b

  abbrev points : List Coord
  points = h.triangle.points

  line_at : (i : ℕ) (l : List Coord) → slice_get s.lines i ≡ Some l → IsLine s.edges l
  line_at i l at = (s.are_lines.exact l).0 (i, slice_get_within s.lines i l at, get_or_from_slice_get s.lines i l l at)

  here : slice_get points spot.place ≡ Some b
  here = sym (ap (option_and_then (λ l. slice_get l spot.place)) h.triangle.line) ∙ h.triangle.here

  -- b stands at one place of one line
  pub b_once : (i : ℕ) (l : List Coord) (j : ℕ) → slice_get s.lines i ≡ Some l → slice_get l j ≡ Some b → (i ≡ spot.line) × ((l ≡ points) × (j ≡ spot.place))
  b_once i l j at_i at_j =
      let one = one_place s.edges l points (line_at i l at_i) (line_at spot.line points h.triangle.line) b (no_node s removed spot h) j spot.place at_j here in
      (line_once s.lines s.are_lines.ascending i spot.line points (at_i ∙ ap Some one.line) h.triangle.line, (one.line, one.place))

  -- the neighbours of another point are those that it had, but where it is one of b's
  before_back : (i : ℕ) (l : List Coord) (j m : ℕ) (a y : Coord) → slice_get s.lines i ≡ Some l → slice_get l j ≡ Some y → is_removed (b ∷ removed) y ≡ false
      → ¬ ((i ≡ spot.line) × (j ≡ h.triangle.to)) → IsLastBefore (b ∷ removed) l j m a → IsLastBefore removed l j m a
  before_back i l j m a y at_i at_j left apart k = record {
    before = k.before;
    at = k.at;
    there = (not_removed removed b a k.there).1;
    between = λ x p past less at. elim (removed_cases removed b p (k.between x p past less at)) [
      | inr old ↦ old
      | inl own ↦ absurd (at_b x p past less at own)
    ];
  }
    where
      at_b : (x : ℕ) (p : Coord) → m < x → x < j → slice_get l x ≡ Some p → p ≡ b → ⊥
      at_b x p past less at own =
          let (line, (same, place)) = b_once i l x at_i (at ∙ ap Some own) in
          let after = h.triangle.after in
          let at_j_too = subst (λ ps. slice_get ps j ≡ Some y) same at_j in
          let later = after.after in
          elim (cases_order j h.triangle.to) [
            | inl is ↦ apart (line, is)
            | inr other ↦ elim other [
              | inl short ↦ true≢false (sym (after.between j y (omega arith) short at_j_too) ∙ (not_removed removed b y left).1)
              | inr long ↦ (
                  let gone = k.between h.triangle.to h.t.c (omega arith) long (subst (λ ps. slice_get ps h.triangle.to ≡ Some h.t.c) (sym same) after.at) in
                  elim (removed_cases removed b h.t.c gone) [
                    | inl own_c ↦ (let twice = (b_once spot.line points h.triangle.to h.triangle.line (after.at ∙ ap Some own_c)).1.1 in omega arith)
                    | inr old ↦ true≢false (sym old ∙ after.there)
                  ])
            ]
          ]

  after_back : (i : ℕ) (l : List Coord) (j m : ℕ) (c y : Coord) → slice_get s.lines i ≡ Some l → slice_get l j ≡ Some y → is_removed (b ∷ removed) y ≡ false
      → ¬ ((i ≡ spot.line) × (j ≡ h.triangle.from)) → IsFirstAfter (b ∷ removed) l j m c → IsFirstAfter removed l j m c
  after_back i l j m c y at_i at_j left apart k = record {
    after = k.after;
    at = k.at;
    there = (not_removed removed b c k.there).1;
    between = λ x p past less at. elim (removed_cases removed b p (k.between x p past less at)) [
      | inr old ↦ old
      | inl own ↦ absurd (at_b x p past less at own)
    ];
  }
    where
      at_b : (x : ℕ) (p : Coord) → j < x → x < m → slice_get l x ≡ Some p → p ≡ b → ⊥
      at_b x p past less at own =
          let (line, (same, place)) = b_once i l x at_i (at ∙ ap Some own) in
          let before = h.triangle.before in
          let at_j_too = subst (λ ps. slice_get ps j ≡ Some y) same at_j in
          let earlier = before.before in
          elim (cases_order j h.triangle.from) [
            | inl is ↦ apart (line, is)
            | inr other ↦ elim other [
              | inr long ↦ true≢false (sym (before.between j y long (omega arith) at_j_too) ∙ (not_removed removed b y left).1)
              | inl short ↦ (
                  let gone = k.between h.triangle.from h.t.a short (omega arith) (subst (λ ps. slice_get ps h.triangle.from ≡ Some h.t.a) (sym same) before.at) in
                  elim (removed_cases removed b h.t.a gone) [
                    | inl own_a ↦ (let twice = (b_once spot.line points h.triangle.from h.triangle.line (before.at ∙ ap Some own_a)).1.1 in omega arith)
                    | inr old ↦ true≢false (sym old ∙ before.there)
                  ])
            ]
          ]

  -- a spot beside no place of b's neighbours was open before
  open_back : (other : Spot) (k : IsOpen s (b ∷ removed) other) → ¬ ((other.line ≡ spot.line) × (other.place ≡ h.triangle.from)) → ¬ ((other.line ≡ spot.line) × (other.place ≡ h.triangle.to)) → IsOpen s removed other
  open_back other k not_from not_to = record {
    t = k.t;
    triangle = record {
      points = k.triangle.points;
      line = k.triangle.line;
      here = k.triangle.here;
      there = (not_removed removed b k.t.b k.triangle.there).1;
      from = k.triangle.from;
      before = before_back other.line k.triangle.points other.place k.triangle.from k.t.a k.t.b k.triangle.line own k.triangle.there not_to k.triangle.before;
      to = k.triangle.to;
      after = after_back other.line k.triangle.points other.place k.triangle.to k.t.c k.t.b k.triangle.line own k.triangle.there not_from k.triangle.after;
    };
    sized = k.sized;
    small = k.small;
    inner = k.inner;
  }
    where
      own : slice_get k.triangle.points other.place ≡ Some k.t.b
      own = sym (ap (option_and_then (λ l. slice_get l other.place)) k.triangle.line) ∙ k.triangle.here

  is_or_not : (i j : ℕ) (k l : ℕ) → ((i ≡ j) × (k ≡ l)) ⊎ ¬ ((i ≡ j) × (k ≡ l))
  is_or_not i j k l =
      elim (cases_order i j) [
        | inr apart ↦ inr (λ e. elim apart [ inl less ↦ (let x = e.0 in omega arith) | inr more ↦ (let x = e.0 in omega arith) ])
        | inl same ↦ elim (cases_order k l) [
          | inl too ↦ inl (same, too)
          | inr apart ↦ inr (λ e. elim apart [ inl less ↦ (let x = e.1 in omega arith) | inr more ↦ (let x = e.1 in omega arith) ])
        ]
      ]

  -- what a removal has to enter: b's neighbours and all that waited for b
  pub record IsEntered (queue : List QueuedSpot) (waited : List QueuedSpot) : Type 0 where
    pub at_from : (r : QueuedSpot) → r.line ≡ spot.line → r.place ≡ h.triangle.from → IsOpen s (b ∷ removed) (at_spot r) → Contains queue r
    pub at_to : (r : QueuedSpot) → r.line ≡ spot.line → r.place ≡ h.triangle.to → IsOpen s (b ∷ removed) (at_spot r) → Contains queue r
    pub woken : (r : QueuedSpot) → Contains waited r → Contains queue r

  -- then the state after it is ready
  pub removal_ready : (q : QueuedSpot) → at_spot q ≡ spot → (rest queue : List QueuedSpot) (old new : Coord → List QueuedSpot) → IsReady s removed (q ∷ rest) old → ((r : QueuedSpot) → Contains rest r → Contains queue r)
      → IsEntered queue (old b) → ((x : Coord) → new x ≡ cond (is_same_coord b x) [] (old x)) → IsReady s (b ∷ removed) queue new
  unfolding open_back
  removal_ready q is rest queue old new ready kept entered taken r k =
      elim (is_or_not r.line spot.line r.place h.triangle.from) [
        | inl from ↦ inl (entered.at_from r from.0 from.1 k)
        | inr not_from ↦ elim (is_or_not r.line spot.line r.place h.triangle.to) [
          | inl to ↦ inl (entered.at_to r to.0 to.1 k)
          | inr not_to ↦ elim (ready r (open_back (at_spot r) k not_from not_to)) [
            | inl has ↦ elim (first_or_later q rest r has) [
              | inl same ↦ absurd (not_q same)
              | inr later ↦ inl (kept r later)
            ]
            | inr other ↦ elim other [
              | inl w ↦ waits w (is_same_coord b w.vertex) refl (taken w.vertex)
              | inr side ↦ inr (inr (side.0, (next_stays s removed spot h side.0 side.1.0 (apart side.0 side.1.1).0 (apart side.0 side.1.1).1, side.1.1)))
            ]
          ]
        ]
      ]
    where
      not_q : q ≡ r → ⊥
      not_q same =
          let at_r : at_spot r ≡ spot = sym (ap at_spot same) ∙ is in
          let b_there : k.t.b ≡ b = same_Some k.t.b b (sym k.triangle.here ∙ ap (point_at s.lines) at_r ∙ h.triangle.here) in
          (not_removed removed b k.t.b k.triangle.there).0 b_there

      apart : (e : Seg) → IsSegBetween k.t.a k.t.c e → (e.lo ≢ b) × (e.hi ≢ b)
      apart e (inl ends) = (λ same. (not_removed removed b k.t.a k.triangle.before.there).0 (sym ends.0 ∙ same), λ same. (not_removed removed b k.t.c k.triangle.after.there).0 (sym ends.1 ∙ same))
      apart e (inr ends) = (λ same. (not_removed removed b k.t.c k.triangle.after.there).0 (sym ends.0 ∙ same), λ same. (not_removed removed b k.t.a k.triangle.before.there).0 (sym ends.1 ∙ same))

      waits : (w : IsWaiting s removed old r k.t) (c : Bool) → is_same_coord b w.vertex ≡ c → new w.vertex ≡ cond c [] (old w.vertex)
          → Contains queue r ⊎ (IsWaiting s (b ∷ removed) new r k.t ⊎ IsSpanned s (b ∷ removed) k.t)
      waits w true e left = inl (entered.woken r (subst (λ (c : Coord). Contains (old c) r) (sym ((Decides-same_coords b w.vertex).0 e)) w.waits))
      waits w false e left = inr (inl (record {
        vertex = w.vertex;
        there = kept_points b removed s.lines w.vertex (λ same. true≢false (sym ((Decides-same_coords b w.vertex).1 (sym same)) ∙ e)) w.there;
        in_way = w.in_way;
        waits = subst (λ xs. Contains xs r) (sym left) w.waits;
      }))
