-- How often a closed way winds round a point: 1 more on the left of each of its half-edges than on the right, and 0 far out.
use mathlib.Core.List.{[], ◌∷◌}
use Rattle.std.proofs.Common.{◌≡◌, ◌⊎◌, refl, sym, ◌∙◌, ap, subst, ℕ, suc, ◌+◌, ◌%◌, ◌==◌, Bool, true, false, cond, List, ◌++◌, map, count_by, ℤ, pos, negsuc, ◌+ℤ◌, inl, inr, arith}
use Rattle.std.specs.Prelude.{Contains, AllPairs}
use Rattle.std.proofs.lemmas.Bool.{false_from_ne_true}
use Rattle.std.proofs.lemmas.Int.{ints}
use Rattle.std.proofs.lemmas.List.Elements.{All-contains}
use Rattle.std.proofs.lemmas.List.Sums.{sum_by-cons}
use Rattle.cov_types.specs.declared.coord.Coord.{Coord}
use Rattle.cov_types.specs.declared.seg.Seg.{Seg}
use Rattle.cov_types.specs.Range.{IsSegInRange}
use Rattle.cov_types.proofs.Equal.{Decides-same_segs}
use Rattle.integer_laws.proofs.Ring.{lin}
use Rattle.plane.specs.Joined.{Joined}
use Rattle.plane.specs.Parity.{holds}
use Rattle.plane.specs.Point.{Point}
use Rattle.plane.specs.Ray.{sweep, is_over}
use Rattle.plane.specs.Region.{far_point}
use Rattle.plane.specs.Segment.{upper, lower}
use Rattle.plane.proofs.Over.{over-is}
use Rattle.plane.proofs.Sweeps.{rises-in_range}
use Rattle.crossing_laws.specs.Across.{AllMeetInEnds, is_same_seg, weight_of}
use Rattle.crossing_laws.specs.Crossing.{WeightedEdge, edges_of, crossing_sum, int_sum_by, IsBalanced, IsSwept}
use Rattle.crossing_laws.proofs.Changes.{crossing_sum-across}
use Rattle.crossing_laws.proofs.Lists.{contains_here, contains_there, contains-map}
use Rattle.crossing_laws.proofs.Sums.{crossing_sum-joined}
use Rattle.sector_laws.specs.Sector.{HalfEdge, origin, target, left, twin, IsPlanar}
use Rattle.region_laws.proofs.Balance.{first_or_later}
use Rattle.shell_laws.specs.Part.{AreTurns}
use Rattle.shell_laws.specs.Ring.{way_edges, IsClosed}
use Rattle.shell_laws.proofs.Simple.{by_direction, meets}

-- what the half-edge's edge has on its lower side more than on its upper: 1 less forwards, 1 more back
abbrev pub sign : HalfEdge → ℤ
sign h = cond h.forwards (negsuc 0) (pos 1)

abbrev pub signed : HalfEdge → WeightedEdge
signed h = record { edge = h.edge; weight = sign h }

-- how often the way winds round p, counter-clockwise
abbrev pub winds : List HalfEdge → Point → ℤ
winds way p = crossing_sum (map signed way) p

edges_signed : (way : List HalfEdge) → edges_of (map signed way) ≡ way_edges way
edges_signed [] = refl
edges_signed (h ∷ way) = ap (λ es. h.edge ∷ es) (edges_signed way)

-- ---- closed ways are balanced

module _ (inside : Coord → Bool) where
  abbrev mark : Coord → ℤ
  mark c = cond (inside c) (pos 1) (pos 0)

  abbrev lo_weight : WeightedEdge → ℤ
  lo_weight w = cond (inside w.edge.lo) w.weight (pos 0)

  abbrev hi_weight : WeightedEdge → ℤ
  hi_weight w = cond (inside w.edge.hi) w.weight (pos 0)

  none : (a : Bool) → cond a (negsuc 0) (pos 0) +ℤ cond a (pos 1) (pos 0) ≡ pos 0
  none true = refl
  none false = refl

  either : (a b : Bool) → cond a (pos 1) (pos 0) +ℤ cond b (pos 1) (pos 0) ≡ cond b (pos 1) (pos 0) +ℤ cond a (pos 1) (pos 0)
  either true true = refl
  either true false = refl
  either false true = refl
  either false false = refl

  one_step : (k : HalfEdge) → lo_weight (signed k) +ℤ mark (origin k) ≡ hi_weight (signed k) +ℤ mark (target k)
  one_step = by_direction (λ k. lo_weight (signed k) +ℤ mark (origin k) ≡ hi_weight (signed k) +ℤ mark (target k)) (λ e. none (inside e.lo) ∙ sym (none (inside e.hi))) (λ e. either (inside e.lo) (inside e.hi))

  steps : (boundary : List Seg) (h : HalfEdge) (rest : List HalfEdge) (l : HalfEdge) → AreTurns boundary (h ∷ (rest ++ l ∷ []))
      → int_sum_by lo_weight (map signed (h ∷ rest)) +ℤ mark (origin h) ≡ int_sum_by hi_weight (map signed (h ∷ rest)) +ℤ mark (origin l)
  steps boundary h [] l turns = let one = one_step h in let same = ap mark (meets boundary h l turns.0) in omega (arith, lin)
  steps boundary h (k ∷ ks) l turns = let one = one_step h in let same = ap mark (meets boundary h k turns.0) in let rest = steps boundary k ks l turns.1 in omega (arith, lin)

pub closed_balanced : (boundary : List Seg) (way : List HalfEdge) → IsClosed boundary way → IsBalanced (map signed way)
closed_balanced boundary [] closed = absurd closed
closed_balanced boundary (h ∷ way) closed = λ inside. (let all = steps inside boundary h way h closed in omega (arith, lin))

-- ---- along ways, across edges, and far out

pub winds_joined : (way : List HalfEdge) → IsSwept (way_edges way) → IsBalanced (map signed way) → (p q : Point) → Joined (way_edges way) p q → winds way p ≡ winds way q
winds_joined way swept balanced p q j =
    let same = edges_signed way in crossing_sum-joined (map signed way) (subst (λ es. IsSwept es) (sym same) swept) balanced p q (subst (λ es. Joined es p q) (sym same) j)

other_seg : (e f : Seg) → ((e ≡ f) → ⊥) → is_same_seg e f ≡ false
other_seg e f n = false_from_ne_true (is_same_seg e f) (λ same. n ((Decides-same_segs e f).0 same))

weight_none : (e : Seg) (way : List HalfEdge) → ((m : HalfEdge) → Contains way m → e ≡ m.edge → ⊥) → weight_of e (map signed way) ≡ pos 0
weight_none e [] fresh = refl
weight_none e (m ∷ way) fresh =
    let first = ap (λ t. cond t (sign m) (pos 0)) (other_seg e m.edge (fresh m (contains_here m way))) in
    let rest = weight_none e way (λ k has. fresh k (contains_there m k way has)) in
    omega (arith, lin)

weight_own : (k : HalfEdge) (way : List HalfEdge) → AllPairs (λ h g. ¬ (h.edge ≡ g.edge)) way → Contains way k → weight_of k.edge (map signed way) ≡ sign k
weight_own k [] once has = absurd (omega (arith, has.1))
weight_own k (m ∷ way) once has = elim (first_or_later m way k has) [
  | inl here ↦ (
      let first = ap (λ t. cond t (sign m) (pos 0)) ((Decides-same_segs k.edge m.edge).1 (sym (ap (λ (x : HalfEdge). x.edge) here))) in
      let own = ap sign here in
      let rest = weight_none k.edge way (λ x (i, within, is) same. once 0 (suc i) x (omega arith) (omega arith) (ap (λ (y : HalfEdge). y.edge) here ∙ same ∙ sym (ap (λ (y : HalfEdge). y.edge) is))) in
      omega (arith, lin)
      )
  | inr later ↦ (
      let first = ap (λ t. cond t (sign m) (pos 0)) (other_seg k.edge m.edge (λ same. apart later same)) in
      let rest = weight_own k way (λ i j d less within. once (suc i) (suc j) d (omega arith) (omega arith)) later in
      omega (arith, lin)
      )
]
  where
    apart : Contains way k → k.edge ≡ m.edge → ⊥
    apart (i, within, is) same = once 0 (suc i) k (omega arith) (omega arith) (sym same ∙ sym (ap (λ (y : HalfEdge). y.edge) is))

module _ (edges : List Seg) (planar : IsPlanar edges) (way : List HalfEdge) (among : (e : Seg) → Contains (way_edges way) e → Contains edges e) (once : AllPairs (λ h g. ¬ (h.edge ≡ g.edge)) way) where
  in_range : (e : Seg) → Contains edges e → IsSegInRange e
  in_range e has = All-contains IsSegInRange edges e planar.in_range has

  pub winds_swept : IsSwept (way_edges way)
  winds_swept e has = rises-in_range e (in_range e (among e has))

  meet_in_ends : (e : Seg) → Contains edges e → AllMeetInEnds e (edges_of (map signed way))
  meet_in_ends e has = subst (λ es. AllMeetInEnds e es) (sym (edges_signed way)) (λ f i. (in_range f (among f i), planar.noded e f has (among f i)))

  across : (e : Seg) → Contains edges e → winds way (lower e) ≡ winds way (upper e) +ℤ weight_of e (map signed way)
  across e has = crossing_sum-across e (map signed way) (in_range e has) (meet_in_ends e has)

  abbrev Steps : HalfEdge → ℤ → Type 0
  Steps k n = winds way (left k) ≡ winds way (left (twin k)) +ℤ n

  own_steps : (k : HalfEdge) → Contains edges k.edge → weight_of k.edge (map signed way) ≡ sign k → Steps k (pos 1)
  own_steps = by_direction (λ k. Contains edges k.edge → weight_of k.edge (map signed way) ≡ sign k → Steps k (pos 1))
      (λ e has is. (let over = across e has in omega (arith, lin)))
      (λ e has is. (let over = across e has in omega (arith, lin)))

  no_steps : (k : HalfEdge) → Contains edges k.edge → weight_of k.edge (map signed way) ≡ pos 0 → winds way (left k) ≡ winds way (left (twin k))
  no_steps = by_direction (λ k. Contains edges k.edge → weight_of k.edge (map signed way) ≡ pos 0 → winds way (left k) ≡ winds way (left (twin k)))
      (λ e has is. (let over = across e has in omega (arith, lin)))
      (λ e has is. (let over = across e has in omega (arith, lin)))

  -- on the left of its half-edges it winds once more than on the right
  pub winds_own : (k : HalfEdge) → Contains way k → Steps k (pos 1)
  winds_own k has = own_steps k (among k.edge (contains-map (λ (x : HalfEdge). x.edge) way k has)) (weight_own k way once has)

  -- and as often on both sides of other edges
  pub winds_other : (k : HalfEdge) → Contains edges k.edge → (Contains (way_edges way) k.edge → ⊥) → winds way (left k) ≡ winds way (left (twin k))
  winds_other k has fresh = no_steps k has (weight_none k.edge way (λ m i same. fresh (subst (Contains (way_edges way)) (sym same) (contains-map (λ (x : HalfEdge). x.edge) way m i))))

  not_over_far : (e : Seg) → IsSegInRange e → is_over e far_point ≡ false
  unfolding sweep
  not_over_far e range = false_from_ne_true (is_over e far_point) (λ t. (let over = (over-is e far_point).0 t in let to = over.to in let right = range.hi.right in let top = range.hi.top in omega (arith, ints)))

  pub winds_far : winds way far_point ≡ pos 0
  winds_far = by way (λ m has. among m.edge (contains-map (λ (x : HalfEdge). x.edge) way m has))
    where
      by : (some : List HalfEdge) → ((m : HalfEdge) → Contains some m → Contains edges m.edge) → winds some far_point ≡ pos 0
      by [] there = refl
      by (m ∷ some) there =
          let first = ap (λ t. cond t (sign m) (pos 0)) (not_over_far m.edge (in_range m.edge (there m (contains_here m some)))) in
          let rest = by some (λ k has. there k (contains_there m k some has)) in
          omega (arith, lin)

-- ---- whether the way holds the point

one_over : (b f : Bool) → (m : ℕ) × (cond b (cond f (negsuc 0) (pos 1)) (pos 0) +ℤ pos (m + m) ≡ pos (cond b 1 0))
one_over true true = (1, refl)
one_over true false = (0, refl)
one_over false f = (0, refl)

pub over_way : (way : List HalfEdge) (p : Point) → (n : ℕ) × (winds way p +ℤ pos (n + n) ≡ pos (count_by (λ e. is_over e p) (way_edges way)))
over_way [] p = (0, refl)
over_way (h ∷ way) p =
    let rest = over_way way p in
    let first = one_over (is_over h.edge p) h.forwards in
    let is_rest = rest.1 in
    let is_first = first.1 in
    let sum = sum_by-cons (λ e. cond (is_over e p) 1 0) h.edge (way_edges way) in
    (first.0 + rest.0, omega (arith, lin, sum))

pub holds_none : (way : List HalfEdge) (p : Point) → winds way p ≡ pos 0 → holds (way_edges way) p ≡ false
holds_none way p none = let over = over_way way p in let is = over.1 in ap (λ n. n == 1) (even_of _ _ _ none is)
  where
    even_of : (w : ℤ) (n count : ℕ) → w ≡ pos 0 → w +ℤ pos (n + n) ≡ pos count → count % 2 ≡ 0
    even_of w n count none is = omega (arith, lin)

pub holds_one : (way : List HalfEdge) (p : Point) → (winds way p ≡ pos 1) ⊎ (winds way p ≡ negsuc 0) → holds (way_edges way) p ≡ true
holds_one way p one = let over = over_way way p in ap (λ n. n == 1) (odd_of _ _ _ one over.1)
  where
    odd_of : (w : ℤ) (n count : ℕ) → (w ≡ pos 1) ⊎ (w ≡ negsuc 0) → w +ℤ pos (n + n) ≡ pos count → count % 2 ≡ 1
    odd_of w n count (inl up) is = omega (arith, lin)
    odd_of w n count (inr down) is = omega (arith, lin)
