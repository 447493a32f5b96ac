-- The sides of closed rings are balanced.
use Rattle.std.proofs.Common.{◌≡◌, refl, sym, ◌∙◌, ap, ap₂, subst, ℕ, ◌+◌, Bool, true, false, cond, List, [], ◌∷◌, ◌++◌, length, take, drop, map, zip, flat_map, option_to_list, Option, ℤ, pos, negsuc, ◌+ℤ◌, take-append-drop, arith}
use Rattle.std.proofs.lemmas.List.{map-append}
use Rattle.std.specs.List.{enumerate_from}
use Rattle.cov_types.specs.declared.coord.Coord.{Coord}
use Rattle.cov_types.specs.declared.edge_use.EdgeUse.{EdgeUse}
use Rattle.cov_types.specs.declared.seg.Seg.{Seg}
use Rattle.cov_types.specs.Coord.{is_before}
use Rattle.cov_types.specs.Uses.{sides, seg_between, side_uses, ring_uses, poly_uses, member_uses, uses_of}
use Rattle.cov_types.proofs.Between.{seg_between_by_ends}
use Rattle.cov_types.proofs.Order.{is_before-asymm}
use Rattle.cov_types.proofs.Sides.{length-rotated}
use Rattle.integer_laws.proofs.Ring.{lin}
use Rattle.crossing_laws.specs.Crossing.{WeightedEdge, edges_of, int_sum_by, IsBalanced}
use Rattle.crossing_laws.specs.Winding.{side_weights, ring_weights, poly_weights, member_weights, coverage_weights}

-- ---- lists joined end to end

int_sum-append : {X : Type 0} (f : X → ℤ) (xs ys : List X) → int_sum_by f (xs ++ ys) ≡ int_sum_by f xs +ℤ int_sum_by f ys
int_sum-append f [] ys = omega (arith, lin)
int_sum-append f (x ∷ xs) ys = let rest = int_sum-append f xs ys in omega (arith, lin)

balanced_flat_map : {X : Type 0} (f : X → List WeightedEdge) (xs : List X) → ((x : X) → IsBalanced (f x)) → IsBalanced (flat_map f xs)
balanced_flat_map f [] h = λ passes. refl
balanced_flat_map f (x ∷ xs) h = λ passes.
    let lo : WeightedEdge → ℤ = λ w. cond (passes w.edge.lo) w.weight (pos 0) in
    let hi : WeightedEdge → ℤ = λ w. cond (passes w.edge.hi) w.weight (pos 0) in
    let first = h x passes in
    let rest = balanced_flat_map f xs h passes in
    omega (arith, lin, int_sum-append lo (f x) (flat_map f xs), int_sum-append hi (f x) (flat_map f xs))

abbrev segs_of : List EdgeUse → List Seg
segs_of uses = map (λ u. u.seg) uses

edges_flat_map : {X : Type 0} (f : X → List WeightedEdge) (g : X → List EdgeUse) (xs : List X) → ((x : X) → edges_of (f x) ≡ segs_of (g x))
    → edges_of (flat_map f xs) ≡ segs_of (flat_map g xs)
edges_flat_map f g [] h = refl
edges_flat_map f g (x ∷ xs) h =
    map-append (λ (w : WeightedEdge). w.edge) (f x) (flat_map f xs)
    ∙ ap₂ (λ a b. a ++ b) (h x) (edges_flat_map f g xs h)
    ∙ sym (map-append (λ (u : EdgeUse). u.seg) (g x) (flat_map g xs))

-- ---- the sides of a ring

-- 1 at a point that passes, and otherwise 0
abbrev point_weight : (Coord → Bool) → Coord → ℤ
point_weight passes c = cond (passes c) (pos 1) (pos 0)

abbrev lo_weight : (Coord → Bool) → WeightedEdge → ℤ
lo_weight passes w = cond (passes w.edge.lo) w.weight (pos 0)

abbrev hi_weight : (Coord → Bool) → WeightedEdge → ℤ
hi_weight passes w = cond (passes w.edge.hi) w.weight (pos 0)

onward : (t : Bool) → (cond t (negsuc 0) (pos 0) +ℤ pos 0) +ℤ cond t (pos 1) (pos 0) ≡ pos 0
onward true = refl
onward false = refl

back : (t u : Bool) → (cond u (pos 1) (pos 0) +ℤ pos 0) +ℤ cond t (pos 1) (pos 0) ≡ (cond t (pos 1) (pos 0) +ℤ pos 0) +ℤ cond u (pos 1) (pos 0)
back true true = refl
back true false = refl
back false true = refl
back false false = refl

-- a side from lo to hi: lo, hi, a and b say whether the ends and the two points pass
turn_onward : (lo hi a b order : Bool) → order ≡ true → lo ≡ a → hi ≡ b
    → (cond lo (cond order (negsuc 0) (pos 1)) (pos 0) +ℤ pos 0) +ℤ cond a (pos 1) (pos 0) ≡ (cond hi (cond order (negsuc 0) (pos 1)) (pos 0) +ℤ pos 0) +ℤ cond b (pos 1) (pos 0)
turn_onward lo hi a b order h p q = rw (h, p, q) (onward a ∙ sym (onward b))

-- and a side from hi to lo
turn_back : (lo hi a b order : Bool) → order ≡ false → lo ≡ b → hi ≡ a
    → (cond lo (cond order (negsuc 0) (pos 1)) (pos 0) +ℤ pos 0) +ℤ cond a (pos 1) (pos 0) ≡ (cond hi (cond order (negsuc 0) (pos 1)) (pos 0) +ℤ pos 0) +ℤ cond b (pos 1) (pos 0)
turn_back lo hi a b order h p q = rw (h, p, q) (back a b)

ordered_ends : (a b : Coord) (s : Seg) → s.lo ≡ a → s.hi ≡ b → is_before a b ≡ true
ordered_ends a b s p q = subst (λ (c : Coord). is_before c b ≡ true) p (subst (λ (c : Coord). is_before s.lo c ≡ true) q s.ordered)

-- the weights of a side whose lo passes and its first point are those whose hi passes and its second point
side_turns : (passes : Coord → Bool) (side : Coord × Coord)
    → int_sum_by (lo_weight passes) (side_weights side) +ℤ point_weight passes side.0 ≡ int_sum_by (hi_weight passes) (side_weights side) +ℤ point_weight passes side.1
side_turns passes side =
    let a = side.0 in
    let b = side.1 in
    let weigh : Option Seg → List WeightedEdge = λ o. map (λ s. record { edge = s; weight = cond (is_before a b) (negsuc 0) (pos 1) }) (option_to_list o) in
    seg_between_by_ends
    (λ o. int_sum_by (lo_weight passes) (weigh o) +ℤ point_weight passes a ≡ int_sum_by (hi_weight passes) (weigh o) +ℤ point_weight passes b) a b
    (λ s p q. turn_onward (passes s.lo) (passes s.hi) (passes a) (passes b) (is_before a b) (ordered_ends a b s p q) (ap passes p) (ap passes q))
    (λ s p q. turn_back (passes s.lo) (passes s.hi) (passes a) (passes b) (is_before a b) (is_before-asymm b a (ordered_ends b a s p q)) (ap passes p) (ap passes q))
    (λ e. ap (λ c. pos 0 +ℤ point_weight passes c) e)

-- the same of the sides from each point of one list to the point at its place in another
zip_turns : (passes : Coord → Bool) (xs ys : List Coord) → length xs ≡ length ys
    → int_sum_by (lo_weight passes) (flat_map side_weights (zip xs ys)) +ℤ int_sum_by (point_weight passes) xs
    ≡ int_sum_by (hi_weight passes) (flat_map side_weights (zip xs ys)) +ℤ int_sum_by (point_weight passes) ys
zip_turns passes [] [] e = refl
zip_turns passes [] (y ∷ ys) e = absurd (omega (arith, e))
zip_turns passes (x ∷ xs) [] e = absurd (omega (arith, e))
zip_turns passes (x ∷ xs) (y ∷ ys) e =
    let first = side_turns passes (x, y) in
    let rest = zip_turns passes xs ys (omega (arith, e)) in
    let lo = int_sum-append (lo_weight passes) (side_weights (x, y)) (flat_map side_weights (zip xs ys)) in
    let hi = int_sum-append (hi_weight passes) (side_weights (x, y)) (flat_map side_weights (zip xs ys)) in
    omega (arith, lin)

-- round a ring each point is the first of one side and the second of another
rotated_sum : (f : Coord → ℤ) (points : List Coord) → int_sum_by f (drop 1 points ++ take 1 points) ≡ int_sum_by f points
rotated_sum f points =
    let turned = int_sum-append f (drop 1 points) (take 1 points) in
    let whole = int_sum-append f (take 1 points) (drop 1 points) in
    let same = ap (int_sum_by f) (take-append-drop 1 points) in
    omega (arith, lin)

pub ring_balanced : (points : List Coord) → IsBalanced (ring_weights points)
ring_balanced points = λ passes.
    let all = zip_turns passes points (drop 1 points ++ take 1 points) (sym (length-rotated points)) in
    let turned = rotated_sum (point_weight passes) points in
    omega (arith, lin)

-- so the sides of a coverage are
pub coverage_balanced : (members : List (List (List (List Coord)))) → IsBalanced (coverage_weights members)
coverage_balanced members =
    balanced_flat_map member_weights members (λ polys. balanced_flat_map poly_weights polys (λ rings. balanced_flat_map ring_weights rings ring_balanced))

-- ---- they are the segments that the coverage uses

listed : (n : ℕ) (w : ℤ) (segs : List Seg) → edges_of (map (λ s. record { edge = s; weight = w }) segs) ≡ segs_of (map (λ s. record { member = n; seg = s }) segs)
listed n w [] = refl
listed n w (s ∷ segs) = ap (λ l. s ∷ l) (listed n w segs)

pub ring_edges : (n : ℕ) (points : List Coord) → edges_of (ring_weights points) ≡ segs_of (ring_uses n points)
ring_edges n points =
    edges_flat_map side_weights (side_uses n) (sides points)
    (λ side. listed n (cond (is_before side.0 side.1) (negsuc 0) (pos 1)) (option_to_list (seg_between side.0 side.1)))

member_edges : (n : ℕ) (polys : List (List (List Coord))) → edges_of (member_weights polys) ≡ segs_of (member_uses (n, polys))
member_edges n polys =
    edges_flat_map poly_weights (poly_uses n) polys (λ rings. edges_flat_map ring_weights (ring_uses n) rings (ring_edges n))

numbered_edges : (k : ℕ) (members : List (List (List (List Coord)))) → edges_of (coverage_weights members) ≡ segs_of (flat_map member_uses (enumerate_from k members))
numbered_edges k [] = refl
numbered_edges k (m ∷ members) =
    map-append (λ (w : WeightedEdge). w.edge) (member_weights m) (coverage_weights members)
    ∙ ap₂ (λ a b. a ++ b) (member_edges k m) (numbered_edges (k + 1) members)
    ∙ sym (map-append (λ (u : EdgeUse). u.seg) (member_uses (k, m)) (flat_map member_uses (enumerate_from (k + 1) members)))

pub coverage_edges : (members : List (List (List (List Coord)))) → edges_of (coverage_weights members) ≡ segs_of (uses_of members)
coverage_edges members = numbered_edges 0 members
