-- Of any set of points, each member has an even number of segment ends in it.
use Rattle.std.proofs.Common.{◌≡◌, ℕ, ◌+◌, ◌*◌, ◌%◌, Bool, true, false, cond, ◌==◌, List, ◌++◌, [], ◌∷◌, length, take, drop, map, zip, flat_map, sum_by, option_to_list, refl, ap, sym, arith}
use Rattle.std.proofs.lemmas.List.Sums.{sum_by-cons, sum_by-append, sum_by-take-drop}
use Rattle.std.specs.List.{enumerate_from}
use Rattle.cov_types.proofs.Between.{seg_between_by_ends}
use Rattle.cov_types.proofs.Sides.{length-rotated}
use Rattle.cov_types.specs.Uses.{side_uses, ring_uses, poly_uses, member_uses, uses_of, ends_inside, ends_in}
use Rattle.cov_types.specs.declared.coord.Coord.{Coord}
use Rattle.cov_types.specs.declared.edge_use.EdgeUse.{EdgeUse}
use Rattle.cov_types.specs.declared.seg.Seg.{Seg}

-- a joined list of pieces with even sums has an even sum
even-flat_map : {X A : Type 0} (g : A → ℕ) (f : X → List A) (xs : List X) → ((x : X) → sum_by g (f x) % 2 ≡ 0) → sum_by g (flat_map f xs) % 2 ≡ 0
even-flat_map g f [] h = refl
even-flat_map g f (x ∷ xs) h = omega (arith, h x, even-flat_map g f xs h, sum_by-append g (f x) (flat_map f xs))

-- 1 at a point inside where n is the member, and otherwise 0
abbrev weight : (Coord → Bool) → ℕ → ℕ → Coord → ℕ
weight inside member n p = cond (n == member) (cond (inside p) 1 0) 0

cond-add : (t : Bool) (x y : ℕ) → cond t (x + y) 0 ≡ cond t x 0 + cond t y 0
cond-add true x y = refl
cond-add false x y = refl

-- the ends of a use are the weights of the two ends
use_ends : (inside : Coord → Bool) (member n : ℕ) (s : Seg)
    → ends_in inside member (record { member = n; seg = s } ∷ []) ≡ weight inside member n s.lo + weight inside member n s.hi
use_ends inside member n s = omega (arith, cond-add (n == member) (cond (inside s.lo) 1 0) (cond (inside s.hi) 1 0))

-- the ends of a side, counted where it has no length too, are as many as its segment's and an even number more
side_ends : (inside : Coord → Bool) (member n : ℕ) (side : Coord × Coord)
    → (k : ℕ) × (weight inside member n side.0 + weight inside member n side.1 ≡ ends_in inside member (side_uses n side) + 2 * k)
side_ends inside member n side =
    let w : Coord → ℕ = weight inside member n in
    seg_between_by_ends
    (λ o. (k : ℕ) × (w side.0 + w side.1 ≡ ends_in inside member (map (λ s. record { member = n; seg = s }) (option_to_list o)) + 2 * k)) side.0 side.1
    (λ s p q. (0, omega (arith, use_ends inside member n s, ap w p, ap w q)))
    (λ s p q. (0, omega (arith, use_ends inside member n s, ap w p, ap w q)))
    (λ e. (w side.0, omega (arith, ap w e)))

-- the same of the sides from each point of one list to the point at its place in another
zip_ends : (inside : Coord → Bool) (member n : ℕ) (xs ys : List Coord) → length xs ≡ length ys
    → (k : ℕ) × (sum_by (weight inside member n) xs + sum_by (weight inside member n) ys ≡ ends_in inside member (flat_map (side_uses n) (zip xs ys)) + 2 * k)
zip_ends inside member n [] [] e = (0, refl)
zip_ends inside member n [] (y ∷ ys) e = absurd (omega (arith, e))
zip_ends inside member n (x ∷ xs) [] e = absurd (omega (arith, e))
zip_ends inside member n (x ∷ xs) (y ∷ ys) e =
    let w : Coord → ℕ = weight inside member n in
    let here = side_ends inside member n (x, y) in
    let later = zip_ends inside member n xs ys (omega (arith, e)) in
    let both = sum_by-append (λ u. cond (u.member == member) (ends_inside inside u.seg) 0) (side_uses n (x, y)) (flat_map (side_uses n) (zip xs ys)) in
    (here.0 + later.0, omega (arith, here.1, later.1, both, sum_by-cons w x xs, sum_by-cons w y ys))

-- round a ring every point is an end of two sides
ring_ends : (inside : Coord → Bool) (member n : ℕ) (points : List Coord) → ends_in inside member (ring_uses n points) % 2 ≡ 0
ring_ends inside member n points =
    let w : Coord → ℕ = weight inside member n in
    let all = zip_ends inside member n points (drop 1 points ++ take 1 points) (sym (length-rotated points)) in
    omega (arith, all.1, sum_by-append w (drop 1 points) (take 1 points), sum_by-take-drop w points 1)

-- of any set of points, each member has an even number of segment ends in it
pub even-ends : (members : List (List (List (List Coord)))) (inside : Coord → Bool) (member : ℕ) → ends_in inside member (uses_of members) % 2 ≡ 0
even-ends members inside member =
    let ends : EdgeUse → ℕ = λ u. cond (u.member == member) (ends_inside inside u.seg) 0 in
    even-flat_map ends member_uses (enumerate_from 0 members) (λ numbered.
    even-flat_map ends (poly_uses numbered.0) numbered.1 (λ rings.
    even-flat_map ends (ring_uses numbered.0) rings (ring_ends inside member numbered.0)))
