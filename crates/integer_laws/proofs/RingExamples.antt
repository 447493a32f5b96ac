-- What the polynomial prover takes and refuses, in the coordinates of four points.
use mathlib.Core.Path.{◌≡◌, refl}
use mathlib.Core.List.{[], ◌∷◌}
use lib.IntN.{ℤ, ◌+ℤ◌, ◌-ℤ◌, ◌*ℤ◌}
use Rattle.integer_laws.proofs.Ring.{Term, Var, ◌⊕◌, ◌⊖◌, ◌⊗◌, by_ring, by_two}

-- twice the signed area of the triangle (ax, ay), (bx, by), (cx, cy)
abbrev turn : ℤ → ℤ → ℤ → ℤ → ℤ → ℤ → ℤ
turn ax ay bx by cx cy = ((bx -ℤ ax) *ℤ (cy -ℤ ay)) -ℤ ((by -ℤ ay) *ℤ (cx -ℤ ax))

-- the same as an expression, of points that are numbered: the coordinates of the point n are the variables 2n and 2n + 1
abbrev turn_term : Term → Term → Term → Term → Term → Term → Term
turn_term ax ay bx by cx cy = (bx ⊖ ax) ⊗ (cy ⊖ ay) ⊖ (by ⊖ ay) ⊗ (cx ⊖ ax)

-- of degree 5: the weights of a, b, c, d by the areas of the three others, times one more area.
-- With a minus for the last plus, in the statement and the expression, it is false at most points, and refused: `refl` does not fit `Vanishes`
weights : (ax ay bx by cx cy dx dy : ℤ)
    → turn ax ay bx by cx cy *ℤ ((turn bx by cx cy dx dy *ℤ ax) +ℤ (turn ax ay bx by dx dy *ℤ cx))
    ≡ turn ax ay bx by cx cy *ℤ ((turn ax ay cx cy dx dy *ℤ bx) +ℤ (turn ax ay bx by cx cy *ℤ dx))
weights ax ay bx by cx cy dx dy =
    let abc = turn_term (Var 0) (Var 1) (Var 2) (Var 3) (Var 4) (Var 5) in
    let bcd = turn_term (Var 2) (Var 3) (Var 4) (Var 5) (Var 6) (Var 7) in
    let abd = turn_term (Var 0) (Var 1) (Var 2) (Var 3) (Var 6) (Var 7) in
    let acd = turn_term (Var 0) (Var 1) (Var 4) (Var 5) (Var 6) (Var 7) in
    by_ring (ax ∷ ay ∷ bx ∷ by ∷ cx ∷ cy ∷ dx ∷ dy ∷ []) (abc ⊗ (bcd ⊗ Var 0 ⊕ abd ⊗ Var 4)) (abc ⊗ (acd ⊗ Var 2 ⊕ abc ⊗ Var 6)) refl

-- the side of the point (x/d, y/d) at the line from (ax, ay) to (bx, by), times d
abbrev side : ℤ → ℤ → ℤ → ℤ → ℤ → ℤ → ℤ → ℤ
side ax ay bx by x y d = ((bx -ℤ ax) *ℤ (y -ℤ (ay *ℤ d))) -ℤ ((by -ℤ ay) *ℤ (x -ℤ (ax *ℤ d)))

abbrev side_term : Term → Term → Term → Term → Term → Term → Term → Term
side_term ax ay bx by x y d = (bx ⊖ ax) ⊗ (y ⊖ ay ⊗ d) ⊖ (by ⊖ ay) ⊗ (x ⊖ ax ⊗ d)

-- in 15 variables: where r is the mean of p and q with the weights m and n, so is its side
mean_side : (ax ay bx by px py pd qx qy qd rx ry rd m n : ℤ)
    → rx *ℤ ((m *ℤ pd) +ℤ (n *ℤ qd)) ≡ rd *ℤ ((m *ℤ px) +ℤ (n *ℤ qx))
    → ry *ℤ ((m *ℤ pd) +ℤ (n *ℤ qd)) ≡ rd *ℤ ((m *ℤ py) +ℤ (n *ℤ qy))
    → side ax ay bx by rx ry rd *ℤ ((m *ℤ pd) +ℤ (n *ℤ qd)) ≡ rd *ℤ ((m *ℤ side ax ay bx by px py pd) +ℤ (n *ℤ side ax ay bx by qx qy qd))
mean_side ax ay bx by px py pd qx qy qd rx ry rd m n hx hy =
    let weight = Var 13 ⊗ Var 6 ⊕ Var 14 ⊗ Var 9 in
    let mean = λ (s t : Term). Var 12 ⊗ (Var 13 ⊗ s ⊕ Var 14 ⊗ t) in
    let side_of = side_term (Var 0) (Var 1) (Var 2) (Var 3) in
    by_two (ax ∷ ay ∷ bx ∷ by ∷ px ∷ py ∷ pd ∷ qx ∷ qy ∷ qd ∷ rx ∷ ry ∷ rd ∷ m ∷ n ∷ [])
    (side_of (Var 10) (Var 11) (Var 12) ⊗ weight) (mean (side_of (Var 4) (Var 5) (Var 6)) (side_of (Var 7) (Var 8) (Var 9)))
    (Var 2 ⊖ Var 0) (Var 11 ⊗ weight) (mean (Var 5) (Var 8))
    (Var 1 ⊖ Var 3) (Var 10 ⊗ weight) (mean (Var 4) (Var 7))
    refl hy hx
