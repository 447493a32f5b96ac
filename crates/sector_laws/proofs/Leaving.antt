-- The half-edges that leave a vertex, as ways from it.
use mathlib.Core.List.{List, [], ◌∷◌}
use Rattle.std.proofs.Common.{◌≡◌, refl, ap, subst, Bool, true, false, not, ◌^◌, Contains, ℤ, pos, negsuc, neg_ℤ, ◌+ℤ◌, ◌-ℤ◌, ◌*ℤ◌, ◌≤ℤ◌, ◌<ℤ◌, inl, inr, ◌⊎◌, arith}
use Rattle.std.proofs.lemmas.List.Elements.{All-contains}
use Rattle.cov_types.specs.declared.coord.Coord.{Coord}
use Rattle.cov_types.specs.declared.seg.Seg.{Seg}
use Rattle.cov_types.specs.Range.{IsSegInRange}
use Rattle.integer_laws.proofs.Bound.{IsWithin}
use Rattle.integer_laws.proofs.Compare.{int_tests}
use Rattle.integer_laws.proofs.Ring.{lin, by_ring, Term, Var, Lit, ◌⊕◌, ◌⊖◌, ◌⊗◌, Neg, pos_times}
use Rattle.plane.specs.Segment.{turn_of}
use Rattle.plane.specs.Ray.{sweep}
use Rattle.plane.proofs.Sweeps.{rises-in_range}
use Rattle.crossing_laws.proofs.Beside.{rise}
use Rattle.sector_laws.specs.Sector.{HalfEdge, origin, target, is_left_of, Leaves, IsPlanar}
use Rattle.sector_laws.proofs.Near.{cross, IsSlight, length_within}
use Rattle.sector_laws.proofs.Sliver.{rise_within}
use Rattle.sector_laws.proofs.Vectors.{ray_turned}

-- the ray up, on the left of the ways forwards, and down, on the left of the ways back
abbrev pub ray_x : Bool → ℤ
ray_x true = negsuc 0
ray_x false = pos 1

abbrev pub ray_y : Bool → ℤ
ray_y true = pos (2 ^ 30)
ray_y false = neg_ℤ (pos (2 ^ 30))

pub ray_x-not : (b : Bool) → ray_x (not b) ≡ neg_ℤ (ray_x b)
ray_x-not true = refl
ray_x-not false = refl

pub ray_y-not : (b : Bool) → ray_y (not b) ≡ neg_ℤ (ray_y b)
ray_y-not true = refl
ray_y-not false = refl

-- the way from a vertex to where a half-edge ends
abbrev pub way_x : Coord → HalfEdge → ℤ
way_x v k = (target k).x -ℤ v.x

abbrev pub way_y : Coord → HalfEdge → ℤ
way_y v k = (target k).y -ℤ v.y

-- two tests are one or opposite
pub same_or_other : (p q : Bool) → (p ≡ q) ⊎ (p ≡ not q)
same_or_other true true = inl refl
same_or_other true false = inr refl
same_or_other false true = inr refl
same_or_other false false = inl refl

-- ---- the ray is on the left, as far as the edge rises

abbrev rise_term : Term
rise_term = Lit (pos (2 ^ 30)) ⊗ Var 2 ⊕ Var 3 ⊖ (Lit (pos (2 ^ 30)) ⊗ Var 0 ⊕ Var 1)

heading_of : (e : Seg) (b : Bool) → cross (way_x (origin (record { edge = e; forwards = b })) (record { edge = e; forwards = b }))
    (way_y (origin (record { edge = e; forwards = b })) (record { edge = e; forwards = b })) (ray_x b) (ray_y b) ≡ rise e
unfolding sweep
heading_of e true =
    by_ring (e.lo.x ∷ e.lo.y ∷ e.hi.x ∷ e.hi.y ∷ []) ((Var 2 ⊖ Var 0) ⊗ Lit (pos (2 ^ 30)) ⊖ (Var 3 ⊖ Var 1) ⊗ Lit (negsuc 0)) rise_term refl
heading_of e false =
    by_ring (e.lo.x ∷ e.lo.y ∷ e.hi.x ∷ e.hi.y ∷ []) ((Var 0 ⊖ Var 2) ⊗ Neg (Lit (pos (2 ^ 30))) ⊖ (Var 1 ⊖ Var 3) ⊗ Lit (pos 1)) rise_term refl

heading_is : (v : Coord) (k : HalfEdge) → origin k ≡ v → cross (way_x v k) (way_y v k) (ray_x k.forwards) (ray_y k.forwards) ≡ rise k.edge
heading_is v k from = subst (λ o. cross (way_x o k) (way_y o k) (ray_x k.forwards) (ray_y k.forwards) ≡ rise k.edge) from (heading_of k.edge k.forwards)

module _ (edges : List Seg) (planar : IsPlanar edges) (v : Coord) where
  pub edge_in_range : (e : Seg) → Contains edges e → IsSegInRange e
  edge_in_range e c = All-contains IsSegInRange edges e planar.in_range c

  -- so it is for the half-edges of one half
  pub heading_same : (b : Bool) (k : HalfEdge) → Leaves edges v k → k.forwards ≡ b → pos 0 <ℤ cross (way_x v k) (way_y v k) (ray_x b) (ray_y b)
  heading_same b k leaves same =
      let up = rises-in_range k.edge (edge_in_range k.edge leaves.among) in
      subst (λ c. pos 0 <ℤ cross (way_x v k) (way_y v k) (ray_x c) (ray_y c)) same (omega (arith, lin, heading_is v k leaves.from))

  pub heading_small : (b : Bool) (k : HalfEdge) → Leaves edges v k → k.forwards ≡ b → cross (way_x v k) (way_y v k) (ray_x b) (ray_y b) ≤ℤ pos (2 ^ 60)
  heading_small b k leaves same =
      let within = rise_within k.edge (edge_in_range k.edge leaves.among) in
      subst (λ c. cross (way_x v k) (way_y v k) (ray_x c) (ray_y c) ≤ℤ pos (2 ^ 60)) same (omega (arith, lin, heading_is v k leaves.from, within.high))

  -- and on the right for those of the other
  pub heading_other : (b : Bool) (k : HalfEdge) → Leaves edges v k → k.forwards ≡ not b → cross (way_x v k) (way_y v k) (ray_x b) (ray_y b) <ℤ pos 0
  heading_other b k leaves other =
      let left = heading_same (not b) k leaves other in
      let turned : pos 0 <ℤ cross (way_x v k) (way_y v k) (neg_ℤ (ray_x b)) (neg_ℤ (ray_y b)) =
      subst (λ y. pos 0 <ℤ cross (way_x v k) (way_y v k) (neg_ℤ (ray_x b)) y) (ray_y-not b)
      (subst (λ x. pos 0 <ℤ cross (way_x v k) (way_y v k) x (ray_y (not b))) (ray_x-not b) left) in
      omega (arith, lin, ray_turned (way_x v k) (way_y v k) (ray_x b) (ray_y b))

  -- ---- turning left

  pub turn_cross : (g h : HalfEdge) → Leaves edges v h → turn_of (origin h) (target h) (target g) ≡ cross (way_x v h) (way_y v h) (way_x v g) (way_y v g)
  unfolding turn_of
  turn_cross g h leaves = ap (λ o. cross (way_x o h) (way_y o h) (way_x o g) (way_y o g)) leaves.from

  pub left_cross : (g h : HalfEdge) → Leaves edges v h → is_left_of g h ≡ true → pos 0 <ℤ cross (way_x v h) (way_y v h) (way_x v g) (way_y v g)
  left_cross g h leaves left = omega (arith, lin, int_tests, turn_cross g h leaves)

  pub not_left_cross : (g h : HalfEdge) → Leaves edges v h → is_left_of g h ≡ false → cross (way_x v h) (way_y v h) (way_x v g) (way_y v g) ≤ℤ pos 0
  not_left_cross g h leaves none = omega (arith, lin, int_tests, turn_cross g h leaves)

  -- ---- how long the ways are

  pub way_within : (k : HalfEdge) → Leaves edges v k → IsWithin (2 ^ 29) (way_x v k) × IsWithin (2 ^ 29) (way_y v k)
  way_within k leaves =
      subst (λ o. IsWithin (2 ^ 29) (way_x o k) × IsWithin (2 ^ 29) (way_y o k)) leaves.from (within_of k.edge k.forwards (edge_in_range k.edge leaves.among))
    where
      within_of : (e : Seg) (b : Bool) → IsSegInRange e → IsWithin (2 ^ 29) (way_x (origin (record { edge = e; forwards = b })) (record { edge = e; forwards = b }))
          × IsWithin (2 ^ 29) (way_y (origin (record { edge = e; forwards = b })) (record { edge = e; forwards = b }))
      within_of e true h = length_within e h
      within_of e false h =
          let (x, y) = length_within e h in (
            record { low = omega (arith, lin, x.high); high = omega (arith, lin, x.low) },
            record { low = omega (arith, lin, y.high); high = omega (arith, lin, y.low) },
          )

-- how far along a half-edge the points near its vertex are
abbrev pub stretch : ℤ
stretch = pos (2 ^ 140)

-- a way so shortened, and a little to a side, is slight
pub slight_way : (x y u w : ℤ) → IsWithin (2 ^ 29) x × IsWithin (2 ^ 29) y → IsWithin (2 ^ 30) u → IsWithin (2 ^ 30) w → IsSlight ((stretch *ℤ x) +ℤ u) ((stretch *ℤ y) +ℤ w)
slight_way x y u w (hx, hy) hu hw = record {
  x_within = record { low = omega (arith, lin, pos_times (2 ^ 140) x, hx.low, hu.low); high = omega (arith, lin, pos_times (2 ^ 140) x, hx.high, hu.high) };
  y_within = record { low = omega (arith, lin, pos_times (2 ^ 140) y, hy.low, hw.low); high = omega (arith, lin, pos_times (2 ^ 140) y, hy.high, hw.high) };
}

pub ray_x_within : (b : Bool) → IsWithin (2 ^ 30) (ray_x b)
ray_x_within true = record { low = omega (arith, lin); high = omega (arith, lin) }
ray_x_within false = record { low = omega (arith, lin); high = omega (arith, lin) }

pub ray_y_within : (b : Bool) → IsWithin (2 ^ 30) (ray_y b)
ray_y_within true = record { low = omega (arith, lin); high = omega (arith, lin) }
ray_y_within false = record { low = omega (arith, lin); high = omega (arith, lin) }
