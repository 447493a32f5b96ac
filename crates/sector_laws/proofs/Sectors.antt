-- The side points on the left of a half-edge and of the next one are joined.
use mathlib.Core.List.{List}
use Rattle.std.proofs.Common.{◌≡◌, refl, sym, ◌∙◌, subst, Bool, true, false, not, Contains, pos, negsuc, neg_ℤ, inl, inr}
use Rattle.cov_types.specs.declared.coord.Coord.{Coord}
use Rattle.cov_types.specs.declared.seg.Seg.{Seg}
use Rattle.plane.specs.Segment.{upper, lower}
use Rattle.plane.specs.Joined.{IsClear, Joined}
use Rattle.plane.proofs.Sweeps.{rises-in_range}
use Rattle.crossing_laws.proofs.Ways.{joined-trans, joined_by_clear}
use Rattle.sector_laws.specs.Sector.{HalfEdge, origin, target, left, twin, is_left_of, is_before_by_angle, is_in_sector, Leaves, IsNext, IsPlanar}
use Rattle.sector_laws.proofs.Near.{near}
use Rattle.sector_laws.proofs.Leaving.{ray_x, ray_y, edge_in_range}
use Rattle.sector_laws.proofs.Turns.{left_end, right_end, leaves_end, to_ray, from_ray, in_half, to_ahead, from_ahead}
use Rattle.sector_laws.proofs.Sliver.{sliver_clear, upper_in_sliver, lower_in_sliver}
use Rattle.sector_laws.proofs.Ends.{near_lo_in_sliver, near_hi_in_sliver}
use Rattle.sector_laws.proofs.Angles.{before_in_half, before_back, not_before_forwards, not_in_less, not_in_rest, true_or_false, not_both}

module _ (edges : List Seg) (planar : IsPlanar edges) (v : Coord) where
  -- ---- from the right of a half-edge clockwise to the left of another, where none is in their sector

  -- through the ray, or both rays
  over_ray : (b : Bool) (a g : HalfEdge) → Leaves edges v a → Leaves edges v g → a.forwards ≡ b → g.forwards ≡ not b
      → ((k : HalfEdge) → Leaves edges v k → k.forwards ≡ b → is_left_of a k ≡ false)
      → ((k : HalfEdge) → Leaves edges v k → k.forwards ≡ not b → is_left_of k g ≡ false)
      → near v (neg_ℤ (ray_x b)) (neg_ℤ (ray_y b)) ≡ near v (ray_x (not b)) (ray_y (not b))
      → Joined edges (right_end v b a) (left_end v (not b) g)
  over_ray b a g at_a at_g same_a same_g last first one =
      joined-trans edges (right_end v b a) (near v (neg_ℤ (ray_x b)) (neg_ℤ (ray_y b))) (left_end v (not b) g)
      (joined_by_clear edges _ _ (to_ray edges planar v b a at_a same_a last))
      (joined_by_clear edges _ _ (subst (λ p. IsClear edges p (left_end v (not b) g)) (sym one) (from_ray edges planar v (not b) g at_g same_g first)))

  round : (b : Bool) (a g : HalfEdge) → Leaves edges v a → Leaves edges v g → a.forwards ≡ b → g.forwards ≡ b
      → ((k : HalfEdge) → Leaves edges v k → k.forwards ≡ b → is_left_of a k ≡ false)
      → ((k : HalfEdge) → Leaves edges v k → k.forwards ≡ b → is_left_of k g ≡ false)
      → ((k : HalfEdge) → Leaves edges v k → k.forwards ≡ not (not b))
      → near v (neg_ℤ (ray_x b)) (neg_ℤ (ray_y b)) ≡ near v (ray_x (not b)) (ray_y (not b))
      → near v (neg_ℤ (ray_x (not b))) (neg_ℤ (ray_y (not b))) ≡ near v (ray_x b) (ray_y b)
      → Joined edges (right_end v b a) (left_end v b g)
  round b a g at_a at_g same_a same_g last first half one two =
      let ahead = near v (ray_y (not b)) (neg_ℤ (ray_x (not b))) in
      let ends = leaves_end edges v a at_a in
      joined-trans edges (right_end v b a) (near v (neg_ℤ (ray_x b)) (neg_ℤ (ray_y b))) (left_end v b g)
      (joined_by_clear edges _ _ (to_ray edges planar v b a at_a same_a last))
      (joined-trans edges (near v (neg_ℤ (ray_x b)) (neg_ℤ (ray_y b))) ahead (left_end v b g)
      (joined_by_clear edges _ _ (subst (λ p. IsClear edges p ahead) (sym one) (to_ahead edges planar v (not b) a.edge at_a.among ends half)))
      (joined-trans edges ahead (near v (ray_x b) (ray_y b)) (left_end v b g)
      (joined_by_clear edges _ _ (subst (λ p. IsClear edges ahead p) two (from_ahead edges planar v (not b) a.edge at_a.among ends half)))
      (joined_by_clear edges _ _ (from_ray edges planar v b g at_g same_g first))))

  -- over the halves of the two
  by_halves : (p q : Bool) (a g : HalfEdge) → Leaves edges v a → Leaves edges v g → a.forwards ≡ p → g.forwards ≡ q
      → ((k : HalfEdge) → Leaves edges v k → is_in_sector g a k ≡ false) → Joined edges (right_end v p a) (left_end v q g)
  by_halves true true a g at_a at_g same_a same_g none =
      elim (true_or_false (is_before_by_angle g a)) [
        | inl before ↦
            joined_by_clear edges _ _ (in_half edges planar v true a g at_a at_g same_a same_g (sym (before_in_half true g a same_g same_a) ∙ before)
            (λ k at same. elim (not_in_less g a k before (none k at)) [
              | inl h ↦ inl (sym (before_in_half true g k same_g same) ∙ h)
              | inr h ↦ inr (sym (before_in_half true k a same same_a) ∙ h)
            ]))
        | inr rest ↦
            round true a g at_a at_g same_a same_g
            (λ k at same. sym (before_in_half true k a same same_a) ∙ (not_in_rest g a k rest (none k at)).1)
            (λ k at same. sym (before_in_half true g k same_g same) ∙ (not_in_rest g a k rest (none k at)).0)
            (λ k at. elim (true_or_false k.forwards) [
              | inl forwards ↦ forwards
              | inr back ↦ absurd (not_both (before_back g k same_g back) (not_in_rest g a k rest (none k at)).0)
            ]) refl refl
      ]
  by_halves false false a g at_a at_g same_a same_g none =
      elim (true_or_false (is_before_by_angle g a)) [
        | inl before ↦
            joined_by_clear edges _ _ (in_half edges planar v false a g at_a at_g same_a same_g (sym (before_in_half false g a same_g same_a) ∙ before)
            (λ k at same. elim (not_in_less g a k before (none k at)) [
              | inl h ↦ inl (sym (before_in_half false g k same_g same) ∙ h)
              | inr h ↦ inr (sym (before_in_half false k a same same_a) ∙ h)
            ]))
        | inr rest ↦
            round false a g at_a at_g same_a same_g
            (λ k at same. sym (before_in_half false k a same same_a) ∙ (not_in_rest g a k rest (none k at)).1)
            (λ k at same. sym (before_in_half false g k same_g same) ∙ (not_in_rest g a k rest (none k at)).0)
            (λ k at. elim (true_or_false k.forwards) [
              | inl forwards ↦ absurd (not_both (before_back k a forwards same_a) (not_in_rest g a k rest (none k at)).1)
              | inr back ↦ back
            ]) refl refl
      ]
  by_halves true false a g at_a at_g same_a same_g none =
      let rest = not_before_forwards g a same_g same_a in
      over_ray true a g at_a at_g same_a same_g
      (λ k at same. sym (before_in_half true k a same same_a) ∙ (not_in_rest g a k rest (none k at)).1)
      (λ k at same. sym (before_in_half false g k same_g same) ∙ (not_in_rest g a k rest (none k at)).0) refl
  by_halves false true a g at_a at_g same_a same_g none =
      let before = before_back g a same_g same_a in
      over_ray false a g at_a at_g same_a same_g
      (λ k at same. elim (not_in_less g a k before (none k at)) [
        | inl h ↦ absurd (not_both (before_back g k same_g same) h)
        | inr h ↦ sym (before_in_half false k a same same_a) ∙ h
      ])
      (λ k at same. elim (not_in_less g a k before (none k at)) [
        | inl h ↦ sym (before_in_half true g k same_g same) ∙ h
        | inr h ↦ absurd (not_both (before_back k a same same_a) h)
      ]) refl

  pub sector_joined : (a g : HalfEdge) → Leaves edges v a → Leaves edges v g → ((k : HalfEdge) → Leaves edges v k → is_in_sector g a k ≡ false)
      → Joined edges (right_end v a.forwards a) (left_end v g.forwards g)
  sector_joined a g at_a at_g none = by_halves a.forwards g.forwards a g at_a at_g refl refl none

-- ---- along the edges

module _ (edges : List Seg) (planar : IsPlanar edges) where
  -- from the middle of a half-edge, on its left, to where it ends
  arrival : (e : Seg) (b : Bool) → Contains edges e → let h : HalfEdge = record { edge = e; forwards = b } in IsClear edges (left h) (right_end (target h) (not b) (twin h))
  arrival e true c =
      let up = rises-in_range e (edge_in_range edges planar e.hi e c) in
      sliver_clear (pos 1) e edges (upper e) _ (edge_in_range edges planar e.hi) planar.noded c (upper_in_sliver e up)
      (near_hi_in_sliver (pos 1) e (neg_ℤ (ray_x false)) (neg_ℤ (ray_y false)) up refl refl refl)
  arrival e false c =
      let up = rises-in_range e (edge_in_range edges planar e.lo e c) in
      sliver_clear (negsuc 0) e edges (lower e) _ (edge_in_range edges planar e.lo) planar.noded c (lower_in_sliver e up)
      (near_lo_in_sliver (negsuc 0) e (neg_ℤ (ray_x true)) (neg_ℤ (ray_y true)) up refl refl refl)

  -- and from where it begins to its middle
  departure : (e : Seg) (b : Bool) → Contains edges e → let h : HalfEdge = record { edge = e; forwards = b } in IsClear edges (left_end (origin h) b h) (left h)
  departure e true c =
      let up = rises-in_range e (edge_in_range edges planar e.lo e c) in
      sliver_clear (pos 1) e edges _ (upper e) (edge_in_range edges planar e.lo) planar.noded c
      (near_lo_in_sliver (pos 1) e (ray_x true) (ray_y true) up refl refl refl) (upper_in_sliver e up)
  departure e false c =
      let up = rises-in_range e (edge_in_range edges planar e.hi e c) in
      sliver_clear (negsuc 0) e edges _ (lower e) (edge_in_range edges planar e.hi) planar.noded c
      (near_hi_in_sliver (negsuc 0) e (ray_x false) (ray_y false) up refl refl refl) (lower_in_sliver e up)

  -- the twin leaves where the half-edge ends
  pub twin_leaves : (h : HalfEdge) → Contains edges h.edge → Leaves edges (target h) (twin h)
  twin_leaves h c = record { among = c; from = turned h.edge h.forwards }
    where
      turned : (e : Seg) (b : Bool) → origin (record { edge = e; forwards = not b }) ≡ target (record { edge = e; forwards = b })
      turned e true = refl
      turned e false = refl

  -- the side points on the left of a half-edge and of the next one are joined
  pub next_joined : (h g : HalfEdge) → IsNext edges h g → Joined edges (left h) (left g)
  next_joined h g next =
      let v = target h in
      let start = right_end v (twin h).forwards (twin h) in
      let end = left_end v g.forwards g in
      joined-trans edges (left h) start (left g)
      (joined_by_clear edges (left h) start (arrival h.edge h.forwards next.among))
      (joined-trans edges start end (left g)
      (sector_joined edges planar v (twin h) g (twin_leaves h next.among) next.leaves next.none_inside)
      (joined_by_clear edges end (left g) (subst (λ o. IsClear edges (left_end o g.forwards g) (left g)) next.leaves.from (departure g.edge g.forwards next.leaves.among))))
