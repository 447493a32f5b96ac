-- A half-edge has one next, and is the next of one.
use mathlib.Core.List.{List}
use Rattle.std.proofs.Common.{◌≡◌, refl, sym, ◌∙◌, ap, subst, Bool, true, false, cond, ◌&&◌, ◌||◌, inl, inr}
use Rattle.cov_types.specs.declared.seg.Seg.{Seg}
use Rattle.sector_laws.specs.Sector.{HalfEdge, target, twin, is_before_by_angle, is_in_sector, Leaves, IsNext, IsPlanar}
use Rattle.sector_laws.proofs.Angles.{not_in_less, not_in_rest, true_or_false, not_both}
use Rattle.sector_laws.proofs.Order.{one_or_before}
use Rattle.sector_laws.proofs.Sectors.{twin_leaves}

-- ---- of two that come one before the other, one is in the sector that ends, or begins, at the other

in_less : (g a k : HalfEdge) → is_before_by_angle g a ≡ true → is_before_by_angle g k ≡ true → is_before_by_angle k a ≡ true → is_in_sector g a k ≡ true
in_less g a k before first second = λ i. cond (before i) (first i && second i) (is_before_by_angle g k || is_before_by_angle k a)

-- g before k: one of them is in the sector of the other and a
one_inside : (g k a : HalfEdge) → is_before_by_angle g k ≡ true → is_in_sector g a k ≡ false → is_in_sector k a g ≡ false → ⊥
one_inside g k a before out_k out_g =
    elim (true_or_false (is_before_by_angle g a)) [
      | inl less ↦ elim (not_in_less g a k less out_k) [
        | inl h ↦ not_both before h
        | inr not_k ↦ not_both less (not_in_rest k a g not_k out_g).1
      ]
      | inr rest ↦ not_both before (not_in_rest g a k rest out_k).0
    ]

-- a before c: one of them is in the sector from g to the other
one_reached : (a c g : HalfEdge) → is_before_by_angle a c ≡ true → is_in_sector g c a ≡ false → is_in_sector g a c ≡ false → ⊥
one_reached a c g before out_a out_c =
    elim (true_or_false (is_before_by_angle g c)) [
      | inl less ↦ elim (not_in_less g c a less out_a) [
        | inl not_a ↦ not_both less (not_in_rest g a c not_a out_c).0
        | inr h ↦ not_both before h
      ]
      | inr rest ↦ not_both before (not_in_rest g c a rest out_a).1
    ]

-- ---- the next

pub twin-twin : (h : HalfEdge) → twin (twin h) ≡ h
twin-twin h = by_direction h.edge h.forwards
  where
    by_direction : (e : Seg) (b : Bool) → twin (twin (record { edge = e; forwards = b })) ≡ record { edge = e; forwards = b }
    by_direction e true = refl
    by_direction e false = refl

module _ (edges : List Seg) (planar : IsPlanar edges) where
  pub one_next : (h g k : HalfEdge) → IsNext edges h g → IsNext edges h k → g ≡ k
  one_next h g k next_g next_k =
      elim (one_or_before edges planar (target h) g k next_g.leaves next_k.leaves) [
        | inl same ↦ same
        | inr apart ↦ elim apart [
          | inl before ↦ absurd (one_inside g k (twin h) before (next_g.none_inside k next_k.leaves) (next_k.none_inside g next_g.leaves))
          | inr after ↦ absurd (one_inside k g (twin h) after (next_k.none_inside g next_g.leaves) (next_g.none_inside k next_k.leaves))
        ]
      ]

  pub next_of_one : (h k g : HalfEdge) → IsNext edges h g → IsNext edges k g → h ≡ k
  next_of_one h k g next_h next_k =
      let v = target h in
      let one : target k ≡ v = sym next_k.leaves.from ∙ next_h.leaves.from in
      let at_h = twin_leaves edges planar h next_h.among in
      let at_k = subst (λ o. Leaves edges o (twin k)) one (twin_leaves edges planar k next_k.among) in
      let out_h = next_k.none_inside (twin h) (subst (λ o. Leaves edges o (twin h)) (sym one) at_h) in
      let out_k = next_h.none_inside (twin k) at_k in
      elim (one_or_before edges planar v (twin h) (twin k) at_h at_k) [
        | inl same ↦ sym (twin-twin h) ∙ ap twin same ∙ twin-twin k
        | inr apart ↦ elim apart [
          | inl before ↦ absurd (one_reached (twin h) (twin k) g before out_h out_k)
          | inr after ↦ absurd (one_reached (twin k) (twin h) g after out_k out_h)
        ]
      ]
