-- Neighbours in the fan of a vertex: each follows the twin of the one after it.
use mathlib.Core.List.{List}
use Rattle.std.proofs.Common.{◌≡◌, refl, sym, ◌∙◌, ap, subst, ℕ, ◌+◌, ◌-◌, ◌<◌, Bool, true, false, cond, ◌&&◌, ◌||◌, length, get_or, Some, slice_get, inl, inr, ◌⊎◌, arith}
use Rattle.std.proofs.lemmas.Bool.{cases_eq, cases_lt}
use Rattle.std.proofs.lemmas.Option.{slice_get_within, slice_get-get_or, get_or_from_slice_get}
use Rattle.cov_types.specs.declared.coord.Coord.{Coord}
use Rattle.cov_types.specs.declared.seg.Seg.{Seg}
use Rattle.sector_laws.specs.Sector.{HalfEdge, origin, target, twin, is_before_by_angle, is_in_sector, Leaves, IsNext, IsFan, IsPlanar}
use Rattle.sector_laws.proofs.Order.{before-asymm}
use Rattle.sector_laws.proofs.Next.{twin-twin}
use Rattle.sector_laws.proofs.Exists.{before-irrefl}

out_of_less : (g a k : HalfEdge) → is_before_by_angle g a ≡ true → (is_before_by_angle g k ≡ false) ⊎ (is_before_by_angle k a ≡ false) → is_in_sector g a k ≡ false
out_of_less g a k less out =
    (λ i. cond (less i) (is_before_by_angle g k && is_before_by_angle k a) (is_before_by_angle g k || is_before_by_angle k a))
    ∙ elim out [
      | inl h ↦ ap (λ t. t && is_before_by_angle k a) h
      | inr h ↦ ap (λ t. is_before_by_angle g k && t) h ∙ and_false (is_before_by_angle g k)
    ]
  where
    and_false : (b : Bool) → (b && false) ≡ false
    and_false true = refl
    and_false false = refl

out_of_rest : (g a k : HalfEdge) → is_before_by_angle g a ≡ false → is_before_by_angle g k ≡ false → is_before_by_angle k a ≡ false → is_in_sector g a k ≡ false
out_of_rest g a k rest first second =
    (λ i. cond (rest i) (is_before_by_angle g k && is_before_by_angle k a) (is_before_by_angle g k || is_before_by_angle k a)) ∙ (λ i. first i || second i)

twin_target : (a : HalfEdge) → target (twin a) ≡ origin a
twin_target a = by_direction a.edge a.forwards
  where
    by_direction : (e : Seg) (b : Bool) → target (twin (record { edge = e; forwards = b })) ≡ origin (record { edge = e; forwards = b })
    by_direction e true = refl
    by_direction e false = refl

module _ (edges : List Seg) (planar : IsPlanar edges) (v : Coord) (fan : List HalfEdge) (is_fan : IsFan edges v fan) where
  leaves_at : (i : ℕ) (h : HalfEdge) → slice_get fan i ≡ Some h → Leaves edges v h
  leaves_at i h at = (is_fan.members h).0 (i, slice_get_within fan i h at, get_or_from_slice_get fan i h h at)

  before_at : (i j : ℕ) (h g : HalfEdge) → i < j → slice_get fan i ≡ Some h → slice_get fan j ≡ Some g → is_before_by_angle h g ≡ true
  before_at i j h g lt at_h at_g =
      let first = get_or_from_slice_get fan i h h at_h in
      let second = get_or_from_slice_get fan j g h at_g in
      subst (λ x. is_before_by_angle x g ≡ true) first (subst (λ x. is_before_by_angle (get_or fan i h) x ≡ true) second (is_fan.in_order i j h lt (slice_get_within fan j g at_g)))

  -- what stands at a place, or before it, does not come after
  not_after : (i j : ℕ) (h g : HalfEdge) → i < j + 1 → slice_get fan i ≡ Some h → slice_get fan j ≡ Some g → is_before_by_angle g h ≡ false
  not_after i j h g le at_h at_g =
      elim (cases_eq i j) [
        | inl same ↦ (
            let one : h ≡ g = sym (get_or_from_slice_get fan i h h at_h) ∙ ap (λ n. get_or fan n h) same ∙ get_or_from_slice_get fan j g h at_g in
            subst (λ x. is_before_by_angle g x ≡ false) (sym one) (before-irrefl edges planar v g (leaves_at j g at_g))
            )
        | inr apart ↦ before-asymm edges planar v h g (leaves_at i h at_h) (leaves_at j g at_g) (before_at i j h g (omega arith) at_h at_g)
      ]

  -- each half-edge that leaves has a place
  place_of : (k : HalfEdge) → Leaves edges v k → (i : ℕ) × (i < length fan) × (slice_get fan i ≡ Some k)
  place_of k at = (let (i, below, is) = (is_fan.members k).1 at in (i, below, slice_get-get_or fan i k below ∙ ap Some is))

  follows : (g a : HalfEdge) → Leaves edges v g → Leaves edges v a → ((k : HalfEdge) → Leaves edges v k → is_in_sector g a k ≡ false) → IsNext edges (twin a) g
  follows g a at_g at_a none =
      let ends : target (twin a) ≡ v = twin_target a ∙ at_a.from in
      record {
        among = at_a.among;
        leaves = subst (λ o. Leaves edges o g) (sym ends) at_g;
        none_inside = λ k at. subst (λ b. is_in_sector g b k ≡ false) (sym (twin-twin a)) (none k (subst (λ o. Leaves edges o k) ends at));
      }

  pub fan_next : (i : ℕ) (g a : HalfEdge) → slice_get fan i ≡ Some g → slice_get fan (i + 1) ≡ Some a → IsNext edges (twin a) g
  fan_next i g a at_g at_a =
      follows g a (leaves_at i g at_g) (leaves_at (i + 1) a at_a)
      (λ k at.
      let (j, below, at_k) = place_of k at in
      out_of_less g a k (before_at i (i + 1) g a (omega arith) at_g at_a)
      (elim (cases_lt j (i + 1)) [
        | inl early ↦ inl (not_after j i k g early at_k at_g)
        | inr late ↦ inr (not_after (i + 1) j a k (omega arith) at_a at_k)
      ]))

  pub fan_round : (g a : HalfEdge) → slice_get fan (length fan - 1) ≡ Some g → slice_get fan 0 ≡ Some a → IsNext edges (twin a) g
  fan_round g a at_g at_a =
      follows g a (leaves_at (length fan - 1) g at_g) (leaves_at 0 a at_a)
      (λ k at.
      let (j, below, at_k) = place_of k at in
      out_of_rest g a k (not_after 0 (length fan - 1) a g (omega arith) at_a at_g) (not_after j (length fan - 1) k g (omega arith) at_k at_g)
      (not_after 0 j a k (omega arith) at_a at_k))
