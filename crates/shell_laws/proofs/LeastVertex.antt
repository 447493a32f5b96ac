-- At the least vertex of a ring the way straight down is outside: the order of its two half-edges there tells the shell.
use mathlib.Core.List.{[], ◌∷◌}
use Rattle.std.proofs.Common.{◌≡◌, ◌⊎◌, refl, sym, ◌∙◌, ap, subst, Bool, true, false, not, ◌||◌, cond, List, ◌++◌, IsTrue, pos, ◌+ℤ◌, inl, inr, arith}
use Rattle.std.specs.Prelude.{Contains, All}
use Rattle.std.proofs.lemmas.Bool.{false≢true}
use Rattle.std.proofs.lemmas.List.Elements.{All-contains}
use Rattle.cov_types.specs.declared.coord.Coord.{Coord}
use Rattle.cov_types.specs.declared.seg.Seg.{Seg}
use Rattle.cov_types.specs.Coord.{is_before}
use Rattle.cov_types.proofs.Order.{is_before-irrefl, is_before-asymm}
use Rattle.plane.specs.Point.{at_coord}
use Rattle.plane.specs.Region.{IsOuter}
use Rattle.crossing_laws.proofs.Lists.{contains_here, contains_there, contains-map}
use Rattle.sector_laws.specs.Sector.{HalfEdge, origin, target, left, twin, is_before_by_angle, is_in_sector, Leaves, IsNext, IsPlanar}
use Rattle.sector_laws.proofs.Angles.{true_or_false}
use Rattle.sector_laws.proofs.Exists.{before-irrefl}
use Rattle.sector_laws.proofs.Next.{twin-twin}
use Rattle.sector_laws.proofs.Order.{before-asymm}
use Rattle.region_laws.specs.Below.{HasNoneBelow}
use Rattle.region_laws.specs.Linked.{LeavesOverRay}
use Rattle.region_laws.proofs.Balance.{first_or_later}
use Rattle.region_laws.proofs.Links.{link_out}
use Rattle.region_laws.proofs.Nearest.{nearest_or_none}
use Rattle.region_laws.proofs.Outwards.{below_earlier}
use Rattle.shell_laws.specs.Part.{IsPartTest, part_boundary, AreTurns}
use Rattle.shell_laws.specs.Ring.{way_edges, IsRingRound, ring_holds, last_of}
use Rattle.shell_laws.proofs.Simple.{by_direction, twin_from, twin_to, meets}
use Rattle.shell_laws.proofs.Winding.{holds_none, holds_one}
use Rattle.shell_laws.proofs.OneRing.{way_has, same_edge, planar_own, far, inner_step, own_count}

-- ---- ways

-- each half-edge of a way is the last, or one begins where it ends
follows : (boundary : List Seg) (h : HalfEdge) (rest : List HalfEdge) (end : HalfEdge) → AreTurns boundary (h ∷ (rest ++ end ∷ [])) → (m : HalfEdge) → Contains (h ∷ rest) m
    → (m ≡ last_of h rest) ⊎ ((n : HalfEdge) × (Contains rest n × (target m ≡ origin n)))
follows boundary h [] end turns m has = elim (first_or_later h [] m has) [
  | inl here ↦ inl (sym here)
  | inr later ↦ absurd (omega (arith, later.1))
]
follows boundary h (k ∷ ks) end turns m has = elim (first_or_later h (k ∷ ks) m has) [
  | inl here ↦ inr (k, (contains_here k ks, ap target (sym here) ∙ meets boundary h k turns.0))
  | inr later ↦ elim (follows boundary k ks end turns.1 m later) [
    | inl last ↦ inl last
    | inr next ↦ inr (next.0, (contains_there k next.0 ks next.1.0, next.1.1))
  ]
]

last_meets : (boundary : List Seg) (h : HalfEdge) (rest : List HalfEdge) (end : HalfEdge) → AreTurns boundary (h ∷ (rest ++ end ∷ [])) → target (last_of h rest) ≡ origin end
last_meets boundary h [] end turns = meets boundary h end turns.0
last_meets boundary h (k ∷ ks) end turns = last_meets boundary k ks end turns.1

last_in : (h : HalfEdge) (rest : List HalfEdge) → Contains (h ∷ rest) (last_of h rest)
last_in h [] = contains_here h []
last_in h (k ∷ ks) = contains_there h (last_of k ks) (k ∷ ks) (last_in k ks)

lo_end : (m : HalfEdge) → (m.edge.lo ≡ origin m) ⊎ (m.edge.lo ≡ target m)
lo_end = by_direction (λ m. (m.edge.lo ≡ origin m) ⊎ (m.edge.lo ≡ target m)) (λ e. inl refl) (λ e. inr refl)

none_in : (x y z w : Bool) → x ≡ false → y ≡ false → z ≡ false → cond x w (y || z) ≡ false
none_in true y z w h k l = absurd (false≢true (sym h))
none_in false true z w h k l = absurd (false≢true (sym k))
none_in false false z w h k l = l

-- ---- a ring that begins at its least vertex

module _ (edges : List Seg) (planar : IsPlanar edges) (passes : HalfEdge → Bool) (part : IsPartTest edges passes) (h : HalfEdge) (rest : List HalfEdge) (is : IsRingRound edges passes (h ∷ rest))
    (least : All (λ k. IsTrue (is_before (origin h) (origin k))) rest) where
  abbrev ring : List HalfEdge
  ring = h ∷ rest

  abbrev own : List Seg
  own = way_edges ring

  abbrev v : Coord
  v = origin h

  -- the last half-edge, and the way back along it
  abbrev last : HalfEdge
  last = last_of h rest

  abbrev back : HalfEdge
  back = twin last

  flat : IsPlanar own
  flat = planar_own edges planar passes part ring is

  at_h : Leaves own v h
  at_h = record { among = contains_here h.edge (way_edges rest); from = refl }

  at_back : Leaves own v back
  at_back = record {
    among = contains-map (λ (x : HalfEdge). x.edge) ring last (last_in h rest);
    from = twin_from last ∙ last_meets (part_boundary edges passes) h rest h is.closed;
  }

  not_again : (n : HalfEdge) → Contains rest n → origin n ≡ v → ⊥
  not_again n has same = false≢true (sym (is_before-irrefl v) ∙ subst (λ c. is_before v c ≡ true) same (All-contains (λ k. IsTrue (is_before v (origin k))) rest n least has))

  -- only these two leave it
  only : (k : HalfEdge) → Leaves own v k → (k ≡ h) ⊎ (k ≡ back)
  only k at =
      let found = way_has ring k.edge at.among in
      let m = found.0 in
      elim (same_edge m k found.1.1) [
        | inl one ↦ elim (first_or_later h rest m found.1.0) [
          | inl here ↦ inl (one ∙ sym here)
          | inr later ↦ absurd (not_again m later (ap origin (sym one) ∙ at.from))
        ]
        | inr other ↦ elim (follows (part_boundary edges passes) h rest h is.closed m found.1.0) [
          | inl at_last ↦ inr (other ∙ ap twin at_last)
          | inr next ↦ absurd (not_again next.0 next.1.0 (sym next.1.1 ∙ sym (twin_from m) ∙ ap origin (sym other) ∙ at.from))
        ]
      ]

  -- no vertex is before it
  none_earlier : (c : Coord) → (c ≡ v) ⊎ ((n : HalfEdge) × (Contains rest n × (c ≡ origin n))) → IsTrue (is_before c v) → ⊥
  none_earlier c (inl same) before = false≢true (sym (is_before-irrefl v) ∙ subst (λ x. is_before x v ≡ true) same before)
  none_earlier c (inr later) before =
      let after = All-contains (λ k. IsTrue (is_before v (origin k))) rest later.0 least later.1.0 in
      false≢true (sym (is_before-asymm v (origin later.0) after) ∙ subst (λ x. is_before x v ≡ true) later.1.1 before)

  begins : (m : HalfEdge) → Contains ring m → (origin m ≡ v) ⊎ ((n : HalfEdge) × (Contains rest n × (origin m ≡ origin n)))
  begins m has = elim (first_or_later h rest m has) [ inl here ↦ inl (ap origin (sym here)) | inr later ↦ inr (m, (later, refl)) ]

  ends : (m : HalfEdge) → Contains ring m → (target m ≡ v) ⊎ ((n : HalfEdge) × (Contains rest n × (target m ≡ origin n)))
  ends m has = elim (follows (part_boundary edges passes) h rest h is.closed m has) [
    | inl at_last ↦ inl (ap target at_last ∙ last_meets (part_boundary edges passes) h rest h is.closed)
    | inr next ↦ inr next
  ]

  lo_not_earlier : (e : Seg) → Contains own e → IsTrue (is_before e.lo v) → ⊥
  lo_not_earlier e has before =
      let found = way_has ring e has in
      let m = found.0 in
      let here : IsTrue (is_before m.edge.lo v) = subst (λ (x : Seg). is_before x.lo v ≡ true) (sym found.1.1) before in
      elim (lo_end m) [
        | inl from ↦ none_earlier (origin m) (begins m found.1.0) (subst (λ x. is_before x v ≡ true) from here)
        | inr to ↦ none_earlier (target m) (ends m found.1.0) (subst (λ x. is_before x v ≡ true) to here)
      ]

  none_below : HasNoneBelow own (at_coord v)
  none_below = elim (nearest_or_none own flat (at_coord v)) [
    | inl found ↦ absurd (lo_not_earlier found.0 found.1.below.among (below_earlier own flat v h at_h found.0 found.1))
    | inr none ↦ none
  ]

  -- of the two, the left of the one that is last by angle is outside
  last_outer : (g a : HalfEdge) → Leaves own v g → Leaves own v a → ((k : HalfEdge) → Leaves own v k → (k ≡ g) ⊎ (k ≡ a)) → is_before_by_angle g a ≡ false → IsOuter own (left g)
  last_outer g a at_g at_a two after = link_out own flat v g over none_below
    where
      to_v : target (twin a) ≡ v
      to_v = twin_to a ∙ at_a.from

      outside : (k : HalfEdge) → (k ≡ g) ⊎ (k ≡ a) → is_in_sector g a k ≡ false
      outside k (inl same) = ap (λ x. is_in_sector g a x) same ∙ none_in (is_before_by_angle g a) (is_before_by_angle g g) (is_before_by_angle g a) _ after (before-irrefl own flat v g at_g) after
      outside k (inr same) = ap (λ x. is_in_sector g a x) same ∙ none_in (is_before_by_angle g a) (is_before_by_angle g a) (is_before_by_angle a a) _ after after (before-irrefl own flat v a at_a)

      next : IsNext own (twin a) g
      next = record {
        among = at_a.among;
        leaves = record { among = at_g.among; from = at_g.from ∙ sym to_v };
        none_inside = λ k at. ap (λ x. is_in_sector g x k) (twin-twin a) ∙ outside k (two k (record { among = at.among; from = at.from ∙ to_v }));
      }

      over : LeavesOverRay own v g
      over = record { before = twin a; over = record { follows = next; past_down = ap (λ x. is_before_by_angle g x) (twin-twin a) ∙ after }; from = at_g.from }

  swapped : (k : HalfEdge) → Leaves own v k → (k ≡ back) ⊎ (k ≡ h)
  swapped k at = elim (only k at) [ inl one ↦ inr one | inr other ↦ inl other ]

  pub told_at_least : (g : HalfEdge) → Contains edges g.edge → passes g ≡ true → ring_holds ring (left g) ≡ not (is_before_by_angle back h)
  told_at_least g in_g pass_g = elim (true_or_false (is_before_by_angle back h)) [
    | inl before ↦ (
        let out = far edges planar passes part ring is (left h) (last_outer h back at_h at_back only (before-asymm own flat v back h at_back at_h before)) in
        let count = own_count edges planar passes part ring is g in_g pass_g h (contains_here h rest) in
        holds_none ring (left g) (sym count ∙ out) ∙ sym (ap not before)
        )
    | inr after ↦ (
        let out = far edges planar passes part ring is (left back) (last_outer back h at_back at_h swapped after) in
        let step = inner_step edges planar passes part ring is last (last_in h rest) in
        let count = own_count edges planar passes part ring is g in_g pass_g last (last_in h rest) in
        holds_one ring (left g) (inl (sym count ∙ step ∙ ap (λ n. n +ℤ pos 1) out)) ∙ sym (ap not after)
        )
  ]
