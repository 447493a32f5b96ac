-- Joined sides have one number, for the numbers of a walk, and so for any numbers that links keep.
use mathlib.Core.List.{List, [], ◌∷◌}
use Rattle.std.proofs.Common.{◌≡◌, refl, sym, ◌∙◌, ap, subst, ℕ, zero, suc, ◌==◌, Bool, true, false, true≢false, cond, IsTrue, Contains, ◌⊎◌, inl, inr, arith}
use Rattle.std.proofs.lemmas.Option.{none-some, same_Some}
use Rattle.std.proofs.lemmas.Bool.Decides.{nat_tests}
use Rattle.cov_types.specs.declared.coord.Coord.{Coord}
use Rattle.cov_types.specs.declared.seg.Seg.{Seg}
use Rattle.cov_types.specs.Coord.{is_before}
use Rattle.cov_types.proofs.Equal.{Decides-same_segs}
use Rattle.plane.specs.Point.{Point}
use Rattle.plane.specs.Joined.{Joined}
use Rattle.plane.specs.Region.{IsSide, IsOuter}
use Rattle.crossing_laws.specs.Across.{is_same_seg}
use Rattle.crossing_laws.proofs.Lists.{contains_here, contains_there}
use Rattle.sector_laws.specs.Sector.{HalfEdge, left, IsHalfEdge, AreDistinct, IsPlanar}
use Rattle.sector_laws.proofs.Numbers.{one_number, half_edge_among, half_edge_side}
use Rattle.sector_laws.proofs.Angles.{true_or_false}
use Rattle.region_laws.specs.Laws.{AreNoLater, AreSideRegions}
use Rattle.region_laws.specs.Linked.{LeavesOverRay, IsLinked, IsWalk}
use Rattle.region_laws.proofs.Balance.{first_or_later}
use Rattle.region_laws.proofs.Outwards.{HasWayOut, some_out}
use Rattle.region_laws.proofs.Kept.{PassesEarlier, PassesDown, IsWalkTest, walk_test_joined, walk_test_outer}

-- ---- the number of a half-edge, and the half-edge of a side

pub index : List Seg → HalfEdge → ℕ
index [] h = 0
index (e ∷ es) h = cond (is_same_seg e h.edge) (cond h.forwards 0 1) (suc (suc (index es h)))

pub index_is : (edges : List Seg) (h : HalfEdge) → Contains edges h.edge → IsHalfEdge edges (index edges h) h
unfolding index
index_is [] h c = absurd (omega (arith, c.1))
index_is (e ∷ es) h c =
    elim (true_or_false (is_same_seg e h.edge)) [
      | inl same ↦
          subst (λ n. IsHalfEdge (e ∷ es) n h) (sym (ap (λ t. cond t (cond h.forwards 0 1) (suc (suc (index es h)))) same))
          (subst (λ f. IsHalfEdge (e ∷ es) (cond h.forwards 0 1) (record { edge = f; forwards = h.forwards })) ((Decides-same_segs e h.edge).0 same) (by_direction h.forwards))
      | inr other ↦
          subst (λ n. IsHalfEdge (e ∷ es) n h) (sym (ap (λ t. cond t (cond h.forwards 0 1) (suc (suc (index es h)))) other))
          (index_is es h (elim (first_or_later e es h.edge c) [
            | inl here ↦ absurd (true≢false (sym ((Decides-same_segs e h.edge).1 here) ∙ other))
            | inr later ↦ later
          ]))
    ]
  where
    by_direction : (b : Bool) → IsHalfEdge (e ∷ es) (cond b 0 1) (record { edge = e; forwards = b })
    by_direction true = refl
    by_direction false = refl

pub record IsOfSide (edges : List Seg) (n : ℕ) (p : Point) (h : HalfEdge) : Type 0 where
  pub among : Contains edges h.edge
  pub is : IsHalfEdge edges n h
  pub point : left h ≡ p

pub side_half_edge : (edges : List Seg) (n : ℕ) (p : Point) → IsSide edges n p → (h : HalfEdge) × IsOfSide edges n p h
side_half_edge [] n p at = absurd (none-some p at)
side_half_edge (e ∷ es) zero p at = (record { edge = e; forwards = true }, record { among = contains_here e es; is = refl; point = same_Some _ _ at })
side_half_edge (e ∷ es) (suc zero) p at = (record { edge = e; forwards = false }, record { among = contains_here e es; is = refl; point = same_Some _ _ at })
side_half_edge (e ∷ es) (suc (suc n)) p at =
    let (h, of) = side_half_edge es n p at in
    (h, record { among = contains_there e h.edge es of.among; is = of.is; point = of.point })

-- ---- numbers of a walk

module _ (edges : List Seg) (planar : IsPlanar edges) (distinct : AreDistinct edges) (number : ℕ → ℕ) (outer : ℕ) (walk : IsWalk edges number outer) where
  abbrev number_is : ℕ → HalfEdge → Bool
  number_is r h = number (index edges h) == r

  test_over : (r : ℕ) (v : Coord) (g : HalfEdge) → LeavesOverRay edges v g → PassesEarlier edges (number_is r) v g ⊎ PassesDown edges (number_is r) (outer == r) v g
  test_over r v g over =
      let among = over.over.follows.leaves.among in
      let is_g = index_is edges g among in
      elim (walk.over (index edges g) v (record { half_edge = g; is = is_g; leaves = over })) [
        | inl back ↦ (
            let k = back.from.half_edge in
            let in_k = half_edge_among edges back.side k back.from.is in
            let is_k : index edges k ≡ back.side = one_number edges distinct (index edges k) back.side k (index_is edges k in_k) back.from.is in
            inl (record {
              half_edge = k;
              among = in_k;
              earlier = subst (λ c. IsTrue (is_before c v)) (sym back.from.from) back.earlier;
              same = ap (λ n. n == r) (back.same ∙ ap number (sym is_k));
              joined = back.joined (left g) (left k) (half_edge_side edges (index edges g) g is_g) (half_edge_side edges back.side k back.from.is);
            })
            )
        | inr ahead ↦ inr (record {
          down = λ e nearest. (
              let below : HalfEdge = record { edge = e; forwards = true } in
              ap (λ n. n == r) (ahead.down e (index edges below) nearest (index_is edges below nearest.below.among))
              );
          out = λ none. ap (λ n. n == r) (ahead.out none);
        })
      ]

  walk_test : (r : ℕ) → IsWalkTest edges (number_is r) (outer == r)
  walk_test r = record {
    next = λ h g next. ap (λ n. n == r) (walk.next (index edges h) (index edges g)
        (record { from = h; to = g; from_is = index_is edges h next.among; to_is = index_is edges g next.leaves.among; follows = next }));
    over = test_over r;
  }

  same_test : (a b r : ℕ) → (a == r) ≡ (b == r) → a ≡ r → b ≡ r
  same_test a b r h e = grind (arith, nat_tests)

  pub walk_joined : (n m : ℕ) (p q : Point) → IsSide edges n p → IsSide edges m q → Joined edges p q → number n ≡ number m
  walk_joined n m p q at_n at_m j =
      let (h, of_n) = side_half_edge edges n p at_n in
      let (g, of_m) = side_half_edge edges m q at_m in
      let first : index edges h ≡ n = one_number edges distinct (index edges h) n h (index_is edges h of_n.among) of_n.is in
      let second : index edges g ≡ m = one_number edges distinct (index edges g) m g (index_is edges g of_m.among) of_m.is in
      let way : Joined edges (left h) (left g) = subst (λ x. Joined edges x (left g)) (sym of_n.point) (subst (λ y. Joined edges p y) (sym of_m.point) j) in
      let tests = walk_test_joined edges planar distinct (number_is (number n)) (outer == number n) (walk_test (number n)) h g of_n.among of_m.among way in
      sym (ap number (sym second) ∙ same_test (number (index edges h)) (number (index edges g)) (number n) tests (ap number first))

  pub outer_number : (n : ℕ) (p : Point) → IsSide edges n p → IsOuter edges p → number n ≡ outer
  outer_number n p at j =
      let (h, of) = side_half_edge edges n p at in
      let is : index edges h ≡ n = one_number edges distinct (index edges h) n h (index_is edges h of.among) of.is in
      let test = walk_test_outer edges planar distinct (number_is (number n)) (outer == number n) (walk_test (number n)) h of.among (subst (λ x. IsOuter edges x) (sym of.point) j) in
      sym (same_test (number (index edges h)) outer (number n) test (ap number is))

-- numbers of sides that are no later, and joined, and the same on joined sides
regions_by : (edges : List Seg) (number : ℕ → ℕ) → ((n m : ℕ) (p q : Point) → IsSide edges n p → IsSide edges m q → Joined edges p q → number n ≡ number m)
    → AreNoLater edges number → AreSideRegions edges number
regions_by edges number joined low n p at = record {
  joined = (low n p at).1;
  least = λ k j. (
      let same = joined n k p j.at at j.side j.joined in
      let le = (low k j.at j.side).0 in
      omega arith
      );
}

pub fewer_links_regions : (edges : List Seg) → IsPlanar edges → AreDistinct edges → (number : ℕ → ℕ) (outer : ℕ) → IsWalk edges number outer
    → AreNoLater edges number → AreSideRegions edges number
fewer_links_regions edges planar distinct number outer walk low = regions_by edges number (walk_joined edges planar distinct number outer walk) low

-- ---- numbers that all links keep

module _ (edges : List Seg) (planar : IsPlanar edges) (distinct : AreDistinct edges) (number : ℕ → ℕ) (keeps : (n m : ℕ) → IsLinked edges n m → number n ≡ number m) where
  kept_walk : (out : HasWayOut edges) → IsWalk edges number (number (index edges out.half_edge))
  kept_walk out = record {
    next = λ n m next. keeps n m (inl next);
    over = λ n v from. inr (record {
      down = λ e m nearest to. keeps n m (inr (inl (record { vertex = v; from = from; edge = e; nearest = nearest; to = to })));
      out = λ none. (
          let h = out.half_edge in
          let is_h = index_is edges h out.leaves.over.follows.leaves.among in
          keeps n (index edges h) (inr (inr (
            record { vertex = v; from = from; none = none },
            record { vertex = out.vertex; from = record { half_edge = h; is = is_h; leaves = out.leaves }; none = out.none },
          )))
          );
    });
  }

  pub joined_number : (n m : ℕ) (p q : Point) → IsSide edges n p → IsSide edges m q → Joined edges p q → number n ≡ number m
  joined_number n m p q at_n at_m j =
      let (h, of) = side_half_edge edges n p at_n in
      let out = some_out edges planar h of.among in
      walk_joined edges planar distinct number (number (index edges out.half_edge)) (kept_walk out) n m p q at_n at_m j

  pub walk_regions : AreNoLater edges number → AreSideRegions edges number
  walk_regions low = regions_by edges number joined_number low
