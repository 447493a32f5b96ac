-- The regions have numbers by least sides.
use mathlib.Core.List.{List, [], ◌∷◌}
use Rattle.std.proofs.Common.{◌≡◌, refl, sym, ◌∙◌, ap, subst, ℕ, zero, suc, ◌*◌, ◌<◌, ◌≤◌, ◌==◌, Bool, true, false, cond, length, slice_index, Contains, ◌⊎◌, inl, inr, pos, ◌-ℤ◌, ◌*ℤ◌, ◌<ℤ◌, arith}
use Rattle.std.proofs.lemmas.Bool.Decides.{nat_tests}
use Rattle.cov_types.specs.declared.coord.Coord.{Coord}
use Rattle.cov_types.specs.declared.seg.Seg.{Seg}
use Rattle.integer_laws.proofs.Ring.{lin}
use Rattle.integer_laws.proofs.Sign.{positive_times_positive, positive_factor}
use Rattle.plane.specs.Point.{Point, at_coord}
use Rattle.plane.specs.Segment.{side}
use Rattle.plane.specs.Ray.{sweep}
use Rattle.plane.specs.Joined.{Joined}
use Rattle.plane.specs.Region.{far_point, IsSide, IsRegionOf, AreRegions}
use Rattle.plane.proofs.Points.{d_positive}
use Rattle.plane.proofs.Sweeps.{rises-in_range}
use Rattle.crossing_laws.proofs.Ways.{joined-trans, joined-sym, joined-refl, joined_off}
use Rattle.crossing_laws.proofs.Lists.{contains_here, contains_there}
use Rattle.crossing_laws.proofs.Located.{side_within}
use Rattle.sector_laws.specs.Sector.{HalfEdge, origin, left, twin, half_edges, is_before_by_angle, IsNext, AreDistinct, IsPlanar}
use Rattle.sector_laws.proofs.Sectors.{next_joined}
use Rattle.sector_laws.proofs.Next.{one_next}
use Rattle.sector_laws.proofs.Exists.{some_next}
use Rattle.sector_laws.proofs.Leaving.{edge_in_range}
use Rattle.sector_laws.proofs.Angles.{true_or_false, not_both}
use Rattle.sector_laws.proofs.Numbers.{one_number, half_edge_side}
use Rattle.region_laws.specs.Below.{IsBelow, sweep_rise, IsNearer, IsNearestBelow, HasNoneBelow}
use Rattle.region_laws.specs.Linked.{LeavesOverRay, IsKept}
use Rattle.region_laws.proofs.Down.{tie}
use Rattle.region_laws.proofs.Edge.{under-is}
use Rattle.region_laws.proofs.Links.{link_down, link_out}
use Rattle.region_laws.proofs.Nearest.{nearest_or_none}
use Rattle.region_laws.proofs.Balance.{first_or_later, half_edges_contain, half_edge_edge}
use Rattle.region_laws.proofs.Kept.{kept_joined}
use Rattle.region_laws.proofs.Numbered.{index, index_is, side_half_edge}

-- ---- classes from pairs

same_or_not : (a b : ℕ) → (a ≡ b) ⊎ ((a == b) ≡ false)
same_or_not a b = elim (true_or_false (a == b)) [ inl same ↦ inl (nat_same a b same) | inr other ↦ inr other ]
  where
    nat_same : (a b : ℕ) → (a == b) ≡ true → a ≡ b
    nat_same a b h = grind (arith, nat_tests)

equal_itself : (a : ℕ) → (a == a) ≡ true
equal_itself a = grind (arith, nat_tests)

-- numbers that are the same at the two of each pair, and only at what the relation ties
record IsClasses (R : ℕ → ℕ → Type 0) (pairs : List (ℕ × ℕ)) (c : ℕ → ℕ) : Type 0 where
  tied : (x y : ℕ) → c x ≡ c y → (x ≡ y) ⊎ R x y
  at_pairs : (p : ℕ × ℕ) → Contains pairs p → c p.0 ≡ c p.1

module _ (R : ℕ → ℕ → Type 0) (turn : (x y : ℕ) → R x y → R y x) (chain : (x y z : ℕ) → R x y → R y z → R x z) where
  abbrev merged : (ℕ → ℕ) → ℕ → ℕ → ℕ → ℕ
  merged c a b x = cond (c x == a) b (c x)

  over_pair : (x y a b : ℕ) → R a b → (x ≡ a) ⊎ R x a → (b ≡ y) ⊎ R b y → R x y
  over_pair x y a b r h k =
      let first : R x b = elim h [ inl same ↦ subst (λ t. R t b) (sym same) r | inr tied ↦ chain x a b tied r ] in
      elim k [ inl same ↦ subst (λ t. R x t) same first | inr tied ↦ chain x b y first tied ]

  classes : (pairs : List (ℕ × ℕ)) → ((p : ℕ × ℕ) → Contains pairs p → R p.0 p.1) → (c : ℕ → ℕ) × IsClasses R pairs c
  classes [] all = (λ x. x, record { tied = λ x y e. inl e; at_pairs = λ p i. absurd (omega (arith, i.1)) })
  classes (pair ∷ pairs) all =
      let (c, rest) = classes pairs (λ p i. all p (contains_there pair p pairs i)) in
      let a = pair.0 in
      let b = pair.1 in
      let r = all pair (contains_here pair pairs) in
      let merge = merged c (c a) (c b) in
      let taken = λ (x : ℕ) (h : c x ≡ c a). ap (λ n. cond (n == c a) (c b) n) h ∙ ap (λ t. cond t (c b) (c a)) (equal_itself (c a)) in
      let left_alone = λ (x : ℕ) (h : (c x == c a) ≡ false). ap (λ t. cond t (c b) (c x)) h in (
        merge,
        record {
          tied = λ x y e. elim (same_or_not (c x) (c a)) [
            | inl x_a ↦ elim (same_or_not (c y) (c a)) [
              | inl y_a ↦ rest.tied x y (x_a ∙ sym y_a)
              | inr y_not ↦ inr (over_pair x y a b r (rest.tied x a x_a) (rest.tied b y (sym (taken x x_a) ∙ e ∙ left_alone y y_not)))
            ]
            | inr x_not ↦ elim (same_or_not (c y) (c a)) [
              | inl y_a ↦ inr (turn y x (over_pair y x a b r (rest.tied y a y_a) (rest.tied b x (sym (taken y y_a) ∙ sym e ∙ left_alone x x_not))))
              | inr y_not ↦ rest.tied x y (sym (left_alone x x_not) ∙ e ∙ left_alone y y_not)
            ]
          ];
          at_pairs = λ p i. elim (first_or_later pair pairs p i) [
            | inl here ↦ subst (λ (q : ℕ × ℕ). merge q.0 ≡ merge q.1) here (taken a refl ∙ sym (elim (same_or_not (c b) (c a)) as (λ _. merge b ≡ c b) [
              | inl b_a ↦ taken b b_a
              | inr b_not ↦ left_alone b b_not
            ]))
            | inr later ↦ ap (λ n. cond (n == c a) (c b) n) (rest.at_pairs p later)
          ];
        },
      )

-- ---- one edge is nearest

one_nearest : (edges : List Seg) → IsPlanar edges → (p : Point) (e f : Seg) → IsNearestBelow edges p e → IsNearestBelow edges p f → e ≡ f
one_nearest edges planar p e f h k =
    elim (h.nearest f k.below) [
      | inl same ↦ same
      | inr nearer ↦ elim (k.nearest e h.below) [
        | inl same ↦ sym same
        | inr back ↦ absurd (not_both_nearer nearer back)
      ]
    ]
  where
    lead : (e f : Seg) → IsBelow edges p e → (side e p *ℤ sweep_rise f) ≡ (side f p *ℤ sweep_rise e) → pos 0 <ℤ side f (at_coord e.hi)
        → pos 0 <ℤ ((sweep_rise e *ℤ (f.hi.x -ℤ f.lo.x)) -ℤ (sweep_rise f *ℤ (e.hi.x -ℤ e.lo.x)))
    lead e f b even above =
        let up = rises-in_range e (edge_in_range edges planar e.lo e b.among) in
        let under = (under-is e p).0 b.under in
        let deep = positive_times_positive {x = sweep_rise e} {y = pos p.d} (omega (arith, lin)) (d_positive p) in
        let product = positive_times_positive {x = sweep_rise e *ℤ pos p.d} {y = side f (at_coord e.hi)} deep above in
        positive_factor ((sweep (at_coord e.hi) *ℤ pos p.d) -ℤ sweep p) ((sweep_rise e *ℤ (f.hi.x -ℤ f.lo.x)) -ℤ (sweep_rise f *ℤ (e.hi.x -ℤ e.lo.x)))
        (omega (arith, lin, under.to)) (omega (arith, lin, tie e f p))

    not_both_nearer : IsNearer p e f → IsNearer p f e → ⊥
    not_both_nearer nearer back =
        elim nearer [
          | inl less ↦ elim back [ inl more ↦ omega (arith, lin) | inr even ↦ (let q = even.0 in omega (arith, lin)) ]
          | inr as_far ↦ elim back [
            | inl more ↦ (let q = as_far.0 in omega (arith, lin))
            | inr again ↦ (
                let first = lead e f h.below as_far.0 as_far.1 in
                let second = lead f e k.below again.0 again.1 in
                omega (arith, lin)
                )
          ]
        ]

-- ---- the pairs of all half-edges: 0 is past the range, and n + 1 is the side n

abbrev IsNode : List Seg → ℕ → Point → Type 0
IsNode edges zero p = p ≡ far_point
IsNode edges (suc n) p = IsSide edges n p

record AreTied (edges : List Seg) (x y : ℕ) : Type 0 where
  first : Point
  second : Point
  is_first : IsNode edges x first
  is_second : IsNode edges y second
  joined : Joined edges first second

one_node : (edges : List Seg) (x : ℕ) (p q : Point) → IsNode edges x p → IsNode edges x q → p ≡ q
one_node edges zero p q h k = h ∙ sym k
one_node edges (suc n) p q h k = cc

module _ (edges : List Seg) (planar : IsPlanar edges) (distinct : AreDistinct edges) where
  tied-turn : (x y : ℕ) → AreTied edges x y → AreTied edges y x
  tied-turn x y t = record { first = t.second; second = t.first; is_first = t.is_second; is_second = t.is_first; joined = joined-sym edges t.first t.second t.joined }

  tied-chain : (x y z : ℕ) → AreTied edges x y → AreTied edges y z → AreTied edges x z
  tied-chain x y z t u = record {
    first = t.first;
    second = u.second;
    is_first = t.is_first;
    is_second = u.is_second;
    joined = joined-trans edges t.first t.second u.second t.joined
        (subst (λ p. Joined edges p u.second) (one_node edges y u.first t.second u.is_first t.is_second) u.joined);
  }

  abbrev node : HalfEdge → ℕ
  node h = suc (index edges h)

  at_node : (h : HalfEdge) → Contains edges h.edge → IsNode edges (node h) (left h)
  at_node h c = half_edge_side edges (index edges h) h (index_is edges h c)

  tied_by : (h g : HalfEdge) → Contains edges h.edge → Contains edges g.edge → Joined edges (left h) (left g) → AreTied edges (node h) (node g)
  tied_by h g c d j = record { first = left h; second = left g; is_first = at_node h c; is_second = at_node g d; joined = j }

  -- the pairs of some half-edges: each with its next, and where a link leads from that, with where it leads
  record ArePairs (some : List HalfEdge) (pairs : List (ℕ × ℕ)) : Type 0 where
    tied : (p : ℕ × ℕ) → Contains pairs p → AreTied edges p.0 p.1
    next : (h g : HalfEdge) → Contains some h → IsNext edges h g → Contains pairs (node h, node g)
    down : (h g : HalfEdge) → Contains some h → IsNext edges h g → is_before_by_angle g (twin h) ≡ false → (e : Seg) → IsNearestBelow edges (at_coord (origin g)) e
        → Contains pairs (node g, node (record { edge = e; forwards = true }))
    out : (h g : HalfEdge) → Contains some h → IsNext edges h g → is_before_by_angle g (twin h) ≡ false → HasNoneBelow edges (at_coord (origin g)) → Contains pairs (node g, 0)

  -- the second pair of one half-edge
  record IsLinkPair (h g : HalfEdge) (pair : ℕ × ℕ) : Type 0 where
    tied : AreTied edges pair.0 pair.1
    down : is_before_by_angle g (twin h) ≡ false → (e : Seg) → IsNearestBelow edges (at_coord (origin g)) e → pair ≡ (node g, node (record { edge = e; forwards = true }))
    out : is_before_by_angle g (twin h) ≡ false → HasNoneBelow edges (at_coord (origin g)) → pair ≡ (node g, 0)

  link_pair : (h g : HalfEdge) → IsNext edges h g → (pair : ℕ × ℕ) × IsLinkPair h g pair
  link_pair h g next =
      elim (true_or_false (is_before_by_angle g (twin h))) [
        | inl before ↦ (
          (node h, node g),
          record {
            tied = tied_by h g next.among next.leaves.among (next_joined edges planar h g next);
            down = λ last. absurd (not_both before last);
            out = λ last. absurd (not_both before last);
          },
        )
        | inr last ↦ (
            let over : LeavesOverRay edges (origin g) g = record { before = h; over = record { follows = next; past_down = last }; from = refl } in
            elim (nearest_or_none edges planar (at_coord (origin g))) [
              | inl found ↦ (
                  let e = found.0 in
                  let below : HalfEdge = record { edge = e; forwards = true } in (
                    (node g, node below),
                    record {
                      tied = tied_by g below next.leaves.among found.1.below.among (link_down edges planar (origin g) g over e found.1);
                      down = λ _ f nearest. ap (λ x. (node g, node (record { edge = x; forwards = true }))) (one_nearest edges planar (at_coord (origin g)) e f found.1 nearest);
                      out = λ _ none. absurd (none e found.1.below);
                    },
                  )
                  )
              | inr none ↦ (
                (node g, 0),
                record {
                  tied = record { first = left g; second = far_point; is_first = at_node g next.leaves.among; is_second = refl; joined = link_out edges planar (origin g) g over none };
                  down = λ _ e nearest. absurd (none e nearest.below);
                  out = λ _ _. refl;
                },
              )
            ]
            )
      ]

  all_pairs : (some : List HalfEdge) → ((h : HalfEdge) → Contains some h → Contains edges h.edge) → (pairs : List (ℕ × ℕ)) × ArePairs some pairs
  all_pairs [] among = (
    [],
    record {
      tied = λ p i. absurd (omega (arith, i.1));
      next = λ h g i. absurd (omega (arith, i.1));
      down = λ h g i. absurd (omega (arith, i.1));
      out = λ h g i. absurd (omega (arith, i.1));
    },
  )
  all_pairs (h ∷ hs) among =
      let (pairs, rest) = all_pairs hs (λ k i. among k (contains_there h k hs i)) in
      let (g, next) = some_next edges planar h (among h (contains_here h hs)) in
      let (link, second) = link_pair h g next in
      let first : ℕ × ℕ = (node h, node g) in
      let in_rest = λ (p : ℕ × ℕ) (i : Contains pairs p). contains_there first p (link ∷ pairs) (contains_there link p pairs i) in
      let in_link = contains_there first link (link ∷ pairs) (contains_here link pairs) in
      let one = λ (k : HalfEdge) (m : HalfEdge) (same : h ≡ k) (n : IsNext edges k m). one_next edges planar h g m next (subst (λ x. IsNext edges x m) (sym same) n) in (
        first ∷ link ∷ pairs,
        record {
          tied = λ p i. elim (first_or_later first (link ∷ pairs) p i) [
            | inl here ↦ subst (λ (q : ℕ × ℕ). AreTied edges q.0 q.1) here (tied_by h g next.among next.leaves.among (next_joined edges planar h g next))
            | inr later ↦ elim (first_or_later link pairs p later) [
              | inl here ↦ subst (λ (q : ℕ × ℕ). AreTied edges q.0 q.1) here second.tied
              | inr more ↦ rest.tied p more
            ]
          ];
          next = λ k m i n. elim (first_or_later h hs k i) [
            | inl same ↦ subst (λ (q : ℕ × ℕ). Contains (first ∷ link ∷ pairs) q) (λ t. (node (same t), node (one k m same n t))) (contains_here first (link ∷ pairs))
            | inr later ↦ in_rest (node k, node m) (rest.next k m later n)
          ];
          down = λ k m i n last e nearest. elim (first_or_later h hs k i) [
            | inl same ↦ (
                let moved = one k m same n in
                let pair = second.down ((λ t. is_before_by_angle (moved t) (twin (same t))) ∙ last) e (subst (λ x. IsNearestBelow edges (at_coord (origin x)) e) (sym moved) nearest) in
                subst (λ (q : ℕ × ℕ). Contains (first ∷ link ∷ pairs) q) (pair ∙ ap (λ x. (node x, node (record { edge = e; forwards = true }))) moved) in_link
                )
            | inr later ↦ in_rest (node m, node (record { edge = e; forwards = true })) (rest.down k m later n last e nearest)
          ];
          out = λ k m i n last none. elim (first_or_later h hs k i) [
            | inl same ↦ (
                let moved = one k m same n in
                let pair = second.out ((λ t. is_before_by_angle (moved t) (twin (same t))) ∙ last) (subst (λ x. HasNoneBelow edges (at_coord (origin x))) (sym moved) none) in
                subst (λ (q : ℕ × ℕ). Contains (first ∷ link ∷ pairs) q) (pair ∙ ap (λ x. (node x, 0)) moved) in_link
                )
            | inr later ↦ in_rest (node m, 0) (rest.out k m later n last none)
          ];
        },
      )

-- ---- the least number that passes a test

record IsLeast (passes : ℕ → Bool) (m : ℕ) : Type 0 where
  holds : passes m ≡ true
  least : (k : ℕ) → passes k ≡ true → m ≤ k

least_of : (passes : ℕ → Bool) (n : ℕ) → passes n ≡ true → (m : ℕ) × IsLeast passes m
least_of passes zero h = (0, record { holds = h; least = λ k _. omega arith })
least_of passes (suc n) h =
    elim (true_or_false (passes 0)) [
      | inl first ↦ (0, record { holds = first; least = λ k _. omega arith })
      | inr none ↦ (
          let (m, l) = least_of (λ k. passes (suc k)) n h in
          (suc m, record { holds = l.holds; least = λ k t. from_second passes none m (l.least) k t })
          )
    ]
  where
    from_second : (passes : ℕ → Bool) → passes 0 ≡ false → (m : ℕ) → ((k : ℕ) → passes (suc k) ≡ true → m ≤ k) → (k : ℕ) → passes k ≡ true → suc m ≤ k
    from_second passes none m least zero t = absurd (not_both t none)
    from_second passes none m least (suc k) t = let le = least k t in omega arith

nat_same : (a b : ℕ) → (a == b) ≡ true → a ≡ b
nat_same a b h = grind (arith, nat_tests)

same_true : (a b : ℕ) → a ≡ b → (a == b) ≡ true
same_true a b h = grind (arith, nat_tests)

-- ---- the numbers

module _ (edges : List Seg) (planar : IsPlanar edges) (distinct : AreDistinct edges) (pairs : List (ℕ × ℕ)) (made : ArePairs edges planar distinct (half_edges edges) pairs)
    (c : ℕ → ℕ) (cls : IsClasses (AreTied edges) pairs c) where
  abbrev in_class : ℕ → HalfEdge → Bool
  in_class r h = c (suc (index edges h)) == r

  to_out : (v : Coord) (g : HalfEdge) → LeavesOverRay edges v g → HasNoneBelow edges (at_coord v) → c (suc (index edges g)) ≡ c 0
  to_out v g over none =
      cls.at_pairs (suc (index edges g), 0)
      (made.out over.before g (half_edges_contain edges over.before over.over.follows.among) over.over.follows over.over.past_down
      (subst (λ x. HasNoneBelow edges (at_coord x)) (sym over.from) none))

  class_kept : (r : ℕ) → IsKept edges (in_class r)
  class_kept r = record {
    next = λ h g next. ap (λ k. k == r) (cls.at_pairs (suc (index edges h), suc (index edges g)) (made.next h g (half_edges_contain edges h next.among) next));
    down = λ v g over e nearest. ap (λ k. k == r) (cls.at_pairs (suc (index edges g), suc (index edges (record { edge = e; forwards = true })))
        (made.down over.before g (half_edges_contain edges over.before over.over.follows.among) over.over.follows over.over.past_down e
        (subst (λ x. IsNearestBelow edges (at_coord x) e) (sym over.from) nearest)));
    out = λ v w g h over_g none_g over_h none_h. ap (λ k. k == r) (to_out v g over_g none_g ∙ sym (to_out w h over_h none_h));
  }

  joined_class : (n m : ℕ) (p q : Point) → IsSide edges n p → IsSide edges m q → Joined edges p q → c (suc n) ≡ c (suc m)
  joined_class n m p q at_n at_m j =
      let (h, of_n) = side_half_edge edges n p at_n in
      let (g, of_m) = side_half_edge edges m q at_m in
      let first : index edges h ≡ n = one_number edges distinct (index edges h) n h (index_is edges h of_n.among) of_n.is in
      let second : index edges g ≡ m = one_number edges distinct (index edges g) m g (index_is edges g of_m.among) of_m.is in
      let way : Joined edges (left h) (left g) = subst (λ x. Joined edges x (left g)) (sym of_n.point) (subst (λ y. Joined edges p y) (sym of_m.point) j) in
      let tests = kept_joined edges planar distinct (in_class (c (suc n))) (class_kept (c (suc n))) h g of_n.among of_m.among way in
      let holds = same_true (c (suc (index edges h))) (c (suc n)) (ap (λ k. c (suc k)) first) in
      sym (ap (λ k. c (suc k)) (sym second) ∙ nat_same (c (suc (index edges g))) (c (suc n)) (sym tests ∙ holds))

  joined_itself : (n : ℕ) (p : Point) → IsSide edges n p → Joined edges p p
  joined_itself n p at =
      let (h, of) = side_half_edge edges n p at in
      let (g, next) = some_next edges planar h of.among in
      let off = joined_off edges (left h) (left g) (next_joined edges planar h g next) in
      subst (λ x. Joined edges x x) of.point (joined-refl edges (left h) off)

  least_side : (n : ℕ) → (m : ℕ) × IsLeast (λ k. c (suc k) == c (suc n)) m
  least_side n = least_of (λ k. c (suc k) == c (suc n)) n (equal_itself (c (suc n)))

  region_of_side : (n : ℕ) (p : Point) → IsSide edges n p → IsRegionOf edges p (least_side n).0
  region_of_side n p at =
      let m = (least_side n).0 in
      let l = (least_side n).1 in
      record {
        joined = elim (cls.tied (suc m) (suc n) (nat_same (c (suc m)) (c (suc n)) l.holds)) [
          | inl same ↦ record { at = p; side = subst (λ k. IsNode edges k p) (sym same) at; joined = joined_itself n p at }
          | inr t ↦ record {
            at = t.first;
            side = t.is_first;
            joined = joined-sym edges t.first p (subst (λ x. Joined edges t.first x) (one_node edges (suc n) t.second p t.is_second at) t.joined);
          }
        ];
        least = λ k j. l.least k (same_true (c (suc k)) (c (suc n)) (sym (joined_class n k p j.at at j.side j.joined)));
      }

-- the list of so many numbers that the function gives
listed : (f : ℕ → ℕ) (n : ℕ) → (numbers : List ℕ) × (length numbers ≡ n) × ((i : ℕ) → i < n → slice_index numbers i ≡ f i)
listed f zero = ([], refl, λ i below. absurd (omega arith))
listed f (suc n) =
    let (numbers, count, each) = listed (λ i. f (suc i)) n in
    (f 0 ∷ numbers, omega arith, at numbers each)
  where
    at : (numbers : List ℕ) → ((i : ℕ) → i < n → slice_index numbers i ≡ f (suc i)) → (i : ℕ) → i < suc n → slice_index (f 0 ∷ numbers) i ≡ f i
    at numbers each zero below = refl
    at numbers each (suc i) below = each i (omega arith)

pub regions_exist : (edges : List Seg) → IsPlanar edges → AreDistinct edges → (numbers : List ℕ) × AreRegions edges numbers
regions_exist edges planar distinct =
    let (pairs, made) = all_pairs edges planar distinct (half_edges edges) (half_edge_edge edges) in
    let (c, cls) = classes (AreTied edges) (tied-turn edges planar distinct) (tied-chain edges planar distinct) pairs made.tied in
    let (numbers, count, each) = listed (λ n. (least_side edges planar distinct pairs made c cls n).0) (2 * length edges) in (
      numbers,
      record {
        count = count;
        each = λ n p at. subst (λ r. IsRegionOf edges p r) (sym (each n (side_within edges n p at))) (region_of_side edges planar distinct pairs made c cls n p at);
      },
    )
