-- A gap has a neighbour that owns a region beside it.
use mathlib.Core.List.{[], ◌∷◌}
use Rattle.std.proofs.Common.{◌≡◌, ◌⊎◌, refl, sym, ◌∙◌, ap, subst, ℕ, zero, suc, ◌+◌, ◌*◌, ◌<◌, ◌≤◌, ◌==◌, ◌&&◌, Bool, true, false, not, cond, nat_lt, List, get_or, inl, inr, ℤ, ◌-ℤ◌, unsigned_abs, IsTrue, arith}
use Rattle.std.specs.Prelude.{Contains, length, Option, Some, None, slice_get, sum_by, unwrap_or}
use Rattle.std.specs.List.{enumerate_from}
use Rattle.std.proofs.lemmas.Bool.{and_from, or_left, or_right, true≢false, false_from_ne_true}
use Rattle.std.proofs.lemmas.Bool.Decides.{nat_tests, Decides-eqb}
use Rattle.std.proofs.lemmas.Int.{ints}
use Rattle.std.proofs.lemmas.List.Elements.{Contains-get_or}
use Rattle.std.proofs.lemmas.List.FromFn.{length-enumerate_from, get_or-enumerate_from}
use Rattle.std.proofs.lemmas.List.MinMax.{IsStrictWeakOrder-by_number, IsStrictWeakOrder-flip}
use Rattle.std.proofs.lemmas.List.Sums.{get_or-le-sum_by}
use Rattle.std.proofs.lemmas.Option.{none-some, slice_get-get_or, slice_get_within, get_or_from_slice_get}
use Rattle.cov_types.specs.declared.seg.Seg.{Seg}
use Rattle.cov_types.specs.Coord.{is_before}
use Rattle.cov_types.proofs.Order.{is_before-irrefl, same_coords}
use Rattle.plane.specs.Laws.{IsRoot}
use Rattle.plane.specs.Length.{edge_length}
use Rattle.plane.proofs.Roots.{root_is}
use Rattle.plane.specs.Label.{numbers_below, label_at}
use Rattle.plane.specs.Parity.{member_holds}
use Rattle.plane.specs.Point.{Point}
use Rattle.plane.specs.Region.{IsSide, IsRegionOf}
use Rattle.plane.specs.Segment.{upper, lower}
use Rattle.crossing_laws.proofs.Located.{one_region}
use Rattle.arrangement.specs.Live.{IsLiveOverlay}
use Rattle.arrangement.specs.Measure.{is_member, is_border, owned_border}
use Rattle.arrangement.specs.Overlay.{Overlay, region_at, region_above, region_below, label_of}
use Rattle.arrangement.proofs.LiveOverlays.{kept, kept_is, number_below, below_number, label_is, side_holder}
use Rattle.arrangement.proofs.Numberings.{upper_side, lower_side}
use Rattle.region_owners.specs.Gap.{IsGap}
use Rattle.region_owners.specs.Owner.{Rule, IsLawful, first_best, label_owner, neighbours_of}
use Rattle.region_owners.specs.Laws.{IsNeighbour}
use Rattle.region_owners.proofs.Held.{held_owner, label_below}
use Rattle.region_owners.proofs.Picks.{first_best_is}

-- ---- an edge has a length

size_zero : (a b : ℤ) → unsigned_abs (a -ℤ b) ≡ 0 → a ≡ b
size_zero a b h = omega (arith, ints)

sum_positive : (a b : ℕ) → (a ≡ 0 → b ≡ 0 → ⊥) → 0 < 65536 * (a * a + b * b)
sum_positive zero zero h = absurd (h refl refl)
sum_positive zero (suc b) h = omega arith
sum_positive (suc a) b h = omega arith

root_positive : (n r : ℕ) → IsRoot n r → 0 < n → 0 < r
root_positive n zero h some = let next = h.next_more in absurd (omega arith)
root_positive n (suc r) h some = omega arith

pub has_length : (e : Seg) → 0 < edge_length e
unfolding edge_length
has_length e =
    root_positive _ _ (root_is _) (sum_positive (unsigned_abs (e.hi.x -ℤ e.lo.x)) (unsigned_abs (e.hi.y -ℤ e.lo.y)) (λ x y. (
    let same : e.hi ≡ e.lo = same_coords e.hi e.lo (size_zero e.hi.x e.lo.x x) (size_zero e.hi.y e.lo.y y) in
    true≢false (sym (subst (λ c. IsTrue (is_before e.lo c)) same e.ordered) ∙ is_before-irrefl e.lo))))

-- ---- the two sides of an edge

-- the edge k, of which n is a side with this side point
record IsSideOf (edges : List Seg) (n : ℕ) (p : Point) : Type 0 where
  k : ℕ
  e : Seg
  listed : slice_get edges k ≡ Some e
  which : ((n ≡ 2 * k) × (p ≡ upper e)) ⊎ ((n ≡ 2 * k + 1) × (p ≡ lower e))

some_is : {X : Type 0} (a b : X) → Some a ≡ Some b → a ≡ b
some_is a b h = ap (λ o. unwrap_or o a) h

next_side : (e : Seg) (edges : List Seg) (n : ℕ) (p : Point) → IsSideOf edges n p → IsSideOf (e ∷ edges) (suc (suc n)) p
next_side e edges n p h = record {
  k = suc h.k;
  e = h.e;
  listed = h.listed;
  which = elim h.which [ inl up ↦ inl (omega (arith, up.0), up.1) | inr down ↦ inr (omega (arith, down.0), down.1) ];
}

side_of : (edges : List Seg) (n : ℕ) (p : Point) → IsSide edges n p → IsSideOf edges n p
side_of [] n p h = absurd (none-some p h)
side_of (e ∷ edges) zero p h = record { k = 0; e = e; listed = refl; which = inl (refl, sym (some_is (upper e) p h)) }
side_of (e ∷ edges) (suc zero) p h = record { k = 0; e = e; listed = refl; which = inr (refl, sym (some_is (lower e) p h)) }
side_of (e ∷ edges) (suc (suc n)) p h = next_side e edges n p (side_of edges n p h)

-- a term of a sum over the numbered edges is not more than the sum
counted : (f : ℕ × Seg → ℕ) (edges : List Seg) (k : ℕ) (e : Seg) → slice_get edges k ≡ Some e → f (k, e) ≤ sum_by f (enumerate_from 0 edges)
counted f edges k e h =
    let within = slice_get_within edges k e h in
    let many : length (enumerate_from 0 edges) ≡ length edges = length-enumerate_from 0 edges in
    let place : 0 + k ≡ k = omega arith in
    let at : get_or (enumerate_from 0 edges) k (0, e) ≡ (k, e) = get_or-enumerate_from 0 edges k (0, e) within ∙ (λ i. (place i, get_or_from_slice_get edges k e e h i)) in
    subst (λ q. f q ≤ sum_by f (enumerate_from 0 edges)) at (get_or-le-sum_by f (enumerate_from 0 edges) k (0, e) (omega arith))

-- ---- a region beside a gap is held

-- the edge k leads between the regions r and s
abbrev pub IsBetweenRegions : Overlay → ℕ → ℕ → ℕ → Type 0
IsBetweenRegions o k r s = ((region_above o k ≡ r) × (region_below o k ≡ s)) ⊎ ((region_below o k ≡ r) × (region_above o k ≡ s))

-- an edge between the region and one that some member holds
pub record IsHeldBeside (o : Overlay) (r : ℕ) : Type 0 where
  pub s : ℕ
  pub k : ℕ
  pub e : Seg
  pub listed : slice_get o.edges k ≡ Some e
  pub beside : IsBetweenRegions o k r s
  pub held : 0 < length (label_of o s)

not_held : (o : Overlay) (m : ℕ) (p : Point) → m < o.members → label_at o.uses o.members p ≡ [] → member_holds o.uses m p ≡ false
not_held o m p below empty = false_from_ne_true (member_holds o.uses m p) (λ t. (
    let has = subst (λ l. Contains l m) empty (kept (λ i. member_holds o.uses i p) (numbers_below o.members) m (number_below o.members m below) t) in
    let none = has.1 in omega arith))

is_held : (o : Overlay) (m : ℕ) (p q : Point) → m < o.members → label_at o.uses o.members p ≡ [] → ¬ (member_holds o.uses m q ≡ member_holds o.uses m p) → 0 < length (label_at o.uses o.members q)
is_held o m p q below empty differ = by (member_holds o.uses m q) refl
  where
    by : (b : Bool) → member_holds o.uses m q ≡ b → 0 < length (label_at o.uses o.members q)
    by true is = let has = kept (λ i. member_holds o.uses i q) (numbers_below o.members) m (number_below o.members m below) is in let inside = has.1 in omega arith
    by false is = absurd (differ (is ∙ sym (not_held o m p below empty)))

module _ (o : Overlay) (live : IsLiveOverlay o) (r : ℕ) (gap : IsGap o r) where
  -- the region of the side n, whose side point is p
  number_is : (n : ℕ) (p : Point) → IsSide o.edges n p → IsRegionOf o.edges p (region_at o n)
  number_is n p h = live.regions.each n p h

  abbrev here : Point
  here = gap.region.at

  its_number : region_at o r ≡ r
  its_number = one_region o.edges here (region_at o r) r (number_is r here gap.region.side) gap.region.own

  empty : label_at o.uses o.members here ≡ []
  empty = sym (label_is o live here r gap.region.own) ∙ gap.empty

  pub held_beside : IsHeldBeside o r
  held_beside = by (side_of o.edges r here gap.region.side)
    where
      by : IsSideOf o.edges r here → IsHeldBeside o r
      by h = elim h.which [
        | inl up ↦ (
            let has : Contains o.edges h.e = (h.k, slice_get_within o.edges h.k h.e h.listed, get_or_from_slice_get o.edges h.k h.e h.e h.listed) in
            let m = side_holder o live h.e has in
            let there = lower_side o.edges h.k h.e h.listed in
            record {
              s = region_below o h.k;
              k = h.k;
              e = h.e;
              listed = h.listed;
              beside = inl (ap (region_at o) (sym up.0) ∙ its_number, refl);
              held = subst (λ l. 0 < length l) (sym (label_is o live (lower h.e) (region_below o h.k) (number_is (2 * h.k + 1) (lower h.e) there)))
                  (is_held o m.0 (upper h.e) (lower h.e) m.1.0 (subst (λ q. label_at o.uses o.members q ≡ []) up.1 empty) m.1.1);
            }
            )
        | inr down ↦ (
            let has : Contains o.edges h.e = (h.k, slice_get_within o.edges h.k h.e h.listed, get_or_from_slice_get o.edges h.k h.e h.e h.listed) in
            let m = side_holder o live h.e has in
            let there = upper_side o.edges h.k h.e h.listed in
            record {
              s = region_above o h.k;
              k = h.k;
              e = h.e;
              listed = h.listed;
              beside = inr (ap (region_at o) (sym down.0) ∙ its_number, refl);
              held = subst (λ l. 0 < length l) (sym (label_is o live (upper h.e) (region_above o h.k) (number_is (2 * h.k) (upper h.e) there)))
                  (is_held o m.0 (lower h.e) (upper h.e) m.1.0 (subst (λ q. label_at o.uses o.members q ≡ []) down.1 empty) (λ same. m.1.1 (sym same)));
            }
            )
      ]

-- ---- so its owner has a border with the gap

same_number : (a b : ℕ) → a ≡ b → (a == b) ≡ true
same_number a b e = (Decides-eqb a b).1 e

not_none : (n : ℕ) → 0 < n → not (n == 0) ≡ true
not_none n h = grind (arith, nat_tests)

counts : (o : Overlay) (k r s : ℕ) (passes : ℕ → Bool) → IsBetweenRegions o k r s → passes s ≡ true → is_border o r passes k ≡ true
counts o k r s passes (inl h) pass = or_left _ _ (and_from _ _ (same_number (region_above o k) r h.0) (ap passes h.1 ∙ pass))
counts o k r s passes (inr h) pass = or_right _ _ (and_from _ _ (same_number (region_below o k) r h.0) (ap passes h.1 ∙ pass))

is_its_member : (i : ℕ) (owner : Option ℕ) → owner ≡ Some i → is_member i owner ≡ true
is_its_member i None h = absurd (none-some i h)
is_its_member i (Some j) h = same_number j i (some_is j i h)

has_border : (o : Overlay) (owners : ℕ → Option ℕ) (r i : ℕ) (h : IsHeldBeside o r) → owners h.s ≡ Some i → 0 < owned_border o owners r i
has_border o owners r i h own =
    let passes : ℕ → Bool = λ g. not (length (label_of o g) == 0) && is_member i (owners g) in
    let pass : passes h.s ≡ true = and_from _ _ (not_none (length (label_of o h.s)) h.held) (is_its_member i (owners h.s) own) in
    let term = counted (λ p. cond (is_border o r passes p.0) (edge_length p.1) 0) o.edges h.k h.e h.listed in
    let is : cond (is_border o r passes h.k) (edge_length h.e) 0 ≡ edge_length h.e = ap (λ b. cond b (edge_length h.e) 0) (counts o h.k r h.s passes h.beside pass) in
    let some = has_length h.e in
    omega (arith, term, is, some)

-- ---- the neighbour

pub neighbour_by : (o : Overlay) (owners : ℕ → Option ℕ) (r i : ℕ) → i < o.members → 0 < owned_border o owners r i → (j : ℕ) × IsNeighbour o owners r j
neighbour_by o owners r i below some =
    let those = neighbours_of o owners r in
    let beats : ℕ → ℕ → Bool = λ i j. nat_lt (owned_border o owners r j) (owned_border o owners r i) in
    let has = kept (λ i. nat_lt 0 (owned_border o owners r i)) (numbers_below o.members) i (number_below o.members i below) (passes (owned_border o owners r i) some) in
    let any : 0 < length those = (let inside = has.1 in omega arith) in
    let within : first_best beats those < length those = (first_best_is beats (IsStrictWeakOrder-flip (λ i j. nat_lt (owned_border o owners r i) (owned_border o owners r j)) (IsStrictWeakOrder-by_number (λ i. owned_border o owners r i))) those any).0 in
    let j = get_or those (first_best beats those) 0 in
    let its = kept_is (λ i. nat_lt 0 (owned_border o owners r i)) (numbers_below o.members) j (Contains-get_or those (first_best beats those) 0 within) in (
      j,
      record {
        neighbour = slice_get-get_or those (first_best beats those) 0 within;
        below = below_number o.members j its.0;
        border = passed (owned_border o owners r j) its.1;
      },
    )
  where
    passes : (n : ℕ) → 0 < n → nat_lt 0 n ≡ true
    passes n h = grind (arith, nat_tests)

    passed : (n : ℕ) → nat_lt 0 n ≡ true → 0 < n
    passed n h = grind (arith, nat_tests)

pub gap_neighbour : {State : Type 0} (rule : Rule State) (state : State) (o : Overlay) (r : ℕ) → IsLiveOverlay o → IsLawful rule → IsGap o r
    → (i : ℕ) × IsNeighbour o (label_owner rule state o) r i
gap_neighbour rule state o r live law gap =
    let h = held_beside o live r gap in
    let owner = held_owner rule state o h.s law h.held in
    neighbour_by o (label_owner rule state o) r owner.0 (label_below o h.s owner.0 owner.1.1) (has_border o (label_owner rule state o) r owner.0 h owner.1.0)
