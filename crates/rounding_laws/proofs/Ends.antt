-- The ends of a chain, and of its edges: the chain goes from lo to hi, its centres and its edges are different,
-- and of any set of points its edges have as many ends in it as its segment, up to an even number.
use mathlib.Core.List.{[], ◌∷◌}
use Rattle.std.proofs.Common.{◌≡◌, ◌⊎◌, inl, inr, refl, sym, ◌∙◌, ap, subst, ℕ, zero, suc, ◌+◌, ◌%◌, ◌<◌, Bool, true, false, cond, List, ◌++◌, length, get_or, Option, Some, None, pos, ◌*ℤ◌, arith}
use Rattle.std.specs.Prelude.{Contains, AllPairs, sum_by, option_to_list}
use Rattle.std.proofs.lemmas.Bool.{cases_lt, false≢true}
use Rattle.std.proofs.lemmas.List.{get_or_default}
use Rattle.std.proofs.lemmas.List.Elements.{Contains-get_or}
use Rattle.std.proofs.lemmas.List.Sums.{sum_by-append}
use Rattle.integer_laws.proofs.Ring.{lin, mul_one}
use Rattle.integer_laws.proofs.Compare.{le_of_lt, lt_irrefl, lt_excludes_le}
use Rattle.cov_types.specs.declared.coord.Coord.{Coord}
use Rattle.cov_types.specs.declared.seg.Seg.{Seg}
use Rattle.cov_types.specs.Coord.{is_before}
use Rattle.cov_types.specs.Seg.{IsSegBetween}
use Rattle.cov_types.specs.Uses.{seg_if, seg_between, ends_inside}
use Rattle.cov_types.proofs.Order.{cases_coords}
use Rattle.plane.specs.Point.{at_coord}
use Rattle.plane.specs.Ray.{sweep, Rises}
use Rattle.plane.specs.Snapping.{IsInPixel, IsChain, chain_edges}
use Rattle.plane.proofs.Points.{first_between, second_between}
use Rattle.plane.proofs.Sweeps.{sweep-on_from, sweep-on_to}
use Rattle.rounding_laws.proofs.Near.{pixel_own}
use Rattle.rounding_laws.proofs.Pieces.{point_in, in_order}
use Rattle.rounding_laws.proofs.Edges.{lo_hot_met, hi_hot_met, seg_between-ends, edge_stands}

-- ---- the ends of the chain

module _ (segs : List Seg) (s : Seg) (c : List Coord) (rises : Rises s) (chain : IsChain segs s c) where
  -- the centres of a chain are different
  pub centres_differ : AllPairs (λ a b. ¬ (a ≡ b)) c
  centres_differ i j d before within same =
      let p = point_in segs s c rises chain (get_or c i d) (Contains-get_or c i d (omega arith)) in
      let moved = subst (λ (r : Coord). IsInPixel p.0 r) same p.1.1 in
      lt_irrefl (in_order segs s c rises chain i j d before within p.0 p.0 p.1.0 p.1.1 p.1.0 moved)

  module _ (has : Contains segs s) where
    lo_at : Contains c s.lo
    lo_at = (chain.members s.lo).1 (lo_hot_met segs s has)

    hi_at : Contains c s.hi
    hi_at = (chain.members s.hi).1 (hi_hot_met segs s has)

    -- the chain begins at lo
    lo_first : (k : ℕ) → k < length c → get_or c k s.lo ≡ s.lo → k ≡ 0
    lo_first zero within is = refl
    lo_first (suc k) within is =
        let p = point_in segs s c rises chain (get_or c 0 s.lo) (Contains-get_or c 0 s.lo (omega arith)) in
        let own = subst (λ (r : Coord). IsInPixel (at_coord s.lo) r) (sym is) (pixel_own s.lo) in
        let below = in_order segs s c rises chain 0 (suc k) s.lo (omega arith) within p.0 (at_coord s.lo) p.1.0 p.1.1 (first_between (at_coord s.lo) (at_coord s.hi)) own in
        let above = sweep-on_from s p.0 (le_of_lt rises) p.1.0 in
        absurd (lt_excludes_le {x = sweep p.0} {y = sweep (at_coord s.lo) *ℤ pos p.0.d} (omega (arith, lin, mul_one (sweep p.0))) above)

    pub begins_at_lo : (d : Coord) → (0 < length c) × (get_or c 0 d ≡ s.lo)
    begins_at_lo d =
        let zeroth = lo_first lo_at.0 lo_at.1 lo_at.2 in
        let within : 0 < length c = (let w = lo_at.1 in omega arith) in
        (within, get_or_default c 0 d s.lo within ∙ (λ i. get_or c (sym zeroth i) s.lo) ∙ lo_at.2)

    -- and ends at hi
    hi_last : (k : ℕ) → suc k < length c → get_or c k s.hi ≡ s.hi → ⊥
    hi_last k within is =
        let q = point_in segs s c rises chain (get_or c (suc k) s.hi) (Contains-get_or c (suc k) s.hi within) in
        let own = subst (λ (r : Coord). IsInPixel (at_coord s.hi) r) (sym is) (pixel_own s.hi) in
        let below = in_order segs s c rises chain k (suc k) s.hi (omega arith) within (at_coord s.hi) q.0 (second_between (at_coord s.lo) (at_coord s.hi)) own q.1.0 q.1.1 in
        let above = sweep-on_to s q.0 (le_of_lt rises) q.1.0 in
        lt_excludes_le {x = sweep (at_coord s.hi) *ℤ pos q.0.d} {y = sweep q.0} (omega (arith, lin, mul_one (sweep q.0))) above

    pub ends_at_hi : (k : ℕ) (d : Coord) → suc k ≡ length c → get_or c k d ≡ s.hi
    ends_at_hi k d last =
        elim (cases_lt (suc hi_at.0) (length c)) [
          | inl l ↦ absurd (hi_last hi_at.0 l hi_at.2)
          | inr g ↦ (
              let w = hi_at.1 in
              let same : k ≡ hi_at.0 = omega arith in
              get_or_default c k d s.hi (omega arith) ∙ (λ i. get_or c (same i) s.hi) ∙ hi_at.2)
        ]

-- ---- different edges

-- one in front of a list
pairs_cons : (e : Seg) (es : List Seg) → ((f : Seg) → Contains es f → ¬ (e ≡ f)) → AllPairs (λ x y. ¬ (x ≡ y)) es → AllPairs (λ x y. ¬ (x ≡ y)) (e ∷ es)
pairs_cons e es apart rest i zero d before within = absurd (omega arith)
pairs_cons e es apart rest zero (suc j) d before within = apart (get_or es j d) (Contains-get_or es j d (omega arith))
pairs_cons e es apart rest (suc i) (suc j) d before within = rest i j d (omega arith) (omega arith)

pairs_option : (o : Option Seg) (es : List Seg) → ((e f : Seg) → Contains (option_to_list o) e → Contains es f → ¬ (e ≡ f)) → AllPairs (λ x y. ¬ (x ≡ y)) es
    → AllPairs (λ x y. ¬ (x ≡ y)) (option_to_list o ++ es)
pairs_option None es apart rest = rest
pairs_option (Some e) es apart rest = pairs_cons e es (λ f has. apart e f (0, omega arith, refl) has) rest

pairs_tail : (a : Coord) (c : List Coord) → AllPairs (λ x y. ¬ (x ≡ y)) (a ∷ c) → AllPairs (λ x y. ¬ (x ≡ y)) c
pairs_tail a c h i j d before within = h (suc i) (suc j) d (omega arith) (omega arith)

-- an end of an edge of the rest is no earlier centre
not_later : (a : Coord) (c : List Coord) (e : Seg) → AllPairs (λ x y. ¬ (x ≡ y)) (a ∷ c) → Contains (chain_edges c) e → ¬ ((a ≡ e.lo) ⊎ (a ≡ e.hi))
not_later a c e differ has h =
    let stands = edge_stands c e has in
    let i = stands.0 in
    let within = stands.1.within in
    let at_i = λ (is : a ≡ get_or c i a). differ 0 (suc i) a (omega arith) (omega arith) is in
    let at_next = λ (is : a ≡ get_or c (suc i) a). differ 0 (suc (suc i)) a (omega arith) (omega arith) is in
    elim (stands.1.between a) [
      | inl ends ↦ elim h [ inl lo ↦ at_i (lo ∙ ends.0) | inr hi ↦ at_next (hi ∙ ends.1) ]
      | inr ends ↦ elim h [ inl lo ↦ at_next (lo ∙ ends.0) | inr hi ↦ at_i (hi ∙ ends.1) ]
    ]

first_end : (a b : Coord) (e f : Seg) → IsSegBetween a b e → e ≡ f → (a ≡ f.lo) ⊎ (a ≡ f.hi)
first_end a b e f (inl ends) same = inl (sym ends.0 ∙ ap (λ (s : Seg). s.lo) same)
first_end a b e f (inr ends) same = inr (sym ends.1 ∙ ap (λ (s : Seg). s.hi) same)

pub edges_differ : (c : List Coord) → AllPairs (λ a b. ¬ (a ≡ b)) c → AllPairs (λ e f. ¬ (e ≡ f)) (chain_edges c)
edges_differ [] differ = λ i j d before within. absurd (omega arith)
edges_differ (a ∷ []) differ = λ i j d before within. absurd (omega arith)
edges_differ (a ∷ b ∷ c) differ =
    pairs_option (seg_between a b) (chain_edges (b ∷ c))
    (λ e f has_e has_f same. not_later a (b ∷ c) f differ has_f (first_end a b e f (seg_between-ends a b e has_e) same))
    (edges_differ (b ∷ c) (pairs_tail a (b ∷ c) differ))

-- ---- an even number of ends

-- 1 where the point passes the test, else 0
abbrev counted : (Coord → Bool) → Coord → ℕ
counted inside a = cond (inside a) 1 0

module _ (inside : Coord → Bool) where
  -- the segment from a to b, where the test of their order is true
  ends_if : (a b : Coord) (t : Bool) (is : is_before a b ≡ t) (other : Option Seg)
      → (sum_by (ends_inside inside) (option_to_list (seg_if a b t is other)) ≡ counted inside a + counted inside b)
      ⊎ ((is_before a b ≡ false) × (sum_by (ends_inside inside) (option_to_list (seg_if a b t is other)) ≡ sum_by (ends_inside inside) (option_to_list other)))
  ends_if a b true is other = inl (omega arith)
  ends_if a b false is other = inr (is, refl)

  ends_between : (a b : Coord) → sum_by (ends_inside inside) (option_to_list (seg_between a b)) % 2 ≡ (counted inside a + counted inside b) % 2
  ends_between a b =
      elim (ends_if a b (is_before a b) refl (seg_if b a (is_before b a) refl None)) [
        | inl forward ↦ ap (λ n. n % 2) forward
        | inr not_forward ↦ elim (ends_if b a (is_before b a) refl None) [
          | inl back ↦ ap (λ n. n % 2) (not_forward.1 ∙ back ∙ add_comm (counted inside b) (counted inside a))
          | inr not_back ↦ ap (λ n. n % 2) (not_forward.1 ∙ not_back.1) ∙ twice (same a b not_forward.0 not_back.0)
        ]
      ]
    where
      add_comm : (m n : ℕ) → m + n ≡ n + m
      add_comm m n = omega arith

      same : (a b : Coord) → is_before a b ≡ false → is_before b a ≡ false → a ≡ b
      same a b h k =
          elim (cases_coords a b) [
            | inl before ↦ absurd (false≢true (sym h ∙ before))
            | inr rest ↦ elim rest [
              | inl e ↦ e
              | inr after ↦ absurd (false≢true (sym k ∙ after))
            ]
          ]

      twice : a ≡ b → 0 % 2 ≡ (counted inside a + counted inside b) % 2
      twice e = let level = ap (λ v. counted inside v) e in omega arith

  -- the last of a list that begins with a
  abbrev last_of : Coord → List Coord → Coord
  last_of a [] = a
  last_of a (b ∷ c) = last_of b c

  ends_of_chain : (a : Coord) (c : List Coord) → sum_by (ends_inside inside) (chain_edges (a ∷ c)) % 2 ≡ (counted inside a + counted inside (last_of a c)) % 2
  ends_of_chain a [] = omega arith
  ends_of_chain a (b ∷ c) =
      let sum = sum_by-append (ends_inside inside) (option_to_list (seg_between a b)) (chain_edges (b ∷ c)) in
      let first = ends_between a b in
      let rest = ends_of_chain b c in
      parity (sum_by (ends_inside inside) (option_to_list (seg_between a b))) (sum_by (ends_inside inside) (chain_edges (b ∷ c)))
      (sum_by (ends_inside inside) (chain_edges (a ∷ b ∷ c))) (counted inside a) (counted inside b) (counted inside (last_of b c)) sum first rest
    where
      parity : (m n k x y z : ℕ) → k ≡ m + n → m % 2 ≡ (x + y) % 2 → n % 2 ≡ (y + z) % 2 → k % 2 ≡ (x + z) % 2
      parity m n k x y z e f g = omega arith

  last_at : (a : Coord) (c : List Coord) (d : Coord) → get_or (a ∷ c) (length c) d ≡ last_of a c
  last_at a [] d = refl
  last_at a (b ∷ c) d = last_at b c d

  -- from the first centre to the last
  even_from : (s : Seg) (c : List Coord) → (0 < length c) × (get_or c 0 s.lo ≡ s.lo) → ((k : ℕ) → suc k ≡ length c → get_or c k s.lo ≡ s.hi)
      → sum_by (ends_inside inside) (chain_edges c) % 2 ≡ ends_inside inside s % 2
  even_from s [] first last = absurd (omega (arith, first.0))
  even_from s (a ∷ c) first last =
      let at_lo = ap (λ v. counted inside v) first.1 in
      let at_hi = ap (λ v. counted inside v) (sym (last_at a c s.lo) ∙ last (length c) refl) in
      let ends = ends_of_chain a c in
      omega arith

-- of any set of points the edges of a chain have as many ends in it as the segment, up to an even number
pub even_ends : (segs : List Seg) (s : Seg) (c : List Coord) → Rises s → Contains segs s → IsChain segs s c → (inside : Coord → Bool)
    → sum_by (ends_inside inside) (chain_edges c) % 2 ≡ ends_inside inside s % 2
even_ends segs s c rises has chain inside =
    even_from inside s c (begins_at_lo segs s c rises chain has s.lo) (λ k last. ends_at_hi segs s c rises chain has k s.lo last)
