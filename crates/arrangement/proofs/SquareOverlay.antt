-- The overlay of the square of size 10: its sides are their own chains, and its edges are live.
use mathlib.Core.List.{[], ◌∷◌}
use Rattle.std.proofs.Common.{◌≡◌, ◌⊎◌, inl, inr, refl, sym, ◌∙◌, subst, ℕ, zero, suc, ◌<◌, ◌==◌, ◌&&◌, List, ◌++◌, IsTrue, arith}
use Rattle.std.specs.Prelude.{Contains, Some, slice_get}
use Rattle.std.proofs.lemmas.Bool.{and_parts}
use Rattle.std.proofs.lemmas.Bool.Decides.{Decides-eqb}
use Rattle.std.proofs.lemmas.Int.{ints}
use Rattle.std.proofs.lemmas.List.Elements.{All-from_recursion, All-contains}
use Rattle.std.proofs.lemmas.Option.{slice_get_within}
use Rattle.cov_types.specs.declared.coord.Coord.{Coord}
use Rattle.cov_types.specs.declared.edge_use.EdgeUse.{EdgeUse}
use Rattle.cov_types.specs.declared.seg.Seg.{Seg}
use Rattle.cov_types.specs.Seg.{is_seg_before}
use Rattle.cov_types.specs.Uses.{ring_uses}
use Rattle.plane.specs.Examples.{grid, left, bottom, top, right, square}
use Rattle.plane.specs.Noded.{MeetInEnds, IsNodedFully}
use Rattle.plane.specs.Point.{Point}
use Rattle.plane.specs.Ray.{sweep, Rises}
use Rattle.plane.specs.Contact.{IsOnlyCommon}
use Rattle.plane.specs.Segment.{IsEnd}
use Rattle.plane.specs.Snapping.{IsHot, MeetsPixel, IsChain}
use Rattle.plane.proofs.Contacts.{two_with_itself, one_is_not_two}
use Rattle.crossing_laws.specs.Across.{is_same_seg}
use Rattle.rounding_laws.specs.Formulas.{ComesFirst, IsBeside}
use Rattle.rounding_laws.proofs.Edges.{lo_hot_met, hi_hot_met}
use Rattle.rounding_laws.proofs.Lone.{chain_by_centres}
use Rattle.rounding_laws.proofs.Meets.{meets-is}
use Rattle.arrangement.specs.declared.odd_use.OddUse.{OddUse}
use Rattle.arrangement.specs.Examples.{at, pairs}
use Rattle.arrangement.specs.Noding.{IsOdd, is_odd_before, AreOddPairs, AreLiveEdges, AreSnapped}
use Rattle.arrangement.specs.Overlay.{IsSnappedOverlay}
use Rattle.arrangement.specs.Square.{shell, square_edges, lone, SquareExamples}
use Rattle.arrangement.proofs.HalfCrossing.{own_pixel}
use Rattle.arrangement.proofs.OddUses.{odd_used, some_passes}
use Rattle.arrangement.proofs.Short.{AllPairs-from_recursion, segs_in}
use Rattle.arrangement.proofs.Squares.{square_noded}
use Rattle.arrangement.proofs.SquareRegions.{square_regions}

-- ---- hot pixels and chains

pub noded : IsNodedFully square
noded e f has_e has_f = square_noded e f (segs_in square square_edges refl e has_e) (segs_in square square_edges refl f has_f)

-- where segments meet in ends alone, each hot pixel is that of an end
record IsEndPixel (r : Coord) : Type 0 where
  of : Seg
  listed : Contains square of
  is : (of.lo ≡ r) ⊎ (of.hi ≡ r)

no_crossing : (s t : Seg) (p : Point) → MeetInEnds s t → IsOnlyCommon s t p → ¬ IsEnd s p → ⊥
no_crossing s t p (inl same) only not_end = one_is_not_two s t p only (two_with_itself s t same)
no_crossing s t p (inr ends) only not_end = not_end (ends p only.common).0

hot_is_end : (r : Coord) → IsHot square r → IsEndPixel r
hot_is_end r (p, (inside, inl (s, (has, inl same)))) = record { of = s; listed = has; is = inl (own_pixel p s.lo r same inside) }
hot_is_end r (p, (inside, inl (s, (has, inr same)))) = record { of = s; listed = has; is = inr (own_pixel p s.hi r same inside) }
hot_is_end r (p, (inside, inr (s, (t, (has_s, has_t, only, not_s, not_t))))) = absurd (no_crossing s t p (noded s t has_s has_t) only not_s)

record HoldsAtEnds (P : Coord → Type 0) (e : Seg) : Type 0 where
  lo : P e.lo
  hi : P e.hi

-- a fact of the four corners is one of each hot pixel
by_corner : (P : Coord → Type 0) → P (grid 0 0) → P (grid 0 10) → P (grid 10 0) → P (grid 10 10) → (r : Coord) → IsHot square r → P r
by_corner P p q s t r hot =
    let found = hot_is_end r hot in
    let both = All-contains (HoldsAtEnds P) square found.of (All-from_recursion (HoldsAtEnds P) square (
      record { lo = p; hi = s },
      (record { lo = s; hi = t }, (record { lo = q; hi = t }, (record { lo = p; hi = q }, tt))),
    )) found.listed in
    elim found.is [ inl lo ↦ subst P lo both.lo | inr hi ↦ subst P hi both.hi ]

-- the chain of a side is its two ends where it meets no other corner
abbrev IsHotAndMet : Seg → Coord → Type 0
IsHotAndMet s r = IsHot square r × MeetsPixel s r

two_ends : (s : Seg) → Rises s → Contains square s → ((r : Coord) → IsHot square r → MeetsPixel s r → Contains (s.lo ∷ s.hi ∷ []) r) → ComesFirst s s.lo s.hi → IsChain square s (s.lo ∷ s.hi ∷ [])
two_ends s rises has every ordered =
    chain_by_centres square s (s.lo ∷ s.hi ∷ []) rises
    (λ r. (
      (λ i. All-contains (IsHotAndMet s) (s.lo ∷ s.hi ∷ []) r (All-from_recursion (IsHotAndMet s) (s.lo ∷ s.hi ∷ []) (lo_hot_met square s has, (hi_hot_met square s has, tt))) i),
      (λ h. every r h.0 h.1),
    ))
    (AllPairs-from_recursion (ComesFirst s) (s.lo ∷ s.hi ∷ []) ((ordered, tt), (tt, tt)))

-- the other corners are beyond the ends of the side, in x or in y
missed : (s : Seg) (r : Coord) → (IsBeside s r → ⊥) → MeetsPixel s r → Contains (s.lo ∷ s.hi ∷ []) r
missed s r misses met = absurd (misses ((meets-is s r).0 met))

left_misses : (y : ℕ) → IsBeside left (grid 10 y) → ⊥
left_misses y h = let t = h.to in omega (arith, ints)

right_misses : (y : ℕ) → IsBeside right (grid 0 y) → ⊥
right_misses y h = let t = h.from in omega (arith, ints)

bottom_misses : (x : ℕ) → IsBeside bottom (grid x 10) → ⊥
bottom_misses x h = elim h.within [ inl up ↦ (let b = up.to in omega (arith, ints)) | inr down ↦ (let b = down.down in omega (arith, ints)) ]

top_misses : (x : ℕ) → IsBeside top (grid x 0) → ⊥
top_misses x h = elim h.within [ inl up ↦ (let b = up.from in omega (arith, ints)) | inr down ↦ (let b = down.down in omega (arith, ints)) ]

abbrev first : (s : Seg) → MeetsPixel s s.lo → Contains (s.lo ∷ s.hi ∷ []) s.lo
first s met = (0, omega arith, refl)

abbrev second : (s : Seg) → MeetsPixel s s.hi → Contains (s.lo ∷ s.hi ∷ []) s.hi
second s met = (1, omega arith, refl)

bottom_chain : IsChain square bottom (at 0 0 ++ at 10 0)
unfolding sweep
bottom_chain = two_ends bottom (record { lt = tt }) (0, omega arith, refl) (by_corner (λ r. MeetsPixel bottom r → Contains (at 0 0 ++ at 10 0) r) (first bottom) (missed bottom (grid 0 10) (bottom_misses 0)) (second bottom) (missed bottom (grid 10 10) (bottom_misses 10))) (inl (record { lt = tt }))

right_chain : IsChain square right (at 10 0 ++ at 10 10)
unfolding sweep
right_chain = two_ends right (record { lt = tt }) (1, omega arith, refl) (by_corner (λ r. MeetsPixel right r → Contains (at 10 0 ++ at 10 10) r) (missed right (grid 0 0) (right_misses 0)) (missed right (grid 0 10) (right_misses 10)) (first right) (second right)) (inr (refl, inl (record { le = tt }, record { lt = tt })))

top_chain : IsChain square top (at 0 10 ++ at 10 10)
unfolding sweep
top_chain = two_ends top (record { lt = tt }) (2, omega arith, refl) (by_corner (λ r. MeetsPixel top r → Contains (at 0 10 ++ at 10 10) r) (missed top (grid 0 0) (top_misses 0)) (first top) (missed top (grid 10 0) (top_misses 10)) (second top)) (inl (record { lt = tt }))

left_chain : IsChain square left (at 0 0 ++ at 0 10)
unfolding sweep
left_chain = two_ends left (record { lt = tt }) (3, omega arith, refl) (by_corner (λ r. MeetsPixel left r → Contains (at 0 0 ++ at 0 10) r) (first left) (second left) (missed left (grid 10 0) (left_misses 0)) (missed left (grid 10 10) (left_misses 10))) (inr (refl, inl (record { le = tt }, record { lt = tt })))

abbrev uses : List EdgeUse
uses = ring_uses 0 shell

square_snapped : AreSnapped uses uses
square_snapped = record {
  chains = (at 0 0 ++ at 10 0) ∷ (at 10 0 ++ at 10 10) ∷ (at 0 10 ++ at 10 10) ∷ (at 0 0 ++ at 0 10) ∷ [];
  are_chains = (bottom_chain, (right_chain, (top_chain, (left_chain, tt))));
  made = refl;
}

-- ---- live edges and odd pairs

abbrev four_pairs : List OddUse
four_pairs = pairs 0 (0 ∷ 1 ∷ 2 ∷ 3 ∷ [])

abbrev StandsForEdge : OddUse → Type 0
StandsForEdge o = (e : Seg) × ((slice_get square_edges o.edge ≡ Some e) × IsOdd uses o.member e)

-- only the member 0 has odd edges
odd_member : (m : ℕ) (e : Seg) → IsOdd uses m e → m ≡ 0
odd_member m e h =
    let found = some_passes (λ u. (u.member == m) && is_same_seg e u.seg) uses h in
    let its = (Decides-eqb (found.0).member m).0 (and_parts _ _ found.1.1).0 in
    sym its ∙ All-contains (λ u. u.member ≡ 0) uses found.0 (All-from_recursion (λ u. u.member ≡ 0) uses (refl, (refl, (refl, (refl, tt))))) found.1.0

pair_at : (m k : ℕ) → m ≡ 0 → k < 4 → Contains four_pairs (record { member = m; edge = k })
pair_at m zero none below = (0, omega arith, λ i. record { member = sym none i; edge = 0 })
pair_at m (suc zero) none below = (1, omega arith, λ i. record { member = sym none i; edge = 1 })
pair_at m (suc (suc zero)) none below = (2, omega arith, λ i. record { member = sym none i; edge = 2 })
pair_at m (suc (suc (suc zero))) none below = (3, omega arith, λ i. record { member = sym none i; edge = 3 })
pair_at m (suc (suc (suc (suc k)))) none below = absurd (omega arith)

square_pairs : AreOddPairs uses square_edges four_pairs
square_pairs = record {
  ascending = AllPairs-from_recursion (λ o p. IsTrue (is_odd_before o p)) four_pairs ((refl, (refl, (refl, tt))), ((refl, (refl, tt)), ((refl, tt), (tt, tt))));
  exact = λ o. (
    (λ has. All-contains StandsForEdge four_pairs o (All-from_recursion StandsForEdge four_pairs ((left, (refl, refl)), ((bottom, (refl, refl)), ((top, (refl, refl)), ((right, (refl, refl)), tt))))) has),
    (λ h. pair_at o.member o.edge (odd_member o.member h.0 h.1.1) (slice_get_within square_edges o.edge h.0 h.1.0)),
  );
}

abbrev IsOddForSome : Seg → Type 0
IsOddForSome e = (m : ℕ) × IsOdd uses m e

square_live : AreLiveEdges uses square_edges four_pairs
square_live = record {
  ascending = AllPairs-from_recursion (λ e f. IsTrue (is_seg_before e f)) square_edges ((refl, (refl, (refl, tt))), ((refl, (refl, tt)), ((refl, tt), (tt, tt))));
  exact = λ e. (
    (λ has. All-contains IsOddForSome square_edges e (All-from_recursion IsOddForSome square_edges ((0, refl), ((0, refl), ((0, refl), ((0, refl), tt))))) has),
    (λ h. segs_in square square_edges refl e (odd_used uses h.0 e h.1)),
  );
  pairs = square_pairs;
}

pub square_overlay : IsSnappedOverlay uses 1 lone
square_overlay = record {
  snapped = uses;
  are_snapped = square_snapped;
  overlay = record { odd = four_pairs; live = square_live; by_odd = refl; count = refl; numbered = square_regions };
}

pub square_examples : SquareExamples
square_examples = record { regions = square_regions; overlay = square_overlay }
