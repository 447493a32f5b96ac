-- Two squares that overlap have the one pair, that of the region in both.
use mathlib.Core.List.{[], ◌∷◌}
use Rattle.std.proofs.Common.{◌≡◌, inl, inr, refl, sym, ◌∙◌, ap, subst, ℕ, zero, suc, ◌+◌, ◌<◌, ◌≤◌, ◌%◌, ◌==◌, ◌||◌, Bool, true, false, true≢false, not, cond, List, map, ◌++◌, pos, arith}
use Rattle.std.specs.Prelude.{Contains, Option, Some, None, slice_get, unwrap_or, option_map, is_none}
use Rattle.std.specs.List.{list_all}
use Rattle.std.proofs.lemmas.Bool.{cases_lt, or_cases, not-true}
use Rattle.std.proofs.lemmas.Bool.Decides.{Decides-eqb}
use Rattle.std.proofs.lemmas.List.Elements.{All-from_recursion, All-contains}
use Rattle.std.proofs.lemmas.List.Sums.{AllPass-from_list_all}
use Rattle.std.proofs.lemmas.Option.{none-some, same_Some, slice_get_within}
use Rattle.cov_types.specs.declared.seg.Seg.{Seg}
use Rattle.plane.specs.Examples.{grid}
use Rattle.plane.specs.Joined.{Joined}
use Rattle.plane.specs.Label.{numbers_below}
use Rattle.plane.specs.Parity.{holds}
use Rattle.plane.specs.Point.{Point}
use Rattle.plane.specs.Ray.{sweep, Rises}
use Rattle.plane.specs.Region.{side_points, IsSide, IsJoinedSide}
use Rattle.plane.specs.Segment.{side, upper, lower}
use Rattle.crossing_laws.specs.Crossing.{IsSwept, HaveEvenEnds}
use Rattle.crossing_laws.proofs.Sums.{holds-joined}
use Rattle.crossing_laws.proofs.Ways.{joined-fewer}
use Rattle.arrangement.specs.Examples.{edge, overlap, overlap_edges}
use Rattle.arrangement.specs.Overlay.{IsRegion}
use Rattle.arrangement.proofs.LiveOverlays.{number_below}
use Rattle.arrangement.proofs.Short.{segs_in}
use Rattle.region_owners.proofs.Boxes.{Box, IsInBox, box_joined}
use Rattle.overlaid_laws.specs.declared.pair.Pair.{Pair}
use Rattle.overlaid_laws.specs.Examples.{pair, overlap_owners}
use Rattle.overlaid_laws.specs.Overlaid.{AreOverlaidOwners}
use Rattle.overlaid_laws.specs.Pairs.{region_pair, ArePairs}
use Rattle.overlaid_laws.proofs.Middle.{west, south, north, east}

-- ---- side 7 is the first in both squares

abbrev second_edges : List Seg
second_edges = edge 5 0 5 10 ++ edge 5 0 10 0 ++ edge 5 10 10 10 ++ edge 10 0 15 0 ++ edge 10 10 15 10 ++ edge 15 0 15 10

second_swept : IsSwept second_edges
unfolding sweep
second_swept = λ e has. All-contains Rises second_edges e (All-from_recursion Rises second_edges (record { lt = tt }, (record { lt = tt }, (record { lt = tt }, (record { lt = tt }, (record { lt = tt }, (record { lt = tt }, tt))))))) has

each_twice : (a b c d e f : ℕ) → (0 + (a + b) + (a + c) + (b + d) + (c + e) + (d + f) + (e + f)) % 2 ≡ 0
each_twice a b c d e f = omega arith

second_even : HaveEvenEnds second_edges
second_even = λ inside. each_twice (cond (inside (grid 5 0)) 1 0) (cond (inside (grid 5 10)) 1 0) (cond (inside (grid 10 0)) 1 0) (cond (inside (grid 10 10)) 1 0) (cond (inside (grid 15 0)) 1 0) (cond (inside (grid 15 10)) 1 0)

-- whether the second square holds the side point
abbrev held_side : ℕ → Bool
held_side n = unwrap_or (option_map (holds second_edges) (slice_get (side_points overlap_edges) n)) false

seven_outside : list_all (λ n. not (held_side n)) (numbers_below 7) ≡ true
unfolding sweep side
seven_outside = refl

middle_held : holds second_edges (lower west) ≡ true
unfolding sweep side
middle_held = refl

seven_least : (n : ℕ) → IsJoinedSide overlap_edges (lower west) n → 7 ≤ n
seven_least n h = elim (cases_lt n 7) [
  | inl less ↦ (
      let out = not-true (held_side n) (All-contains (λ k. not (held_side k) ≡ true) (numbers_below 7) n (AllPass-from_list_all (λ k. not (held_side k)) (numbers_below 7) seven_outside) (number_below 7 n less)) in
      let here : held_side n ≡ holds second_edges h.at = ap (λ found. unwrap_or (option_map (holds second_edges) found) false) h.side in
      let alike = holds-joined second_edges second_swept second_even (lower west) h.at (joined-fewer overlap_edges second_edges (segs_in second_edges overlap_edges refl) (lower west) h.at h.joined) in
      absurd (true≢false (sym middle_held ∙ alike ∙ sym here ∙ out))
      )
  | inr past ↦ past
]

abbrev in_both : Box
in_both = record { left = pos 5; right = pos 10; bottom = pos 0; top = pos 10 }

to_west : (p : Point) → IsInBox in_both p → Joined overlap_edges p (lower west)
to_west p h = box_joined overlap_edges in_both refl p (lower west) h (record { right_of = record { lt = tt }; left_of = record { lt = tt }; above = record { lt = tt }; below = record { lt = tt } })

pub seven : IsRegion overlap_edges 7
seven = record {
  at = lower west;
  side = refl;
  own = record {
    joined = record { at = lower west; side = refl; joined = to_west (lower west) (record { right_of = record { lt = tt }; left_of = record { lt = tt }; above = record { lt = tt }; below = record { lt = tt } }) };
    least = seven_least;
  };
}

-- ---- no other region has both

later_side : (k : ℕ) (p : Point) → IsSide overlap_edges k p → IsInBox in_both p → 7 < k → ¬ IsRegion overlap_edges k
later_side k p is inside later region =
    let same = same_Some p region.at (sym is ∙ region.side) in
    let way = subst (λ q. Joined overlap_edges q (lower west)) same (to_west p inside) in
    let least = region.own.least 7 (record { at = lower west; side = refl; joined = way }) in
    omega (arith, later, least)

-- the side has no pair, or is in both squares
abbrev is_told : ℕ → Bool
is_told n = is_none (region_pair 1 overlap n) || ((n == 7) || ((n == 8) || ((n == 11) || (n == 12))))

all_told : list_all is_told (numbers_below 20) ≡ true
unfolding sweep side
all_told = refl

only_seven : (r : ℕ) → IsRegion overlap_edges r → (r == 7) || ((r == 8) || ((r == 11) || (r == 12))) ≡ true → r ≡ 7
only_seven r region h = elim (or_cases _ _ h) [
  | inl seven ↦ (Decides-eqb r 7).0 seven
  | inr more ↦ elim (or_cases _ _ more) [
    | inl eight ↦ absurd (later_side 8 (upper south) refl (record { right_of = record { lt = tt }; left_of = record { lt = tt }; above = record { lt = tt }; below = record { lt = tt } }) (omega arith) (subst (IsRegion overlap_edges) ((Decides-eqb r 8).0 eight) region))
    | inr rest ↦ elim (or_cases _ _ rest) [
      | inl eleven ↦ absurd (later_side 11 (lower north) refl (record { right_of = record { lt = tt }; left_of = record { lt = tt }; above = record { lt = tt }; below = record { lt = tt } }) (omega arith) (subst (IsRegion overlap_edges) ((Decides-eqb r 11).0 eleven) region))
      | inr twelve ↦ absurd (later_side 12 (upper east) refl (record { right_of = record { lt = tt }; left_of = record { lt = tt }; above = record { lt = tt }; below = record { lt = tt } }) (omega arith) (subst (IsRegion overlap_edges) ((Decides-eqb r 12).0 twelve) region))
    ]
  ]
]

paired_is : (r : ℕ) (q : Pair) → IsRegion overlap_edges r → region_pair 1 overlap r ≡ Some q → r ≡ 7
paired_is r q region has =
    let within : r < 20 = slice_get_within (side_points overlap_edges) r region.at region.side in
    let told = All-contains (λ k. is_told k ≡ true) (numbers_below 20) r (AllPass-from_list_all is_told (numbers_below 20) all_told) (number_below 20 r within) in
    elim (or_cases _ _ told) [
      | inl none ↦ absurd (true≢false (sym none ∙ ap (λ (found : Option Pair). is_none found) has))
      | inr more ↦ only_seven r region more
    ]

seven_paired : region_pair 1 overlap 7 ≡ Some (pair 0 0)
unfolding sweep side
seven_paired = refl

pair_is : (r : ℕ) (q : Pair) → IsRegion overlap_edges r → region_pair 1 overlap r ≡ Some q → pair 0 0 ≡ q
pair_is r q region has =
    let there : region_pair 1 overlap 7 ≡ Some q = subst (λ k. region_pair 1 overlap k ≡ Some q) (paired_is r q region has) has in
    same_Some (pair 0 0) q (sym seven_paired ∙ there)

-- ---- the list of pairs, and the owners

pub overlap_pairs : ArePairs 1 overlap (pair 0 0 ∷ [])
overlap_pairs = record {
  ascending = λ i j d less within. absurd (omega (arith, less, within));
  exact = λ q. (
    (λ has. record { region = 7; is_region = seven; has = seven_paired ∙ ap Some (only q has) }),
    (λ h. (0, omega arith, pair_is h.region q h.is_region h.has)),
  );
}
  where
    only : (q : Pair) → Contains (pair 0 0 ∷ []) q → pair 0 0 ≡ q
    only q (zero, within, is) = is
    only q (suc k, within, is) = absurd (omega arith)

pub some_pair : ¬ ArePairs 1 overlap []
some_pair h = let has = (h.exact (pair 0 0)).1 (record { region = 7; is_region = seven; has = seven_paired }) in let within = has.1 in omega (arith, within)

pub are_owners : AreOverlaidOwners 1 overlap (pair 0 0 ∷ []) overlap_owners
are_owners = record {
  placed = λ r q region has. record { place = 0; listed = ap Some (pair_is r q region has); owned = ap overlap_owners (paired_is r q region has) };
  free = λ r region none. free r none (r == 7) refl;
}
  where
    free : (r : ℕ) → region_pair 1 overlap r ≡ None → (b : Bool) → (r == 7) ≡ b → cond {A = Option ℕ} b (Some 0) None ≡ None
    free r none true is = absurd (none-some (pair 0 0) (sym (subst (λ k. region_pair 1 overlap k ≡ None) ((Decides-eqb r 7).0 is) none) ∙ seven_paired))
    free r none false is = refl

pub labelled : map (region_pair 1 overlap) (0 ∷ 1 ∷ 7 ∷ 13 ∷ []) ≡ None ∷ None ∷ Some (pair 0 0) ∷ None ∷ []
unfolding sweep side
labelled = refl
