-- What the uses of a polygon of a part add up to: a sum over the edges with the part on one side alone.
use mathlib.Core.List.{[], ◌∷◌}
use Rattle.std.proofs.Common.{◌≡◌, refl, sym, ◌∙◌, ap, ℕ, ◌+◌, Bool, true, false, not, cond, List, map, arith}
use Rattle.std.specs.Prelude.{sum_by, flat_map, option_to_list, Option}
use Rattle.std.specs.List.{enumerate_from}
use Rattle.std.proofs.lemmas.List.Sums.{sum_by-cons, sum_by-append}
use Rattle.std.proofs.lemmas.List.Sorted.{sum_by-IsPermutation}
use Rattle.cov_types.specs.declared.coord.Coord.{Coord}
use Rattle.cov_types.specs.declared.edge_use.EdgeUse.{EdgeUse}
use Rattle.cov_types.specs.declared.seg.Seg.{Seg}
use Rattle.cov_types.specs.Uses.{sides, side_uses, ring_uses, poly_uses}
use Rattle.cov_types.proofs.Between.{seg_between-ordered, seg_between-reversed}
use Rattle.arrangement.specs.Overlay.{Overlay, numbered_edges, region_above, region_below}
use Rattle.sound_polygons.specs.Parts.{boundary_way, boundary, GoRoundPart}
use Rattle.sound_polygons.proofs.NextWays.{Way}
use Rattle.cleaned_laws.proofs.Sums.{sum_flat}

-- just one of the two tests passes
abbrev pub differ : Bool → Bool → Bool
differ true b = not b
differ false b = b

-- n where just one of the two tests passes
abbrev pub if_one : Bool → Bool → ℕ → ℕ
if_one a b n = cond (differ a b) n 0

-- the value of an edge with just one side in a region inside
abbrev pub boundary_value : Overlay → (Seg → ℕ) → (ℕ → Bool) → ℕ × Seg → ℕ
boundary_value o value inside p = if_one (inside (region_above o p.0)) (inside (region_below o p.0)) (value p.1)

-- the sum of these values
abbrev pub boundary_total : Overlay → (Seg → ℕ) → (ℕ → Bool) → ℕ
boundary_total o value inside = sum_by (boundary_value o value inside) (numbered_edges o)

module _ (o : Overlay) (i : ℕ) (f : EdgeUse → ℕ) where
  -- the value of the member's use of an edge
  abbrev pub use_value : Seg → ℕ
  use_value e = f (record { member = i; seg = e })

  abbrev side_sum : Way → ℕ
  side_sum side = sum_by f (side_uses i side)

  rings_sum : (rings : List (List Coord)) → sum_by f (poly_uses i rings) ≡ sum_by side_sum (flat_map sides rings)
  rings_sum [] = refl
  rings_sum (ring ∷ rings) =
      sum_by-append f (ring_uses i ring) (poly_uses i rings)
      ∙ (λ j. sum_flat f (side_uses i) (sides ring) j + rings_sum rings j)
      ∙ sym (sum_by-append side_sum (sides ring) (flat_map sides rings))

  of_found : (found : Option Seg) → ℕ
  of_found found = sum_by f (map (λ s. record { member = i; seg = s }) (option_to_list found))

  single : (e : Seg) → sum_by f (record { member = i; seg = e } ∷ []) ≡ use_value e
  single e = omega (arith, sum_by-cons f (record { member = i; seg = e }) [])

  up : (e : Seg) → side_sum (e.lo, e.hi) ≡ use_value e
  unfolding of_found
  up e = ap of_found (seg_between-ordered e.lo e.hi e refl refl) ∙ single e

  down : (e : Seg) → side_sum (e.hi, e.lo) ≡ use_value e
  unfolding of_found
  down e = ap of_found (seg_between-reversed e.hi e.lo e refl refl) ∙ single e

  one_edge : (a b : Bool) (e : Seg) → sum_by side_sum (boundary_way a b e) ≡ if_one a b (use_value e)
  one_edge true false e = omega (arith, sum_by-cons side_sum (e.lo, e.hi) [], up e)
  one_edge false true e = omega (arith, sum_by-cons side_sum (e.hi, e.lo) [], down e)
  one_edge true true e = refl
  one_edge false false e = refl

  module _ (inside : ℕ → Bool) where
    abbrev way_round : ℕ × Seg → List Way
    way_round p = boundary_way (inside (region_above o p.0)) (inside (region_below o p.0)) p.1

    numbered_sum : (n : ℕ) (es : List Seg) → sum_by side_sum (flat_map way_round (enumerate_from n es)) ≡ sum_by (boundary_value o use_value inside) (enumerate_from n es)
    numbered_sum n [] = refl
    numbered_sum n (e ∷ es) =
        sum_by-append side_sum (way_round (n, e)) (flat_map way_round (enumerate_from (n + 1) es))
        ∙ (λ j. one_edge (inside (region_above o n)) (inside (region_below o n)) e j + numbered_sum (n + 1) es j)
        ∙ sym (sum_by-cons (boundary_value o use_value inside) (n, e) (enumerate_from (n + 1) es))

    pub part_sum : (rings : List (List Coord)) → GoRoundPart o inside rings → sum_by f (poly_uses i rings) ≡ boundary_total o use_value inside
    part_sum rings round = rings_sum rings ∙ sym (sum_by-IsPermutation side_sum (flat_map sides rings) (boundary o inside) round) ∙ numbered_sum 0 o.edges
