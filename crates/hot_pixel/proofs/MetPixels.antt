-- The centres that a segment meets: among those near it, all that it meets.
use mathlib.Core.List.{[], ◌∷◌}
use Rattle.std.proofs.Common.{◌≡◌, ◌⊎◌, inl, inr, sym, ◌∙◌, ap, subst, ℕ, ◌+◌, ◌<◌, ◌≤◌, ◌≤ℤ◌, ◌↔◌, Bool, List, ◌++◌, get_or, length, map, take, true, Some, slice_get, arith}
use Rattle.std.specs.Prelude.{All, AllPairs, Any, Contains}
use Rattle.std.specs.Option.{option_map}
use Rattle.std.proofs.lemmas.Bool.{and_parts}
use Rattle.std.proofs.lemmas.List.{get_or_default, length-map}
use Rattle.std.proofs.lemmas.List.Elements.{Contains-get_or}
use Rattle.std.proofs.lemmas.Option.{slice_get-get_or, slice_get_within, get_or_from_slice_get, slice_get-map}
use Rattle.integer_laws.proofs.Ring.{lin}
use Rattle.integer_laws.proofs.Compare.{le_of_lt}
use Rattle.cov_types.specs.Range.{IsSegInRange}
use Rattle.cov_types.specs.declared.coord.Coord.{Coord}
use Rattle.cov_types.specs.declared.seg.Seg.{Seg}
use Rattle.plane.specs.Snapping.{IsHot, MeetsPixel, PassesFirst, IsChain}
use Rattle.plane.proofs.Sweeps.{rises-in_range}
use Rattle.box_tree.specs.Places.{places}
use Rattle.box_tree.specs.Probe.{reaches, is_near_line}
use Rattle.box_tree.specs.Rect.{IsInside, box_of_point, box_of_segment, is_touching}
use Rattle.box_tree.specs.declared.probe.Probe.TheVariants.{Pixels}
use Rattle.box_tree.specs.declared.rect.Rect.{Rect}
use Rattle.box_tree.proofs.PlaceLaws.{place_in, place_below}
use Rattle.box_tree.proofs.Touching.{touch_wider}
use Rattle.box_tree.proofs.Reached.{pixel_reached, reach_of-up, reach_of-down, inside_up, inside_down}
use Rattle.rounding_laws.specs.Formulas.{ComesFirst, IsBeside, IsBesideUp, IsBesideDown}
use Rattle.rounding_laws.proofs.First.{passes-is}
use Rattle.rounding_laws.proofs.Meets.{meets-is}
use Rattle.hot_pixel.specs.Centres.{AreAllMet, AreHotCentres, Gains, HasMetCentre, AreMet}
use Rattle.hot_pixel.proofs.Gains.{gains_one, gains_not_found, gains_from_none}

-- ---- the probe reaches each pixel that the segment meets

reached_up : (s : Seg) (r : Coord) → s.lo.x ≤ℤ r.x → r.x ≤ℤ s.hi.x → IsBesideUp s r → reaches (Pixels s) (box_of_point r) ≡ true
reached_up s r from to beside =
    let reach = reach_of-up s beside.up in
    let right = beside.right in
    let left = beside.left in
    pixel_reached s r (inside_up s r from to beside.from beside.to) (le_of_lt (omega (arith, lin))) (le_of_lt (omega (arith, lin)))

reached_down : (s : Seg) (r : Coord) → s.lo.x ≤ℤ r.x → r.x ≤ℤ s.hi.x → IsBesideDown s r → reaches (Pixels s) (box_of_point r) ≡ true
reached_down s r from to beside =
    let reach = reach_of-down s (le_of_lt beside.down) in
    let right = beside.right in
    let left = beside.left in
    pixel_reached s r (inside_down s r from to beside.from beside.to) (le_of_lt (omega (arith, lin))) (omega (arith, lin))

pub met_reached : (s : Seg) (r : Coord) → MeetsPixel s r → reaches (Pixels s) (box_of_point r) ≡ true
met_reached s r met = which ((meets-is s r).0 met)
  where
    which : IsBeside s r → reaches (Pixels s) (box_of_point r) ≡ true
    which beside =
        elim beside.within [
          | inl up ↦ reached_up s r beside.from beside.to up
          | inr down ↦ reached_down s r beside.from beside.to down
        ]

-- ---- the loop over the centres near

module _ (s : Seg) (centres : List Coord) (k : ℕ) (r : Coord) (within : k < length centres) (is : r ≡ get_or centres k r) (start end : List Coord) where
  at_k : slice_get centres k ≡ Some r
  at_k = slice_get-get_or centres k r within ∙ ap Some (sym is)

  only_r : (q : Coord) → slice_get centres k ≡ Some q → r ≡ q
  only_r q at = is ∙ get_or_from_slice_get centres k q r at

  pub met_kept : end ≡ start ++ r ∷ [] → MeetsPixel s r → Gains start end (λ q. HasMetCentre s centres q k)
  met_kept pushed met = gains_one (λ q. HasMetCentre s centres q k) start end r pushed (λ q. (λ h. only_r q h.at, λ same. subst (λ (p : Coord). HasMetCentre s centres p k) same (record { at = at_k; met = met })))

  pub met_passed : end ≡ start → ¬ MeetsPixel s r → Gains start end (λ q. HasMetCentre s centres q k)
  met_passed same missed = gains_not_found (λ q. HasMetCentre s centres q k) start end same (λ q h. missed (subst (MeetsPixel s) (sym (only_r q h.at)) h.met))

-- a box about the segment reaches it too
pub met_in_box : (s : Seg) (round : Rect) (r : Coord) → IsInside (box_of_segment s) round → MeetsPixel s r → is_touching round (box_of_point r) ≡ true
met_in_box s round r inside met =
    touch_wider (box_of_segment s) round (box_of_point r) inside (and_parts (is_touching (box_of_segment s) (box_of_point r)) (is_near_line s (box_of_point r)) (met_reached s r met)).0

-- ---- the centres at the places of boxes that pass a test

module _ (test : Rect → Bool) (centres : List Coord) (near : List ℕ) (found : near ≡ places test 0 (map box_of_point centres)) where
  pub near_within : All (λ k. k < length centres) near
  near_within =
      subst (All (λ k. k < length centres)) (sym found)
      (subst (λ n. All (λ k. k < n) (places test 0 (map box_of_point centres))) (length-map centres box_of_point) (place_below test (map box_of_point centres)))

  -- where it passes all that the segment meets, no centre that is met is missing
  pub all_met : (s : Seg) (met : List Coord) → ((r : Coord) → MeetsPixel s r → test (box_of_point r) ≡ true) → AreMet s centres near met → AreAllMet s centres met
  all_met s met reached kept r = (λ has. there ((kept r).0 has), λ h. (kept r).1 (back h.0 h.1))
    where
      there : Any (HasMetCentre s centres r) near → Contains centres r × MeetsPixel s r
      there (j, k, within, is, at) = ((k, slice_get_within centres k r at.at, get_or_from_slice_get centres k r r at.at), at.met)

      back : Contains centres r → MeetsPixel s r → Any (HasMetCentre s centres r) near
      back k meets =
          let at : slice_get centres k.0 ≡ Some r = slice_get-get_or centres k.0 r k.1 ∙ ap Some k.2 in
          let box : slice_get (map box_of_point centres) k.0 ≡ Some (box_of_point r) = slice_get-map box_of_point centres k.0 ∙ ap (option_map box_of_point) at in
          let has = subst (λ (ks : List ℕ). Contains ks k.0) (sym found) ((place_in test (map box_of_point centres) k.0).1 (box_of_point r, box, reached r meets)) in
          (has.0, k.0, has.1, has.2, record { at = at; met = meets })

-- ---- a chain: the hot centres that the segment meets, in order

pub chain_is : (segs : List Seg) (s : Seg) (centres seen met chain : List Coord) → IsSegInRange s → AreHotCentres segs centres → seen ≡ centres → AreAllMet s seen met
    → ((r : Coord) → Contains chain r ↔ Contains met r) → AllPairs (ComesFirst s) chain → IsChain segs s chain
chain_is segs s centres seen met chain in_range hot read kept sorted order = record { members = members; in_order = in_order }
  where
    members : (r : Coord) → Contains chain r ↔ (IsHot segs r × MeetsPixel s r)
    members r = (
      λ has. let h = (kept r).0 ((sorted r).0 has) in ((hot.exact r).0 (subst (λ (xs : List Coord). Contains xs r) read h.0), h.1),
      λ h. (sorted r).1 ((kept r).1 (subst (λ (xs : List Coord). Contains xs r) (sym read) ((hot.exact r).1 h.0), h.1)),
    )

    meets_at : (k : ℕ) (d : Coord) → k < length chain → MeetsPixel s (get_or chain k d)
    meets_at k d within = ((members (get_or chain k d)).0 (Contains-get_or chain k d within)).1

    in_order : AllPairs (PassesFirst s) chain
    in_order i j d before within =
        (passes-is s (get_or chain i d) (get_or chain j d) (rises-in_range s in_range) (meets_at i d (omega arith)) (meets_at j d within)).1 (order i j d before within)
