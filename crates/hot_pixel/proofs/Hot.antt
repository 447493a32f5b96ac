-- What is hot: the pixels of ends and of crossings, all of them in range.
use mathlib.Core.List.{[], ◌∷◌}
use Rattle.std.proofs.Common.{◌≡◌, ◌⊎◌, inl, inr, refl, sym, ◌∙◌, ap, subst, ℕ, zero, ◌+◌, ◌<◌, ◌≤◌, ◌↔◌, List, length, get_or, Some, slice_get, arith}
use Rattle.std.specs.Prelude.{All, Contains, Any}
use Rattle.std.proofs.lemmas.Bool.{cases_order}
use Rattle.std.proofs.lemmas.List.{get_or_default}
use Rattle.std.proofs.lemmas.List.Elements.{All-contains, Contains-get_or}
use Rattle.std.proofs.lemmas.Option.{slice_get_within, slice_get-get_or, get_or_from_slice_get}
use Rattle.cov_types.specs.Range.{IsInRange, IsSegInRange}
use Rattle.cov_types.specs.declared.coord.Coord.{Coord}
use Rattle.cov_types.specs.declared.seg.Seg.{Seg}
use Rattle.plane.specs.Point.{Point, at_coord}
use Rattle.plane.specs.Segment.{IsEnd, IsOn}
use Rattle.plane.specs.Snapping.{IsInPixel, IsHot, IsCrossingOf, MeetsPixel}
use Rattle.plane.proofs.Points.{same_point-refl, same_point-sym, first_between, second_between, between-moved}
use Rattle.plane.proofs.Contacts.{two_with_itself, one_is_not_two}
use Rattle.grid_pred.specs.Crossing.{IsCrossing}
use Rattle.rounding_laws.proofs.Edges.{centre_in_range}
use Rattle.rounding_laws.proofs.Near.{pixel_same, pixel_own, pixel_unique}
use Rattle.hot_pixel.specs.Centres.{AreHotCentres, Gains, HasEnd, CrossAt, HasCrossing}
use Rattle.hot_pixel.proofs.Gains.{contains_none, gains_then, gains_from_none}

-- s and t change places
cross_exchanged : (s t : Seg) (p : Point) → IsCrossing s t p → IsCrossing t s p
cross_exchanged s t p h = record {
  only = record { common = (h.only.common.1, h.only.common.0); only = λ q c. h.only.only q (c.1, c.0) };
  inside = h.inside_other;
  inside_other = h.inside;
}

-- an end of a segment is in the pixel of that end alone
end_in : (s : Seg) (p : Point) (r : Coord) → IsEnd s p → IsInPixel p r → HasEnd s r
end_in s p r (inl same) inside = inl (pixel_unique (at_coord s.lo) s.lo r (pixel_own s.lo) (pixel_same p (at_coord s.lo) r same inside))
end_in s p r (inr same) inside = inr (pixel_unique (at_coord s.hi) s.hi r (pixel_own s.hi) (pixel_same p (at_coord s.hi) r same inside))

end_hot : (segs : List Seg) (s : Seg) (c r : Coord) → Contains segs s → IsEnd s (at_coord c) → c ≡ r → IsHot segs r
end_hot segs s c r has is_end same = subst (IsHot segs) same (at_coord c, (pixel_own c, inl (s, (has, is_end))))

ends_hot : (segs : List Seg) (r : Coord) → Any (λ s. HasEnd s r) segs → IsHot segs r
ends_hot segs r (k, s, within, is, inl lo) = end_hot segs s s.lo r (k, within, is) (inl (same_point-refl (at_coord s.lo))) lo
ends_hot segs r (k, s, within, is, inr hi) = end_hot segs s s.hi r (k, within, is) (inr (same_point-refl (at_coord s.hi))) hi

crossed_hot : (segs : List Seg) (n : ℕ) (r : Coord) → HasCrossing segs 0 n r → IsHot segs r
crossed_hot segs n r h =
    let at = h.cross in
    let p = at.cross.0 in
    let cross = at.cross.1.0 in
    let has_s : Contains segs at.s = (h.i, slice_get_within segs h.i at.s at.at_s, get_or_from_slice_get segs h.i at.s at.s at.at_s) in
    let has_t : Contains segs at.t = (h.k, slice_get_within segs h.k at.t at.at_t, get_or_from_slice_get segs h.k at.t at.t at.at_t) in
    (p, (at.cross.1.1, inr (at.s, (at.t, (has_s, has_t, cross.only, cross.inside, cross.inside_other)))))

-- two segments that cross do not stand in one place, and the later of them is tried with the earlier
later_crossed : (segs : List Seg) (s t : Seg) (i k : ℕ) (p : Point) (r : Coord) → i < length segs → get_or segs i s ≡ s → k < i → get_or segs k t ≡ t → IsCrossing s t p → IsInPixel p r → HasCrossing segs 0 (length segs) r
later_crossed segs s t i k p r within is before k_is cross inside = record {
  i = i;
  k = k;
  from = omega arith;
  to = within;
  cross = record { earlier = before; s = s; t = t; at_s = slice_get-get_or segs i s within ∙ ap Some is; at_t = slice_get-get_or segs k t (omega arith) ∙ ap Some k_is; cross = (p, (cross, inside)) };
}

crossing_in : (segs : List Seg) (p : Point) (r : Coord) → IsCrossingOf segs p → IsInPixel p r → HasCrossing segs 0 (length segs) r
crossing_in segs p r (s, (t, ((i, i_within, i_is), (k, k_within, k_is), only, inside, inside_other))) in_pixel =
    let cross : IsCrossing s t p = record { only = only; inside = inside; inside_other = inside_other } in
    elim (cases_order k i) [
      | inl same ↦ absurd (one_is_not_two s t p only (two_with_itself s t (sym i_is ∙ get_or_default segs i s t i_within ∙ ap (λ n. get_or segs n t) (sym same) ∙ k_is)))
      | inr apart ↦ elim apart [
        | inl below ↦ later_crossed segs s t i k p r i_within i_is below k_is cross in_pixel
        | inr above ↦ later_crossed segs t s k i p r k_within k_is above i_is (cross_exchanged s t p cross) in_pixel
      ]
    ]

-- a pixel is hot where an end is in it, or a crossing
hot-is : (segs : List Seg) (r : Coord) → IsHot segs r ↔ (Any (λ s. HasEnd s r) segs ⊎ HasCrossing segs 0 (length segs) r)
hot-is segs r = (there, back)
  where
    there : IsHot segs r → Any (λ s. HasEnd s r) segs ⊎ HasCrossing segs 0 (length segs) r
    there (p, (inside, inl (s, (has, is_end)))) = inl (has.0, s, has.1, has.2, end_in s p r is_end inside)
    there (p, (inside, inr crossing)) = inr (crossing_in segs p r crossing inside)

    back : Any (λ s. HasEnd s r) segs ⊎ HasCrossing segs 0 (length segs) r → IsHot segs r
    back (inl ends) = ends_hot segs r ends
    back (inr crossed) = crossed_hot segs (length segs) r crossed

-- ---- in range

on-end : (s : Seg) (p : Point) → IsEnd s p → IsOn s p
on-end s p (inl same) = between-moved (at_coord s.lo) p (at_coord s.lo) (at_coord s.hi) (same_point-sym p (at_coord s.lo) same) (first_between (at_coord s.lo) (at_coord s.hi))
on-end s p (inr same) = between-moved (at_coord s.hi) p (at_coord s.lo) (at_coord s.hi) (same_point-sym p (at_coord s.hi) same) (second_between (at_coord s.lo) (at_coord s.hi))

-- a segment of the list meets a hot pixel
hot_met : (segs : List Seg) (r : Coord) → IsHot segs r → (s : Seg) × (Contains segs s × MeetsPixel s r)
hot_met segs r (p, (inside, inl (s, (has, is_end)))) = (s, (has, (p, (on-end s p is_end, inside))))
hot_met segs r (p, (inside, inr (s, (t, (has, has_t, only, in_s, in_t))))) = (s, (has, (p, (only.common.0, inside))))

pub hot_in_range : (segs : List Seg) (r : Coord) → All IsSegInRange segs → IsHot segs r → IsInRange r
hot_in_range segs r in_range hot = let s = hot_met segs r hot in centre_in_range s.0 r (All-contains IsSegInRange segs s.0 in_range s.1.0) s.1.1

-- ---- segments in another order

-- what is hot is told by which segments there are
hot_of : (segs others : List Seg) → ((s : Seg) → Contains segs s → Contains others s) → (r : Coord) → IsHot segs r → IsHot others r
hot_of segs others among r (p, (inside, inl (s, (has, is_end)))) = (p, (inside, inl (s, (among s has, is_end))))
hot_of segs others among r (p, (inside, inr (s, (t, (has_s, has_t, rest, in_s, in_t))))) = (p, (inside, inr (s, (t, (among s has_s, among t has_t, rest, in_s, in_t)))))

pub in_range_too : (segs along : List Seg) → All IsSegInRange segs → ((s : Seg) → Contains along s ↔ Contains segs s) → All IsSegInRange along
in_range_too segs along in_range same k d within = All-contains IsSegInRange segs (get_or along k d) in_range ((same (get_or along k d)).0 (Contains-get_or along k d within))

-- what the code makes: of other segments than those of the list, but the same, first the ends and then the crossings, in another order
pub hot_centres_are : (segs along shown : List Seg) (start ends all seen centres : List Coord) → All IsSegInRange segs → ((s : Seg) → Contains along s ↔ Contains segs s) → shown ≡ along → start ≡ []
    → Gains start ends (λ r. Any (λ s. HasEnd s r) shown) → Gains ends all (HasCrossing shown 0 (length shown)) → seen ≡ all → ((r : Coord) → Contains centres r ↔ Contains seen r) → AreHotCentres segs centres
hot_centres_are segs along shown start ends all seen centres in_range same read empty first second read_all moved = record {
  exact = λ r. (λ has. to_list r ((gained r).0 (in_all r ((moved r).0 has))), λ hot. (moved r).1 (from_all r ((gained r).1 (from_list r hot))));
  in_range = λ k d within. hot_in_range segs (get_or centres k d) in_range (to_list (get_or centres k d) ((gained (get_or centres k d)).0 (in_all (get_or centres k d) ((moved (get_or centres k d)).0 (Contains-get_or centres k d within)))));
}
  where
    gained : (r : Coord) → Contains all r ↔ IsHot shown r
    gained = gains_from_none (IsHot shown) start all empty (gains_then (λ r. Any (λ s. HasEnd s r) shown) (HasCrossing shown 0 (length shown)) (IsHot shown) start ends all first second (hot-is shown))

    in_all : (r : Coord) → Contains seen r → Contains all r
    in_all r h = subst (λ (xs : List Coord). Contains xs r) read_all h

    from_all : (r : Coord) → Contains all r → Contains seen r
    from_all r h = subst (λ (xs : List Coord). Contains xs r) (sym read_all) h

    to_list : (r : Coord) → IsHot shown r → IsHot segs r
    to_list r hot = hot_of along segs (λ s. (same s).0) r (subst (λ (xs : List Seg). IsHot xs r) read hot)

    from_list : (r : Coord) → IsHot segs r → IsHot shown r
    from_list r hot = subst (λ (xs : List Seg). IsHot xs r) (sym read) (hot_of segs along (λ s. (same s).1) r hot)
