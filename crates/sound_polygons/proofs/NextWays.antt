-- Where the corners of two polygons with the same sides are free, the side that follows a side is one.
use mathlib.Core.List.{[], ◌∷◌}
use Rattle.std.proofs.Common.{◌≡◌, inl, inr, refl, sym, ◌∙◌, ap, subst, zero, suc, Bool, true, false, cond, List, ◌++◌, get_or, arith}
use Rattle.std.specs.Prelude.{Contains, Option, Some, None, flat_map, option_to_list, unwrap_or}
use Rattle.std.specs.List.{list_any}
use Rattle.std.proofs.lemmas.Bool.{or_parts, not-true, false≢true}
use Rattle.std.proofs.lemmas.List.{get_or_default}
use Rattle.std.proofs.lemmas.List.Elements.{All-contains, Contains-append_left, Contains-append_right, Contains-append_cases}
use Rattle.cov_types.specs.declared.coord.Coord.{Coord}
use Rattle.cov_types.specs.declared.seg.Seg.{Seg}
use Rattle.cov_types.specs.Coord.{is_same_coord}
use Rattle.cov_types.specs.Range.{IsSegInRange}
use Rattle.cov_types.specs.Seg.{IsSegBetween}
use Rattle.cov_types.specs.Uses.{seg_between}
use Rattle.cov_types.proofs.Between.{seg_between-ordered, seg_between-reversed}
use Rattle.cov_types.proofs.Equal.{Decides-same_coords}
use Rattle.crossing_laws.proofs.Lists.{contains_here, contains_there}
use Rattle.sector_laws.specs.Sector.{HalfEdge, origin, target, twin, is_in_sector, Leaves, IsNext, IsPlanar}
use Rattle.sector_laws.proofs.Next.{twin-twin, next_of_one}
use Rattle.sound_polygons.specs.Parts.{is_in_angle, far_ends, is_free_corner}
use Rattle.sound_polygons.proofs.Angles.{angle_is_sector}

abbrev pub Way : Type 0
Way = Coord × Coord

-- ---- none of a list passes

none_passes : {X : Type 0} (p : X → Bool) (xs : List X) (x : X) → list_any p xs ≡ false → Contains xs x → p x ≡ false
none_passes p [] x h (k, inside, is) = absurd (omega arith)
none_passes p (y ∷ xs) x h (zero, inside, is) = ap p (sym is) ∙ (or_parts _ _ h).0
none_passes p (y ∷ xs) x h (suc k, inside, is) = none_passes p xs x (or_parts _ _ h).1 (k, omega arith, is)

-- ---- the edges of ways

abbrev pub way_edges : List Way → List Seg
way_edges ways = flat_map (λ w. option_to_list (seg_between w.0 w.1)) ways

has_edge : (ways : List Way) (w : Way) (e : Seg) → Contains ways w → seg_between w.0 w.1 ≡ Some e → Contains (way_edges ways) e
has_edge [] w e (k, inside, is) s = absurd (omega arith)
has_edge (v ∷ ways) w e (zero, inside, is) s =
    Contains-append_left (option_to_list (seg_between v.0 v.1)) (way_edges ways) e (subst (λ o. Contains (option_to_list o) e) (sym (ap (λ (u : Way). seg_between u.0 u.1) is ∙ s)) (0, omega arith, refl))
has_edge (v ∷ ways) w e (suc k, inside, is) s = Contains-append_right (option_to_list (seg_between v.0 v.1)) (way_edges ways) e (has_edge ways w e (k, omega arith, is) s)

in_option : (o : Option Seg) (e : Seg) → Contains (option_to_list o) e → o ≡ Some e
in_option None e (k, inside, is) = absurd (omega arith)
in_option (Some f) e (zero, inside, is) = ap (λ (s : Seg). Some s) is
in_option (Some f) e (suc k, inside, is) = absurd (omega arith)

way_of : (ways : List Way) (e : Seg) → Contains (way_edges ways) e → (w : Way) × (Contains ways w × (seg_between w.0 w.1 ≡ Some e))
way_of [] e (k, inside, is) = absurd (omega arith)
way_of (v ∷ ways) e h =
    elim (Contains-append_cases (option_to_list (seg_between v.0 v.1)) (way_edges ways) e h) [
      | inl here ↦ (v, (contains_here v ways, in_option (seg_between v.0 v.1) e here))
      | inr later ↦ (let rest = way_of ways e later in (rest.0, (contains_there v rest.0 ways rest.1.0, rest.1.1)))
    ]

is_between : (p q : Coord) (e : Seg) → IsSegBetween p q e → seg_between p q ≡ Some e
is_between p q e (inl h) = seg_between-ordered p q e h.0 h.1
is_between p q e (inr h) = seg_between-reversed p q e h.0 h.1

-- ---- half-edges of ways

abbrev half : (p q : Coord) (e : Seg) → IsSegBetween p q e → HalfEdge
half p q e (inl h) = record { edge = e; forwards = true }
half p q e (inr h) = record { edge = e; forwards = false }

half_origin : (p q : Coord) (e : Seg) (s : IsSegBetween p q e) → origin (half p q e s) ≡ p
half_origin p q e (inl h) = h.0
half_origin p q e (inr h) = h.1

half_target : (p q : Coord) (e : Seg) (s : IsSegBetween p q e) → target (half p q e s) ≡ q
half_target p q e (inl h) = h.1
half_target p q e (inr h) = h.0

half_edge : (p q : Coord) (e : Seg) (s : IsSegBetween p q e) → (half p q e s).edge ≡ e
half_edge p q e (inl h) = refl
half_edge p q e (inr h) = refl

seg_turned : (a b : Coord) (e : Seg) → IsSegBetween a b e → IsSegBetween b a e
seg_turned a b e (inl h) = inr h
seg_turned a b e (inr h) = inl h

twin_target : (e : Seg) (b : Bool) → target (twin (record { edge = e; forwards = b })) ≡ origin (record { edge = e; forwards = b })
twin_target e true = refl
twin_target e false = refl

-- ---- far ends

in_cond : (b : Bool) (x : Coord) → b ≡ true → Contains (cond b (x ∷ []) []) x
in_cond true x h = (0, omega arith, refl)
in_cond false x h = absurd (false≢true h)

far_from : (v : Coord) (ways : List Way) (w : Way) (t : Coord) → Contains ways w → w.0 ≡ v → w.1 ≡ t → Contains (far_ends v ways) t
far_from v [] w t (k, inside, is) p q = absurd (omega arith)
far_from v (u ∷ ways) w t (zero, inside, is) p q =
    Contains-append_left (cond (is_same_coord v u.0) (u.1 ∷ []) [] ++ cond (is_same_coord v u.1) (u.0 ∷ []) []) (far_ends v ways) t
    (Contains-append_left (cond (is_same_coord v u.0) (u.1 ∷ []) []) (cond (is_same_coord v u.1) (u.0 ∷ []) []) t
    (subst (Contains (cond (is_same_coord v u.0) (u.1 ∷ []) [])) (ap (λ (x : Way). x.1) is ∙ q) (in_cond (is_same_coord v u.0) u.1 ((Decides-same_coords v u.0).1 (sym (ap (λ (x : Way). x.0) is ∙ p))))))
far_from v (u ∷ ways) w t (suc k, inside, is) p q =
    Contains-append_right (cond (is_same_coord v u.0) (u.1 ∷ []) [] ++ cond (is_same_coord v u.1) (u.0 ∷ []) []) (far_ends v ways) t (far_from v ways w t (k, omega arith, is) p q)

far_to : (v : Coord) (ways : List Way) (w : Way) (t : Coord) → Contains ways w → w.1 ≡ v → w.0 ≡ t → Contains (far_ends v ways) t
far_to v [] w t (k, inside, is) p q = absurd (omega arith)
far_to v (u ∷ ways) w t (zero, inside, is) p q =
    Contains-append_left (cond (is_same_coord v u.0) (u.1 ∷ []) [] ++ cond (is_same_coord v u.1) (u.0 ∷ []) []) (far_ends v ways) t
    (Contains-append_right (cond (is_same_coord v u.0) (u.1 ∷ []) []) (cond (is_same_coord v u.1) (u.0 ∷ []) []) t
    (subst (Contains (cond (is_same_coord v u.1) (u.0 ∷ []) [])) (ap (λ (x : Way). x.0) is ∙ q) (in_cond (is_same_coord v u.1) u.0 ((Decides-same_coords v u.1).1 (sym (ap (λ (x : Way). x.1) is ∙ p))))))
far_to v (u ∷ ways) w t (suc k, inside, is) p q =
    Contains-append_right (cond (is_same_coord v u.0) (u.1 ∷ []) [] ++ cond (is_same_coord v u.1) (u.0 ∷ []) []) (far_ends v ways) t (far_to v ways w t (k, omega arith, is) p q)

-- ---- ways along planar edges

-- each way leads along an edge
abbrev pub AreAlong : List Seg → List Way → Type 0
AreAlong edges ways = (w : Way) → Contains ways w → (e : Seg) × (Contains edges e × IsSegBetween w.0 w.1 e)

module _ (edges : List Seg) (planar : IsPlanar edges) (ways : List Way) (along : AreAlong edges ways) where
  -- an edge of the ways is one of the edges, between the ends of its way
  record IsOfWay (e : Seg) : Type 0 where
    way : Way
    listed : Contains ways way
    has : Contains edges e
    between : IsSegBetween way.0 way.1 e

  of_way : (e : Seg) → Contains (way_edges ways) e → IsOfWay e
  of_way e h =
      let w = way_of ways e h in
      let at = along w.0 w.1.0 in
      let same : at.0 ≡ e = ap (λ o. unwrap_or o at.0) (sym (is_between (w.0).0 (w.0).1 at.0 at.1.1) ∙ w.1.1) in
      record { way = w.0; listed = w.1.0; has = subst (Contains edges) same at.1.0; between = subst (IsSegBetween (w.0).0 (w.0).1) same at.1.1 }

  ways_planar : IsPlanar (way_edges ways)
  ways_planar = record {
    in_range = λ k d inside. All-contains IsSegInRange edges (get_or (way_edges ways) k d) planar.in_range (of_way (get_or (way_edges ways) k d) (k, inside, get_or_default (way_edges ways) k (get_or (way_edges ways) k d) d inside)).has;
    noded = λ e f has_e has_f. planar.noded e f (of_way e has_e).has (of_way f has_f).has;
  }

  -- where a half-edge leaves, its other end is a far end
  leaves_far : (others : List Way) → ((w : Way) → Contains ways w → Contains others w) → (v : Coord) (k : HalfEdge) → Leaves (way_edges ways) v k → Contains (far_ends v others) (target k)
  leaves_far others all v k at = by k.edge k.forwards at.among at.from
    where
      by : (e : Seg) (b : Bool) → Contains (way_edges ways) e → origin (record { edge = e; forwards = b }) ≡ v → Contains (far_ends v others) (target (record { edge = e; forwards = b }))
      by e b has from = ends b from
        where
          w : IsOfWay e
          w = of_way e has

          ends : (b : Bool) → origin (record { edge = e; forwards = b }) ≡ v → Contains (far_ends v others) (target (record { edge = e; forwards = b }))
          ends true from = elim w.between [
            | inl s ↦ far_from v others w.way e.hi (all w.way w.listed) (sym s.0 ∙ from) (sym s.1)
            | inr s ↦ far_to v others w.way e.hi (all w.way w.listed) (sym s.0 ∙ from) (sym s.1)
          ]
          ends false from = elim w.between [
            | inl s ↦ far_to v others w.way e.lo (all w.way w.listed) (sym s.1 ∙ from) (sym s.0)
            | inr s ↦ far_from v others w.way e.lo (all w.way w.listed) (sym s.1 ∙ from) (sym s.0)
          ]

  -- the way from a to v, seen from v, follows the twin of the one from v to c
  module _ (others : List Way) (all : (w : Way) → Contains ways w → Contains others w) (a v c : Coord) (has_to : Contains ways (a, v)) (has_from : Contains ways (v, c)) (free : is_free_corner others ((a, v), (v, c)) ≡ true) where
    abbrev to_edge : (e : Seg) × (Contains edges e × IsSegBetween a v e)
    to_edge = along (a, v) has_to

    abbrev from_edge : (e : Seg) × (Contains edges e × IsSegBetween v c e)
    from_edge = along (v, c) has_from

    abbrev g : HalfEdge
    g = half v a to_edge.0 (seg_turned a v to_edge.0 to_edge.1.1)

    abbrev h : HalfEdge
    h = half v c from_edge.0 from_edge.1.1

    g_leaves : Leaves (way_edges ways) v g
    g_leaves = record {
      among = subst (Contains (way_edges ways)) (sym (half_edge v a to_edge.0 (seg_turned a v to_edge.0 to_edge.1.1))) (has_edge ways (a, v) to_edge.0 has_to (is_between a v to_edge.0 to_edge.1.1));
      from = half_origin v a to_edge.0 (seg_turned a v to_edge.0 to_edge.1.1);
    }

    h_leaves : Leaves (way_edges ways) v h
    h_leaves = record {
      among = subst (Contains (way_edges ways)) (sym (half_edge v c from_edge.0 from_edge.1.1)) (has_edge ways (v, c) from_edge.0 has_from (is_between v c from_edge.0 from_edge.1.1));
      from = half_origin v c from_edge.0 from_edge.1.1;
    }

    h_target : target h ≡ c
    h_target = half_target v c from_edge.0 from_edge.1.1

    turned : target (twin h) ≡ v
    turned = twin_target h.edge h.forwards ∙ h_leaves.from

    not_in : (k : HalfEdge) → Leaves (way_edges ways) v k → is_in_sector g h k ≡ false
    not_in k at =
        let outside : is_in_angle v a c (target k) ≡ false = none_passes (is_in_angle v a c) (far_ends v others) (target k) (not-true _ free) (leaves_far others all v k at) in
        sym (angle_is_sector (way_edges ways) ways_planar v g h k g_leaves h_leaves at)
        ∙ (λ i. is_in_angle v (half_target v a to_edge.0 (seg_turned a v to_edge.0 to_edge.1.1) i) (h_target i) (target k)) ∙ outside

    follows : IsNext (way_edges ways) (twin h) g
    follows = record {
      among = h_leaves.among;
      leaves = record { among = g_leaves.among; from = g_leaves.from ∙ sym turned };
      none_inside = λ k at. ap (λ x. is_in_sector g x k) (twin-twin h) ∙ not_in k (record { among = at.among; from = at.from ∙ turned });
    }

  pub one_next_way : (first second : List Way) → ((w : Way) → Contains ways w → Contains first w) → ((w : Way) → Contains ways w → Contains second w) → (a v c d : Coord)
      → Contains ways (a, v) → Contains ways (v, c) → Contains ways (v, d) → is_free_corner first ((a, v), (v, c)) ≡ true → is_free_corner second ((a, v), (v, d)) ≡ true → c ≡ d
  one_next_way first second all all_too a v c d to from_c from_d free_c free_d =
      let x = h first all a v c to from_c free_c in
      let y = h second all_too a v d to from_d free_d in
      let same = next_of_one (way_edges ways) ways_planar (twin x) (twin y) (g first all a v c to from_c free_c) (follows first all a v c to from_c free_c) (follows second all_too a v d to from_d free_d) in
      let one : x ≡ y = sym (twin-twin x) ∙ ap twin same ∙ twin-twin y in
      sym (h_target first all a v c to from_c free_c) ∙ ap target one ∙ h_target second all_too a v d to from_d free_d
