-- Snap rounding is fully noded: two chain edges are equal, or have at most common ends in common.
use mathlib.Core.List.{[], ◌∷◌}
use Rattle.std.proofs.Common.{◌≡◌, ◌⊎◌, inl, inr, refl, sym, ◌∙◌, ap, subst, ◌^◌, ℤ, pos, neg_ℤ, ◌-ℤ◌, ◌*ℤ◌, ◌<ℤ◌, ◌≤ℤ◌, List, arith}
use Rattle.std.specs.Prelude.{Contains, All}
use Rattle.std.proofs.lemmas.List.Elements.{All-contains}
use Rattle.integer_laws.proofs.Ring.{lin, by_ring, Var, Lit, ◌⊖◌, ◌⊗◌, Neg, mul_zero}
use Rattle.integer_laws.proofs.Compare.{eq_or_not, trichotomy, le_cases, le_of_lt, lt_excludes_eq}
use Rattle.integer_laws.proofs.Order.{cancel_eq, cancel_lt_right}
use Rattle.cov_types.specs.declared.coord.Coord.{Coord}
use Rattle.cov_types.specs.declared.seg.Seg.{Seg}
use Rattle.cov_types.specs.Range.{IsSegInRange}
use Rattle.cov_types.proofs.Order.{same_coords}
use Rattle.cov_types.proofs.Equal.{same_segs}
use Rattle.plane.specs.Point.{Point, SamePoint, at_coord}
use Rattle.plane.specs.Segment.{IsOn, IsEnd, turn_of, side}
use Rattle.plane.specs.Ray.{sweep, Rises}
use Rattle.plane.specs.Contact.{IsCommon}
use Rattle.plane.specs.Noded.{MeetInEnds, IsNodedFully}
use Rattle.plane.specs.Snapping.{IsHot, IsChain, chain_edges}
use Rattle.plane.proofs.Points.{d_positive, same_point-refl, same_point-sym, between-moved}
use Rattle.plane.proofs.Forms.{form}
use Rattle.plane.proofs.Sides.{side_a, side_b, side_c, side-form, side-at_coord, side-lo, side-hi, side_zero-on, turn-first_two}
use Rattle.plane.proofs.Sweeps.{sweep-one_to_one, rises-in_range, sweep-on_from, sweep-on_to, same_as_lo, same_as_hi}
use Rattle.plane.proofs.Contacts.{end-same}
use Rattle.plane.proofs.Meeting.{turns-balance, AreOpposite, MeetOnce, opposite_meet}
use Rattle.plane.proofs.Along.{on_from_turn}
use Rattle.rounding_laws.specs.Laws.{IsNodedEdge}
use Rattle.rounding_laws.proofs.Pieces.{piece_turned}
use Rattle.rounding_laws.proofs.NoCrossing.{opposite_from_common, not_parallel, three_on_line, rise-line, is_end_or_not, no_crossing}
use Rattle.rounding_laws.proofs.Crossing.{CentresCross}
use Rattle.rounding_laws.proofs.Shadow.{no_centre_inside}
use Rattle.rounding_laws.proofs.Edges.{IsChainEdge, chain_edge, edge_in_range}

-- ---- two points and two segments are equal or they are not

coords_or_not : (a b : Coord) → (a ≡ b) ⊎ ¬ (a ≡ b)
coords_or_not a b =
    elim (eq_or_not a.x b.x) [
      | inl x ↦ elim (eq_or_not a.y b.y) [
        | inl y ↦ inl (same_coords a b x y)
        | inr n ↦ inr (λ e. n (ap (λ (c : Coord). c.y) e))
      ]
      | inr n ↦ inr (λ e. n (ap (λ (c : Coord). c.x) e))
    ]

segs_or_not : (e f : Seg) → (e ≡ f) ⊎ ¬ (e ≡ f)
segs_or_not e f =
    elim (coords_or_not e.lo f.lo) [
      | inl lo ↦ elim (coords_or_not e.hi f.hi) [
        | inl hi ↦ inl (same_segs e f lo hi)
        | inr n ↦ inr (λ h. n (ap (λ (s : Seg). s.hi) h))
      ]
      | inr n ↦ inr (λ h. n (ap (λ (s : Seg). s.lo) h))
    ]

-- ---- an end of one chain edge on another is an end of both

-- a hot centre on a chain edge is one of its ends
hot_on_edge : (segs : List Seg) (s e : Seg) (r : Coord) → IsChainEdge segs s e → IsHot segs r → IsOn e (at_coord r) → (r ≡ e.lo) ⊎ (r ≡ e.hi)
hot_on_edge segs s e r edge hot on = no_centre_inside segs s e.lo e.hi edge.piece r hot on

end_of_point : (e : Seg) (r : Coord) → (r ≡ e.lo) ⊎ (r ≡ e.hi) → IsEnd e (at_coord r)
end_of_point e r (inl h) = inl (subst (λ (c : Coord). SamePoint (at_coord r) (at_coord c)) h (same_point-refl (at_coord r)))
end_of_point e r (inr h) = inr (subst (λ (c : Coord). SamePoint (at_coord r) (at_coord c)) h (same_point-refl (at_coord r)))

end_at : (segs : List Seg) (t f : Seg) (r : Point) (c : Coord) → IsChainEdge segs t f → IsHot segs c → IsOn f r → SamePoint r (at_coord c) → IsEnd f r
end_at segs t f r c edge hot on same =
    end-same f (at_coord c) r (same_point-sym r (at_coord c) same)
    (end_of_point f c (hot_on_edge segs t f c edge hot (between-moved r (at_coord c) (at_coord f.lo) (at_coord f.hi) same on)))

end_of_other : (segs : List Seg) (s t e f : Seg) (r : Point) → IsChainEdge segs s e → IsChainEdge segs t f → IsOn f r → IsEnd e r → IsEnd f r
end_of_other segs s t e f r edge_e edge_f on (inl lo) = end_at segs t f r e.lo edge_f edge_e.lo_hot on lo
end_of_other segs s t e f r edge_e edge_f on (inr hi) = end_at segs t f r e.hi edge_f edge_e.hi_hot on hi

-- ---- edges on one line

-- over three grid points: the turn as the determinant of their vectors
turn_vectors : (p q r : Coord)
    → ((r.x *ℤ ((pos 1 *ℤ q.y) -ℤ (p.y *ℤ pos 1))) -ℤ (q.x *ℤ ((pos 1 *ℤ r.y) -ℤ (p.y *ℤ pos 1)))) -ℤ (p.x *ℤ ((pos 1 *ℤ q.y) -ℤ (r.y *ℤ pos 1))) ≡ neg_ℤ (turn_of p q r)
unfolding turn_of
turn_vectors p q r =
    let one = Lit (pos 1) in
    by_ring (p.x ∷ p.y ∷ q.x ∷ q.y ∷ r.x ∷ r.y ∷ [])
    ((Var 4 ⊗ (one ⊗ Var 3 ⊖ Var 1 ⊗ one) ⊖ Var 2 ⊗ (one ⊗ Var 5 ⊖ Var 1 ⊗ one)) ⊖ Var 0 ⊗ (one ⊗ Var 3 ⊖ Var 5 ⊗ one))
    (Neg ((Var 2 ⊖ Var 0) ⊗ (Var 5 ⊖ Var 1) ⊖ (Var 3 ⊖ Var 1) ⊗ (Var 4 ⊖ Var 0))) refl

-- three grid points on the line of a segment have no turn
line_turn_of : (s : Seg) (p q r : Coord) → Rises s → side s (at_coord p) ≡ pos 0 → side s (at_coord q) ≡ pos 0 → side s (at_coord r) ≡ pos 0 → turn_of p q r ≡ pos 0
unfolding form
line_turn_of s p q r rises on_p on_q on_r =
    let rise = rise-line s in
    let three = three_on_line (side_a s) (side_b s) (side_c s) (pos (2 ^ 30)) p.x p.y (pos 1) q.x q.y (pos 1) r.x r.y (pos 1)
    (sym (side-form s (at_coord p)) ∙ on_p) (sym (side-form s (at_coord q)) ∙ on_q) (sym (side-form s (at_coord r)) ∙ on_r) in
    let k = (pos (2 ^ 30) *ℤ side_b s) -ℤ side_a s in
    let zero = cancel_eq k (neg_ℤ (turn_of p q r)) (pos 0) (omega (arith, lin)) (ap (λ v. k *ℤ v) (sym (turn_vectors p q r)) ∙ three ∙ sym (mul_zero k)) in
    omega (arith, lin)

-- a point inside an edge is strictly between its ends
inside_after : (e : Seg) (r : Point) → Rises e → IsOn e r → ¬ IsEnd e r → (sweep (at_coord e.lo) *ℤ pos r.d) <ℤ sweep r
inside_after e r rises on inside =
    elim (le_cases (sweep-on_from e r (le_of_lt rises) on)) [
      | inl l ↦ l
      | inr level ↦ absurd (inside (inl (same_as_lo e r rises (side_zero-on e r on) (sym level))))
    ]

inside_before : (e : Seg) (r : Point) → Rises e → IsOn e r → ¬ IsEnd e r → sweep r <ℤ (sweep (at_coord e.hi) *ℤ pos r.d)
inside_before e r rises on inside =
    elim (le_cases (sweep-on_to e r (le_of_lt rises) on)) [
      | inl l ↦ l
      | inr level ↦ absurd (inside (inr (same_as_hi e r rises (side_zero-on e r on) level)))
    ]

-- so one edge begins before the other ends
begins_before : (e f : Seg) (r : Point) → Rises e → Rises f → IsOn e r → IsOn f r → ¬ IsEnd e r → ¬ IsEnd f r → sweep (at_coord e.lo) <ℤ sweep (at_coord f.hi)
begins_before e f r rises_e rises_f on_e on_f inside_e inside_f =
    let from = inside_after e r rises_e on_e inside_e in
    let to = inside_before f r rises_f on_f inside_f in
    cancel_lt_right (pos r.d) (sweep (at_coord e.lo)) (sweep (at_coord f.hi)) (le_of_lt (d_positive r)) (omega (arith, lin))

-- no hot centre of the line of an edge is strictly between its ends
none_between : (segs : List Seg) (s e : Seg) (c : Coord) → IsChainEdge segs s e → Rises e → IsHot segs c → turn_of e.lo e.hi c ≡ pos 0
    → sweep (at_coord e.lo) <ℤ sweep (at_coord c) → sweep (at_coord c) <ℤ sweep (at_coord e.hi) → ⊥
none_between segs s e c edge rises hot line low high =
    elim (hot_on_edge segs s e c edge hot (on_from_turn e c rises line (le_of_lt low) (le_of_lt high))) [
      | inl same ↦ lt_excludes_eq low (ap (λ (v : Coord). sweep (at_coord v)) (sym same))
      | inr same ↦ lt_excludes_eq high (ap (λ (v : Coord). sweep (at_coord v)) same)
    ]

-- two chain edges, in range
pub record TwoEdges (segs : List Seg) (s t e f : Seg) : Type 0 where
  pub first : IsChainEdge segs s e
  pub second : IsChainEdge segs t f
  pub first_range : IsSegInRange e
  pub second_range : IsSegInRange f

-- a point inside both edges
pub record IsInsideBoth (e f : Seg) (r : Point) : Type 0 where
  pub common : IsCommon e f r
  pub not_first : ¬ IsEnd e r
  pub not_second : ¬ IsEnd f r

module _ (segs : List Seg) (s t e f : Seg) (two : TwoEdges segs s t e f) (r : Point) (inside : IsInsideBoth e f r) where
  abbrev e_rises : Rises e
  e_rises = rises-in_range e two.first_range

  abbrev f_rises : Rises f
  f_rises = rises-in_range f two.second_range

  e_first : sweep (at_coord e.lo) <ℤ sweep (at_coord f.hi)
  e_first = begins_before e f r e_rises f_rises inside.common.0 inside.common.1 inside.not_first inside.not_second

  f_first : sweep (at_coord f.lo) <ℤ sweep (at_coord e.hi)
  f_first = begins_before f e r f_rises e_rises inside.common.1 inside.common.0 inside.not_second inside.not_first

  -- on one line they begin together and end together
  line_back : (c : Coord) → side e (at_coord c) ≡ pos 0 → turn_of e.lo e.hi f.lo ≡ pos 0 → turn_of e.lo e.hi f.hi ≡ pos 0 → turn_of f.lo f.hi c ≡ pos 0
  line_back c on lo hi = line_turn_of e f.lo f.hi c e_rises (side-at_coord e f.lo ∙ lo) (side-at_coord e f.hi ∙ hi) on

  same_lo : turn_of e.lo e.hi f.lo ≡ pos 0 → turn_of e.lo e.hi f.hi ≡ pos 0 → e.lo ≡ f.lo
  same_lo lo hi =
      elim (trichotomy (sweep (at_coord e.lo)) (sweep (at_coord f.lo))) [
        | inl l ↦ absurd (none_between segs s e f.lo two.first e_rises two.second.lo_hot lo l f_first)
        | inr rest ↦ elim rest [
          | inl level ↦ sweep-one_to_one e.lo f.lo two.first_range.lo two.second_range.lo level
          | inr g ↦ absurd (none_between segs t f e.lo two.second f_rises two.first.lo_hot (line_back e.lo (side-lo e) lo hi) g e_first)
        ]
      ]

  same_hi : turn_of e.lo e.hi f.lo ≡ pos 0 → turn_of e.lo e.hi f.hi ≡ pos 0 → e.hi ≡ f.hi
  same_hi lo hi =
      elim (trichotomy (sweep (at_coord e.hi)) (sweep (at_coord f.hi))) [
        | inl l ↦ absurd (none_between segs t f e.hi two.second f_rises two.first.hi_hot (line_back e.hi (side-hi e) lo hi) f_first l)
        | inr rest ↦ elim rest [
          | inl level ↦ sweep-one_to_one e.hi f.hi two.first_range.hi two.second_range.hi level
          | inr g ↦ absurd (none_between segs s e f.hi two.first e_rises two.second.hi_hot hi e_first g)
        ]
      ]

  one_line : turn_of e.lo e.hi f.lo ≡ pos 0 → turn_of e.lo e.hi f.hi ≡ pos 0 → e ≡ f
  one_line lo hi = same_segs e f (same_lo lo hi) (same_hi lo hi)

  -- ---- on two lines they cross properly

  abbrev Differ : Type 0
  Differ = ¬ ((turn_of e.lo e.hi f.lo ≡ pos 0) × (turn_of e.lo e.hi f.hi ≡ pos 0))

  once : Differ → MeetOnce e f
  once differ = opposite_meet e f (opposite_from_common e f r inside.common) (opposite_from_common f e r (inside.common.1, inside.common.0))
      (not_parallel e f (opposite_from_common e f r inside.common) differ)

  -- no end is on the line of the other edge
  e_off : Differ → (turn_of f.lo f.hi e.lo ≡ pos 0) ⊎ (turn_of f.lo f.hi e.hi ≡ pos 0) → ⊥
  e_off differ h = let m = once differ in inside.not_first (end-same e m.at r (same_point-sym r m.at (m.only.only r inside.common)) (m.is_end h))

  f_off : Differ → (turn_of e.lo e.hi f.lo ≡ pos 0) ⊎ (turn_of e.lo e.hi f.hi ≡ pos 0) → ⊥
  f_off differ h = let m = once differ in inside.not_second (end-same f m.at r (same_point-sym r m.at (m.only.only r inside.common)) (m.is_end_of_other h))

strict_below : (x : ℤ) → x ≤ℤ pos 0 → ¬ (x ≡ pos 0) → x <ℤ pos 0
strict_below x h n = elim (le_cases h) [ inl l ↦ l | inr e ↦ absurd (n e) ]

strict_above : (x : ℤ) → pos 0 ≤ℤ x → ¬ (x ≡ pos 0) → pos 0 <ℤ x
strict_above x h n = elim (le_cases h) [ inl l ↦ l | inr e ↦ absurd (n (sym e)) ]

-- opposite numbers of which none is 0
strictly_opposite : (x y : ℤ) → AreOpposite x y → ¬ (x ≡ pos 0) → ¬ (y ≡ pos 0) → ((x <ℤ pos 0) × (pos 0 <ℤ y)) ⊎ ((pos 0 <ℤ x) × (y <ℤ pos 0))
strictly_opposite x y (inl h) not_x not_y = inl (strict_below x h.0 not_x, strict_above y h.1 not_y)
strictly_opposite x y (inr h) not_x not_y = inr (strict_above x h.0 not_x, strict_below y h.1 not_y)

-- the turns of four centres whose ends are opposite each other
centres_cross : (a b c d : Coord) → pos 0 <ℤ turn_of a b c → turn_of a b d <ℤ pos 0
    → ((turn_of c d a <ℤ pos 0) × (pos 0 <ℤ turn_of c d b)) ⊎ ((pos 0 <ℤ turn_of c d a) × (turn_of c d b <ℤ pos 0)) → CentresCross a b c d
centres_cross a b c d left right (inl h) = record { c_left = left; d_right = right; b_left = h.1; a_right = h.0 }
centres_cross a b c d left right (inr h) = absurd (let balance = turns-balance a b c d in omega (arith, lin))

-- opposite signs with the ends of the other edge exchanged
exchanged_signs : (x y x' y' : ℤ) → x' ≡ neg_ℤ x → y' ≡ neg_ℤ y → ((x <ℤ pos 0) × (pos 0 <ℤ y)) ⊎ ((pos 0 <ℤ x) × (y <ℤ pos 0))
    → ((x' <ℤ pos 0) × (pos 0 <ℤ y')) ⊎ ((pos 0 <ℤ x') × (y' <ℤ pos 0))
exchanged_signs x y x' y' ex ey (inl h) = inr (omega (arith, lin), omega (arith, lin))
exchanged_signs x y x' y' ex ey (inr h) = inl (omega (arith, lin), omega (arith, lin))

module _ (segs : List Seg) (s t : Seg) (has_s : Contains segs s) (has_t : Contains segs t) (range_s : IsSegInRange s) (range_t : IsSegInRange t) where
  -- two chain edges do not cross properly
  never_cross : (e f : Seg) → IsChainEdge segs s e → IsChainEdge segs t f
      → ((turn_of e.lo e.hi f.lo <ℤ pos 0) × (pos 0 <ℤ turn_of e.lo e.hi f.hi)) ⊎ ((pos 0 <ℤ turn_of e.lo e.hi f.lo) × (turn_of e.lo e.hi f.hi <ℤ pos 0))
      → ((turn_of f.lo f.hi e.lo <ℤ pos 0) × (pos 0 <ℤ turn_of f.lo f.hi e.hi)) ⊎ ((pos 0 <ℤ turn_of f.lo f.hi e.lo) × (turn_of f.lo f.hi e.hi <ℤ pos 0)) → ⊥
  never_cross e f first second (inr h) k =
      no_crossing segs s t e.lo e.hi f.lo f.hi (rises-in_range s range_s) (rises-in_range t range_t) has_s has_t
      first.piece second.piece first.lo_hot first.hi_hot second.lo_hot second.hi_hot (centres_cross e.lo e.hi f.lo f.hi h.0 h.1 k)
  never_cross e f first second (inl h) k =
      no_crossing segs s t e.lo e.hi f.hi f.lo (rises-in_range s range_s) (rises-in_range t range_t) has_s has_t
      first.piece (piece_turned segs t f.lo f.hi second.piece) first.lo_hot first.hi_hot second.hi_hot second.lo_hot
      (centres_cross e.lo e.hi f.hi f.lo h.1 h.0
      (exchanged_signs (turn_of f.lo f.hi e.lo) (turn_of f.lo f.hi e.hi) (turn_of f.hi f.lo e.lo) (turn_of f.hi f.lo e.hi) (turn-first_two f.lo f.hi e.lo) (turn-first_two f.lo f.hi e.hi) k))

  -- nor have they another point inside both, where they differ
  none_inside_both : (e f : Seg) (r : Point) → TwoEdges segs s t e f → ¬ (e ≡ f) → ¬ IsInsideBoth e f r
  none_inside_both e f r two different inside =
      let differ : ¬ ((turn_of e.lo e.hi f.lo ≡ pos 0) × (turn_of e.lo e.hi f.hi ≡ pos 0)) = λ h. different (one_line segs s t e f two r inside h.0 h.1) in
      let opposite = opposite_from_common e f r inside.common in
      let opposite_back = opposite_from_common f e r (inside.common.1, inside.common.0) in
      never_cross e f two.first two.second
      (strictly_opposite (turn_of e.lo e.hi f.lo) (turn_of e.lo e.hi f.hi) opposite (λ z. f_off segs s t e f two r inside differ (inl z)) (λ z. f_off segs s t e f two r inside differ (inr z)))
      (strictly_opposite (turn_of f.lo f.hi e.lo) (turn_of f.lo f.hi e.hi) opposite_back (λ z. e_off segs s t e f two r inside differ (inl z)) (λ z. e_off segs s t e f two r inside differ (inr z)))

  -- so a common point is an end of both
  common_is_end : (e f : Seg) (r : Point) → TwoEdges segs s t e f → ¬ (e ≡ f) → IsCommon e f r → IsEnd e r × IsEnd f r
  common_is_end e f r two different common =
      elim (is_end_or_not e r) [
        | inl at_e ↦ (at_e, end_of_other segs s t e f r two.first two.second common.1 at_e)
        | inr not_e ↦ elim (is_end_or_not f r) [
          | inl at_f ↦ (end_of_other segs t s f e r two.second two.first common.0 at_f, at_f)
          | inr not_f ↦ absurd (none_inside_both e f r two different (record { common = common; not_first = not_e; not_second = not_f }))
        ]
      ]

  edges_meet_in_ends : (e f : Seg) → TwoEdges segs s t e f → MeetInEnds e f
  edges_meet_in_ends e f two =
      elim (segs_or_not e f) [
        | inl same ↦ inl same
        | inr different ↦ inr (λ r common. common_is_end e f r two different common)
      ]

  -- two edges of chains of segments in range are equal or have at most common ends in common
  pub fully_noded : (c d : List Coord) → IsChain segs s c → IsChain segs t d → (e f : Seg) → Contains (chain_edges c) e → Contains (chain_edges d) f → MeetInEnds e f
  fully_noded c d chain_s chain_t e f has_e has_f =
      let first = chain_edge segs s c e (rises-in_range s range_s) chain_s has_e in
      let second = chain_edge segs t d f (rises-in_range t range_t) chain_t has_f in
      edges_meet_in_ends e f (record {
        first = first;
        second = second;
        first_range = edge_in_range segs s e range_s first;
        second_range = edge_in_range segs t f range_t second;
      })

-- so a list of chain edges is fully noded
pub list_fully_noded : (segs : List Seg) → All IsSegInRange segs → (edges : List Seg) → All (IsNodedEdge segs) edges → IsNodedFully edges
list_fully_noded segs in_range edges noded e f has_e has_f =
    let first = All-contains (IsNodedEdge segs) edges e noded has_e in
    let second = All-contains (IsNodedEdge segs) edges f noded has_f in
    fully_noded segs first.0 second.0 first.1.1.0 second.1.1.0
    (All-contains IsSegInRange segs first.0 in_range first.1.1.0) (All-contains IsSegInRange segs second.0 in_range second.1.1.0)
    first.1.0 second.1.0 first.1.1.1 second.1.1.1 e f first.1.1.2 second.1.1.2
