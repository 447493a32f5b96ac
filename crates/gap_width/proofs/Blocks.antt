-- What the room of a centre says of a block.
use mathlib.Core.List.{[], ◌∷◌}
use Rattle.std.proofs.Common.{◌≡◌, refl, sym, ◌∙◌, subst, ℕ, ◌+◌, ◌*◌, ◌<◌, ◌≤◌, Bool, true, false, List, length, filter, nat_lt, Contains, IsTrue, ◌⊎◌, unsigned_abs, All, Result, Ok, Err, IfOk, inl, inr, cond, ap, ℤ, pos, neg_ℤ, int_lt, ◌+ℤ◌, ◌-ℤ◌, ◌*ℤ◌, ◌≤ℤ◌, ◌<ℤ◌, arith}
use Rattle.std.proofs.Math.Nat.{mul-le-mul}
use Rattle.std.proofs.lemmas.Bool.{cases_lt, ltb-false, lt-ltb}
use Rattle.std.proofs.lemmas.Int.{ints}
use Rattle.std.proofs.lemmas.List.{length-map}
use Rattle.std.proofs.lemmas.List.Elements.{All-filter}
use Rattle.cov_types.specs.declared.coord.Coord.{Coord}
use Rattle.cov_types.specs.declared.seg.Seg.{Seg}
use Rattle.integer_laws.proofs.Ring.{lin, by_ring, by_one, Var, Lit, ◌⊕◌, ◌⊖◌, ◌⊗◌}
use Rattle.integer_laws.proofs.Cast.{pos_positive}
use Rattle.integer_laws.proofs.Sign.{positive_times_positive}
use Rattle.plane.specs.Length.{edge_length}
use Rattle.plane.specs.Segment.{IsOn}
use Rattle.plane.specs.Region.{IsRegionOf}
use Rattle.arrangement.proofs.Labels.{mapped}
use Rattle.arrangement.proofs.LiveOverlays.{kept, kept_is}
use Rattle.crossing_laws.specs.Crossing.{crossing_sum}
use Rattle.crossing_laws.proofs.Lists.{contains-map, contains_here, contains_there}
use Rattle.distance_laws.specs.Room.{HasRoom, HasHalfRoom, doubled, reach, half_distance, half_side}
use Rattle.distance_laws.proofs.Reach.{doubled_room, reach_is}
use Rattle.region_laws.proofs.Balance.{first_or_later}
use Rattle.region_owners.specs.Box.{IsEdgeOf}
use Rattle.region_owners.specs.Gap.{HasRoomWithin}
use Rattle.region_owners.proofs.NearestOwn.{room_by_own}
use Rattle.clearance_laws.specs.Inside.{half_point, IsOffOwn}
use Rattle.clearance_laws.specs.Near.{IsNear, IsAsFar}
use Rattle.clearance_laws.specs.Block.{centre, corner}
use Rattle.clearance_laws.specs.Facing.{AreFacing, IsFront, depth, both}
use Rattle.clearance_laws.proofs.Near.{is_near-sym, room_bound, handed_down, handed_down-far, less_room, le_or_more}
use Rattle.clearance_laws.proofs.Outside.{room_to_outside, stays_inside, half_region}
use Rattle.clearance_laws.proofs.Blocks.{twice, near_centre}
use Rattle.clearance_laws.proofs.Facing.{no_room_alone, no_room_between}
use Rattle.gap_width.specs.Facing.{front_side, IsBoundedByOne, IsBoundedByTwo, IsBounded}
use Rattle.gap_width.specs.declared.own.OwnEdge.{OwnEdge}
use Rattle.gap_width.specs.declared.block.Block.{Block}
use Rattle.gap_width.specs.Own.{edges_in, weighed, IsSmallEdge, AreOwn}
use Rattle.gap_width.specs.Search.{IsBlock, IsWithinBlock, size, StandFor, IsKnown, IsRoom, IsBest, AreFewer, asked_for}

-- nothing is missed where best is enough
pub enough_is : (edges : List Seg) (r enough : ℕ) (s : Block) (best : ℕ) → enough ≤ best → IsBest edges r enough s best best
enough_is edges r enough s best h = record {
  no_less = omega arith;
  reached = λ less. absurd (omega (arith, less));
  greatest = λ less q w. absurd (omega (arith, less, h));
}

-- the centre is in the block
pub centre_in : (s : Block) → IsBlock s → IsWithinBlock s (centre s.lo s.hi)
centre_in s is = (let across = is.across in let upwards = is.upwards in record { left = from s.lo.x s.hi.x across; right = to s.lo.x s.hi.x across; bottom = from s.lo.y s.hi.y upwards; top = to s.lo.y s.hi.y upwards })
  where
    from : (l h : ℤ) → l ≤ℤ h → (pos 2 *ℤ l) ≤ℤ (l +ℤ h)
    from l h order = let two = twice l in omega (arith, lin)

    to : (l h : ℤ) → l ≤ℤ h → (l +ℤ h) ≤ℤ (pos 2 *ℤ h)
    to l h order = let two = twice h in omega (arith, lin)

-- a point on an edge has no room from it
pub on_none : (c : Coord) (e : Seg) (w : ℕ) → 1 ≤ w → HasHalfRoom c w e → IsOn e (half_point c) → ⊥
unfolding half_distance
on_none c e w some room on =
    let at = room (half_point c) on in
    let zero : half_distance c (half_point c) ≡ pos 0 = by_ring (c.x ∷ c.y ∷ [])
    ((Var 0 ⊗ Lit (pos 2) ⊖ Lit (pos 2) ⊗ Var 0) ⊗ (Var 0 ⊗ Lit (pos 2) ⊖ Lit (pos 2) ⊗ Var 0) ⊕ (Var 1 ⊗ Lit (pos 2) ⊖ Lit (pos 2) ⊗ Var 1) ⊗ (Var 1 ⊗ Lit (pos 2) ⊖ Lit (pos 2) ⊗ Var 1))
    (Lit (pos 0)) refl in
    let square : 1 ≤ w * w = mul-le-mul some some in
    let positive = positive_times_positive {x = pos (w * w)} {y = pos (2 * 2)} (pos_positive square) (record { lt = tt }) in
    absurd (omega (arith, lin))

-- the edges from which c has not the room of the limit
abbrev pub is_within : Coord → ℕ → OwnEdge → Bool
is_within c limit o = nat_lt (reach c o.edge) (limit * limit)

module _ (c : Coord) (room limit : ℕ) (near fewer : List OwnEdge) (is : IsRoom near c room) (more : room + 1 ≤ limit) where
  -- the nearest edge is among them
  nearest_filtered : fewer ≡ filter (is_within c limit) near → Contains (edges_in fewer) is.nearest
  nearest_filtered filtered = mapped (λ o. o.edge) (λ e. (HasHalfRoom c (room + 1) e → ⊥) → Contains (edges_in fewer) e) near (λ o in_n no_more. by o in_n no_more (is_within c limit o) refl) is.nearest is.among is.no_more
    where
      by : (o : OwnEdge) → Contains near o → (HasHalfRoom c (room + 1) o.edge → ⊥) → (b : Bool) → is_within c limit o ≡ b → Contains (edges_in fewer) o.edge
      by o in_n no_more true passes = contains-map (λ o. o.edge) fewer o (subst (λ xs. Contains xs o) (sym filtered) (kept (is_within c limit) near o in_n passes))
      by o in_n no_more false fails = absurd (no_more ((reach_is c (room + 1) o.edge).1 (
          let past = ltb-false (reach c o.edge) (limit * limit) fails in
          let squares = mul-le-mul more more in
          omega (arith, past, squares))))

  nearest_kept : AreFewer near c limit fewer → Contains (edges_in fewer) is.nearest
  nearest_kept (inl same) = subst (λ xs. Contains (edges_in xs) is.nearest) (sym same) is.among
  nearest_kept (inr filtered) = nearest_filtered filtered

  pub some_kept : AreFewer near c limit fewer → 0 < length fewer
  some_kept are = (let (k, below, _) = nearest_kept are in omega (arith, below, length-map fewer (λ o. o.edge)))

-- the edges that are chosen, of those that were kept and all
pub fewer_are : (c : Coord) (limit : ℕ) (near items some fewer : List OwnEdge) → some ≡ items → (items ≡ []) ⊎ (items ≡ filter (is_within c limit) near) → ((0 < length some) × (fewer ≡ some)) ⊎ (fewer ≡ near)
    → AreFewer near c limit fewer
fewer_are c limit near items some fewer value kept (inr all) = inl all
fewer_are c limit near items some fewer value (inl none) (inl chosen) = absurd (let long = subst (λ xs. 0 < length xs) (value ∙ none) chosen.0 in omega (arith, long))
fewer_are c limit near items some fewer value (inr filtered) (inl chosen) = inr (chosen.1 ∙ value ∙ filtered)

-- they are small where all were
pub small_kept : (c : Coord) (limit : ℕ) (near fewer : List OwnEdge) → AreFewer near c limit fewer → All IsSmallEdge near → All IsSmallEdge fewer
small_kept c limit near fewer (inl same) all = subst (λ xs. All IsSmallEdge xs) (sym same) all
small_kept c limit near fewer (inr filtered) all = subst (λ xs. All IsSmallEdge xs) (sym filtered) (All-filter (is_within c limit) IsSmallEdge near all)

module _ (edges : List Seg) (r : ℕ) (own near : List OwnEdge) (s : Block) (are : AreOwn edges r own) (stand : StandFor own near s) where
  own_room : (q : Coord) (w : ℕ) → IsWithinBlock s q → ((e : Seg) → Contains (edges_in near) e → HasHalfRoom q w e) → (e : Seg) → IsEdgeOf edges r e → HasHalfRoom q w e
  own_room q w in_s all e of = stand.room q w in_s all e ((are.each e).0 of)

  module _ (c : Coord) (at_centre : c ≡ centre s.lo s.hi) (far room : ℕ) (block : IsBlock s)
      (reaches : (((s.hi.x -ℤ s.lo.x) *ℤ (s.hi.x -ℤ s.lo.x)) +ℤ ((s.hi.y -ℤ s.lo.y) *ℤ (s.hi.y -ℤ s.lo.y))) ≤ℤ pos (far * far)) (is : IsRoom near c room) where
    c_in : IsWithinBlock s c
    c_in = subst (IsWithinBlock s) (sym at_centre) (centre_in s block)

    near_c : (q : Coord) → IsWithinBlock s q → IsNear c q far
    near_c q in_s = subst (λ d. IsNear d q far) (sym at_centre) (near_centre s.lo s.hi far q reaches in_s)

    rooms : (e : Seg) → IsEdgeOf edges r e → HasHalfRoom c room e
    rooms = own_room c room c_in is.each

    -- no grid point of the block has more room than this
    bound : (q : Coord) (w : ℕ) → IsWithinBlock s (doubled q) → ((e : Seg) → IsEdgeOf edges r e → HasRoom q w e) → w ≤ room + far
    bound q w in_s all =
        room_bound c (doubled q) room far w is.nearest (near_c (doubled q) in_s) is.no_more
        ((doubled_room q w is.nearest).0 (all is.nearest ((are.each is.nearest).1 (stand.among is.nearest is.among))))

    pub dropped : (enough best : ℕ) → room + far ≤ best → IsBest edges r enough s best best
    dropped enough best less = record {
      no_less = omega arith;
      reached = λ more. absurd (omega (arith, more));
      greatest = λ more q w in_s within all. (let at_most = bound q w in_s all in omega (arith, at_most, less));
    }

    -- where the centre is off all edges, the own edges tell whether it is in the region
    module _ (some : 1 ≤ room) where
      off : IsOffOwn edges r (half_point c)
      off e of on = on_none c e room some (rooms e of) on

      told : crossing_sum (weighed own) (half_point c) ≡ pos 1 → IsRegionOf edges (half_point c) r
      told one = (are.inside (half_point c) off).1 one

      -- where it is not, a point of the region has as much less room as the centre has
      pub outside : (enough best : ℕ) → far ≤ best + room → (crossing_sum (weighed own) (half_point c) ≡ pos 1 → ⊥) → IsBest edges r enough s best best
      outside enough best fits other = record {
        no_less = omega arith;
        reached = λ more. absurd (omega (arith, more));
        greatest = λ more q w in_s within all. (
            let none : IsRegionOf edges (half_point c) r → ⊥ = λ own_c. other ((are.inside (half_point c) off).0 own_c) in
            let le = room_to_outside edges are.planar are.distinct r are.not_outer (doubled q) c far w room (is_near-sym c (doubled q) far (near_c (doubled q) in_s))
            ((half_region edges q r).0 within) none (λ e of. (doubled_room q w e).0 (all e of)) rooms in
            omega (arith, le, fits)
            );
      }

    -- what is known of the centre and of the block
    module _ (inside decides : Bool) (know : IsKnown edges r s) (is_inside : IsTrue inside → IsTrue s.inside ⊎ (IsTrue decides × (crossing_sum (weighed own) (half_point c) ≡ pos 1)))
        (is_decided : IsTrue decides → 0 < room) where
      pub centre_within : IsTrue inside → IsRegionOf edges (half_point c) r
      centre_within t = elim (is_inside t) [
        | inl before ↦ know before c c_in
        | inr now ↦ told (is_decided now.0) now.1
      ]

      pub in_region : (known : Bool) → (IsTrue known → IsTrue s.inside ⊎ (IsTrue inside × far < room)) → IsTrue known → (q : Coord) → IsWithinBlock s q → IsRegionOf edges (half_point q) r
      in_region known is_known t q in_s = elim (is_known t) [
        | inl before ↦ know before q in_s
        | inr now ↦ stays_inside edges are.planar are.distinct r are.not_outer c q far room (near_c q in_s) (centre_within now.0) now.1 rooms
      ]

    -- a single grid point
    module _ (one : size s ≡ 0) (none : far ≡ 0) where
      at_corner : c ≡ doubled s.lo
      at_corner = at_centre ∙ (λ i. record { x = is_x s.lo.x s.hi.x (unsigned_abs (s.hi.y -ℤ s.lo.y)) one i; y = is_y s.lo.y s.hi.y (unsigned_abs (s.hi.x -ℤ s.lo.x)) one i })
        where
          is_x : (l h : ℤ) (other : ℕ) → unsigned_abs (h -ℤ l) + other ≡ 0 → l +ℤ h ≡ pos 2 *ℤ l
          is_x l h other is = let two = twice l in omega (arith, ints, lin)

          is_y : (l h : ℤ) (other : ℕ) → other + unsigned_abs (h -ℤ l) ≡ 0 → l +ℤ h ≡ pos 2 *ℤ l
          is_y l h other is = let two = twice l in omega (arith, ints, lin)

      pub single : (enough best : ℕ) → best < room → IsRegionOf edges (half_point c) r → IsBest edges r enough s best room
      single enough best more at_c =
          let within = (half_region edges s.lo r).1 (subst (λ d. IsRegionOf edges (half_point d) r) at_corner at_c) in record {
            no_less = omega (arith, more);
            reached = λ _. record {
              at = s.lo;
              within = within;
              room = room_by_own edges are.planar are.distinct r are.not_outer s.lo room within
                  (λ e of. (doubled_room s.lo room e).1 (subst (λ d. HasHalfRoom d room e) at_corner (rooms e of)));
            };
            greatest = λ _ q w in_s own_q all. (let at_most = bound q w in_s all in omega (arith, at_most, none));
          }

    -- the edges that are handed down
    module _ (t : Block) (in_s : (q : Coord) → IsWithinBlock t q → IsWithinBlock s q) (limit : ℕ) (is_limit : limit ≡ room + 1 + 2 * far) (fewer : List OwnEdge) where
      -- an edge of the list is handed down, or has as much room as the limit
      pub handed : AreFewer near c limit fewer → StandFor own fewer t
      handed (inl same) = subst (λ xs. StandFor own xs t) (sym same) (record {
        among = stand.among;
        room = λ q w in_t all. stand.room q w (in_s q in_t) all;
        far = λ q n m positive in_t all. stand.far q n m positive (in_s q in_t) all;
        twins = stand.twins;
      })
      handed (inr filtered) = record {
        among = λ e in_f. stand.among e (mapped (λ o. o.edge) (Contains (edges_in near)) fewer (λ o k. contains-map (λ o. o.edge) near o (kept_is (is_within c limit) near o (subst (λ xs. Contains xs o) filtered k)).0) e in_f);
        room = λ q w in_t all. stand.room q w (in_s q in_t) (λ e in_n. at_each q w in_t all e in_n);
        far = λ q n m positive in_t all. stand.far q n m positive (in_s q in_t) (λ e in_n. far_each q n m positive in_t all e in_n);
        twins = λ o p in_own in_f same. (
            let is_p = kept_is (is_within c limit) near p (subst (λ xs. Contains xs p) filtered in_f) in
            subst (λ xs. Contains xs o) (sym filtered) (kept (is_within c limit) near o (stand.twins o p in_own is_p.0 same) (ap (λ e. nat_lt (reach c e) (limit * limit)) same ∙ is_p.1)));
      }
        where
          far_each : (q : Coord) (n m : ℤ) → pos 0 <ℤ m → IsWithinBlock t q → ((e : Seg) → Contains (edges_in fewer) e → IsAsFar q n m e) → (e : Seg) → Contains (edges_in near) e → IsAsFar q n m e
          far_each q n m positive in_t all = mapped (λ o. o.edge) (λ e. IsAsFar q n m e) near (λ o in_n. by o in_n (is_within c limit o) refl)
            where
              by : (o : OwnEdge) → Contains near o → (b : Bool) → is_within c limit o ≡ b → IsAsFar q n m o.edge
              by o in_n true passes = all o.edge (contains-map (λ o. o.edge) fewer o (subst (λ xs. Contains xs o) (sym filtered) (kept (is_within c limit) near o in_n passes)))
              by o in_n false fails =
                  handed_down-far c q far (room + 1) n m o.edge is.nearest (near_c q (in_s q in_t)) is.no_more
                  (subst (λ n. HasHalfRoom c n o.edge) is_limit ((reach_is c limit o.edge).1 (ltb-false (reach c o.edge) (limit * limit) fails))) positive
                  (all is.nearest (nearest_filtered c room limit near fewer is (omega (arith, is_limit)) filtered))

          at_each : (q : Coord) (w : ℕ) → IsWithinBlock t q → ((e : Seg) → Contains (edges_in fewer) e → HasHalfRoom q w e) → (e : Seg) → Contains (edges_in near) e → HasHalfRoom q w e
          at_each q w in_t all = mapped (λ o. o.edge) (λ e. HasHalfRoom q w e) near (λ o in_n. by o in_n (is_within c limit o) refl)
            where
              by : (o : OwnEdge) → Contains near o → (b : Bool) → is_within c limit o ≡ b → HasHalfRoom q w o.edge
              by o in_n true passes = all o.edge (contains-map (λ o. o.edge) fewer o (subst (λ xs. Contains xs o) (sym filtered) (kept (is_within c limit) near o in_n passes)))
              by o in_n false fails =
                  handed_down c q far (room + 1) w o.edge is.nearest (near_c q (in_s q in_t)) is.no_more
                  (subst (λ n. HasHalfRoom c n o.edge) is_limit ((reach_is c limit o.edge).1 (ltb-false (reach c o.edge) (limit * limit) fails)))
                  (all is.nearest (nearest_filtered c room limit near fewer is (omega (arith, is_limit)) filtered))

-- ---- edges that face each other

unit_of : (b : Bool) → cond b (pos 1) (neg_ℤ (pos 1)) *ℤ cond b (pos 1) (neg_ℤ (pos 1)) ≡ pos 1
unit_of true = refl
unit_of false = refl

-- two sides that are not opposite are one
one_side : (b t : Bool) → (cond b (pos 1) (neg_ℤ (pos 1)) +ℤ cond t (pos 1) (neg_ℤ (pos 1)) ≡ pos 0 → ⊥) → cond b (pos 1) (neg_ℤ (pos 1)) ≡ cond t (pos 1) (neg_ℤ (pos 1))
one_side true true h = refl
one_side true false h = absurd (h refl)
one_side false true h = absurd (h refl)
one_side false false h = refl

-- an edge does not face itself
not_itself : (k : ℤ) (e : Seg) (m l : ℤ) (f : Seg) (n : ℤ) (c : Coord) → e ≡ f → k +ℤ l ≡ pos 0 → AreFacing k e m l f n c → ⊥
not_itself k e m l f n c same opposite is =
    let first = is.over_first in
    let second = is.over_second in
    let a = pos (edge_length e) in
    let h = half_side c e in
    let sides : half_side c f ≡ h = ap (half_side c) (sym same) in
    let lengths : pos (edge_length f) ≡ a = ap (λ g. pos (edge_length g)) (sym same) in
    let all : both e f (depth k c e) (depth l c f) ≡ (a *ℤ (k *ℤ h)) +ℤ (a *ℤ (l *ℤ h)) = (λ i. (lengths i *ℤ (k *ℤ h)) +ℤ (a *ℤ (l *ℤ sides i))) in
    let none : (a *ℤ (k *ℤ h)) +ℤ (a *ℤ (l *ℤ h)) ≡ pos 0 = by_one (a ∷ k ∷ l ∷ h ∷ []) (Var 0 ⊗ (Var 1 ⊗ Var 3) ⊕ Var 0 ⊗ (Var 2 ⊗ Var 3)) (Lit (pos 0)) (Var 0 ⊗ Var 3) (Var 1 ⊕ Var 2) (Lit (pos 0)) refl opposite in
    let last : depth l c f ≡ l *ℤ h = ap (λ z. l *ℤ z) sides in
    let sum : (k *ℤ h) +ℤ (l *ℤ h) ≡ pos 0 = by_one (k ∷ l ∷ h ∷ []) (Var 0 ⊗ Var 2 ⊕ Var 1 ⊗ Var 2) (Lit (pos 0)) (Var 2) (Var 0 ⊕ Var 1) (Lit (pos 0)) refl opposite in
    omega (arith, lin)

module _ (edges : List Seg) (r : ℕ) (own near : List OwnEdge) (s : Block) (are : AreOwn edges r own) (stand : StandFor own near s) where
  -- an edge of the list is one of the region's
  own_edge : (o : OwnEdge) → Contains near o → IsEdgeOf edges r o.edge
  own_edge o in_n = (are.each o.edge).1 (stand.among o.edge (contains-map (λ x. x.edge) near o in_n))

  front_is : (o : OwnEdge) → Contains near o → ((x : OwnEdge) → Contains near x → x.edge ≡ o.edge → front_side x ≡ front_side o) → IsFront edges r (front_side o) o.edge
  front_is o in_n same =
      let has = (own_edge o in_n).among in
      record {
        unit = unit_of (int_lt o.weight (pos 0));
        above = λ up. (let x : OwnEdge = record { edge = o.edge; weight = neg_ℤ (pos 1) } in sym (same x (stand.twins x o (are.above o.edge has up) in_n refl) refl));
        below = λ down. (let x : OwnEdge = record { edge = o.edge; weight = pos 1 } in sym (same x (stand.twins x o (are.below o.edge has down) in_n refl) refl));
      }

  module _ (q : Coord) (room : ℕ) (some : 1 ≤ room) (in_s : IsWithinBlock s (doubled q)) (within : IsRegionOf edges (half_point (doubled q)) r) (rooms : (e : Seg) → IsEdgeOf edges r e → HasHalfRoom (doubled q) room e) where
    far_as : (n d : ℤ) → pos 0 <ℤ d → ((f : Seg) → Contains (edges_in near) f → IsAsFar (doubled q) n d f) → (g : Seg) → IsEdgeOf edges r g → IsAsFar (doubled q) n d g
    far_as n d positive all g of = stand.far (doubled q) n d positive in_s all g ((are.each g).0 of)

    none_by_one : IsBoundedByOne s room near → ⊥
    none_by_one is =
        let o = is.edge in
        let in_n : Contains near o = subst (λ xs. Contains xs o) (sym is.only) (contains_here o []) in
        let of = own_edge o in_n in
        let only : (x : OwnEdge) → Contains near x → o ≡ x = λ x c. one_in o x (subst (λ xs. Contains xs x) is.only c) in
        let front = front_is o in_n (λ x c same. ap front_side (sym (only x c))) in
        no_room_alone edges are.planar are.distinct r are.not_outer s.lo s.hi q in_s within room some (front_side o) o.edge is.depth is.shallow is.least front of.among (rooms o.edge of)
        (λ n d positive is_far. far_as n d positive (mapped (λ x. x.edge) (IsAsFar (doubled q) n d) near (λ x c. subst (λ y. IsAsFar (doubled q) n d y.edge) (only x c) is_far)))
      where
        one_in : (o x : OwnEdge) → Contains (o ∷ []) x → o ≡ x
        one_in o x c = elim (first_or_later o [] x c) [
          | inl here ↦ here
          | inr later ↦ absurd (let none = later.1 in omega (arith, none))
        ]

    none_by_two : IsBoundedByTwo s room near → ⊥
    none_by_two is =
        let o = is.first in
        let p = is.second in
        let in_o : Contains near o = subst (λ xs. Contains xs o) (sym is.both) (contains_here o (p ∷ [])) in
        let in_p : Contains near p = subst (λ xs. Contains xs p) (sym is.both) (contains_there o p (p ∷ []) (contains_here p [])) in
        let of_o = own_edge o in_o in
        let of_p = own_edge p in_p in
        let either : (x : OwnEdge) → Contains near x → (o ≡ x) ⊎ (p ≡ x) = λ x c. two_in o p x (subst (λ xs. Contains xs x) is.both c) in
        let facing = is.facing.low_left in
        let corner_at = corner s.lo.x s.lo.y in
        let sides : o.edge ≡ p.edge → front_side o ≡ front_side p = λ same. one_side (int_lt o.weight (pos 0)) (int_lt p.weight (pos 0)) (λ opposite. not_itself (front_side o) o.edge is.first_depth (front_side p) p.edge is.second_depth corner_at same opposite facing) in
        let front_o = front_is o in_o (λ x c same. elim (either x c) [
          | inl first ↦ ap front_side (sym first)
          | inr second ↦ ap front_side (sym second) ∙ sym (sides (sym same ∙ ap (λ y. y.edge) (sym second)))
        ]) in
        let front_p = front_is p in_p (λ x c same. elim (either x c) [
          | inl first ↦ ap front_side (sym first) ∙ sides (ap (λ y. y.edge) first ∙ same)
          | inr second ↦ ap front_side (sym second)
        ]) in
        no_room_between edges are.planar are.distinct r are.not_outer s.lo s.hi q in_s within room some (front_side o) o.edge is.first_depth (front_side p) p.edge is.second_depth is.facing is.first_least is.second_least
        front_o front_p of_o.among of_p.among (rooms o.edge of_o) (rooms p.edge of_p)
        (λ n d positive far_o far_p. far_as n d positive (mapped (λ x. x.edge) (IsAsFar (doubled q) n d) near (λ x c. elim (either x c) [
          | inl first ↦ subst (λ y. IsAsFar (doubled q) n d y.edge) first far_o
          | inr second ↦ subst (λ y. IsAsFar (doubled q) n d y.edge) second far_p
        ])))
      where
        two_in : (o p x : OwnEdge) → Contains (o ∷ p ∷ []) x → (o ≡ x) ⊎ (p ≡ x)
        two_in o p x c = elim (first_or_later o (p ∷ []) x c) [
          | inl here ↦ inl here
          | inr later ↦ elim (first_or_later p [] x later) [
            | inl here ↦ inr here
            | inr last ↦ absurd (let none = last.1 in omega (arith, none))
          ]
        ]

    none_bounded : IsBounded s room near → ⊥
    none_bounded (inl one) = none_by_one one
    none_bounded (inr two) = none_by_two two

-- nothing is missed in a block that is bounded so
pub bounded_is : (edges : List Seg) (r enough : ℕ) (own near : List OwnEdge) (s : Block) (best : ℕ) → AreOwn edges r own → StandFor own near s → IsBounded s (best + 1) near → IsBest edges r enough s best best
bounded_is edges r enough own near s best are stand is = record {
  no_less = omega arith;
  reached = λ more. absurd (omega (arith, more));
  greatest = λ less q w in_s within all. elim (le_or_more w best) [
    | inl le ↦ le
    | inr more ↦
        absurd (none_bounded edges r own near s are stand q (best + 1) (omega arith) in_s ((half_region edges q r).0 within)
        (λ e of. less_room (doubled q) (best + 1) w e (omega (arith, more)) ((doubled_room q w e).0 (all e of))) is)
  ];
}

-- ---- halves

-- the best of the two halves, one after the other, is that of the block
pub two_is : (edges : List Seg) (r enough : ℕ) (s a b : Block) → ((q : Coord) → IsWithinBlock s (doubled q) → IsWithinBlock a (doubled q) ⊎ IsWithinBlock b (doubled q))
    → (best first second : ℕ) → IsBest edges r enough a best first → IsBest edges r enough b first second → IsBest edges r enough s best second
two_is edges r enough s a b cover best first second of_a of_b =
    let la = of_a.no_less in
    let lb = of_b.no_less in record {
      no_less = omega (arith, la, lb);
      reached = λ more. elim (cases_lt first second) [
        | inl last ↦ of_b.reached last
        | inr not_last ↦ subst (HasRoomWithin edges r) (omega (arith, not_last, lb)) (of_a.reached (omega (arith, more, not_last, lb)))
      ];
      greatest = λ less q w in_s within all. elim (cover q in_s) [
        | inl in_a ↦ (let le = of_a.greatest (omega (arith, less, lb)) q w in_a within all in omega (arith, le, lb))
        | inr in_b ↦ of_b.greatest less q w in_b within all
      ];
    }

-- ---- searches that leave blocks out

-- what was found is some room
pub some_room : (edges : List Seg) (r enough : ℕ) (s t : Block) (best found : ℕ) → IsBest edges r enough t best found → IsBest edges r 0 s best found
some_room edges r enough s t best found is = record { no_less = is.no_less; reached = is.reached; greatest = λ less. absurd (omega (arith, less)) }

-- before any search nothing is found
pub no_room_yet : (edges : List Seg) (r : ℕ) (s : Block) (best : ℕ) → IsBest edges r 0 s best best
no_room_yet edges r s best = enough_is edges r 0 s best (omega arith)

-- all edges stand for themselves
pub stand_for_all : (own : List OwnEdge) (s : Block) → StandFor own own s
stand_for_all own s = record { among = λ e k. k; room = λ q w in_s all. all; far = λ q n m positive in_s all. all; twins = λ o p in_own in_near is. in_own }

-- one search after another
pub after_some : (edges : List Seg) (r enough : ℕ) (s : Block) (best first second : ℕ) → IsBest edges r 0 s best first → IsBest edges r enough s first second → IsBest edges r enough s best second
after_some edges r enough s best first second before after =
    let la = before.no_less in
    let lb = after.no_less in record {
      no_less = omega (arith, la, lb);
      reached = λ more. elim (cases_lt first second) [
        | inl last ↦ after.reached last
        | inr not_last ↦ subst (HasRoomWithin edges r) (omega (arith, not_last, lb)) (before.reached (omega (arith, more, not_last, lb)))
      ];
      greatest = after.greatest;
    }

-- a search that leaves blocks out is asked for nothing
pub asked_none : (finest enough far : ℕ) → far < finest → asked_for finest enough ≡ 0
asked_none finest enough far less = ap (λ b. cond b 0 enough) (lt-ltb 0 finest (omega (arith, less)))

pub asked_less : (finest enough : ℕ) → asked_for finest enough ≤ enough
asked_less finest enough = by (nat_lt 0 finest)
  where
    by : (b : Bool) → cond b 0 enough ≤ enough
    by true = omega arith
    by false = omega arith

-- what holds of a value where there is one
pub if_ok : {X E : Type 0} (P Q : X → Type 0) (r : Result X E) → IfOk r P → ((x : X) → P x → Q x) → IfOk r Q
if_ok P Q (Ok x) h more = more x h
if_ok P Q (Err e) h more = tt

pub if_ok_both : {X E : Type 0} (P Q R : X → Type 0) (r : Result X E) → IfOk r P → IfOk r Q → ((x : X) → P x → Q x → R x) → IfOk r R
if_ok_both P Q R (Ok x) h k more = more x h k
if_ok_both P Q R (Err e) h k more = tt
