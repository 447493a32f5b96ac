-- What is read of rings and members whose numbers are fine, and the fault of a ring.
use Rattle.std.proofs.Common.{◌≡◌, ℕ, zero, suc, ◌+◌, ◌-◌, ◌<◌, ◌≤◌, Bool, true, false, ltb, List, [], ◌∷◌, ◌++◌, length, map, take, filter, flat_map, get_or, slice_get, All, Option, Some, None, ℤ, ◌⊎◌, inl, inr, ⊎_elim, refl, ap, ap₂, ◌∙◌, sym, subst, arith, lt-ltb, le-ltb, add-zero, le_of_suc-le-suc, int_eq}
use Rattle.std.proofs.lemmas.Grind.{flat_map-append}
use Rattle.std.proofs.lemmas.List.{length-map}
use Rattle.std.proofs.lemmas.Bool.{false_from_ne_true}
use Rattle.std.specs.List.{AllByRecursion}
use Rattle.std.specs.Option.{option_or}
use Rattle.std.proofs.lemmas.Bool.{and_parts, and_from, false≢true, cases_lt}
use Rattle.std.proofs.lemmas.Bool.Decides.{Decides-int_eq}
use Rattle.std.proofs.lemmas.List.Elements.{All-nil, All-cons, All-head, All-tail}
use Rattle.cov_types.specs.declared.coord.Coord.{Coord}
use Rattle.cov_types.specs.Coord.{is_same_coord}
use Rattle.geo_text.specs.Token.{Numeral}
use Rattle.geo_text.specs.Decimal.{value}
use Rattle.geo_text.specs.Grammar.{Position, Two, Three, Four, Ring, Element}
use Rattle.geo_text.specs.Reading.{coordinate, positions, bodies, has_ring}
use Rattle.geo_text.specs.Fault.{position_numbers, ring_numbers, rings_of, IsRingLong, IsRingClosed, IsRingFine, IsBehindFine}
use Rattle.geo_text.specs.Number.{precision_at}
use Rattle.geo_text.specs.Machine.{origin, is_closed, ring_fault}
use Rattle.geo_text.specs.declared.error.TextFault.{TextFault}
use Rattle.geo_text.specs.declared.error.TextFault.TheVariants.{RingShort, RingOpen}
use Rattle.geo_text.proofs.Options.{some_equal, split_append}
use Rattle.geo_text.proofs.Keeping.{coordinate_by, read_value, ring_points, first_ring_fault}

-- ---- points by a reading of numbers

-- the points of a ring, the polygons of polygon bodies and a member by the values of numbers
abbrev pub points_by : (Numeral → ℤ) → Ring → List Coord
points_by v r = take (length (positions r) - 1) (map (coordinate_by v) (positions r))

abbrev pub polys_by : (Numeral → ℤ) → List (List Ring) → List (List (List Coord))
polys_by v polygons = map (λ rings. map (points_by v) rings) (filter has_ring polygons)

abbrev pub members_by : (Numeral → ℤ) → List Element → List (List (List (List Coord)))
members_by v es = map (λ e. polys_by v (bodies e)) es

-- for numbers that two readings read alike
module _ (v w : Numeral → ℤ) where
  abbrev Alike : Numeral → Type 0
  Alike n = v n ≡ w n

  alike_coordinate : (p : Position) → AllByRecursion Alike (position_numbers p) → coordinate_by v p ≡ coordinate_by w p
  alike_coordinate (Two x y) h = ap₂ (λ (i j : ℤ). record { x = i; y = j }) h.0 h.1.0
  alike_coordinate (Three x y z) h = ap₂ (λ (i j : ℤ). record { x = i; y = j }) h.0 h.1.0
  alike_coordinate (Four x y z m) h = ap₂ (λ (i j : ℤ). record { x = i; y = j }) h.0 h.1.0

  alike_coordinates : (ps : List Position) → AllByRecursion Alike (flat_map position_numbers ps) → map (coordinate_by v) ps ≡ map (coordinate_by w) ps
  alike_coordinates [] h = refl
  alike_coordinates (p ∷ ps) h =
      let both = split_append Alike (position_numbers p) (flat_map position_numbers ps) h in
      ap₂ (λ (c : Coord) (cs : List Coord). c ∷ cs) (alike_coordinate p both.0) (alike_coordinates ps both.1)

  alike_rings : (rs : List Ring) → AllByRecursion Alike (flat_map ring_numbers rs) → map (points_by v) rs ≡ map (points_by w) rs
  alike_rings [] h = refl
  alike_rings (r ∷ rs) h =
      let both = split_append Alike (ring_numbers r) (flat_map ring_numbers rs) h in
      ap₂ (λ (c : List Coord) (cs : List (List Coord)). c ∷ cs) (ap (take (length (positions r) - 1)) (alike_coordinates (positions r) both.0)) (alike_rings rs both.1)

  alike_polys : (bs : List (List Ring)) → AllByRecursion Alike (flat_map ring_numbers (flat_map (λ rings. rings) bs)) → polys_by v bs ≡ polys_by w bs
  alike_polys [] h = refl
  alike_polys ([] ∷ bs) h = alike_polys bs h
  alike_polys ((r ∷ rs) ∷ bs) h =
      let both = split_append Alike (flat_map ring_numbers (r ∷ rs)) (flat_map ring_numbers (flat_map (λ rings. rings) bs)) (subst (AllByRecursion Alike) (flat_map-append ring_numbers (r ∷ rs) (flat_map (λ rings. rings) bs)) h) in
      ap₂ (λ (c : List (List Coord)) (cs : List (List (List Coord))). c ∷ cs) (alike_rings (r ∷ rs) both.0) (alike_polys bs both.1)

  pub alike_members : (es : List Element) → AllByRecursion Alike (flat_map ring_numbers (flat_map rings_of es)) → members_by v es ≡ members_by w es
  alike_members [] h = refl
  alike_members (e ∷ es) h =
      let both = split_append Alike (flat_map ring_numbers (rings_of e)) (flat_map ring_numbers (flat_map rings_of es)) (subst (AllByRecursion Alike) (flat_map-append ring_numbers (rings_of e) (flat_map rings_of es)) h) in
      ap₂ (λ (c : List (List (List Coord))) (cs : List (List (List (List Coord)))). c ∷ cs) (alike_polys (bodies e) both.0) (alike_members es both.1)

module _ (scale : Option ℕ) where
  -- ---- rings whose points are read with the values of their numbers

  -- the points of a ring, the last too
  abbrev pub coordinates : Ring → List Coord
  coordinates r = map (coordinate scale) (positions r)

  abbrev pub IsReadTrue : Ring → Type 0
  IsReadTrue r = ring_points (precision_at scale) r ≡ coordinates r

  pub rings_read_true : (rs : List Ring) → AllByRecursion (λ n. read_value (precision_at scale) n ≡ value scale n) (flat_map ring_numbers rs) → AllByRecursion IsReadTrue rs
  rings_read_true [] h = tt
  rings_read_true (r ∷ rs) h =
      let both = split_append (λ n. read_value (precision_at scale) n ≡ value scale n) (ring_numbers r) (flat_map ring_numbers rs) h in
      (alike_coordinates (read_value (precision_at scale)) (value scale) (positions r) both.0, rings_read_true rs both.1)

  length-coordinates : (r : Ring) → length (coordinates r) ≡ length (positions r)
  length-coordinates r = length-map (positions r) (coordinate scale)

  slice_get_at : {A : Type 0} (xs : List A) (i : ℕ) (d : A) → i < length xs → slice_get xs i ≡ Some (get_or xs i d)
  slice_get_at [] i d h = absurd (omega arith)
  slice_get_at (x ∷ xs) zero d h = refl
  slice_get_at (x ∷ xs) (suc i) d h = slice_get_at xs i d (le_of_suc-le-suc h)

  is_same_coord-true : (a b : Coord) → is_same_coord a b ≡ true → a ≡ b
  is_same_coord-true a b e =
      let h = and_parts (int_eq a.x b.x) (int_eq a.y b.y) e in
      ap (λ (t : ℤ). record { x = t; y = a.y }) ((Decides-int_eq a.x b.x).0 h.0) ∙ ap (λ (t : ℤ). record { x = b.x; y = t }) ((Decides-int_eq a.y b.y).0 h.1)

  is_same_coord-refl : (a b : Coord) → a ≡ b → is_same_coord a b ≡ true
  is_same_coord-refl a b e =
      and_from (int_eq a.x b.x) (int_eq a.y b.y) ((Decides-int_eq a.x b.x).1 (ap (λ (c : Coord). c.x) e)) ((Decides-int_eq a.y b.y).1 (ap (λ (c : Coord). c.y) e))

  -- the last point, as a value
  last_is : (r : Ring) → slice_get (coordinates r) (length (positions r) - 1) ≡ Some (get_or (coordinates r) (length (coordinates r) - 1) origin)
  last_is r =
      ap (λ n. slice_get (coordinates r) (n - 1)) (sym (length-coordinates r)) ∙ slice_get_at (coordinates r) (length (coordinates r) - 1) origin (omega arith)

  is_closed-true : (r : Ring) → IsRingClosed scale r → is_closed (coordinates r) ≡ true
  is_closed-true r h = is_same_coord-refl _ _ (some_equal _ _ (sym (last_is r) ∙ h))

  true-is_closed : (r : Ring) → is_closed (coordinates r) ≡ true → IsRingClosed scale r
  true-is_closed r e = last_is r ∙ ap Some (is_same_coord-true _ _ e)

  is_short : (r : Ring) → (IsRingLong r → ⊥) → ltb (length (coordinates r)) 4 ≡ true
  is_short r h = lt-ltb (length (coordinates r)) 4 (⊎_elim (λ k. k) (λ k. absurd (h (omega (arith, k, length-coordinates r)))) (cases_lt (length (coordinates r)) 4))

  is_long : (r : Ring) → IsRingLong r → ltb (length (coordinates r)) 4 ≡ false
  is_long r h = le-ltb (length (coordinates r)) 4 (omega (arith, h, length-coordinates r))

  -- the fault of a ring of this number
  abbrev pub IsFaultOfRing : ℕ → Ring → TextFault → Type 0
  IsFaultOfRing k r e = ((e ≡ RingShort k) × (IsRingLong r → ⊥)) ⊎ ((e ≡ RingOpen k) × IsRingLong r × (IsRingClosed scale r → ⊥))

  ring_fault-fine : (k : ℕ) (r : Ring) → IsRingFine scale r → ring_fault k (coordinates r) ≡ None
  ring_fault-fine k r h = rw (is_long r h.0, is_closed-true r h.1) refl

  ring_fault_of : (k : ℕ) (r : Ring) (e : TextFault) → IsFaultOfRing k r e → ring_fault k (coordinates r) ≡ Some e
  ring_fault_of k r e (inl (same, h)) = rw (is_short r h) (ap Some (sym same))
  ring_fault_of k r e (inr (same, l, h)) = let open_ring : is_closed (coordinates r) ≡ false = false_from_ne_true (is_closed (coordinates r)) (λ t. h (true-is_closed r t)) in rw (is_long r l, open_ring) (ap Some (sym same))

  decide_closed : (r : Ring) (b : Bool) → is_closed (coordinates r) ≡ b → IsRingClosed scale r ⊎ (IsRingClosed scale r → ⊥)
  decide_closed r true e = inl (true-is_closed r e)
  decide_closed r false e = inr (λ h. false≢true (sym e ∙ is_closed-true r h))

  -- a ring is fine, or short, or long and open
  decide_ring : (r : Ring) → IsRingFine scale r ⊎ ((IsRingLong r → ⊥) ⊎ (IsRingLong r × (IsRingClosed scale r → ⊥)))
  decide_ring r =
      ⊎_elim (λ k. inr (inl (λ h. let n : 4 ≤ length (positions r) = h in omega arith)))
      (λ k. ⊎_elim (λ h. inl (k, h)) (λ h. inr (inr (k, h))) (decide_closed r (is_closed (coordinates r)) refl))
      (cases_lt (length (positions r)) 4)

  -- ---- the first ring that is not fine, of rings from number k on

  pub record RingFault (k : ℕ) (rs : List Ring) : Type 0 where
    pub before : List Ring
    pub ring : Ring
    pub fault : TextFault
    pub first : IsBehindFine (IsRingFine scale) rs before ring
    pub is_fault : IsFaultOfRing (k + length before) ring fault

  faulty_here : (k : ℕ) (r : Ring) (rs : List Ring) (e : TextFault) → IsFaultOfRing k r e → RingFault k (r ∷ rs)
  faulty_here k r rs e h = record {
    before = [];
    ring = r;
    fault = e;
    first = record { after = rs; split = refl; fine = All-nil (IsRingFine scale) };
    is_fault = subst (λ (i : ℕ). IsFaultOfRing i r e) (sym (add-zero k)) h;
  }

  faulty_behind : (k : ℕ) (r : Ring) (rs : List Ring) → IsRingFine scale r → RingFault (k + 1) rs → RingFault k (r ∷ rs)
  faulty_behind k r rs h w =
      let place : k + 1 + length w.before ≡ k + suc (length w.before) = omega arith in
      record {
        before = r ∷ w.before;
        ring = w.ring;
        fault = w.fault;
        first = record { after = w.first.after; split = ap (λ xs. r ∷ xs) w.first.split; fine = All-cons (IsRingFine scale) r w.before h w.first.fine };
        is_fault = subst (λ (i : ℕ). IsFaultOfRing i w.ring w.fault) place w.is_fault;
      }

  pub scan_rings : (rs : List Ring) (k : ℕ) → All (IsRingFine scale) rs ⊎ RingFault k rs
  scan_rings [] k = inl (All-nil (IsRingFine scale))
  scan_rings (r ∷ rs) k =
      ⊎_elim (λ h. ⊎_elim (λ all. inl (All-cons (IsRingFine scale) r rs h all)) (λ w. inr (faulty_behind k r rs h w)) (scan_rings rs (k + 1)))
      (λ h. ⊎_elim (λ f. inr (faulty_here k r rs (RingShort k) (inl (refl, f)))) (λ f. inr (faulty_here k r rs (RingOpen k) (inr (refl, f.0, f.1)))) h)
      (decide_ring r)

  pub first_ring_fault-fine : (rs : List Ring) (k : ℕ) → AllByRecursion IsReadTrue rs → All (IsRingFine scale) rs → first_ring_fault (precision_at scale) k rs ≡ None
  first_ring_fault-fine [] k t h = refl
  first_ring_fault-fine (r ∷ rs) k t h =
      ap (λ ps. option_or (ring_fault k ps) (first_ring_fault (precision_at scale) (k + 1) rs)) t.0
      ∙ ap (λ o. option_or o (first_ring_fault (precision_at scale) (k + 1) rs)) (ring_fault-fine k r (All-head (IsRingFine scale) r rs h))
      ∙ first_ring_fault-fine rs (k + 1) t.1 (All-tail (IsRingFine scale) r rs h)

  -- the first ring that is not fine decides
  pub first_ring_fault-behind : (before after : List Ring) (r : Ring) (k : ℕ) (e : TextFault) → AllByRecursion IsReadTrue (before ++ r ∷ after) → All (IsRingFine scale) before → IsFaultOfRing (k + length before) r e → first_ring_fault (precision_at scale) k (before ++ r ∷ after) ≡ Some e
  first_ring_fault-behind [] after r k e t h f =
      ap (λ ps. option_or (ring_fault k ps) (first_ring_fault (precision_at scale) (k + 1) after)) t.0
      ∙ ap (λ o. option_or o (first_ring_fault (precision_at scale) (k + 1) after)) (ring_fault_of k r e (subst (λ (i : ℕ). IsFaultOfRing i r e) (add-zero k) f))
  first_ring_fault-behind (b ∷ before) after r k e t h f =
      let place : k + suc (length before) ≡ k + 1 + length before = omega arith in
      let rest = first_ring_fault (precision_at scale) (k + 1) (before ++ r ∷ after) in
      ap (λ ps. option_or (ring_fault k ps) rest) t.0
      ∙ ap (λ o. option_or o rest) (ring_fault-fine k b (All-head (IsRingFine scale) b before h))
      ∙ first_ring_fault-behind before after r (k + 1) e t.1 (All-tail (IsRingFine scale) b before h) (subst (λ (i : ℕ). IsFaultOfRing i r e) place f)
