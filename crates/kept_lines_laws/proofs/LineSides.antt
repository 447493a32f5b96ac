-- The members beside the first segment of a line are the same in each state of the run.
use mathlib.Core.List.{[], ◌∷◌}
use Rattle.std.proofs.Common.{◌≡◌, ◌≢◌, inl, inr, refl, sym, ◌∙◌, ap, subst, ℕ, ◌||◌, Bool, false, not, cond, List, ◌++◌, arith}
use Rattle.std.specs.Prelude.{Contains, Some, slice_get, option_map, option_and_then, filter}
use Rattle.std.proofs.lemmas.Bool.{false≢true}
use Rattle.std.proofs.lemmas.List.Elements.{All-head, All-contains}
use Rattle.cov_types.specs.declared.coord.Coord.{Coord}
use Rattle.cov_types.specs.declared.edge_use.EdgeUse.{EdgeUse}
use Rattle.cov_types.specs.declared.seg.Seg.{Seg}
use Rattle.cov_types.specs.Coord.{is_same_coord}
use Rattle.cov_types.specs.Coverage.{Members, AllInRange}
use Rattle.cov_types.specs.Range.{IsSegInRange}
use Rattle.cov_types.specs.Seg.{IsSegBetween}
use Rattle.cov_types.specs.Uses.{uses_of}
use Rattle.cov_types.proofs.AllUses.{uses-in_range}
use Rattle.cov_types.proofs.Equal.{Decides-same_coords}
use Rattle.cov_types.proofs.EvenEnds.{even-ends}
use Rattle.plane.specs.Label.{numbers_below}
use Rattle.plane.specs.Parity.{member_holds}
use Rattle.plane.specs.Point.{Point}
use Rattle.plane.specs.Segment.{upper, lower}
use Rattle.plane.specs.Snapping.{chain_edges}
use Rattle.plane.specs.Validity.{IsValid}
use Rattle.crossing_laws.proofs.Lists.{contains_here, contains_there}
use Rattle.greedy_run.specs.Lines.{steps, IsAlongEdge, IsNode, IsLine}
use Rattle.greedy_run.specs.Run.{Simplification, Spot, IsRemovable, current, current_edges, IsRunState, coverage_without, IsSimplificationOf}
use Rattle.greedy_run.specs.Sides.{holder, left_from, right_from, beside_first, left_member, right_member}
use Rattle.greedy_run.proofs.NoNodes.{no_node}
use Rattle.greedy_run.proofs.OneLine.{chain_first}
use Rattle.greedy_run.proofs.Threads.{one_seg}
use Rattle.removal_laws.specs.Ear.{IsFreeOf}
use Rattle.removal_laws.specs.Laws.{IsSoundState, HasEar, IsRemoval}
use Rattle.removal_laws.proofs.Bridge.{to_flat_map}
use Rattle.removal_laws.proofs.Chains.{StandsOnce}
use Rattle.removal_laws.proofs.Exchange.{coord_cases, kind, seg_is, apart, holders_kept}
use Rattle.removal_laws.proofs.Members.{coverage_exchange}
use Rattle.removal_laws.proofs.Removable.{ear_of, use_of}
use Rattle.removal_laws.proofs.RunStates.{state_range, run_sound}
use Rattle.removal_laws.proofs.Steps.{coverage_without_more, current_more}
use Rattle.kept_lines_laws.proofs.Beside.{sides_kept}
use Rattle.kept_lines_laws.proofs.Bent.{beside_or}
use Rattle.kept_lines_laws.proofs.Exchanged.{points, one_line, once, without_b}
use Rattle.kept_lines_laws.proofs.Others.{upper_out, lower_out}
use Rattle.kept_lines_laws.proofs.Thinned.{all_kept}

-- ---- the members beside a line by its first segment

pub first_side : (beside : Coord → Seg → Point) (a y : Coord) (rest : List Coord) (e : Seg) → IsSegBetween a y e → beside_first beside (a ∷ y ∷ rest) ≡ Some (beside a e)
first_side beside a y rest e is = ap (λ es. option_map (beside a) (slice_get es 0)) (chain_first a y rest e is)

-- members that hold two points alike
pub holder_alike : (uses others : List EdgeUse) (n : ℕ) (p q : Point) → ((i : ℕ) → member_holds uses i p ≡ member_holds others i q) → holder uses n p ≡ holder others n q
holder_alike uses others n p q h = λ j. slice_get (filter (λ m. h m j) (numbers_below n)) 0

-- ---- one removal

module _ (s : Simplification) (members : Members) (removed : List Coord) (sound : IsSoundState s members removed) (spot : Spot) (h : IsRemovable s removed spot) where
  abbrev ear : HasEar h.t (uses_of (coverage_without removed members))
  ear = ear_of s members removed sound spot h

  abbrev old : List EdgeUse
  old = uses_of (coverage_without removed members)

  abbrev new : List EdgeUse
  new = uses_of (coverage_without (h.t.b ∷ []) (coverage_without removed members))

  same : coverage_without (h.t.b ∷ removed) members ≡ coverage_without (h.t.b ∷ []) (coverage_without removed members)
  same = coverage_without_more h.t.b removed members sound.keeps

  old_range : (u : EdgeUse) → Contains old u → IsSegInRange u.seg
  old_range u has = All-contains (λ (v : EdgeUse). IsSegInRange v.seg) old u (uses-in_range (coverage_without removed members) sound.in_range) has

  new_range : (u : EdgeUse) → Contains new u → IsSegInRange u.seg
  new_range u has =
      All-contains (λ (v : EdgeUse). IsSegInRange v.seg) new u (uses-in_range (coverage_without (h.t.b ∷ []) (coverage_without removed members)) (state_range (coverage_without removed members) (h.t.b ∷ []) sound.in_range)) has

  removal : IsRemoval h.t ear.ab ear.bc ear.ac old new
  removal = record {
    is_ear = ear.is_ear;
    exchange = coverage_exchange h.t ear.ab ear.bc ear.ac (coverage_without removed members) ear.is_ear sound.valid;
    in_range = old_range;
    even_before = even-ends (coverage_without removed members);
    even_after = even-ends (coverage_without (h.t.b ∷ []) (coverage_without removed members));
  }

  -- a segment of the state that does not end at b is free of the triangle
  free_of : (e : Seg) → Contains (current_edges s.lines removed) e → (x y : Coord) → IsSegBetween x y e → x ≢ h.t.b → y ≢ h.t.b → IsFreeOf h.t ear.ab ear.bc e
  free_of e has x y is off_x off_y =
      let (m, used) = use_of s members removed sound spot h e has in
      let u : EdgeUse = record { member = m; seg = e } in
      elim (kind h.t ear.ab ear.bc ear.ac old ear.is_ear sound.valid u used) [
        | inl first ↦ absurd (ends_off h.t.a (subst (IsSegBetween h.t.a h.t.b) (seg_is ear.ab e first.is) ear.is_ear.sides.two.first) is)
        | inr more ↦ elim more [
          | inl second ↦ absurd (ends_off h.t.c (turned h.t.b h.t.c e (subst (IsSegBetween h.t.b h.t.c) (seg_is ear.bc e second.is) ear.is_ear.sides.two.second)) is)
          | inr third ↦ third.free
        ]
      ]
    where
      turned : (p q : Coord) (e : Seg) → IsSegBetween p q e → IsSegBetween q p e
      turned p q e (inl t) = inr t
      turned p q e (inr t) = inl t

      ends_off : (a : Coord) → IsSegBetween a h.t.b e → IsSegBetween x y e → ⊥
      ends_off a (inl f) (inl g) = off_y (sym g.1 ∙ f.1)
      ends_off a (inl f) (inr g) = off_x (sym g.1 ∙ f.1)
      ends_off a (inr f) (inl g) = off_x (sym g.0 ∙ f.0)
      ends_off a (inr f) (inr g) = off_y (sym g.0 ∙ f.0)

  -- so its side points are held as before
  others_kept : (e : Seg) → Contains (current_edges s.lines removed) e → (x y : Coord) → IsSegBetween x y e → x ≢ h.t.b → y ≢ h.t.b → (i : ℕ)
      → (member_holds new i (left_from x e) ≡ member_holds old i (left_from x e)) × (member_holds new i (right_from x e) ≡ member_holds old i (right_from x e))
  others_kept e has x y is off_x off_y i =
      let free = free_of e has x y is off_x off_y in
      let (m, used) = use_of s members removed sound spot h e has in
      let he = old_range (record { member = m; seg = e }) used in
      let ends_apart = apart h.t ear.ab ear.bc ear.ac old ear.is_ear sound.valid in
      let high = holders_kept h.t ear.ab ear.bc ear.ac old new removal sound.valid (upper e) (upper_out h.t ear.ab ear.bc ear.ac ear.is_ear.sides ends_apart e he free) i in
      let low = holders_kept h.t ear.ab ear.bc ear.ac old new removal sound.valid (lower e) (lower_out h.t ear.ab ear.bc ear.ac ear.is_ear.sides ends_apart e he free) i in
      elim (beside_or x e) [
        | inl at ↦ (ap (member_holds new i) at.left ∙ high ∙ ap (member_holds old i) (sym at.left), ap (member_holds new i) at.right ∙ low ∙ ap (member_holds old i) (sym at.right))
        | inr at ↦ (ap (member_holds new i) at.left ∙ low ∙ ap (member_holds old i) (sym at.left), ap (member_holds new i) at.right ∙ high ∙ ap (member_holds old i) (sym at.right))
      ]

-- ---- the first segment of a line in each state

-- what is left of the line begins with the segment, whose side points are held so
pub record IsFirstHeld (s : Simplification) (members : Members) (removed l : List Coord) (left right : ℕ → Bool) : Type 0 where
  pub a : Coord
  pub y : Coord
  pub rest : List Coord
  pub e : Seg
  pub is : current removed l ≡ a ∷ y ∷ rest
  pub along : IsSegBetween a y e
  pub node : IsNode s.edges a
  pub on_left : (i : ℕ) → member_holds (uses_of (coverage_without removed members)) i (left_from a e) ≡ left i
  pub on_right : (i : ℕ) → member_holds (uses_of (coverage_without removed members)) i (right_from a e) ≡ right i

module _ (s : Simplification) (members : Members) (removed : List Coord) (sound : IsSoundState s members removed) (spot : Spot) (h : IsRemovable s removed spot)
    (l : List Coord) (in_lines : Contains s.lines l) (left right : ℕ → Bool) (held : IsFirstHeld s members removed l left right)
  where
    abbrev e_ear : HasEar h.t (uses_of (coverage_without removed members))
    e_ear = ear_of s members removed sound spot h

    state_same : coverage_without (h.t.b ∷ removed) members ≡ coverage_without (h.t.b ∷ []) (coverage_without removed members)
    state_same = same s members removed sound spot h

    a_off : held.a ≢ h.t.b
    a_off is = no_node s removed spot h (subst (IsNode s.edges) is held.node)

    off_test : (p : Coord) → p ≢ h.t.b → is_same_coord p h.t.b ≡ false
    off_test p apart = elim (coord_cases p h.t.b) [ inl is_b ↦ absurd (apart ((Decides-same_coords p h.t.b).0 is_b)) | inr other ↦ other ]

    kept_cons : (p : Coord) (ps : List Coord) → p ≢ h.t.b → current (h.t.b ∷ []) (p ∷ ps) ≡ p ∷ current (h.t.b ∷ []) ps
    kept_cons p ps apart = ap (λ (t : Bool). cond (not (t || false)) (p ∷ current (h.t.b ∷ []) ps) (current (h.t.b ∷ []) ps)) (off_test p apart)

    -- the second point stays
    stays : held.y ≢ h.t.b → IsFirstHeld s members (h.t.b ∷ removed) l left right
    stays y_off =
        let in_chain : Contains (chain_edges (current removed l)) held.e =
        subst (λ m. Contains (chain_edges m) held.e) (sym held.is) (subst (λ es. Contains es held.e) (sym (chain_first held.a held.y held.rest held.e held.along)) (contains_here held.e (chain_edges (held.y ∷ held.rest)))) in
        let now = to_flat_map (λ m. chain_edges (current removed m)) s.lines l held.e in_lines in_chain in
        let kept = others_kept s members removed sound spot h held.e now held.a held.y held.along a_off y_off in
        record {
          a = held.a;
          y = held.y;
          rest = current (h.t.b ∷ []) held.rest;
          e = held.e;
          is = current_more h.t.b removed l ∙ ap (current (h.t.b ∷ [])) held.is ∙ kept_cons held.a (held.y ∷ held.rest) a_off ∙ ap (λ m. held.a ∷ m) (kept_cons held.y held.rest y_off);
          along = held.along;
          node = held.node;
          on_left = λ i. ap (λ (c : Members). member_holds (uses_of c) i (left_from held.a held.e)) state_same ∙ (kept i).0 ∙ held.on_left i;
          on_right = λ i. ap (λ (c : Members). member_holds (uses_of c) i (right_from held.a held.e)) state_same ∙ (kept i).1 ∙ held.on_right i;
        }

    -- the second point is b: the segment gives way to ac
    record IsHead (ys : List Coord) : Type 0 where
      a_is : held.a ≡ h.t.a
      goes : current (h.t.b ∷ []) (current removed l) ≡ h.t.a ∷ h.t.c ∷ ys

    second_of : (x y : Coord) (rest : List Coord) (z w : Coord) (more : List Coord) → x ∷ y ∷ rest ≡ z ∷ w ∷ more → (x ≡ z) × (y ≡ w)
    second_of x y rest z w more e = (cc, cc)

    head : held.y ≡ h.t.b → (ys : List Coord) × IsHead ys
    head y_is = by it.xs refl
      where
        has_b : Contains (current removed l) h.t.b
        has_b = subst (λ m. Contains m h.t.b) (sym held.is) (subst (Contains (held.a ∷ held.y ∷ held.rest)) y_is (contains_there held.a held.y (held.y ∷ held.rest) (contains_here held.y held.rest)))

        is_points : l ≡ points s removed spot h
        is_points = one_line s removed spot h l in_lines has_b

        it : StandsOnce h.t.b (current removed (points s removed spot h)) h.t.a h.t.c
        it = once s removed spot h

        begins : held.a ∷ held.y ∷ held.rest ≡ (it.xs ++ h.t.a ∷ []) ++ h.t.b ∷ h.t.c ∷ it.ys
        begins = sym held.is ∙ ap (current removed) is_points ∙ it.is

        ends : current (h.t.b ∷ []) (current removed l) ≡ (it.xs ++ h.t.a ∷ []) ++ h.t.c ∷ it.ys
        ends = ap (λ m. current (h.t.b ∷ []) (current removed m)) is_points ∙ without_b h.t.b (current removed (points s removed spot h)) h.t.a h.t.c it

        by : (xs : List Coord) → it.xs ≡ xs → (ys : List Coord) × IsHead ys
        by [] is =
            let both = second_of held.a held.y held.rest h.t.a h.t.b (h.t.c ∷ it.ys) (begins ∙ ap (λ m. (m ++ h.t.a ∷ []) ++ h.t.b ∷ h.t.c ∷ it.ys) is) in
            (it.ys, record { a_is = both.0; goes = ends ∙ ap (λ m. (m ++ h.t.a ∷ []) ++ h.t.c ∷ it.ys) is })
        by (x ∷ []) is =
            let both = second_of held.a held.y held.rest x h.t.a (h.t.b ∷ h.t.c ∷ it.ys) (begins ∙ ap (λ m. (m ++ h.t.a ∷ []) ++ h.t.b ∷ h.t.c ∷ it.ys) is) in
            absurd (it.not_before (subst (λ m. Contains (m ++ h.t.a ∷ []) h.t.b) (sym is) (subst (Contains (x ∷ h.t.a ∷ [])) (sym both.1 ∙ y_is) (contains_there x h.t.a (h.t.a ∷ []) (contains_here h.t.a [])))))
        by (x ∷ z ∷ zs) is =
            let both = second_of held.a held.y held.rest x z ((zs ++ h.t.a ∷ []) ++ h.t.b ∷ h.t.c ∷ it.ys) (begins ∙ ap (λ m. (m ++ h.t.a ∷ []) ++ h.t.b ∷ h.t.c ∷ it.ys) is) in
            absurd (it.not_before (subst (λ m. Contains (m ++ h.t.a ∷ []) h.t.b) (sym is) (subst (Contains (x ∷ z ∷ zs ++ h.t.a ∷ [])) (sym both.1 ∙ y_is) (contains_there x z (z ∷ zs ++ h.t.a ∷ []) (contains_here z (zs ++ h.t.a ∷ []))))))

    goes : held.y ≡ h.t.b → IsFirstHeld s members (h.t.b ∷ removed) l left right
    goes y_is =
        let (ys, at) = head y_is in
        let kept = sides_kept h.t e_ear.ab e_ear.bc e_ear.ac (old s members removed sound spot h) (new s members removed sound spot h) (removal s members removed sound spot h) sound.valid (new_range s members removed sound spot h) in
        let e_is : held.e ≡ e_ear.ab = one_seg h.t.a h.t.b held.e e_ear.ab (subst (λ p. IsSegBetween p h.t.b held.e) at.a_is (subst (λ q. IsSegBetween held.a q held.e) y_is held.along)) e_ear.is_ear.sides.two.first in
        record {
          a = h.t.a;
          y = h.t.c;
          rest = ys;
          e = e_ear.ac;
          is = current_more h.t.b removed l ∙ at.goes;
          along = e_ear.is_ear.sides.third;
          node = subst (IsNode s.edges) at.a_is held.node;
          on_left = λ i.
              ap (λ (c : Members). member_holds (uses_of c) i (left_from h.t.a e_ear.ac)) state_same ∙ (kept i).left
              ∙ (λ j. member_holds (uses_of (coverage_without removed members)) i (left_from (sym at.a_is j) (sym e_is j))) ∙ held.on_left i;
          on_right = λ i.
              ap (λ (c : Members). member_holds (uses_of c) i (right_from h.t.a e_ear.ac)) state_same ∙ (kept i).right
              ∙ (λ j. member_holds (uses_of (coverage_without removed members)) i (right_from (sym at.a_is j) (sym e_is j))) ∙ held.on_right i;
        }

    pub next_held : IsFirstHeld s members (h.t.b ∷ removed) l left right
    next_held = elim (coord_cases held.y h.t.b) [
      | inl is_b ↦ goes ((Decides-same_coords held.y h.t.b).0 is_b)
      | inr other ↦ stays (λ is. false≢true (sym other ∙ (Decides-same_coords held.y h.t.b).1 is))
    ]

-- ---- each state of the run

some_is : (p q : Coord) → Some p ≡ Some q → p ≡ q
some_is p q h = cc

module _ (members : Members) (tolerance : ℕ) (inner_only : Bool) (s : Simplification) (of : IsSimplificationOf members tolerance inner_only s)
    (range : AllInRange members) (valid : IsValid (uses_of members)) (l : List Coord) (in_lines : Contains s.lines l)
  where
    -- the line itself, as its first two points and the others
    record HasFirstTwo (points : List Coord) : Type 0 where
      a : Coord
      y : Coord
      rest : List Coord
      e : Seg
      is : points ≡ a ∷ y ∷ rest
      along : IsSegBetween a y e
      node : IsNode s.edges a

    first_two : (points : List Coord) → IsLine s.edges points → HasFirstTwo points
    first_two [] line = absurd (let long = line.long in omega arith)
    first_two (a ∷ []) line = absurd (let long = line.long in omega arith)
    first_two (a ∷ y ∷ rest) line =
        let (e, along) = All-head (IsAlongEdge s.edges) (a, y) (steps (y ∷ rest)) line.walk in
        record { a = a; y = y; rest = rest; e = e; is = refl; along = along.1; node = line.from a refl }

    two : HasFirstTwo l
    two = first_two l ((s.are_lines.exact l).0 in_lines)

    abbrev on_left : ℕ → Bool
    on_left i = member_holds (uses_of (coverage_without [] members)) i (left_from two.a two.e)

    abbrev on_right : ℕ → Bool
    on_right i = member_holds (uses_of (coverage_without [] members)) i (right_from two.a two.e)

    run_held : (removed : List Coord) → IsRunState s removed → IsFirstHeld s members removed l on_left on_right
    run_held [] run = record { a = two.a; y = two.y; rest = two.rest; e = two.e; is = all_kept l ∙ two.is; along = two.along; node = two.node; on_left = λ i. refl; on_right = λ i. refl }
    run_held (b ∷ removed) run =
        let sound = run_sound members tolerance inner_only s of range valid removed run.0 in
        let held = run_held removed run.0 in
        let it = run.1 in
        let same_point = some_is it.removable.t.b b (sym it.removable.triangle.here ∙ it.is) in
        subst (λ (p : Coord). IsFirstHeld s members (p ∷ removed) l on_left on_right) same_point (next_held s members removed sound it.spot it.removable l in_lines on_left on_right held)

    -- the members beside what is left of the line are those beside it in the input
    pub left_kept : (n : ℕ) (removed : List Coord) → IsRunState s removed → left_member (uses_of (coverage_without removed members)) n (current removed l) ≡ left_member (uses_of (coverage_without [] members)) n l
    left_kept n removed run =
        let held = run_held removed run in
        let uses = uses_of (coverage_without removed members) in
        let first = uses_of (coverage_without [] members) in
        ap (λ m. option_and_then (holder uses n) (beside_first left_from m)) held.is
        ∙ ap (option_and_then (holder uses n)) (first_side left_from held.a held.y held.rest held.e held.along)
        ∙ holder_alike uses first n (left_from held.a held.e) (left_from two.a two.e) held.on_left
        ∙ sym (ap (option_and_then (holder first n)) (first_side left_from two.a two.y two.rest two.e two.along))
        ∙ sym (ap (λ m. option_and_then (holder first n) (beside_first left_from m)) two.is)

    pub right_kept : (n : ℕ) (removed : List Coord) → IsRunState s removed → right_member (uses_of (coverage_without removed members)) n (current removed l) ≡ right_member (uses_of (coverage_without [] members)) n l
    right_kept n removed run =
        let held = run_held removed run in
        let uses = uses_of (coverage_without removed members) in
        let first = uses_of (coverage_without [] members) in
        ap (λ m. option_and_then (holder uses n) (beside_first right_from m)) held.is
        ∙ ap (option_and_then (holder uses n)) (first_side right_from held.a held.y held.rest held.e held.along)
        ∙ holder_alike uses first n (right_from held.a held.e) (right_from two.a two.e) held.on_right
        ∙ sym (ap (option_and_then (holder first n)) (first_side right_from two.a two.y two.rest two.e two.along))
        ∙ sym (ap (λ m. option_and_then (holder first n) (beside_first right_from m)) two.is)
