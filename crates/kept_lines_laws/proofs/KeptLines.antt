-- What is left of a line is a line of the state, in one of its two directions, and there are no others.
use mathlib.Core.List.{[], ◌∷◌}
use Rattle.std.proofs.Common.{◌≡◌, ◌≢◌, refl, sym, ◌∙◌, ap, subst, zero, suc, ℕ, ◌+◌, ◌-◌, ◌<◌, ◌≤◌, ◌↔◌, Bool, false, not, cond, List, ◌++◌, length, get_or, arith}
use Rattle.std.specs.Prelude.{Contains, AllPairs, Some, slice_get, sum_by, reverse}
use Rattle.std.proofs.lemmas.List.{length-append, get_or_append_left, get_or-append-add, reverse-reverse}
use Rattle.std.proofs.lemmas.List.Elements.{All-contains, filter-append}
use Rattle.std.proofs.lemmas.Option.{slice_get_within, slice_get-get_or, get_or_from_slice_get}
use Rattle.cov_types.specs.declared.coord.Coord.{Coord}
use Rattle.cov_types.specs.declared.edge_use.EdgeUse.{EdgeUse}
use Rattle.cov_types.specs.declared.seg.Seg.{Seg}
use Rattle.cov_types.specs.Coverage.{Members, AllInRange}
use Rattle.cov_types.specs.Range.{IsSegInRange}
use Rattle.cov_types.specs.Uses.{uses_of}
use Rattle.cov_types.proofs.AllUses.{uses-in_range}
use Rattle.cov_types.proofs.EvenEnds.{even-ends}
use Rattle.plane.specs.Noded.{MeetInEnds}
use Rattle.plane.specs.Snapping.{chain_edges}
use Rattle.plane.specs.Validity.{IsValid}
use Rattle.plane.proofs.Sweeps.{rises-in_range}
use Rattle.crossing_laws.proofs.Lists.{contains-map}
use Rattle.sector_laws.specs.Sector.{IsPlanar}
use Rattle.arrangement.proofs.Labels.{mapped}
use Rattle.arrangement.specs.declared.odd_use.OddUse.{OddUse}
use Rattle.arrangement.specs.Noding.{AreEdges}
use Rattle.arrangement.proofs.LiveOverlays.{kept_is}
use Rattle.greedy_run.specs.Lines.{IsPathAlong, IsNode, IsLine, AreLines}
use Rattle.greedy_run.specs.Run.{Simplification, is_removed, current, IsRunState, coverage_without, IsSimplificationOf}
use Rattle.greedy_run.specs.Sides.{left_member, right_member}
use Rattle.greedy_run.proofs.Listed.{from_place, turned}
use Rattle.greedy_run.proofs.OneLine.{along, edge_at, common_edge}
use Rattle.greedy_run.proofs.Threads.{IsThread, turned_thread}
use Rattle.line_walk.specs.Line.{IsLesserWay}
use Rattle.line_walk.proofs.LesserWays.{some_lesser}
use Rattle.line_walk.proofs.WholeLines.{listed, line_over}
use Rattle.removal_laws.specs.Laws.{IsSoundState}
use Rattle.removal_laws.proofs.Bridge.{of_flat_map}
use Rattle.kept_lines_laws.specs.Kept.{KeepsEnds}
use Rattle.kept_lines_laws.proofs.Along.{left_from_end}
use Rattle.kept_lines_laws.proofs.Sums.{sum_flat, one_at_most}
use Rattle.kept_lines_laws.proofs.Thinned.{is_it, distinct_of_once}
use Rattle.kept_lines_laws.proofs.Nodes.{all_of, sound, thin, to_now, node_is_there, current_path, node_kept, node_was}

-- ---- a list by its two ends

pub record HasTwoEnds (l : List Coord) : Type 0 where
  pub x : Coord
  pub mid : List Coord
  pub y : Coord
  pub is : l ≡ x ∷ (mid ++ y ∷ [])

two_ends : (l : List Coord) → 2 ≤ length l → HasTwoEnds l
two_ends [] long = absurd (omega arith)
two_ends (x ∷ []) long = absurd (omega arith)
two_ends (x ∷ y ∷ []) long = record { x = x; mid = []; y = y; is = refl }
two_ends (x ∷ y ∷ z ∷ rest) long = let later = two_ends (y ∷ z ∷ rest) (omega arith) in record { x = x; mid = later.x ∷ later.mid; y = later.y; is = ap (λ l. x ∷ l) later.is }

-- the points of a list by places
module _ (x : Coord) (mid : List Coord) (y d : Coord) where
  abbrev whole : List Coord
  whole = x ∷ (mid ++ y ∷ [])

  whole_count : length whole ≡ suc (suc (length mid))
  whole_count = let a = length-append mid (y ∷ []) in omega arith

  last_at : get_or whole (suc (length mid)) d ≡ y
  last_at = ap (λ n. get_or (mid ++ y ∷ []) n d) (let z : length mid ≡ length mid + 0 = omega arith in z) ∙ get_or-append-add mid (y ∷ []) 0 d

  last_get : slice_get whole (length whole - 1) ≡ Some y
  last_get =
      let place : length whole - 1 ≡ suc (length mid) = omega (arith, whole_count) in
      slice_get-get_or whole (length whole - 1) d (omega (arith, whole_count)) ∙ ap Some (ap (λ n. get_or whole n d) place ∙ last_at)

  inner_at : (k : ℕ) → k < length mid → get_or whole (suc k) d ≡ get_or mid k d
  inner_at k less = get_or_append_left mid (y ∷ []) d k less

module _ (members : Members) (tolerance : ℕ) (inner_only : Bool) (s : Simplification) (of : IsSimplificationOf members tolerance inner_only s)
    (range : AllInRange members) (valid : IsValid (uses_of members)) (removed : List Coord) (run : IsRunState s removed)
    (edges : List Seg) (odd : List OddUse) (are_edges : AreEdges (uses_of (coverage_without removed members)) edges odd)
  where
    there : (p : Coord) → IsNode s.edges p → is_removed removed p ≡ false
    there = node_is_there members tolerance inner_only s of range valid removed run edges odd are_edges

    module _ (l : List Coord) (has : Contains s.lines l) where
      line : IsLine s.edges l
      line = (s.are_lines.exact l).0 has

      abbrev ends : HasTwoEnds l
      ends = two_ends l line.long

      abbrev d : Coord
      d = ends.x

      x_node : IsNode s.edges ends.x
      x_node = line.from ends.x (ap (λ m. slice_get m 0) ends.is)

      y_node : IsNode s.edges ends.y
      y_node = line.to ends.y (ap (λ m. slice_get m (length m - 1)) ends.is ∙ last_get ends.x ends.mid ends.y d)

      abbrev left : List Coord
      left = current removed ends.mid

      -- both ends stay
      left_is : current removed l ≡ ends.x ∷ (left ++ ends.y ∷ [])
      left_is =
          ap (current removed) ends.is
          ∙ ap (λ (t : Bool). cond (not t) (ends.x ∷ current removed (ends.mid ++ ends.y ∷ [])) (current removed (ends.mid ++ ends.y ∷ []))) (there ends.x x_node)
          ∙ ap (λ m. ends.x ∷ m) (filter-append (λ p. not (is_removed removed p)) ends.mid (ends.y ∷ []))
          ∙ ap (λ (t : Bool). ends.x ∷ (left ++ cond (not t) (ends.y ∷ []) [])) (there ends.y y_node)

      pub ends_kept : KeepsEnds l (current removed l)
      ends_kept = record {
        first = ap (λ m. slice_get m 0) left_is ∙ sym (ap (λ m. slice_get m 0) ends.is);
        last =
            ap (λ m. slice_get m (length m - 1)) left_is ∙ last_get ends.x left ends.y d
            ∙ sym (ap (λ m. slice_get m (length m - 1)) ends.is ∙ last_get ends.x ends.mid ends.y d);
      }

      abbrev thinned : List Coord
      thinned = ends.x ∷ (left ++ ends.y ∷ [])

      path : IsPathAlong edges thinned
      path = subst (IsPathAlong edges) left_is (current_path members tolerance inner_only s of range valid removed run edges odd are_edges l has)

      count : length thinned ≡ suc (suc (length left))
      count = whole_count ends.x left ends.y d

      -- no segment stands twice in it
      apart : AllPairs (λ e f. e ≢ f) (chain_edges thinned)
      apart =
          distinct_of_once (chain_edges thinned)
          (λ e. (
          let most = (thin members tolerance inner_only s of range valid removed run edges odd are_edges).once e in
          let flat = sum_flat (is_it e) (λ m. chain_edges (current removed m)) s.lines in
          let part = one_at_most (λ m. sum_by (is_it e) (chain_edges (current removed m))) s.lines l has in
          let same = ap (λ m. sum_by (is_it e) (chain_edges m)) left_is in
          omega arith))

      -- no point of it between its ends is a node
      not_between : (k : ℕ) → k < length left → ¬ IsNode edges (get_or left k d)
      not_between k less node =
          let (j, inside, is) = (kept_is (λ p. not (is_removed removed p)) ends.mid (get_or left k d) (k, less, same_at k less)).0 in
          let v = get_or left k d in
          let long = whole_count ends.x ends.mid ends.y d in
          let at : slice_get l (suc j) ≡ Some v =
          ap (λ m. slice_get m (suc j)) ends.is
          ∙ slice_get-get_or (ends.x ∷ (ends.mid ++ ends.y ∷ [])) (suc j) v (omega arith)
          ∙ ap Some (get_or_append_left ends.mid (ends.y ∷ []) v j inside ∙ is) in
          let whole_long = ap length ends.is in
          line.between (suc j) v (omega arith) (omega arith) at (node_was members tolerance inner_only s of range valid removed run edges odd are_edges v node)
        where
          same_at : (k : ℕ) → k < length left → get_or left k (get_or left k d) ≡ get_or left k d
          same_at k less = get_or_from_slice_get left k (get_or left k d) (get_or left k d) (slice_get-get_or left k d less)

      node_of : (p : Coord) → IsNode s.edges p → IsNode edges p
      node_of = node_kept members tolerance inner_only s of range valid removed run edges odd are_edges

      abbrev n : ℕ
      n = length thinned - 1

      thread : IsThread edges n (λ k. get_or thinned k d)
      thread = record {
        some = omega (arith, count);
        step = along edges thinned path d;
        distinct = λ j k e less within at_j at_k. (
            let first = edge_at edges thinned path d j e (omega arith) at_j in
            let second = edge_at edges thinned path d k e within at_k in
            apart j k e less (slice_get_within (chain_edges thinned) k e second)
            (get_or_from_slice_get (chain_edges thinned) j e e first ∙ sym (get_or_from_slice_get (chain_edges thinned) k e e second)));
        from = node_of ends.x x_node;
        to = subst (IsNode edges) (sym (ap (λ k. get_or thinned k d) (let z : n ≡ suc (length left) = omega (arith, count) in z) ∙ last_at ends.x left ends.y d)) (node_of ends.y y_node);
        between = λ k some less. inner k some less;
      }
        where
          inner : (k : ℕ) → 0 < k → k < n → ¬ IsNode edges (get_or thinned k d)
          inner zero some less node = absurd (omega arith)
          inner (suc k) some less node =
              let inside : k < length left = omega (arith, count) in
              not_between k inside (subst (IsNode edges) (inner_at ends.x left ends.y d k inside) node)

      abbrev by_places : List Coord
      by_places = from_place (λ k. get_or thinned k d) 0 n

      as_list : by_places ≡ current removed l
      as_list = listed thinned d (omega (arith, count)) ∙ sym left_is

      pub record IsStateLine (lesser : List Coord) : Type 0 where
        pub line : IsLine edges lesser
        pub chain : (e : Seg) → Contains (chain_edges lesser) e ↔ Contains (chain_edges (current removed l)) e

      -- in its lesser direction it is a line
      pub state_line : (lesser : List Coord) → IsLesserWay (current removed l) lesser → IsStateLine lesser
      state_line lesser way =
          let over = line_over edges n (λ k. get_or thinned k d) thread lesser (subst (λ m. IsLesserWay m lesser) (sym as_list) way) in
          record {
            line = over.line;
            chain = λ e. (λ h. subst (λ m. Contains (chain_edges m) e) as_list ((over.chain e).0 h), λ h. (over.chain e).1 (subst (λ m. Contains (chain_edges m) e) (sym as_list) h));
          }

      -- ---- from its other end

      abbrev uses : List EdgeUse
      uses = uses_of (coverage_without removed members)

      its_sound : IsSoundState s members removed
      its_sound = sound members tolerance inner_only s of range valid removed run edges odd are_edges

      use_range : (u : EdgeUse) → Contains uses u → IsSegInRange u.seg
      use_range u here = All-contains (λ (v : EdgeUse). IsSegInRange v.seg) uses u (uses-in_range (coverage_without removed members) its_sound.in_range) here

      edge_range : (e : Seg) → Contains edges e → IsSegInRange e
      edge_range e here = mapped (λ (u : EdgeUse). u.seg) IsSegInRange uses use_range e ((are_edges.exact e).0 here)

      planar : IsPlanar edges
      planar = record {
        in_range = all_of IsSegInRange edges edge_range;
        noded = λ e f has_e has_f.
            mapped (λ (u : EdgeUse). u.seg) (λ g. MeetInEnds g f) uses
            (λ u in_uses. mapped (λ (v : EdgeUse). v.seg) (λ g. MeetInEnds u.seg g) uses (λ v in_too. its_sound.valid.ends u v in_uses in_too) f ((are_edges.exact f).0 has_f)) e ((are_edges.exact e).0 has_e);
      }

      from_end : (m : ℕ) (f : ℕ → Coord) → IsThread edges m f → (count : ℕ) → left_member uses count (from_place f 0 m) ≡ right_member uses count (from_place (λ k. f (m - k)) 0 m)
      from_end m f h count =
          left_from_end uses count (even-ends (coverage_without removed members)) edges planar (λ e here. rises-in_range e (edge_range e here))
          (λ u here. (are_edges.exact u.seg).1 (contains-map (λ (v : EdgeUse). v.seg) uses u here)) m f h

      -- left and right are exchanged
      pub right_turned : (count : ℕ) → right_member uses count (reverse (current removed l)) ≡ left_member uses count (current removed l)
      right_turned count =
          ap (λ m. right_member uses count (reverse m)) (sym as_list)
          ∙ ap (right_member uses count) (sym (turned edges n (λ k. get_or thinned k d) thread))
          ∙ sym (from_end n (λ k. get_or thinned k d) thread count)
          ∙ ap (left_member uses count) as_list

      pub left_turned : (count : ℕ) → left_member uses count (reverse (current removed l)) ≡ right_member uses count (current removed l)
      left_turned count =
          let f = λ (k : ℕ). get_or thinned k d in
          let back = turned_thread edges n f thread in
          ap (λ m. left_member uses count (reverse m)) (sym as_list)
          ∙ ap (left_member uses count) (sym (turned edges n f thread))
          ∙ from_end n (λ k. f (n - k)) back count
          ∙ ap (right_member uses count) (turned edges n (λ k. f (n - k)) back ∙ ap reverse (turned edges n f thread) ∙ reverse-reverse by_places ∙ as_list)

    -- a line of the state is what is left of a line, in its lesser direction
    pub record IsLeftOf (points : List Coord) : Type 0 where
      pub line : List Coord
      pub is_line : Contains s.lines line
      pub way : IsLesserWay (current removed line) points

    pub left_of_line : (points : List Coord) → IsLine edges points → IsLeftOf points
    left_of_line [] it = absurd (let long = it.long in omega arith)
    left_of_line (p ∷ rest) it =
        let all = p ∷ rest in
        let long = it.long in
        let (e, step) = along edges all it.walk p 0 (omega arith) in
        let at = edge_at edges all it.walk p 0 e (omega arith) step.1 in
        let in_chain : Contains (chain_edges all) e = (0, slice_get_within (chain_edges all) 0 e at, get_or_from_slice_get (chain_edges all) 0 e e at) in
        let (l, found) = of_flat_map (λ m. chain_edges (current removed m)) s.lines e (to_now members tolerance inner_only s of range valid removed run edges odd are_edges e step.0) in
        let (lesser, way) = some_lesser (current removed l) in
        let its = state_line l found.0 lesser way in
        let same = common_edge edges lesser all its.line it e ((its.chain e).1 found.1) in_chain in
        record { line = l; is_line = found.0; way = subst (IsLesserWay (current removed l)) same way }

    pub lines_are : (lines : List (List Coord)) → AreLines edges lines → (points : List Coord) → Contains lines points ↔ IsLeftOf points
    lines_are lines are points = (λ has. left_of_line points ((are.exact points).0 has), λ h. (are.exact points).1 (state_line h.line h.is_line points h.way).line)
