-- The nodes of each state of the run are those of the input.
use mathlib.Core.List.{[], ◌∷◌}
use Rattle.std.proofs.Common.{◌≡◌, ◌≢◌, ◌⊎◌, inl, inr, refl, sym, ◌∙◌, ap, subst, zero, suc, ℕ, ◌≤◌, ◌||◌, Bool, true, false, not, cond, List, map, get_or, arith}
use Rattle.std.specs.Prelude.{Contains, All, AllPairs, Some, slice_get}
use Rattle.std.proofs.lemmas.Bool.{false≢true, true≢false, not-true}
use Rattle.std.proofs.lemmas.List.Elements.{All-head, All-tail, All-cons, All-nil, All-contains, All-weaker}
use Rattle.cov_types.specs.declared.coord.Coord.{Coord}
use Rattle.cov_types.specs.declared.seg.Seg.{Seg}
use Rattle.cov_types.specs.Coord.{is_before, is_same_coord}
use Rattle.cov_types.specs.Coverage.{Members, AllInRange}
use Rattle.cov_types.specs.Seg.{IsSegBetween, is_seg_before}
use Rattle.cov_types.specs.Uses.{uses_of}
use Rattle.cov_types.proofs.Equal.{Decides-same_coords}
use Rattle.cov_types.proofs.Order.{cases_coords}
use Rattle.cov_types.proofs.SegOrder.{is_seg_before-irrefl}
use Rattle.plane.specs.Snapping.{chain_edges}
use Rattle.plane.specs.Validity.{IsValid}
use Rattle.crossing_laws.proofs.Lists.{contains_here, contains_there}
use Rattle.arrangement.specs.declared.odd_use.OddUse.{OddUse}
use Rattle.arrangement.specs.Noding.{AreEdges, IsAscending}
use Rattle.arrangement.proofs.LiveOverlays.{kept_is}
use Rattle.greedy_run.specs.Lines.{degree, steps, IsAlongEdge, IsPathAlong, IsLeastOfLoop, IsNode, IsLine}
use Rattle.greedy_run.specs.Run.{Simplification, is_removed, current, current_edges, IsRunState, is_one_point, ring_without, coverage_without, IsSimplificationOf}
use Rattle.greedy_run.proofs.OneLine.{chain_first}
use Rattle.greedy_run.proofs.Threads.{seg_turned}
use Rattle.greedy_run.proofs.Trails.{some_passes}
use Rattle.greedy_run.proofs.Walks.{edge_line}
use Rattle.removal_laws.specs.Laws.{IsSoundState}
use Rattle.removal_laws.proofs.Bridge.{of_flat_map, to_flat_map, chain_ends}
use Rattle.removal_laws.proofs.RunStates.{run_sound}
use Rattle.kept_lines_laws.proofs.Sums.{sums_alike}
use Rattle.kept_lines_laws.proofs.Thinned.{IsThinned, IsWalkTo, path_of_apart, all_kept, ends_there, distinct_of_once, first_thinned, next_thinned}

-- ---- each state of the run

some_is : (p q : Coord) → Some p ≡ Some q → p ≡ q
some_is p q h = cc

pub run_thinned : (members : Members) (tolerance : ℕ) (inner_only : Bool) (s : Simplification) → IsSimplificationOf members tolerance inner_only s
    → AllInRange members → IsValid (uses_of members) → (removed : List Coord) → IsRunState s removed → IsThinned s removed
run_thinned members tolerance inner_only s of range valid [] run = first_thinned s
run_thinned members tolerance inner_only s of range valid (b ∷ removed) run =
    let sound = run_sound members tolerance inner_only s of range valid removed run.0 in
    let thin = run_thinned members tolerance inner_only s of range valid removed run.0 in
    let it = run.1 in
    let same = some_is it.removable.t.b b (sym it.removable.triangle.here ∙ it.is) in
    subst (λ (p : Coord). IsThinned s (p ∷ removed)) same (next_thinned s members removed sound it.spot it.removable thin)

-- ---- lists of edges

ascending_distinct : (edges : List Seg) → IsAscending edges → AllPairs (λ e f. e ≢ f) edges
ascending_distinct edges up i j d before within same =
    true≢false (sym (up i j d before within) ∙ ap (λ e. is_seg_before e (get_or edges j d)) same ∙ is_seg_before-irrefl (get_or edges j d))

pub all_of : {X : Type 0} (P : X → Type 0) (xs : List X) → ((x : X) → Contains xs x → P x) → All P xs
all_of P [] h = All-nil P
all_of P (x ∷ xs) h = All-cons P x xs (h x (contains_here x xs)) (all_of P xs (λ y has. h y (contains_there x y xs has)))

-- the edges of a path are among those along which it leads
pub chain_among : (edges : List Seg) (l : List Coord) → IsPathAlong edges l → (e : Seg) → Contains (chain_edges l) e → Contains edges e
chain_among edges [] walk e has = absurd (let within = has.1 in omega arith)
chain_among edges (x ∷ []) walk e has = absurd (let within = has.1 in omega arith)
chain_among edges (x ∷ y ∷ rest) walk e has =
    let first = All-head (IsAlongEdge edges) (x, y) (steps (y ∷ rest)) walk in
    let later = All-tail (IsAlongEdge edges) (x, y) (steps (y ∷ rest)) walk in
    by first.0 first.1.0 (chain_among edges (y ∷ rest) later e) (subst (λ l. Contains l e) (chain_first x y rest first.0 first.1.1) has)
  where
    by : (f : Seg) → Contains edges f → (Contains (chain_edges (y ∷ rest)) e → Contains edges e) → Contains (f ∷ chain_edges (y ∷ rest)) e → Contains edges e
    by f in_edges later (zero, inside, is) = subst (Contains edges) is in_edges
    by f in_edges later (suc k, inside, is) = later (k, omega arith, is)

along_more : (edges more : List Seg) → ((e : Seg) → Contains edges e → Contains more e) → (l : List Coord) → IsPathAlong edges l → IsPathAlong more l
along_more edges more h l = All-weaker (IsAlongEdge edges) (IsAlongEdge more) (λ step it. (it.0, (h it.0 it.1.0, it.1.1))) (steps l)

walk_more : (edges more : List Seg) → ((e : Seg) → Contains edges e → Contains more e) → (p q : Coord) → IsWalkTo edges p q → IsWalkTo more p q
walk_more edges more h p q (walk, it) = (walk, (along_more edges more h (p ∷ walk) it.0, it.1))

-- from each point of a path a walk goes back to the first
back_from : (edges : List Seg) (x : Coord) (l : List Coord) (y : Coord) → IsPathAlong edges (y ∷ l) → IsWalkTo edges y x → (p : Coord) → Contains (y ∷ l) p → IsWalkTo edges p x
back_from edges x l y path to p (zero, inside, is) = subst (λ v. IsWalkTo edges v x) is to
back_from edges x [] y path to p (suc k, inside, is) = absurd (omega arith)
back_from edges x (z ∷ l) y path (walk, it) p (suc k, inside, is) =
    let (e, along) = All-head (IsAlongEdge edges) (y, z) (steps (z ∷ l)) path in
    back_from edges x l z (All-tail (IsAlongEdge edges) (y, z) (steps (z ∷ l)) path)
    (y ∷ walk, (All-cons (IsAlongEdge edges) (z, y) (steps (y ∷ walk)) (e, (along.0, seg_turned y z e along.1)) it.0, contains_there z x (y ∷ walk) it.1))
    p (k, omega arith, is)

-- ---- the edges of a state

module _ (members : Members) (tolerance : ℕ) (inner_only : Bool) (s : Simplification) (of : IsSimplificationOf members tolerance inner_only s)
    (range : AllInRange members) (valid : IsValid (uses_of members)) (removed : List Coord) (run : IsRunState s removed)
    (edges : List Seg) (odd : List OddUse) (are_edges : AreEdges (uses_of (coverage_without removed members)) edges odd)
  where
    abbrev pub now : List Seg
    now = current_edges s.lines removed

    abbrev first : List Seg
    first = current_edges s.lines []

    pub sound : IsSoundState s members removed
    sound = run_sound members tolerance inner_only s of range valid removed run

    pub thin : IsThinned s removed
    thin = run_thinned members tolerance inner_only s of range valid removed run

    pub to_now : (e : Seg) → Contains edges e → Contains now e
    to_now e has = (sound.edges e).1 ((are_edges.exact e).0 has)

    pub of_now : (e : Seg) → Contains now e → Contains edges e
    of_now e has = (are_edges.exact e).1 ((sound.edges e).0 has)

    of_first : (e : Seg) → Contains first e → Contains s.edges e
    of_first e has =
        let (l, found) = of_flat_map (λ l. chain_edges (current [] l)) s.lines e has in
        chain_among s.edges l ((s.are_lines.exact l).0 found.0).walk e (subst (λ ps. Contains (chain_edges ps) e) (all_kept l) found.1)

    to_first : (e : Seg) → Contains s.edges e → Contains first e
    to_first e has =
        let (l, it) = edge_line s.edges of.are_edges.ascending e has in
        to_flat_map (λ l. chain_edges (current [] l)) s.lines l e ((s.are_lines.exact l).1 it.line) (subst (λ ps. Contains (chain_edges ps) e) (sym (all_kept l)) it.among)

    -- as many edges meet at a point that is left as before
    pub degree_kept : (p : Coord) → is_removed removed p ≡ false → degree edges p ≡ degree s.edges p
    degree_kept p there =
        sums_alike (ends_there p) edges now (ascending_distinct edges are_edges.ascending) (distinct_of_once now thin.once) to_now of_now
        ∙ thin.alike p there
        ∙ sums_alike (ends_there p) first s.edges (distinct_of_once first (first_thinned s).once) (ascending_distinct s.edges of.are_edges.ascending) of_first to_first

    -- ---- the points of the edges are left

    there_of : (l : List Coord) (p : Coord) → Contains (current removed l) p → is_removed removed p ≡ false
    there_of l p has = not-true (is_removed removed p) (kept_is (λ q. not (is_removed removed q)) l p has).1

    -- a line with the point among what is left of it
    pub record IsOnLine (p : Coord) : Type 0 where
      pub line : List Coord
      pub is_line : Contains s.lines line
      pub has : Contains (current removed line) p

    end_on_line : (e : Seg) → Contains edges e → (p : Coord) → (e.lo ≡ p) ⊎ (e.hi ≡ p) → IsOnLine p
    end_on_line e has p at =
        let (l, found) = of_flat_map (λ l. chain_edges (current removed l)) s.lines e (to_now e has) in
        let ends = chain_ends (current removed l) e found.1 in
        record {
          line = l;
          is_line = found.0;
          has = elim at [ inl lo ↦ subst (Contains (current removed l)) lo ends.lo | inr hi ↦ subst (Contains (current removed l)) hi ends.hi ];
        }

    pub on_line : (p : Coord) → 1 ≤ degree edges p → IsOnLine p
    on_line p some =
        let (e, found) = some_passes (λ e. is_same_coord e.lo p || is_same_coord e.hi p) edges some in
        by e found.0 (is_same_coord e.lo p) (is_same_coord e.hi p) refl refl found.1
      where
        by : (e : Seg) → Contains edges e → (x y : Bool) → is_same_coord e.lo p ≡ x → is_same_coord e.hi p ≡ y → (x || y) ≡ true → IsOnLine p
        by e has true y lo hi t = end_on_line e has p (inl ((Decides-same_coords e.lo p).0 lo))
        by e has false true lo hi t = end_on_line e has p (inr ((Decides-same_coords e.hi p).0 hi))
        by e has false false lo hi t = absurd (false≢true t)

    there_by : (p : Coord) → IsOnLine p → is_removed removed p ≡ false
    there_by p it = there_of it.line p it.has

    second_end : (p q : Coord) (e : Seg) → IsSegBetween p q e → (e.lo ≡ q) ⊎ (e.hi ≡ q)
    second_end p q e (inl is) = inr is.1
    second_end p q e (inr is) = inl is.0

    -- walks go over points that are left
    walk_there : (walk : List Coord) (p : Coord) → is_removed removed p ≡ false → IsPathAlong edges (p ∷ walk) → (q : Coord) → Contains (p ∷ walk) q → is_removed removed q ≡ false
    walk_there walk p there path q (zero, inside, is) = subst (λ v. is_removed removed v ≡ false) is there
    walk_there [] p there path q (suc k, inside, is) = absurd (omega arith)
    walk_there (y ∷ walk) p there path q (suc k, inside, is) =
        let (e, along) = All-head (IsAlongEdge edges) (p, y) (steps (y ∷ walk)) path in
        walk_there walk y (there_by y (end_on_line e along.0 y (second_end p y e along.1))) (All-tail (IsAlongEdge edges) (p, y) (steps (y ∷ walk)) path) q (k, omega arith, is)

    -- ---- the least points of closed chains

    least_kept : (p : Coord) → is_removed removed p ≡ false → IsLeastOfLoop s.edges p → IsLeastOfLoop edges p
    least_kept p there least walk path = all_of (λ q. (degree edges q ≡ 2) × (is_before q p ≡ false)) (p ∷ walk) each
      where
        each : (q : Coord) → Contains (p ∷ walk) q → (degree edges q ≡ 2) × (is_before q p ≡ false)
        each q has =
            let (old, it) = walk_more first s.edges of_first p q (thin.walks p q (walk_more edges now to_now p q (walk, (path, has)))) in
            let both = All-contains (λ q. (degree s.edges q ≡ 2) × (is_before q p ≡ false)) (p ∷ old) q (least old it.0) it.1 in
            (degree_kept q (walk_there walk p there path q has) ∙ both.0, both.1)

    -- a line as its first point and the others
    record HasFirst (l : List Coord) : Type 0 where
      x : Coord
      rest : List Coord
      is : l ≡ x ∷ rest

    first_of : (l : List Coord) → IsLine s.edges l → HasFirst l
    first_of [] line = absurd (let long = line.long in omega arith)
    first_of (x ∷ rest) line = record { x = x; rest = rest; is = refl }

    node_there : (p : Coord) → IsNode s.edges p → is_removed removed p ≡ false
    node_there p node = by (is_removed removed p) refl
      where
        by : (t : Bool) → is_removed removed p ≡ t → t ≡ false
        by true gone = absurd (thin.no_nodes p gone node)
        by false there = refl

    pub node_is_there : (p : Coord) → IsNode s.edges p → is_removed removed p ≡ false
    node_is_there = node_there

    -- what is left of a line is a path
    pub current_path : (l : List Coord) → Contains s.lines l → IsPathAlong edges (current removed l)
    current_path l has =
        path_of_apart edges (current removed l) (thin.apart l has) (λ e in_chain. of_now e (to_flat_map (λ m. chain_edges (current removed m)) s.lines l e has in_chain))

    least_was : (p : Coord) → 1 ≤ degree edges p → IsLeastOfLoop edges p → IsLeastOfLoop s.edges p
    least_was p some least =
        let on = on_line p some in
        let line = (s.are_lines.exact on.line).0 on.is_line in
        let f = first_of on.line line in
        let node : IsNode s.edges f.x = line.from f.x (ap (λ l. slice_get l 0) f.is) in
        let x_there = node_there f.x node in
        let left : current removed on.line ≡ f.x ∷ current removed f.rest =
        ap (current removed) f.is ∙ ap (λ (t : Bool). cond (not t) (f.x ∷ current removed f.rest) (current removed f.rest)) x_there in
        let path = subst (IsPathAlong edges) left (current_path on.line on.is_line) in
        let (walk, it) = back_from edges f.x (current removed f.rest) f.x path ([], (All-nil (IsAlongEdge edges), contains_here f.x [])) p (subst (λ l. Contains l p) left on.has) in
        let at_x = All-contains (λ q. (degree edges q ≡ 2) × (is_before q p ≡ false)) (p ∷ walk) f.x (least walk it.0) it.1 in
        let two : degree s.edges f.x ≡ 2 = sym (degree_kept f.x x_there) ∙ at_x.0 in
        elim node.node [
          | inl other ↦ absurd (other two)
          | inr x_least ↦ (
              let at_p = All-contains (λ q. (degree s.edges q ≡ 2) × (is_before q f.x ≡ false)) (f.x ∷ f.rest) p (x_least f.rest (subst (IsPathAlong s.edges) f.is line.walk))
              (subst (λ l. Contains l p) f.is (kept_is (λ q. not (is_removed removed q)) on.line p on.has).0) in
              elim (cases_coords p f.x) [
                | inl before ↦ absurd (true≢false (sym before ∙ at_p.1))
                | inr rest ↦ elim rest [
                  | inl same ↦ subst (IsLeastOfLoop s.edges) (sym same) x_least
                  | inr after ↦ absurd (true≢false (sym after ∙ at_x.1))
                ]
              ]
              )
        ]

    -- ---- nodes

    pub node_kept : (p : Coord) → IsNode s.edges p → IsNode edges p
    node_kept p node =
        let there = node_there p node in
        let same = degree_kept p there in
        record {
          vertex = subst (λ n. 1 ≤ n) (sym same) node.vertex;
          node = elim node.node [ inl other ↦ inl (λ two. other (sym same ∙ two)) | inr least ↦ inr (least_kept p there least) ];
        }

    pub node_was : (p : Coord) → IsNode edges p → IsNode s.edges p
    node_was p node =
        let there = there_by p (on_line p node.vertex) in
        let same = degree_kept p there in
        record {
          vertex = subst (λ n. 1 ≤ n) same node.vertex;
          node = elim node.node [ inl other ↦ inl (λ two. other (same ∙ two)) | inr least ↦ inr (least_was p node.vertex least) ];
        }

-- ---- the first state

ring_kept : (points : List Coord) → ring_without [] points ≡ points
ring_kept points = by (is_one_point points)
  where
    by : (b : Bool) → cond b points (current [] points) ≡ points
    by true = refl
    by false = all_kept points

map_kept : {X : Type 0} (f : X → X) → ((x : X) → f x ≡ x) → (xs : List X) → map f xs ≡ xs
map_kept f h [] = refl
map_kept f h (x ∷ xs) = λ i. h x i ∷ map_kept f h xs i

-- a coverage without no points is the coverage
pub none_removed : (members : Members) → coverage_without [] members ≡ members
none_removed members = map_kept (λ polys. map (λ rings. map (ring_without []) rings) polys) (map_kept (λ rings. map (ring_without []) rings) (map_kept (ring_without []) ring_kept)) members
