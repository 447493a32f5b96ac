-- The first state: what its tables are made of.
use mathlib.Core.List.{[], ◌∷◌}
use Rattle.std.proofs.Common.{◌≡◌, ◌⊎◌, inl, inr, refl, sym, ◌∙◌, ap, subst, ℕ, ◌+◌, ◌-◌, ◌<◌, ◌≤◌, List, ◌++◌, length, get_or, take, drop, zip, All, Bool, true, Option, Some, Vec, Global, ◌↔◌, slice_get, arith, length-drop}
use Rattle.std.specs.Prelude.{Contains, flat_map, option_to_list, reverse, IsPermutation}
use Rattle.std.proofs.lemmas.List.{places, take_all}
use Rattle.std.proofs.lemmas.List.Elements.{Contains-append_cases, Contains-append_left, Contains-append_right}
use Rattle.std.proofs.lemmas.List.Folds.{flat_map-map}
use Rattle.std.proofs.lemmas.Slice.Zip.{get_or-zip, length-zip}
use Rattle.std.proofs.lemmas.List.Sorted.{Contains-permutation, IsPermutation-sym}
use Rattle.std.proofs.lemmas.Option.{get_or_from_slice_get}
use Rattle.cov_types.specs.declared.coord.Coord.{Coord}
use Rattle.cov_types.specs.declared.seg.Seg.{Seg}
use Rattle.cov_types.specs.Range.{IsInRange}
use Rattle.cov_types.specs.Seg.{IsSegBetween}
use Rattle.cov_types.specs.Uses.{seg_between}
use Rattle.cov_types.proofs.Sides.{flat_map-take_more}
use Rattle.cov_types.proofs.AllUses.{All-flat_map}
use Rattle.plane.specs.Snapping.{chain_edges}
use Rattle.greedy_run.specs.Run.{Simplification, current, current_points, current_edges, IsRunState}
use Rattle.greedy_run.proofs.OneLine.{is_between}
use Rattle.removal_laws.proofs.Bridge.{ends_of_side}
use Rattle.removal_laws.proofs.Rings.{side_cases}
use Rattle.visvalingam.specs.Chains.{AreLinked, AreAllLinked}
use Rattle.visvalingam.specs.Queue.{at_spot}
use Rattle.visvalingam.specs.Ready.{IsOpen, IsReady}
use Rattle.visvalingam.specs.Segments.{is_among}
use Rattle.visvalingam.specs.State.{AreLinesInRange, IsTaskOf, IsStateOf, lists_of, gone}
use Rattle.visvalingam.specs.Waiting.{waiting_at}
use Rattle.visvalingam.specs.declared.chains.Links.{Links}
use Rattle.visvalingam.specs.declared.spot.QueuedSpot.{QueuedSpot}
use Rattle.visvalingam.specs.declared.state.State.{State}
use Rattle.visvalingam.specs.declared.task.Task.{Task}
use Rattle.visvalingam.proofs.Chained.{last_or_before}

-- ---- before a removal all is current

current_none : (xs : List Coord) → current [] xs ≡ xs
current_none [] = refl
current_none (x ∷ xs) = ap (λ rest. x ∷ rest) (current_none xs)

pub all_points : (lines : List (Vec Coord Global)) → flat_map (λ (v : Vec Coord Global). v.items) lines ≡ current_points (lists_of lines) []
all_points lines = sym (flat_map-map (current []) (λ (v : Vec Coord Global). v.items) lines ∙ (λ i. flat_map (λ (v : Vec Coord Global). current_none v.items i) lines))

pub all_edges : (lines : List (Vec Coord Global)) → flat_map (λ (v : Vec Coord Global). chain_edges v.items) lines ≡ current_edges (lists_of lines) []
all_edges lines =
    sym (flat_map-map (λ (points : List Coord). chain_edges (current [] points)) (λ (v : Vec Coord Global). v.items) lines ∙ (λ i. flat_map (λ (v : Vec Coord Global). chain_edges (current_none v.items i)) lines))

pub all_in_range : (lines : List (Vec Coord Global)) → AreLinesInRange lines → All IsInRange (current_points (lists_of lines) [])
all_in_range lines h = subst (All IsInRange) (all_points lines) (All-flat_map IsInRange (λ (v : Vec Coord Global). v.items) lines h)

-- ---- the segments of a line, one after the other

-- the segments between neighbours before the place
abbrev pub edges_until : ℕ → List Coord → List Seg
edges_until count points = flat_map (λ (pair : Coord × Coord). option_to_list (seg_between pair.0 pair.1)) (take count (zip points (drop 1 points)))

next_point : (points : List Coord) (m : ℕ) (d : Coord) → m + 1 < length points → get_or (drop 1 points) m d ≡ get_or points (m + 1) d
next_point points m d h = grind (arith, places)

until_more : (points : List Coord) (m : ℕ) (d : Coord) → m + 1 < length points
    → edges_until (m + 1) points ≡ edges_until m points ++ option_to_list (seg_between (get_or points m d) (get_or points (m + 1) d))
until_more points m d h =
    let pair : Coord × Coord = (get_or points m d, get_or points (m + 1) d) in
    let long = length-drop 1 points in
    let both = length-zip points (drop 1 points) in
    let at : get_or (zip points (drop 1 points)) m pair ≡ pair = get_or-zip points (drop 1 points) m pair (omega arith) (omega arith) ∙ λ i. (first i, second i) in
    sym (flat_map-take_more (λ (p : Coord × Coord). option_to_list (seg_between p.0 p.1)) (zip points (drop 1 points)) m pair [] (edges_until m points) (edges_until m points ++ option_to_list (seg_between pair.0 pair.1))
    (omega arith) at refl refl)
  where
    first : get_or points m (get_or points m d) ≡ get_or points m d
    first = grind (arith, places)

    second : get_or (drop 1 points) m (get_or points (m + 1) d) ≡ get_or points (m + 1) d
    second = next_point points m (get_or points (m + 1) d) h ∙ grind (arith, places)

-- one segment more
pub chain_more : (points : List Coord) (m : ℕ) (d : Coord) → m + 1 < length points → (e : Seg) (start old new : Bool) → (old ≡ true) ↔ ((start ≡ true) ⊎ Contains (edges_until m points) e)
    → (new ≡ true) ↔ ((old ≡ true) ⊎ IsSegBetween (get_or points m d) (get_or points (m + 1) d) e) → (new ≡ true) ↔ ((start ≡ true) ⊎ Contains (edges_until (m + 1) points) e)
chain_more points m d h e start old new before added = (there, back)
  where
    p : Coord
    p = get_or points m d

    q : Coord
    q = get_or points (m + 1) d

    here : IsSegBetween p q e → Contains (option_to_list (seg_between p q)) e
    here between = subst (λ o. Contains (option_to_list o) e) (sym (is_between p q e between)) (0, omega arith, refl)

    there : new ≡ true → (start ≡ true) ⊎ Contains (edges_until (m + 1) points) e
    there k = elim (added.0 k) [
      | inl was ↦ elim (before.0 was) [
        | inl first ↦ inl first
        | inr has ↦ inr (subst (λ es. Contains es e) (sym (until_more points m d h)) (Contains-append_left (edges_until m points) (option_to_list (seg_between p q)) e has))
      ]
      | inr between ↦ inr (subst (λ es. Contains es e) (sym (until_more points m d h)) (Contains-append_right (edges_until m points) (option_to_list (seg_between p q)) e (here between)))
    ]

    back : (start ≡ true) ⊎ Contains (edges_until (m + 1) points) e → new ≡ true
    back (inl first) = added.1 (inl (before.1 (inl first)))
    back (inr has) = elim (Contains-append_cases (edges_until m points) (option_to_list (seg_between p q)) e (subst (λ es. Contains es e) (until_more points m d h) has)) [
      | inl was ↦ added.1 (inl (before.1 (inr was)))
      | inr last ↦ added.1 (inr (ends_of_side p q (seg_between p q) (side_cases p q) e last))
    ]

-- as a loop over the places comes to it
pub chain_step : (points : List Coord) (i : ℕ) (d : Coord) → 1 ≤ i → i < length points → (e : Seg) (start old new : Bool) → (old ≡ true) ↔ ((start ≡ true) ⊎ Contains (edges_until (i - 1) points) e)
    → (new ≡ true) ↔ ((old ≡ true) ⊎ IsSegBetween (get_or points (i - 1) d) (get_or points i d) e) → (new ≡ true) ↔ ((start ≡ true) ⊎ Contains (edges_until (i + 1 - 1) points) e)
chain_step points i d low h e start old new before added =
    let at : i - 1 + 1 ≡ i = omega (arith, low) in
    let end : i - 1 + 1 ≡ i + 1 - 1 = omega (arith, low) in
    subst (λ n. (new ≡ true) ↔ ((start ≡ true) ⊎ Contains (edges_until n points) e)) end
    (chain_more points (i - 1) d (omega (arith, low, h)) e start old new before
    (subst (λ n. (new ≡ true) ↔ ((old ≡ true) ⊎ IsSegBetween (get_or points (i - 1) d) (get_or points n d) e)) (sym at) added))

pub none_until : (points : List Coord) (e : Seg) (start : Bool) → (start ≡ true) ↔ ((start ≡ true) ⊎ Contains (edges_until 0 points) e)
none_until points e start = (λ h. inl h, back)
  where
    back : (start ≡ true) ⊎ Contains (edges_until 0 points) e → start ≡ true
    back (inl h) = h
    back (inr has) = absurd (omega (arith, has.1))

pub until_all : (points : List Coord) (i : ℕ) (e : Seg) (start now : Bool) → length points ≤ i → (now ≡ true) ↔ ((start ≡ true) ⊎ Contains (edges_until (i - 1) points) e)
    → (now ≡ true) ↔ ((start ≡ true) ⊎ Contains (chain_edges points) e)
until_all points i e start now past h =
    subst (λ pairs. (now ≡ true) ↔ ((start ≡ true) ⊎ Contains (flat_map (λ (pair : Coord × Coord). option_to_list (seg_between pair.0 pair.1)) pairs) e))
    (take_all (i - 1) (zip points (drop 1 points)) (omega (arith, past, length-drop 1 points, length-zip points (drop 1 points)))) h

-- ---- elements of pieces

-- one piece more
pub pieces_more : {X Y : Type 0} (f : X → List Y) (xs : List X) (i : ℕ) (x : X) → i < length xs → get_or xs i x ≡ x → (y : Y) (old new : Bool) → (old ≡ true) ↔ Contains (flat_map f (take i xs)) y
    → (new ≡ true) ↔ ((old ≡ true) ⊎ Contains (f x) y) → (new ≡ true) ↔ Contains (flat_map f (take (i + 1) xs)) y
pieces_more f xs i x h at y old new before added = (there, back)
  where
    more : flat_map f (take i xs) ++ f x ≡ flat_map f (take (i + 1) xs)
    more = flat_map-take_more f xs i x [] (flat_map f (take i xs)) (flat_map f (take i xs) ++ f x) h at refl refl

    there : new ≡ true → Contains (flat_map f (take (i + 1) xs)) y
    there k = subst (λ ys. Contains ys y) more (elim (added.0 k) [
      | inl was ↦ Contains-append_left (flat_map f (take i xs)) (f x) y (before.0 was)
      | inr last ↦ Contains-append_right (flat_map f (take i xs)) (f x) y last
    ])

    back : Contains (flat_map f (take (i + 1) xs)) y → new ≡ true
    back has = elim (Contains-append_cases (flat_map f (take i xs)) (f x) y (subst (λ ys. Contains ys y) (sym more) has)) [
      | inl was ↦ added.1 (inl (before.1 was))
      | inr last ↦ added.1 (inr last)
    ]

-- ---- links

-- the links of one line more
pub line_linked : (lines : List (Vec Coord Global)) (links more : List (Vec (Option Links) Global)) (own : Vec (Option Links) Global) (n : ℕ) (line : Vec Coord Global) → line ≡ get_or lines n line → length links ≡ n
    → more ≡ links ++ own ∷ [] → ((points : List Coord) → length points ≡ length line.items → AreLinked [] points own.items)
    → ((i : ℕ) (points : Vec Coord Global) (o : Vec (Option Links) Global) → slice_get lines i ≡ Some points → slice_get links i ≡ Some o → AreLinked [] points.items o.items)
    → (i : ℕ) (points : Vec Coord Global) (o : Vec (Option Links) Global) → slice_get lines i ≡ Some points → slice_get more i ≡ Some o → AreLinked [] points.items o.items
line_linked lines links more own n line read long is first each i points o at at_o =
    elim (last_or_before links own i o (subst (λ (ls : List (Vec (Option Links) Global)). slice_get ls i ≡ Some o) is at_o)) [
      | inl before ↦ each i points o at before
      | inr last ↦ (
          let at_n = subst (λ k. slice_get lines k ≡ Some points) (last.0 ∙ long) at in
          let same : line ≡ points = read ∙ get_or_from_slice_get lines n points line at_n in
          subst (λ (v : Vec (Option Links) Global). AreLinked [] points.items v.items) last.1 (first points.items (ap (λ (v : Vec Coord Global). length v.items) (sym same))))
    ]

-- ---- the state

pub begins : (s : Simplification) (task : Task) → IsTaskOf s task → (state : State) (points : List Coord) → state.removed.items ≡ [] → AreAllLinked [] task.lines.now state.links.items → points ≡ current_points (lists_of task.lines.now) []
    → IsPermutation points state.cells → ((e : Seg) → (is_among state.segments.ends e ≡ true) ↔ Contains (current_edges (lists_of task.lines.now) []) e) → ((q : QueuedSpot) → IsOpen s [] (at_spot q) → Contains state.queue q)
    → IsStateOf s task state state.queue
begins s task asked state points none linked all moved edges queued = record {
  tables = record {
    linked = subst (λ (r : List Coord). AreAllLinked r task.lines.now state.links.items) (sym gone_is) linked;
    points = λ p. subst (λ (r : List Coord). Contains state.cells p ↔ Contains (current_points s.lines r) p) (sym gone_is)
        (subst (λ (ls : List (List Coord)). Contains state.cells p ↔ Contains (current_points ls []) p) (sym asked.lines_are)
        (subst (λ (ps : List Coord). Contains state.cells p ↔ Contains ps p) all
        (Contains-permutation state.cells points p (IsPermutation-sym points state.cells moved), Contains-permutation points state.cells p moved)));
    edges = λ e. subst (λ (r : List Coord). (is_among state.segments.ends e ≡ true) ↔ Contains (current_edges s.lines r) e) (sym gone_is)
        (subst (λ (ls : List (List Coord)). (is_among state.segments.ends e ≡ true) ↔ Contains (current_edges ls []) e) (sym asked.lines_are) (edges e));
  };
  run = subst (IsRunState s) (sym gone_is) tt;
  ready = subst (λ (r : List Coord). IsReady s r state.queue (waiting_at state.waiting.spots)) (sym gone_is) (λ q h. inl (queued q h));
}
  where
    gone_is : gone state ≡ []
    gone_is = ap (λ (ps : List Coord). reverse ps) none
