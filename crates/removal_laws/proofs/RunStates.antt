-- Each state of the run is valid and in range, and its segments are the current ones.
use mathlib.Core.List.{[], ◌∷◌}
use Rattle.std.proofs.Common.{◌≡◌, ◌≢◌, inl, inr, refl, sym, ◌∙◌, ap, subst, zero, suc, ℕ, ◌<◌, ◌^◌, Bool, true, false, not, cond, List, map, ◌↔◌, arith}
use Rattle.std.specs.Prelude.{Contains, Some}
use Rattle.std.proofs.lemmas.List.{length-map}
use Rattle.std.proofs.lemmas.List.Elements.{All-head, All-tail, All-filter, All-map, All-weaker}
use Rattle.cov_types.specs.declared.coord.Coord.{Coord}
use Rattle.cov_types.specs.declared.edge_use.EdgeUse.{EdgeUse}
use Rattle.cov_types.specs.declared.seg.Seg.{Seg}
use Rattle.cov_types.specs.Coverage.{Members, AllInRange, IsMemberInRange, IsPolyInRange, IsRingInRange}
use Rattle.cov_types.specs.Range.{IsInRange}
use Rattle.cov_types.specs.Seg.{IsSegBetween}
use Rattle.cov_types.specs.Uses.{uses_of}
use Rattle.plane.specs.Snapping.{chain_edges}
use Rattle.plane.specs.Validity.{IsValid}
use Rattle.crossing_laws.proofs.Lists.{contains-map}
use Rattle.arrangement.specs.Noding.{segments}
use Rattle.arrangement.proofs.Labels.{mapped}
use Rattle.greedy_run.specs.Lines.{steps, IsAlongEdge, IsPathAlong, IsLine}
use Rattle.greedy_run.specs.Run.{Simplification, Spot, IsRemovable, is_removed, current, current_edges, IsRunState, is_one_point, ring_without, coverage_without, IsSimplificationOf, IsSimplified}
use Rattle.greedy_run.proofs.OneLine.{chain_first}
use Rattle.greedy_run.proofs.Threads.{one_seg}
use Rattle.greedy_run.proofs.Walks.{edge_line}
use Rattle.removal_laws.specs.Exchange.{IsExchange}
use Rattle.removal_laws.specs.Laws.{IsSoundState, HasEar}
use Rattle.removal_laws.proofs.Bridge.{of_flat_map, to_flat_map}
use Rattle.removal_laws.proofs.Exchange.{kind, seg_is, b_not_free, new_is, has_third, still_used}
use Rattle.removal_laws.proofs.Members.{coverage_exchange}
use Rattle.removal_laws.proofs.Removable.{ear_of, use_of, current_of, next_was, next_ac, next_stays}
use Rattle.removal_laws.proofs.Steps.{coverage_without_more, step}

-- ---- range

ring_range : (removed points : List Coord) → IsRingInRange points → IsRingInRange (ring_without removed points)
ring_range removed points h = by (is_one_point points)
  where
    by : (one : Bool) → IsRingInRange (cond one points (current removed points))
    by true = h
    by false = All-filter (λ p. not (is_removed removed p)) IsInRange points h

poly_range : (removed : List Coord) (poly : List (List Coord)) → IsPolyInRange poly → IsPolyInRange (map (ring_without removed) poly)
poly_range removed poly h =
    All-map IsRingInRange (ring_without removed) poly (All-weaker IsRingInRange (λ points. IsRingInRange (ring_without removed points)) (ring_range removed) poly h)

member_range : (removed : List Coord) (member : List (List (List Coord))) → IsMemberInRange member → IsMemberInRange (map (λ rings. map (ring_without removed) rings) member)
member_range removed member h =
    All-map IsPolyInRange (λ rings. map (ring_without removed) rings) member
    (All-weaker IsPolyInRange (λ poly. IsPolyInRange (map (ring_without removed) poly)) (poly_range removed) member h)

-- without points a coverage stays in range
pub state_range : (members : Members) (removed : List Coord) → AllInRange members → AllInRange (coverage_without removed members)
state_range members removed h =
    let without : List (List (List Coord)) → List (List (List Coord)) = λ polys. map (λ rings. map (ring_without removed) rings) polys in
    record {
      coords = All-map IsMemberInRange without members (All-weaker IsMemberInRange (λ member. IsMemberInRange (without member)) (member_range removed) members h.coords);
      count = subst (λ (n : ℕ). n < 2 ^ 32) (sym (length-map members without)) h.count;
    }

-- ---- the next state

module _ (s : Simplification) (members : Members) (removed : List Coord) (sound : IsSoundState s members removed) (spot : Spot) (h : IsRemovable s removed spot) where
  abbrev ear : HasEar h.t (uses_of (coverage_without removed members))
  ear = ear_of s members removed sound spot h

  abbrev old : List EdgeUse
  old = uses_of (coverage_without removed members)

  abbrev new : List EdgeUse
  new = uses_of (coverage_without (h.t.b ∷ []) (coverage_without removed members))

  exchange : IsExchange ear.ab ear.bc ear.ac old new
  exchange = coverage_exchange h.t ear.ab ear.bc ear.ac (coverage_without removed members) ear.is_ear sound.valid

  same : coverage_without (h.t.b ∷ removed) members ≡ coverage_without (h.t.b ∷ []) (coverage_without removed members)
  same = coverage_without_more h.t.b removed members sound.keeps

  ends_off : (p q : Coord) (e : Seg) → IsSegBetween p q e → e.lo ≢ p → e.hi ≢ p → ⊥
  ends_off p q e (inl is) lo hi = lo is.0
  ends_off p q e (inr is) lo hi = hi is.1

  ends_off_too : (p q : Coord) (e : Seg) → IsSegBetween p q e → e.lo ≢ q → e.hi ≢ q → ⊥
  ends_off_too p q e (inl is) lo hi = hi is.1
  ends_off_too p q e (inr is) lo hi = lo is.0

  -- a use of a segment that does not end at b is still there
  still : (u : EdgeUse) → Contains old u → u.seg.lo ≢ h.t.b → u.seg.hi ≢ h.t.b → Contains new u
  still u has lo hi =
      elim (kind h.t ear.ab ear.bc ear.ac old ear.is_ear sound.valid u has) [
        | inl first ↦ absurd (ends_off_too h.t.a h.t.b u.seg (subst (IsSegBetween h.t.a h.t.b) (seg_is ear.ab u.seg first.is) ear.is_ear.sides.two.first) lo hi)
        | inr more ↦ elim more [
          | inl second ↦ absurd (ends_off h.t.b h.t.c u.seg (subst (IsSegBetween h.t.b h.t.c) (seg_is ear.bc u.seg second.is) ear.is_ear.sides.two.second) lo hi)
          | inr third ↦ still_used h.t ear.ab ear.bc ear.ac old ear.is_ear sound.valid new exchange u has third
        ]
      ]

  next_used : (e : Seg) → Contains (current_edges s.lines (h.t.b ∷ removed)) e → Contains (segments new) e
  next_used e has =
      elim (next_was s removed spot h e has) [
        | inl off ↦ (
            let (m, used) = use_of s members removed sound spot h e off.has in
            contains-map (λ u. u.seg) new (record { member = m; seg = e }) (still (record { member = m; seg = e }) used off.lo off.hi)
            )
        | inr third ↦
            subst (Contains (segments new)) (one_seg h.t.a h.t.c ear.ac e ear.is_ear.sides.third third)
            (contains-map (λ u. u.seg) new (record { member = ear.is_ear.one; seg = ear.ac }) (has_third h.t ear.ab ear.bc ear.ac old ear.is_ear sound.valid new exchange))
      ]

  next_current : (u : EdgeUse) → Contains new u → Contains (current_edges s.lines (h.t.b ∷ removed)) u.seg
  next_current u has =
      elim (new_is h.t ear.ab ear.bc ear.ac old ear.is_ear sound.valid new exchange u has) [
        | inl third ↦ next_ac s removed spot h u.seg (subst (IsSegBetween h.t.a h.t.c) (sym third.is) ear.is_ear.sides.third)
        | inr other ↦ (
            let off = b_not_free h.t ear.ab ear.bc ear.ac old ear.is_ear sound.valid in
            next_stays s removed spot h u.seg (current_of s members removed sound spot h u other.used)
            (λ is. off u.seg.lo other.third.free.free.lo (sym is)) (λ is. off u.seg.hi other.third.free.free.hi (sym is))
            )
      ]

  -- the state after a removable point is sound
  pub next_sound : IsSoundState s members (h.t.b ∷ removed)
  next_sound =
      let after = step h.t ear.ab ear.bc ear.ac members removed sound.keeps sound.in_range ear.is_ear sound.valid in
      record {
        valid = after.0;
        in_range = subst AllInRange (sym same) (state_range (coverage_without removed members) (h.t.b ∷ []) sound.in_range);
        edges = subst (λ (c : Members). (e : Seg) → Contains (current_edges s.lines (h.t.b ∷ removed)) e ↔ Contains (segments (uses_of c)) e) (sym same)
            (λ e. (next_used e, mapped (λ u. u.seg) (Contains (current_edges s.lines (h.t.b ∷ removed))) new next_current e));
        keeps = after.1;
      }

-- ---- the first state

all_kept : (points : List Coord) → current [] points ≡ points
all_kept [] = refl
all_kept (p ∷ points) = ap (λ ps. p ∷ ps) (all_kept points)

ring_kept : (points : List Coord) → ring_without [] points ≡ points
ring_kept points = by (is_one_point points)
  where
    by : (b : Bool) → cond b points (current [] points) ≡ points
    by true = refl
    by false = all_kept points

map_kept : {X : Type 0} (f : X → X) → ((x : X) → f x ≡ x) → (xs : List X) → map f xs ≡ xs
map_kept f h [] = refl
map_kept f h (x ∷ xs) = λ i. h x i ∷ map_kept f h xs i

none_removed : (members : Members) → coverage_without [] members ≡ members
none_removed members = map_kept (λ polys. map (λ rings. map (ring_without []) rings) polys) (map_kept (λ rings. map (ring_without []) rings) (map_kept (ring_without []) ring_kept)) members

-- the edges of a path are among those along which it leads
chain_among : (edges : List Seg) (points : List Coord) → IsPathAlong edges points → (e : Seg) → Contains (chain_edges points) e → Contains edges e
chain_among edges [] walk e has = absurd (let within = has.1 in omega arith)
chain_among edges (x ∷ []) walk e has = absurd (let within = has.1 in omega arith)
chain_among edges (x ∷ y ∷ rest) walk e has =
    let first = All-head (IsAlongEdge edges) (x, y) (steps (y ∷ rest)) walk in
    let later = All-tail (IsAlongEdge edges) (x, y) (steps (y ∷ rest)) walk in
    by first.0 first.1.0 (chain_among edges (y ∷ rest) later e) (subst (λ l. Contains l e) (chain_first x y rest first.0 first.1.1) has)
  where
    by : (f : Seg) → Contains edges f → (Contains (chain_edges (y ∷ rest)) e → Contains edges e) → Contains (f ∷ chain_edges (y ∷ rest)) e → Contains edges e
    by f in_edges later (zero, inside, is) = subst (Contains edges) is in_edges
    by f in_edges later (suc k, inside, is) = later (k, omega arith, is)

module _ (members : Members) (tolerance : ℕ) (inner_only : Bool) (s : Simplification) (of : IsSimplificationOf members tolerance inner_only s) where
  first_current : (e : Seg) → Contains (current_edges s.lines []) e ↔ Contains (segments (uses_of members)) e
  first_current e = (there, back)
    where
      there : Contains (current_edges s.lines []) e → Contains (segments (uses_of members)) e
      there has =
          let (l, found) = of_flat_map (λ l. chain_edges (current [] l)) s.lines e has in
          let line : IsLine s.edges l = (s.are_lines.exact l).0 found.0 in
          (of.are_edges.exact e).0 (chain_among s.edges l line.walk e (subst (λ ps. Contains (chain_edges ps) e) (all_kept l) found.1))

      back : Contains (segments (uses_of members)) e → Contains (current_edges s.lines []) e
      back has =
          let (l, it) = edge_line s.edges of.are_edges.ascending e ((of.are_edges.exact e).1 has) in
          to_flat_map (λ l. chain_edges (current [] l)) s.lines l e ((s.are_lines.exact l).1 it.line) (subst (λ ps. Contains (chain_edges ps) e) (sym (all_kept l)) it.among)

  first_sound : AllInRange members → IsValid (uses_of members) → IsSoundState s members []
  first_sound range valid = record {
    valid = subst (λ (c : Members). IsValid (uses_of c)) (sym (none_removed members)) valid;
    in_range = state_range members [] range;
    edges = subst (λ (c : Members). (e : Seg) → Contains (current_edges s.lines []) e ↔ Contains (segments (uses_of c)) e) (sym (none_removed members)) first_current;
    keeps = λ points ring one. sym (ap is_one_point (ring_kept points)) ∙ one;
  }

-- ---- the run

some_is : (p q : Coord) → Some p ≡ Some q → p ≡ q
some_is p q h = cc

-- each state to which the run comes is sound
pub run_sound : (members : Members) (tolerance : ℕ) (inner_only : Bool) (s : Simplification) → IsSimplificationOf members tolerance inner_only s
    → AllInRange members → IsValid (uses_of members) → (removed : List Coord) → IsRunState s removed → IsSoundState s members removed
run_sound members tolerance inner_only s of range valid [] run = first_sound members tolerance inner_only s of range valid
run_sound members tolerance inner_only s of range valid (b ∷ removed) run =
    let sound = run_sound members tolerance inner_only s of range valid removed run.0 in
    let it = run.1 in
    let same = some_is it.removable.t.b b (sym it.removable.triangle.here ∙ it.is) in
    subst (λ (p : Coord). IsSoundState s members (p ∷ removed)) same (next_sound s members removed sound it.spot it.removable)

-- so the simplified coverage is valid
pub simplified_valid : (members : Members) (tolerance : ℕ) (inner_only : Bool) (out : Members) → AllInRange members → IsValid (uses_of members)
    → IsSimplified members tolerance inner_only out → IsValid (uses_of out) × AllInRange out
simplified_valid members tolerance inner_only out range valid h =
    let sound = run_sound members tolerance inner_only h.s h.of range valid h.removed h.final.run in
    (subst (λ (c : Members). IsValid (uses_of c)) (sym h.without) sound.valid, subst AllInRange (sym h.without) sound.in_range)
