-- A walk that goes on: its points and places so far, and where it ends.
use mathlib.Core.List.{[], ◌∷◌, ◌++◌}
use Rattle.std.proofs.Common.{◌≡◌, ◌≢◌, ◌⊎◌, refl, sym, ◌∙◌, ap, subst, ℕ, zero, suc, ◌+◌, ◌-◌, ◌<◌, ◌≤◌, List, length, get_or, Some, inl, inr, arith}
use Rattle.std.specs.Prelude.{AllPairs, Contains, slice_get}
use Rattle.std.proofs.lemmas.Bool.{cases_order, true≢false}
use Rattle.std.proofs.lemmas.List.{length-append}
use Rattle.std.proofs.lemmas.Option.{slice_get_within, slice_get-get_or, get_or_from_slice_get, same_Some}
use Rattle.cov_types.specs.declared.coord.Coord.{Coord}
use Rattle.cov_types.specs.declared.seg.Seg.{Seg}
use Rattle.cov_types.specs.Seg.{IsSegBetween, is_seg_before}
use Rattle.cov_types.proofs.SegOrder.{is_seg_before-irrefl}
use Rattle.plane.specs.Snapping.{chain_edges}
use Rattle.arrangement.specs.Noding.{IsAscending}
use Rattle.greedy_run.specs.Lines.{degree, IsTrail, EndsAt}
use Rattle.greedy_run.proofs.Ended.{one_way_on}
use Rattle.greedy_run.proofs.Listed.{from_place, length-from_place, at_whole, walk, point_is, edge_there, has_edge}
use Rattle.greedy_run.proofs.OneLine.{IsStepOf, step_of}
use Rattle.greedy_run.proofs.Threads.{seg_turned, other_end, one_seg}
use Rattle.greedy_run.proofs.Trails.{IsTrailBy, IsOnward, goes_on, longer, trail_bound, walk_at}
use Rattle.greedy_run.proofs.Walks.{trail_in}
use Rattle.line_walk.specs.declared.walk.Walk.{Walk}
use Rattle.line_walk.specs.Partners.{IsAtVertex, HasEndAt, IsPartner}
use Rattle.line_walk.specs.Walk.{IsEdgeWalk, IsAtPlaces}
use Rattle.line_walk.proofs.Pushed.{push_before, push_last, slice_get_among}

-- the edge at the place leads from one point to the other
abbrev pub LeadsAt : List Seg → List ℕ → ℕ → Coord → Coord → Type 0
LeadsAt edges places j p q = (k : ℕ) × ((slice_get places j ≡ Some k) × ((e : Seg) × ((slice_get edges k ≡ Some e) × IsSegBetween p q e)))

-- so far the walk has these points and places
pub record IsWalking (edges : List Seg) (from : Coord) (first : ℕ) (points : List Coord) (places : List ℕ) (to : Coord) (last : ℕ) : Type 0 where
  pub second : Coord
  pub edge : Seg
  pub at_first : slice_get edges first ≡ Some edge
  pub leads : IsSegBetween from second edge
  pub trail : IsTrailBy edges (length places) (walk_at edges from second)
  pub points_are : points ≡ from_place (walk_at edges from second) 0 (length places)
  pub passed : (j : ℕ) → j < length places → LeadsAt edges places j (walk_at edges from second j) (walk_at edges from second (suc j))
  pub begins : slice_get places 0 ≡ Some first
  pub ends : slice_get places (length places - 1) ≡ Some last
  pub to_is : walk_at edges from second (length places) ≡ to

-- ---- lists of points by places, one longer

pub from_more : (f : ℕ → Coord) (k i : ℕ) → from_place f k (suc i) ≡ from_place f k i ++ f (k + suc i) ∷ []
from_more f k zero = (let z : suc k ≡ k + 1 = omega arith in ap (λ n. f k ∷ f n ∷ []) z)
from_more f k (suc i) = (let z : suc k + suc i ≡ k + suc (suc i) = omega arith in ap (λ ps. f k ∷ ps) (from_more f (suc k) i ∙ ap (λ n. from_place f (suc k) i ++ f n ∷ []) z))

-- ---- distinct edges

pub edges_apart : (edges : List Seg) → IsAscending edges → AllPairs (λ e f. ¬ (e ≡ f)) edges
edges_apart edges up i j d before within same =
    true≢false (sym (up i j d before within) ∙ ap (λ (s : Seg). is_seg_before s (get_or edges j d)) same ∙ is_seg_before-irrefl (get_or edges j d))

pub places_apart : (edges : List Seg) → IsAscending edges → (i j : ℕ) (e f : Seg) → slice_get edges i ≡ Some e → slice_get edges j ≡ Some f → i ≢ j → e ≢ f
places_apart edges up i j e f at_e at_f differs same =
    let in_e = slice_get_within edges i e at_e in
    let in_f = slice_get_within edges j f at_f in
    let is_e = get_or_from_slice_get edges i e e at_e in
    let is_f = get_or_from_slice_get edges j f e at_f in
    elim (cases_order i j) [
      | inl one ↦ differs one
      | inr apart ↦ elim apart [
        | inl less ↦ edges_apart edges up i j e less in_f (is_e ∙ same ∙ sym is_f)
        | inr more ↦ edges_apart edges up j i e more in_e (is_f ∙ sym same ∙ sym is_e)
      ]
    ]

-- ---- the first step, and one more

module _ (edges : List Seg) (ascending : IsAscending edges) (from : Coord) (first : ℕ) where
  pub walk_one : (e : Seg) (second : Coord) → slice_get edges first ≡ Some e → IsSegBetween from second e → IsWalking edges from first (from ∷ second ∷ []) (first ∷ []) second first
  walk_one e second at s = record {
    second = second;
    edge = e;
    at_first = at;
    leads = s;
    trail = record {
      some = omega arith;
      step = λ k less. (e, (slice_get_among edges first e at, (let z : 0 ≡ k = omega arith in subst (λ i. IsSegBetween (f i) (f (suc i)) e) z s)));
      distinct = λ j k g less within. absurd (omega arith);
      between = λ k some less. absurd (omega arith);
    };
    points_are = refl;
    passed = λ j less. (let z : 0 ≡ j = omega arith in subst (λ i. LeadsAt edges (first ∷ []) i (f i) (f (suc i))) z (first, (refl, (e, (at, s)))));
    begins = refl;
    ends = refl;
    to_is = refl;
  }
    where
      f : ℕ → Coord
      f k = walk_at edges from second k

  module _ (points : List Coord) (places : List ℕ) (to : Coord) (last : ℕ) (h : IsWalking edges from first points places to last) where
    abbrev f : ℕ → Coord
    f k = walk_at edges from h.second k

    abbrev n : ℕ
    n = length places

    some_step : 1 ≤ n
    some_step = h.trail.some

    -- the last edge
    last_edge : (e : Seg) × ((slice_get edges last ≡ Some e) × IsSegBetween (f (n - 1)) (f n) e)
    last_edge =
        let some = some_step in
        let (k, leads) = h.passed (n - 1) (omega arith) in
        let z : suc (n - 1) ≡ n = omega arith in
        let is : k ≡ last = same_Some k last (sym leads.0 ∙ h.ends) in
        (leads.1.0, (subst (λ i. slice_get edges i ≡ Some leads.1.0) is leads.1.1.0, subst (λ i. IsSegBetween (f (n - 1)) (f i) leads.1.0) z leads.1.1.1))

    pub ends_at_to : HasEndAt edges last to
    ends_at_to = by last_edge
      where
        side : (e : Seg) → IsSegBetween (f (n - 1)) (f n) e → IsAtVertex e to
        side e (inl s) = inr (s.1 ∙ h.to_is)
        side e (inr s) = inl (s.0 ∙ h.to_is)

        by : (e : Seg) × ((slice_get edges last ≡ Some e) × IsSegBetween (f (n - 1)) (f n) e) → HasEndAt edges last to
        by (e, it) = (e, (it.0, side e it.1))

    module _ (next : ℕ) (partner : IsPartner edges to last next) (apart : to ≢ from) (g : Seg) (at_g : slice_get edges next ≡ Some g) (c : Coord) (s : IsSegBetween to c g) where
      abbrev m : ℕ
      m = n - 1

      grown : suc m ≡ n
      grown = (let some = some_step in omega arith)

      trail_here : IsTrailBy edges (suc m) f
      trail_here = subst (λ i. IsTrailBy edges i f) (sym grown) h.trail

      to_there : f (suc m) ≡ to
      to_there = ap f grown ∙ h.to_is

      two : degree edges (f (suc m)) ≡ 2
      two = subst (λ q. degree edges q ≡ 2) (sym to_there) partner.two

      on : IsOnward edges (f m) (f (suc m)) (f (suc (suc m)))
      on = by last_edge
        where
          by : (e : Seg) × ((slice_get edges last ≡ Some e) × IsSegBetween (f (n - 1)) (f n) e) → IsOnward edges (f m) (f (suc m)) (f (suc (suc m)))
          by (e, it) = goes_on edges (edges_apart edges ascending) (f m) (f (suc m)) e (subst (λ i. IsSegBetween (f m) (f i) e) (sym grown) it.1) two

      trail_next : IsTrailBy edges (suc (suc m)) f
      trail_next = longer edges m f trail_here two (λ back. apart (sym to_there ∙ back)) on

      next_is : f (suc (suc m)) ≡ c
      next_is = by last_edge
        where
          by : (e : Seg) × ((slice_get edges last ≡ Some e) × IsSegBetween (f (n - 1)) (f n) e) → f (suc (suc m)) ≡ c
          by (e, it) =
              let here : IsSegBetween (f m) (f (suc m)) e = subst (λ i. IsSegBetween (f m) (f i) e) (sym grown) it.1 in
              one_way_on edges (f m) (f (suc m)) (f (suc (suc m))) c e on.edge g two (slice_get_among edges last e it.0) on.among (slice_get_among edges next g at_g) here on.between
              (subst (λ q. IsSegBetween q c g) (sym to_there) s)
              (λ same. on.differs (other_end (f (suc m)) (f (suc (suc m))) (f m) on.edge on.between (subst (IsSegBetween (f (suc m)) (f m)) same (seg_turned (f m) (f (suc m)) e here))))
              (places_apart edges ascending last next e g it.0 at_g (λ same. partner.differs (sym same)))

      size : length (places ++ next ∷ []) ≡ suc (suc m)
      size = (let more = length-append places (next ∷ []) in let grow = grown in omega (arith, more, grow))

      leads_there : (j : ℕ) → j < suc (suc m) → LeadsAt edges (places ++ next ∷ []) j (f j) (f (suc j))
      leads_there j less = elim (cases_order j (suc m)) [
        | inl same ↦ (
            let is : IsSegBetween (f (suc m)) (f (suc (suc m))) g = subst (λ q. IsSegBetween (f (suc m)) q g) (sym next_is) (subst (λ q. IsSegBetween q c g) (sym to_there) s) in
            subst (λ i. LeadsAt edges (places ++ next ∷ []) i (f i) (f (suc i))) (sym same)
            (next, (ap (slice_get (places ++ next ∷ [])) grown ∙ push_last places next, (g, (at_g, is)))))
        | inr rest ↦ elim rest [
          | inl earlier ↦ (let grow = grown in let (k, leads) = h.passed j (omega arith) in (k, (push_before places next j k leads.0, leads.1)))
          | inr later ↦ absurd (omega arith)
        ]
      ]

      pub walk_more : IsWalking edges from first (points ++ c ∷ []) (places ++ next ∷ []) c next
      walk_more = record {
        second = h.second;
        edge = h.edge;
        at_first = h.at_first;
        leads = h.leads;
        trail = subst (λ i. IsTrailBy edges i f) (sym size) trail_next;
        points_are = ap (λ ps. ps ++ c ∷ []) (h.points_are ∙ ap (from_place f 0) (sym grown))
            ∙ ap (λ q. from_place f 0 (suc m) ++ q ∷ []) (sym next_is ∙ (let z : suc (suc m) ≡ 0 + suc (suc m) = omega arith in ap f z))
            ∙ sym (from_more f 0 (suc m)) ∙ ap (from_place f 0) (sym size);
        passed = λ j less. (let count = size in leads_there j (omega (arith, count, less)));
        begins = push_before places next 0 first h.begins;
        ends = (let count = size in let grow = grown in let z : length (places ++ next ∷ []) - 1 ≡ length places = omega (arith, count, grow) in ap (slice_get (places ++ next ∷ [])) z ∙ push_last places next);
        to_is = ap f size ∙ next_is;
      }

    -- it has at most as many edges as there are
    pub walk_bound : length places ≤ length edges
    walk_bound = trail_bound edges n f h.trail

-- ---- where it ends

module _ (edges : List Seg) (ascending : IsAscending edges) (from : Coord) (first : ℕ) (w : Walk) (h : IsWalking edges from first w.points.items w.edges.items w.to w.last) where
  abbrev p : ℕ → Coord
  p k = walk_at edges from h.second k

  abbrev count : ℕ
  count = length w.edges.items

  to_place : (e : Seg) → Contains (chain_edges (from_place p 0 count)) e → IsAtPlaces edges w.edges.items e
  to_place e has = by (step_of edges (from_place p 0 count) (walk edges count p h.trail.step h.trail.distinct) e has)
    where
      by : IsStepOf edges (from_place p 0 count) e → IsAtPlaces edges w.edges.items e
      by s =
          let here = point_is edges count p h.trail.step h.trail.distinct s.k s.p s.at_p in
          let next = point_is edges count p h.trail.step h.trail.distinct (suc s.k) s.q s.at_q in
          let less : s.k < count = (let z = next.0 in omega arith) in
          let (k, leads) = h.passed s.k less in
          let between : IsSegBetween (p s.k) (p (suc s.k)) e = subst (λ a. IsSegBetween a (p (suc s.k)) e) (sym here.1) (subst (λ b. IsSegBetween s.p b e) (sym next.1) s.between) in
          let is = one_seg (p s.k) (p (suc s.k)) leads.1.0 e leads.1.1.1 between in
          (k, (slice_get_among w.edges.items s.k k leads.0, leads.1.1.0 ∙ ap Some is))

  from_its_place : (e : Seg) → IsAtPlaces edges w.edges.items e → Contains (chain_edges (from_place p 0 count)) e
  from_its_place e (k, has) =
      let (j, inside, is) = has.0 in
      let (i, leads) = h.passed j inside in
      let at : slice_get w.edges.items j ≡ Some k = slice_get-get_or w.edges.items j k inside ∙ ap Some is in
      let one : i ≡ k = same_Some i k (sym leads.0 ∙ at) in
      let same : leads.1.0 ≡ e = same_Some leads.1.0 e (sym leads.1.1.0 ∙ ap (slice_get edges) one ∙ has.1) in
      has_edge edges count p h.trail.step h.trail.distinct j e inside (subst (IsSegBetween (p j) (p (suc j))) same leads.1.1.1)

  all_within : (j d : ℕ) → j < count → get_or w.edges.items j d < length edges
  all_within j d less =
      let (k, leads) = h.passed j less in
      subst (λ i. i < length edges) (sym (get_or_from_slice_get w.edges.items j k d leads.0)) (slice_get_within edges k leads.1.0 leads.1.1.0)

  pub walk_ended : (w.to ≡ from) ⊎ (degree edges w.to ≢ 2) → IsEdgeWalk edges from first w
  walk_ended done = record {
    trail = subst (IsTrail edges) (sym h.points_are) (trail_in edges ascending count p h.trail);
    begins = ap (λ ps. slice_get ps 0) h.points_are;
    ends = subst (λ ps. EndsAt ps w.to) (sym h.points_are) ((let size = length-from_place p 0 count in let z : length (from_place p 0 count) - 1 ≡ count = omega (arith, size) in ap (slice_get (from_place p 0 count)) z) ∙ at_whole p count count (omega arith) ∙ ap Some h.to_is);
    done = done;
    passed = λ e. (λ has. to_place e (subst (λ ps. Contains (chain_edges ps) e) h.points_are has), λ placed. subst (λ ps. Contains (chain_edges ps) e) (sym h.points_are) (from_its_place e placed));
    within = λ j d less. all_within j d less;
    along_first = λ e at. subst (λ ps. slice_get (chain_edges ps) 0 ≡ Some e) (sym h.points_are)
        (edge_there edges count p h.trail.step h.trail.distinct 0 e h.trail.some (subst (IsSegBetween from h.second) (same_Some h.edge e (sym h.at_first ∙ at)) h.leads));
    along_last = λ e at. subst (λ ps. slice_get (chain_edges ps) (length ps - 2) ≡ Some e) (sym h.points_are) (
        let size = length-from_place p 0 count in
        let some = h.trail.some in
        let it = last_edge edges ascending from first w.points.items w.edges.items w.to w.last h in
        let z : count - 1 ≡ length (from_place p 0 count) - 2 = omega (arith, size) in
        let next : count ≡ suc (count - 1) = omega arith in
        subst (λ i. slice_get (chain_edges (from_place p 0 count)) i ≡ Some e) z
        (edge_there edges count p h.trail.step h.trail.distinct (count - 1) e (omega arith)
        (subst (λ i. IsSegBetween (p (count - 1)) (p i) e) next (subst (IsSegBetween (p (count - 1)) (p count)) (same_Some it.0 e (sym it.1.0 ∙ at)) it.1.1))));
    last = ends_at_to edges ascending from first w.points.items w.edges.items w.to w.last h;
  }
