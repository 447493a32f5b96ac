-- What each state of the run keeps: neighbours in a line differ, no current segment stands twice, and at each point that is left as many meet as before.
use mathlib.Core.List.{[], ◌∷◌}
use Rattle.std.proofs.Common.{◌≡◌, ◌≢◌, ◌⊎◌, inl, inr, refl, sym, ◌∙◌, ap, subst, zero, suc, ℕ, ◌+◌, ◌<◌, ◌≤◌, Bool, true, false, ◌||◌, cond, List, ◌++◌, length, get_or, arith}
use Rattle.std.specs.Prelude.{Contains, sum_by, AllPairs, Some, ⊤}
use Rattle.std.proofs.lemmas.Bool.{false≢true, cases_lt}
use Rattle.std.proofs.lemmas.List.Elements.{All-head, All-tail, All-cons, All-nil}
use Rattle.std.proofs.lemmas.List.Sums.{sum_by-cons}
use Rattle.std.proofs.lemmas.Option.{slice_get-get_or, get_or_from_slice_get}
use Rattle.cov_types.specs.declared.coord.Coord.{Coord}
use Rattle.cov_types.specs.declared.seg.Seg.{Seg}
use Rattle.cov_types.specs.Coord.{is_same_coord}
use Rattle.cov_types.specs.Coverage.{Members}
use Rattle.cov_types.specs.Seg.{IsSegBetween}
use Rattle.cov_types.specs.Uses.{uses_of}
use Rattle.cov_types.proofs.Equal.{Decides-same_coords, Decides-same_segs}
use Rattle.plane.specs.Snapping.{chain_edges}
use Rattle.crossing_laws.proofs.Lists.{contains_here, contains_there}
use Rattle.crossing_laws.specs.Across.{is_same_seg}
use Rattle.greedy_run.specs.Lines.{steps, IsAlongEdge, IsPathAlong, IsNode, IsLine}
use Rattle.greedy_run.specs.Run.{Simplification, Spot, IsRemovable, is_removed, current, current_edges, coverage_without}
use Rattle.greedy_run.proofs.NoNodes.{no_node}
use Rattle.greedy_run.proofs.OneLine.{chain_first, common_edge}
use Rattle.greedy_run.proofs.Threads.{no_loop, seg_turned}
use Rattle.removal_laws.specs.Laws.{IsSoundState, HasEar}
use Rattle.removal_laws.proofs.Chains.{has_or}
use Rattle.removal_laws.proofs.Exchange.{coord_cases, ends_differ}
use Rattle.removal_laws.proofs.Removable.{ear_of, now_ab, now_bc, next_was}
use Rattle.removal_laws.proofs.Rings.{side_cases}
use Rattle.kept_lines_laws.proofs.Exchanged.{list_place, points, line_stays, line_goes, one_line, once, exchanged}
use Rattle.kept_lines_laws.proofs.Sums.{sum_flat, one_at_most}

-- ---- neighbours differ

abbrev pub AreApart : List Coord → Type 0
AreApart [] = ⊤
AreApart (x ∷ []) = ⊤
AreApart (x ∷ y ∷ rest) = (x ≢ y) × AreApart (y ∷ rest)

apart_without : (xs : List Coord) (a b c : Coord) (ys : List Coord) → a ≢ c → AreApart ((xs ++ a ∷ []) ++ b ∷ c ∷ ys) → AreApart ((xs ++ a ∷ []) ++ c ∷ ys)
apart_without [] a b c ys differ h = (differ, h.1.1)
apart_without (x ∷ []) a b c ys differ h = (h.0, apart_without [] a b c ys differ h.1)
apart_without (x ∷ y ∷ zs) a b c ys differ h = (h.0, apart_without (y ∷ zs) a b c ys differ h.1)

-- so a list whose chain is among the edges is a path along them
pub path_of_apart : (edges : List Seg) (l : List Coord) → AreApart l → ((e : Seg) → Contains (chain_edges l) e → Contains edges e) → IsPathAlong edges l
path_of_apart edges [] h among = All-nil (IsAlongEdge edges)
path_of_apart edges (x ∷ []) h among = All-nil (IsAlongEdge edges)
path_of_apart edges (x ∷ y ∷ rest) h among =
    elim (side_cases x y) [
      | inl none ↦ absurd (h.0 none.1)
      | inr some ↦ (
          let first = chain_first x y rest some.0 some.1.1 in
          All-cons (IsAlongEdge edges) (x, y) (steps (y ∷ rest))
          (some.0, (among some.0 (subst (λ es. Contains es some.0) (sym first) (contains_here some.0 (chain_edges (y ∷ rest)))), some.1.1))
          (path_of_apart edges (y ∷ rest) h.1 (λ e has. among e (subst (λ es. Contains es e) (sym first) (contains_there some.0 e (chain_edges (y ∷ rest)) has))))
          )
    ]

apart_of_path : (edges : List Seg) (l : List Coord) → IsPathAlong edges l → AreApart l
apart_of_path edges [] walk = tt
apart_of_path edges (x ∷ []) walk = tt
apart_of_path edges (x ∷ y ∷ rest) walk =
    let (e, along) = All-head (IsAlongEdge edges) (x, y) (steps (y ∷ rest)) walk in
    (ends_differ x y e along.1, apart_of_path edges (y ∷ rest) (All-tail (IsAlongEdge edges) (x, y) (steps (y ∷ rest)) walk))

-- ---- how often a segment stands, and how many end at a point

abbrev pub is_it : Seg → Seg → ℕ
is_it e f = cond {A = ℕ} (is_same_seg e f) 1 0

abbrev pub ends_there : Coord → Seg → ℕ
ends_there p e = cond {A = ℕ} (is_same_coord e.lo p || is_same_coord e.hi p) 1 0

abbrev is_there : Coord → Coord → ℕ
is_there p q = cond {A = ℕ} (is_same_coord q p) 1 0

-- a segment ends at a point where one of its two ends is there
ends_counted : (a b p : Coord) (e : Seg) → IsSegBetween a b e → ends_there p e ≡ is_there p a + is_there p b
ends_counted a b p e is = ordered is (by (is_same_coord e.lo p) (is_same_coord e.hi p) refl refl)
  where
    by : (x y : Bool) → is_same_coord e.lo p ≡ x → is_same_coord e.hi p ≡ y → cond {A = ℕ} (x || y) 1 0 ≡ cond {A = ℕ} x 1 0 + cond {A = ℕ} y 1 0
    by true true at_lo at_hi = absurd (no_loop p e (inl ((Decides-same_coords e.lo p).0 at_lo, (Decides-same_coords e.hi p).0 at_hi)))
    by true false at_lo at_hi = refl
    by false true at_lo at_hi = refl
    by false false at_lo at_hi = refl

    ordered : IsSegBetween a b e → ends_there p e ≡ is_there p e.lo + is_there p e.hi → ends_there p e ≡ is_there p a + is_there p b
    ordered (inl s) h = h ∙ (λ i. is_there p (s.0 i) + is_there p (s.1 i))
    ordered (inr s) h = h ∙ (λ i. is_there p (s.0 i) + is_there p (s.1 i)) ∙ (let turned : is_there p b + is_there p a ≡ is_there p a + is_there p b = omega arith in turned)

not_there : (p q : Coord) → q ≢ p → is_there p q ≡ 0
not_there p q apart = elim (coord_cases q p) [ inl same ↦ absurd (apart ((Decides-same_coords q p).0 same)) | inr other ↦ ap (λ (t : Bool). cond {A = ℕ} t 1 0) other ]

it_is : (e f : Seg) → 1 ≤ is_it e f → e ≡ f
it_is e f h = by (is_same_seg e f) refl h
  where
    by : (t : Bool) → is_same_seg e f ≡ t → 1 ≤ cond {A = ℕ} t 1 0 → e ≡ f
    by true same some = (Decides-same_segs e f).0 same
    by false same some = absurd (omega arith)

it_counts : (e : Seg) → is_it e e ≡ 1
it_counts e = ap (λ (t : Bool). cond {A = ℕ} t 1 0) ((Decides-same_segs e e).1 refl)

it_at_most : (e f : Seg) → is_it e f ≤ 1
it_at_most e f = by (is_same_seg e f)
  where
    by : (t : Bool) → cond {A = ℕ} t 1 0 ≤ 1
    by true = omega arith
    by false = omega arith

it_or : (e f : Seg) → (is_it e f ≡ 0) ⊎ (e ≡ f)
it_or e f = elim (cases_lt (is_it e f) 1) [ inl none ↦ inl (omega arith) | inr some ↦ inr (it_is e f some) ]

-- a segment that is counted is there
counted_there : (e : Seg) (xs : List Seg) → 1 ≤ sum_by (is_it e) xs → Contains xs e
counted_there e [] h = absurd (omega arith)
counted_there e (f ∷ xs) h =
    elim (it_or e f) [
      | inr same ↦ subst (Contains (f ∷ xs)) (sym same) (contains_here f xs)
      | inl none ↦ contains_there f e xs (counted_there e xs (let a = sum_by-cons (is_it e) f xs in omega arith))
    ]

there_counted : (e : Seg) (xs : List Seg) → Contains xs e → 1 ≤ sum_by (is_it e) xs
there_counted e xs has = let one = one_at_most (is_it e) xs e has in let it = it_counts e in omega arith

-- ---- each once

all_zero : {X : Type 0} (f : X → ℕ) (xs : List X) → ((x : X) → Contains xs x → f x ≡ 0) → sum_by f xs ≡ 0
all_zero f [] h = refl
all_zero f (x ∷ xs) h =
    let a = sum_by-cons f x xs in
    let first = h x (contains_here x xs) in
    let rest = all_zero f xs (λ y has. h y (contains_there x y xs has)) in
    omega arith

at_most_one : {X : Type 0} (f : X → ℕ) (xs : List X) → ((x : X) → Contains xs x → f x ≤ 1) → AllPairs (λ x y. 1 ≤ f x → f y ≡ 0) xs → sum_by f xs ≤ 1
at_most_one f [] each pairs = omega arith
at_most_one f (x ∷ xs) each pairs =
    let a = sum_by-cons f x xs in
    elim (cases_lt (f x) 1) [
      | inl none ↦ (
          let rest = at_most_one f xs (λ y has. each y (contains_there x y xs has)) (λ i j d less within. pairs (suc i) (suc j) d (omega arith) (omega arith)) in
          omega arith
          )
      | inr some ↦ (
          let most = each x (contains_here x xs) in
          let rest = all_zero f xs (λ y has. others some y has) in
          omega arith
          )
    ]
  where
    others : 1 ≤ f x → (y : _) → Contains xs y → f y ≡ 0
    others some y (k, inside, is) = ap f (sym is) ∙ pairs 0 (suc k) y (omega arith) (omega arith) some

once_in : (e : Seg) (xs : List Seg) → AllPairs (λ f g. f ≢ g) xs → sum_by (is_it e) xs ≤ 1
once_in e xs distinct =
    at_most_one (is_it e) xs (λ f has. it_at_most e f)
    (λ i j d less within some. by i j d less within (it_is e (get_or xs i d) some))
  where
    by : (i j : ℕ) (d : Seg) → i < j → j < length xs → e ≡ get_or xs i d → is_it e (get_or xs j d) ≡ 0
    by i j d less within same = elim (it_or e (get_or xs j d)) [ inl none ↦ none | inr too ↦ absurd (distinct i j d less within (sym same ∙ too)) ]

-- a list in which none stands twice
pub distinct_of_once : (xs : List Seg) → ((e : Seg) → sum_by (is_it e) xs ≤ 1) → AllPairs (λ f g. f ≢ g) xs
distinct_of_once [] once i j d less within = absurd (omega arith)
distinct_of_once (x ∷ xs) once zero zero d less within = absurd (omega arith)
distinct_of_once (x ∷ xs) once zero (suc j) d less within = λ same. (
    let a = sum_by-cons (is_it x) x xs in
    let it = it_counts x in
    let inside : j < length xs = omega arith in
    let has : Contains xs x = (j, inside, get_or_from_slice_get xs j (get_or xs j d) x (slice_get-get_or xs j d inside) ∙ sym same) in
    let more = there_counted x xs has in
    let most = once x in
    absurd (omega arith))
distinct_of_once (x ∷ xs) once (suc i) zero d less within = absurd (omega arith)
distinct_of_once (x ∷ xs) once (suc i) (suc j) d less within =
    distinct_of_once xs (λ e. (let a = sum_by-cons (is_it e) x xs in let most = once e in omega arith)) i j d (omega arith) (omega arith)

-- ---- walks

-- a walk along the edges from p comes to q
abbrev pub IsWalkTo : List Seg → Coord → Coord → Type 0
IsWalkTo edges p q = (walk : List Coord) × (IsPathAlong edges (p ∷ walk) × Contains (p ∷ walk) q)

-- ---- what a state keeps

pub record IsThinned (s : Simplification) (removed : List Coord) : Type 0 where
  pub apart : (l : List Coord) → Contains s.lines l → AreApart (current removed l)
  pub once : (e : Seg) → sum_by (is_it e) (current_edges s.lines removed) ≤ 1
  pub alike : (p : Coord) → is_removed removed p ≡ false → sum_by (ends_there p) (current_edges s.lines removed) ≡ sum_by (ends_there p) (current_edges s.lines [])
  pub no_nodes : (p : Coord) → is_removed removed p ≡ true → ¬ IsNode s.edges p
  pub walks : (p q : Coord) → IsWalkTo (current_edges s.lines removed) p q → IsWalkTo (current_edges s.lines []) p q

-- ---- the first state

pub all_kept : (l : List Coord) → current [] l ≡ l
all_kept [] = refl
all_kept (p ∷ l) = ap (λ ps. p ∷ ps) (all_kept l)

pub first_thinned : (s : Simplification) → IsThinned s []
first_thinned s = record {
  apart = λ l has. subst AreApart (sym (all_kept l)) (apart_of_path s.edges l ((s.are_lines.exact l).0 has).walk);
  once = λ e. (let flat = sum_flat (is_it e) (λ l. chain_edges (current [] l)) s.lines in let most = of_lines e in omega arith);
  alike = λ p there. refl;
  no_nodes = λ p gone. absurd (false≢true gone);
  walks = λ p q walk. walk;
}
  where
    of_lines : (e : Seg) → sum_by (λ l. sum_by (is_it e) (chain_edges (current [] l))) s.lines ≤ 1
    of_lines e =
        at_most_one (λ l. sum_by (is_it e) (chain_edges (current [] l))) s.lines
        (λ l has. once_in e (chain_edges (current [] l)) (subst (λ m. AllPairs (λ f g. f ≢ g) (chain_edges m)) (sym (all_kept l)) ((s.are_lines.exact l).0 has).distinct))
        (λ i j d less within some. by i j d less within (counted_there e (chain_edges (current [] (get_or s.lines i d))) some))
      where
        refl_at : (k : ℕ) (d : List Coord) → k < length s.lines → get_or s.lines k (get_or s.lines k d) ≡ get_or s.lines k d
        refl_at k d inside = get_or_from_slice_get s.lines k (get_or s.lines k d) (get_or s.lines k d) (slice_get-get_or s.lines k d inside)

        by : (i j : ℕ) (d : List Coord) → i < j → j < length s.lines → Contains (chain_edges (current [] (get_or s.lines i d))) e → sum_by (is_it e) (chain_edges (current [] (get_or s.lines j d))) ≡ 0
        by i j d less within has =
            elim (cases_lt (sum_by (is_it e) (chain_edges (current [] (get_or s.lines j d)))) 1) [
              | inl none ↦ omega arith
              | inr some ↦ (
                  let l = get_or s.lines i d in
                  let m = get_or s.lines j d in
                  let has_too = counted_there e (chain_edges (current [] m)) some in
                  let at_l = slice_get-get_or s.lines i d (omega arith) in
                  let at_m = slice_get-get_or s.lines j d within in
                  let line_l : IsLine s.edges l = (s.are_lines.exact l).0 (i, omega arith, refl_at i d (omega arith)) in
                  let line_m : IsLine s.edges m = (s.are_lines.exact m).0 (j, within, refl_at j d within) in
                  let same = common_edge s.edges l m line_l line_m e (subst (λ ps. Contains (chain_edges ps) e) (all_kept l) has) (subst (λ ps. Contains (chain_edges ps) e) (all_kept m) has_too) in
                  let place = list_place s.lines s.are_lines.ascending m i j (at_l ∙ ap Some same) at_m in
                  absurd (omega arith)
                  )
            ]

-- ---- the next state

module _ (s : Simplification) (members : Members) (removed : List Coord) (sound : IsSoundState s members removed) (spot : Spot) (h : IsRemovable s removed spot) (thin : IsThinned s removed) where
  abbrev ear : HasEar h.t (uses_of (coverage_without removed members))
  ear = ear_of s members removed sound spot h

  abbrev now : List Seg
  now = current_edges s.lines removed

  abbrev next : List Seg
  next = current_edges s.lines (h.t.b ∷ removed)

  is_ab : IsSegBetween h.t.a h.t.b ear.ab
  is_ab = ear.is_ear.sides.two.first

  is_bc : IsSegBetween h.t.b h.t.c ear.bc
  is_bc = ear.is_ear.sides.two.second

  is_ac : IsSegBetween h.t.a h.t.c ear.ac
  is_ac = ear.is_ear.sides.third

  next_apart : (l : List Coord) → Contains s.lines l → AreApart (current (h.t.b ∷ removed) l)
  next_apart l has =
      elim (has_or h.t.b (current removed l)) [
        | inl there ↦ subst (λ m. AreApart (current (h.t.b ∷ removed) m)) (sym (one_line s removed spot h l has there)) (goes (subst (λ m. AreApart (current removed m)) (one_line s removed spot h l has there) (thin.apart l has)))
        | inr none ↦ subst AreApart (sym (line_stays s removed spot h l none)) (thin.apart l has)
      ]
    where
      goes : AreApart (current removed (points s removed spot h)) → AreApart (current (h.t.b ∷ removed) (points s removed spot h))
      goes before =
          let it = once s removed spot h in
          subst AreApart (sym (line_goes s removed spot h)) (apart_without it.xs h.t.a h.t.b h.t.c it.ys (ends_differ h.t.a h.t.c ear.ac is_ac) (subst AreApart it.is before))

  next_once : (e : Seg) → sum_by (is_it e) next ≤ 1
  next_once e =
      let change = exchanged s removed spot h (is_it e) ear.ab ear.bc ear.ac is_ab is_bc is_ac in
      let most = thin.once e in
      elim (it_or e ear.ac) [
        | inl none ↦ omega arith
        | inr same ↦ (
            let one = it_at_most e ear.ac in
            elim (cases_lt (sum_by (is_it e) now) 1) [
              | inl none ↦ omega arith
              | inr some ↦ absurd (h.open_side e (counted_there e now some) (subst (IsSegBetween h.t.a h.t.c) (sym same) is_ac))
            ]
            )
      ]

  gone_or : (p : Coord) → is_removed (h.t.b ∷ removed) p ≡ false → (p ≢ h.t.b) × (is_removed removed p ≡ false)
  gone_or p there = by (is_same_coord p h.t.b) (is_removed removed p) refl refl there
    where
      by : (x y : Bool) → is_same_coord p h.t.b ≡ x → is_removed removed p ≡ y → (x || y) ≡ false → (p ≢ h.t.b) × (is_removed removed p ≡ false)
      by true y same gone t = absurd (false≢true (sym t))
      by false true same gone t = absurd (false≢true (sym t))
      by false false same gone t = (λ is. false≢true (sym same ∙ (Decides-same_coords p h.t.b).1 is), gone)

  next_alike : (p : Coord) → is_removed (h.t.b ∷ removed) p ≡ false → sum_by (ends_there p) next ≡ sum_by (ends_there p) (current_edges s.lines [])
  next_alike p there =
      let (apart, before) = gone_or p there in
      let change = exchanged s removed spot h (ends_there p) ear.ab ear.bc ear.ac is_ab is_bc is_ac in
      let one = ends_counted h.t.a h.t.b p ear.ab is_ab in
      let two = ends_counted h.t.b h.t.c p ear.bc is_bc in
      let three = ends_counted h.t.a h.t.c p ear.ac is_ac in
      let none = not_there p h.t.b (λ is. apart (sym is)) in
      let same = thin.alike p before in
      omega arith

  next_no_nodes : (p : Coord) → is_removed (h.t.b ∷ removed) p ≡ true → ¬ IsNode s.edges p
  next_no_nodes p gone = by (is_same_coord p h.t.b) (is_removed removed p) refl refl gone
    where
      by : (x y : Bool) → is_same_coord p h.t.b ≡ x → is_removed removed p ≡ y → (x || y) ≡ true → ¬ IsNode s.edges p
      by true y same before t = subst (λ q. ¬ IsNode s.edges q) (sym ((Decides-same_coords p h.t.b).0 same)) (no_node s removed spot h)
      by false true same before t = thin.no_nodes p before
      by false false same before t = absurd (false≢true t)

  -- a walk over the next segments, with b where it goes along ac
  record IsOver (p : Coord) (walk : List Coord) : Type 0 where
    way : List Coord
    path : IsPathAlong now (p ∷ way)
    over : (q : Coord) → Contains (p ∷ walk) q → Contains (p ∷ way) q

  walk_over : (walk : List Coord) (p : Coord) → IsPathAlong next (p ∷ walk) → IsOver p walk
  walk_over [] p path = record { way = []; path = All-nil (IsAlongEdge now); over = λ q has. has }
  walk_over (y ∷ rest) p path =
      let (e, along) = All-head (IsAlongEdge next) (p, y) (steps (y ∷ rest)) path in
      let later = walk_over rest y (All-tail (IsAlongEdge next) (p, y) (steps (y ∷ rest)) path) in
      elim (next_was s removed spot h e along.0) [
        | inl off ↦ record {
          way = y ∷ later.way;
          path = All-cons (IsAlongEdge now) (p, y) (steps (y ∷ later.way)) (e, (off.has, along.1)) later.path;
          over = λ q has. one_more later q has;
        }
        | inr third ↦ by later (third_ways e third along.1)
      ]
    where
      one_more : (later : IsOver y rest) (q : Coord) → Contains (p ∷ y ∷ rest) q → Contains (p ∷ y ∷ later.way) q
      one_more later q (zero, inside, is) = (0, omega arith, is)
      one_more later q (suc k, inside, is) = contains_there p q (y ∷ later.way) (later.over q (k, omega arith, is))

      two_more : (later : IsOver y rest) (q : Coord) → Contains (p ∷ y ∷ rest) q → Contains (p ∷ h.t.b ∷ y ∷ later.way) q
      two_more later q (zero, inside, is) = (0, omega arith, is)
      two_more later q (suc k, inside, is) = contains_there p q (h.t.b ∷ y ∷ later.way) (contains_there h.t.b q (y ∷ later.way) (later.over q (k, omega arith, is)))

      third_ways : (e : Seg) → IsSegBetween h.t.a h.t.c e → IsSegBetween p y e → ((p ≡ h.t.a) × (y ≡ h.t.c)) ⊎ ((p ≡ h.t.c) × (y ≡ h.t.a))
      third_ways e (inl f) (inl g) = inl (sym g.0 ∙ f.0, sym g.1 ∙ f.1)
      third_ways e (inl f) (inr g) = inr (sym g.1 ∙ f.1, sym g.0 ∙ f.0)
      third_ways e (inr f) (inl g) = inr (sym g.0 ∙ f.0, sym g.1 ∙ f.1)
      third_ways e (inr f) (inr g) = inl (sym g.1 ∙ f.1, sym g.0 ∙ f.0)

      between : (later : IsOver y rest) (e f : Seg) → Contains now e → IsSegBetween p h.t.b e → Contains now f → IsSegBetween h.t.b y f → IsOver p (y ∷ rest)
      between later e f has_e is_e has_f is_f = record {
        way = h.t.b ∷ y ∷ later.way;
        path = All-cons (IsAlongEdge now) (p, h.t.b) (steps (h.t.b ∷ y ∷ later.way)) (e, (has_e, is_e)) (All-cons (IsAlongEdge now) (h.t.b, y) (steps (y ∷ later.way)) (f, (has_f, is_f)) later.path);
        over = two_more later;
      }

      by : IsOver y rest → ((p ≡ h.t.a) × (y ≡ h.t.c)) ⊎ ((p ≡ h.t.c) × (y ≡ h.t.a)) → IsOver p (y ∷ rest)
      by later (inl at) =
          between later ear.ab ear.bc (now_ab s removed spot h ear.ab is_ab) (subst (λ v. IsSegBetween v h.t.b ear.ab) (sym at.0) is_ab)
          (now_bc s removed spot h ear.bc is_bc) (subst (λ v. IsSegBetween h.t.b v ear.bc) (sym at.1) is_bc)
      by later (inr at) =
          between later ear.bc ear.ab (now_bc s removed spot h ear.bc is_bc) (subst (λ v. IsSegBetween v h.t.b ear.bc) (sym at.0) (seg_turned h.t.b h.t.c ear.bc is_bc))
          (now_ab s removed spot h ear.ab is_ab) (subst (λ v. IsSegBetween h.t.b v ear.ab) (sym at.1) (seg_turned h.t.a h.t.b ear.ab is_ab))

  next_walks : (p q : Coord) → IsWalkTo next p q → IsWalkTo (current_edges s.lines []) p q
  next_walks p q (walk, it) = let over = walk_over walk p it.0 in thin.walks p q (over.way, (over.path, over.over q it.1))

  pub next_thinned : IsThinned s (h.t.b ∷ removed)
  next_thinned = record { apart = next_apart; once = next_once; alike = next_alike; no_nodes = next_no_nodes; walks = next_walks }
