-- A trail that comes back to its first point, at which two edges meet too: walks do not leave it, and its least point is the one node on it.
use mathlib.Core.List.{[], ◌∷◌}
use Rattle.std.proofs.Common.{◌≡◌, ◌⊎◌, refl, sym, ◌∙◌, ap, subst, ℕ, zero, suc, ◌+◌, ◌-◌, ◌<◌, ◌≤◌, ◌||◌, Bool, true, false, cond, ltb, List, inl, inr, ◌≢◌, arith}
use Rattle.std.specs.Prelude.{All, Contains}
use Rattle.std.proofs.lemmas.Bool.{cases_order, cases_lt, true≢false, false_from_ne_true}
use Rattle.std.proofs.lemmas.Bool.Decides.{Decides-ltb}
use Rattle.std.proofs.lemmas.List.Elements.{All-nil, All-cons, All-head, All-tail, All-contains}
use Rattle.cov_types.specs.declared.coord.Coord.{Coord}
use Rattle.cov_types.specs.declared.seg.Seg.{Seg}
use Rattle.cov_types.specs.Coord.{is_before, is_same_coord}
use Rattle.cov_types.specs.Seg.{IsSegBetween}
use Rattle.cov_types.proofs.Order.{is_before-irrefl, is_before-trans, same_from_neither}
use Rattle.greedy_run.specs.Lines.{degree, steps, IsAlongEdge, IsPathAlong, IsLeastOfLoop, IsNode}
use Rattle.greedy_run.proofs.Listed.{passed_on}
use Rattle.greedy_run.proofs.Threads.{IsThread, three_counted, seg_turned, other_end, no_loop, ends_at}
use Rattle.greedy_run.proofs.Trails.{IsTrailBy, not_met, seg_or}

-- ---- the least of some points

pub record IsLeastAt (n : ℕ) (f : ℕ → Coord) (k : ℕ) : Type 0 where
  pub within : k < n
  pub least : (j : ℕ) → j < n → is_before (f j) (f k) ≡ false

pub least_at : (n : ℕ) (f : ℕ → Coord) → 1 ≤ n → (k : ℕ) × IsLeastAt n f k
least_at zero f some = absurd (omega arith)
least_at (suc zero) f some = (0, record { within = omega arith; least = λ j less. (let z : 0 ≡ j = omega arith in subst (λ i. is_before (f i) (f 0) ≡ false) z (is_before-irrefl (f 0))) })
least_at (suc (suc n)) f some = by (least_at (suc n) f (omega arith)) (is_before (f (suc n)) (f (least_at (suc n) f (omega arith)).0)) refl
  where
    by : (before : (k : ℕ) × IsLeastAt (suc n) f k) → (b : Bool) → is_before (f (suc n)) (f before.0) ≡ b → (k : ℕ) × IsLeastAt (suc (suc n)) f k
    by before false is = (
      before.0,
      record {
        within = (let w = before.1.within in omega arith);
        least = λ j less. elim (cases_order j (suc n)) [
          | inl last ↦ subst (λ i. is_before (f i) (f before.0) ≡ false) (sym last) is
          | inr rest ↦ elim rest [ inl earlier ↦ before.1.least j earlier | inr later ↦ absurd (omega arith) ]
        ];
      },
    )
    by before true is = (
      suc n,
      record {
        within = omega arith;
        least = λ j less. elim (cases_order j (suc n)) [
          | inl last ↦ subst (λ i. is_before (f i) (f (suc n)) ≡ false) (sym last) (is_before-irrefl (f (suc n)))
          | inr rest ↦ elim rest [
            | inl earlier ↦ false_from_ne_true (is_before (f j) (f (suc n))) (λ t. true≢false (sym (is_before-trans (f j) (f (suc n)) (f before.0) t is) ∙ before.1.least j earlier))
            | inr later ↦ absurd (omega arith)
          ]
        ];
      },
    )

-- ---- loops

-- the trail comes back, and two edges meet at its first point too
pub record IsLoopBy (edges : List Seg) (n : ℕ) (f : ℕ → Coord) : Type 0 where
  pub trail : IsTrailBy edges n f
  pub back : f n ≡ f 0
  pub two : degree edges (f 0) ≡ 2

module _ (edges : List Seg) (n : ℕ) (f : ℕ → Coord) (h : IsLoopBy edges n f) where
  two_there : (k : ℕ) → k ≤ n → degree edges (f k) ≡ 2
  two_there zero within = h.two
  two_there (suc k) within = elim (cases_order (suc k) n) [
    | inl last ↦ subst (λ q. degree edges q ≡ 2) (sym (ap f last ∙ h.back)) h.two
    | inr rest ↦ elim rest [ inl earlier ↦ h.trail.between (suc k) (omega arith) earlier | inr later ↦ absurd (omega arith) ]
  ]

  more_than_one : 1 < n
  more_than_one = elim (cases_order n 1) [
    | inl one ↦ (
        let step = h.trail.step 0 (omega arith) in
        absurd (no_loop (f 0) step.0 (subst (λ q. IsSegBetween (f 0) q step.0) (ap f (sym one) ∙ h.back) step.1.1)))
    | inr rest ↦ elim rest [ inl none ↦ (let some = h.trail.some in absurd (omega arith)) | inr more ↦ more ]
  ]

  -- q is a point of the loop
  abbrev pub IsLoopPoint : Coord → Type 0
  IsLoopPoint q = (k : ℕ) × ((k < n) × (f k ≡ q))

  -- the step to the point at a place
  record HasStepTo (i : ℕ) : Type 0 where
    j : ℕ
    within : j < n
    next : f (suc j) ≡ f i
    differs : (e : Seg) → IsSegBetween (f j) (f (suc j)) e → IsSegBetween (f i) (f (suc i)) e → ⊥

  step_to : (i : ℕ) → i < n → HasStepTo i
  step_to zero less =
      let more = more_than_one in
      let place : suc (n - 1) ≡ n = omega arith in
      record { j = n - 1; within = omega arith; next = ap f place ∙ h.back; differs = λ e s t. h.trail.distinct 0 (n - 1) e (omega arith) (omega arith) t s }
  step_to (suc i) less = record { j = i; within = omega arith; next = refl; differs = λ e s t. h.trail.distinct i (suc i) e (omega arith) less s t }

  -- an edge from a point of the loop leads to one
  stays_by : (i : ℕ) → i < n → (r : Coord) (g : Seg) → Contains edges g → IsSegBetween (f i) r g → IsLoopPoint r
  stays_by i less r g has s = by (seg_or g next.0) (seg_or g last.0)
    where
      before : HasStepTo i
      before = step_to i less

      last : (e : Seg) × (Contains edges e × IsSegBetween (f before.j) (f (suc before.j)) e)
      last = h.trail.step before.j before.within

      next : (e : Seg) × (Contains edges e × IsSegBetween (f i) (f (suc i)) e)
      next = h.trail.step i less

      from_last : IsSegBetween (f i) (f before.j) last.0
      from_last = seg_turned (f before.j) (f i) last.0 (subst (λ q. IsSegBetween (f before.j) q last.0) before.next last.1.1)

      next_point : r ≡ f (suc i) → IsLoopPoint r
      next_point same = elim (cases_order (suc i) n) [
        | inl end ↦ (let more = more_than_one in (0, (omega arith, sym h.back ∙ ap f (sym end) ∙ sym same)))
        | inr rest ↦ elim rest [ inl earlier ↦ (suc i, (earlier, sym same)) | inr later ↦ absurd (omega arith) ]
      ]

      by : (g ≡ next.0) ⊎ (g ≢ next.0) → (g ≡ last.0) ⊎ (g ≢ last.0) → IsLoopPoint r
      by (inl same) either = next_point (other_end (f i) r (f (suc i)) g s (subst (IsSegBetween (f i) (f (suc i))) (sym same) next.1.1))
      by (inr other) (inl same) = (before.j, (before.within, sym (other_end (f i) r (f before.j) g s (subst (IsSegBetween (f i) (f before.j)) (sym same) from_last))))
      by (inr other) (inr another) =
          let two = two_there i (omega arith) in
          let three = three_counted (λ e. is_same_coord e.lo (f i) || is_same_coord e.hi (f i)) edges g next.0 last.0 has next.1.0 last.1.0
          (ends_at (f i) r g s) (ends_at (f i) (f (suc i)) next.0 next.1.1) (ends_at (f i) (f before.j) last.0 from_last) other another
          (λ same. before.differs next.0 (subst (IsSegBetween (f before.j) (f (suc before.j))) (sym same) last.1.1) next.1.1) in
          absurd (omega arith)

  -- so walks from its points stay on it
  pub stays : (walk : List Coord) (q : Coord) → IsLoopPoint q → IsPathAlong edges (q ∷ walk) → All IsLoopPoint (q ∷ walk)
  stays [] q on path = All-cons IsLoopPoint q [] on (All-nil IsLoopPoint)
  stays (r ∷ walk) q on path =
      let step = All-head (IsAlongEdge edges) (q, r) (steps (r ∷ walk)) path in
      let there = stays_by on.0 on.1.0 r step.0 step.1.0 (subst (λ p. IsSegBetween p r step.0) (sym on.1.1) step.1.1) in
      All-cons IsLoopPoint q (r ∷ walk) on (stays walk r there (All-tail (IsAlongEdge edges) (q, r) (steps (r ∷ walk)) path))

  -- two places of it have different points
  apart : (i j : ℕ) → i < j → j < n → f i ≡ f j → ⊥
  apart zero j less within same = not_met edges n f h.trail j less within (h.back ∙ same)
  apart (suc i) j less within same =
      not_met edges j f (record {
        some = omega arith;
        step = λ k l. h.trail.step k (omega arith);
        distinct = λ a b e l w. h.trail.distinct a b e l (omega arith);
        between = λ k s l. h.trail.between k s (omega arith);
      }) (suc i) (omega arith) less (sym same)

  module _ (least : ℕ) (is : IsLeastAt n f least) where
    abbrev Passes : Coord → Type 0
    Passes q = (degree edges q ≡ 2) × (is_before q (f least) ≡ false)

    pub least_is : IsLeastOfLoop edges (f least)
    least_is walk path = every (f least ∷ walk) (stays walk (f least) (least, (is.within, refl)) path)
      where
        passes : (q : Coord) → IsLoopPoint q → Passes q
        passes q on = let less = on.1.0 in subst Passes on.1.1 (two_there on.0 (omega arith), is.least on.0 less)

        every : (ps : List Coord) → All IsLoopPoint ps → All Passes ps
        every ps all = λ i d within. passes _ (all i d within)

    -- ---- the loop from its least point on

    abbrev g : ℕ → Coord
    g k = cond (ltb n (least + k)) (f ((least + k) - n)) (f (least + k))

    pub g_low : (k : ℕ) → least + k ≤ n → g k ≡ f (least + k)
    g_low k low = ap (λ b. cond b (f ((least + k) - n)) (f (least + k))) (false_from_ne_true (ltb n (least + k)) (λ t. (let past = (Decides-ltb n (least + k)).0 t in omega arith)))

    g_high : (k : ℕ) → n < least + k → g k ≡ f ((least + k) - n)
    g_high k high = ap (λ b. cond b (f ((least + k) - n)) (f (least + k))) ((Decides-ltb n (least + k)).1 high)

    -- the place in the loop of a step
    record IsPlaced (k : ℕ) : Type 0 where
      i : ℕ
      within : i < n
      here : g k ≡ f i
      next : g (suc k) ≡ f (suc i)
      turned : (i ≡ least + k) ⊎ (i + n ≡ least + k)

    placed : (k : ℕ) → k < n → IsPlaced k
    placed k less = let inside = is.within in elim (cases_order (least + k) n) [
      | inl same ↦ record {
        i = 0;
        within = omega arith;
        here = g_low k (omega arith) ∙ ap f same ∙ h.back;
        next = g_high (suc k) (omega arith) ∙ (let z : (least + suc k) - n ≡ 1 = omega arith in ap f z);
        turned = inr (omega arith);
      }
      | inr rest ↦ elim rest [
        | inl low ↦ record {
          i = least + k;
          within = low;
          here = g_low k (omega arith);
          next = g_low (suc k) (omega arith) ∙ (let z : least + suc k ≡ suc (least + k) = omega arith in ap f z);
          turned = inl refl;
        }
        | inr high ↦ record {
          i = (least + k) - n;
          within = omega arith;
          here = g_high k high;
          next = g_high (suc k) (omega arith) ∙ (let z : (least + suc k) - n ≡ suc ((least + k) - n) = omega arith in ap f z);
          turned = inr (omega arith);
        }
      ]
    ]

    g_step : (k : ℕ) → k < n → (e : Seg) × (Contains edges e × IsSegBetween (g k) (g (suc k)) e)
    g_step k less =
        let at = placed k less in
        let step = h.trail.step at.i at.within in
        (step.0, (step.1.0, subst (λ q. IsSegBetween (g k) q step.0) (sym at.next) (subst (λ q. IsSegBetween q (f (suc at.i)) step.0) (sym at.here) step.1.1)))

    back_to : (k : ℕ) (at : IsPlaced k) (e : Seg) → IsSegBetween (g k) (g (suc k)) e → IsSegBetween (f at.i) (f (suc at.i)) e
    back_to k at e s = subst (λ q. IsSegBetween (f at.i) q e) at.next (subst (λ q. IsSegBetween q (g (suc k)) e) at.here s)

    not_one : (j k a b : ℕ) → j < k → k < n → (a ≡ least + j) ⊎ (a + n ≡ least + j) → (b ≡ least + k) ⊎ (b + n ≡ least + k) → a ≡ b → ⊥
    not_one j k a b less within (inl x) (inl y) same = omega arith
    not_one j k a b less within (inl x) (inr y) same = omega arith
    not_one j k a b less within (inr x) (inl y) same = omega arith
    not_one j k a b less within (inr x) (inr y) same = omega arith

    g_distinct : (j k : ℕ) (e : Seg) → j < k → k < n → IsSegBetween (g j) (g (suc j)) e → IsSegBetween (g k) (g (suc k)) e → ⊥
    g_distinct j k e less within s t =
        let a = placed j (omega arith) in
        let b = placed k within in
        elim (cases_order a.i b.i) [
          | inl same ↦ not_one j k a.i b.i less within a.turned b.turned same
          | inr rest ↦ elim rest [
            | inl up ↦ h.trail.distinct a.i b.i e up b.within (back_to j a e s) (back_to k b e t)
            | inr down ↦ h.trail.distinct b.i a.i e down a.within (back_to k b e t) (back_to j a e s)
          ]
        ]

    least_node : IsNode edges (f least)
    least_node = (let inside = is.within in let two = two_there least (omega arith) in record { vertex = omega arith; node = inr least_is })

    g_first : g 0 ≡ f least
    g_first = let inside = is.within in g_low 0 (omega arith) ∙ (let z : least + 0 ≡ least = omega arith in ap f z)

    g_last : g n ≡ f least
    g_last = elim (cases_lt 0 least) [
      | inl some ↦ (let inside = is.within in g_high n (omega arith) ∙ (let z : (least + n) - n ≡ least = omega arith in ap f z))
      | inr none ↦ g_low n (omega arith) ∙ (let z : least + n ≡ n = omega arith in ap f z) ∙ h.back ∙ (let z : 0 ≡ least = omega arith in ap f z)
    ]

    -- the other points of the loop are no nodes
    pub no_other_node : (k : ℕ) → 0 < k → k < n → ¬ IsNode edges (g k)
    no_other_node k some less node =
        let at = placed k less in
        let inside = is.within in
        elim node.node [
          | inl not_two ↦ not_two (subst (λ q. degree edges q ≡ 2) (sym at.here) (two_there at.i (let w = at.within in omega arith)))
          | inr loop ↦ (
              let place : k + (n - k) ≡ n = omega arith in
              let seen : is_before (g (k + (n - k))) (g k) ≡ false = passed_on edges n g g_step (λ q. is_before q (g k) ≡ false) k (n - k) (omega arith)
              (λ walk path q has. (All-contains (λ r. (degree edges r ≡ 2) × (is_before r (g k) ≡ false)) (g k ∷ walk) q (loop walk path) has).1) in
              let not_before : is_before (f least) (f at.i) ≡ false = subst (λ q. is_before (f least) q ≡ false) at.here (subst (λ q. is_before q (g k) ≡ false) (ap g place ∙ g_last) seen) in
              let same : f least ≡ f at.i = same_from_neither (f least) (f at.i) not_before (is.least at.i at.within) in
              elim (cases_order least at.i) [
                | inl one ↦ not_one 0 k least at.i some less (inl (omega arith)) at.turned one
                | inr rest ↦ elim rest [
                  | inl up ↦ apart least at.i up at.within same
                  | inr down ↦ apart at.i least down is.within (sym same)
                ]
              ])
        ]

    -- from each of its points a walk leads to the least
    place_from : (i : ℕ) → i < n → (k : ℕ) × ((k ≤ n) × (g k ≡ f i))
    place_from i less = let inside = is.within in elim (cases_lt i least) [
      | inr past ↦ (i - least, (omega arith, g_low (i - least) (omega arith) ∙ (let z : least + (i - least) ≡ i = omega arith in ap f z)))
      | inl before ↦ elim (cases_lt 0 i) [
        | inl some ↦ ((i + n) - least, (omega arith, g_high ((i + n) - least) (omega arith) ∙ (let z : (least + ((i + n) - least)) - n ≡ i = omega arith in ap f z)))
        | inr none ↦ (n - least, (omega arith, g_low (n - least) (omega arith) ∙ (let z : least + (n - least) ≡ n = omega arith in ap f z) ∙ h.back ∙ (let z : 0 ≡ i = omega arith in ap f z)))
      ]
    ]

    pub reaches_least : (i : ℕ) → i < n → (P : Coord → Type 0) → ((walk : List Coord) → IsPathAlong edges (f i ∷ walk) → (q : Coord) → Contains (f i ∷ walk) q → P q) → P (f least)
    reaches_least i less P all =
        let from = place_from i less in
        let within = from.1.0 in
        let place : from.0 + (n - from.0) ≡ n = omega arith in
        subst P (ap g place ∙ g_last) (passed_on edges n g g_step P from.0 (n - from.0) (omega arith)
        (λ walk path q has. all walk (subst (λ p. IsPathAlong edges (p ∷ walk)) from.1.1 path) q (subst (λ p. Contains (p ∷ walk) q) from.1.1 has)))

    pub loop_thread : IsThread edges n g
    loop_thread = record {
      some = h.trail.some;
      step = g_step;
      distinct = g_distinct;
      from = subst (IsNode edges) (sym g_first) least_node;
      to = subst (IsNode edges) (sym g_last) least_node;
      between = no_other_node;
    }

    -- the first step of the loop is one of this thread
    pub record HasFirst : Type 0 where
      pub k : ℕ
      pub within : k < n
      pub here : g k ≡ f 0
      pub next : g (suc k) ≡ f 1

    pub has_first : HasFirst
    has_first = elim (cases_lt 0 least) [
      | inl some ↦ (
          let inside = is.within in
          let total : least + (n - least) ≡ n = omega arith in
          record {
            k = n - least;
            within = omega arith;
            here = g_low (n - least) (omega arith) ∙ ap f total ∙ h.back;
            next = g_high (suc (n - least)) (omega arith) ∙ (let z : (least + suc (n - least)) - n ≡ 1 = omega arith in ap f z);
          })
      | inr none ↦ (
          let inside = is.within in
          record {
            k = 0;
            within = omega arith;
            here = g_low 0 (omega arith) ∙ (let z : least + 0 ≡ 0 = omega arith in ap f z);
            next = g_low 1 (omega arith) ∙ (let z : least + 1 ≡ 1 = omega arith in ap f z);
          })
    ]

    -- and so is each other step
    pub record HasStep (i : ℕ) : Type 0 where
      pub k : ℕ
      pub within : k < n
      pub here : g k ≡ f i
      pub next : g (suc k) ≡ f (suc i)

    pub has_step : (i : ℕ) → i < n → HasStep i
    has_step i less = let inside = is.within in elim (cases_lt i least) [
      | inr past ↦ record {
        k = i - least;
        within = omega arith;
        here = g_low (i - least) (omega arith) ∙ (let z : least + (i - least) ≡ i = omega arith in ap f z);
        next = g_low (suc (i - least)) (omega arith) ∙ (let z : least + suc (i - least) ≡ suc i = omega arith in ap f z);
      }
      | inl before ↦ record {
        k = (i + n) - least;
        within = omega arith;
        here = elim (cases_lt 0 i) [
          | inl some ↦ g_high ((i + n) - least) (omega arith) ∙ (let z : (least + ((i + n) - least)) - n ≡ i = omega arith in ap f z)
          | inr none ↦ g_low ((i + n) - least) (omega arith) ∙ (let z : least + ((i + n) - least) ≡ n = omega arith in ap f z) ∙ h.back ∙ (let z : 0 ≡ i = omega arith in ap f z)
        ];
        next = g_high (suc ((i + n) - least)) (omega arith) ∙ (let z : (least + suc ((i + n) - least)) - n ≡ suc i = omega arith in ap f z);
      }
    ]
