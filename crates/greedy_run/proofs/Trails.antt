-- Walks that go on: along distinct edges of a list, by points that are the ends of two. They end at another point, or come back to their first.
use mathlib.Core.List.{[], ◌∷◌}
use Rattle.std.proofs.Common.{◌≡◌, ◌⊎◌, refl, sym, ◌∙◌, ap, subst, ℕ, zero, suc, ◌+◌, ◌<◌, ◌≤◌, ◌||◌, ◌&&◌, not, Bool, true, false, cond, List, IsTrue, inl, inr, ◌≢◌, arith}
use Rattle.std.specs.Prelude.{AllPairs, Contains, length, count_by}
use Rattle.std.proofs.lemmas.Bool.{cases_order, or_cases, and_parts, true≢false, false≢true}
use Rattle.std.proofs.lemmas.List.Sums.{sum_by-cons}
use Rattle.cov_types.specs.declared.coord.Coord.{Coord}
use Rattle.cov_types.specs.declared.seg.Seg.{Seg}
use Rattle.cov_types.specs.Coord.{is_before, is_same_coord}
use Rattle.cov_types.specs.Seg.{IsSegBetween, is_seg_before}
use Rattle.cov_types.proofs.Equal.{Decides-same_coords}
use Rattle.cov_types.proofs.Order.{is_before-irrefl, cases_coords}
use Rattle.cov_types.proofs.SegOrder.{cases_segs, is_seg_before-irrefl}
use Rattle.greedy_run.specs.Lines.{degree}
use Rattle.greedy_run.proofs.Threads.{three_counted, seg_turned, one_seg, other_end, no_loop, ends_at}

-- ---- what is one and what is not

pub coord_or : (a b : Coord) → (a ≡ b) ⊎ (a ≢ b)
coord_or a b = elim (cases_coords a b) [
  | inl before ↦ inr (λ same. true≢false (sym (subst (λ x. IsTrue (is_before a x)) (sym same) before) ∙ is_before-irrefl a))
  | inr rest ↦ elim rest [
    | inl same ↦ inl same
    | inr after ↦ inr (λ same. true≢false (sym (subst (λ x. IsTrue (is_before x a)) (sym same) after) ∙ is_before-irrefl a))
  ]
]

pub seg_or : (e f : Seg) → (e ≡ f) ⊎ (e ≢ f)
seg_or e f = elim (cases_segs e f) [
  | inl before ↦ inr (λ same. true≢false (sym (subst (λ s. IsTrue (is_seg_before e s)) (sym same) before) ∙ is_seg_before-irrefl e))
  | inr rest ↦ elim rest [
    | inl same ↦ inl same
    | inr after ↦ inr (λ same. true≢false (sym (subst (λ s. IsTrue (is_seg_before s e)) (sym same) after) ∙ is_seg_before-irrefl e))
  ]
]

-- ---- elements of lists

pub contains_there : {X : Type 0} (y : X) (xs : List X) (x : X) → Contains xs x → Contains (y ∷ xs) x
contains_there y xs x (k, inside, is) = (suc k, omega arith, is)

pub contains_here : {X : Type 0} (x : X) (xs : List X) → Contains (x ∷ xs) x
contains_here x xs = (zero, omega arith, refl)

-- the list without an element
record IsWithout {X : Type 0} (xs : List X) (x : X) (ys : List X) : Type 0 where
  shorter : length xs ≡ suc (length ys)
  others : (y : X) → Contains xs y → y ≢ x → Contains ys y

first_other : {X : Type 0} (x : X) (xs : List X) (y : X) → Contains (x ∷ xs) y → y ≢ x → Contains xs y
first_other x xs y (zero, inside, is) differ = absurd (differ (sym is))
first_other x xs y (suc k, inside, is) differ = (k, omega arith, is)

without : {X : Type 0} (xs : List X) (x : X) → Contains xs x → (ys : List X) × IsWithout xs x ys
without [] x (k, inside, is) = absurd (omega arith)
without (z ∷ xs) x (zero, inside, is) = (xs, record { shorter = refl; others = λ y has differ. first_other z xs y has (λ same. differ (same ∙ is)) })
without (z ∷ xs) x (suc k, inside, is) =
    let rest = without xs x (k, omega arith, is) in
    (z ∷ rest.0, record { shorter = ap suc rest.1.shorter; others = λ y has differ. by rest.0 rest.1 y has differ })
  where
    by : (ys : List _) → IsWithout xs x ys → (y : _) → Contains (z ∷ xs) y → y ≢ x → Contains (z ∷ ys) y
    by ys h y (zero, in_y, is_y) differ = (zero, omega arith, is_y)
    by ys h y (suc j, in_y, is_y) differ = contains_there z ys y (h.others y (j, omega arith, is_y) differ)

-- so many different elements are of a list that has as many
pub no_more_than : {X : Type 0} (R : ℕ → X → Type 0) (n : ℕ) (xs : List X) → ((k : ℕ) → k < n → (x : X) × (Contains xs x × R k x)) → ((j k : ℕ) (x : X) → j < k → k < n → R j x → R k x → ⊥) → n ≤ length xs
no_more_than R zero xs each apart = omega arith
no_more_than R (suc n) xs each apart =
    let last = each n (omega arith) in
    let rest = without xs last.0 last.1.0 in
    let shorter = rest.1.shorter in
    let fewer = no_more_than R n rest.0 (λ k less. (let its = each k (omega arith) in (its.0, (rest.1.others its.0 its.1.0 (λ same. apart k n its.0 less (omega arith) its.1.1 (subst (λ x. R n x) (sym same) last.1.1)), its.1.1))))
    (λ j k x less within. apart j k x less (omega arith)) in
    omega arith

-- an element that passes and is not this one, of a list of different ones of which two pass
pub record IsOther {X : Type 0} (p : X → Bool) (xs : List X) (e : X) : Type 0 where
  pub x : X
  pub among : Contains xs x
  pub passes : p x ≡ true
  pub differs : x ≢ e

pub some_passes : {X : Type 0} (p : X → Bool) (xs : List X) → 1 ≤ count_by p xs → (x : X) × (Contains xs x × (p x ≡ true))
some_passes p [] h = absurd (omega arith)
some_passes p (y ∷ ys) h = by (some_passes p ys) (p y) refl
  where
    by : (1 ≤ count_by p ys → (x : _) × (Contains ys x × (p x ≡ true))) → (b : Bool) → p y ≡ b → (x : _) × (Contains (y ∷ ys) x × (p x ≡ true))
    by later true e = (y, (contains_here y ys, e))
    by later false e =
        let none : cond {A = ℕ} (p y) 1 0 ≡ 0 = ap (λ b. cond {A = ℕ} b 1 0) e in
        let rest = later (omega (arith, sum_by-cons (λ z. cond (p z) 1 0) y ys, none, h)) in
        (rest.0, (contains_there y ys rest.0 rest.1.0, rest.1.1))

pub another : {X : Type 0} (p : X → Bool) (xs : List X) (e : X) → ((x : X) → (x ≡ e) ⊎ (x ≢ e)) → AllPairs (λ x y. x ≢ y) xs → 2 ≤ count_by p xs → IsOther p xs e
another p [] e decide apart h = absurd (omega arith)
another p (y ∷ ys) e decide apart h = by (another p ys e decide (λ i j d less within. apart (suc i) (suc j) d (omega arith) (omega arith))) (p y) refl (decide y)
  where
    counted : count_by p (y ∷ ys) ≡ cond (p y) 1 0 + count_by p ys
    counted = sum_by-cons (λ z. cond (p z) 1 0) y ys

    not_first : (x : _) → Contains ys x → x ≢ y
    not_first x (k, inside, is) same = apart 0 (suc k) x (omega arith) (omega arith) (sym (is ∙ same))

    by : (2 ≤ count_by p ys → IsOther p ys e) → (b : Bool) → p y ≡ b → (y ≡ e) ⊎ (y ≢ e) → IsOther p (y ∷ ys) e
    by later true is (inr differs) = record { x = y; among = contains_here y ys; passes = is; differs = differs }
    by later true is (inl same) =
        let one : cond {A = ℕ} (p y) 1 0 ≡ 1 = ap (λ b. cond {A = ℕ} b 1 0) is in
        let rest = some_passes p ys (omega (arith, counted, one, h)) in
        record { x = rest.0; among = contains_there y ys rest.0 rest.1.0; passes = rest.1.1; differs = λ it. not_first rest.0 rest.1.0 (it ∙ sym same) }
    by later false is either =
        let none : cond {A = ℕ} (p y) 1 0 ≡ 0 = ap (λ b. cond {A = ℕ} b 1 0) is in
        let rest = later (omega (arith, counted, none, h)) in
        record { x = rest.x; among = contains_there y ys rest.x rest.among; passes = rest.passes; differs = rest.differs }

-- ---- going on at a vertex

-- the other end of an edge at q that does not lead back to p
abbrev pub onward : List Seg → Coord → Coord → Coord
onward [] p q = q
onward (e ∷ es) p q = cond (is_same_coord e.lo q && not (is_same_coord e.hi p)) e.hi (cond (is_same_coord e.hi q && not (is_same_coord e.lo p)) e.lo (onward es p q))

pub record IsOnward (edges : List Seg) (p q c : Coord) : Type 0 where
  pub edge : Seg
  pub among : Contains edges edge
  pub between : IsSegBetween q c edge
  pub differs : c ≢ p

leads_on : (a b p q : Coord) → (is_same_coord a q && not (is_same_coord b p)) ≡ true → (a ≡ q) × (b ≢ p)
leads_on a b p q h =
    let parts = and_parts _ _ h in
    ((Decides-same_coords a q).0 parts.0, λ same. false≢true (sym (ap not ((Decides-same_coords b p).1 same)) ∙ parts.1))

no_lead : (a b p q : Coord) → (is_same_coord a q && not (is_same_coord b p)) ≡ false → a ≡ q → b ≢ p → ⊥
no_lead a b p q h here differs = false≢true (sym h ∙ both (is_same_coord a q) (is_same_coord b p) ((Decides-same_coords a q).1 here) (λ t. differs ((Decides-same_coords b p).0 t)))
  where
    both : (x y : Bool) → x ≡ true → ((y ≡ true) → ⊥) → (x && not y) ≡ true
    both x true is none = absurd (none refl)
    both x false is none = is_and x is
      where
        is_and : (x : Bool) → x ≡ true → (x && true) ≡ true
        is_and true t = refl
        is_and false t = absurd (false≢true t)

pub onward_is : (edges : List Seg) (p q c : Coord) (g : Seg) → Contains edges g → IsSegBetween q c g → c ≢ p → IsOnward edges p q (onward edges p q)
onward_is [] p q c g (k, inside, is) s differs = absurd (omega arith)
onward_is (e ∷ es) p q c g has s differs = by (λ rest. onward_is es p q c g rest s differs) (is_same_coord e.lo q && not (is_same_coord e.hi p)) refl (is_same_coord e.hi q && not (is_same_coord e.lo p)) refl has
  where
    not_it : (is_same_coord e.lo q && not (is_same_coord e.hi p)) ≡ false → (is_same_coord e.hi q && not (is_same_coord e.lo p)) ≡ false → e ≡ g → IsSegBetween q c g → ⊥
    not_it first second same (inl t) = no_lead e.lo e.hi p q first (ap (λ f. f.lo) same ∙ t.0) (λ it. differs (sym t.1 ∙ sym (ap (λ f. f.hi) same) ∙ it))
    not_it first second same (inr t) = no_lead e.hi e.lo p q second (ap (λ f. f.hi) same ∙ t.1) (λ it. differs (sym t.0 ∙ sym (ap (λ f. f.lo) same) ∙ it))

    later : IsOnward es p q (onward es p q) → IsOnward (e ∷ es) p q (onward es p q)
    later found = record { edge = found.edge; among = contains_there e es found.edge found.among; between = found.between; differs = found.differs }

    by : (Contains es g → IsOnward es p q (onward es p q)) → (b : Bool) → (is_same_coord e.lo q && not (is_same_coord e.hi p)) ≡ b → (d : Bool) → (is_same_coord e.hi q && not (is_same_coord e.lo p)) ≡ d → Contains (e ∷ es) g
        → IsOnward (e ∷ es) p q (cond b e.hi (cond d e.lo (onward es p q)))
    by rest true first d second h = let t = leads_on e.lo e.hi p q first in record { edge = e; among = contains_here e es; between = inl (t.0, refl); differs = t.1 }
    by rest false first true second h = let t = leads_on e.hi e.lo p q second in record { edge = e; among = contains_here e es; between = inr (refl, t.0); differs = t.1 }
    by rest false first false second (zero, inside, is) = absurd (not_it first second is s)
    by rest false first false second (suc k, inside, is) = later (rest (k, omega arith, is))

module _ (edges : List Seg) (distinct : AllPairs (λ e f. ¬ (e ≡ f)) edges) where
  at_end : (q : Coord) (e : Seg) → (is_same_coord e.lo q || is_same_coord e.hi q) ≡ true → (c : Coord) × IsSegBetween q c e
  at_end q e h = elim (or_cases _ _ h) [
    | inl lo ↦ (e.hi, inl ((Decides-same_coords e.lo q).0 lo, refl))
    | inr hi ↦ (e.lo, inr (refl, (Decides-same_coords e.hi q).0 hi))
  ]

  -- where two edges meet, a walk goes on
  pub goes_on : (p q : Coord) (e : Seg) → IsSegBetween p q e → degree edges q ≡ 2 → IsOnward edges p q (onward edges p q)
  goes_on p q e s two =
      let other = another (λ f. is_same_coord f.lo q || is_same_coord f.hi q) edges e (λ f. seg_or f e) distinct (omega arith) in
      let there = at_end q other.x other.passes in
      onward_is edges p q there.0 other.x other.among there.1 (λ back. other.differs (one_seg q p other.x e (subst (λ c. IsSegBetween q c other.x) back there.1) (seg_turned p q e s)))

-- ---- trails

-- the points f 0 to f n lead along distinct edges, and two edges meet at each point between
pub record IsTrailBy (edges : List Seg) (n : ℕ) (f : ℕ → Coord) : Type 0 where
  pub some : 1 ≤ n
  pub step : (k : ℕ) → k < n → (e : Seg) × (Contains edges e × IsSegBetween (f k) (f (suc k)) e)
  pub distinct : (j k : ℕ) (e : Seg) → j < k → k < n → IsSegBetween (f j) (f (suc j)) e → IsSegBetween (f k) (f (suc k)) e → ⊥
  pub between : (k : ℕ) → 0 < k → k < n → degree edges (f k) ≡ 2

module _ (edges : List Seg) where
  -- a trail has at most as many steps as there are edges
  pub trail_bound : (n : ℕ) (f : ℕ → Coord) → IsTrailBy edges n f → n ≤ length edges
  trail_bound n f h = no_more_than (λ k e. IsSegBetween (f k) (f (suc k)) e) n edges h.step h.distinct

  -- it does not come to a point between its ends again
  pub not_met : (n : ℕ) (f : ℕ → Coord) → IsTrailBy edges n f → (i : ℕ) → 0 < i → i < n → f n ≡ f i → ⊥
  not_met (suc m) f h (suc i) some less same =
      let last = h.step m (omega arith) in
      let here = h.step (suc i) less in
      let before = h.step i (omega arith) in
      let two = h.between (suc i) (omega arith) less in
      let there : IsSegBetween (f (suc i)) (f m) last.0 = subst (λ q. IsSegBetween q (f m) last.0) same (seg_turned (f m) (f (suc m)) last.0 last.1.1) in
      elim (cases_order (suc i) m) [
        | inl end ↦ no_loop (f m) last.0 (subst (λ q. IsSegBetween (f m) q last.0) (same ∙ ap f end) last.1.1)
        | inr apart ↦ elim apart [
          | inl earlier ↦ (
              let back = seg_turned (f i) (f (suc i)) before.0 before.1.1 in
              let three = three_counted (λ e. is_same_coord e.lo (f (suc i)) || is_same_coord e.hi (f (suc i))) edges before.0 here.0 last.0 before.1.0 here.1.0 last.1.0
              (ends_at (f (suc i)) (f i) before.0 back) (ends_at (f (suc i)) (f (suc (suc i))) here.0 here.1.1) (ends_at (f (suc i)) (f m) last.0 there)
              (λ it. h.distinct i (suc i) before.0 (omega arith) less before.1.1 (subst (IsSegBetween (f (suc i)) (f (suc (suc i)))) (sym it) here.1.1))
              (λ it. h.distinct i m before.0 (omega arith) (omega arith) before.1.1 (subst (IsSegBetween (f m) (f (suc m))) (sym it) last.1.1))
              (λ it. h.distinct (suc i) m here.0 earlier (omega arith) here.1.1 (subst (IsSegBetween (f m) (f (suc m))) (sym it) last.1.1)) in
              omega arith)
          | inr later ↦ absurd (omega arith)
        ]
      ]
  not_met zero f h i some less same = absurd (omega arith)
  not_met (suc m) f h zero some less same = absurd (omega arith)

  -- where it can go on and has not come back, it goes on
  pub longer : (n : ℕ) (f : ℕ → Coord) → IsTrailBy edges (suc n) f → degree edges (f (suc n)) ≡ 2 → f (suc n) ≢ f 0 → IsOnward edges (f n) (f (suc n)) (f (suc (suc n))) → IsTrailBy edges (suc (suc n)) f
  longer n f h two not_back on = record {
    some = omega arith;
    step = steps_to;
    distinct = apart;
    between = inner;
  }
    where
      steps_to : (k : ℕ) → k < suc (suc n) → (e : Seg) × (Contains edges e × IsSegBetween (f k) (f (suc k)) e)
      steps_to k less = elim (cases_order k (suc n)) [
        | inl last ↦ (on.edge, (on.among, subst (λ i. IsSegBetween (f i) (f (suc i)) on.edge) (sym last) on.between))
        | inr rest ↦ elim rest [ inl earlier ↦ h.step k earlier | inr later ↦ absurd (omega arith) ]
      ]

      inner : (k : ℕ) → 0 < k → k < suc (suc n) → degree edges (f k) ≡ 2
      inner k some less = elim (cases_order k (suc n)) [
        | inl last ↦ subst (λ i. degree edges (f i) ≡ 2) (sym last) two
        | inr rest ↦ elim rest [ inl earlier ↦ h.between k some earlier | inr later ↦ absurd (omega arith) ]
      ]

      -- the last point is no end of an earlier edge
      not_at : (j : ℕ) → j < suc n → f (suc n) ≡ f j → ⊥
      not_at zero less same = not_back same
      not_at (suc j) less same = not_met (suc n) f h (suc j) (omega arith) less same

      new_edge : (j : ℕ) (e : Seg) → j < suc n → IsSegBetween (f j) (f (suc j)) e → IsSegBetween (f (suc n)) (f (suc (suc n))) e → ⊥
      new_edge j e less s t = elim (cases_order j n) [
        | inl last ↦ on.differs (other_end (f (suc n)) (f (suc (suc n))) (f n) e t (seg_turned (f n) (f (suc n)) e (subst (λ i. IsSegBetween (f i) (f (suc i)) e) last s)))
        | inr rest ↦ elim rest [
          | inl earlier ↦ ends s t
          | inr later ↦ absurd (omega arith)
        ]
      ]
        where
          ends : IsSegBetween (f j) (f (suc j)) e → IsSegBetween (f (suc n)) (f (suc (suc n))) e → ⊥
          ends (inl a) (inl b) = not_at j less (sym b.0 ∙ a.0)
          ends (inl a) (inr b) = by_next (sym b.1 ∙ a.1)
            where
              by_next : f (suc n) ≡ f (suc j) → ⊥
              by_next same = elim (cases_order (suc j) (suc n)) [
                | inl it ↦ on.differs (other_end (f (suc n)) (f (suc (suc n))) (f n) e t (seg_turned (f n) (f (suc n)) e (subst (λ i. IsSegBetween (f i) (f (suc i)) e) (let z : j ≡ n = omega arith in z) s)))
                | inr rest ↦ elim rest [ inl earlier ↦ not_at (suc j) earlier same | inr later ↦ absurd (omega arith) ]
              ]
          ends (inr a) (inr b) = not_at j less (sym b.1 ∙ a.1)
          ends (inr a) (inl b) = by_next (sym b.0 ∙ a.0)
            where
              by_next : f (suc n) ≡ f (suc j) → ⊥
              by_next same = elim (cases_order (suc j) (suc n)) [
                | inl it ↦ on.differs (other_end (f (suc n)) (f (suc (suc n))) (f n) e t (seg_turned (f n) (f (suc n)) e (subst (λ i. IsSegBetween (f i) (f (suc i)) e) (let z : j ≡ n = omega arith in z) s)))
                | inr rest ↦ elim rest [ inl earlier ↦ not_at (suc j) earlier same | inr later ↦ absurd (omega arith) ]
              ]

      apart : (j k : ℕ) (e : Seg) → j < k → k < suc (suc n) → IsSegBetween (f j) (f (suc j)) e → IsSegBetween (f k) (f (suc k)) e → ⊥
      apart j k e less within s t = elim (cases_order k (suc n)) [
        | inl last ↦ new_edge j e (omega arith) s (subst (λ i. IsSegBetween (f i) (f (suc i)) e) last t)
        | inr rest ↦ elim rest [ inl earlier ↦ h.distinct j k e less earlier s t | inr later ↦ absurd (omega arith) ]
      ]

-- ---- walks

-- the walk that begins with p and q and goes on: two points of it
abbrev pub walked : List Seg → Coord → Coord → ℕ → Coord × Coord
walked edges p q zero = (p, q)
walked edges p q (suc k) = let before = walked edges p q k in (before.1, onward edges before.0 before.1)

-- the point of the walk
abbrev pub walk_at : List Seg → Coord → Coord → ℕ → Coord
walk_at edges p q k = (walked edges p q k).0

-- where a walk ends: at a point at which other than two edges meet, or back at its first point
pub record IsWalkEnd (edges : List Seg) (n : ℕ) (f : ℕ → Coord) (m : ℕ) : Type 0 where
  pub further : n ≤ m
  pub trail : IsTrailBy edges m f
  pub ends : (degree edges (f m) ≢ 2) ⊎ ((degree edges (f m) ≡ 2) × (f m ≡ f 0))

module _ (edges : List Seg) (distinct : AllPairs (λ e f. ¬ (e ≡ f)) edges) (p q : Coord) where
  abbrev f : ℕ → Coord
  f k = walk_at edges p q k

  ends_by : (fuel n : ℕ) → IsTrailBy edges (suc n) f → length edges < suc n + fuel → (m : ℕ) × IsWalkEnd edges (suc n) f m
  ends_by zero n trail enough = let bound = trail_bound edges (suc n) f trail in absurd (omega arith)
  ends_by (suc fuel) n trail enough = elim (cases_order (degree edges (f (suc n))) 2) [
    | inl two ↦ elim (coord_or (f (suc n)) (f 0)) [
      | inl back ↦ (suc n, record { further = omega arith; trail = trail; ends = inr (two, back) })
      | inr not_back ↦ (
          let last = trail.step n (omega arith) in
          let on = goes_on edges distinct (f n) (f (suc n)) last.0 last.1.1 two in
          let rest = ends_by fuel (suc n) (longer edges n f trail two not_back on) (omega arith) in
          (rest.0, record { further = (let z = rest.1.further in omega arith); trail = rest.1.trail; ends = rest.1.ends }))
    ]
    | inr apart ↦ (suc n, record { further = omega arith; trail = trail; ends = inl (λ two. elim apart [ inl less ↦ omega arith | inr more ↦ omega arith ]) })
  ]

  -- a walk along an edge ends
  pub walk_ends : (e : Seg) → Contains edges e → IsSegBetween p q e → (m : ℕ) × IsWalkEnd edges 1 f m
  walk_ends e has s = ends_by (length edges) 0 (record {
    some = omega arith;
    step = λ k less. (e, (has, (let z : k ≡ 0 = omega arith in subst (λ i. IsSegBetween (f i) (f (suc i)) e) (sym z) s)));
    distinct = λ j k e less within. absurd (omega arith);
    between = λ k some less. absurd (omega arith);
  }) (omega arith)
