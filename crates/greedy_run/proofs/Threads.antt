-- Two paths from node to node with no node between, which have an edge in common, are one path or one in the other direction.
use mathlib.Core.List.{[], ◌∷◌}
use Rattle.std.proofs.Common.{◌≡◌, ◌⊎◌, sym, ◌∙◌, ap, subst, ℕ, zero, suc, ◌+◌, ◌-◌, ◌<◌, ◌≤◌, ◌||◌, Bool, true, false, cond, List, IsTrue, inl, inr, ◌≢◌, arith}
use Rattle.std.specs.Prelude.{Contains, count_by}
use Rattle.std.proofs.lemmas.Bool.{cases_order, cases_lt, or_left, or_right, true≢false}
use Rattle.std.proofs.lemmas.List.Sums.{sum_by-cons}
use Rattle.cov_types.specs.declared.coord.Coord.{Coord}
use Rattle.cov_types.specs.declared.seg.Seg.{Seg}
use Rattle.cov_types.specs.Coord.{is_before, is_same_coord}
use Rattle.cov_types.specs.Seg.{IsSegBetween}
use Rattle.cov_types.proofs.Equal.{same_segs, Decides-same_coords}
use Rattle.cov_types.proofs.Order.{is_before-asymm, is_before-irrefl, cases_coords}
use Rattle.greedy_run.specs.Lines.{degree, IsNode}

-- ---- three different elements that pass are counted

pub some_counted : {X : Type 0} (p : X → Bool) (xs : List X) (x : X) → Contains xs x → p x ≡ true → 1 ≤ count_by p xs
some_counted p [] x (k, inside, is) h = absurd (omega arith)
some_counted p (y ∷ xs) x (zero, inside, is) h =
    let first : cond {A = ℕ} (p y) 1 0 ≡ 1 = ap (λ b. cond {A = ℕ} b 1 0) (ap p is ∙ h) in omega (arith, sum_by-cons (λ z. cond (p z) 1 0) y xs, first)
some_counted p (y ∷ xs) x (suc k, inside, is) h = let rest = some_counted p xs x (k, omega arith, is) h in omega (arith, sum_by-cons (λ z. cond (p z) 1 0) y xs, rest)

-- an element that is not the first is later
later : {X : Type 0} (y : X) (xs : List X) (x : X) → Contains (y ∷ xs) x → x ≢ y → Contains xs x
later y xs x (zero, inside, is) differ = absurd (differ (sym is))
later y xs x (suc k, inside, is) differ = (k, omega arith, is)

two_counted : {X : Type 0} (p : X → Bool) (xs : List X) (x y : X) → Contains xs x → Contains xs y → p x ≡ true → p y ≡ true → x ≢ y → 2 ≤ count_by p xs
two_counted p [] x y (k, inside, is) b hx hy differ = absurd (omega arith)
two_counted p (z ∷ xs) x y (zero, inside, is) b hx hy differ =
    let first : cond {A = ℕ} (p z) 1 0 ≡ 1 = ap (λ b. cond {A = ℕ} b 1 0) (ap p is ∙ hx) in
    let rest = some_counted p xs y (later z xs y b (λ same. differ (sym (same ∙ is)))) hy in
    omega (arith, sum_by-cons (λ w. cond (p w) 1 0) z xs, first, rest)
two_counted p (z ∷ xs) x y (suc k, inside, is) (zero, inside_y, is_y) hx hy differ =
    let first : cond {A = ℕ} (p z) 1 0 ≡ 1 = ap (λ b. cond {A = ℕ} b 1 0) (ap p is_y ∙ hy) in
    let rest = some_counted p xs x (k, omega arith, is) hx in
    omega (arith, sum_by-cons (λ w. cond (p w) 1 0) z xs, first, rest)
two_counted p (z ∷ xs) x y (suc k, inside, is) (suc j, inside_y, is_y) hx hy differ =
    let rest = two_counted p xs x y (k, omega arith, is) (j, omega arith, is_y) hx hy differ in
    omega (arith, sum_by-cons (λ w. cond (p w) 1 0) z xs, rest)

pub three_counted : {X : Type 0} (p : X → Bool) (xs : List X) (x y z : X) → Contains xs x → Contains xs y → Contains xs z → p x ≡ true → p y ≡ true → p z ≡ true
    → x ≢ y → x ≢ z → y ≢ z → 3 ≤ count_by p xs
three_counted p [] x y z (k, inside, is) b c hx hy hz xy xz yz = absurd (omega arith)
three_counted p (w ∷ xs) x y z (zero, inside, is) b c hx hy hz xy xz yz =
    let first : cond {A = ℕ} (p w) 1 0 ≡ 1 = ap (λ b. cond {A = ℕ} b 1 0) (ap p is ∙ hx) in
    let rest = two_counted p xs y z (later w xs y b (λ same. xy (sym (same ∙ is)))) (later w xs z c (λ same. xz (sym (same ∙ is)))) hy hz yz in
    omega (arith, sum_by-cons (λ v. cond (p v) 1 0) w xs, first, rest)
three_counted p (w ∷ xs) x y z (suc k, inside, is) (zero, inside_y, is_y) c hx hy hz xy xz yz =
    let first : cond {A = ℕ} (p w) 1 0 ≡ 1 = ap (λ b. cond {A = ℕ} b 1 0) (ap p is_y ∙ hy) in
    let rest = two_counted p xs x z (k, omega arith, is) (later w xs z c (λ same. yz (sym (same ∙ is_y)))) hx hz xz in
    omega (arith, sum_by-cons (λ v. cond (p v) 1 0) w xs, first, rest)
three_counted p (w ∷ xs) x y z (suc k, inside, is) (suc j, inside_y, is_y) (zero, inside_z, is_z) hx hy hz xy xz yz =
    let first : cond {A = ℕ} (p w) 1 0 ≡ 1 = ap (λ b. cond {A = ℕ} b 1 0) (ap p is_z ∙ hz) in
    let rest = two_counted p xs x y (k, omega arith, is) (j, omega arith, is_y) hx hy xy in
    omega (arith, sum_by-cons (λ v. cond (p v) 1 0) w xs, first, rest)
three_counted p (w ∷ xs) x y z (suc k, inside, is) (suc j, inside_y, is_y) (suc i, inside_z, is_z) hx hy hz xy xz yz =
    let rest = three_counted p xs x y z (k, omega arith, is) (j, omega arith, is_y) (i, omega arith, is_z) hx hy hz xy xz yz in
    omega (arith, sum_by-cons (λ v. cond (p v) 1 0) w xs, rest)

-- ---- segments between points

pub seg_turned : (a b : Coord) (e : Seg) → IsSegBetween a b e → IsSegBetween b a e
seg_turned a b e (inl h) = inr h
seg_turned a b e (inr h) = inl h

not_both_ways : (e f : Seg) → e.lo ≡ f.hi → e.hi ≡ f.lo → ⊥
not_both_ways e f p q = true≢false (sym (subst (λ a. is_before a f.hi ≡ true) (sym q) f.ordered) ∙ subst (λ b. is_before e.hi b ≡ false) p (is_before-asymm e.lo e.hi e.ordered))

pub one_seg : (a b : Coord) (e f : Seg) → IsSegBetween a b e → IsSegBetween a b f → e ≡ f
one_seg a b e f (inl h) (inl k) = same_segs e f (h.0 ∙ sym k.0) (h.1 ∙ sym k.1)
one_seg a b e f (inr h) (inr k) = same_segs e f (h.0 ∙ sym k.0) (h.1 ∙ sym k.1)
one_seg a b e f (inl h) (inr k) = absurd (not_both_ways e f (h.0 ∙ sym k.1) (h.1 ∙ sym k.0))
one_seg a b e f (inr h) (inl k) = absurd (not_both_ways e f (h.0 ∙ sym k.1) (h.1 ∙ sym k.0))

-- a segment has two ends
seg_no_loop : (e : Seg) → e.lo ≡ e.hi → ⊥
seg_no_loop e same = not_both_ways e e same (sym same)

pub no_loop : (q : Coord) (e : Seg) → IsSegBetween q q e → ⊥
no_loop q e (inl h) = seg_no_loop e (h.0 ∙ sym h.1)
no_loop q e (inr h) = seg_no_loop e (h.0 ∙ sym h.1)

-- a segment from q has one other end
pub other_end : (q c d : Coord) (e : Seg) → IsSegBetween q c e → IsSegBetween q d e → c ≡ d
other_end q c d e (inl h) (inl k) = sym h.1 ∙ k.1
other_end q c d e (inr h) (inr k) = sym h.0 ∙ k.0
other_end q c d e (inl h) (inr k) = absurd (seg_no_loop e (h.0 ∙ sym k.1))
other_end q c d e (inr h) (inl k) = absurd (seg_no_loop e (k.0 ∙ sym h.1))

pub ends_at : (q c : Coord) (e : Seg) → IsSegBetween q c e → (is_same_coord e.lo q || is_same_coord e.hi q) ≡ true
ends_at q c e (inl h) = or_left _ _ ((Decides-same_coords e.lo q).1 h.0)
ends_at q c e (inr h) = or_right _ _ ((Decides-same_coords e.hi q).1 h.1)

-- ---- paths by places

-- the points f 0 to f n lead along distinct edges from node to node with no node between
pub record IsThread (edges : List Seg) (n : ℕ) (f : ℕ → Coord) : Type 0 where
  pub some : 1 ≤ n
  pub step : (k : ℕ) → k < n → (e : Seg) × (Contains edges e × IsSegBetween (f k) (f (suc k)) e)
  pub distinct : (j k : ℕ) (e : Seg) → j < k → k < n → IsSegBetween (f j) (f (suc j)) e → IsSegBetween (f k) (f (suc k)) e → ⊥
  pub from : IsNode edges (f 0)
  pub to : IsNode edges (f n)
  pub between : (k : ℕ) → 0 < k → k < n → ¬ IsNode edges (f k)

module _ (edges : List Seg) where
  turned_step : (n : ℕ) (f : ℕ → Coord) → IsThread edges n f → (k : ℕ) → k < n → (e : Seg) × (Contains edges e × IsSegBetween (f (n - k)) (f (n - suc k)) e)
  turned_step n f h k less =
      let s = h.step (n - suc k) (omega arith) in
      let next : suc (n - suc k) ≡ n - k = omega arith in
      (s.0, (s.1.0, seg_turned (f (n - suc k)) (f (n - k)) s.0 (subst (λ i. IsSegBetween (f (n - suc k)) (f i) s.0) next s.1.1)))

  turned_back : (n : ℕ) (f : ℕ → Coord) (k : ℕ) (e : Seg) → k < n → IsSegBetween (f (n - k)) (f (n - suc k)) e → IsSegBetween (f (n - suc k)) (f (suc (n - suc k))) e
  turned_back n f k e less s =
      let next : n - k ≡ suc (n - suc k) = omega arith in
      subst (λ i. IsSegBetween (f (n - suc k)) (f i) e) next (seg_turned (f (n - k)) (f (n - suc k)) e s)

  pub turned_thread : (n : ℕ) (f : ℕ → Coord) → IsThread edges n f → IsThread edges n (λ k. f (n - k))
  turned_thread n f h = record {
    some = h.some;
    step = turned_step n f h;
    distinct = λ j k e less within s t. h.distinct (n - suc k) (n - suc j) e (omega arith) (omega arith) (turned_back n f k e within t) (turned_back n f j e (omega arith) s);
    from = subst (λ i. IsNode edges (f i)) (let same : n ≡ n - 0 = omega arith in same) h.to;
    to = subst (λ i. IsNode edges (f i)) (let same : 0 ≡ n - n = omega arith in same) h.from;
    between = λ k some less. h.between (n - k) (omega arith) (omega arith);
  }

  -- a vertex that is no node has two edges
  pub two_edges : (q : Coord) (e : Seg) (c : Coord) → ¬ IsNode edges q → Contains edges e → IsSegBetween q c e → degree edges q ≡ 2
  two_edges q e c no_node has s =
      let vertex = some_counted (λ e. is_same_coord e.lo q || is_same_coord e.hi q) edges e has (ends_at q c e s) in
      elim (cases_order (degree edges q) 2) [
        | inl two ↦ two
        | inr apart ↦ absurd (no_node (record { vertex = vertex; node = inl (λ two. elim apart [ inl less ↦ omega arith | inr more ↦ omega arith ]) }))
      ]

  -- at such a vertex a path goes on in one way
  no_other_way : (p q c d : Coord) (e f g : Seg) → ¬ IsNode edges q → Contains edges e → Contains edges f → Contains edges g → IsSegBetween p q e → IsSegBetween q c f → IsSegBetween q d g
      → e ≢ f → e ≢ g → c ≢ d → ⊥
  no_other_way p q c d e f g no_node has_e has_f has_g s t u ef eg differ =
      let two = two_edges q f c no_node has_f t in
      let apart : f ≢ g = λ same. differ (other_end q c d g (subst (λ h. IsSegBetween q c h) same t) u) in
      let three = three_counted (λ e. is_same_coord e.lo q || is_same_coord e.hi q) edges e f g has_e has_f has_g (ends_at q p e (seg_turned p q e s)) (ends_at q c f t) (ends_at q d g u) ef eg apart in
      omega arith

  one_way : (p q c d : Coord) (e f g : Seg) → ¬ IsNode edges q → Contains edges e → Contains edges f → Contains edges g → IsSegBetween p q e → IsSegBetween q c f → IsSegBetween q d g
      → e ≢ f → e ≢ g → c ≡ d
  one_way p q c d e f g no_node has_e has_f has_g s t u ef eg =
      elim (cases_coords c d) [
        | inl before ↦ absurd (no_other_way p q c d e f g no_node has_e has_f has_g s t u ef eg (λ same. true≢false (sym (subst (λ x. IsTrue (is_before c x)) (sym same) before) ∙ is_before-irrefl c)))
        | inr rest ↦ elim rest [
          | inl same ↦ same
          | inr after ↦ absurd (no_other_way p q c d e f g no_node has_e has_f has_g s t u ef eg (λ same. true≢false (sym (subst (λ x. IsTrue (is_before d x)) same after) ∙ is_before-irrefl d)))
        ]
      ]

  -- two paths that go along one edge in one direction go on together
  record GoOn (m : ℕ) (f g : ℕ → Coord) (i j k : ℕ) : Type 0 where
    within : j + suc k ≤ m
    here : f (i + k) ≡ g (j + k)
    next : f (i + suc k) ≡ g (j + suc k)

  module _ (n m : ℕ) (f g : ℕ → Coord) (h : IsThread edges n f) (t : IsThread edges m g) (i j : ℕ) where
    one_more : (k : ℕ) → GoOn m f g i j k → i + suc (suc k) ≤ n → GoOn m f g i j (suc k)
    one_more k b less = by (cases_order (j + suc k) m)
      where
        inner : ¬ IsNode edges (f (i + suc k))
        inner = h.between (i + suc k) (omega arith) (omega arith)

        f_next : suc (i + k) ≡ i + suc k
        f_next = omega arith

        g_next : suc (j + k) ≡ j + suc k
        g_next = omega arith

        goes : j + suc k < m → GoOn m f g i j (suc k)
        goes more =
            let first = h.step (i + k) (omega arith) in
            let second = h.step (i + suc k) (omega arith) in
            let other = t.step (j + suc k) more in
            let e = first.0 in
            let from_f : IsSegBetween (f (i + k)) (f (i + suc k)) e = subst (λ n. IsSegBetween (f (i + k)) (f n) e) f_next first.1.1 in
            let from_g : IsSegBetween (g (j + k)) (g (suc (j + k))) e = subst (λ n. IsSegBetween (g (j + k)) (g n) e) (sym g_next) (subst (λ p. IsSegBetween p (g (j + suc k)) e) b.here (subst (λ q. IsSegBetween (f (i + k)) q e) b.next from_f)) in
            let there : IsSegBetween (f (i + suc k)) (g (suc (j + suc k))) other.0 = subst (λ q. IsSegBetween q (g (suc (j + suc k))) other.0) (sym b.next) other.1.1 in
            let ef : e ≢ second.0 = λ same. h.distinct (i + k) (i + suc k) e (omega arith) (omega arith) first.1.1 (subst (λ s. IsSegBetween (f (i + suc k)) (f (suc (i + suc k))) s) (sym same) second.1.1) in
            let eg : e ≢ other.0 = λ same. t.distinct (j + k) (j + suc k) e (omega arith) more from_g (subst (λ s. IsSegBetween (g (j + suc k)) (g (suc (j + suc k))) s) (sym same) other.1.1) in
            let on = one_way (f (i + k)) (f (i + suc k)) (f (suc (i + suc k))) (g (suc (j + suc k))) e second.0 other.0 inner first.1.0 second.1.0 other.1.0 from_f second.1.1 there ef eg in
            let f_last : i + suc (suc k) ≡ suc (i + suc k) = omega arith in
            let g_last : suc (j + suc k) ≡ j + suc (suc k) = omega arith in
            record { within = omega arith; here = b.next; next = ap f f_last ∙ on ∙ ap g g_last }

        by : (j + suc k ≡ m) ⊎ ((j + suc k < m) ⊎ (m < j + suc k)) → GoOn m f g i j (suc k)
        by (inl end) = absurd (inner (subst (IsNode edges) (sym (b.next ∙ ap g end)) t.to))
        by (inr (inl more)) = goes more
        by (inr (inr past)) = let inside = b.within in absurd (omega arith)

    go_on : i < n → j < m → f i ≡ g j → f (suc i) ≡ g (suc j) → (k : ℕ) → i + suc k ≤ n → GoOn m f g i j k
    go_on within inside here next zero less = record {
      within = omega arith;
      here = (let z : i + 0 ≡ i = omega arith in ap f z) ∙ here ∙ (let z : j ≡ j + 0 = omega arith in ap g z);
      next = (let z : i + 1 ≡ suc i = omega arith in ap f z) ∙ next ∙ (let z : suc j ≡ j + 1 = omega arith in ap g z);
    }
    go_on within inside here next (suc k) less = one_more k (go_on within inside here next k (omega arith)) less

  -- so they end together
  module _ (n m : ℕ) (f g : ℕ → Coord) (h : IsThread edges n f) (t : IsThread edges m g) (i j : ℕ) (within : i < n) (inside : j < m) (here : f i ≡ g j) (next : f (suc i) ≡ g (suc j)) where
    same_end : n + j ≡ m + i
    same_end =
        let a = (go_on n m f g h t i j within inside here next (n - suc i) (omega arith)).within in
        let b = (go_on m n g f t h j i inside within (sym here) (sym next) (m - suc j) (omega arith)).within in
        omega arith

  -- and begin together
  pub record AreOne (n m : ℕ) (f g : ℕ → Coord) : Type 0 where
    pub same_length : n ≡ m
    pub same_points : (k : ℕ) → k ≤ n → f k ≡ g k

  pub are_one : (n m : ℕ) (f g : ℕ → Coord) → IsThread edges n f → IsThread edges m g → (i j : ℕ) → i < n → j < m → f i ≡ g j → f (suc i) ≡ g (suc j) → AreOne n m f g
  are_one n m f g h t i j within inside here next = record { same_length = omega (arith, ends, begins); same_points = all }
    where
      ends : n + j ≡ m + i
      ends = same_end n m f g h t i j within inside here next

      back_here : f (n - (n - suc i)) ≡ g (m - (m - suc j))
      back_here = (let z : n - (n - suc i) ≡ suc i = omega arith in ap f z) ∙ next ∙ (let z : suc j ≡ m - (m - suc j) = omega arith in ap g z)

      back_next : f (n - suc (n - suc i)) ≡ g (m - suc (m - suc j))
      back_next = (let z : n - suc (n - suc i) ≡ i = omega arith in ap f z) ∙ here ∙ (let z : j ≡ m - suc (m - suc j) = omega arith in ap g z)

      back_step : (k : ℕ) → (n - suc i) + suc k ≤ n → GoOn m (λ k. f (n - k)) (λ k. g (m - k)) (n - suc i) (m - suc j) k
      back_step = go_on n m (λ k. f (n - k)) (λ k. g (m - k)) (turned_thread n f h) (turned_thread m g t) (n - suc i) (m - suc j) (omega arith) (omega arith) back_here back_next

      begins : n + (m - suc j) ≡ m + (n - suc i)
      begins = same_end n m (λ k. f (n - k)) (λ k. g (m - k)) (turned_thread n f h) (turned_thread m g t) (n - suc i) (m - suc j) (omega arith) (omega arith) back_here back_next

      same_place : i ≡ j
      same_place = omega (arith, ends, begins)

      long : n ≡ m
      long = omega (arith, ends, begins)

      all : (k : ℕ) → k ≤ n → f k ≡ g k
      all k less = elim (cases_lt i k) [
        | inl after ↦ (
            let on = (go_on n m f g h t i j within inside here next (k - suc i) (omega arith)).next in
            let a : k ≡ i + suc (k - suc i) = omega arith in
            let b : j + suc (k - suc i) ≡ k = omega (arith, same_place) in
            ap f a ∙ on ∙ ap g b)
        | inr before ↦ (
            let on = (back_step (i - k) (omega arith)).next in
            let a : k ≡ n - ((n - suc i) + suc (i - k)) = omega arith in
            let b : m - ((m - suc j) + suc (i - k)) ≡ k = omega (arith, same_place) in
            ap f a ∙ on ∙ ap g b)
      ]
