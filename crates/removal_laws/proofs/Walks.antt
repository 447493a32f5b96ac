-- Sums along walks and round closed rings, with and without one point.
use mathlib.Core.List.{[], ◌∷◌}
use Rattle.std.proofs.Common.{◌≡◌, refl, sym, ◌∙◌, ap, subst, ℕ, zero, suc, ◌+◌, ◌≤◌, Bool, true, false, cond, List, ◌++◌, arith}
use Rattle.std.specs.Prelude.{Contains, filter, ⊤}
use Rattle.std.proofs.lemmas.Bool.{false≢true}
use Rattle.cov_types.specs.declared.coord.Coord.{Coord}

-- the sum of the steps from p along the points
abbrev pub walk_sum : (Coord → Coord → ℕ) → Coord → List Coord → ℕ
walk_sum g p [] = 0
walk_sum g p (q ∷ rest) = g p q + walk_sum g q rest

-- the sum round a closed ring
abbrev pub ring_sum : (Coord → Coord → ℕ) → List Coord → ℕ
ring_sum g [] = 0
ring_sum g (x ∷ xs) = walk_sum g x (xs ++ x ∷ [])

-- each step is so
abbrev pub AllSteps : (Coord → Coord → Type 0) → Coord → List Coord → Type 0
AllSteps ok p [] = ⊤
AllSteps ok p (q ∷ rest) = ok p q × AllSteps ok q rest

abbrev pub AllRound : (Coord → Coord → Type 0) → List Coord → Type 0
AllRound ok [] = ⊤
AllRound ok (x ∷ xs) = AllSteps ok x (xs ++ x ∷ [])

walk_more : (g : Coord → Coord → ℕ) (p q r : Coord) (points : List Coord) → walk_sum g p ((points ++ q ∷ []) ++ r ∷ []) ≡ walk_sum g p (points ++ q ∷ []) + g q r
walk_more g p q r [] = omega arith
walk_more g p q r (x ∷ points) = let rest = walk_more g x q r points in omega arith

steps_more : (ok : Coord → Coord → Type 0) (p q r : Coord) (points : List Coord) → AllSteps ok p (points ++ q ∷ []) → ok q r → AllSteps ok p ((points ++ q ∷ []) ++ r ∷ [])
steps_more ok p q r [] h last = (h.0, (last, tt))
steps_more ok p q r (x ∷ points) h last = (h.0, steps_more ok x q r points h.1 last)

kept_first : (keeps : Coord → Bool) (y : Coord) (rest : List Coord) → keeps y ≡ true → filter keeps (y ∷ rest) ≡ y ∷ filter keeps rest
kept_first keeps y rest h = ap (λ (t : Bool). cond t (y ∷ filter keeps rest) (filter keeps rest)) h

dropped_first : (keeps : Coord → Bool) (y : Coord) (rest : List Coord) → keeps y ≡ false → filter keeps (y ∷ rest) ≡ filter keeps rest
dropped_first keeps y rest h = ap (λ (t : Bool). cond t (y ∷ filter keeps rest) (filter keeps rest)) h

dropped_last : (keeps : Coord → Bool) (b : Coord) (rest : List Coord) → keeps b ≡ false → filter keeps (rest ++ b ∷ []) ≡ filter keeps rest
dropped_last keeps b [] h = dropped_first keeps b [] h
dropped_last keeps b (y ∷ rest) h = ap (λ (l : List Coord). cond (keeps y) (y ∷ l) l) (dropped_last keeps b rest h)

-- with is the sum of a step with b, without that without b; at most one step each counts for one and for other
module _ (b : Coord) (keeps : Coord → Bool) (with without one other : Coord → Coord → ℕ) (ok : Coord → Coord → Type 0)
    (drops : keeps b ≡ false) (kept : (p : Coord) → keeps p ≡ true → ¬ (p ≡ b)) (dropped : (p : Coord) → keeps p ≡ false → p ≡ b)
    (nothing : with b b ≡ 0)
    (same : (p q : Coord) → ¬ (p ≡ b) → ¬ (q ≡ b) → ok p q → with p q ≡ without p q)
    (through : (p q : Coord) → ¬ (p ≡ b) → ¬ (q ≡ b) → ok p b → ok b q → one p b + one b q ≤ 1 → other p b + other b q ≤ 1 → with p b + with b q ≡ without p q) where
  -- away from b at p, and to z
  abbrev Away : List Coord → List Coord → Coord → Type 0
  Away rest left z = (p : Coord) → ¬ (p ≡ b) → AllSteps ok p (rest ++ z ∷ []) → walk_sum one p (rest ++ z ∷ []) ≤ 1 → walk_sum other p (rest ++ z ∷ []) ≤ 1
      → walk_sum with p (rest ++ z ∷ []) ≡ walk_sum without p (left ++ z ∷ [])

  -- at b, where p was the last point away from it, and to z
  abbrev AtPoint : List Coord → List Coord → Coord → Type 0
  AtPoint rest left z = (p : Coord) → ¬ (p ≡ b) → ok p b → AllSteps ok b (rest ++ z ∷ []) → one p b + walk_sum one b (rest ++ z ∷ []) ≤ 1 → other p b + walk_sum other b (rest ++ z ∷ []) ≤ 1
      → with p b + walk_sum with b (rest ++ z ∷ []) ≡ walk_sum without p (left ++ z ∷ [])

  both : (rest : List Coord) (z : Coord) → ¬ (z ≡ b) → Away rest (filter keeps rest) z × AtPoint rest (filter keeps rest) z
  both [] z hz = (
    λ p hp steps n m. ap (λ k. k + 0) (same p z hp hz steps.0),
    λ p hp here steps n m. (let t = through p z hp hz here steps.0 (omega arith) (omega arith) in omega arith),
  )
  both (y ∷ rest) z hz = by (both rest z hz) (keeps y) refl
    where
      at_b : Away rest (filter keeps rest) z × AtPoint rest (filter keeps rest) z → Away (b ∷ rest) (filter keeps rest) z × AtPoint (b ∷ rest) (filter keeps rest) z
      at_b later = (
        λ p hp steps n m. later.1 p hp steps.0 steps.1 n m,
        λ p hp here steps n m. (let t = later.1 p hp here steps.1 (omega arith) (omega arith) in omega arith),
      )

      by : Away rest (filter keeps rest) z × AtPoint rest (filter keeps rest) z → (t : Bool) → keeps y ≡ t → Away (y ∷ rest) (filter keeps (y ∷ rest)) z × AtPoint (y ∷ rest) (filter keeps (y ∷ rest)) z
      by later false e =
          subst (λ l. Away (y ∷ rest) l z × AtPoint (y ∷ rest) l z) (sym (dropped_first keeps y rest e))
          (subst (λ (c : Coord). Away (c ∷ rest) (filter keeps rest) z × AtPoint (c ∷ rest) (filter keeps rest) z) (sym (dropped y e)) (at_b later))
      by later true e =
          let hy = kept y e in
          subst (λ l. Away (y ∷ rest) l z × AtPoint (y ∷ rest) l z) (sym (kept_first keeps y rest e)) (
            λ p hp steps n m. (let t = later.0 y hy steps.1 (omega arith) (omega arith) in let s = same p y hp hy steps.0 in omega arith),
            λ p hp here steps n m. (
                let t = later.0 y hy steps.1 (omega arith) (omega arith) in
                let s = through p y hp hy here steps.0 (omega arith) (omega arith) in
                omega arith),
          )

  -- a ring that begins away from b
  from_other : (x : Coord) (xs : List Coord) → keeps x ≡ true → AllRound ok (x ∷ xs) → ring_sum one (x ∷ xs) ≤ 1 → ring_sum other (x ∷ xs) ≤ 1
      → ring_sum with (x ∷ xs) ≡ ring_sum without (filter keeps (x ∷ xs))
  from_other x xs e steps n m = (both xs x (kept x e)).0 x (kept x e) steps n m ∙ ap (ring_sum without) (sym (kept_first keeps x xs e))

  -- some point of the list stays
  abbrev pub SomeStays : List Coord → Type 0
  SomeStays points = (p : Coord) × (Contains points p × (keeps p ≡ true))

  -- a ring that begins at b
  from_b : (xs : List Coord) → SomeStays xs → AllSteps ok b (xs ++ b ∷ []) → walk_sum one b (xs ++ b ∷ []) ≤ 1 → walk_sum other b (xs ++ b ∷ []) ≤ 1
      → walk_sum with b (xs ++ b ∷ []) ≡ ring_sum without (filter keeps xs)
  from_b [] some steps n m = absurd (let within = some.1.0.1 in omega arith)
  from_b (y ∷ ys) some steps n m = by (from_b ys) (keeps y) refl
    where
      stays_later : (p : Coord) → Contains (y ∷ ys) p → keeps p ≡ true → keeps y ≡ false → Contains ys p
      stays_later p (zero, inside, is) h e = absurd (false≢true (sym e ∙ ap keeps is ∙ h))
      stays_later p (suc k, inside, is) h e = (k, omega arith, is)

      at_b : (SomeStays ys → AllSteps ok b (ys ++ b ∷ []) → walk_sum one b (ys ++ b ∷ []) ≤ 1 → walk_sum other b (ys ++ b ∷ []) ≤ 1 → walk_sum with b (ys ++ b ∷ []) ≡ ring_sum without (filter keeps ys)) → SomeStays ys → AllSteps ok b (ys ++ b ∷ []) → one b b + walk_sum one b (ys ++ b ∷ []) ≤ 1 → other b b + walk_sum other b (ys ++ b ∷ []) ≤ 1
          → with b b + walk_sum with b (ys ++ b ∷ []) ≡ ring_sum without (filter keeps ys)
      at_b later stays s i j = let rest = later stays s (omega arith) (omega arith) in omega arith

      by : (SomeStays ys → AllSteps ok b (ys ++ b ∷ []) → walk_sum one b (ys ++ b ∷ []) ≤ 1 → walk_sum other b (ys ++ b ∷ []) ≤ 1 → walk_sum with b (ys ++ b ∷ []) ≡ ring_sum without (filter keeps ys))
          → (t : Bool) → keeps y ≡ t → walk_sum with b (y ∷ ys ++ b ∷ []) ≡ ring_sum without (filter keeps (y ∷ ys))
      by later false e =
          let stays : SomeStays ys = (some.0, (stays_later some.0 some.1.0 some.1.1 e, some.1.1)) in
          subst
          (λ (c : Coord). AllSteps ok c (ys ++ b ∷ []) → one b c + walk_sum one c (ys ++ b ∷ []) ≤ 1 → other b c + walk_sum other c (ys ++ b ∷ []) ≤ 1 → with b c + walk_sum with c (ys ++ b ∷ []) ≡ ring_sum without (filter keeps ys))
          (sym (dropped y e)) (at_b later stays) steps.1 n m
          ∙ ap (ring_sum without) (sym (dropped_first keeps y ys e))
      by later true e =
          let hy = kept y e in
          let t = (both (ys ++ b ∷ []) y hy).0 y hy (steps_more ok y b y ys steps.1 steps.0) (omega (arith, walk_more one y b y ys)) (omega (arith, walk_more other y b y ys)) in
          let f = dropped_last keeps b ys drops in
          let end = ap (λ l. walk_sum without y (l ++ y ∷ [])) f in
          omega (arith, walk_more with y b y ys) ∙ ap (ring_sum without) (sym (kept_first keeps y ys e))

  -- the sum round a ring of which some point stays
  pub ring_kept : (points : List Coord) → SomeStays points → AllRound ok points → ring_sum one points ≤ 1 → ring_sum other points ≤ 1
      → ring_sum with points ≡ ring_sum without (filter keeps points)
  ring_kept [] some steps n m = refl
  ring_kept (x ∷ xs) some steps n m = by (keeps x) refl
    where
      stays_later : (p : Coord) → Contains (x ∷ xs) p → keeps p ≡ true → keeps x ≡ false → Contains xs p
      stays_later p (zero, inside, is) h e = absurd (false≢true (sym e ∙ ap keeps is ∙ h))
      stays_later p (suc k, inside, is) h e = (k, omega arith, is)

      by : (t : Bool) → keeps x ≡ t → ring_sum with (x ∷ xs) ≡ ring_sum without (filter keeps (x ∷ xs))
      by true e = from_other x xs e steps n m
      by false e =
          let stays : SomeStays xs = (some.0, (stays_later some.0 some.1.0 some.1.1 e, some.1.1)) in
          subst
          (λ (c : Coord). AllSteps ok c (xs ++ c ∷ []) → walk_sum one c (xs ++ c ∷ []) ≤ 1 → walk_sum other c (xs ++ c ∷ []) ≤ 1 → walk_sum with c (xs ++ c ∷ []) ≡ ring_sum without (filter keeps xs))
          (sym (dropped x e)) (from_b xs stays) steps n m
          ∙ ap (ring_sum without) (sym (dropped_first keeps x xs e))
