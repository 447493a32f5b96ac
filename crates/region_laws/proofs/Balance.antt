-- What the lower sides of edges weigh more than the upper ones is balanced, for a test on sides that the next half-edge keeps.
use mathlib.Core.List.{List, [], ◌∷◌}
use Rattle.std.proofs.Common.{◌≡◌, refl, sym, ◌∙◌, ap, subst, ℕ, zero, suc, ◌+◌, ◌≤◌, Bool, true, false, not, ◌&&◌, cond, true≢false, sum_by, Contains, pos, ◌+ℤ◌, ◌-ℤ◌, ◌⊎◌, inl, inr, arith}
use Rattle.std.proofs.lemmas.List.Sums.{sum_by-cons}
use Rattle.cov_types.specs.declared.coord.Coord.{Coord}
use Rattle.cov_types.specs.declared.seg.Seg.{Seg}
use Rattle.integer_laws.proofs.Ring.{lin}
use Rattle.crossing_laws.specs.Crossing.{int_sum_by, IsBalanced}
use Rattle.crossing_laws.proofs.Lists.{contains_here, contains_there}
use Rattle.sector_laws.specs.Sector.{HalfEdge, origin, target, half_edges, IsNext, AreDistinct, IsPlanar}
use Rattle.sector_laws.proofs.Next.{next_of_one}
use Rattle.sector_laws.proofs.Exists.{some_next}
use Rattle.region_laws.specs.Weights.{weigh_sides}

-- ---- lists without an element

pub first_or_later : {X : Type 0} (x : X) (xs : List X) (y : X) → Contains (x ∷ xs) y → (x ≡ y) ⊎ Contains xs y
first_or_later x xs y (zero, below, is) = inl is
first_or_later x xs y (suc i, below, is) = inr (i, omega arith, is)

-- without y: the sum is less by g y, and each other element is there
record IsWithout {X : Type 0} (g : X → ℕ) (y : X) (ys less : List X) : Type 0 where
  sum : sum_by g ys ≡ g y + sum_by g less
  others : (z : X) → Contains ys z → (y ≡ z) ⊎ Contains less z

without : {X : Type 0} (g : X → ℕ) (y : X) (ys : List X) → Contains ys y → (less : List X) × IsWithout g y ys less
without g y [] (k, below, is) = absurd (omega arith)
without {X} g y (x ∷ xs) c =
    elim (first_or_later x xs y c) [
      | inl here ↦ (
        xs,
        record {
          sum = sum_by-cons g x xs ∙ ap (λ z. g z + sum_by g xs) here;
          others = λ z i. elim (first_or_later x xs z i) [ inl first ↦ inl (sym here ∙ first) | inr later ↦ inr later ];
        },
      )
      | inr there ↦ (
          let (less, rest) = without g y xs there in (
            x ∷ less,
            record {
              sum = omega (arith, sum_by-cons g x xs, sum_by-cons g x less, rest.sum);
              others = λ z i. elim (first_or_later x xs z i) [
                | inl first ↦ inr (subst (λ t. Contains (x ∷ less) t) first (contains_here x less))
                | inr later ↦ elim (rest.others z later) [ inl same ↦ inl same | inr still ↦ inr (contains_there x z less still) ]
              ];
            },
          )
          )
    ]

-- ---- a sum over distinct elements, each of which goes to one of its own

abbrev IsDistinct : {X : Type 0} → List X → Type 0
IsDistinct [] = Unit {0}
IsDistinct (x ∷ xs) = (Contains xs x → ⊥) × IsDistinct xs

one_to_one_sum : {X Y : Type 0} (R : X → Y → Type 0) (f : X → ℕ) (g : Y → ℕ) → ((x y : X) (z : Y) → R x z → R y z → x ≡ y) → ((x : X) (z : Y) → R x z → f x ≡ g z)
    → (xs : List X) (ys : List Y) → IsDistinct xs → ((x : X) → Contains xs x → (y : Y) × (Contains ys y × R x y)) → sum_by f xs ≤ sum_by g ys
one_to_one_sum R f g one same [] ys distinct goes = omega arith
one_to_one_sum {X} {Y} R f g one same (x ∷ xs) ys distinct goes =
    let (y, (c, r)) = goes x (contains_here x xs) in
    let (less, w) = without g y ys c in
    let rest = one_to_one_sum R f g one same xs less distinct.1
    (λ z i. (
    let (u, (d, s)) = goes z (contains_there x z xs i) in
    elim (w.others u d) as (λ _. (v : Y) × (Contains less v × R z v)) [
      | inl taken ↦ absurd (distinct.0 (subst (λ t. Contains xs t) (one z x u s (subst (λ t. R x t) taken r)) i))
      | inr left ↦ (u, (left, s))
    ]
    )) in
    omega (arith, sum_by-cons f x xs, w.sum, same x y r)

-- ---- half-edges

pub half_edges_contain : (edges : List Seg) (h : HalfEdge) → Contains edges h.edge → Contains (half_edges edges) h
half_edges_contain [] h (k, below, is) = absurd (omega arith)
half_edges_contain (e ∷ es) h c =
    elim (first_or_later e es h.edge c) [
      | inl here ↦ subst (λ f. Contains (half_edges (e ∷ es)) (record { edge = f; forwards = h.forwards })) here (by_direction h.forwards)
      | inr there ↦
          contains_there (record { edge = e; forwards = true }) h (record { edge = e; forwards = false } ∷ half_edges es)
          (contains_there (record { edge = e; forwards = false }) h (half_edges es) (half_edges_contain es h there))
    ]
  where
    by_direction : (b : Bool) → Contains (half_edges (e ∷ es)) (record { edge = e; forwards = b })
    by_direction true = contains_here (record { edge = e; forwards = true }) (record { edge = e; forwards = false } ∷ half_edges es)
    by_direction false =
        contains_there (record { edge = e; forwards = true }) (record { edge = e; forwards = false }) (record { edge = e; forwards = false } ∷ half_edges es)
        (contains_here (record { edge = e; forwards = false }) (half_edges es))

pub half_edge_edge : (edges : List Seg) (h : HalfEdge) → Contains (half_edges edges) h → Contains edges h.edge
half_edge_edge [] h (k, below, is) = absurd (omega arith)
half_edge_edge (e ∷ es) h c =
    elim (first_or_later (record { edge = e; forwards = true }) (record { edge = e; forwards = false } ∷ half_edges es) h c) [
      | inl one ↦ subst (λ g. Contains (e ∷ es) g.edge) one (contains_here e es)
      | inr rest ↦ elim (first_or_later (record { edge = e; forwards = false }) (half_edges es) h rest) [
        | inl other ↦ subst (λ g. Contains (e ∷ es) g.edge) other (contains_here e es)
        | inr later ↦ contains_there e h.edge es (half_edge_edge es h later)
      ]
    ]

pub distinct_first : (e : Seg) (es : List Seg) → AreDistinct (e ∷ es) → Contains es e → ⊥
distinct_first e es h (k, below, is) = h zero (suc k) e (omega arith) (omega arith) (sym is)

pub distinct_rest : (e : Seg) (es : List Seg) → AreDistinct (e ∷ es) → AreDistinct es
distinct_rest e es h = λ i j d below within. h (suc i) (suc j) d (omega arith) (omega arith)

distinct_half_edges : (edges : List Seg) → AreDistinct edges → IsDistinct (half_edges edges)
distinct_half_edges [] h = tt
distinct_half_edges (e ∷ es) h = (
  λ c. elim (first_or_later (record { edge = e; forwards = false }) (half_edges es) (record { edge = e; forwards = true }) c) [
    | inl same ↦ true≢false (sym (ap (λ (g : HalfEdge). g.forwards) same))
    | inr later ↦ distinct_first e es h (half_edge_edge es (record { edge = e; forwards = true }) later)
  ],
  (λ c. distinct_first e es h (half_edge_edge es (record { edge = e; forwards = false }) c), distinct_half_edges es (distinct_rest e es h)),
)

-- ---- the sum over where half-edges end is that over where they begin

abbrev ends_in : (Coord → Bool) → (HalfEdge → Bool) → HalfEdge → ℕ
ends_in inside passes h = cond (inside (target h) && passes h) 1 0

abbrev begins_in : (Coord → Bool) → (HalfEdge → Bool) → HalfEdge → ℕ
begins_in inside passes h = cond (inside (origin h) && passes h) 1 0

at_most : (edges : List Seg) → IsPlanar edges → AreDistinct edges → (passes : HalfEdge → Bool) → ((h g : HalfEdge) → IsNext edges h g → passes h ≡ passes g) → (inside : Coord → Bool)
    → sum_by (ends_in inside passes) (half_edges edges) ≤ sum_by (begins_in inside passes) (half_edges edges)
at_most edges planar distinct passes keeps inside =
    one_to_one_sum (IsNext edges) (ends_in inside passes) (begins_in inside passes) (λ h k g first second. next_of_one edges planar h k g first second)
    (λ h g next. (λ i. cond (inside (sym next.leaves.from i) && keeps h g next i) 1 0)) (half_edges edges) (half_edges edges) (distinct_half_edges edges distinct)
    (λ h c. (let (g, next) = some_next edges planar h (half_edge_edge edges h c) in (g, (half_edges_contain edges g next.leaves.among, next))))

split : (a f : Bool) → cond (a && f) 1 0 + cond (not a && f) 1 0 ≡ cond f 1 0
split true true = refl
split true false = refl
split false true = refl
split false false = refl

splits : {X : Type 0} (a f : X → Bool) (xs : List X) → sum_by (λ x. cond (a x && f x) 1 0) xs + sum_by (λ x. cond (not (a x) && f x) 1 0) xs ≡ sum_by (λ x. cond (f x) 1 0) xs
splits a f [] = refl
splits a f (x ∷ xs) =
    omega (arith, splits a f xs, split (a x) (f x), sum_by-cons (λ y. cond (a y && f y) 1 0) x xs, sum_by-cons (λ y. cond (not (a y) && f y) 1 0) x xs, sum_by-cons (λ y. cond (f y) 1 0) x xs)

as_many : (edges : List Seg) → IsPlanar edges → AreDistinct edges → (passes : HalfEdge → Bool) → ((h g : HalfEdge) → IsNext edges h g → passes h ≡ passes g) → (inside : Coord → Bool)
    → sum_by (ends_in inside passes) (half_edges edges) ≡ sum_by (begins_in inside passes) (half_edges edges)
as_many edges planar distinct passes keeps inside =
    let all = half_edges edges in
    let inner = at_most edges planar distinct passes keeps inside in
    let outer = at_most edges planar distinct passes keeps (λ c. not (inside c)) in
    let ends = splits (λ h. inside (target h)) passes all in
    let begins = splits (λ h. inside (origin h)) passes all in
    omega arith

-- ---- the weights

-- one edge: a and b are whether lo and hi are inside, f and g whether the upper and the lower side pass
one_edge : (a b f g : Bool) → cond a (pos (cond g 1 0) -ℤ pos (cond f 1 0)) (pos 0) +ℤ pos (cond (a && f) 1 0 + cond (b && g) 1 0)
    ≡ cond b (pos (cond g 1 0) -ℤ pos (cond f 1 0)) (pos 0) +ℤ pos (cond (b && f) 1 0 + cond (a && g) 1 0)
one_edge true true true true = refl
one_edge true true true false = refl
one_edge true true false true = refl
one_edge true true false false = refl
one_edge true false true true = refl
one_edge true false true false = refl
one_edge true false false true = refl
one_edge true false false false = refl
one_edge false true true true = refl
one_edge false true true false = refl
one_edge false true false true = refl
one_edge false true false false = refl
one_edge false false true true = refl
one_edge false false true false = refl
one_edge false false false true = refl
one_edge false false false false = refl

all_edges : (passes : HalfEdge → Bool) (inside : Coord → Bool) (edges : List Seg)
    → int_sum_by (λ w. cond (inside w.edge.lo) w.weight (pos 0)) (weigh_sides passes edges) +ℤ pos (sum_by (begins_in inside passes) (half_edges edges))
    ≡ int_sum_by (λ w. cond (inside w.edge.hi) w.weight (pos 0)) (weigh_sides passes edges) +ℤ pos (sum_by (ends_in inside passes) (half_edges edges))
all_edges passes inside [] = refl
all_edges passes inside (e ∷ es) =
    let forth : HalfEdge = record { edge = e; forwards = true } in
    let back : HalfEdge = record { edge = e; forwards = false } in
    let begins = begins_in inside passes in
    let ends = ends_in inside passes in
    let first = one_edge (inside e.lo) (inside e.hi) (passes forth) (passes back) in
    let rest = all_edges passes inside es in
    let begins_sum : sum_by begins (half_edges (e ∷ es)) ≡ begins forth + (begins back + sum_by begins (half_edges es)) =
    sum_by-cons begins forth (back ∷ half_edges es) ∙ ap (λ n. begins forth + n) (sum_by-cons begins back (half_edges es)) in
    let ends_sum : sum_by ends (half_edges (e ∷ es)) ≡ ends forth + (ends back + sum_by ends (half_edges es)) =
    sum_by-cons ends forth (back ∷ half_edges es) ∙ ap (λ n. ends forth + n) (sum_by-cons ends back (half_edges es)) in
    omega (arith, lin)

pub balanced_sides : (edges : List Seg) → IsPlanar edges → AreDistinct edges → (passes : HalfEdge → Bool) → ((h g : HalfEdge) → IsNext edges h g → passes h ≡ passes g)
    → IsBalanced (weigh_sides passes edges)
balanced_sides edges planar distinct passes keeps inside =
    let all = all_edges passes inside edges in
    let even = as_many edges planar distinct passes keeps inside in
    omega (arith, lin)
