-- Ways that meet no edge: joined points are an equivalence, and what each clear step keeps, they share.
use mathlib.Core.List.{List, [], ◌∷◌}
use Rattle.std.proofs.Common.{◌≡◌, refl, ◌∙◌, ◌*◌, ◌++◌, Contains, ℤ, pos, ◌+ℤ◌, ◌*ℤ◌, ◌<ℤ◌, arith}
use Rattle.cov_types.specs.declared.seg.Seg.{Seg}
use Rattle.integer_laws.proofs.Ring.{lin, by_one, by_two, Var, Lit, ◌⊕◌, ◌⊗◌}
use Rattle.integer_laws.proofs.Order.{cancel_eq}
use Rattle.plane.specs.Point.{Point, SamePoint, IsBetween}
use Rattle.plane.specs.Joined.{IsOff, IsClear, Leads, Joined}
use Rattle.plane.proofs.Points.{between-sym, between-moved, same_point-sym, first_between, weights_positive}
use Rattle.crossing_laws.proofs.Sides.{Misses}

pub clear-sym : (edges : List Seg) (p q : Point) → IsClear edges p q → IsClear edges q p
clear-sym edges p q h = λ e c r b on. h e c r (between-sym r q p b) on

pub clear_misses : (edges : List Seg) (p q : Point) → IsClear edges p q → (e : Seg) → Contains edges e → Misses e p q
clear_misses edges p q h e c = record { none = h e c }

-- a way on, and then a way on from there
pub leads-append : (edges : List Seg) (p : Point) (way : List Point) (q : Point) (more : List Point) (r : Point)
    → Leads edges p way q → Leads edges q more r → Leads edges p (way ++ q ∷ more) r
leads-append edges p [] q more r h k = (h, k)
leads-append edges p (s ∷ way) q more r h k = (h.0, leads-append edges s way q more r h.1 k)

pub joined-trans : (edges : List Seg) (p q r : Point) → Joined edges p q → Joined edges q r → Joined edges p r
joined-trans edges p q r (way, h) (more, k) = (way ++ q ∷ more, leads-append edges p way q more r h k)

pub joined_by_clear : (edges : List Seg) (p q : Point) → IsClear edges p q → Joined edges p q
joined_by_clear edges p q h = ([], h)

pub joined-sym : (edges : List Seg) (p q : Point) → Joined edges p q → Joined edges q p
joined-sym edges p q ([], h) = joined_by_clear edges q p (clear-sym edges p q h)
joined-sym edges p q (r ∷ way, h) =
    joined-trans edges q r p (joined-sym edges r q (way, h.1)) (joined_by_clear edges r p (clear-sym edges p r h.0))

-- what a clear step keeps is the same at the two ends of a way
pub leads_keep : {X : Type 0} (edges : List Seg) (f : Point → X) → ((p q : Point) → IsClear edges p q → f p ≡ f q)
    → (p : Point) (way : List Point) (q : Point) → Leads edges p way q → f p ≡ f q
leads_keep edges f step p [] q h = step p q h
leads_keep edges f step p (r ∷ way) q h = step p r h.0 ∙ leads_keep edges f step r way q h.1

pub joined_keep : {X : Type 0} (edges : List Seg) (f : Point → X) → ((p q : Point) → IsClear edges p q → f p ≡ f q) → (p q : Point) → Joined edges p q → f p ≡ f q
joined_keep edges f step p q (way, h) = leads_keep edges f step p way q h

-- ---- points off the edges

-- over plain variables: a mean of p alone
mean_of_one : (r d p pd m n : ℤ) → pos 0 <ℤ (m +ℤ n) → r *ℤ ((m *ℤ pd) +ℤ (n *ℤ pd)) ≡ d *ℤ ((m *ℤ p) +ℤ (n *ℤ p)) → r *ℤ pd ≡ p *ℤ d
mean_of_one r d p pd m n w h =
    cancel_eq (m +ℤ n) (r *ℤ pd) (p *ℤ d) w
    (by_one (r ∷ d ∷ p ∷ pd ∷ m ∷ n ∷ []) ((Var 4 ⊕ Var 5) ⊗ (Var 0 ⊗ Var 3)) ((Var 4 ⊕ Var 5) ⊗ (Var 2 ⊗ Var 1))
    (Lit (pos 1)) (Var 0 ⊗ (Var 4 ⊗ Var 3 ⊕ Var 5 ⊗ Var 3)) (Var 1 ⊗ (Var 4 ⊗ Var 2 ⊕ Var 5 ⊗ Var 2)) refl h)

-- only p itself is between p and p
pub between_one : (r p : Point) → IsBetween r p p → SamePoint r p
between_one r p h =
    let w = h.weighted in
    let positive : pos 0 <ℤ (pos h.first +ℤ pos h.second) = omega (arith, lin) in (
      mean_of_one r.x (pos r.d) p.x (pos p.d) (pos h.first) (pos h.second) positive h.x,
      mean_of_one r.y (pos r.d) p.y (pos p.d) (pos h.first) (pos h.second) positive h.y,
    )

pub off_clear : (edges : List Seg) (p : Point) → IsOff edges p → IsClear edges p p
off_clear edges p off = λ e c r b on. off e c (between-moved r p _ _ (between_one r p b) on)

pub joined-refl : (edges : List Seg) (p : Point) → IsOff edges p → Joined edges p p
joined-refl edges p off = joined_by_clear edges p p (off_clear edges p off)

-- both ends of a way are off the edges
pub clear_off : (edges : List Seg) (p q : Point) → IsClear edges p q → IsOff edges p
clear_off edges p q h = λ e c on. h e c p (first_between p q) on

pub joined_off : (edges : List Seg) (p q : Point) → Joined edges p q → IsOff edges p
joined_off edges p q ([], h) = clear_off edges p q h
joined_off edges p q (r ∷ way, h) = clear_off edges p r h.0

-- ---- one point as another fraction

-- over plain variables: a mean of p/pd and q, and of the same p'/pd' and q
mean_moved : (r d p pd q qd p' pd' m n : ℤ) → p *ℤ pd' ≡ p' *ℤ pd
    → r *ℤ ((m *ℤ pd) +ℤ (n *ℤ qd)) ≡ d *ℤ ((m *ℤ p) +ℤ (n *ℤ q))
    → r *ℤ (((m *ℤ pd) *ℤ pd') +ℤ ((n *ℤ pd') *ℤ qd)) ≡ d *ℤ (((m *ℤ pd) *ℤ p') +ℤ ((n *ℤ pd') *ℤ q))
mean_moved r d p pd q qd p' pd' m n same h =
    by_two (r ∷ d ∷ p ∷ pd ∷ q ∷ qd ∷ p' ∷ pd' ∷ m ∷ n ∷ [])
    (Var 0 ⊗ ((Var 8 ⊗ Var 3) ⊗ Var 7 ⊕ (Var 9 ⊗ Var 7) ⊗ Var 5)) (Var 1 ⊗ ((Var 8 ⊗ Var 3) ⊗ Var 6 ⊕ (Var 9 ⊗ Var 7) ⊗ Var 4))
    (Var 7) (Var 0 ⊗ (Var 8 ⊗ Var 3 ⊕ Var 9 ⊗ Var 5)) (Var 1 ⊗ (Var 8 ⊗ Var 2 ⊕ Var 9 ⊗ Var 4))
    (Var 1 ⊗ Var 8) (Var 2 ⊗ Var 7) (Var 6 ⊗ Var 3) refl h same

-- a point between p and q is between p', the same point, and q
pub between-end : (r p p' q : Point) → SamePoint p p' → IsBetween r p q → IsBetween r p' q
between-end r p p' q same h = record {
  first = h.first * p.d;
  second = h.second * p'.d;
  weighted = weights_positive h.first h.second p.d p'.d h.weighted p.positive p'.positive;
  x = mean_moved r.x (pos r.d) p.x (pos p.d) q.x (pos q.d) p'.x (pos p'.d) (pos h.first) (pos h.second) same.0 h.x;
  y = mean_moved r.y (pos r.d) p.y (pos p.d) q.y (pos q.d) p'.y (pos p'.d) (pos h.first) (pos h.second) same.1 h.y;
}

pub clear-same : (edges : List Seg) (p p' q : Point) → SamePoint p p' → IsClear edges p q → IsClear edges p' q
clear-same edges p p' q same h = λ e c r b on. h e c r (between-end r p' p q (same_point-sym p p' same) b) on

-- joined does not depend on the fraction that stands for a point
pub joined-same : (edges : List Seg) (p p' q : Point) → SamePoint p p' → Joined edges p q → Joined edges p' q
joined-same edges p p' q same ([], h) = ([], clear-same edges p p' q same h)
joined-same edges p p' q same (r ∷ way, h) = (r ∷ way, (clear-same edges p p' r same h.0, h.1))

-- ---- fewer edges

leads-fewer : (edges fewer : List Seg) → ((e : Seg) → Contains fewer e → Contains edges e) → (p : Point) (way : List Point) (q : Point) → Leads edges p way q → Leads fewer p way q
leads-fewer edges fewer among p [] q h = λ e c. h e (among e c)
leads-fewer edges fewer among p (r ∷ way) q h = (λ e c. h.0 e (among e c), leads-fewer edges fewer among r way q h.1)

pub joined-fewer : (edges fewer : List Seg) → ((e : Seg) → Contains fewer e → Contains edges e) → (p q : Point) → Joined edges p q → Joined fewer p q
joined-fewer edges fewer among p q (way, h) = (way, leads-fewer edges fewer among p way q h)
