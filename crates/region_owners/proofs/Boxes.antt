-- Two points of an open box that no edge enters are joined.
use mathlib.Core.List.{[], ◌∷◌}
use Rattle.std.proofs.Common.{◌≡◌, inl, inr, refl, Bool, true, not, ◌&&◌, ◌||◌, List, ℤ, pos, neg_ℤ, ◌*ℤ◌, ◌<ℤ◌, ◌≤ℤ◌, int_lt, arith}
use Rattle.std.specs.List.{list_all}
use Rattle.std.proofs.lemmas.Bool.{and_parts, or_cases, not-true}
use Rattle.std.proofs.lemmas.Int.{ints}
use Rattle.std.proofs.lemmas.List.Elements.{All-from_recursion, All-contains}
use Rattle.std.proofs.lemmas.List.Sums.{AllPass-from_list_all}
use Rattle.cov_types.specs.declared.seg.Seg.{Seg}
use Rattle.integer_laws.proofs.Compare.{int_lt_false}
use Rattle.integer_laws.proofs.Ring.{by_ring, Var, Neg, ◌⊗◌}
use Rattle.plane.specs.Joined.{Joined}
use Rattle.plane.specs.Point.{Point, IsBetween}
use Rattle.plane.specs.Segment.{IsOn}
use Rattle.plane.proofs.Forms.{form}
use Rattle.crossing_laws.proofs.Lists.{contains_here}
use Rattle.crossing_laws.proofs.Separated.{IsOnFarSide, separated}
use Rattle.crossing_laws.proofs.Ways.{joined_by_clear}

-- a box of grid lines
pub record Box : Type 0 where
  pub left : ℤ
  pub right : ℤ
  pub bottom : ℤ
  pub top : ℤ

-- p is strictly inside
pub record IsInBox (b : Box) (p : Point) : Type 0 where
  pub right_of : (b.left *ℤ pos p.d) <ℤ p.x
  pub left_of : p.x <ℤ (b.right *ℤ pos p.d)
  pub above : (b.bottom *ℤ pos p.d) <ℤ p.y
  pub below : p.y <ℤ (b.top *ℤ pos p.d)

-- m is not more than n
abbrev le : ℤ → ℤ → Bool
le m n = not (int_lt n m)

-- the edge is beyond one of the sides of the box, or along it
abbrev pub is_beyond : Box → Seg → Bool
is_beyond b e =
    (le e.lo.x b.left && le e.hi.x b.left) || ((le b.right e.lo.x && le b.right e.hi.x) || ((le e.lo.y b.bottom && le e.hi.y b.bottom) || (le b.top e.lo.y && le b.top e.hi.y)))

le_is : (m n : ℤ) → le m n ≡ true → m ≤ℤ n
le_is m n h = (int_lt_false n m).0 (not-true (int_lt n m) h)

abbrev Misses : Point → Point → Seg → Type 0
Misses p q e = (r : Point) → IsBetween r p q → IsOn e r → ⊥

past_edge : (a b c : ℤ) (e : Seg) (p q : Point) → IsOnFarSide a b c e → form a b c p <ℤ pos 0 → form a b c q <ℤ pos 0 → Misses p q e
past_edge a b c e p q far hp hq = separated a b c (e ∷ []) p q hp hq (All-from_recursion (IsOnFarSide a b c) (e ∷ []) (far, tt)) e (contains_here e [])

neg_times : (a d : ℤ) → neg_ℤ a *ℤ d ≡ neg_ℤ (a *ℤ d)
neg_times a d = by_ring (a ∷ d ∷ []) (Neg (Var 0) ⊗ Var 1) (Neg (Var 0 ⊗ Var 1)) refl

module _ (b : Box) (p q : Point) (hp : IsInBox b p) (hq : IsInBox b q) (e : Seg) where
  past_left : e.lo.x ≤ℤ b.left → e.hi.x ≤ℤ b.left → Misses p q e
  unfolding form
  past_left lo hi = past_edge (neg_ℤ (pos 1)) (pos 0) b.left e p q (record { lo = omega (arith, ints); hi = omega (arith, ints) }) (let a = hp.right_of in omega (arith, ints)) (let a = hq.right_of in omega (arith, ints))

  past_right : b.right ≤ℤ e.lo.x → b.right ≤ℤ e.hi.x → Misses p q e
  unfolding form
  past_right lo hi = past_edge (pos 1) (pos 0) (neg_ℤ b.right) e p q (record { lo = omega (arith, ints); hi = omega (arith, ints) }) (let a = hp.left_of in let n = neg_times b.right (pos p.d) in omega (arith, ints)) (let a = hq.left_of in let n = neg_times b.right (pos q.d) in omega (arith, ints))

  past_bottom : e.lo.y ≤ℤ b.bottom → e.hi.y ≤ℤ b.bottom → Misses p q e
  unfolding form
  past_bottom lo hi = past_edge (pos 0) (neg_ℤ (pos 1)) b.bottom e p q (record { lo = omega (arith, ints); hi = omega (arith, ints) }) (let a = hp.above in omega (arith, ints)) (let a = hq.above in omega (arith, ints))

  past_top : b.top ≤ℤ e.lo.y → b.top ≤ℤ e.hi.y → Misses p q e
  unfolding form
  past_top lo hi = past_edge (pos 0) (pos 1) (neg_ℤ b.top) e p q (record { lo = omega (arith, ints); hi = omega (arith, ints) }) (let a = hp.below in let n = neg_times b.top (pos p.d) in omega (arith, ints)) (let a = hq.below in let n = neg_times b.top (pos q.d) in omega (arith, ints))

  beyond_missed : is_beyond b e ≡ true → Misses p q e
  beyond_missed h = elim (or_cases _ _ h) [
    | inl there ↦ (let both = and_parts _ _ there in past_left (le_is e.lo.x b.left both.0) (le_is e.hi.x b.left both.1))
    | inr more ↦ elim (or_cases _ _ more) [
      | inl there ↦ (let both = and_parts _ _ there in past_right (le_is b.right e.lo.x both.0) (le_is b.right e.hi.x both.1))
      | inr rest ↦ elim (or_cases _ _ rest) [
        | inl there ↦ (let both = and_parts _ _ there in past_bottom (le_is e.lo.y b.bottom both.0) (le_is e.hi.y b.bottom both.1))
        | inr there ↦ (let both = and_parts _ _ there in past_top (le_is b.top e.lo.y both.0) (le_is b.top e.hi.y both.1))
      ]
    ]
  ]

pub box_joined : (edges : List Seg) (b : Box) → list_all (is_beyond b) edges ≡ true → (p q : Point) → IsInBox b p → IsInBox b q → Joined edges p q
box_joined edges b all p q hp hq =
    joined_by_clear edges p q (λ e has. beyond_missed b p q hp hq e (All-contains (λ e. is_beyond b e ≡ true) edges e (AllPass-from_list_all (is_beyond b) edges all) has))
