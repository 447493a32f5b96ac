-- Weighted sums in 128 bits, and the sum of two weights.
use Rattle.std.proofs.Common.{◌≡◌, ◌∙◌, sym, subst, ◌^◌, ℤ, ◌+ℤ◌, ◌*ℤ◌, FitsSigned, lit<, lit≤}
use mir.Syntax.{w32, w64, w128}
use Rattle.integer_laws.proofs.Bound.{IsWithin, within_product, within_sum, within_more}
use Rattle.grid_pred.proofs.Small.{read, read_within, times_read, plus_fits, plus_is}

-- a number of 32 bits as it is read in 64
widened_is : (z : ℤ) → IsWithin (2 ^ 28) z → read w32 z ≡ z
widened_is z h = read_within w32 z (2 ^ 28) (lit< tt) h

module _ (m a p : ℤ) (hm : IsWithin (2 ^ 59) m) (ha : IsWithin (2 ^ 28) a) (is : p ≡ read w64 m *ℤ read w64 (read w32 a)) where
  term_is : p ≡ m *ℤ a
  term_is = times_read p m a (within_more (lit≤ tt) hm) (within_more (lit≤ tt) ha) (is ∙ (λ i. read w64 m *ℤ read w64 (widened_is a ha i)))

  term_within : IsWithin (2 ^ 87) p
  term_within = subst (IsWithin (2 ^ 87)) (sym term_is) (within_product hm ha)

module _ (m a n b p q : ℤ) (hm : IsWithin (2 ^ 59) m) (ha : IsWithin (2 ^ 28) a) (hn : IsWithin (2 ^ 59) n) (hb : IsWithin (2 ^ 28) b)
    (is_p : p ≡ read w64 m *ℤ read w64 (read w32 a)) (is_q : q ≡ read w64 n *ℤ read w64 (read w32 b)) where
  pub weighted_fits : FitsSigned w128 (read w128 p +ℤ read w128 q)
  weighted_fits = plus_fits w128 p q (2 ^ 87) (2 ^ 87) (lit< tt) (lit< tt) (term_within m a p hm ha is_p) (term_within n b q hn hb is_q) (lit< tt)

  pub weighted_is : read w128 (read w128 p +ℤ read w128 q) ≡ (m *ℤ a) +ℤ (n *ℤ b)
  weighted_is =
      plus_is w128 p q (2 ^ 87) (2 ^ 87) (lit< tt) (lit< tt) (term_within m a p hm ha is_p) (term_within n b q hn hb is_q) (lit< tt)
      ∙ (λ i. term_is m a p hm ha is_p i +ℤ term_is n b q hn hb is_q i)

-- the sum of two weights, as it is read in 128 bits
pub weights_is : (m n : ℤ) → IsWithin (2 ^ 59) m → IsWithin (2 ^ 59) n → read w128 (read w64 (read w64 m +ℤ read w64 n)) ≡ m +ℤ n
weights_is m n hm hn =
    let sum = plus_is w64 m n (2 ^ 59) (2 ^ 59) (lit< tt) (lit< tt) hm hn (lit< tt) in
    (λ i. read w128 (sum i)) ∙ read_within w128 (m +ℤ n) (2 ^ 60) (lit< tt) (within_sum hm hn)
