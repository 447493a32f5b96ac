-- The eight tests at one edge, of which two pairs agree.
use Rattle.std.proofs.Common.{◌≡◌, refl, sym, Bool, true, false, not, ◌&&◌, ◌⊎◌, inl, inr, true≢false}

-- the tests a and b are c and d, in one order or the other
abbrev pub IsSamePair : Bool → Bool → Bool → Bool → Type 0
IsSamePair a b c d = ((a ≡ c) × (b ≡ d)) ⊎ ((a ≡ d) × (b ≡ c))

-- two tests, neither of which is passed alone
pub same_tests : (a b : Bool) → (a ≡ true → b ≡ false → ⊥) → (a ≡ false → b ≡ true → ⊥) → a ≡ b
same_tests true true h k = refl
same_tests true false h k = absurd (h refl refl)
same_tests false true h k = absurd (k refl refl)
same_tests false false h k = refl

-- p_lo says that p is before lo in the sweep, p_hi, q_lo and q_hi likewise; the other four are tests of sides
pub record AreWindows (p_lo p_hi q_lo q_hi at_p at_q at_hi at_lo : Bool) : Type 0 where
  pub p_order : p_lo ≡ true → p_hi ≡ true
  pub q_order : q_lo ≡ true → q_hi ≡ true
  pub lo_order : q_lo ≡ true → p_lo ≡ true
  pub hi_order : q_hi ≡ true → p_hi ≡ true
  pub within : p_lo ≡ false → q_hi ≡ true → p_hi ≡ true → q_lo ≡ false → at_q ≡ at_p
  pub past_hi : p_lo ≡ false → q_hi ≡ false → p_hi ≡ true → q_lo ≡ false → at_hi ≡ at_p
  pub over_lo : p_lo ≡ true → q_hi ≡ true → p_hi ≡ true → q_lo ≡ false → at_q ≡ at_lo
  pub past_both : p_lo ≡ true → q_hi ≡ false → p_hi ≡ true → q_lo ≡ false → at_hi ≡ at_lo

pub windows_pair : (p_lo p_hi q_lo q_hi at_p at_q at_hi at_lo : Bool) → AreWindows p_lo p_hi q_lo q_hi at_p at_q at_hi at_lo
    → IsSamePair (not q_lo && q_hi && at_q) (p_hi && not q_hi && at_hi) (not p_lo && p_hi && at_p) (p_lo && not q_lo && at_lo)
windows_pair false false false false at_p at_q at_hi at_lo w = inl (refl, refl)
windows_pair false true false true at_p at_q at_hi at_lo w = inl (w.within refl refl refl refl, refl)
windows_pair false true false false at_p at_q at_hi at_lo w = inr (refl, w.past_hi refl refl refl refl)
windows_pair true true false true at_p at_q at_hi at_lo w = inr (w.over_lo refl refl refl refl, refl)
windows_pair true true false false at_p at_q at_hi at_lo w = inl (refl, w.past_both refl refl refl refl)
windows_pair true true true true at_p at_q at_hi at_lo w = inl (refl, refl)
windows_pair true false q_lo q_hi at_p at_q at_hi at_lo w = absurd (true≢false (sym (w.p_order refl)))
windows_pair p_lo p_hi true false at_p at_q at_hi at_lo w = absurd (true≢false (sym (w.q_order refl)))
windows_pair false p_hi true q_hi at_p at_q at_hi at_lo w = absurd (true≢false (sym (w.lo_order refl)))
windows_pair p_lo false q_lo true at_p at_q at_hi at_lo w = absurd (true≢false (sym (w.hi_order refl)))
