-- To read a size no further than one past the range changes nothing that is asked of it.
use Rattle.std.proofs.Common.{◌≡◌, ℕ, zero, suc, ◌+◌, ◌-◌, ◌*◌, ◌≤◌, Bool, true, false, List, [], ◌∷◌, ℤ, pos, negsuc, neg_ℤ, refl, ap, ◌∙◌, sym, arith}
use Rattle.geo_text.specs.Token.{signed, number_from}
use Rattle.geo_text.specs.Number.{capped}

module _ (cap : ℕ) where
  -- a number whose size is read no further
  abbrev pub limit : ℤ → ℤ
  limit (pos n) = pos (capped cap n)
  limit (negsuc n) = neg_ℤ (pos (capped cap (suc n)))

  pub limit-signed : (negative : Bool) (n : ℕ) → limit (signed negative n) ≡ signed negative (capped cap n)
  limit-signed false n = refl
  limit-signed true zero = let none : capped cap 0 ≡ 0 = omega arith in rw none refl
  limit-signed true (suc n) = refl

  pub capped-small : (n : ℕ) → n ≤ cap → capped cap n ≡ n
  capped-small n h = omega arith

  capped_digit : (n d : ℕ) → capped cap (10 * (capped cap) n + d) ≡ capped cap (10 * n + d)
  capped_digit n d = omega arith

  -- further digits behind a size that was read no further
  pub capped-from : (digits : List ℕ) (m n : ℕ) → capped cap m ≡ capped cap n → capped cap (number_from m digits) ≡ capped cap (number_from n digits)
  capped-from [] m n e = e
  capped-from (d ∷ digits) m n e =
      capped-from digits (10 * m + (d - 48)) (10 * n + (d - 48)) (sym (capped_digit m (d - 48)) ∙ ap (λ k. capped cap (10 * k + (d - 48))) e ∙ capped_digit n (d - 48))

  pub capped-capped : (n : ℕ) → capped cap (capped cap n) ≡ capped cap n
  capped-capped n = omega arith
