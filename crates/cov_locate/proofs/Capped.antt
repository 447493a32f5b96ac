-- Numbers that are read with a capped size.
use Rattle.std.proofs.Common.{◌≡◌, refl, sym, ◌∙◌, subst, ℕ, ◌==◌, Bool, true, false, cond, List, ℤ, pos, neg_ℤ, ◌≤ℤ◌, ◌≤◌, ◌^◌, to_z, of_z, w32, arith}
use Rattle.std.specs.Prelude.{Option, Some, None, slice_index}
use Prim.Native.Nat.{min}
use Rattle.std.proofs.lemmas.Int.{to_z-of_z}
use Rattle.std.proofs.lemmas.Option.{same_Some}
use Rattle.cov_locate.specs.Points.{is_number, number_of, digits_of}
use Rattle.cov_locate.specs.Reading.{capped_number, capped_size}
use Rattle.cov_locate.specs.declared.line.TheConstants.{CAP}
use Rattle.geo_text.specs.Token.{number_from, signed}
use Rattle.integer_laws.proofs.Cast.{fits_i32_is}
use Rattle.integer_laws.proofs.Ring.{lin}

-- the word writes a number, and v is it with its size capped
pub record IsCappedNumber (word : List ℕ) (v : ℤ) : Type 0 where
  pub negative : Bool
  pub size : ℕ
  pub is : number_of word ≡ Some (signed negative size)
  pub capped : v ≡ signed negative (min CAP size)

number_at : (t : Bool) (n : ℤ) (m : ℤ) (v : ℤ) → cond t (Some m) None ≡ Some v → (cond t (Some n) None ≡ Some n) × (v ≡ m)
number_at true n m v h = (refl, sym (same_Some m v h))
number_at false n m v h = absurd (none_some v h)
  where
    none_some : (z : ℤ) → None ≡ Some z → ⊥
    none_some z e = let P : Option ℤ → Type 0 = λ o. elim o [ None ↦ Unit {0} | Some w ↦ ⊥ ] in subst P e tt

pub number_is : (word : List ℕ) (v : ℤ) → capped_number word ≡ Some v → IsCappedNumber word v
number_is word v h =
    let negative = slice_index word 0 == 45 in
    let size = number_from 0 (digits_of word) in
    let both = number_at (is_number word) (signed negative size) (signed negative (capped_size (digits_of word))) v h in
    record { negative = negative; size = size; is = both.0; capped = both.1 }

-- as the code reads it, in 32 bits
small : (a : Bool) (m : ℕ) → (neg_ℤ (pos (2 ^ 29)) ≤ℤ signed a (min CAP m)) × (signed a (min CAP m) ≤ℤ pos (2 ^ 29))
small true m = (let most : min CAP m ≤ 2 ^ 29 = omega arith in (omega (arith, lin, most), omega (arith, lin, most)))
small false m = (let most : min CAP m ≤ 2 ^ 29 = omega arith in (omega (arith, lin, most), omega (arith, lin, most)))

pub read_capped : (a : Bool) (m : ℕ) (v : ℤ) → v ≡ signed a (min CAP m) → to_z w32 (of_z w32 v) ≡ signed a (min CAP m)
read_capped a m v is =
    let bounds = small a m in
    to_z-of_z w32 v ((fits_i32_is v).1 (omega (arith, lin, is, bounds.0), omega (arith, lin, is, bounds.1))) ∙ is
