-- The fault of a number, and the first of a list.
use Rattle.std.proofs.Common.{◌≡◌, ℕ, zero, suc, ◌≤◌, Bool, true, false, ◌&&◌, eqb, leb, List, [], ◌∷◌, ◌++◌, All, Option, Some, None, ℤ, pos, negsuc, neg_ℤ, ◌≤ℤ◌, ◌⊎◌, inl, inr, ⊎_elim, refl, ap, ◌∙◌, sym, arith, eqb-true, eq-eqb}
use Rattle.std.proofs.lemmas.Bool.{false_from_ne_true, cond_both}
use Rattle.std.specs.List.{AllByRecursion}
use Rattle.std.proofs.lemmas.Bool.{and_parts, false≢true}
use Rattle.std.proofs.lemmas.Bool.Decides.{nat_tests}
use Rattle.std.proofs.lemmas.Int.{ints}
use Rattle.std.proofs.lemmas.List.Elements.{All-from_recursion, recursion_from_All, All-nil, All-cons, All-head, All-tail}
use Rattle.cov_types.specs.declared.coord.TheConstants.{LIMIT}
use Rattle.geo_text.specs.Token.{Numeral}
use Rattle.geo_text.specs.Decimal.{value}
use Rattle.geo_text.specs.Fault.{IsWhole, IsValueInRange, IsNumberFine, IsBehindFine}
use Rattle.geo_text.specs.Machine.{is_in_range}
use Rattle.geo_text.specs.Number.{precision_at, capped, is_fine}
use Rattle.geo_text.specs.declared.fraction.Fraction.TheVariants.{Unscaled, Scaled}
use Rattle.geo_text.specs.declared.fraction.Tail.{Tail}
use Rattle.geo_text.specs.declared.fraction.Tail.TheVariants.{Empty}
use Rattle.geo_text.specs.declared.error.TextFault.{TextFault}
use Rattle.geo_text.specs.declared.error.TextFault.TheVariants.{NotWhole, OutOfRange}
use Rattle.geo_text.specs.declared.number.TheConstants.{CAP}
use Rattle.geo_text.proofs.Limits.{limit, capped-small}
use Rattle.geo_text.proofs.Keeping.{read_value, is_whole, fault_of_number, first_number_fault}
use Rattle.geo_text.proofs.Fractions.{fraction_from}

-- ---- range

pub limit_small : (z : ℤ) → is_in_range z ≡ true → limit CAP z ≡ z
limit_small (pos n) e = let h : n ≤ 268435457 = grind (arith, ints) in ap pos (capped-small CAP n h)
limit_small (negsuc n) e = let h : suc n ≤ 268435457 = grind (arith, ints) in ap (λ k. neg_ℤ (pos k)) (capped-small CAP (suc n) h)

leb-capped : (n : ℕ) → leb (capped CAP n) 268435456 ≡ leb n 268435456
leb-capped n = grind (arith, nat_tests)

-- a negative number is in range by its size
below_is : (n : ℕ) → is_in_range (neg_ℤ (pos n)) ≡ leb n 268435456
below_is zero = refl
below_is (suc n) = grind (arith, nat_tests)

is_in_range-limit : (z : ℤ) → is_in_range (limit CAP z) ≡ is_in_range z
is_in_range-limit (pos n) = leb-capped n
is_in_range-limit (negsuc n) = below_is (capped CAP (suc n)) ∙ leb-capped (suc n) ∙ sym (below_is (suc n))

is_in_range-true : (z : ℤ) → (neg_ℤ LIMIT) ≤ℤ z → z ≤ℤ LIMIT → is_in_range z ≡ true
is_in_range-true z low high = grind (arith, ints)

is_in_range-low : (z : ℤ) → is_in_range z ≡ true → (neg_ℤ LIMIT) ≤ℤ z
is_in_range-low z e = grind (arith, ints)

is_in_range-high : (z : ℤ) → is_in_range z ≡ true → z ≤ℤ LIMIT
is_in_range-high z e = grind (arith, ints)

-- ---- whole numbers

tested_whole : (ds : List ℕ) (w : Bool) → is_fine (fraction_from (Unscaled w) ds) ≡ true → (w ≡ true) × AllByRecursion (λ d. d ≡ 48) ds
tested_whole [] w e = (e, tt)
tested_whole (d ∷ ds) w e =
    let more = tested_whole ds (w && eqb d 48) e in
    let both = and_parts w (eqb d 48) more.0 in
    (both.0, (eqb-true d 48 both.1, more.1))

whole_test : (ds : List ℕ) → AllByRecursion (λ d. d ≡ 48) ds → is_fine (fraction_from (Unscaled true) ds) ≡ true
whole_test [] h = refl
whole_test (d ∷ ds) h = rw (eq-eqb d 48 h.0) (whole_test ds h.1)

-- at a scale no digit is at fault
always_fine : (ds : List ℕ) (left : ℕ) (t : Tail) → is_fine (fraction_from (Scaled left t) ds) ≡ true
always_fine [] left t = refl
always_fine (d ∷ ds) left t = cond_both (eqb left 0) _ _ (λ f. is_fine (fraction_from f ds) ≡ true) (λ _. always_fine ds 0 _) (λ _. always_fine ds _ t)

is_whole-true : (scale : Option ℕ) (n : Numeral) → IsWhole scale n → is_whole (precision_at scale) n ≡ true
is_whole-true None n h = whole_test n.fraction (recursion_from_All (λ d. d ≡ 48) n.fraction h)
is_whole-true (Some k) n h = always_fine n.fraction k Empty

true-is_whole : (scale : Option ℕ) (n : Numeral) → is_whole (precision_at scale) n ≡ true → IsWhole scale n
true-is_whole None n e = All-from_recursion (λ d. d ≡ 48) n.fraction (tested_whole n.fraction true e).1
true-is_whole (Some k) n e = tt

module _ (scale : Option ℕ) where
  in_range_test : (n : Numeral) → IsValueInRange scale n → is_in_range (read_value (precision_at scale) n) ≡ true
  in_range_test n h = is_in_range-limit (value scale n) ∙ is_in_range-true (value scale n) h.0 h.1

  tested_in_range : (n : Numeral) → is_in_range (read_value (precision_at scale) n) ≡ true → IsValueInRange scale n
  tested_in_range n e = let h = sym (is_in_range-limit (value scale n)) ∙ e in (is_in_range-low (value scale n) h, is_in_range-high (value scale n) h)

  -- the value of a fine number is read
  pub read_value-fine : (n : Numeral) → IsNumberFine scale n → read_value (precision_at scale) n ≡ value scale n
  read_value-fine n h = limit_small (value scale n) (is_in_range-true (value scale n) h.1.0 h.1.1)

  -- ---- one number

  pub fault-fine : (n : Numeral) → IsNumberFine scale n → fault_of_number (precision_at scale) n ≡ None
  fault-fine n h = rw (is_whole-true scale n h.0, in_range_test n h.1) refl

  pub fault-fraction : (n : Numeral) → (IsWhole scale n → ⊥) → fault_of_number (precision_at scale) n ≡ Some (NotWhole n.at)
  fault-fraction n h = let e : is_whole (precision_at scale) n ≡ false = false_from_ne_true (is_whole (precision_at scale) n) (λ w. h (true-is_whole scale n w)) in rw e refl

  pub fault-far : (n : Numeral) → IsWhole scale n → (IsValueInRange scale n → ⊥) → fault_of_number (precision_at scale) n ≡ Some (OutOfRange n.at)
  fault-far n w h =
      let e : is_in_range (read_value (precision_at scale) n) ≡ false = false_from_ne_true (is_in_range (read_value (precision_at scale) n)) (λ t. h (tested_in_range n t)) in
      rw (is_whole-true scale n w, e) refl

  -- a number is fine, or has a fraction, or is whole and out of range
  decide_number : (n : Numeral) → IsNumberFine scale n ⊎ ((IsWhole scale n → ⊥) ⊎ (IsWhole scale n × (IsValueInRange scale n → ⊥)))
  decide_number n = by_tests (is_whole (precision_at scale) n) (is_in_range (read_value (precision_at scale) n)) refl refl
    where
      by_tests : (w r : Bool) → is_whole (precision_at scale) n ≡ w → is_in_range (read_value (precision_at scale) n) ≡ r → IsNumberFine scale n ⊎ ((IsWhole scale n → ⊥) ⊎ (IsWhole scale n × (IsValueInRange scale n → ⊥)))
      by_tests true true ew er = inl (true-is_whole scale n ew, tested_in_range n er)
      by_tests false r ew er = inr (inl (λ h. false≢true (sym ew ∙ is_whole-true scale n h)))
      by_tests true false ew er = inr (inr (true-is_whole scale n ew, λ h. false≢true (sym er ∙ in_range_test n h)))

  -- ---- the first number that is not fine

  -- the fault of a number
  abbrev pub IsFaultOfNumber : Numeral → TextFault → Type 0
  IsFaultOfNumber n e = ((e ≡ NotWhole n.at) × (IsWhole scale n → ⊥)) ⊎ ((e ≡ OutOfRange n.at) × IsWhole scale n × (IsValueInRange scale n → ⊥))

  pub record NumberFault (ns : List Numeral) : Type 0 where
    pub before : List Numeral
    pub number : Numeral
    pub fault : TextFault
    pub first : IsBehindFine (IsNumberFine scale) ns before number
    pub is_fault : IsFaultOfNumber number fault

  faulty_here : (n : Numeral) (ns : List Numeral) (e : TextFault) → IsFaultOfNumber n e → NumberFault (n ∷ ns)
  faulty_here n ns e h = record { before = []; number = n; fault = e; first = record { after = ns; split = refl; fine = All-nil (IsNumberFine scale) }; is_fault = h }

  faulty_behind : (n : Numeral) (ns : List Numeral) → IsNumberFine scale n → NumberFault ns → NumberFault (n ∷ ns)
  faulty_behind n ns h w = record {
    before = n ∷ w.before;
    number = w.number;
    fault = w.fault;
    first = record { after = w.first.after; split = ap (λ xs. n ∷ xs) w.first.split; fine = All-cons (IsNumberFine scale) n w.before h w.first.fine };
    is_fault = w.is_fault;
  }

  pub scan_numbers : (ns : List Numeral) → All (IsNumberFine scale) ns ⊎ NumberFault ns
  scan_numbers [] = inl (All-nil (IsNumberFine scale))
  scan_numbers (n ∷ ns) =
      ⊎_elim (λ h. ⊎_elim (λ all. inl (All-cons (IsNumberFine scale) n ns h all)) (λ w. inr (faulty_behind n ns h w)) (scan_numbers ns))
      (λ h. ⊎_elim (λ f. inr (faulty_here n ns (NotWhole n.at) (inl (refl, f)))) (λ f. inr (faulty_here n ns (OutOfRange n.at) (inr (refl, f.0, f.1)))) h)
      (decide_number n)

  pub first_number_fault-fine : (ns : List Numeral) → All (IsNumberFine scale) ns → first_number_fault (precision_at scale) ns ≡ None
  first_number_fault-fine [] h = refl
  first_number_fault-fine (n ∷ ns) h = rw (fault-fine n (All-head (IsNumberFine scale) n ns h)) (first_number_fault-fine ns (All-tail (IsNumberFine scale) n ns h))

  fault_of : (n : Numeral) (e : TextFault) → IsFaultOfNumber n e → fault_of_number (precision_at scale) n ≡ Some e
  fault_of n e (inl (same, h)) = fault-fraction n h ∙ ap Some (sym same)
  fault_of n e (inr (same, w, h)) = fault-far n w h ∙ ap Some (sym same)

  -- the first number that is not fine decides
  pub first_number_fault-behind : (before after : List Numeral) (n : Numeral) (e : TextFault) → All (IsNumberFine scale) before → IsFaultOfNumber n e → first_number_fault (precision_at scale) (before ++ n ∷ after) ≡ Some e
  first_number_fault-behind [] after n e h f = rw (fault_of n e f) refl
  first_number_fault-behind (b ∷ before) after n e h f =
      rw (fault-fine b (All-head (IsNumberFine scale) b before h)) (first_number_fault-behind before after n e (All-tail (IsNumberFine scale) b before h) f)
