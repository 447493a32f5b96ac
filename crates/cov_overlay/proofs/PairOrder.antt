-- The order of pairs, and what `cmp` and `==` answer of them.
use Rattle.std.proofs.Common.{◌≡◌, refl, ap, ◌&&◌, ◌||◌, ◌==◌, Bool, true, false, cond, eqb, nat_lt, Decides, Ordering, Less, Equal, Greater, is_lt, IsTrue, arith}
use Rattle.std.specs.Cmp.{IsTotalOrder}
use Rattle.std.specs.Ordering.{nat_cmp, ordering_then}
use Rattle.std.proofs.lemmas.Bool.{and_parts, and_from}
use Rattle.std.proofs.lemmas.Bool.Decides.{Decides-eqb, nat_tests}
use Rattle.std.proofs.lemmas.Cmp.{nat_cmp_total, on_total, then_total}
use Rattle.overlaid_laws.specs.declared.pair.Pair.{Pair}
use Rattle.overlaid_laws.specs.Pairs.{is_pair_before}

abbrev pub pair_cmp : Pair → Pair → Ordering
pair_cmp p q = ordering_then (nat_cmp p.a q.a) (nat_cmp p.b q.b)

pub pair_cmp_total : IsTotalOrder pair_cmp
pair_cmp_total = then_total (on_total (λ (p : Pair). p.a) nat_cmp_total) (on_total (λ (p : Pair). p.b) nat_cmp_total)

lt_of_tests : (less same then_less then_same : Bool)
    → is_lt (ordering_then (cond less Less (cond same Equal Greater)) (cond then_less Less (cond then_same Equal Greater))) ≡ (less || (same && then_less))
lt_of_tests true same then_less then_same = refl
lt_of_tests false true true then_same = refl
lt_of_tests false true false true = refl
lt_of_tests false true false false = refl
lt_of_tests false false then_less then_same = refl

-- `cmp` answers by which comes first
pub is_lt-pair_cmp : (p q : Pair) → is_lt (pair_cmp p q) ≡ is_pair_before p q
is_lt-pair_cmp p q = lt_of_tests (nat_lt p.a q.a) (p.a == q.a) (nat_lt p.b q.b) (p.b == q.b)

same_pairs : (p q : Pair) → p.a ≡ q.a → p.b ≡ q.b → p ≡ q
same_pairs p q e f = λ i. record { a = e i; b = f i }

-- what `==` answers decides whether two pairs are one
pub Decides-same_pairs : (p q : Pair) → Decides (eqb p.a q.a && eqb p.b q.b) (p ≡ q)
Decides-same_pairs p q = (
  λ h. (let parts = and_parts (eqb p.a q.a) (eqb p.b q.b) h in same_pairs p q ((Decides-eqb p.a q.a).0 parts.0) ((Decides-eqb p.b q.b).0 parts.1)),
  λ same. and_from (eqb p.a q.a) (eqb p.b q.b) ((Decides-eqb p.a q.a).1 (ap (λ (x : Pair). x.a) same)) ((Decides-eqb p.b q.b).1 (ap (λ (x : Pair). x.b) same)),
)

-- two pairs of which neither comes before the other are one
pub same_from_neither : (p q : Pair) → is_pair_before p q ≡ false → is_pair_before q p ≡ false → p ≡ q
same_from_neither p q h k =
    let of_first : p.a ≡ q.a = grind (arith, nat_tests) in
    let of_second : p.b ≡ q.b = grind (arith, nat_tests) in
    same_pairs p q of_first of_second

pub is_pair_before-irrefl : (p : Pair) → is_pair_before p p ≡ false
is_pair_before-irrefl p = grind (arith, nat_tests)

pub is_pair_before-trans : (p q r : Pair) → IsTrue (is_pair_before p q) → IsTrue (is_pair_before q r) → IsTrue (is_pair_before p r)
is_pair_before-trans p q r h k = grind (arith, nat_tests)
