-- The order of spots: where neither of two is past the other, they are one.
use Rattle.std.proofs.Common.{◌≡◌, refl, sym, ◌∙◌, ap, subst, ℕ, ◌==◌, nat_lt, cond, Bool, true, false, IsTrue, Ordering}
use Rattle.std.specs.declared.cmp.Ordering.TheVariants.{Less, Equal, Greater}
use Rattle.std.specs.Ordering.{is_lt, is_le, is_gt, nat_cmp, ordering_then, ordering_reverse}
use Rattle.std.proofs.lemmas.Bool.{true≢false}
use Rattle.std.proofs.lemmas.Bool.Decides.{Decides-eqb}
use Rattle.std.proofs.lemmas.Cmp.{nat_cmp_total}
use Rattle.arrangement.proofs.PointOrders.{then_equal, neither_past}
use Rattle.greedy_run.specs.Run.{Spot, spot_cmp}

-- ---- spots

same_nat : (m n : ℕ) → nat_cmp m n ≡ Equal → m ≡ n
same_nat m n h = by (nat_lt m n) refl (m == n) refl h
  where
    by : (b : Bool) → nat_lt m n ≡ b → (c : Bool) → (m == n) ≡ c → cond b Less (cond c Equal Greater) ≡ Equal → m ≡ n
    by true e c f k = absurd (true≢false (ap is_lt k))
    by false e true f k = (Decides-eqb m n).0 f
    by false e false f k = absurd (true≢false (ap is_gt k))

spot_reverse : (a b c : Ordering) → ordering_reverse (ordering_then a (ordering_then b c)) ≡ ordering_then (ordering_reverse a) (ordering_then (ordering_reverse b) (ordering_reverse c))
spot_reverse Less b c = refl
spot_reverse Greater b c = refl
spot_reverse Equal Less c = refl
spot_reverse Equal Greater c = refl
spot_reverse Equal Equal c = refl

spots_reverse : (s t : Spot) → spot_cmp s t ≡ ordering_reverse (spot_cmp t s)
spots_reverse s t =
    (λ i. ordering_then (nat_cmp_total.antisymm s.size t.size i) (ordering_then (nat_cmp_total.antisymm s.line t.line i) (nat_cmp_total.antisymm s.place t.place i)))
    ∙ sym (spot_reverse (nat_cmp t.size s.size) (nat_cmp t.line s.line) (nat_cmp t.place s.place))

pub spots_same : (s t : Spot) → IsTrue (is_le (spot_cmp s t)) → IsTrue (is_le (spot_cmp t s)) → s ≡ t
spots_same s t h k =
    let equal = neither_past (spot_cmp s t) h (subst (λ r. IsTrue (is_le r)) (spots_reverse t s) k) in
    let first = then_equal _ _ equal in
    let second = then_equal _ _ first.1 in
    let size = same_nat s.size t.size first.0 in
    let line = same_nat s.line t.line second.0 in
    let place = same_nat s.place t.place second.1 in
    λ i. record { size = size i; line = line i; place = place i }
