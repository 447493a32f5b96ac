-- The order of odd pairs, and the test whether two are one.
use Rattle.std.proofs.Common.{◌≡◌, ap, ◌==◌, Bool, false, ◌&&◌, Decides, nat_cmp, is_lt, arith}
use Rattle.std.specs.Cmp.{IsTotalOrder, IsStrictWeakOrder}
use Rattle.std.proofs.lemmas.Bool.{and_parts, and_from}
use Rattle.std.proofs.lemmas.Bool.Decides.{Decides-eqb}
use Rattle.std.proofs.lemmas.Cmp.{nat_cmp_total, then_total}
use Rattle.std.proofs.lemmas.List.Sorted.{ranks_by}
use Rattle.arrangement.specs.declared.odd_use.OddUse.{OddUse}
use Rattle.arrangement.specs.Noding.{is_odd_before}
use Rattle.snap_noder.specs.Order.{odd_cmp}

abbrev pub is_same_odd : OddUse → OddUse → Bool
is_same_odd o p = (o.member == p.member) && (o.edge == p.edge)

pub same_odds : (o p : OddUse) → o.member ≡ p.member → o.edge ≡ p.edge → o ≡ p
same_odds o p e f = λ i. record { member = e i; edge = f i }

pub Decides-same_odds : (o p : OddUse) → Decides (is_same_odd o p) (o ≡ p)
Decides-same_odds o p = (
  λ h. let parts = and_parts (o.member == p.member) (o.edge == p.edge) h in same_odds o p ((Decides-eqb o.member p.member).0 parts.0) ((Decides-eqb o.edge p.edge).0 parts.1),
  λ e. and_from (o.member == p.member) (o.edge == p.edge) ((Decides-eqb o.member p.member).1 (ap (λ (q : OddUse). q.member) e)) ((Decides-eqb o.edge p.edge).1 (ap (λ (q : OddUse). q.edge) e)),
)

by_member : IsTotalOrder (λ (o p : OddUse). nat_cmp o.member p.member)
by_member = record {
  antisymm = λ o p. nat_cmp_total.antisymm o.member p.member;
  trans = λ o p q. nat_cmp_total.trans o.member p.member q.member;
  congr = λ o p q. nat_cmp_total.congr o.member p.member q.member;
}

by_edge : IsTotalOrder (λ (o p : OddUse). nat_cmp o.edge p.edge)
by_edge = record {
  antisymm = λ o p. nat_cmp_total.antisymm o.edge p.edge;
  trans = λ o p q. nat_cmp_total.trans o.edge p.edge q.edge;
  congr = λ o p q. nat_cmp_total.congr o.edge p.edge q.edge;
}

pub odd_cmp_total : IsTotalOrder odd_cmp
odd_cmp_total = then_total by_member by_edge

pub odd_weak : IsStrictWeakOrder (λ (o p : OddUse). is_lt (odd_cmp o p))
odd_weak = ranks_by odd_cmp_total (λ (o : OddUse). o)

pub is_lt-odd_cmp : (o p : OddUse) → is_lt (odd_cmp o p) ≡ is_odd_before o p
is_lt-odd_cmp o p = grind arith

-- two pairs of which neither comes before the other are one
pub odds_from_neither : (o p : OddUse) → is_odd_before o p ≡ false → is_odd_before p o ≡ false → o ≡ p
odds_from_neither o p h k =
    let e : o.member ≡ p.member = grind arith in
    let f : o.edge ≡ p.edge = grind arith in
    same_odds o p e f

pub is_odd_before-irrefl : (o : OddUse) → is_odd_before o o ≡ false
is_odd_before-irrefl o = grind arith
