-- The sweep values of an edge and of a way: where two of the four sides are not of one sign, so are the other two.
use mathlib.Core.List.{[], ◌∷◌}
use Rattle.std.proofs.Common.{◌≡◌, refl, ℤ, pos, ◌+ℤ◌, ◌-ℤ◌, ◌*ℤ◌, ◌≤ℤ◌, ◌<ℤ◌, arith}
use Rattle.integer_laws.proofs.Ring.{lin, by_two, Var, Lit, ◌⊕◌, ◌⊖◌, ◌⊗◌, mul_comm}
use Rattle.crossing_laws.proofs.Sides.{AreCrossed}
use Rattle.integer_laws.proofs.Compare.{le_of_lt}
use Rattle.integer_laws.proofs.Sign.{nonneg_times_nonneg, nonneg_times_nonpos, nonpos_times_nonneg, nonpos_times_nonpos, nonneg_factor, nonpos_factor}

-- ---- the rises of the sweep value between the four points, and the four sides
-- pq is the rise from p to q, lp that from lo to p, ph that from p to hi, lq that from lo to q, qh that from q to hi, lh that from lo to hi

pub record AreRises (at_p at_q at_hi at_lo pq lp ph lq qh lh : ℤ) : Type 0 where
  pub from_p : ((at_p *ℤ pq) +ℤ (at_hi *ℤ lp)) +ℤ (at_lo *ℤ ph) ≡ pos 0
  pub from_q : ((at_q *ℤ pq) +ℤ (at_hi *ℤ lq)) +ℤ (at_lo *ℤ qh) ≡ pos 0
  pub from_lo : at_lo *ℤ lh ≡ (at_q *ℤ lp) -ℤ (at_p *ℤ lq)
  pub from_hi : at_hi *ℤ lh ≡ (at_p *ℤ qh) -ℤ (at_q *ℤ ph)

-- tp, tq, tl and th are the sweep values, times the denominators pd and qd
pub rises : (at_p at_q at_hi at_lo tp tq tl th pd qd : ℤ)
    → (at_q *ℤ tp) -ℤ (at_p *ℤ tq) ≡ (at_lo *ℤ th) -ℤ (at_hi *ℤ tl)
    → (at_q *ℤ pd) -ℤ (at_p *ℤ qd) ≡ at_lo -ℤ at_hi
    → AreRises at_p at_q at_hi at_lo ((tq *ℤ pd) -ℤ (tp *ℤ qd)) (tp -ℤ (tl *ℤ pd)) ((th *ℤ pd) -ℤ tp) (tq -ℤ (tl *ℤ qd)) ((th *ℤ qd) -ℤ tq) (th -ℤ tl)
rises at_p at_q at_hi at_lo tp tq tl th pd qd h k =
    let zero_term = Lit (pos 0) in
    let sweeps = Var 1 ⊗ Var 4 ⊖ Var 0 ⊗ Var 5 in
    let sweeps_end = Var 3 ⊗ Var 7 ⊖ Var 2 ⊗ Var 6 in
    let depths = Var 1 ⊗ Var 8 ⊖ Var 0 ⊗ Var 9 in
    let depths_end = Var 3 ⊖ Var 2 in
    let pq = Var 5 ⊗ Var 8 ⊖ Var 4 ⊗ Var 9 in
    let lp = Var 4 ⊖ Var 6 ⊗ Var 8 in
    let ph = Var 7 ⊗ Var 8 ⊖ Var 4 in
    let lq = Var 5 ⊖ Var 6 ⊗ Var 9 in
    let qh = Var 7 ⊗ Var 9 ⊖ Var 5 in
    let lh = Var 7 ⊖ Var 6 in
    let vars = at_p ∷ at_q ∷ at_hi ∷ at_lo ∷ tp ∷ tq ∷ tl ∷ th ∷ pd ∷ qd ∷ [] in
    record {
      from_p = by_two vars ((Var 0 ⊗ pq ⊕ Var 2 ⊗ lp) ⊕ Var 3 ⊗ ph) zero_term (zero_term ⊖ Var 8) sweeps sweeps_end (Var 4) depths depths_end refl h k;
      from_q = by_two vars ((Var 1 ⊗ pq ⊕ Var 2 ⊗ lq) ⊕ Var 3 ⊗ qh) zero_term (zero_term ⊖ Var 9) sweeps sweeps_end (Var 5) depths depths_end refl h k;
      from_lo = by_two vars (Var 3 ⊗ lh) (Var 1 ⊗ lp ⊖ Var 0 ⊗ lq) (zero_term ⊖ Lit (pos 1)) sweeps sweeps_end (Var 6) depths depths_end refl h k;
      from_hi = by_two vars (Var 2 ⊗ lh) (Var 0 ⊗ qh ⊖ Var 1 ⊗ ph) (zero_term ⊖ Lit (pos 1)) sweeps sweeps_end (Var 7) depths depths_end refl h k;
    }

-- ---- in each window of the sweep, two sides that are not of one sign force the other two to be opposite

-- both p and q between lo and hi
pub both_within : (at_p at_q at_hi at_lo pq lp ph lq qh lh : ℤ) → AreRises at_p at_q at_hi at_lo pq lp ph lq qh lh
    → pos 0 <ℤ lh → pos 0 ≤ℤ lp → pos 0 ≤ℤ ph → pos 0 ≤ℤ lq → pos 0 ≤ℤ qh
    → at_p ≤ℤ pos 0 → pos 0 ≤ℤ at_q → AreCrossed at_p at_q at_hi at_lo
both_within at_p at_q at_hi at_lo pq lp ph lq qh lh r rise_lh rise_lp rise_ph rise_lq rise_qh hp hq =
    let q_lp = nonneg_times_nonneg {x = at_q} {y = lp} hq rise_lp in
    let p_lq = nonpos_times_nonneg {x = at_p} {y = lq} hp rise_lq in
    let p_qh = nonpos_times_nonneg {x = at_p} {y = qh} hp rise_qh in
    let q_ph = nonneg_times_nonneg {x = at_q} {y = ph} hq rise_ph in
    record {
      p = hp;
      q = hq;
      hi = nonpos_factor lh at_hi rise_lh (omega (arith, lin, mul_comm lh at_hi, r.from_hi));
      lo = nonneg_factor lh at_lo rise_lh (omega (arith, lin, mul_comm lh at_lo, r.from_lo));
    }

-- from between lo and hi out past hi
pub out_past_hi : (at_p at_q at_hi at_lo pq lp ph lq qh lh : ℤ) → AreRises at_p at_q at_hi at_lo pq lp ph lq qh lh
    → pos 0 <ℤ lh → pos 0 ≤ℤ pq → pos 0 ≤ℤ lp → pos 0 <ℤ ph → qh ≤ℤ pos 0
    → at_p ≤ℤ pos 0 → at_hi ≤ℤ pos 0 → AreCrossed at_p at_q at_hi at_lo
out_past_hi at_p at_q at_hi at_lo pq lp ph lq qh lh r rise_lh rise_pq rise_lp rise_ph rise_qh hp hhi =
    let p_pq = nonpos_times_nonneg {x = at_p} {y = pq} hp rise_pq in
    let hi_lp = nonpos_times_nonneg {x = at_hi} {y = lp} hhi rise_lp in
    let p_qh = nonpos_times_nonpos {x = at_p} {y = qh} hp rise_qh in
    let hi_lh = nonpos_times_nonneg {x = at_hi} {y = lh} hhi (le_of_lt rise_lh) in
    record {
      p = hp;
      q = nonneg_factor ph at_q rise_ph (omega (arith, lin, mul_comm ph at_q, r.from_hi));
      hi = hhi;
      lo = nonneg_factor ph at_lo rise_ph (omega (arith, lin, mul_comm ph at_lo, r.from_p));
    }

-- from before lo in between lo and hi
pub in_over_lo : (at_p at_q at_hi at_lo pq lp ph lq qh lh : ℤ) → AreRises at_p at_q at_hi at_lo pq lp ph lq qh lh
    → pos 0 <ℤ lh → pos 0 ≤ℤ ph → lp ≤ℤ pos 0 → pos 0 <ℤ lq → pos 0 ≤ℤ qh
    → pos 0 ≤ℤ at_q → pos 0 ≤ℤ at_lo → AreCrossed at_p at_q at_hi at_lo
in_over_lo at_p at_q at_hi at_lo pq lp ph lq qh lh r rise_lh rise_ph rise_lp rise_lq rise_qh hq hlo =
    let q_lp = nonneg_times_nonpos {x = at_q} {y = lp} hq rise_lp in
    let lo_lh = nonneg_times_nonneg {x = at_lo} {y = lh} hlo (le_of_lt rise_lh) in
    let hp = nonpos_factor lq at_p rise_lq (omega (arith, lin, mul_comm lq at_p, r.from_lo)) in
    let p_qh = nonpos_times_nonneg {x = at_p} {y = qh} hp rise_qh in
    let q_ph = nonneg_times_nonneg {x = at_q} {y = ph} hq rise_ph in
    record {
      p = hp;
      q = hq;
      hi = nonpos_factor lh at_hi rise_lh (omega (arith, lin, mul_comm lh at_hi, r.from_hi));
      lo = hlo;
    }

-- from before lo out past hi
pub past_both : (at_p at_q at_hi at_lo pq lp ph lq qh lh : ℤ) → AreRises at_p at_q at_hi at_lo pq lp ph lq qh lh
    → pos 0 <ℤ pq → lp ≤ℤ pos 0 → pos 0 ≤ℤ ph → pos 0 ≤ℤ lq → qh ≤ℤ pos 0
    → at_hi ≤ℤ pos 0 → pos 0 ≤ℤ at_lo → AreCrossed at_p at_q at_hi at_lo
past_both at_p at_q at_hi at_lo pq lp ph lq qh lh r rise_pq rise_lp rise_ph rise_lq rise_qh hhi hlo =
    let hi_lp = nonpos_times_nonpos {x = at_hi} {y = lp} hhi rise_lp in
    let lo_ph = nonneg_times_nonneg {x = at_lo} {y = ph} hlo rise_ph in
    let hi_lq = nonpos_times_nonneg {x = at_hi} {y = lq} hhi rise_lq in
    let lo_qh = nonneg_times_nonpos {x = at_lo} {y = qh} hlo rise_qh in
    record {
      p = nonpos_factor pq at_p rise_pq (omega (arith, lin, mul_comm pq at_p, r.from_p));
      q = nonneg_factor pq at_q rise_pq (omega (arith, lin, mul_comm pq at_q, r.from_q));
      hi = hhi;
      lo = hlo;
    }
