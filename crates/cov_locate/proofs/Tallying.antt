-- The tally of the rings near a point, one ring after the other.
use Rattle.std.proofs.Common.{◌≡◌, refl, sym, ◌∙◌, ap, subst, ℕ, ◌+◌, ◌<◌, ◌≤◌, ◌==◌, Bool, true, false, not, List, length, get_or, All, arith, inl, inr}
use Rattle.std.specs.Prelude.{AllPairs, if◌then◌else◌}
use Rattle.std.proofs.lemmas.Bool.{cases_lt, eqb-true, eqb-false}
use Rattle.std.proofs.lemmas.List.{get_or_default}
use Rattle.cov_locate.proofs.LeastHolder.{IsSeen, seen_more, seen_past, seen_none, other_holds, settled_where}
use Rattle.cov_locate.proofs.NearRings.{near_up}
use Rattle.cov_locate.proofs.NextRing.{all_clear}
use Rattle.cov_locate.specs.Near.{AreFar, AreNear, IsNearRing}
use Rattle.cov_locate.specs.Parts.{AreClear, IsRunTold}
use Rattle.cov_locate.specs.Rings.{IsNextRing}
use Rattle.cov_locate.specs.Tally.{IsToldWith, counted}
use Rattle.cov_locate.specs.Where.{IsLeastHolder, IsOnEdge, IsWhere}
use Rattle.cov_locate.specs.declared.near.NearRing.{NearRing}
use Rattle.cov_locate.specs.declared.place.Where.TheVariants.{Member, Nowhere}
use Rattle.cov_locate.specs.declared.tally.Tally.{Tally}
use Rattle.cov_locate.specs.declared.tally.Told.{Told}
use Rattle.cov_types.specs.Rings.{AreInRow, IsRing}
use Rattle.cov_types.specs.declared.coord.Coord.{Coord}
use Rattle.cov_types.specs.declared.edge_use.EdgeUse.{EdgeUse}
use Rattle.cov_types.specs.declared.ring_run.RingRun.{RingRun}
use Rattle.parity_laws.specs.Runs.{run_holds}
use Rattle.plane.specs.Point.{at_coord}

-- the member is settled; or it is the one whose rings were counted last
abbrev IsTalliedBy : List EdgeUse → List RingRun → Coord → ℕ → Bool → ℕ → Bool → Type 0
IsTalliedBy uses runs p passed true member odd = (odd ≡ true) × IsLeastHolder uses p member
IsTalliedBy uses runs p passed false member odd = IsSeen uses runs p passed member odd

-- the first so many runs are counted
abbrev pub IsTallied : List EdgeUse → List RingRun → Coord → ℕ → Tally → Type 0
IsTallied uses runs p passed t = IsTalliedBy uses runs p passed t.settled t.member t.odd

-- the first so many runs are clear and counted, and the rings near the point from there on are those
pub record IsToldTo (uses : List EdgeUse) (runs : List RingRun) (p : Coord) (passed : ℕ) (t : Tally) (rest : List NearRing) : Type 0 where
  pub within : passed ≤ length runs
  pub clear : (n : ℕ) (d : RingRun) → n < passed → AreClear uses (get_or runs n d).from (get_or runs n d).to p
  pub tallied : ¬ IsOnEdge uses p → IsTallied uses runs p passed t
  pub near : AreNear uses runs p passed rest

module _ (uses : List EdgeUse) (runs : List RingRun) (p : Coord) where
  far_past_by : (passed next : ℕ) (settled : Bool) (member : ℕ) (odd : Bool) → passed ≤ next → next ≤ length runs → AreFar uses runs p passed next
      → IsTalliedBy uses runs p passed settled member odd → IsTalliedBy uses runs p next settled member odd
  far_past_by passed next true member odd le within far h = h
  far_past_by passed next false member odd le within far h = seen_past uses runs p passed next member odd le within (λ k d low high. sym (far k d low high).held) h

  -- far runs change nothing
  far_past : (passed next : ℕ) (t : Tally) → passed ≤ next → next ≤ length runs → AreFar uses runs p passed next → IsTallied uses runs p passed t → IsTallied uses runs p next t
  far_past passed next t le within far h = far_past_by passed next t.settled t.member t.odd le within far h

  -- the run with this number holds the point
  next_is : (n : ℕ) (run : RingRun) → ¬ IsOnEdge uses p → n < length runs → run ≡ get_or runs n run → run_holds uses (at_coord p) run ≡ true → IsNextRing uses runs p n n
  next_is n run off within at held = record {
    clear = off;
    passed = λ k d up before. absurd (omega (arith, up, before));
    ends = omega (arith, within);
    holds = λ d h. (omega arith, subst (λ (r : RingRun). run_holds uses (at_coord p) r ≡ true) (at ∙ get_or_default runs n run d within) held);
  }

  module _ (starts : List Coord) (row : AreInRow 0 runs (length uses)) (rings : All (IsRing uses starts) runs) (ascending : AllPairs (λ r s. r.member ≤ s.member) runs) where
    counted_by : (n : ℕ) (run : RingRun) (member : ℕ) (odd same : Bool) → IsNextRing uses runs p n n → n < length runs → run ≡ get_or runs n run → IsSeen uses runs p n member odd → (run.member == member) ≡ same
        → IsTallied uses runs p (n + 1) (if same then record { settled = false; member = member; odd = not odd }
        else if odd then record { settled = true; member = member; odd = true } else record { settled = false; member = run.member; odd = true })
    counted_by n run member odd true is within at seen e =
        seen_more uses runs p n n member member odd (not odd) run ascending seen is within at (sym (eqb-true run.member member e)) (λ f. refl) (λ apart. absurd (apart refl))
    counted_by n run member true false is within at seen e =
        (refl, other_holds uses runs p starts row rings n n member true run ascending seen is within at (eqb-false run.member member e) refl)
    counted_by n run member false false is within at seen e =
        seen_more uses runs p n n member run.member false true run ascending seen is within at refl (λ f. absurd (eqb-false run.member member e f)) (λ apart. (refl, refl))

    tally_by : (n : ℕ) (run : RingRun) (settled : Bool) (member : ℕ) (odd : Bool) → IsNextRing uses runs p n n → n < length runs → run ≡ get_or runs n run → IsTalliedBy uses runs p n settled member odd
        → IsTallied uses runs p (n + 1) (counted (record { settled = settled; member = member; odd = odd }) run.member)
    tally_by n run true member odd is within at h = h
    tally_by n run false member odd is within at h = counted_by n run member odd (run.member == member) is within at h refl

    -- one run more that holds the point
    tally_more : (n : ℕ) (run : RingRun) (t : Tally) → IsNextRing uses runs p n n → n < length runs → run ≡ get_or runs n run → IsTallied uses runs p n t → IsTallied uses runs p (n + 1) (counted t run.member)
    tally_more n run t is within at h = tally_by n run t.settled t.member t.odd is within at h

    done_by : (settled : Bool) (member : ℕ) (odd : Bool) → ¬ IsOnEdge uses p → IsTalliedBy uses runs p (length runs) settled member odd → IsWhere uses p (if odd then Member member else Nowhere)
    done_by true member true off h = (off, h.1)
    done_by true member false off h = absurd (false≢true_here h.0)
      where
        false≢true_here : ¬ (false ≡ true)
        false≢true_here e = cc
    done_by false member odd off h =
        settled_where uses runs p starts row rings (length runs) (length runs) member odd h
        (record { clear = off; passed = λ k d up before. absurd (omega (arith, up, before)); ends = omega arith; holds = λ d less. absurd (omega (arith, less)) }) refl

    pub told_none : (near : List NearRing) → AreNear uses runs p 0 near → IsToldTo uses runs p 0 (record { settled = false; member = 0; odd = false }) near
    told_none near are = record { within = omega arith; clear = λ n d h. absurd (omega (arith, h)); tallied = λ off. seen_none uses runs p; near = are }

    -- a ring that was told before
    pub told_skipped : (passed number : ℕ) (t : Tally) (rest next : List NearRing) → number < passed → IsToldTo uses runs p passed t rest → AreNear uses runs p (number + 1) next → IsToldTo uses runs p passed t next
    told_skipped passed number t rest next less so_far are =
        record { within = so_far.within; clear = so_far.clear; tallied = so_far.tallied; near = near_up uses runs p (number + 1) passed next (omega (arith, less)) are }

    ring_clear : (passed : ℕ) (ring : NearRing) (holds : Bool) → IsNearRing uses runs p ring → AreFar uses runs p passed ring.number → IsRunTold uses ring.run p holds
        → ((n : ℕ) (d : RingRun) → n < passed → AreClear uses (get_or runs n d).from (get_or runs n d).to p)
        → (n : ℕ) (d : RingRun) → n < ring.number + 1 → AreClear uses (get_or runs n d).from (get_or runs n d).to p
    ring_clear passed ring holds is far told clear n d h =
        elim (cases_lt n passed) [
          | inl early ↦ clear n d early
          | inr late ↦ elim (cases_lt n ring.number) [
            | inl between ↦ (far n d late between).clear
            | inr last ↦
                let here : ring.number ≡ n = omega (arith, h, last) in
                subst (λ (r : RingRun). AreClear uses r.from r.to p) (is.is d ∙ ap (λ (k : ℕ). get_or runs k d) here) told.clear
          ]
        ]

    ring_tallied : (passed : ℕ) (t : Tally) (ring : NearRing) (holds : Bool) → passed ≤ ring.number → IsNearRing uses runs p ring → AreFar uses runs p passed ring.number → IsRunTold uses ring.run p holds
        → ¬ IsOnEdge uses p → IsTallied uses runs p passed t → IsTallied uses runs p (ring.number + 1) (if holds then counted t ring.run.member else t)
    ring_tallied passed t ring true up is far told off h =
        tally_more ring.number ring.run t (next_is ring.number ring.run off is.within (is.is ring.run) (sym told.held)) is.within (is.is ring.run)
        (far_past passed ring.number t up (omega (arith, is.within)) far h)
    ring_tallied passed t ring false up is far told off h =
        far_past passed (ring.number + 1) t (omega (arith, up)) (omega (arith, is.within))
        (λ n d low high. elim (cases_lt n ring.number) [
          | inl between ↦ far n d low between
          | inr last ↦
              let here : ring.number ≡ n = omega (arith, high, last) in
              subst (λ (r : RingRun). IsRunTold uses r p false) (is.is d ∙ ap (λ (k : ℕ). get_or runs k d) here) told
        ]) h

    -- one ring more
    pub told_more : (passed : ℕ) (t : Tally) (ring : NearRing) (holds : Bool) (rest next : List NearRing) → passed ≤ ring.number → IsNearRing uses runs p ring → AreFar uses runs p passed ring.number
        → IsRunTold uses ring.run p holds → IsToldTo uses runs p passed t rest → AreNear uses runs p (ring.number + 1) next → IsToldTo uses runs p (ring.number + 1) (if holds then counted t ring.run.member else t) next
    told_more passed t ring holds rest next up is far told so_far are = record {
      within = omega (arith, is.within);
      clear = ring_clear passed ring holds is far told so_far.clear;
      tallied = λ off. ring_tallied passed t ring holds up is far told off (so_far.tallied off);
      near = are;
    }

    -- one ring more, that may have been told before
    pub told_with : (ring : NearRing) (so_far next : Told) (rest later : List NearRing) → IsToldWith uses ring p so_far next → IsNearRing uses runs p ring → AreFar uses runs p so_far.passed ring.number
        → AreNear uses runs p (ring.number + 1) later → IsToldTo uses runs p so_far.passed so_far.tally rest → IsToldTo uses runs p next.passed next.tally later
    told_with ring so_far next rest later step is far are before =
        elim (cases_lt ring.number so_far.passed) [
          | inl less ↦ subst (λ (t : Told). IsToldTo uses runs p t.passed t.tally later) (sym (step.skipped less)) (told_skipped so_far.passed ring.number so_far.tally rest later less before are)
          | inr up ↦
              let (holds, (told, tally_is)) = step.told up in
              subst (λ (n : ℕ). IsToldTo uses runs p n next.tally later) (sym (step.passed up))
              (subst (λ (t : Tally). IsToldTo uses runs p (ring.number + 1) t later) (sym tally_is) (told_more so_far.passed so_far.tally ring holds rest later up is far told before are))
        ]

    -- all rings were told
    pub told_all : (passed : ℕ) (t : Tally) (rest : List NearRing) → IsToldTo uses runs p passed t rest → AreFar uses runs p passed (length runs) → IsWhere uses p (if t.odd then Member t.member else Nowhere)
    told_all passed t rest so_far far =
        let off : ¬ IsOnEdge uses p = all_clear uses runs p row (λ n d inside. elim (cases_lt n passed) [ inl early ↦ so_far.clear n d early | inr late ↦ (far n d late inside).clear ]) in
        done_by t.settled t.member t.odd off (far_past passed (length runs) t so_far.within (omega arith) far (so_far.tallied off))
