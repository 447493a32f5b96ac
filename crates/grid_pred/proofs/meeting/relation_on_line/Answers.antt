use Rattle.std.proofs.Common.{sym, ◌∙◌}
use Rattle.cov_types.proofs.Equal.{Decides-same_coords, Decides-same_segs}
use Rattle.plane.proofs.Along.{common_end-exchange}
use Rattle.grid_pred.proofs.BySides.{before_contact, chained_contact, overlap_contact}
use Rattle.grid_pred.proofs.meeting.relation_on_line.Goals as goal
use Rattle.grid_pred.proofs.meeting.relation_on_line.Goals.{then-lt-via-then-lt, then-lt-via-else-lt+then-lt-2, then-eq-2-via-then-eq-2, then-eq-2-via-else-eq-2+then-eq-3}

pub returns-then-eq : goal.returns-then-eq
returns-then-eq c = (Decides-same_segs c.args.s c.args.t).0 (sym c.eq.ensures ∙ c.if-eq.true)

pub returns-then-lt : goal.returns-then-lt
returns-then-lt c =
    elim c.then-lt.branch [
      | then-lt-via-then-lt w ↦ before_contact c.args.s c.args.t c.requires.s_in_range c.requires.t_in_range (sym c.lt.ensures ∙ w.if-lt.true)
      | then-lt-via-else-lt+then-lt-2 w ↦
          λ r common. before_contact c.args.t c.args.s c.requires.t_in_range c.requires.s_in_range (sym w.lt-else-lt.ensures ∙ w.if-lt-2.true) r (common.1, common.0)
    ]

pub returns-then-eq-2 : goal.returns-then-eq-2
returns-then-eq-2 c =
    elim c.then-eq-2.branch [
      | then-eq-2-via-then-eq-2 w ↦
          chained_contact c.args.s c.args.t c.requires.s_in_range c.requires.t_in_range ((Decides-same_coords c.args.s.hi c.args.t.lo).0 (sym c.eq-2.ensures ∙ w.if-eq-2.true))
      | then-eq-2-via-else-eq-2+then-eq-3 w ↦
          common_end-exchange c.args.s c.args.t
          (chained_contact c.args.t c.args.s c.requires.t_in_range c.requires.s_in_range ((Decides-same_coords c.args.t.hi c.args.s.lo).0 (sym w.eq-else-eq-2.ensures ∙ w.if-eq-3.true)))
    ]

pub returns : goal.returns
returns c =
    overlap_contact c.args.s c.args.t c.requires.s_in_range c.requires.t_in_range c.requires.lo_on_line c.requires.hi_on_line
    (λ e. absurd (let told = c.eq.ensures ∙ (Decides-same_segs c.args.s c.args.t).1 e in let f = c.if-eq.false in cc))
    (sym c.lt.ensures ∙ c.if-lt.false) (sym c.lt-else-lt.ensures ∙ c.if-lt-2.false)
    (λ e. absurd (let told = c.eq-2.ensures ∙ (Decides-same_coords c.args.s.hi c.args.t.lo).1 e in let f = c.if-eq-2.false in cc))
    (λ e. absurd (let told = c.eq-else-eq-2.ensures ∙ (Decides-same_coords c.args.t.hi c.args.s.lo).1 e in let f = c.if-eq-3.false in cc))
