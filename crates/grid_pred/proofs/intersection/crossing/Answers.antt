use Rattle.std.proofs.Common.{subst, refl, sym, ◌∙◌, true≢false}
use Rattle.plane.specs.Contact.{IsContact}
use Rattle.plane.proofs.Contacts.{contact_unique}
use Rattle.grid_pred.proofs.MeetingPoint.{contact_at}
use Rattle.grid_pred.specs.Crossing.{at_cross}
use Rattle.grid_pred.proofs.intersection.crossing.Goals as goal

pub meeting_point-requires-clause-crosses : goal.meeting_point-requires-clause-crosses
meeting_point-requires-clause-crosses c = subst (IsContact c.args.s c.args.t) (c.is_cross.ensures.0 c.if-is_cross.true) c.relation.ensures.exact

pub returns-then-is_cross-clause-crosses : goal.returns-then-is_cross-clause-crosses
returns-then-is_cross-clause-crosses c = (λ _. contact_at c.args.s c.args.t (at_cross c.meeting_point.result) c.meeting_point.ensures.point, λ _. refl)

pub returns-else-is_cross-clause-crosses : goal.returns-else-is_cross-clause-crosses
returns-else-is_cross-clause-crosses c = (
  λ some. absurd (true≢false (sym some)),
  λ crosses. absurd (true≢false (sym (c.is_cross.ensures.1 (contact_unique c.args.s c.args.t _ _ c.relation.ensures.exact crosses)) ∙ c.if-is_cross.false)),
)
