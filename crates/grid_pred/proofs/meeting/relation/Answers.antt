use Rattle.std.proofs.Common.{sym, subst, rules}
use Rattle.plane.specs.declared.contact.Contact.{Contact}
use Rattle.plane.specs.declared.contact.Contact.TheVariants.{Apart}
use Rattle.plane.specs.Contact.{IsContact}
use Rattle.plane.proofs.Meeting.{equal_opposite, opposite_meet}
use Rattle.grid_pred.proofs.BySides.{one_side_told, opposite_told, end_told, equal_told, unequal_told, one_side_apart, contact-meet_once, bad_contact}
use Rattle.grid_pred.proofs.meeting.relation.Goals as goal

pub returns-then-are_on_one_side-clause-exact : goal.returns-then-are_on_one_side-clause-exact
returns-then-are_on_one_side-clause-exact c =
    one_side_apart c.args.s c.args.t
    (one_side_told c.turn_to-t_lo.result c.turn_to-t_hi.result _ _ c.are_on_one_side.result (search rules) (search rules)
    c.turn_to-t_lo.ensures.exact c.turn_to-t_hi.ensures.exact c.are_on_one_side.ensures c.if-are_on_one_side.true)

pub returns-then-are_on_one_side-2-clause-exact : goal.returns-then-are_on_one_side-2-clause-exact
returns-then-are_on_one_side-2-clause-exact c =
    λ r common. one_side_apart c.args.t c.args.s
    (one_side_told c.turn_to-s_lo.result c.turn_to-s_hi.result _ _ c.are_on_one_side-2.result (search rules) (search rules)
    c.turn_to-s_lo.ensures.exact c.turn_to-s_hi.ensures.exact c.are_on_one_side-2.ensures c.if-are_on_one_side-2.true) r (common.1, common.0)

-- both ends of t are on the line of s
pub relation_on_line-requires-clause-lo_on_line : goal.relation_on_line-requires-clause-lo_on_line
relation_on_line-requires-clause-lo_on_line c =
    (equal_opposite _ _
    (opposite_told c.turn_to-t_lo.result c.turn_to-t_hi.result _ _ c.are_on_one_side.result (search rules) (search rules)
    c.turn_to-t_lo.ensures.exact c.turn_to-t_hi.ensures.exact c.are_on_one_side.ensures c.if-are_on_one_side.false)
    (equal_told c.turn_to-t_lo.result c.turn_to-t_hi.result _ _ (search rules) (search rules) c.turn_to-t_lo.ensures.exact c.turn_to-t_hi.ensures.exact c.if-t_lo-t_hi.true)).0

pub relation_on_line-requires-clause-hi_on_line : goal.relation_on_line-requires-clause-hi_on_line
relation_on_line-requires-clause-hi_on_line c =
    (equal_opposite _ _
    (opposite_told c.turn_to-t_lo.result c.turn_to-t_hi.result _ _ c.are_on_one_side.result (search rules) (search rules)
    c.turn_to-t_lo.ensures.exact c.turn_to-t_hi.ensures.exact c.are_on_one_side.ensures c.if-are_on_one_side.false)
    (equal_told c.turn_to-t_lo.result c.turn_to-t_hi.result _ _ (search rules) (search rules) c.turn_to-t_lo.ensures.exact c.turn_to-t_hi.ensures.exact c.if-t_lo-t_hi.true)).1

pub returns-clause-exact : goal.returns-clause-exact
returns-clause-exact c =
    let t_opposite = opposite_told c.turn_to-t_lo.result c.turn_to-t_hi.result _ _ c.are_on_one_side.result (search rules) (search rules)
    c.turn_to-t_lo.ensures.exact c.turn_to-t_hi.ensures.exact c.are_on_one_side.ensures c.if-are_on_one_side.false in
    let s_opposite = opposite_told c.turn_to-s_lo.result c.turn_to-s_hi.result _ _ c.are_on_one_side-2.result (search rules) (search rules)
    c.turn_to-s_lo.ensures.exact c.turn_to-s_hi.ensures.exact c.are_on_one_side-2.ensures c.if-are_on_one_side-2.false in
    let differ = unequal_told c.turn_to-t_lo.result c.turn_to-t_hi.result _ _ c.turn_to-t_lo.ensures.exact c.turn_to-t_hi.ensures.exact c.if-t_lo-t_hi.false in
    let end_of_s = end_told c.turn_to-s_lo.result c.turn_to-s_hi.result _ _ c.is_end_on_line.result (search rules) (search rules) c.turn_to-s_lo.ensures.exact c.turn_to-s_hi.ensures.exact c.is_end_on_line.ensures in
    let end_of_t = end_told c.turn_to-t_lo.result c.turn_to-t_hi.result _ _ c.is_end_on_line-2.result (search rules) (search rules) c.turn_to-t_lo.ensures.exact c.turn_to-t_hi.ensures.exact c.is_end_on_line-2.ensures in
    subst (λ (k : Contact). IsContact c.args.s c.args.t k) (sym c.contact_at.ensures)
    (contact-meet_once c.args.s c.args.t (opposite_meet c.args.s c.args.t t_opposite s_opposite differ) c.is_end_on_line.result c.is_end_on_line-2.result end_of_s end_of_t)

pub returns-then-are_on_one_side-clause-bad : goal.returns-then-are_on_one_side-clause-bad
returns-then-are_on_one_side-clause-bad c =
    bad_contact c.args.s c.args.t Apart c.requires.s_in_range c.requires.t_in_range (returns-then-are_on_one_side-clause-exact c)

pub returns-then-are_on_one_side-2-clause-bad : goal.returns-then-are_on_one_side-2-clause-bad
returns-then-are_on_one_side-2-clause-bad c =
    bad_contact c.args.s c.args.t Apart c.requires.s_in_range c.requires.t_in_range (returns-then-are_on_one_side-2-clause-exact c)

pub returns-then-t_lo-t_hi-clause-bad : goal.returns-then-t_lo-t_hi-clause-bad
returns-then-t_lo-t_hi-clause-bad c =
    bad_contact c.args.s c.args.t c.relation_on_line.result c.requires.s_in_range c.requires.t_in_range c.relation_on_line.ensures

pub returns-clause-bad : goal.returns-clause-bad
returns-clause-bad c =
    bad_contact c.args.s c.args.t c.contact_at.result c.requires.s_in_range c.requires.t_in_range (returns-clause-exact c)
