-- The marks of faults, or those beside narrow gaps.
use Rattle.std.proofs.Common.{sym, length, vec_len, eqb-true, arith}
use Rattle.std.proofs.lemmas.Bool.{eqb-false}
use Rattle.std.proofs.lemmas.Result.{IfOk-weaker}
use Rattle.cov_types.proofs.AllUses.{uses-members}
use Rattle.cov_types.specs.Uses.{uses_of}
use Rattle.cov_marks.proofs.GapMarks.{no_width, some_fault, none_faultless, marks_places, marks_members}
use Rattle.cov_marks.proofs.marking.marks.Goals as goal

pub returns-then-not-is_empty-clause-exact : goal.returns-then-not-is_empty-clause-exact
returns-then-not-is_empty-clause-exact c =
    let faults = c.in_ok-faults.faults in
    let some = eqb-false (vec_len faults) 0 (sym c.if-not-is_empty.ensures) in
    some_fault (uses_of c.args.c.now) (length c.args.c.now) c.args.gap faults.items (λ none. some (omega (arith, faults.ok, none))) c.in_ok-faults.ensures.exact

pub returns-then-gap-eq0-clause-exact : goal.returns-then-gap-eq0-clause-exact
returns-then-gap-eq0-clause-exact c = no_width (uses_of c.args.c.now) (length c.args.c.now) c.args.gap c.in_ok-faults.faults.items c.if-gap-eq0.true c.in_ok-faults.ensures.exact

pub gap_marks-requires-clause-faultless : goal.gap_marks-requires-clause-faultless
gap_marks-requires-clause-faultless c =
    let faults = c.in_ok-faults.faults in
    let none = eqb-true (vec_len faults) 0 (sym c.if-not-is_empty.ensures) in
    none_faultless (uses_of c.args.c.now) faults.items (omega (arith, faults.ok, none)) c.in_ok-faults.ensures.exact

pub returns-clause-places : goal.returns-clause-places
returns-clause-places c = IfOk-weaker c.gap_marks.result _ _ (λ v are. marks_places (uses_of c.args.c.now) (length c.args.c.now) c.args.gap v.items are) c.gap_marks.ensures

pub returns-clause-members : goal.returns-clause-members
returns-clause-members c = IfOk-weaker c.gap_marks.result _ _ (λ v are. marks_members (uses_of c.args.c.now) (length c.args.c.now) c.args.gap v.items (uses-members c.args.c.now) are) c.gap_marks.ensures
