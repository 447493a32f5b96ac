use Rattle.std.proofs.Common.{◌≡◌, ◌∙◌, List, length, subst}
use Rattle.cov_types.proofs.AllUses.{uses-members}
use Rattle.cov_types.specs.Uses.{uses_of}
use Rattle.cov_types.specs.declared.edge_use.EdgeUse.{EdgeUse}
use Rattle.cov_valid.proofs.MarksSoFar.{AreMarksBy-places, AreMarksBy-members}
use Rattle.cov_valid.proofs.validator.marks.Goals as goal
use Rattle.cov_valid.specs.Kinds.{IsFaultOf}
use Rattle.cov_valid.specs.Marks.{AreFaultMarks}

pub returns-clause-exact : goal.returns-clause-exact
returns-clause-exact c =
    let same : c.deref.result.now ≡ uses_of c.args.c.now = c.deref.ensures.value ∙ c.in_ok-outline.ensures.uses in
    subst (λ (us : List EdgeUse). AreFaultMarks us c.in_ok-list.list.items) same c.in_ok-list.ensures

pub returns-clause-places : goal.returns-clause-places
returns-clause-places c = AreMarksBy-places (IsFaultOf (uses_of c.args.c.now)) (uses_of c.args.c.now) c.in_ok-list.list.items (returns-clause-exact c)

pub returns-clause-members : goal.returns-clause-members
returns-clause-members c = AreMarksBy-members (IsFaultOf (uses_of c.args.c.now)) (uses_of c.args.c.now) (length c.args.c.now) c.in_ok-list.list.items (uses-members c.args.c.now) (returns-clause-exact c)
