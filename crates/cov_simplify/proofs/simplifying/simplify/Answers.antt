use Rattle.std.proofs.Common.{◌≡◌, sym, subst}
use Rattle.cov_types.specs.Coverage.{Members, AllInRange, IsFormed}
use Rattle.cov_types.specs.Uses.{uses_of}
use Rattle.plane.specs.Validity.{IsValid}
use Rattle.greedy_run.specs.Run.{IsSimplified}
use Rattle.removal_laws.proofs.RunStates.{simplified_valid}
use Rattle.cov_simplify.specs.KeptLines.{AreNodesKept, AreLinesKept}
use Rattle.cov_simplify.proofs.KeptLines.{nodes_kept, lines_kept}
use Rattle.cov_simplify.proofs.Simplified.{simplified_as, simplified_formed}
use Rattle.cov_simplify.proofs.simplifying.simplify.Goals as goal

pub removed_from-requires-clause-in_range : goal.removed_from-requires-clause-in_range
removed_from-requires-clause-in_range c = subst AllInRange (sym c.coverage.ensures.coverage) c.coverage.ensures.formed.in_range

pub removed_from-requires-clause-valid : goal.removed_from-requires-clause-valid
removed_from-requires-clause-valid c = subst (λ (ms : Members). IsValid (uses_of ms)) (sym c.coverage.ensures.coverage) c.coverage.ensures.valid

pub known-requires-clause-formed : goal.known-requires-clause-formed
known-requires-clause-formed c =
    let out : Members = c.in_ok-simplified.simplified in
    let same : IsSimplified c.args.v c.args.tolerance c.args.inner out =
    simplified_as c.args.v c.coverage.result.now c.into_coverage.result c.args.tolerance c.args.inner c.in_ok-removed.removed.items c.deref.result.now out c.coverage.ensures.coverage c.into_coverage.ensures.coverage c.deref.ensures.value
    c.in_ok-simplified.ensures c.in_ok-removed.ensures in
    simplified_formed c.args.v c.args.tolerance c.args.inner out c.coverage.ensures.formed c.coverage.ensures.valid same

pub known-requires-clause-valid : goal.known-requires-clause-valid
known-requires-clause-valid c =
    let out : Members = c.in_ok-simplified.simplified in
    let same : IsSimplified c.args.v c.args.tolerance c.args.inner out =
    simplified_as c.args.v c.coverage.result.now c.into_coverage.result c.args.tolerance c.args.inner c.in_ok-removed.removed.items c.deref.result.now out c.coverage.ensures.coverage c.into_coverage.ensures.coverage c.deref.ensures.value
    c.in_ok-simplified.ensures c.in_ok-removed.ensures in
    (simplified_valid c.args.v c.args.tolerance c.args.inner out c.coverage.ensures.formed.in_range c.coverage.ensures.valid same).0

pub returns-clause-simplified : goal.returns-clause-simplified
returns-clause-simplified c =
    let out : Members = c.in_ok-simplified.simplified in
    let same : IsSimplified c.args.v c.args.tolerance c.args.inner out =
    simplified_as c.args.v c.coverage.result.now c.into_coverage.result c.args.tolerance c.args.inner c.in_ok-removed.removed.items c.deref.result.now out c.coverage.ensures.coverage c.into_coverage.ensures.coverage c.deref.ensures.value
    c.in_ok-simplified.ensures c.in_ok-removed.ensures in
    subst (λ (ms : Members). IsSimplified c.args.v c.args.tolerance c.args.inner ms) (sym c.known.ensures) same

pub returns-clause-valid : goal.returns-clause-valid
returns-clause-valid c =
    let out : Members = c.in_ok-simplified.simplified in
    let same : IsSimplified c.args.v c.args.tolerance c.args.inner out =
    simplified_as c.args.v c.coverage.result.now c.into_coverage.result c.args.tolerance c.args.inner c.in_ok-removed.removed.items c.deref.result.now out c.coverage.ensures.coverage c.into_coverage.ensures.coverage c.deref.ensures.value
    c.in_ok-simplified.ensures c.in_ok-removed.ensures in
    subst (λ (ms : Members). IsValid (uses_of ms)) (sym c.known.ensures) (simplified_valid c.args.v c.args.tolerance c.args.inner out c.coverage.ensures.formed.in_range c.coverage.ensures.valid same).0

pub returns-clause-formed : goal.returns-clause-formed
returns-clause-formed c =
    let out : Members = c.in_ok-simplified.simplified in
    let same : IsSimplified c.args.v c.args.tolerance c.args.inner out =
    simplified_as c.args.v c.coverage.result.now c.into_coverage.result c.args.tolerance c.args.inner c.in_ok-removed.removed.items c.deref.result.now out c.coverage.ensures.coverage c.into_coverage.ensures.coverage c.deref.ensures.value
    c.in_ok-simplified.ensures c.in_ok-removed.ensures in
    subst IsFormed (sym c.known.ensures) (simplified_formed c.args.v c.args.tolerance c.args.inner out c.coverage.ensures.formed c.coverage.ensures.valid same)

pub returns-clause-nodes : goal.returns-clause-nodes
returns-clause-nodes c =
    let out : Members = c.in_ok-simplified.simplified in
    let same : IsSimplified c.args.v c.args.tolerance c.args.inner out =
    simplified_as c.args.v c.coverage.result.now c.into_coverage.result c.args.tolerance c.args.inner c.in_ok-removed.removed.items c.deref.result.now out c.coverage.ensures.coverage c.into_coverage.ensures.coverage c.deref.ensures.value
    c.in_ok-simplified.ensures c.in_ok-removed.ensures in
    subst (AreNodesKept c.args.v) (sym c.known.ensures) (nodes_kept c.args.v c.args.tolerance c.args.inner out c.coverage.ensures.formed.in_range c.coverage.ensures.valid same)

pub returns-clause-lines : goal.returns-clause-lines
returns-clause-lines c =
    let out : Members = c.in_ok-simplified.simplified in
    let same : IsSimplified c.args.v c.args.tolerance c.args.inner out =
    simplified_as c.args.v c.coverage.result.now c.into_coverage.result c.args.tolerance c.args.inner c.in_ok-removed.removed.items c.deref.result.now out c.coverage.ensures.coverage c.into_coverage.ensures.coverage c.deref.ensures.value
    c.in_ok-simplified.ensures c.in_ok-removed.ensures in
    subst (AreLinesKept c.args.v) (sym c.known.ensures) (lines_kept c.args.v c.args.tolerance c.args.inner out c.coverage.ensures.formed.in_range c.coverage.ensures.valid same)
