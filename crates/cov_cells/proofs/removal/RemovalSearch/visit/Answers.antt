use Rattle.std.proofs.Common.{◌<◌, ◌∙◌, sym, subst, ℕ}
use Rattle.cov_types.specs.declared.coord.Coord.{Coord}
use Rattle.cov_cells.specs.Slots.{StandsIn}
use Rattle.cov_cells.proofs.Living.{slot_has, slot_lacks, goes_on}
use Rattle.cov_cells.proofs.removal.RemovalSearch.visit.Goals as goal

pub returns-then-eq-clause-among : goal.returns-then-eq-clause-among
returns-then-eq-clause-among g c boxes among =
    let s = c.args.self.now in
    let k = c.args.k in
    let within = subst (λ (n : ℕ). k < n) c.requires.1.2.cells.count c.requires.2 in
    let has = slot_has s.slots.items k c.index.result.now s.point within c.index.ensures (sym c.eq.ensures ∙ c.if-eq.true) in
    (among.0, among.1, goes_on g.B.Begin.slots s.slots.items g.B.Begin.point k boxes (subst (λ (p : Coord). StandsIn s.slots.items k p) among.0 has) among.2)

pub returns-else-eq-clause-settled : goal.returns-else-eq-clause-settled
returns-else-eq-clause-settled g c =
    let s = c.args.self.now in
    let lacks = slot_lacks s.slots.items c.args.k c.index.result.now s.point c.index.ensures (sym c.eq.ensures ∙ c.if-eq.false) in
    subst (λ (p : Coord). ¬ StandsIn s.slots.items c.args.k p) c.requires.1.0 lacks
