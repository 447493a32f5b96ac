use Rattle.std.proofs.Common.{sym, subst}
use Rattle.half_edge.proofs.Counts.{next_begins, next_within}
use Rattle.half_edge.proofs.Reading.{next_at, planar_of, distinct_of}
use Rattle.sector_laws.specs.Sector.{IsNextNumber}
use Rattle.sector_laws.proofs.Numbers.{sides_joined, one_next_number, next_of_one_number}
use Rattle.half_edge.proofs.arena.Arena.next.Goals as goal

pub returns-clause-next : goal.returns-clause-next
returns-clause-next c =
    subst (λ m. IsNextNumber c.args.self.now c.args.h m) (sym c.number.ensures)
    (next_at c.self.inside.edges.items c.args.self.now c.self.inside.next.items c.args.h c.index.result.now c.self.invariant c.self.view_is c.requires.within c.index.ensures)

pub returns-clause-within : goal.returns-clause-within
returns-clause-within c = next_within c.args.self.now c.args.h c.number.result (returns-clause-next c)

pub returns-clause-only : goal.returns-clause-only
returns-clause-only c =
    let planar = planar_of c.self.inside.edges.items c.args.self.now c.self.inside.next.items c.self.invariant c.self.view_is in
    let distinct = distinct_of c.self.inside.edges.items c.args.self.now c.self.inside.next.items c.self.invariant c.self.view_is in
    λ m next. one_next_number c.args.self.now planar distinct c.args.h m c.number.result next (returns-clause-next c)

pub returns-clause-one_to_one : goal.returns-clause-one_to_one
returns-clause-one_to_one c =
    let planar = planar_of c.self.inside.edges.items c.args.self.now c.self.inside.next.items c.self.invariant c.self.view_is in
    let distinct = distinct_of c.self.inside.edges.items c.args.self.now c.self.inside.next.items c.self.invariant c.self.view_is in
    λ k next. next_of_one_number c.args.self.now planar distinct k c.args.h c.number.result next (returns-clause-next c)

pub returns-clause-begins : goal.returns-clause-begins
returns-clause-begins c = next_begins c.args.self.now c.args.h c.number.result (returns-clause-next c)

pub returns-clause-joined : goal.returns-clause-joined
returns-clause-joined c =
    let planar = planar_of c.self.inside.edges.items c.args.self.now c.self.inside.next.items c.self.invariant c.self.view_is in
    sides_joined c.args.self.now planar c.args.h c.number.result (returns-clause-next c)
