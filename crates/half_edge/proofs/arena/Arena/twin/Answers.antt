use Rattle.std.proofs.Common.{◌∙◌, sym, ap, subst, length, ◌*◌, ◌<◌}
use Rattle.half_edge.specs.Side.{across}
use Rattle.sector_laws.specs.Sector.{twin, IsHalfEdge}
use Rattle.half_edge.proofs.arena.Arena.twin.Goals as goal

pub returns-clause-within : goal.returns-clause-within
returns-clause-within c =
    let within = c.twin.ensures.within (length c.args.self.now) (subst (λ n. n < 2 * length c.args.self.now) (sym c.of_number.ensures) c.requires.within) in
    subst (λ n. n < 2 * length c.args.self.now) (sym c.number.ensures) within

pub returns-clause-across : goal.returns-clause-across
returns-clause-across c = c.number.ensures ∙ c.twin.ensures.across ∙ ap across c.of_number.ensures

pub returns-clause-opposite : goal.returns-clause-opposite
returns-clause-opposite c =
    λ g at.
    subst (λ n. IsHalfEdge c.args.self.now n (twin g)) (sym c.number.ensures)
    (c.twin.ensures.opposite c.args.self.now g (subst (λ n. IsHalfEdge c.args.self.now n g) (sym c.of_number.ensures) at))
