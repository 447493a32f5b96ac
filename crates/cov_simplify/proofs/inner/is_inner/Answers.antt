use Rattle.std.proofs.Common.{pos, rules}
use Rattle.std.proofs.lemmas.Bool.{leb-true, le-leb}
use Rattle.cov_types.specs.declared.coord.Coord.{Coord}
use Rattle.cov_simplify.proofs.InnerLines.{inner_is}
use Rattle.cov_simplify.proofs.SidedLines.{among_edges, ends_apart}
use Rattle.cov_simplify.proofs.inner.is_inner.Goals as goal

abbrev origin : Coord
origin = record { x = pos 0; y = pos 0 }

pub place_of-requires-clause-among : goal.place_of-requires-clause-among
place_of-requires-clause-among c = among_edges c.args.edges.now c.args.points.now c.requires.line origin c.in-Some.edge c.in-Some.ensures.ends

pub returns-in-Some : goal.returns-in-Some
returns-in-Some c = λ uses odd counted.
    let by = inner_is uses c.args.edges.now odd c.args.counts.now counted c.args.points.now c.requires.line origin c.place_of.result c.in-Some.edge c.in-Some.ensures.ends c.place_of.ensures in
    (λ two. by.0 (leb-true 2 _ two), λ inner. le-leb 2 _ (by.1 inner))

pub returns-in-None : goal.returns-in-None
returns-in-None c = λ uses odd counted. absurd (ends_apart c.args.edges.now c.args.points.now c.requires.line origin ((c.in-None.ensures.same).0 (search rules)))
